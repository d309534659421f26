-- The wanted instances of an entity are listed by wanted containers.
use Rattle.std.proofs.Common.{◌≡◌, ◌⊎◌, inl, inr, ℕ, ◌+◌, ◌-◌, ◌<◌, ◌≤◌, Bool, true, false, cond, List, [], ◌∷◌, ◌++◌, length, get_or, map, filter, Option, None, Some, refl, sym, ◌∙◌, ap, arith}
use Rattle.std.specs.Prelude.{unwrap_or, zero, suc}
use Rattle.std.specs.List.{list_any}
use Rattle.std.specs.FinMap.{get}
use Rattle.std.proofs.lemmas.Bool.{cases_lt, or_right, or_left}
use Rattle.std.proofs.lemmas.List.Elements.{filter-append}
use Rattle.opa_model.specs.declared.ids.RelId.{RelId}
use Rattle.opa_cells.specs.declared.instance.InstanceId.{InstanceId}
use Rattle.opa_cells.specs.Instances.{global, named, is_text}
use Rattle.opa_case.specs.Cases.{CaseView, stored, list_of}
use Rattle.opa_case.specs.Fits.{Known}
use Rattle.opa_case.specs.Instances.{AreInstances, listed_by}
use Rattle.opa_case.specs.Live.{Names, Lists, Population, members, container_of}
use Rattle.opa_case.specs.Shapes.{Shape, IsShape, shape_of}
use Rattle.opa_case.proofs.Kept.{stands}
use Rattle.opa_case.proofs.Losing.{is_every}
use Rattle.opa_case.proofs.Peopled.{contained_members, got_last, got_before, more_length}
use Rattle.opa_case.proofs.Shaped.{shape_is}
use Rattle.opa_case.proofs.Stands.{either_has, in_upto, text_itself}
use Rattle.opa_tree.specs.declared.rulebase.Rulebase.{Rulebase}
use Rattle.opa_mean.specs.Rulebases.{IsOf}
use Rattle.opa_session.specs.Telling.Placed.{HaveNames}
use Rattle.opa_session.specs.Telling.Wanted.{IsClosed, wanted_listed, AreAmong}

module _ (w : InstanceId → Bool) where
  pub wanted_flat : (l : Lists) (r : RelId) (e : ℕ) (cs : List InstanceId) → filter w (listed_by l r e cs) ≡ wanted_listed w l r e cs
  wanted_flat l r e [] = refl
  wanted_flat l r e (c ∷ cs) = filter-append w (map (named e) (unwrap_or (l r c) [])) (listed_by l r e cs) ∙ ap (λ is. filter w (map (named e) (unwrap_or (l r c) [])) ++ is) (wanted_flat l r e cs)

  -- containers that aren't wanted list none that are
  pub wanted_containers : (l : Lists) (r : RelId) (e : ℕ) (cs : List InstanceId) → ((c : InstanceId) → w c ≡ false → filter w (map (named e) (unwrap_or (l r c) [])) ≡ []) → wanted_listed w l r e (filter w cs) ≡ wanted_listed w l r e cs
  wanted_containers l r e [] none = refl
  wanted_containers l r e (c ∷ cs) none = go (w c) refl (wanted_containers l r e cs none)
    where
      go : (b : Bool) → w c ≡ b → wanted_listed w l r e (filter w cs) ≡ wanted_listed w l r e cs → wanted_listed w l r e (cond b (c ∷ filter w cs) (filter w cs)) ≡ filter w (map (named e) (unwrap_or (l r c) [])) ++ wanted_listed w l r e cs
      go true q rec = ap (λ is. filter w (map (named e) (unwrap_or (l r c) [])) ++ is) rec
      go false q rec = rec ∙ sym (ap (λ is. is ++ wanted_listed w l r e cs) (none c q))

  none_named : (e : ℕ) (names : Names) → ((n : List ℕ) → list_any (is_text n) names ≡ true → w (named e n) ≡ false) → filter w (map (named e) names) ≡ []
  none_named e [] none = refl
  none_named e (n ∷ names) none =
      ap (λ b. cond b (named e n ∷ filter w (map (named e) names)) (filter w (map (named e) names))) (none n (or_left (is_text n n) (list_any (is_text n) names) (text_itself n)))
      ∙ none_named e names (λ m h. none m (or_right (is_text m n) (list_any (is_text m) names) h))

module _ (r : Rulebase) (c : CaseView) (is : IsOf r c) where
  abbrev s : Shape
  s = shape_of r.model

  shape : IsShape s
  shape = shape_is r.model is.is_model

  -- a known containment list is no list of an `every` relation
  known : (e : ℕ) → 0 < e → e < s.count → (j : InstanceId) (names : Names) → list_of c (s.contained e) j ≡ Some names → Known c.lists (s.contained e) j names
  known e pos lt j names h = go (either_has (get c.lists ((s.contained e).0, j)) (get c.every ((s.contained e).0, j)) names h)
    where
      go : (get c.lists ((s.contained e).0, j) ≡ Some names) ⊎ (get c.every ((s.contained e).0, j) ≡ Some names) → get c.lists ((s.contained e).0, j) ≡ Some names
      go (inl g) = g
      go (inr g) =
          let isit : s.every (s.contained e) ≡ true = is_every s (stored c.lists) (s.contained e).0 j names (sym (ap (λ m. get m ((s.contained e).0, j)) is.fits.every) ∙ g) in
          absurd (cc (shape.every (s.contained e) isit, shape.contains e pos lt))

  -- what is listed stands in the container
  stands_in : (e : ℕ) → 0 < e → e < s.count → (j : InstanceId) (names : Names) (n : List ℕ) → list_of c (s.contained e) j ≡ Some names → list_any (is_text n) names ≡ true → container_of c.live (named e n) ≡ Some j
  stands_in e pos lt j names n h listed =
      ap (λ k. container_of c.live (named k n)) (sym (shape.target e pos lt))
      ∙ stands s r.ruled shape c is.fits (s.contained e) j names n (shape.contains e pos lt) (known e pos lt j names h) listed

  -- a container is of an earlier entity
  pub falls : (i j : InstanceId) → container_of c.live i ≡ Some j → j.entity.0 < i.entity.0
  falls i j e =
      let up = in_upto s (stored c.lists) (s.count - 1) i j (sym (ap (λ l. container_of l i) is.fits.live) ∙ e) in
      let has = up.2 in
      let inside : i.entity.0 < s.count = omega (arith, up.1, shape.some) in
      let at : j.entity.0 ≡ s.parent i.entity.0 = is.fits.sound.source (s.contained i.entity.0) j has.names has.known ∙ shape.source i.entity.0 up.0 inside in
      omega (arith, at, shape.earlier i.entity.0 up.0 inside)

  -- each name stands once where an entity's are listed
  pub have_names : (e : ℕ) → 0 < e → e < s.count → HaveNames c (s.contained e)
  have_names e pos lt j names h = is.fits.sound.names (s.contained e) j names (known e pos lt j names h)

  parent_is_before : (e : ℕ) → 0 < e → e < s.count → s.parent e < e
  parent_is_before e pos lt = shape.earlier e pos lt

  module _ (w : InstanceId → Bool) (closed : IsClosed c.live w) where
    lists_none : (e : ℕ) → 0 < e → e < s.count → (j : InstanceId) → w j ≡ false → filter w (map (named e) (unwrap_or (list_of c (s.contained e) j) [])) ≡ []
    lists_none e pos lt j off = go (list_of c (s.contained e) j) refl
      where
        go : (o : Option Names) → list_of c (s.contained e) j ≡ o → filter w (map (named e) (unwrap_or o [])) ≡ []
        go None k = refl
        go (Some names) k = none_named w e names (λ n h. not_wanted n (stands_in e pos lt j names n k h) (w (named e n)) refl)
          where
            not_wanted : (n : List ℕ) → container_of c.live (named e n) ≡ Some j → (b : Bool) → w (named e n) ≡ b → w (named e n) ≡ false
            not_wanted n at true q = absurd (cc (off, closed (named e n) j q at))
            not_wanted n at false q = q

    -- the wanted instances of an entity, by the wanted containers
    wanted_members : (e : ℕ) → 0 < e → e < s.count → wanted_listed w (list_of c) (s.contained e) e (filter w (members (s.parent e) c.live)) ≡ filter w (members e c.live)
    wanted_members e pos lt =
        wanted_containers w (list_of c) (s.contained e) e (members (s.parent e) c.live) (λ j off. lists_none e pos lt j off)
        ∙ sym (wanted_flat w (list_of c) (s.contained e) e (members (s.parent e) c.live))
        ∙ ap (filter w) (sym (contained_members s r.ruled shape c is.fits e pos lt))

    -- the next entity's, where those of all earlier ones are listed
    pub wanted_found : (e : ℕ) → 0 < e → e < s.count → (lists : List (List InstanceId)) → AreAmong e c.live w lists → wanted_listed w (list_of c) (s.contained e) e (get_or lists (s.parent e) []) ≡ filter w (members e c.live)
    wanted_found e pos lt lists are = ap (wanted_listed w (list_of c) (s.contained e) e) (are.in_order (s.parent e) (parent_is_before e pos lt)) ∙ wanted_members e pos lt

-- ---- a list for each entity

pub next_among : (live : Population) (w : InstanceId → Bool) (n : ℕ) (old new : List (List InstanceId)) (list : List InstanceId) → AreAmong n live w old → new ≡ old ++ list ∷ [] → list ≡ filter w (members n live) → AreAmong (n + 1) live w new
next_among live w n old new list are is same = record {
  for_each = ap length is ∙ more_length old list ∙ ap (λ k. k + 1) are.for_each;
  in_order = λ e lt. ap (λ xs. get_or xs e []) is ∙ go e lt (cases_lt e n);
}
  where
    go : (e : ℕ) → e < n + 1 → (e < n) ⊎ (n ≤ e) → get_or (old ++ list ∷ []) e [] ≡ filter w (members e live)
    go e lt (inl before) = let k : e < length old = omega (arith, before, are.for_each) in got_before old list e k ∙ are.in_order e before
    go e lt (inr after) = let at : e ≡ length old = omega (arith, lt, after, are.for_each) in let isn : n ≡ e = omega (arith, lt, after) in ap (λ k. get_or (old ++ list ∷ []) k []) at ∙ got_last old list ∙ same ∙ ap (λ k. filter w (members k live)) isn

pub first_among : (live : Population) (w : InstanceId → Bool) (lists : List (List InstanceId)) → lists ≡ filter w (global ∷ []) ∷ [] → AreAmong 1 live w lists
first_among live w lists is = record {
  for_each = ap length is;
  in_order = λ e lt. ap (λ xs. get_or xs e []) is ∙ go e lt;
}
  where
    go : (e : ℕ) → e < 1 → get_or (filter w (global ∷ []) ∷ []) e [] ≡ filter w (members e live)
    go zero lt = refl
    go (suc e) lt = absurd (omega (arith, lt))

all_pass : {X : Type 0} (xs : List X) → filter (λ (x : X). true) xs ≡ xs
all_pass [] = refl
all_pass (x ∷ xs) = ap (λ ys. x ∷ ys) (all_pass xs)

-- where all are wanted
pub among_all : (n : ℕ) (c : CaseView) (lists : List (List InstanceId)) → AreAmong n c.live (λ i. true) lists → AreInstances n c lists
among_all n c lists are = record { for_each = are.for_each; in_order = λ e lt. are.in_order e lt ∙ all_pass (members e c.live) }
