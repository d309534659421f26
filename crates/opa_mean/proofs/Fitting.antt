-- The facts of a case that fits.
use Rattle.std.proofs.Common.{◌≡◌, ◌⊎◌, inl, inr, ◌↔◌, ℕ, ◌-◌, ◌<◌, List, [], ◌∷◌, Bool, true, false, cond, Option, None, Some, Contains, refl, sym, ◌∙◌, ap, subst, arith}
use Rattle.std.specs.Prelude.{map, nat_lt, ◌||◌, ◌&&◌}
use Rattle.std.specs.List.{list_any, list_all, AllByRecursion}
use Rattle.std.specs.Option.{option_map, option_or}
use Rattle.std.specs.FinMap.{get}
use Rattle.std.proofs.lemmas.Bool.{and_parts, lt-ltb, or_right, or_left}
use Rattle.opa_io.proofs.Lists.{each_weaker}
use Rattle.opa_model.specs.declared.ids.RelId.{RelId}
use Rattle.opa_cells.specs.declared.instance.InstanceId.{InstanceId}
use Rattle.opa_cells.specs.Instances.{is_same, is_text, global, named}
use Rattle.opa_cells.proofs.Orders.{same_is, same_itself}
use Rattle.opa_case.specs.Cases.{CaseView, stored, list_of}
use Rattle.opa_case.specs.Fits.{Fits}
use Rattle.opa_case.specs.Live.{Names, Population, live_of, is_live, container_of, walk}
use Rattle.opa_case.specs.Shapes.{Shape, IsShape}
use Rattle.opa_case.proofs.Losing.{every_at, get-every, is_every}
use Rattle.opa_case.proofs.Stands.{either_has, container_found, in_upto, has_live, lookup_found}
use Rattle.opa_case.proofs.Walks.{walk_live, same_walk, each_listed}
use Rattle.opa_tree.proofs.Members.{none_in, contains_head, contains_tail, contains_cases}
use Rattle.opa_mean.specs.Completion.{IsContained, AreFacts}
use Rattle.opa_mean.specs.Given.{facts_of}

any_in : (i : InstanceId) (live : Population) → list_any (λ p. is_same i p.0) live ≡ true → Contains (map (λ (p : InstanceId × InstanceId). p.0) live) i
any_in i [] h = absurd (cc h)
any_in i (p ∷ live) h = go (is_same i p.0) refl (any_in i live)
  where
    go : (b : Bool) → is_same i p.0 ≡ b → (list_any (λ p. is_same i p.0) live ≡ true → Contains (map (λ (p : InstanceId × InstanceId). p.0) live) i) → Contains (map (λ (p : InstanceId × InstanceId). p.0) (p ∷ live)) i
    go true e rest = subst (λ (j : InstanceId). Contains (map (λ (p : InstanceId × InstanceId). p.0) (p ∷ live)) j) (sym (same_is i p.0 e)) (contains_head p.0 (map (λ (p : InstanceId × InstanceId). p.0) live))
    go false e rest = contains_tail p.0 i (map (λ (p : InstanceId × InstanceId). p.0) live) (rest (sym (ap (λ b. b || list_any (λ p. is_same i p.0) live) e) ∙ h))

in_any : (i : InstanceId) (live : Population) → Contains (map (λ (p : InstanceId × InstanceId). p.0) live) i → list_any (λ p. is_same i p.0) live ≡ true
in_any i [] h = absurd (none_in i h)
in_any i (p ∷ live) h = go (contains_cases p.0 i (map (λ (p : InstanceId × InstanceId). p.0) live) h) (in_any i live)
  where
    go : (p.0 ≡ i) ⊎ Contains (map (λ (p : InstanceId × InstanceId). p.0) live) i → (Contains (map (λ (p : InstanceId × InstanceId). p.0) live) i → list_any (λ p. is_same i p.0) live ≡ true) → list_any (λ p. is_same i p.0) (p ∷ live) ≡ true
    go (inl e) rest = or_left (is_same i p.0) (list_any (λ p. is_same i p.0) live) (ap (λ j. is_same i j) e ∙ same_itself i)
    go (inr there) rest = or_right (is_same i p.0) (list_any (λ p. is_same i p.0) live) (rest there)

-- an instance is live by the case exactly where it is one of its facts' instances
pub live_in : (c : CaseView) (i : InstanceId) → is_live c.live i ≡ true → Contains (facts_of c).instances i
live_in c i h = go (is_same i global) refl
  where
    go : (b : Bool) → is_same i global ≡ b → Contains (facts_of c).instances i
    go true e = subst (λ (j : InstanceId). Contains (facts_of c).instances j) (sym (same_is i global e)) (contains_head global (map (λ (p : InstanceId × InstanceId). p.0) c.live))
    go false e = contains_tail global i (map (λ (p : InstanceId × InstanceId). p.0) c.live) (any_in i c.live (sym (ap (λ b. b || list_any (λ p. is_same i p.0) c.live) e) ∙ h))

pub in_live : (c : CaseView) (i : InstanceId) → Contains (facts_of c).instances i → is_live c.live i ≡ true
in_live c i h = go (contains_cases global i (map (λ (p : InstanceId × InstanceId). p.0) c.live) h)
  where
    go : (global ≡ i) ⊎ Contains (map (λ (p : InstanceId × InstanceId). p.0) c.live) i → is_live c.live i ≡ true
    go (inl e) = or_left (is_same i global) (list_any (λ p. is_same i p.0) c.live) (ap (λ j. is_same i j) e ∙ same_itself i)
    go (inr there) = or_right (is_same i global) (list_any (λ p. is_same i p.0) c.live) (in_any i c.live there)

all_tested : (p : List ℕ → Bool) (names : Names) → list_all p names ≡ true → AllByRecursion (λ n. p n ≡ true) names
all_tested p [] h = tt
all_tested p (n ∷ names) h = let both = and_parts _ _ h in (both.0, all_tested p names both.1)

module _ (s : Shape) (shape : IsShape s) (declared : (r : RelId) → s.every r ≡ true → r.0 < s.relations) (ruled : List Bool) (c : CaseView) (fits : Fits s ruled c) where
  abbrev Alive : InstanceId → Type 0
  Alive i = is_live c.live i ≡ true

  by_lists : (i : InstanceId) → Alive i → is_live (live_of s (stored c.lists)) i ≡ true
  by_lists i h = sym (ap (λ l. is_live l i) fits.live) ∙ h

  from_lists : (i : InstanceId) → is_live (live_of s (stored c.lists)) i ≡ true → Alive i
  from_lists i h = ap (λ l. is_live l i) fits.live ∙ h

  only_global : (i : InstanceId) → Alive i → i.entity.0 ≡ 0 → i ≡ global
  only_global i live e = go (is_same i global) refl
    where
      go : (b : Bool) → is_same i global ≡ b → i ≡ global
      go true h = same_is i global h
      go false h =
          let found = lookup_found (is_same i) (live_of s (stored c.lists)) (sym (ap (λ b. b || list_any (λ p. is_same i p.0) (live_of s (stored c.lists))) h) ∙ by_lists i live) in
          absurd (omega (arith, e, (in_upto s (stored c.lists) (s.count - 1) i found.0 found.1).0))

  uncontained : container_of c.live global ≡ None
  uncontained = ap (λ l. container_of l global) fits.live ∙ go (container_of (live_of s (stored c.lists)) global) refl
    where
      go : (o : Option InstanceId) → container_of (live_of s (stored c.lists)) global ≡ o → container_of (live_of s (stored c.lists)) global ≡ None
      go None e = e
      go (Some d) e = absurd (omega (arith, (in_upto s (stored c.lists) (s.count - 1) global d e).0))

  contained : (i : InstanceId) → Alive i → 0 < i.entity.0 → IsContained s (facts_of c) i
  contained i live pos =
      let found = container_found s (stored c.lists) i pos (by_lists i live) in
      let has = found.2 in
      let bound = (in_upto s (stored c.lists) (s.count - 1) i found.0 found.1).1 in
      let inside : i.entity.0 < s.count = omega (arith, bound, shape.some) in
      record {
        container = found.0;
        is = ap (λ l. container_of l i) fits.live ∙ found.1;
        is_live = live_in c found.0 (fits.listed (s.contained i.entity.0) found.0 has.names has.known);
        of_parent = fits.sound.source (s.contained i.entity.0) found.0 has.names has.known ∙ shape.source i.entity.0 pos inside;
      }

  -- the names of a list that isn't of an `every` relation are live
  stored_live : (r : RelId) (i : InstanceId) (names : Names) → get c.lists (r.0, i) ≡ Some names → AllByRecursion (λ n. Alive (named (s.target r) n)) names
  stored_live r i names g = go (s.contains r) refl
    where
      go : (b : Bool) → s.contains r ≡ b → AllByRecursion (λ n. Alive (named (s.target r) n)) names
      go false e = all_tested (λ n. is_live c.live (named (s.target r) n)) names (fits.referred r i names g e)
      go true e =
          let own = shape.no_other r e in let bounds = shape.target_in r e in
          let at : i.entity.0 ≡ s.parent (s.target r) = fits.sound.source r i names g ∙ ap s.source own ∙ shape.source (s.target r) bounds.0 bounds.1 in
          each_weaker (λ n. list_any (is_text n) names ≡ true) (λ n. Alive (named (s.target r) n))
          (λ n h. from_lists (named (s.target r) n) (has_live s (stored c.lists) shape (s.target r) n i names bounds.0 bounds.1 (by_lists i (fits.listed r i names g)) at (ap (λ q. stored c.lists q i) (sym own) ∙ g) h)) names (each_listed names)

  -- a list of all instances has what the Walk has
  abbrev walked : RelId → Option (List InstanceId)
  walked r = walk s (stored c.lists) s.count (s.target r)

  every_is : (r : RelId) (i : InstanceId) → get c.every (r.0, i) ≡ cond (nat_lt r.0 s.relations) (every_at s (stored c.lists) r.0 i) None
  every_is r i = ap (λ m. get m (r.0, i)) fits.every ∙ get-every s (stored c.lists) s.relations r.0 i

  names_of : List InstanceId → Names
  names_of is = map (λ i. i.name) is

  every_live : (r : RelId) (i : InstanceId) (names : Names) → get c.every (r.0, i) ≡ Some names → AllByRecursion (λ n. Alive (named (s.target r) n)) names
  every_live r i names g = go (nat_lt r.0 s.relations) (s.every r && is_same i global) (walked r) refl (sym (every_is r i) ∙ g)
    where
      each_live : (is : List InstanceId) → AllByRecursion (λ j. (is_live (live_of s (stored c.lists)) j ≡ true) × (j.entity.0 ≡ s.target r)) is → AllByRecursion (λ n. Alive (named (s.target r) n)) (map (λ j. j.name) is)
      each_live [] h = tt
      each_live (j ∷ is) h = (subst Alive (ap (λ e. named e j.name) h.0.1) (from_lists j h.0.0), each_live is h.1)

      go : (b t : Bool) (o : Option (List InstanceId)) → walked r ≡ o → cond b (cond t (option_map (λ is. map (λ j. j.name) is) o) None) None ≡ Some names → AllByRecursion (λ n. Alive (named (s.target r) n)) names
      go false t o e h = absurd (cc h)
      go true false o e h = absurd (cc h)
      go true true None e h = absurd (cc h)
      go true true (Some is) e h =
          let same : map (λ (j : InstanceId). j.name) is ≡ names = cc h in
          let inside = shape.inside r in
          subst (AllByRecursion (λ n. Alive (named (s.target r) n))) same (each_live is (walk_live s shape (stored c.lists) s.count (s.target r) (omega (arith, inside)) inside is e))

  listed : (r : RelId) (i : InstanceId) (names : Names) → list_of c r i ≡ Some names → AllByRecursion (λ n. Alive (named (s.target r) n)) names
  listed r i names h = go (either_has (get c.lists (r.0, i)) (get c.every (r.0, i)) names h)
    where
      go : (get c.lists (r.0, i) ≡ Some names) ⊎ (get c.every (r.0, i) ≡ Some names) → AllByRecursion (λ n. Alive (named (s.target r) n)) names
      go (inl g) = stored_live r i names g
      go (inr g) = every_live r i names g

  -- containment lists aren't of `every` relations
  agrees : (e : ℕ) (j : InstanceId) → 0 < e → e < s.count → stored c.lists (s.contained e) j ≡ list_of c (s.contained e) j
  agrees e j pos lt = go (get c.lists ((s.contained e).0, j)) (get c.every ((s.contained e).0, j)) refl
    where
      go : (o p : Option Names) → get c.every ((s.contained e).0, j) ≡ p → o ≡ option_or o p
      go (Some names) p k = refl
      go None None k = refl
      go None (Some ns) k =
          let isit : s.every (s.contained e) ≡ true = is_every s (stored c.lists) (s.contained e).0 j ns (sym (ap (λ m. get m ((s.contained e).0, j)) fits.every) ∙ k) in
          absurd (cc (shape.every (s.contained e) isit, shape.contains e pos lt))

  walks : (r : RelId) → walked r ≡ walk s (list_of c) s.count (s.target r)
  walks r = let inside = shape.inside r in same_walk s shape (stored c.lists) (list_of c) (λ e j pos lt live. agrees e j pos lt) s.count (s.target r) (omega (arith, inside)) inside

  every_list : (r : RelId) → s.every r ≡ true → list_of c r global ≡ option_map (λ is. map (λ (j : InstanceId). j.name) is) (walked r)
  every_list r e = ap (λ o. option_or o (get c.every (r.0, global))) none ∙ every_is r global ∙ ap (λ b. cond b (every_at s (stored c.lists) r.0 global) None) (lt-ltb r.0 s.relations (declared r e))
      ∙ ap (λ b. cond (b && is_same global global) (option_map (λ is. map (λ (j : InstanceId). j.name) is) (walked r)) None) e ∙ ap (λ b. cond b (option_map (λ is. map (λ (j : InstanceId). j.name) is) (walked r)) None) (same_itself global)
    where
      none : get c.lists (r.0, global) ≡ None
      none = go (get c.lists (r.0, global)) refl
        where
          go : (o : Option Names) → get c.lists (r.0, global) ≡ o → get c.lists (r.0, global) ≡ None
          go None k = k
          go (Some names) k = absurd (cc (fits.sound.not_every r global names k, e))

  every : (r : RelId) → s.every r ≡ true → (list_of c r global ≡ None) ↔ (walk s (list_of c) s.count (s.target r) ≡ None)
  every r e = (λ h. sym (walks r) ∙ unknown (walked r) (sym (every_list r e) ∙ h), λ h. every_list r e ∙ ap (option_map (λ is. map (λ (j : InstanceId). j.name) is)) (walks r ∙ h))
    where
      unknown : (o : Option (List InstanceId)) → option_map (λ is. map (λ (j : InstanceId). j.name) is) o ≡ None → o ≡ None
      unknown None h = refl
      unknown (Some is) h = absurd (cc h)

  pub are_facts : AreFacts s (facts_of c)
  are_facts = record {
    has_global = contains_head global (map (λ (p : InstanceId × InstanceId). p.0) c.live);
    only_global = λ i live e. only_global i (in_live c i live) e;
    uncontained = uncontained;
    contained = λ i live pos. contained i (in_live c i live) pos;
    listed = λ r i names h. each_weaker (λ n. Alive (named (s.target r) n)) (λ n. Contains (facts_of c).instances (named (s.target r) n)) (λ n k. live_in c (named (s.target r) n) k) names (listed r i names h);
    every = every;
  }
