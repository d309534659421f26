-- A case is filled with the lists of a file.
use Rattle.std.proofs.Common.{◌≡◌, ◌<◌, ◌+◌, ℕ, Bool, true, false, cond, List, [], ◌∷◌, ◌++◌, map, arith, refl, sym, ap, subst, ◌∙◌, ◌⊎◌, inl, inr}
use Rattle.std.specs.Prelude.{Option, None, Some, Ok}
use Rattle.std.specs.List.{AllByRecursion}
use Rattle.std.specs.FinMap.{FinMap, get, insert, empty, entries, same_map, get-empty, get-entries, find}
use Rattle.std.specs.Ordering.{eq_by_cmp}
use Rattle.std.proofs.lemmas.Map.Views.{tells_apart}
use denote.Ref.{Bor}
use Rattle.opa_io.proofs.Lists.{each_push}
use Rattle.opa_model.specs.declared.ids.RelId.{RelId}
use Rattle.opa_cells.specs.declared.instance.InstanceId.{InstanceId}
use Rattle.opa_cells.specs.Keys.{cell_cmp}
use Rattle.opa_cells.specs.Rows.{seen}
use Rattle.opa_cells.proofs.Orders.{cell_exact, cell_total}
use Rattle.opa_case.specs.Shapes.{Shape, IsShape}
use Rattle.opa_case.specs.Live.{Names, is_live}
use Rattle.opa_case.specs.Cases.{CaseView, no_case, stored}
use Rattle.opa_case.specs.Steps.{rel, set_list}
use Rattle.opa_case.specs.Fits.{Known, Fits}
use Rattle.opa_case.proofs.Among.{early_stays}
use Rattle.opa_case.proofs.Kept.{ok_is}
use Rattle.opa_case.proofs.Empty.{empty_case_fits}
use Rattle.opa_saved.specs.Loading.{case_with}
use Rattle.opa_saved.specs.Building.{AreTaken, HoldsSome, Agrees, OnlyContains, HasBefore, Keeps, TakesList}
use Rattle.opa_saved.proofs.TakenLaws.{placed, more_some, agrees_here, agrees_still}
use Rattle.opa_saved.proofs.SetLaws.{contained_set, contained_only, reference_set_is}

-- what a step leaves
pub record Left (s : Shape) (ruled : List Bool) (all : FinMap cell_cmp Names) (old new : CaseView) (n : ℕ) (i : InstanceId) : Type 0 where
  pub some : HoldsSome s ruled all new
  pub keeps : Keeps all old new
  pub here : Agrees all new n i

module _ (s : Shape) (ruled : List Bool) (shape : IsShape s) (all : FinMap cell_cmp Names) (t : AreTaken s ruled all) (c : CaseView) (h : HoldsSome s ruled all c) where
  abbrev now : CaseView
  now = case_with s c.lists empty

  now_fits : Fits s ruled now
  now_fits = subst (Fits s ruled) h.is h.fits

  -- ---- where nothing is known

  pub agrees_none : (n : ℕ) (i : InstanceId) → get all (n, i) ≡ None → Agrees all c n i
  agrees_none n i none = go (get c.lists (n, i)) refl
    where
      go : (o : Option Names) → get c.lists (n, i) ≡ o → o ≡ get all (n, i)
      go None e = sym none
      go (Some v) e = absurd (let w : ◌≡◌ {A = Option Names} None (Some v) = sym none ∙ h.some (rel n) i v e in cc w)

  -- ---- a list is set

  module _ (r : RelId) (i : InstanceId) (v : Names) (known : Known all r i v) (set : set_list s ruled now r i v ≡ Ok (case_with s (insert c.lists (r.0, i) v) empty)) where
    set_here : set_list s ruled c r i v ≡ Ok (case_with s (insert c.lists (r.0, i) v) empty)
    set_here = ap (λ (x : CaseView). set_list s ruled x r i v) h.is ∙ set

    pub takes : TakesList s ruled c r i v
    takes = (case_with s (insert c.lists (r.0, i) v) empty, set_here)

    is_left : (new : CaseView) → set_list s ruled c r i v ≡ Ok new → new ≡ case_with s (insert c.lists (r.0, i) v) empty
    is_left new e = ok_is new (case_with s (insert c.lists (r.0, i) v) empty) (sym e ∙ set_here)

    pub left : (new : CaseView) → set_list s ruled c r i v ≡ Ok new → Fits s ruled new → Left s ruled all c new r.0 i
    left new e fits =
        let is = is_left new e in
        let l : insert c.lists (r.0, i) v ≡ new.lists = ap (λ (x : CaseView). x.lists) (sym is) in
        record {
          some = record {
            is = is ∙ ap (λ m. case_with s m empty) l;
            some = λ q j w k. more_some s ruled shape all t c.lists h.some r i v known q j w (ap (λ m. get m (q.0, j)) l ∙ k);
            fits = fits;
          };
          keeps = λ n j k. ap (λ m. get m (n, j)) (sym l) ∙ agrees_still s ruled shape all t c.lists h.some r i v known n j k;
          here = ap (λ m. get m (r.0, i)) (sym l) ∙ agrees_here s ruled shape all t c.lists h.some r i v known;
        }

    pub lists_left : (new : CaseView) → set_list s ruled c r i v ≡ Ok new → new.lists ≡ insert c.lists (r.0, i) v
    lists_left new e = ap (λ (x : CaseView). x.lists) (is_left new e)

  -- ---- a list that contains instances of an entity

  module _ (e : ℕ) (pos : 0 < e) (lt : e < s.count) (only : OnlyContains s c) (before : HasBefore s all c e) (i : InstanceId) (v : Names) (known : Known all (s.contained e) i v) where
    alive : is_live now.live i ≡ true
    alive =
        let p = placed s ruled shape all t (s.contained e) i v known in
        early_stays s (stored all) (stored c.lists) e pos lt (λ d j p le. sym (before d j p le)) i (omega (arith, p.source, shape.source e pos lt, shape.earlier e pos lt)) p.live_there

    pub contained_takes : set_list s ruled now (s.contained e) i v ≡ Ok (case_with s (insert c.lists ((s.contained e).0, i) v) empty)
    contained_takes = contained_set s ruled shape all t c.lists h.some (s.contained e) i v known (shape.contains e pos lt) alive now_fits only

    pub only_left : (new : CaseView) → set_list s ruled c (s.contained e) i v ≡ Ok new → OnlyContains s new
    only_left new set q j w k =
        contained_only s ruled shape all t c.lists h.some (s.contained e) i v known (shape.contains e pos lt) alive now_fits only q j w
        (ap (λ m. get m (q.0, j)) (sym (lists_left (s.contained e) i v known contained_takes new set)) ∙ k)

  -- ---- a list that refers

  module _ (before : HasBefore s all c s.count) (r : RelId) (i : InstanceId) (v : Names) (known : Known all r i v) where
    pub reference_takes : s.contains r ≡ false → set_list s ruled now r i v ≡ Ok (case_with s (insert c.lists (r.0, i) v) empty)
    reference_takes other = reference_set_is s ruled shape all t c.lists h.some r i v known other now_fits (λ e d pos lt. before e d pos lt)

    pub contained_there : s.contains r ≡ true → Agrees all c r.0 i
    contained_there con =
        let inside = shape.target_in r con in
        let own : r ≡ s.contained (s.target r) = shape.no_other r con in
        ap (λ (q : RelId). get c.lists (q.0, i)) own ∙ before (s.target r) i inside.0 inside.1 ∙ ap (λ (q : RelId). get all (q.0, i)) (sym own)

-- ---- the same as the program has it

module _ (s : Shape) (ruled : List Bool) (shape : IsShape s) (all : FinMap cell_cmp Names) (t : AreTaken s ruled all) (c : CaseView) (h : HoldsSome s ruled all c) (r : RelId) (i : InstanceId) (v names : Names) (known : get all (r.0, i) ≡ Some v) (copied : names ≡ v) where
  module _ (e : ℕ) (pos : 0 < e) (lt : e < s.count) (only : OnlyContains s c) (before : HasBefore s all c e) (own : r ≡ s.contained e) where
    known_there : Known all (s.contained e) i v
    known_there = ap (λ (q : RelId). get all (q.0, i)) (sym own) ∙ known

    set_there : set_list s ruled (case_with s c.lists empty) r i v ≡ Ok (case_with s (insert c.lists (r.0, i) v) empty)
    set_there = subst (λ (q : RelId). set_list s ruled (case_with s c.lists empty) q i v ≡ Ok (case_with s (insert c.lists (q.0, i) v) empty)) (sym own) (contained_takes s ruled shape all t c h e pos lt only before i v known_there)

    pub one_contained_takes : TakesList s ruled c r i names
    one_contained_takes = subst (TakesList s ruled c r i) (sym copied) (takes s ruled shape all t c h r i v known set_there)

    pub one_contained_left : (new : CaseView) → set_list s ruled c r i names ≡ Ok new → Fits s ruled new → Left s ruled all c new r.0 i × OnlyContains s new
    one_contained_left new set fits =
        let set_v : set_list s ruled c r i v ≡ Ok new = ap (set_list s ruled c r i) (sym copied) ∙ set in (
          left s ruled shape all t c h r i v known set_there new set_v fits,
          only_left s ruled shape all t c h e pos lt only before i v known_there new (ap (λ (q : RelId). set_list s ruled c q i v) (sym own) ∙ set_v),
        )

  module _ (before : HasBefore s all c s.count) (other : s.contains r ≡ false) where
    pub one_reference_takes : TakesList s ruled c r i names
    one_reference_takes = subst (TakesList s ruled c r i) (sym copied) (takes s ruled shape all t c h r i v known (reference_takes s ruled shape all t c h before r i v known other))

    pub one_reference_left : (new : CaseView) → set_list s ruled c r i names ≡ Ok new → Fits s ruled new → Left s ruled all c new r.0 i
    one_reference_left new set fits = left s ruled shape all t c h r i v known (reference_takes s ruled shape all t c h before r i v known other) new (ap (set_list s ruled c r i) (sym copied) ∙ set) fits

-- ---- all cells

pub all_step : {A : Type 0} (P Q : A → Type 0) (xs ys : List A) (x : A) → ys ≡ xs ++ x ∷ [] → ((a : A) → P a → Q a) → AllByRecursion P xs → Q x → AllByRecursion Q ys
all_step P Q xs ys x e f h q = subst (AllByRecursion Q) (sym e) (each_push Q xs x (weaker xs h) q)
  where
    weaker : (zs : List _) → AllByRecursion P zs → AllByRecursion Q zs
    weaker [] k = tt
    weaker (z ∷ zs) k = (f z k.0, weaker zs k.1)

-- what holds of each cell holds of each key that has something
pub found_cell : {X : Type 0} (P : ℕ → InstanceId → Type 0) (cells : List (ℕ × Bor InstanceId × Bor X)) (n : ℕ) (i : InstanceId) (v : X) → AllByRecursion (λ c. P c.0 c.1.now) cells → find cell_cmp (n, i) (map seen cells) ≡ Some v → P n i
found_cell P [] n i v all h = absurd (cc h)
found_cell P (c ∷ cs) n i v all h = go (eq_by_cmp cell_cmp (n, i) (c.0, c.1.now)) refl h (λ g. found_cell P cs n i v all.1 g)
  where
    go : (b : Bool) → eq_by_cmp cell_cmp (n, i) (c.0, c.1.now) ≡ b → cond b (Some c.2.now) (find cell_cmp (n, i) (map seen cs)) ≡ Some v → (find cell_cmp (n, i) (map seen cs) ≡ Some v → P n i) → P n i
    go true e g rest = let k = tells_apart cell_exact (n, i) (c.0, c.1.now) e in subst (λ (x : ℕ × InstanceId). P x.0 x.1) (sym k) all.0
    go false e g rest = rest g

module _ (s : Shape) (ruled : List Bool) (shape : IsShape s) (all : FinMap cell_cmp Names) (t : AreTaken s ruled all) (c : CaseView) (h : HoldsSome s ruled all c) (cells : List (ℕ × Bor InstanceId × Bor Names)) (are : map seen cells ≡ entries all) where
  -- a key at which each cell agrees
  agrees_by : (P : ℕ → Type 0) → AllByRecursion (λ cell. P cell.0 → Agrees all c cell.0 cell.1.now) cells → (n : ℕ) (i : InstanceId) → P n → Agrees all c n i
  agrees_by P done n i p = go (get all (n, i)) refl
    where
      go : (o : Option Names) → get all (n, i) ≡ o → Agrees all c n i
      go None e = agrees_none s ruled shape all t c h n i e
      go (Some v) e = found_cell (λ k j. P k → Agrees all c k j) cells n i v done (ap (find cell_cmp (n, i)) are ∙ sym (get-entries all (n, i)) ∙ e) p

  -- after the lists that contain instances of an entity
  pub has_next : (e : ℕ) (old : CaseView) → HasBefore s all old e → Keeps all old c → AllByRecursion (λ cell. cell.0 ≡ (s.contained e).0 → Agrees all c cell.0 cell.1.now) cells → HasBefore s all c (e + 1)
  has_next e old before keeps done d i pos lt = go (split d e lt)
    where
      split : (a b : ℕ) → a < b + 1 → (a < b) ⊎ (a ≡ b)
      split a b le = grind arith

      go : (d < e) ⊎ (d ≡ e) → Agrees all c (s.contained d).0 i
      go (inl less) = keeps (s.contained d).0 i (before d i pos less)
      go (inr same) = agrees_by (λ n. n ≡ (s.contained e).0) done (s.contained d).0 i (ap (λ k. (s.contained k).0) same)

  -- after all lists
  pub has_all : AllByRecursion (λ cell. Agrees all c cell.0 cell.1.now) cells → c ≡ case_with s all empty
  has_all done = h.is ∙ ap (λ m. case_with s m empty) (same_map cell_total cell_exact c.lists all (λ q. agrees_by (λ n. Unit {0}) (always cells done) q.0 q.1 tt))
    where
      always : (xs : List (ℕ × Bor InstanceId × Bor Names)) → AllByRecursion (λ cell. Agrees all c cell.0 cell.1.now) xs → AllByRecursion (λ cell. Unit {0} → Agrees all c cell.0 cell.1.now) xs
      always [] k = tt
      always (x ∷ xs) k = (λ u. k.0, always xs k.1)

-- the empty case knows some of any lists
pub nothing_held : (s : Shape) (ruled : List Bool) → IsShape s → (all : FinMap cell_cmp Names) (c : CaseView) → c ≡ no_case → HoldsSome s ruled all c
nothing_held s ruled shape all c e = subst (HoldsSome s ruled all) (sym e) (record { is = is; some = λ r i v k. absurd (absent (r.0, i) v k); fits = fits })
  where
    fits : Fits s ruled no_case
    fits = empty_case_fits s ruled shape

    is : no_case ≡ case_with s empty empty
    is k = record { lists = empty; every = fits.every k; answers = empty; live = fits.live k }

    absent : {X : Type 0} (k : ℕ × InstanceId) (x : X) → get (empty {X = X} {R = cell_cmp}) k ≡ Some x → ⊥
    absent k x g = cc (sym (get-empty cell_cmp k) ∙ g)

pub nothing_only : (s : Shape) (c : CaseView) → c ≡ no_case → OnlyContains s c
nothing_only s c e r i v k = absurd (absent (r.0, i) v (ap (λ (x : CaseView). get x.lists (r.0, i)) (sym e) ∙ k))
  where
    absent : (k : ℕ × InstanceId) (x : Names) → get (empty {X = Names} {R = cell_cmp}) k ≡ Some x → ⊥
    absent k x g = cc (sym (get-empty cell_cmp k) ∙ g)
