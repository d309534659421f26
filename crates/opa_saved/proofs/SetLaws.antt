-- A list of a file is set, and nothing that was known goes.
use Rattle.std.proofs.Common.{◌≡◌, ◌<◌, ◌-◌, ℕ, suc, Bool, true, false, cond, List, arith, refl, sym, ap, subst, ◌∙◌, ◌⊎◌, inl, inr}
use Rattle.std.specs.Prelude.{Option, None, Some, Ok, Err, not}
use Rattle.std.specs.List.{list_any}
use Rattle.std.specs.Option.{option_map_or}
use Rattle.std.specs.FinMap.{FinMap, get, insert, empty, retain_keys, same_map, get-empty}
use Rattle.std.proofs.lemmas.Bool.{and_from, or_left}
use Rattle.opa_model.specs.declared.ids.RelId.{RelId}
use Rattle.opa_cells.specs.declared.instance.InstanceId.{InstanceId}
use Rattle.opa_cells.specs.Instances.{is_same, is_text, named}
use Rattle.opa_cells.specs.Keys.{cell_cmp}
use Rattle.opa_cells.proofs.Orders.{cell_exact, cell_total, same_itself, get_kept}
use Rattle.opa_case.specs.declared.change.Refusal.TheVariants.{Limit}
use Rattle.opa_case.specs.Shapes.{Shape, IsShape}
use Rattle.opa_case.specs.Live.{Names, Population, live_of, is_live, container_of}
use Rattle.opa_case.specs.Cases.{CaseView, Answer, stored}
use Rattle.opa_case.specs.Steps.{rel, every_of, stays, settle, cant_name, stands_elsewhere, list_fault, is_full, within, with_list, set_list, listed, unless}
use Rattle.opa_case.specs.Fits.{Known, Fits}
use Rattle.opa_case.proofs.Lively.{same_live}
use Rattle.opa_case.proofs.Stands.{in_upto}
use Rattle.opa_case.proofs.Kept.{inserted}
use Rattle.opa_case.proofs.Referring.{reference_set, reference_fine}
use Rattle.opa_saved.specs.Loading.{case_with, living}
use Rattle.opa_saved.specs.Building.{AreTaken}
use Rattle.opa_saved.proofs.TakenLaws.{tests, tests_make, misplaced_by, any_false, all_stay, all_sound, some_fit, more_some, still_known, more_live}

nothing_kept : (p : ℕ × InstanceId → Bool) → retain_keys (empty {X = Answer} {R = cell_cmp}) p ≡ empty
nothing_kept p = same_map cell_total cell_exact _ _ (λ q. get_kept cell_exact (empty {X = Answer} {R = cell_cmp}) p q ∙ all_stay (p q) (get (empty {X = Answer} {R = cell_cmp}) q) (λ x e. absurd (let none : ◌≡◌ {A = Option Answer} None (Some x) = sym (get-empty cell_cmp q) ∙ e in cc none)))

module _ (s : Shape) (ruled : List Bool) (shape : IsShape s) (all : FinMap cell_cmp Names) (t : AreTaken s ruled all) (m : FinMap cell_cmp Names) (some : (r : RelId) (i : InstanceId) (v : Names) → Known m r i v → Known all r i v)
    (r : RelId) (i : InstanceId) (v : Names) (known : Known all r i v) where
  abbrev now : CaseView
  now = case_with s m empty

  abbrev after : FinMap cell_cmp Names
  after = insert m (r.0, i) v

  abbrev later : Population
  later = live_of s (stored after)

  later_fit : is_full s ruled later ≡ false
  later_fit = some_fit s ruled shape all t after (more_some s ruled shape all t m some r i v known)

  -- ---- a list that contains

  module _ (con : s.contains r ≡ true) (alive : is_live now.live i ≡ true) where
    not_elsewhere : (n : List ℕ) → list_any (is_text n) v ≡ true → stands_elsewhere now.live i (named (s.target r) n) ≡ false
    not_elsewhere n listed_there = go (container_of now.live (named (s.target r) n)) refl
      where
        own : s.contained (s.target r) ≡ r
        own = sym (shape.no_other r con)

        go : (o : Option InstanceId) → container_of now.live (named (s.target r) n) ≡ o → option_map_or (λ c. not (is_same c i)) o false ≡ false
        go None e = refl
        go (Some d) e =
            let has = (in_upto s (stored m) (s.count - 1) (named (s.target r) n) d e).2 in
            let there : Known all r d has.names = some r d has.names (ap (λ q. stored m q d) (sym own) ∙ has.known) in
            let one : i ≡ d = (all_sound s ruled shape all t).once r i d v has.names n con known there listed_there has.listed in
            ap not (subst (λ j. is_same j i ≡ true) one (same_itself i))

    contained_fault : list_fault s now r i v ≡ None
    contained_fault =
        let x = tests s ruled shape all t r i v known in
        tests_make s now r i v (record {
          misplaced = misplaced_by s (living (live_of s (stored all))) now r i x.misplaced alive;
          names = x.names;
          free = any_false (cant_name s now r i) v (λ n h. ap (λ b. cond b (stands_elsewhere now.live i (named (s.target r) n)) (not (is_live now.live (named (s.target r) n)))) con ∙ not_elsewhere n h);
          few = x.few;
          short = x.short;
        })

    module _ (fits : Fits s ruled now) (only : (q : RelId) (j : InstanceId) (w : Names) → Known m q j w → s.contains q ≡ true) where
      stay_live : (j : InstanceId) → is_live now.live j ≡ true → is_live later j ≡ true
      stay_live = more_live s shape (stored m) (stored after) (still_known s ruled shape all t m some r i v known)

      stay : (q : ℕ × InstanceId) (w : Names) → get after q ≡ Some w → stays s later after q ≡ true
      stay q w h = go (inserted m r i v (rel q.0) q.1 w h)
        where
          go : (◌≡◌ {A = RelId} (rel q.0) r × (q.1 ≡ i) × (v ≡ w)) ⊎ Known m (rel q.0) q.1 w → stays s later after q ≡ true
          go (inl x) = and_from (is_live later q.1) _ (ap (is_live later) x.1 ∙ stay_live i alive) (or_left (s.contains (rel q.0)) _ (ap s.contains x.0 ∙ con))
          go (inr k) = and_from (is_live later q.1) _ (stay_live q.1 (fits.listed (rel q.0) q.1 w k)) (or_left (s.contains (rel q.0)) _ (only (rel q.0) q.1 w k))

      settled_is : settle s after empty ≡ case_with s after empty
      settled_is =
          let a : retain_keys after (stays s later after) ≡ after = same_map cell_total cell_exact _ _ (λ q. get_kept cell_exact after (stays s later after) q ∙ all_stay (stays s later after q) (get after q) (λ w e. stay q w e)) in
          let b : retain_keys (empty {X = Answer} {R = cell_cmp}) (λ k. is_live later k.1) ≡ empty = nothing_kept (λ k. is_live later k.1) in
          λ k. record { lists = a k; every = every_of s (stored after); answers = b k; live = later }

      pub contained_set : set_list s ruled now r i v ≡ Ok (case_with s after empty)
      contained_set =
          ap (λ o. unless o (within s ruled (with_list s now r i v))) contained_fault
          ∙ ap (within s ruled) settled_is
          ∙ ap (λ b. cond b (Err Limit) (Ok (case_with s after empty))) later_fit

      pub contained_only : (q : RelId) (j : InstanceId) (w : Names) → Known after q j w → s.contains q ≡ true
      contained_only q j w h = go (inserted m r i v q j w h)
        where
          go : ((q ≡ r) × (j ≡ i) × (v ≡ w)) ⊎ Known m q j w → s.contains q ≡ true
          go (inl x) = ap s.contains x.0 ∙ con
          go (inr k) = only q j w k

  -- ---- a list that refers

  module _ (other : s.contains r ≡ false) (fits : Fits s ruled now) (agree : (e : ℕ) (d : InstanceId) → 0 < e → e < s.count → get m ((s.contained e).0, d) ≡ get all ((s.contained e).0, d)) where
    all_live : now.live ≡ live_of s (stored all)
    all_live = same_live s (stored m) (stored all) (s.count - 1) (λ e d lt _. agree (suc e) d (omega arith) (omega (arith, lt))) 0 (s.count - 1) (omega arith)

    reference_fault : list_fault s now r i v ≡ None
    reference_fault = ap (λ p. list_fault s (living p) r i v) all_live ∙ t.taken r i v known

    same_case : listed now r i v ≡ case_with s after empty
    same_case =
        let e = reference_set s ruled shape now fits r i other v reference_fault in
        let every : every_of s (stored m) ≡ every_of s (stored after) = ap (λ (c : CaseView). c.every) e in
        let alive : live_of s (stored m) ≡ live_of s (stored after) = ap (λ (c : CaseView). c.live) e in
        λ k. record { lists = after; every = every k; answers = empty; live = alive k }

    pub reference_set_is : set_list s ruled now r i v ≡ Ok (case_with s after empty)
    reference_set_is =
        ap (λ o. unless o (within s ruled (with_list s now r i v))) reference_fault
        ∙ reference_fine s ruled shape now fits r i other v reference_fault (ap (is_full s ruled) all_live ∙ t.fine)
        ∙ ap Ok same_case
