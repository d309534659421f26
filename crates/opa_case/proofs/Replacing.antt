-- What a list that is set keeps, and what it takes.
use Rattle.std.specs.Prelude.{◌≡◌, ◌<◌, ◌-◌, ℕ, Bool, true, false, cond, not, ◌||◌, ◌&&◌, List, None, Some, refl}
use Rattle.std.specs.List.{list_all, list_any}
use Rattle.std.specs.Option.{option_map_or}
use Rattle.std.specs.FinMap.{FinMap, get, insert, get-insert}
use Rattle.std.specs.Ordering.{eq_by_cmp}
use Rattle.std.specs.Cmp.{eq_by_cmp_equiv}
use Rattle.std.proofs.Common.{arith, ap, sym, subst, ◌∙◌, ◌⊎◌, inl, inr}
use Rattle.std.proofs.lemmas.Map.Views.{tells_apart, exact_unsigned_eq}
use Rattle.std.proofs.lemmas.Bool.{or_parts, and_from, not-false, false_from_ne_true, or_right, or_left}
use Rattle.std.proofs.lemmas.Option.{same_Some}
use mathlib.Core.Bool.{true≢false}
use Rattle.opa_io.proofs.Options.{none_by}
use Rattle.opa_model.specs.declared.ids.RelId.{RelId}
use Rattle.opa_cells.specs.declared.instance.InstanceId.{InstanceId}
use Rattle.opa_cells.specs.Instances.{is_text, named}
use Rattle.opa_cells.specs.Keys.{cell_cmp}
use Rattle.opa_cells.proofs.Orders.{cell_exact, cell_total, get_kept}
use Rattle.opa_case.specs.Shapes.{Shape, IsShape}
use Rattle.opa_case.specs.Live.{Names, Population, is_live, container_of}
use Rattle.opa_case.specs.Cases.{CaseView, stored}
use Rattle.opa_case.specs.Steps.{rel, stays, cant_name, stands_elsewhere, list_fault, within, with_list, listed}
use Rattle.opa_case.specs.Fits.{Known, Fits}
use Rattle.opa_case.specs.Laws.{all_live_of, Replaces, SetReplaces}
use Rattle.opa_case.proofs.Stands.{container_found, in_upto}
use Rattle.opa_case.proofs.Among.{container_live, early_stays}
use Rattle.opa_case.proofs.Kept.{stands, inserted, passes, not_elsewhere, passed, within_is, list_kept, tests_passed, Passes}
use Rattle.opa_case.proofs.Referring.{reference_set, names_live}
use Rattle.opa_case.proofs.Stepping.{settled_list, settled_answer}
use Rattle.opa_case.proofs.Stands.{text_is}

module _ (s : Shape) (ruled : List Bool) (shape : IsShape s) (c : CaseView) (r : RelId) (i : InstanceId) (names : Names) (there : r.0 < s.relations) (fits : Fits s ruled c) (fine : list_fault s c r i names ≡ None) where
  abbrev m : FinMap cell_cmp Names
  m = insert c.lists (r.0, i) names

  abbrev new : CaseView
  new = with_list s c r i names

  tests : Passes s c r i names
  tests = tests_passed s c r i names fine

  fits_new : Fits s ruled new
  fits_new = list_kept s ruled shape c r i names there fits fine

  set_at : get m (r.0, i) ≡ Some names
  set_at = get-insert cell_total c.lists (r.0, i) names (r.0, i) ∙ ap (λ b. cond b (Some names) (get c.lists (r.0, i))) ((eq_by_cmp_equiv cell_total).refl (r.0, i))

  -- every other list is as it was
  other_at : (q : RelId) (j : InstanceId) → ((q ≡ r) × (j ≡ i) → ⊥) → get m (q.0, j) ≡ get c.lists (q.0, j)
  other_at q j apart = get-insert cell_total c.lists (r.0, i) names (q.0, j) ∙ elim (eq_by_cmp cell_cmp (q.0, j) (r.0, i)) as (λ b. eq_by_cmp cell_cmp (q.0, j) (r.0, i) ≡ b → cond b (Some names) (get c.lists (q.0, j)) ≡ get c.lists (q.0, j)) [
    | true ↦ λ h. let k = tells_apart cell_exact (q.0, j) (r.0, i) h in absurd (apart (ap (λ (x : ℕ × InstanceId). rel x.0) k, ap (λ (x : ℕ × InstanceId). x.1) k))
    | false ↦ λ _. refl
  ] refl

  was_live : is_live c.live i ≡ true
  was_live = not-false _ (or_parts _ _ (or_parts _ _ tests.placed).0).1

  owner : i.entity.0 ≡ s.source r
  owner = exact_unsigned_eq i.entity.0 (s.source r) (not-false _ (or_parts _ _ tests.placed).1)

  -- the instance of the list lives on
  is_still : is_live new.live i ≡ true
  is_still = elim (s.contains r) as (λ b. s.contains r ≡ b → is_live new.live i ≡ true) [
    | true ↦ λ con.
        let t = s.target r in
        let inside = shape.target_in r con in
        let by : r ≡ s.contained t = shape.no_other r con in
        let parent : i.entity.0 ≡ s.parent t = owner ∙ ap s.source by ∙ shape.source t inside.0 inside.1 in
        let early = shape.earlier t inside.0 inside.1 in
        early_stays s (stored c.lists) (stored m) t inside.0 inside.1
        (λ e d pos lt. sym (other_at (s.contained e) d (λ same. let eq : e ≡ t = sym (shape.target e pos (omega (arith, lt, inside.1))) ∙ ap s.target same.0 in omega (arith, eq, lt))))
        i (omega (arith, parent, early)) (subst (λ (live : Population). is_live live i ≡ true) fits.live was_live)
    | false ↦ λ ref. ap (λ (v : CaseView). is_live v.live i) (sym (reference_set s ruled shape c fits r i ref names fine)) ∙ was_live
  ] refl

  kept_at : (k : ℕ × InstanceId) → stays s new.live m k ≡ true → get new.lists k ≡ get m k
  kept_at k h = get_kept cell_exact m (stays s new.live m) k ∙ ap (λ b. cond b (get m k) None) h

  lost_at : (k : ℕ × InstanceId) → stays s new.live m k ≡ false → get new.lists k ≡ None
  lost_at k h = get_kept cell_exact m (stays s new.live m) k ∙ ap (λ b. cond b (get m k) None) h

  container_stays : (q : RelId) (j : InstanceId) → is_live new.live j ≡ true → s.contains q ≡ true → stays s new.live m (q.0, j) ≡ true
  container_stays q j alive con = and_from (is_live new.live j) _ alive (or_left (s.contains q) _ con)

  reference_stays : (q : RelId) (j : InstanceId) (ns : Names) → is_live new.live j ≡ true → get m (q.0, j) ≡ Some ns → all_live_of s new q ns ≡ true → stays s new.live m (q.0, j) ≡ true
  reference_stays q j ns alive at all = and_from (is_live new.live j) _ alive (or_right (s.contains q) _ (ap (λ o. option_map_or (list_all (λ n. is_live new.live (named (s.target q) n))) o true) at ∙ all))

  fails : (a b d : Bool) → b ≡ false → d ≡ false → (a && (b || d)) ≡ false
  fails true b d e f = ap (λ x. x || d) e ∙ f
  fails false b d e f = refl

  reference_goes : (q : RelId) (j : InstanceId) (ns : Names) → s.contains q ≡ false → get m (q.0, j) ≡ Some ns → all_live_of s new q ns ≡ false → stays s new.live m (q.0, j) ≡ false
  reference_goes q j ns ref at some = fails (is_live new.live j) (s.contains q) _ ref (ap (λ o. option_map_or (list_all (λ n. is_live new.live (named (s.target q) n))) o true) at ∙ some)

  set_is : get new.lists (r.0, i) ≡ Some names
  set_is = kept_at (r.0, i) (elim (s.contains r) as (λ b. s.contains r ≡ b → stays s new.live m (r.0, i) ≡ true) [
    | true ↦ λ con. container_stays r i is_still con
    | false ↦ λ ref.
        reference_stays r i names is_still set_at (ap (λ (v : CaseView). all_live_of s v r names) (sym (reference_set s ruled shape c fits r i ref names fine)) ∙ names_live s ruled shape c fits r i ref names tests.free)
  ] refl) ∙ set_at

  -- where an instance stands afterwards: in the list that is set, or where it stood
  stood : (j : InstanceId) → 0 < j.entity.0 → is_live new.live j ≡ true
      → (d : InstanceId) × (is_live new.live d ≡ true) × (((d ≡ i) × (j ≡ named (s.target r) j.name) × (s.contains r ≡ true) × (list_any (is_text j.name) names ≡ true)) ⊎ ((container_of c.live j ≡ Some d) × ((s.contained j.entity.0 ≡ r) × (d ≡ i) → list_any (is_text j.name) names ≡ true)))
  stood j pos alive =
      let f = container_found s (stored m) j pos alive in
      let k = container_live s (stored m) j f.0 f.1 in
      let lt : j.entity.0 < s.count = early j pos alive in
      (f.0, k.0, go f.0 f.2.names f.2.listed lt (inserted c.lists r i names (s.contained j.entity.0) f.0 f.2.names f.2.known) f.2.known)
    where
      early : (k : InstanceId) → 0 < k.entity.0 → is_live new.live k ≡ true → k.entity.0 < s.count
      early k p a = let f = container_found s (stored m) k p a in let u = in_upto s (stored m) (s.count - 1) k f.0 f.1 in omega (arith, u.1, shape.some, p)

      go : (d : InstanceId) (ns : Names) → list_any (is_text j.name) ns ≡ true → j.entity.0 < s.count → ((s.contained j.entity.0 ≡ r) × (d ≡ i) × (names ≡ ns)) ⊎ Known c.lists (s.contained j.entity.0) d ns → Known m (s.contained j.entity.0) d ns
          → ((d ≡ i) × (j ≡ named (s.target r) j.name) × (s.contains r ≡ true) × (list_any (is_text j.name) names ≡ true)) ⊎ ((container_of c.live j ≡ Some d) × ((s.contained j.entity.0 ≡ r) × (d ≡ i) → list_any (is_text j.name) names ≡ true))
      go d ns listed lt (inl x) known =
          let target : j.entity.0 ≡ s.target r = sym (shape.target j.entity.0 pos lt) ∙ ap s.target x.0 in
          inl (x.1, ap (λ n. named n j.name) target, ap s.contains (sym x.0) ∙ shape.contains j.entity.0 pos lt, ap (list_any (is_text j.name)) x.2 ∙ listed)
      go d ns listed lt (inr old) known =
          inr (
            ap (λ n. container_of c.live (named n j.name)) (sym (shape.target j.entity.0 pos lt)) ∙ stands s ruled shape c fits (s.contained j.entity.0) d ns j.name (shape.contains j.entity.0 pos lt) old listed,
            λ same. ap (list_any (is_text j.name)) (same_Some names ns (sym set_at ∙ ap (λ (x : ℕ × InstanceId). get m x) (key (sym same.0) (sym same.1)) ∙ known)) ∙ listed,
          )
        where
          key : {p q : RelId} {a b : InstanceId} → p ≡ q → a ≡ b → ◌≡◌ {A = ℕ × InstanceId} (p.0, a) (q.0, b)
          key {p} {q} {a} {b} e f = ap (λ (x : RelId). let k : ℕ × InstanceId = (x.0, a) in k) e ∙ ap (λ (x : InstanceId). let k : ℕ × InstanceId = (q.0, x) in k) f

  -- a contained name that is listed doesn't live elsewhere
  free_name : (n : List ℕ) → s.contains r ≡ true → list_any (is_text n) names ≡ true → stands_elsewhere c.live i (named (s.target r) n) ≡ false
  free_name n con is =
      ap (λ b. cond b (stands_elsewhere c.live i (named (s.target r) n)) (not (is_live c.live (named (s.target r) n)))) (sym con)
      ∙ passes (cant_name s c r i) (is_text n) n (λ y t. sym (text_is n y t)) names tests.free is

  entity_pos : (j d : InstanceId) → container_of c.live j ≡ Some d → 0 < j.entity.0
  entity_pos j d h = (in_upto s (stored c.lists) (s.count - 1) j d (ap (λ (live : Population). container_of live j) (sym fits.live) ∙ h)).0

  goes_with : (j d : InstanceId) → container_of c.live j ≡ Some d → is_live new.live d ≡ false → is_live new.live j ≡ true → ⊥
  goes_with j d at gone alive = go (stood j (entity_pos j d at) alive)
    where
      apart : (x : InstanceId) → x ≡ d → is_live new.live x ≡ true → ⊥
      apart x same is = true≢false (sym is ∙ ap (is_live new.live) same ∙ gone)

      go : (x : InstanceId) × (is_live new.live x ≡ true) × (((x ≡ i) × (j ≡ named (s.target r) j.name) × (s.contains r ≡ true) × (list_any (is_text j.name) names ≡ true)) ⊎ ((container_of c.live j ≡ Some x) × ((s.contained j.entity.0 ≡ r) × (x ≡ i) → list_any (is_text j.name) names ≡ true))) → ⊥
      go (x, is, inl t) =
          let held : i ≡ d = not_elsewhere c.live i d (named (s.target r) j.name) (ap (container_of c.live) (sym t.1) ∙ at) (free_name j.name t.2 t.3) in
          apart x (t.0 ∙ held) is
      go (x, is, inr t) = apart x (same_Some x d (sym t.0 ∙ at)) is

  gone_name : (n : List ℕ) → s.contains r ≡ true → container_of c.live (named (s.target r) n) ≡ Some i → list_any (is_text n) names ≡ false → is_live new.live (named (s.target r) n) ≡ true → ⊥
  gone_name n con at not_listed alive = go (stood (named (s.target r) n) (shape.target_in r con).0 alive)
    where
      go : (x : InstanceId) × (is_live new.live x ≡ true) × (((x ≡ i) × (named (s.target r) n ≡ named (s.target r) n) × (s.contains r ≡ true) × (list_any (is_text n) names ≡ true)) ⊎ ((container_of c.live (named (s.target r) n) ≡ Some x) × ((s.contained (s.target r) ≡ r) × (x ≡ i) → list_any (is_text n) names ≡ true))) → ⊥
      go (x, is, inl t) = true≢false (sym t.3 ∙ not_listed)
      go (x, is, inr t) = true≢false (sym (t.1 (sym (shape.no_other r con), same_Some x i (sym t.0 ∙ at))) ∙ not_listed)

  pub replaces : Replaces s c new r i names
  replaces = record {
    set = set_is;
    keeps_answers = λ j a alive. get_kept cell_exact c.answers (λ k. is_live new.live k.1) (a.0, j) ∙ ap (λ b. cond b (get c.answers (a.0, j)) None) alive;
    keeps_lists = λ j q alive con apart. kept_at (q.0, j) (container_stays q j alive con) ∙ other_at q j apart;
    keeps_references = λ j q ns alive ref apart at all. let known = other_at q j apart ∙ at in kept_at (q.0, j) (reference_stays q j ns alive known all) ∙ known;
    loses_references = λ j q ns ref apart at some. lost_at (q.0, j) (reference_goes q j ns ref (other_at q j apart ∙ at) some);
    takes_answers = λ j a gone. get_kept cell_exact c.answers (λ k. is_live new.live k.1) (a.0, j) ∙ ap (λ b. cond b (get c.answers (a.0, j)) None) gone;
    takes_lists = λ j q gone. none_by (get new.lists (q.0, j)) (λ ns at. true≢false (sym (fits_new.listed q j ns at) ∙ gone));
    takes_contained = λ j d at gone. false_from_ne_true (is_live new.live j) (λ alive. goes_with j d at gone alive);
    contains = λ n con is. stands s ruled shape new fits_new r i names n con set_is is;
    goes = λ n con at not_listed. false_from_ne_true (is_live new.live (named (s.target r) n)) (λ alive. gone_name n con at not_listed alive);
    new_answers = λ j a fresh. none_by (get new.answers (a.0, j)) (λ v at. true≢false (sym (fits.answered a j v (settled_answer s m c.answers a j v at).1) ∙ fresh));
    new_lists = λ j q fresh. none_by (get new.lists (q.0, j)) (λ ns at. fresh_list j q ns fresh (inserted c.lists r i names q j ns (settled_list s m c.answers q j ns at)));
  }
    where
      fresh_list : (j : InstanceId) (q : RelId) (ns : Names) → is_live c.live j ≡ false → ((q ≡ r) × (j ≡ i) × (names ≡ ns)) ⊎ Known c.lists q j ns → ⊥
      fresh_list j q ns fresh (inl x) = true≢false (sym was_live ∙ ap (is_live c.live) (sym x.1) ∙ fresh)
      fresh_list j q ns fresh (inr old) = true≢false (sym (fits.listed q j ns old) ∙ fresh)

pub set_replaces : SetReplaces
set_replaces s ruled shape c c' r i names there fits h =
    let p = passed (list_fault s c r i names) (within s ruled (with_list s c r i names)) c' h in
    subst (λ (v : CaseView). Replaces s c v r i names) (within_is s ruled (with_list s c r i names) c' p.1) (replaces s ruled shape c r i names there fits p.0)
