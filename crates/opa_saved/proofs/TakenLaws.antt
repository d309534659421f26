-- Lists that none of them is refused with.
use Rattle.std.proofs.Common.{◌≡◌, ◌≤◌, ◌<◌, ◌-◌, ℕ, zero, suc, Bool, true, false, cond, List, [], ◌∷◌, length, arith, refl, sym, ap, ◌∙◌, ◌⊎◌, inl, inr}
use Rattle.std.specs.Prelude.{Option, None, Some, nat_lt, not, ◌||◌, ◌&&◌}
use Rattle.std.specs.List.{list_all, list_any}
use Rattle.std.specs.FinMap.{FinMap, get, insert, get-insert}
use Rattle.std.specs.Ordering.{eq_by_cmp}
use Rattle.std.specs.Cmp.{eq_by_cmp_equiv}
use Rattle.std.proofs.lemmas.Bool.{or_parts, ltb-false, and_from, not-false, or_right, or_left}
use Rattle.std.proofs.lemmas.Map.Views.{tells_apart, exact_unsigned_eq}
use mathlib.Core.Bool.{true≢false}
use Rattle.opa_model.specs.declared.ids.AttrId.{AttrId}
use Rattle.opa_model.specs.declared.ids.RelId.{RelId}
use Rattle.opa_cells.specs.declared.instance.InstanceId.{InstanceId}
use Rattle.opa_cells.specs.Instances.{is_same, is_text, global, named}
use Rattle.opa_cells.specs.Keys.{cell_cmp}
use Rattle.opa_cells.proofs.Orders.{cell_exact, cell_total}
use Rattle.opa_case.specs.declared.change.Refusal.{Refusal}
use Rattle.opa_case.specs.declared.change.Refusal.TheVariants.{Name, Range, Limit}
use Rattle.opa_case.specs.Shapes.{Shape, IsShape}
use Rattle.opa_case.specs.Live.{Names, Lists, Population, live_of, is_live, container_of}
use Rattle.opa_case.specs.Cases.{CaseView, Answer, stored, are_names}
use Rattle.opa_case.specs.Steps.{is_misplaced, cant_name, stands_elsewhere, list_fault, is_full, listed}
use Rattle.opa_case.specs.Fits.{Known, Answered, AreSound, IsAnswer, Fits}
use Rattle.opa_case.proofs.Stands.{lookup_found, in_upto, has_live, container_found, text_is, text_itself}
use Rattle.opa_case.proofs.Among.{live_by_lists}
use Rattle.opa_case.proofs.Kept.{passes, not_elsewhere, fault_none, inserted}
use Rattle.opa_saved.specs.Loading.{case_with, living}
use Rattle.opa_saved.specs.Building.{AreTaken}
use Rattle.opa_saved.proofs.Subsequences.{KnowsMore, sub_live, fewer_fit}

-- ---- the tests of a list, one by one

pub record Tests (s : Shape) (c : CaseView) (r : RelId) (i : InstanceId) (v : Names) : Type 0 where
  pub misplaced : is_misplaced s c r i ≡ false
  pub names : are_names v ≡ true
  pub free : list_any (cant_name s c r i) v ≡ false
  pub few : (s.one r && nat_lt 1 (length v)) ≡ false
  pub short : list_any (λ n. nat_lt 100 (length n)) v ≡ false

pub tests_of : (s : Shape) (c : CaseView) (r : RelId) (i : InstanceId) (v : Names) → list_fault s c r i v ≡ None → Tests s c r i v
tests_of s c r i v h =
    let a = fault_none (is_misplaced s c r i) Name _ h in
    let b = fault_none (not (are_names v)) Name _ a.1 in
    let d = fault_none (list_any (cant_name s c r i) v) Name _ b.1 in
    let e = fault_none (s.one r && nat_lt 1 (length v)) Range _ d.1 in
    let f = fault_none (list_any (λ n. nat_lt 100 (length n)) v) Limit None e.1 in
    record { misplaced = a.0; names = not-false (are_names v) b.0; free = d.0; few = e.0; short = f.0 }

no_fault : (b : Bool) (e : Refusal) (x : Option Refusal) → b ≡ false → x ≡ None → cond b (Some e) x ≡ None
no_fault true e x h k = absurd (true≢false h)
no_fault false e x h k = k

pub tests_make : (s : Shape) (c : CaseView) (r : RelId) (i : InstanceId) (v : Names) → Tests s c r i v → list_fault s c r i v ≡ None
tests_make s c r i v t =
    no_fault (is_misplaced s c r i) Name _ t.misplaced
    (no_fault (not (are_names v)) Name _ (ap not t.names)
    (no_fault (list_any (cant_name s c r i) v) Name _ t.free
    (no_fault (s.one r && nat_lt 1 (length v)) Range _ t.few
    (no_fault (list_any (λ n. nat_lt 100 (length n)) v) Limit None t.short refl))))

-- where a list stands
pub record Placed (s : Shape) (live : Population) (r : RelId) (i : InstanceId) : Type 0 where
  pub not_every : s.every r ≡ false
  pub live_there : is_live live i ≡ true
  pub source : i.entity.0 ≡ s.source r

pub placed_of : (s : Shape) (c : CaseView) (r : RelId) (i : InstanceId) → is_misplaced s c r i ≡ false → Placed s c.live r i
placed_of s c r i h =
    let outer = or_parts _ _ h in
    let inner = or_parts _ _ outer.0 in
    record { not_every = inner.0; live_there = not-false _ inner.1; source = exact_unsigned_eq i.entity.0 (s.source r) (not-false _ outer.1) }

-- the same where another population has the instance
pub misplaced_by : (s : Shape) (c c' : CaseView) (r : RelId) (i : InstanceId) → is_misplaced s c r i ≡ false → is_live c'.live i ≡ true → is_misplaced s c' r i ≡ false
misplaced_by s c c' r i h alive =
    let outer = or_parts _ _ h in
    let inner = or_parts _ _ outer.0 in
    both_false _ _ (both_false _ _ inner.0 (ap not alive)) outer.1
  where
    both_false : (a b : Bool) → a ≡ false → b ≡ false → (a || b) ≡ false
    both_false true b p q = absurd (true≢false p)
    both_false false b p q = q

pub any_false : (p : List ℕ → Bool) (ns : Names) → ((n : List ℕ) → list_any (is_text n) ns ≡ true → p n ≡ false) → list_any p ns ≡ false
any_false p [] h = refl
any_false p (n ∷ ns) h = neither (p n) (list_any p ns) (h n (or_left (is_text n n) _ (text_itself n))) (any_false p ns (λ k g. h k (or_right (is_text k n) _ g)))
  where
    neither : (a b : Bool) → a ≡ false → b ≡ false → (a || b) ≡ false
    neither true b e g = absurd (true≢false e)
    neither false b e g = g

-- ---- more known lists make more live

module _ (s : Shape) (shape : IsShape s) (l l' : Lists) (more : KnowsMore l l') where
  live_bounds : (k : Lists) (i : InstanceId) → is_same i global ≡ false → is_live (live_of s k) i ≡ true → (0 < i.entity.0) × (i.entity.0 < s.count)
  live_bounds k i other h =
      let f = lookup_found (is_same i) (live_of s k) (elim (is_same i global) as (λ b. b ≡ false → (b || list_any (λ p. is_same i p.0) (live_of s k)) ≡ true → list_any (λ p. is_same i p.0) (live_of s k) ≡ true) [ true ↦ λ e _. absurd (true≢false e) | false ↦ λ _ g. g ] other h) in
      let r = in_upto s k (s.count - 1) i f.0 f.1 in
      (r.0, omega (arith, r.0, r.1))

  step : (k : ℕ) → ((j : InstanceId) → j.entity.0 ≤ k → is_live (live_of s l) j ≡ true → is_live (live_of s l') j ≡ true) → (i : InstanceId) → i.entity.0 ≤ suc k → is_same i global ≡ false → is_live (live_of s l) i ≡ true → is_live (live_of s l') i ≡ true
  step k before i le other h =
      let b = live_bounds l i other h in
      let st = (live_by_lists s shape l i.entity.0 i.name b.0 b.1).0 h in
      let early = shape.earlier i.entity.0 b.0 b.1 in
      (live_by_lists s shape l' i.entity.0 i.name b.0 b.1).1 (record {
        container = st.container;
        names = st.names;
        live = before st.container (omega (arith, st.parent, early, le)) st.live;
        parent = st.parent;
        known = more (s.contained i.entity.0) st.container st.names st.known;
        listed = st.listed;
      })

  more_upto : (k : ℕ) (i : InstanceId) → i.entity.0 ≤ k → is_live (live_of s l) i ≡ true → is_live (live_of s l') i ≡ true
  more_upto zero i le h = elim (is_same i global) as (λ b. is_same i global ≡ b → is_live (live_of s l') i ≡ true) [
    | true ↦ λ e. or_left (is_same i global) _ e
    | false ↦ λ e. absurd (omega (arith, (live_bounds l i e h).0, le))
  ] refl
  more_upto (suc k) i le h = elim (is_same i global) as (λ b. is_same i global ≡ b → is_live (live_of s l') i ≡ true) [
    | true ↦ λ e. or_left (is_same i global) _ e
    | false ↦ λ e. step k (λ j le' g. more_upto k j le' g) i le e h
  ] refl

  pub more_live : (i : InstanceId) → is_live (live_of s l) i ≡ true → is_live (live_of s l') i ≡ true
  more_live i h = more_upto i.entity.0 i (omega arith) h

-- ---- all lists of a file, and some of them

pub all_stay : {X : Type 0} (b : Bool) (o : Option X) → ((x : X) → o ≡ Some x → b ≡ true) → cond b o None ≡ o
all_stay true o h = refl
all_stay false None h = refl
all_stay false (Some x) h = absurd (true≢false (sym (h x refl)))

module _ (s : Shape) (ruled : List Bool) (shape : IsShape s) (all : FinMap cell_cmp Names) (t : AreTaken s ruled all) where
  abbrev live : Population
  live = live_of s (stored all)

  pub tests : (r : RelId) (i : InstanceId) (v : Names) → Known all r i v → Tests s (living live) r i v
  tests r i v h = tests_of s (living live) r i v (t.taken r i v h)

  pub placed : (r : RelId) (i : InstanceId) (v : Names) → Known all r i v → Placed s live r i
  placed r i v h = placed_of s (living live) r i (tests r i v h).misplaced

  -- the container of a name that a containment list has
  in_one : (r : RelId) (i : InstanceId) (v : Names) (n : List ℕ) → s.contains r ≡ true → Known all r i v → list_any (is_text n) v ≡ true → (d : InstanceId) → container_of live (named (s.target r) n) ≡ Some d → i ≡ d
  in_one r i v n con h listed d at =
      let test : cant_name s (living live) r i n ≡ false = passes (cant_name s (living live) r i) (is_text n) n (λ y e. sym (text_is n y e)) v (tests r i v h).free listed in
      not_elsewhere live i d (named (s.target r) n) at (ap (λ b. cond b (stands_elsewhere live i (named (s.target r) n)) (not (is_live live (named (s.target r) n)))) (sym con) ∙ test)

  some_home : (r : RelId) (i : InstanceId) (v : Names) (n : List ℕ) → s.contains r ≡ true → Known all r i v → list_any (is_text n) v ≡ true → (d : InstanceId) × (container_of live (named (s.target r) n) ≡ Some d)
  some_home r i v n con h listed =
      let e = s.target r in
      let inside = shape.target_in r con in
      let rel_is : r ≡ s.contained e = shape.no_other r con in
      let p = placed r i v h in
      let parent : i.entity.0 ≡ s.parent e = p.source ∙ ap s.source rel_is ∙ shape.source e inside.0 inside.1 in
      let here = has_live s (stored all) shape e n i v inside.0 inside.1 p.live_there parent (ap (λ q. stored all q i) (sym rel_is) ∙ h) listed in
      let found = container_found s (stored all) (named e n) inside.0 here in
      (found.0, found.1)

  few_names : (one : Bool) (n : ℕ) → (one && nat_lt 1 n) ≡ false → one ≡ true → n ≤ 1
  few_names true n e o = omega (arith, ltb-false 1 n e)
  few_names false n e o = absurd (true≢false (sym o))

  pub all_sound : AreSound s all
  all_sound = record {
    declared = t.declared;
    source = λ r i v h. (placed r i v h).source;
    not_every = λ r i v h. (placed r i v h).not_every;
    names = λ r i v h. (tests r i v h).names;
    one = λ r i v h o. few_names (s.one r) (length v) (tests r i v h).few o;
    once = λ r i j v w n con h g a b.
        let d = some_home r i v n con h a in
        in_one r i v n con h a d.0 d.1 ∙ sym (in_one r j w n con g b d.0 d.1);
  }

  names_live : (r : RelId) (i : InstanceId) (v : Names) → s.contains r ≡ false → list_any (cant_name s (living live) r i) v ≡ false → list_all (λ n. is_live live (named (s.target r) n)) v ≡ true
  names_live r i [] other free = refl
  names_live r i (n ∷ ns) other free =
      let p = or_parts (cant_name s (living live) r i n) _ free in
      and_from (is_live live (named (s.target r) n)) _
      (not-false _ (ap (λ b. cond b (stands_elsewhere live i (named (s.target r) n)) (not (is_live live (named (s.target r) n)))) (sym other) ∙ p.0))
      (names_live r i ns other p.1)

  -- with answers that fit, the case fits
  pub all_fits : (answers : FinMap cell_cmp Answer) → ((a : AttrId) (i : InstanceId) (line : Answer) → Answered answers a i line → (is_live live i ≡ true) × IsAnswer s ruled a i line) → Fits s ruled (case_with s all answers)
  all_fits answers told = record {
    sound = all_sound;
    live = refl;
    every = refl;
    listed = λ r i v h. (placed r i v h).live_there;
    answered = λ a i line h. (told a i line h).0;
    referred = λ r i v h other. names_live r i v other (tests r i v h).free;
    answers = λ a i line h. (told a i line h).1;
  }

  -- ---- some of the lists

  module _ (m : FinMap cell_cmp Names) (some : (r : RelId) (i : InstanceId) (v : Names) → Known m r i v → Known all r i v) where
    abbrev now : Population
    now = live_of s (stored m)

    pub some_fit : is_full s ruled now ≡ false
    some_fit = fewer_fit s ruled now live (sub_live s (stored m) (stored all) some) t.fine

    module _ (r : RelId) (i : InstanceId) (v : Names) (known : Known all r i v) where
      abbrev after : FinMap cell_cmp Names
      after = insert m (r.0, i) v

      pub more_some : (q : RelId) (j : InstanceId) (w : Names) → Known after q j w → Known all q j w
      more_some q j w h = go (inserted m r i v q j w h)
        where
          go : ((q ≡ r) × (j ≡ i) × (v ≡ w)) ⊎ Known m q j w → Known all q j w
          go (inl x) = ap (λ (k : RelId). get all (k.0, j)) x.0 ∙ ap (λ k. get all (r.0, k)) x.1 ∙ known ∙ ap Some x.2
          go (inr k) = some q j w k

      -- what was known still is
      pub still_known : (q : RelId) (j : InstanceId) (w : Names) → Known m q j w → Known after q j w
      still_known q j w h = get-insert cell_total m (r.0, i) v (q.0, j) ∙ go (eq_by_cmp cell_cmp (q.0, j) (r.0, i)) refl
        where
          go : (b : Bool) → eq_by_cmp cell_cmp (q.0, j) (r.0, i) ≡ b → cond b (Some v) (get m (q.0, j)) ≡ Some w
          go true e = sym known ∙ ap (get all) (sym (tells_apart cell_exact (q.0, j) (r.0, i) e)) ∙ some q j w h
          go false e = h

      pub agrees_here : get after (r.0, i) ≡ get all (r.0, i)
      agrees_here = get-insert cell_total m (r.0, i) v (r.0, i) ∙ ap (λ b. cond b (Some v) (get m (r.0, i))) (key_itself (r.0, i)) ∙ sym known
        where
          key_itself : (k : ℕ × InstanceId) → eq_by_cmp cell_cmp k k ≡ true
          key_itself k = (eq_by_cmp_equiv cell_total).refl k

      pub agrees_still : (n : ℕ) (j : InstanceId) → get m (n, j) ≡ get all (n, j) → get after (n, j) ≡ get all (n, j)
      agrees_still n j h = get-insert cell_total m (r.0, i) v (n, j) ∙ go (eq_by_cmp cell_cmp (n, j) (r.0, i)) refl
        where
          go : (b : Bool) → eq_by_cmp cell_cmp (n, j) (r.0, i) ≡ b → cond b (Some v) (get m (n, j)) ≡ get all (n, j)
          go true e = sym known ∙ ap (get all) (sym (tells_apart cell_exact (n, j) (r.0, i) e))
          go false e = h
