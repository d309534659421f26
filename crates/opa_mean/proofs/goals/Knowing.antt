-- Goals that are known on every day, by their lines.
use Rattle.std.proofs.Common.{◌≡◌, ◌≢◌, ◌↔◌, ◌⊎◌, inl, inr, ℕ, zero, suc, ◌+◌, ◌<◌, ◌≤◌, Bool, true, false, cond, not, ◌&&◌, ◌||◌, ◌==◌, List, [], ◌∷◌, length, drop, Option, None, Some, is_some, refl, sym, ◌∙◌, ap, subst, arith}
use Rattle.std.specs.Prelude.{find, nat_le, is_none, slice_get}
use Rattle.std.specs.FinMap.{get}
use Rattle.std.specs.List.{list_any, list_all, AllByRecursion}
use Rattle.std.proofs.lemmas.Bool.{le-leb, lt-leb, eq-eqb, and_parts}
use Rattle.std.proofs.lemmas.Option.{slice_get_past}
use Rattle.opa_io.proofs.Bools.{same_truth}
use Rattle.opa_io.proofs.Numbers.{found_passes}
use Rattle.opa_io.proofs.Places.{drop_at}
use Rattle.opa_date.specs.declared.TheConstants.{DAYS}
use Rattle.opa_value.specs.declared.value.Value.{Value}
use Rattle.opa_value.specs.declared.value.Value.TheVariants.{Unknown}
use Rattle.opa_value.specs.Below.{IsBelow}
use Rattle.opa_value.specs.Truth.{is_unknown}
use Rattle.opa_line.specs.Lines.{at, value_from, Follows, IsLine, StandsFor}
use Rattle.opa_model.specs.declared.ids.AttrId.{AttrId}
use Rattle.opa_cells.specs.Instances.{global, is_same}
use Rattle.opa_cells.specs.declared.instance.InstanceId.{InstanceId}
use Rattle.opa_cells.proofs.Orders.{same_itself}
use Rattle.opa_case.specs.Cases.{CaseView, IsLive}
use Rattle.opa_case.specs.Shapes.{shape_of}
use Rattle.opa_tree.specs.Rules.{rule_of}
use Rattle.opa_tree.specs.declared.rulebase.Rulebase.{Rulebase}
use Rattle.opa_window.specs.Days.{days}
use Rattle.opa_mean.specs.Given.{base_of, facts_of}
use Rattle.opa_mean.specs.Holding.{has_line}
use Rattle.opa_mean.specs.Next.{first_unknown, IsKnown}
use Rattle.opa_mean.specs.Places.{owner_of}
use Rattle.opa_mean.specs.Rulebases.{IsOf, Monotone, value_at}
use Rattle.opa_mean.proofs.Cleaning.{none_of}
use Rattle.opa_mean.proofs.Holdings.{unanswered}
use Rattle.opa_mean.proofs.Unknowns.{unknown_is}
use Rattle.opa_mean.specs.declared.goals.states.GoalState.{GoalState}
use Rattle.opa_mean.specs.Goals.Freedom.{never_asks}
use Rattle.opa_mean.specs.Goals.States.{is_known, state_by, goal_state, IsStateOf, StaysSettled}
use Rattle.opa_mean.specs.Goals.Stretches.{is_pair_known, is_line_known}
use Rattle.opa_mean.proofs.goals.Reaching.{never_is_free, free_never_asks}

-- ---- the first day on which a value is unknown

found_within : (p : ℕ → Bool) (s n d : ℕ) → find p (days s n) ≡ Some d → d < s + n
found_within p s zero d e = absurd (cc e)
found_within p s (suc n) d e = go (p s) refl (found_within p (s + 1) n d)
  where
    go : (b : Bool) → p s ≡ b → (find p (days (s + 1) n) ≡ Some d → d < (s + 1) + n) → d < s + suc n
    go true q rest = let same : s ≡ d = cc (e, ap (λ b. cond b (Some s) (find p (days (s + 1) n))) q) in omega (arith, same)
    go false q rest = let more = rest (sym (ap (λ b. cond b (Some s) (find p (days (s + 1) n))) q) ∙ e) in omega (arith, more)

module _ (f : ℕ → Value) where
  known_where_none : first_unknown DAYS f ≡ None → (d : ℕ) → d < DAYS → f d ≢ Unknown
  unfolding first_unknown
  known_where_none e d lt un = absurd (cc (none_of (λ d. is_unknown (f d)) 0 DAYS e d (omega arith) (omega (arith, lt)), ap is_unknown un))

  unknown_where_some : (d : ℕ) → first_unknown DAYS f ≡ Some d → (d < DAYS) × (f d ≡ Unknown)
  unfolding first_unknown
  unknown_where_some d e = let lt = found_within (λ d. is_unknown (f d)) 0 DAYS d e in (omega (arith, lt), unknown_is (f d) (found_passes (λ d. is_unknown (f d)) (days 0 DAYS) d e))

  pub known_if : is_none (first_unknown DAYS f) ≡ true → (d : ℕ) → d < DAYS → f d ≢ Unknown
  known_if h = go (first_unknown DAYS f) refl h
    where
      go : (o : Option ℕ) → first_unknown DAYS f ≡ o → is_none o ≡ true → (d : ℕ) → d < DAYS → f d ≢ Unknown
      go None e h = known_where_none e
      go (Some d) e h = absurd (cc h)

  pub known_then : ((d : ℕ) → d < DAYS → f d ≢ Unknown) → is_none (first_unknown DAYS f) ≡ true
  known_then known = go (first_unknown DAYS f) refl
    where
      go : (o : Option ℕ) → first_unknown DAYS f ≡ o → is_none o ≡ true
      go None e = refl
      go (Some d) e = let un = unknown_where_some d e in absurd (known d un.0 un.1)

  pub open_if : is_none (first_unknown DAYS f) ≡ false → (d : ℕ) × ((d < DAYS) × (f d ≡ Unknown))
  open_if h = go (first_unknown DAYS f) refl h
    where
      go : (o : Option ℕ) → first_unknown DAYS f ≡ o → is_none o ≡ false → (d : ℕ) × ((d < DAYS) × (f d ≡ Unknown))
      go None e h = absurd (cc h)
      go (Some d) e h = (d, unknown_where_some d e)

  pub open_then : (d : ℕ) → d < DAYS → f d ≡ Unknown → is_none (first_unknown DAYS f) ≡ false
  open_then d lt un = go (first_unknown DAYS f) refl
    where
      go : (o : Option ℕ) → first_unknown DAYS f ≡ o → is_none o ≡ false
      go None e = absurd (known_where_none e d lt un)
      go (Some k) e = refl

-- ---- lines

pair_known : (p : ℕ × Value) → is_pair_known p ≡ true → p.1 ≢ Unknown
pair_known p h e = let un : is_pair_known p ≡ false = ap (λ v. not (is_unknown v)) e in absurd (cc (h, un))

pair_unknown : (v : Value) → not (is_unknown v) ≡ false → v ≡ Unknown
pair_unknown v h = unknown_is v (go (is_unknown v) h)
  where
    go : (b : Bool) → not b ≡ false → b ≡ true
    go true h = refl
    go false h = absurd (cc h)

stays_known : (v : Value) (l : List (ℕ × Value)) (d : ℕ) → v ≢ Unknown → is_line_known l ≡ true → value_from v l d ≢ Unknown
stays_known v [] d known h = known
stays_known v (p ∷ l) d known h = let both = and_parts (is_pair_known p) (is_line_known l) h in go (nat_le p.0 d) (stays_known p.1 l d (pair_known p both.0) both.1)
  where
    go : (b : Bool) → value_from p.1 l d ≢ Unknown → cond b (value_from p.1 l d) v ≢ Unknown
    go true rest = rest
    go false rest = known

line_known : (l : List (ℕ × Value)) (d : ℕ) → IsLine DAYS l → is_line_known l ≡ true → at l d ≢ Some Unknown
line_known [] d form h e = form
line_known (p ∷ l) d form h e =
    let both = and_parts (is_pair_known p) (is_line_known l) h in
    let same : value_from p.1 l d ≡ Unknown = cc e in
    stays_known p.1 l d (pair_known p both.0) both.1 same

at_start : (d : ℕ) (v : Value) (l : List (ℕ × Value)) → Follows DAYS d v l → value_from v l d ≡ v
at_start d v [] f = refl
at_start d v (p ∷ l) f = let later : d < p.0 = f.0 in ap (λ b. cond b (value_from p.1 l d) v) (lt-leb p.0 d later)

-- a day on which a line is unknown
abbrev OpenDay : ℕ → Value → List (ℕ × Value) → Type 0
OpenDay d0 v l = (d : ℕ) × ((d0 ≤ d) × ((d < DAYS) × (value_from v l d ≡ Unknown)))

open_day : (d0 : ℕ) (v : Value) (l : List (ℕ × Value)) → d0 < DAYS → Follows DAYS d0 v l → (v ≡ Unknown) ⊎ (is_line_known l ≡ false) → OpenDay d0 v l
open_day d0 v l lt f (inl un) = (d0, (omega arith, (lt, at_start d0 v l f ∙ un)))
open_day d0 v [] lt f (inr h) = absurd (cc h)
open_day d0 v (p ∷ l) lt f (inr h) = go (is_pair_known p) refl (λ way. open_day p.0 p.1 l f.1 f.3 way)
  where
    further : OpenDay p.0 p.1 l → OpenDay d0 v (p ∷ l)
    further k =
        let later : d0 < p.0 = f.0 in let from : p.0 ≤ k.0 = k.1.0 in
        (k.0, (omega (arith, later, from), (k.1.1.0, ap (λ b. cond b (value_from p.1 l k.0) v) (le-leb p.0 k.0 from) ∙ k.1.1.1)))

    go : (b : Bool) → is_pair_known p ≡ b → ((p.1 ≡ Unknown) ⊎ (is_line_known l ≡ false) → OpenDay p.0 p.1 l) → OpenDay d0 v (p ∷ l)
    go false e rest = further (rest (inl (pair_unknown p.1 e)))
    go true e rest = further (rest (inr (sym (ap (λ b. b && is_line_known l) e) ∙ h)))

line_open : (l : List (ℕ × Value)) → IsLine DAYS l → is_line_known l ≡ false → (d : ℕ) × ((d < DAYS) × (at l d ≡ Some Unknown))
line_open [] form h = absurd form
line_open (p ∷ l) form h = go (is_pair_known p) refl (open_day 0 p.1 l (omega arith) form.1)
  where
    told : OpenDay 0 p.1 l → (d : ℕ) × ((d < DAYS) × (at (p ∷ l) d ≡ Some Unknown))
    told k = (k.0, (k.1.1.0, ap Some k.1.1.1))

    go : (b : Bool) → is_pair_known p ≡ b → ((p.1 ≡ Unknown) ⊎ (is_line_known l ≡ false) → OpenDay 0 p.1 l) → (d : ℕ) × ((d < DAYS) × (at (p ∷ l) d ≡ Some Unknown))
    go false e rest = told (rest (inl (pair_unknown p.1 e)))
    go true e rest = told (rest (inr (sym (ap (λ b. b && is_line_known l) e) ∙ h)))

-- a line that stands for values tells whether they are all known
known_by_line : (f : ℕ → Value) (l : List (ℕ × Value)) → IsLine DAYS l → StandsFor DAYS f l → is_line_known l ≡ is_none (first_unknown DAYS f)
known_by_line f l form stands = same_truth _ _ there back
  where
    there : is_line_known l ≡ true → is_none (first_unknown DAYS f) ≡ true
    there h = known_then f (λ d lt un. line_known l d form h (stands d lt ∙ ap Some un))

    back : is_none (first_unknown DAYS f) ≡ true → is_line_known l ≡ true
    back h = go (is_line_known l) refl
      where
        go : (b : Bool) → is_line_known l ≡ b → b ≡ true
        go true e = refl
        go false e =
            let k = line_open l form e in
            let same : Some (f k.0) ≡ Some Unknown = sym (stands k.0 k.1.0) ∙ k.1.1 in
            let un : f k.0 ≡ Unknown = cc same in
            absurd (known_if f h k.0 k.1.0 un)

-- ---- goals

module _ (r : Rulebase) (c : CaseView) (is : IsOf r c) where
  -- a goal without a line is unknown on every day
  pub no_line : (a : AttrId) (i : InstanceId) → i ≡ global → owner_of (shape_of r.model) a ≡ 0 → false ≡ has_line r c a i → false ≡ is_known r c a
  no_line a i same own e = sym (open_then (value_at r c a global) 0 (omega arith) (unanswered r c is a global 0 (sym place ∙ sym (e ∙ ap (has_line r c a) same))))
    where
      place : has_line r c a global ≡ (is_some (rule_of r.rules a) || is_some (get c.answers (a.0, global)))
      place = ap (λ b. ((b || list_any (λ p. is_same global p.0) c.live) && (0 == owner_of (shape_of r.model) a)) && (is_some (rule_of r.rules a) || is_some (get c.answers (a.0, global)))) (same_itself global)
          ∙ ap (λ b. b && (is_some (rule_of r.rules a) || is_some (get c.answers (a.0, global)))) (eq-eqb 0 (owner_of (shape_of r.model) a) (sym own))

module _ (r : Rulebase) (c : CaseView) where
  pub by_line : (a : AttrId) (i : InstanceId) (l : List (ℕ × Value)) (b : Bool) → i ≡ global → IsLine DAYS l → StandsFor DAYS (value_at r c a i) l → b ≡ is_line_known l → b ≡ is_known r c a
  by_line a i l b same form stands e = e ∙ known_by_line (value_at r c a global) l form (subst (λ j. StandsFor DAYS (value_at r c a j) l) same stands)

  pub known_is : (a : AttrId) → (is_known r c a ≡ true) ↔ IsKnown (base_of r) (facts_of c) a
  known_is a = (known_if (value_at r c a global), known_then (value_at r c a global))

  -- every goal is known on every day
  pub all_known_are : (goals : List AttrId) → (list_all (is_known r c) goals ≡ true) ↔ AllByRecursion (IsKnown (base_of r) (facts_of c)) goals
  all_known_are goals = (there goals, back goals)
    where
      there : (goals : List AttrId) → list_all (is_known r c) goals ≡ true → AllByRecursion (IsKnown (base_of r) (facts_of c)) goals
      there [] h = tt
      there (a ∷ goals) h = let both = and_parts (is_known r c a) (list_all (is_known r c) goals) h in ((known_is a).0 both.0, there goals both.1)

      back : (goals : List AttrId) → AllByRecursion (IsKnown (base_of r) (facts_of c)) goals → list_all (is_known r c) goals ≡ true
      back [] h = refl
      back (a ∷ goals) h = ap (λ b. b && list_all (is_known r c) goals) ((known_is a).1 h.0) ∙ back goals h.1

  state_is : (a : AttrId) (known free : Bool) → is_known r c a ≡ known → never_asks (base_of r) a ≡ free → IsStateOf r c a (state_by known free)
  state_is a false free e f =
      let day = open_if (value_at r c a global) e in record {
        undecided = (λ _. day, λ _. refl);
        settled = (λ h. absurd (cc h), λ h. absurd (h.0 day.0 day.1.0 day.1.1));
        decided = (λ h. absurd (cc h), λ h. absurd (h.0 day.0 day.1.0 day.1.1));
      }
  state_is a true true e f =
      let known = known_if (value_at r c a global) e in let free = never_is_free r a f in record {
        undecided = (λ h. absurd (cc h), λ h. absurd (known h.0 h.1.0 h.1.1));
        settled = (λ _. (known, free), λ _. refl);
        decided = (λ h. absurd (cc h), λ h. absurd (h.1 free));
      }
  state_is a true false e f =
      let known = known_if (value_at r c a global) e in record {
        undecided = (λ h. absurd (cc h), λ h. absurd (known h.0 h.1.0 h.1.1));
        settled = (λ h. absurd (cc h), λ h. let asks = free_never_asks r a h.1 in absurd (cc (asks, f)));
        decided = (λ _. (known, λ free. let asks = free_never_asks r a free in absurd (cc (asks, f))), λ _. refl);
      }

  pub states_exact : (a : AttrId) → IsStateOf r c a (goal_state r c a)
  states_exact a = state_is a (is_known r c a) (never_asks (base_of r) a) refl refl

  global_lives : IsLive c global
  global_lives = ap (λ b. b || list_any (λ p. is_same global p.0) c.live) (same_itself global)

  pub stays_settled : Monotone → (a : AttrId) (s : GoalState) → s ≡ goal_state r c a → StaysSettled r c a s
  stays_settled monotone a s e settled c' completes d lt =
      let both = (states_exact a).settled.0 (sym e ∙ settled) in
      stays (value_at r c a global d) (value_at r c' a global d) (monotone r c c' completes a global d both.1 global_lives) (both.0 d lt)
    where
      stays : (v w : Value) → IsBelow v w → v ≢ Unknown → w ≡ v
      stays v w (inl un) known = absurd (known un)
      stays v w (inr same) known = sym same

-- ---- the loop over goals

none_behind : (goals : List AttrId) (n : ℕ) → length goals ≤ n → drop n goals ≡ []
none_behind [] zero over = refl
none_behind [] (suc n) over = refl
none_behind (b ∷ goals) zero over = absurd (omega (arith, over))
none_behind (b ∷ goals) (suc n) over = none_behind goals n (omega (arith, over))

module _ (p : AttrId → Bool) (goals : List AttrId) where
  abbrev pub AreKnownTo : ℕ → Type 0
  AreKnownTo n = list_all p goals ≡ list_all p (drop n goals)

  pub one_open : (n : ℕ) (a : AttrId) → slice_get goals n ≡ Some a → p a ≡ false → AreKnownTo n → false ≡ list_all p goals
  one_open n a there h upto = sym (upto ∙ ap (list_all p) (drop_at goals n a there) ∙ ap (λ b. b && list_all p (drop (n + 1) goals)) h)

  pub one_more : (n : ℕ) (a : AttrId) → slice_get goals n ≡ Some a → p a ≡ true → AreKnownTo n → AreKnownTo (n + 1)
  one_more n a there h upto = upto ∙ ap (list_all p) (drop_at goals n a there) ∙ ap (λ b. b && list_all p (drop (n + 1) goals)) h

  pub at_end : (n : ℕ) → length goals ≤ n → AreKnownTo n → true ≡ list_all p goals
  at_end n over upto = sym (upto ∙ ap (list_all p) (none_behind goals n over))

  -- the first one that doesn't pass
  abbrev pub AreFoundFrom : ℕ → Type 0
  AreFoundFrom n = find (λ a. not (p a)) goals ≡ find (λ a. not (p a)) (drop n goals)

  pub found_there : (n : ℕ) (a : AttrId) → slice_get goals n ≡ Some a → p a ≡ false → AreFoundFrom n → slice_get goals n ≡ find (λ a. not (p a)) goals
  found_there n a there h upto = there ∙ sym (upto ∙ ap (find (λ a. not (p a))) (drop_at goals n a there) ∙ ap (λ b. cond (not b) (Some a) (find (λ a. not (p a)) (drop (n + 1) goals))) h)

  pub found_later : (n : ℕ) (a : AttrId) → slice_get goals n ≡ Some a → p a ≡ true → AreFoundFrom n → AreFoundFrom (n + 1)
  found_later n a there h upto = upto ∙ ap (find (λ a. not (p a))) (drop_at goals n a there) ∙ ap (λ b. cond (not b) (Some a) (find (λ a. not (p a)) (drop (n + 1) goals))) h

  pub found_none : (n : ℕ) → n ≡ length goals → AreFoundFrom n → slice_get goals n ≡ find (λ a. not (p a)) goals
  found_none n over upto = slice_get_past goals n (omega (arith, over)) ∙ sym (upto ∙ ap (find (λ a. not (p a))) (none_behind goals n (omega (arith, over))))

-- one goal has a number
pub same_goal : (a b : AttrId) (o : Option AttrId) → o ≡ Some a → o ≡ Some b → a ≡ b
same_goal a b o e f = cc (e, f)
