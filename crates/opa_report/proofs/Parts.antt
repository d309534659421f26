-- Uses of trees by their parts.
use Rattle.std.proofs.Common.{◌≡◌, ◌≤◌, ◌<◌, ◌↔◌, ◌⊎◌, inl, inr, ℕ, Bool, true, false, List, [], ◌∷◌, ◌++◌, map, length, get_or, Option, None, Some, Contains, refl, sym, ◌∙◌, ap, subst, arith}
use Rattle.std.specs.Prelude.{find, flat_map}
use Rattle.std.specs.List.{AllByRecursion}
use Rattle.std.proofs.lemmas.List.Elements.{Contains-append_left, Contains-append_right, Contains-append_cases}
use Rattle.opa_date.specs.declared.TheConstants.{DAYS}
use Rattle.opa_value.specs.declared.value.Value.{Value}
use Rattle.opa_value.specs.Truth.{is_true, is_false}
use Rattle.opa_line.specs.Lines.{StandsFor}
use Rattle.opa_model.specs.declared.ids.RelId.{RelId}
use Rattle.opa_case.specs.Shapes.{Shape}
use Rattle.opa_cells.specs.declared.instance.InstanceId.{InstanceId}
use Rattle.opa_cells.specs.Instances.{named}
use Rattle.opa_report.specs.DaySets.Sets.{on}
use Rattle.opa_tree.specs.declared.kinds.Quant.{Quant}
use Rattle.opa_tree.specs.declared.kinds.Quant.TheVariants as quant
use Rattle.opa_tree.specs.declared.expr.Expr.{Expr}
use Rattle.opa_tree.specs.declared.expr.Expr.TheVariants as V
use Rattle.opa_tree.proofs.Members.{flat_in, flat_out}
use Rattle.opa_window.specs.Days.{day_value}
use Rattle.opa_mean.specs.Looks.{Look}
use Rattle.opa_mean.specs.Meaning.{value}
use Rattle.opa_mean.specs.Places.{place}
use Rattle.opa_mean.specs.Uses.{Use, Used, found_or, member_uses, item_uses, item_value, Listed, first_or_all, at_place_uses, over_uses, window_uses, on_date_uses, in_window_uses, uses}
use Rattle.opa_report.specs.declared.found.Found.{Found}
use Rattle.opa_report.specs.Adding.{Adds}
use Rattle.opa_report.specs.Dates.{IsLedTo, date_span, window_span}
use Rattle.opa_report.specs.Spreading.{is_truth, decider, is_sum_if, taken_uses, date_days, window_days}
use Rattle.opa_report.proofs.Combining.{adds_same, adds_both, adds_over, adds_alike}
use Rattle.opa_report.proofs.Dating.{date_same, window_same, leads_same, date_low, window_low, on_date, in_window}
use Rattle.opa_report.proofs.Going.{line_at}
use Rattle.opa_mean.proofs.UseLaws.{uses-Over}

-- lists of one and of two
pub one_is : (ts : List Expr) (a : Expr) → 1 ≤ length ts → length ts < 2 → a ≡ get_or ts 0 a → ts ≡ a ∷ []
one_is [] a low high is = absurd (omega (arith, low))
one_is (t ∷ []) a low high is = ap (λ y. y ∷ []) (sym is)
one_is (t ∷ u ∷ ts) a low high is = absurd (omega (arith, high))

pub two_are : (ts : List Expr) (a b : Expr) → 2 ≤ length ts → length ts < 3 → a ≡ get_or ts 0 a → b ≡ get_or ts 1 b → ts ≡ a ∷ b ∷ []
two_are [] a b low high ea eb = absurd (omega (arith, low))
two_are (t ∷ []) a b low high ea eb = absurd (omega (arith, low))
two_are (t ∷ u ∷ []) a b low high ea eb = ap (λ y. y ∷ u ∷ []) (sym ea) ∙ ap (λ y. a ∷ y ∷ []) (sym eb)
two_are (t ∷ u ∷ v ∷ ts) a b low high ea eb = absurd (omega (arith, high))

-- what two functions give for things, by turns or one after the other
flat_both : {X : Type 0} (u v : X → List Use) (xs : List X) (w : Use) → Contains (flat_map u xs ++ flat_map v xs) w ↔ Contains (flat_map (λ x. u x ++ v x) xs) w
flat_both {X = X} u v xs w = (λ h. go (Contains-append_cases (flat_map u xs) (flat_map v xs) w h), λ h. let y = flat_out (λ x. u x ++ v x) xs w h in back y.0 y.1.0 (Contains-append_cases (u y.0) (v y.0) w y.1.1))
  where
    go : Contains (flat_map u xs) w ⊎ Contains (flat_map v xs) w → Contains (flat_map (λ x. u x ++ v x) xs) w
    go (inl h) = let y = flat_out u xs w h in flat_in (λ x. u x ++ v x) xs y.0 w y.1.0 (Contains-append_left (u y.0) (v y.0) w y.1.1)
    go (inr h) = let y = flat_out v xs w h in flat_in (λ x. u x ++ v x) xs y.0 w y.1.0 (Contains-append_right (u y.0) (v y.0) w y.1.1)

    back : (y : X) → Contains xs y → Contains (u y) w ⊎ Contains (v y) w → Contains (flat_map u xs ++ flat_map v xs) w
    back y there (inl h) = Contains-append_left (flat_map u xs) (flat_map v xs) w (flat_in u xs y w there h)
    back y there (inr h) = Contains-append_right (flat_map u xs) (flat_map v xs) w (flat_in v xs y w there h)

abbrev no_use : {X : Type 0} → X → List Use
no_use x = []

none_flat : {X : Type 0} (xs : List X) → flat_map no_use xs ≡ []
none_flat [] = refl
none_flat (x ∷ xs) = none_flat xs

none_first : {X : Type 0} (p : X → Bool) (xs : List X) → first_or_all p no_use xs ≡ []
none_first {X = X} p xs = go (find p xs)
  where
    go : (o : Option X) → found_or o no_use (flat_map no_use xs) ≡ []
    go None = none_flat xs
    go (Some x) = refl

-- the live instances of a list, by other words for the same
pub names_live : (Live : InstanceId → Type 0) (t t' : ℕ) (names names' : List (List ℕ)) → t' ≡ t → names' ≡ names → AllByRecursion (λ n. Live (named t n)) names → AllByRecursion (λ n. Live (named t' n)) names'
names_live Live t t' names names' et en h = subst (λ (ns : List (List ℕ)). AllByRecursion (λ n. Live (named t' n)) ns) (sym en) (subst (λ (k : ℕ). AllByRecursion (λ n. Live (named k n)) names) (sym et) h)

module _ (s : Shape) (l : Look) where
  -- a quantifier over a list that is known
  pub over_known : (q : Quant) (r : RelId) (es es' : List Expr) (i : InstanceId) (t : ℕ) (names names' : List (List ℕ)) (enclosing : List InstanceId) (d : ℕ)
      → es' ≡ es → t ≡ s.target r → names' ≡ names → Some i ≡ place l.container enclosing (s.source r) → Some names ≡ l.members r i
      → Listed r i ∷ over_uses s l q t (Some names') (map (λ e. (e, uses s l e)) es') enclosing d ≡ uses s l (V.Over q r es) enclosing d
  over_known q r es es' i t names names' enclosing d ees et en at listed =
      ap (λ xs. Listed r i ∷ over_uses s l q t (Some names') (map (λ e. (e, uses s l e)) xs) enclosing d) ees
      ∙ ap (λ k. Listed r i ∷ over_uses s l q k (Some names') (map (λ e. (e, uses s l e)) es) enclosing d) et
      ∙ ap (λ ns. Listed r i ∷ over_uses s l q (s.target r) (Some ns) (map (λ e. (e, uses s l e)) es) enclosing d) en
      ∙ ap (λ o. Listed r i ∷ over_uses s l q (s.target r) o (map (λ e. (e, uses s l e)) es) enclosing d) listed
      ∙ ap (λ o. at_place_uses o (λ i. Listed r i ∷ over_uses s l q (s.target r) (l.members r i) (map (λ e. (e, uses s l e)) es) enclosing d)) at
      ∙ sym (uses-Over s l q r es enclosing d)

  pub over_unknown : (q : Quant) (r : RelId) (es : List Expr) (i : InstanceId) (enclosing : List InstanceId) (d : ℕ) → Some i ≡ place l.container enclosing (s.source r) → None ≡ l.members r i → Listed r i ∷ [] ≡ uses s l (V.Over q r es) enclosing d
  over_unknown q r es i enclosing d at listed =
      ap (λ o. Listed r i ∷ over_uses s l q (s.target r) o (map (λ e. (e, uses s l e)) es) enclosing d) listed
      ∙ ap (λ o. at_place_uses o (λ i. Listed r i ∷ over_uses s l q (s.target r) (l.members r i) (map (λ e. (e, uses s l e)) es) enclosing d)) at
      ∙ sym (uses-Over s l q r es enclosing d)

  -- members: the first that decides, or each
  pub over_deciding : (q : Quant) (t : ℕ) (b : Bool) (names : List (List ℕ)) (e : Expr) (enclosing : List InstanceId) (d : ℕ) → decider q ≡ Some b
      → first_or_all (λ n. is_truth b (value s l e (named t n ∷ enclosing) d)) (λ n. uses s l e (named t n ∷ enclosing) d) names ≡ over_uses s l q t (Some names) ((e, uses s l e) ∷ []) enclosing d
  over_deciding quant.ForAll t b names e enclosing d is = ap (λ b. first_or_all (λ n. is_truth b (value s l e (named t n ∷ enclosing) d)) (λ n. uses s l e (named t n ∷ enclosing) d) names) (sym (some_same is))
    where
      some_same : {a b : Bool} → Some a ≡ Some b → a ≡ b
      some_same h = cc h
  over_deciding quant.Exists t b names e enclosing d is = ap (λ b. first_or_all (λ n. is_truth b (value s l e (named t n ∷ enclosing) d)) (λ n. uses s l e (named t n ∷ enclosing) d) names) (sym (some_same is))
    where
      some_same : {a b : Bool} → Some a ≡ Some b → a ≡ b
      some_same h = cc h
  over_deciding quant.Count t b names e enclosing d is = absurd (cc is)
  over_deciding quant.CountIf t b names e enclosing d is = absurd (cc is)
  over_deciding quant.Sum t b names e enclosing d is = absurd (cc is)
  over_deciding quant.SumIf t b names e enclosing d is = absurd (cc is)
  over_deciding quant.Maximum t b names e enclosing d is = absurd (cc is)
  over_deciding quant.Minimum t b names e enclosing d is = absurd (cc is)
  over_deciding quant.For t b names e enclosing d is = absurd (cc is)

  pub over_each : (q : Quant) (t : ℕ) (names : List (List ℕ)) (e : Expr) (enclosing : List InstanceId) (d : ℕ) → decider q ≡ None
      → flat_map (λ n. uses s l e (named t n ∷ enclosing) d) names ≡ over_uses s l q t (Some names) ((e, uses s l e) ∷ []) enclosing d
  over_each quant.ForAll t names e enclosing d is = absurd (cc is)
  over_each quant.Exists t names e enclosing d is = absurd (cc is)
  over_each quant.Count t names e enclosing d is = refl
  over_each quant.CountIf t names e enclosing d is = refl
  over_each quant.Sum t names e enclosing d is = refl
  over_each quant.SumIf t names e enclosing d is = refl
  over_each quant.Maximum t names e enclosing d is = refl
  over_each quant.Minimum t names e enclosing d is = refl
  over_each quant.For t names e enclosing d is = refl

  -- a sum over those that pass a test
  pub over_tested : (q : Quant) (t : ℕ) (names : List (List ℕ)) (number test : Expr) (enclosing : List InstanceId) (days : List (ℕ × Bool)) (f g h : Found) → is_sum_if q ≡ true
      → Adds (on days) (λ d. flat_map (λ n. uses s l test (named t n ∷ enclosing) d) names) f g → Adds (on days) (λ d. flat_map (λ n. taken_uses s l number test (named t n ∷ enclosing) d) names) g h
      → Adds (on days) (over_uses s l q t (Some names) ((number, uses s l number) ∷ (test, uses s l test) ∷ []) enclosing) f h
  over_tested quant.SumIf t names number test enclosing days f g h is one two = adds_alike (on days) _ _ f h (λ d u. both d u) (adds_both (on days) _ _ f g h one two)
    where
      both : (d : ℕ) (u : Use) → Contains (flat_map (λ n. uses s l test (named t n ∷ enclosing) d) names ++ flat_map (λ n. taken_uses s l number test (named t n ∷ enclosing) d) names) u
          ↔ Contains (flat_map (λ n. uses s l test (named t n ∷ enclosing) d ++ taken_uses s l number test (named t n ∷ enclosing) d) names) u
      both d u = flat_both (λ n. uses s l test (named t n ∷ enclosing) d) (λ n. taken_uses s l number test (named t n ∷ enclosing) d) names u
  over_tested quant.ForAll t names number test enclosing days f g h is one two = absurd (cc is)
  over_tested quant.Exists t names number test enclosing days f g h is one two = absurd (cc is)
  over_tested quant.Count t names number test enclosing days f g h is one two = absurd (cc is)
  over_tested quant.CountIf t names number test enclosing days f g h is one two = absurd (cc is)
  over_tested quant.Sum t names number test enclosing days f g h is one two = absurd (cc is)
  over_tested quant.Maximum t names number test enclosing days f g h is one two = absurd (cc is)
  over_tested quant.Minimum t names number test enclosing days f g h is one two = absurd (cc is)
  over_tested quant.For t names number test enclosing days f g h is one two = absurd (cc is)

  -- functions over time of two and of three operands
  pub window_two : (date x : Expr) (enclosing : List InstanceId) (days w : List (ℕ × Bool)) (line : List (ℕ × Value)) (f g h : Found) → Adds (on days) (uses s l date enclosing) f g → StandsFor DAYS (value s l date enclosing) line
      → IsLedTo (on days) (λ d. date_span (day_value line d)) w → Adds (on w) (uses s l x enclosing) g h → Adds (on days) (window_uses s l ((date, uses s l date) ∷ (x, uses s l x) ∷ []) enclosing) f h
  window_two date x enclosing days w line f g h dates stands led there =
      adds_same (on days) _ _ f h (λ d low _. ap (λ us. uses s l date enclosing d ++ us) (sym (on_date (uses s l x enclosing) (day_value line d)) ∙ ap (on_date_uses (uses s l x enclosing)) (line_at _ line d stands low)))
      (adds_both (on days) _ _ f g h dates
      (adds_over (on days) (on w) (λ d. date_days (day_value line d)) (uses s l x enclosing) g h (leads_same (on days) (λ d. date_span (day_value line d)) (λ d. date_days (day_value line d)) w (λ d. date_same (day_value line d)) led) (λ d e _ _ k. date_low (day_value line d) e k) there))

  pub window_three : (start end x : Expr) (enclosing : List InstanceId) (days w : List (ℕ × Bool)) (first last : List (ℕ × Value)) (f g k h : Found) → Adds (on days) (uses s l start enclosing) f g → Adds (on days) (uses s l end enclosing) g k
      → StandsFor DAYS (value s l start enclosing) first → StandsFor DAYS (value s l end enclosing) last
      → IsLedTo (on days) (λ d. window_span (day_value first d) (day_value last d)) w → Adds (on w) (uses s l x enclosing) k h → Adds (on days) (window_uses s l ((start, uses s l start) ∷ (end, uses s l end) ∷ (x, uses s l x) ∷ []) enclosing) f h
  window_three start end x enclosing days w first last f g k h starts ends from to led there =
      adds_same (on days) _ _ f h
      (λ d low _. ap (λ us. uses s l start enclosing d ++ (uses s l end enclosing d ++ us))
      (sym (in_window (uses s l x enclosing) (day_value first d) (day_value last d))
      ∙ ap (λ v. in_window_uses (uses s l x enclosing) v (day_value last d)) (line_at _ first d from low) ∙ ap (in_window_uses (uses s l x enclosing) (value s l start enclosing d)) (line_at _ last d to low)))
      (adds_both (on days) _ _ f g h starts
      (adds_both (on days) _ _ g k h ends
      (adds_over (on days) (on w) (λ d. window_days (day_value first d) (day_value last d)) (uses s l x enclosing) k h
      (leads_same (on days) (λ d. window_span (day_value first d) (day_value last d)) (λ d. window_days (day_value first d) (day_value last d)) w (λ d. window_same (day_value first d) (day_value last d)) led) (λ d e _ _ q. window_low (day_value first d) (day_value last d) e q) there)))

  -- nothing is used of another number of trees
  abbrev pub pairs : List Expr → List Used
  pairs ts = map (λ e. (e, uses s l e)) ts

  item_none_of_none : (q : Quant) (enclosing : List InstanceId) (d : ℕ) → item_uses s l q (pairs []) enclosing d ≡ []
  item_none_of_none quant.ForAll enclosing d = refl
  item_none_of_none quant.Exists enclosing d = refl
  item_none_of_none quant.Count enclosing d = refl
  item_none_of_none quant.CountIf enclosing d = refl
  item_none_of_none quant.Sum enclosing d = refl
  item_none_of_none quant.SumIf enclosing d = refl
  item_none_of_none quant.Maximum enclosing d = refl
  item_none_of_none quant.Minimum enclosing d = refl
  item_none_of_none quant.For enclosing d = refl

  item_none_of_more : (q : Quant) (a b e : Expr) (ts : List Expr) (enclosing : List InstanceId) (d : ℕ) → item_uses s l q (pairs (a ∷ b ∷ e ∷ ts)) enclosing d ≡ []
  item_none_of_more quant.ForAll a b e ts enclosing d = refl
  item_none_of_more quant.Exists a b e ts enclosing d = refl
  item_none_of_more quant.Count a b e ts enclosing d = refl
  item_none_of_more quant.CountIf a b e ts enclosing d = refl
  item_none_of_more quant.Sum a b e ts enclosing d = refl
  item_none_of_more quant.SumIf a b e ts enclosing d = refl
  item_none_of_more quant.Maximum a b e ts enclosing d = refl
  item_none_of_more quant.Minimum a b e ts enclosing d = refl
  item_none_of_more quant.For a b e ts enclosing d = refl

  item_none_of_two : (q : Quant) (a b : Expr) (enclosing : List InstanceId) (d : ℕ) → is_sum_if q ≡ false → item_uses s l q (pairs (a ∷ b ∷ [])) enclosing d ≡ []
  item_none_of_two quant.ForAll a b enclosing d is = refl
  item_none_of_two quant.Exists a b enclosing d is = refl
  item_none_of_two quant.Count a b enclosing d is = refl
  item_none_of_two quant.CountIf a b enclosing d is = refl
  item_none_of_two quant.Sum a b enclosing d is = refl
  item_none_of_two quant.SumIf a b enclosing d is = absurd (cc is)
  item_none_of_two quant.Maximum a b enclosing d is = refl
  item_none_of_two quant.Minimum a b enclosing d is = refl
  item_none_of_two quant.For a b enclosing d is = refl

  no_members : (q : Quant) (v : List ℕ → Value) (names : List (List ℕ)) → member_uses q v no_use names ≡ []
  no_members quant.ForAll v names = none_first (λ n. is_false (v n)) names
  no_members quant.Exists v names = none_first (λ n. is_true (v n)) names
  no_members quant.Count v names = none_flat names
  no_members quant.CountIf v names = none_flat names
  no_members quant.Sum v names = none_flat names
  no_members quant.SumIf v names = none_flat names
  no_members quant.Maximum v names = none_flat names
  no_members quant.Minimum v names = none_flat names
  no_members quant.For v names = none_flat names

  over_none : (q : Quant) (t : ℕ) (names : List (List ℕ)) (ts : List Expr) (enclosing : List InstanceId) (d : ℕ) → ((n : List ℕ) → item_uses s l q (pairs ts) (named t n ∷ enclosing) d ≡ []) → over_uses s l q t (Some names) (pairs ts) enclosing d ≡ []
  over_none q t names ts enclosing d none = ap (λ (u : List ℕ → List Use). member_uses q (λ n. item_value s l q (pairs ts) (named t n ∷ enclosing) d) u names) (λ i n. none n i) ∙ no_members q (λ n. item_value s l q (pairs ts) (named t n ∷ enclosing) d) names

  pub over_few : (q : Quant) (t : ℕ) (names : List (List ℕ)) (ts : List Expr) (enclosing : List InstanceId) (d : ℕ) → length ts < 1 → [] ≡ over_uses s l q t (Some names) (pairs ts) enclosing d
  over_few q t names [] enclosing d lt = sym (over_none q t names [] enclosing d (λ n. item_none_of_none q (named t n ∷ enclosing) d))
  over_few q t names (e ∷ ts) enclosing d lt = absurd (omega (arith, lt))

  pub over_two : (q : Quant) (t : ℕ) (names : List (List ℕ)) (ts : List Expr) (enclosing : List InstanceId) (d : ℕ) → 2 ≤ length ts → length ts < 3 → is_sum_if q ≡ false → [] ≡ over_uses s l q t (Some names) (pairs ts) enclosing d
  over_two q t names (a ∷ b ∷ []) enclosing d low high is = sym (over_none q t names (a ∷ b ∷ []) enclosing d (λ n. item_none_of_two q a b (named t n ∷ enclosing) d is))
  over_two q t names [] enclosing d low high is = absurd (omega (arith, low))
  over_two q t names (a ∷ []) enclosing d low high is = absurd (omega (arith, low))
  over_two q t names (a ∷ b ∷ e ∷ ts) enclosing d low high is = absurd (omega (arith, high))

  pub over_many : (q : Quant) (t : ℕ) (names : List (List ℕ)) (ts : List Expr) (enclosing : List InstanceId) (d : ℕ) → 3 ≤ length ts → [] ≡ over_uses s l q t (Some names) (pairs ts) enclosing d
  over_many q t names (a ∷ b ∷ e ∷ ts) enclosing d low = sym (over_none q t names (a ∷ b ∷ e ∷ ts) enclosing d (λ n. item_none_of_more q a b e ts (named t n ∷ enclosing) d))
  over_many q t names [] enclosing d low = absurd (omega (arith, low))
  over_many q t names (a ∷ []) enclosing d low = absurd (omega (arith, low))
  over_many q t names (a ∷ b ∷ []) enclosing d low = absurd (omega (arith, low))
