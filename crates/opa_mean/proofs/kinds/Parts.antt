-- The parts of a tree that can have a kind can have kinds, and its conditions can be truth values.
use Rattle.std.proofs.Common.{◌≡◌, ◌⊎◌, inl, inr, Bool, true, false, List, [], ◌∷◌, Option, None, Some, Contains, refl, sym, ◌∙◌, ap, subst}
use Rattle.std.specs.Prelude.{map, nat_le, ◌&&◌}
use Rattle.std.specs.List.{list_all, list_any}
use Rattle.std.specs.Option.{option_map_or}
use Rattle.std.proofs.lemmas.Bool.{and_parts, and_from, or_cases}
use Rattle.opa_value.specs.declared.value.Value.TheVariants as value
use Rattle.opa_model.specs.declared.ids.RelId.{RelId}
use Rattle.opa_model.specs.declared.lists.Lists.{Lists}
use Rattle.opa_model.specs.declared.things.Kind.{Kind}
use Rattle.opa_model.specs.declared.things.Kind.TheVariants as kind
use Rattle.opa_model.specs.declared.things.Relation.{Relation}
use Rattle.opa_model.specs.Lookups.{relation_at}
use Rattle.opa_tree.specs.declared.kinds.OpKind.{OpKind}
use Rattle.opa_tree.specs.declared.kinds.OpKind.TheVariants as op
use Rattle.opa_tree.specs.declared.kinds.Quant.{Quant}
use Rattle.opa_tree.specs.declared.kinds.Quant.TheVariants as quant
use Rattle.opa_tree.specs.declared.kinds.WinKind.{WinKind}
use Rattle.opa_tree.specs.declared.kinds.WinKind.TheVariants as win
use Rattle.opa_tree.specs.declared.expr.Expr.{Expr}
use Rattle.opa_tree.specs.declared.expr.Expr.TheOpen.{Expr-F, Const, Attr, All, Any, Not, Op, Certain, Known, Over, Window, Rolling, Table}
use Rattle.opa_tree.specs.declared.expr.Expr.TheVariants as V
use Rattle.opa_tree.specs.declared.expr.Expr.TheFolds.{map-Expr}
use Rattle.opa_tree.specs.declared.expr.Row.{Row}
use Rattle.opa_tree.specs.Kinds.{Typing, is_kind, is_ordered, all_kinds, ordered_kinds, all_can, have, takes, compares, rounds, op_can, quant_can, dated, window_can, kinds_step, typing, can_have}
use Rattle.opa_tree.proofs.Induction.{by_parts, without}
use Rattle.opa_tree.proofs.KindLaws.{row_typing, typing-All, typing-Any, typing-Not, typing-Op, typing-Certain, typing-Known, typing-Over, typing-Window, typing-Rolling, typing-Table, typing-of_row}
use Rattle.opa_tree.proofs.Members.{none_in, contains_cases}
use Rattle.opa_mean.specs.Kinds.Conditions.{IsPartOf, HasWithin, IsConditionOf}
use Rattle.opa_mean.proofs.kinds.OperandKinds.{one_bool, one_number, two_numbers, number_and_test, two_texts, one_date, two_dates, date_and_number, spanning}
use Rattle.opa_mean.proofs.kinds.Passing.{each_passes}
use Rattle.opa_mean.proofs.kinds.Levels.{typing-roll}

-- a literal that says how many decimals are kept is a number
decimals_are_numbers : (m : Lists) (z : Expr-F Typing (Kind → Bool)) → (kinds_step m z).is_decimals ≡ true → (kinds_step m z).can kind.Number ≡ true
decimals_are_numbers m (Const (value.Num n)) h = refl
decimals_are_numbers m (Const _) h = absurd (cc h)
decimals_are_numbers m (Attr a) h = absurd (cc h)
decimals_are_numbers m (All xs) h = absurd (cc h)
decimals_are_numbers m (Any xs) h = absurd (cc h)
decimals_are_numbers m (Not x) h = absurd (cc h)
decimals_are_numbers m (Op k xs) h = absurd (cc h)
decimals_are_numbers m (Certain x) h = absurd (cc h)
decimals_are_numbers m (Known x) h = absurd (cc h)
decimals_are_numbers m (Over q r xs) h = absurd (cc h)
decimals_are_numbers m (Window k xs) h = absurd (cc h)
decimals_are_numbers m (Rolling b n x) h = absurd (cc h)
decimals_are_numbers m (Table rows x) h = absurd (cc h)

module _ (m : Lists) where
  abbrev Counts : Expr → Type 0
  Counts e = (typing m e).is_decimals ≡ true → can_have m e kind.Number ≡ true

  counts : (e : Expr) → Counts e
  counts = by_parts Counts (λ z h.
      ap (λ (t : Typing). t.can kind.Number) (typing-roll m (without Counts z)) ∙ decimals_are_numbers m (map-Expr Expr Row Typing (Kind → Bool) (typing m) (row_typing m) (without Counts z)) (sym (ap (λ (t : Typing). t.is_decimals) (typing-roll m (without Counts z))) ∙ h))

  -- the tree can have a kind
  abbrev pub CanBe : Expr → Type 0
  CanBe e = (k : Kind) × (can_have m e k ≡ true)

  abbrev typings : List Expr → List Typing
  typings es = map (typing m) es

  in_all : (es : List Expr) (k : Kind) (x : Expr) → all_can (typings es) k ≡ true → Contains es x → can_have m x k ≡ true
  in_all es k x = each_passes (λ t. t.can k) (typing m) es x

  one_or : (e x : Expr) (es : List Expr) → CanBe e → (Contains es x → CanBe x) → Contains (e ∷ es) x → CanBe x
  one_or e x es first rest h = go (contains_cases e x es h)
    where
      go : (e ≡ x) ⊎ Contains es x → CanBe x
      go (inl same) = subst CanBe same first
      go (inr there) = rest there

  in_have : (ks : List Kind) (es : List Expr) (x : Expr) → have ks (typings es) ≡ true → Contains es x → CanBe x
  in_have ks [] x c h = absurd (none_in x h)
  in_have [] (e ∷ es) x c h = absurd (cc c)
  in_have (k ∷ ks) (e ∷ es) x c h = let both = and_parts (can_have m e k) _ c in one_or e x es (k, both.0) (in_have ks es x both.1) h

  in_dated : (ds : List Kind) (k : Kind) (es : List Expr) (x : Expr) → dated ds (typings es) k ≡ true → Contains es x → CanBe x
  in_dated ds k [] x c h = absurd (none_in x h)
  in_dated [] k (e ∷ []) x c h = one_or e x [] (k, c) (λ there. absurd (none_in x there)) h
  in_dated [] k (e ∷ f ∷ es) x c h = absurd (cc c)
  in_dated (d ∷ ds) k (e ∷ es) x c h = let both = and_parts (can_have m e d) _ c in one_or e x es (d, both.0) (in_dated ds k es x both.1) h

  in_compared : (ks : List Kind) (es : List Expr) (x : Expr) → list_any (all_can (typings es)) ks ≡ true → Contains es x → CanBe x
  in_compared [] es x c h = absurd (cc c)
  in_compared (k ∷ ks) es x c h = go (or_cases (all_can (typings es) k) _ c) (λ c'. in_compared ks es x c' h)
    where
      go : (all_can (typings es) k ≡ true) ⊎ (list_any (all_can (typings es)) ks ≡ true) → (list_any (all_can (typings es)) ks ≡ true → CanBe x) → CanBe x
      go (inl c') rest = (k, in_all es k x c' h)
      go (inr c') rest = rest c'

  some_kind : (ks : List Kind) (x : Expr) → list_any (can_have m x) ks ≡ true → CanBe x
  some_kind [] x c = absurd (cc c)
  some_kind (k ∷ ks) x c = go (or_cases (can_have m x k) _ c) (some_kind ks x)
    where
      go : (can_have m x k ≡ true) ⊎ (list_any (can_have m x) ks ≡ true) → (list_any (can_have m x) ks ≡ true → CanBe x) → CanBe x
      go (inl c') rest = (k, c')
      go (inr c') rest = rest c'

  in_taken : (ks : List Kind) (given k : Kind) (es : List Expr) (x : Expr) → takes ks given (typings es) k ≡ true → Contains es x → CanBe x
  in_taken ks given k es x c h = in_have ks es x (and_parts (is_kind given k) (have ks (typings es)) c).1 h

  in_compares : (ks : List Kind) (k : Kind) (es : List Expr) (x : Expr) → compares ks (typings es) k ≡ true → Contains es x → CanBe x
  in_compares ks k es x c h = in_compared ks es x (and_parts (is_kind kind.Bool k) (list_any (all_can (typings es)) ks) c).1 h

  in_picked : (k : Kind) (es : List Expr) (x : Expr) → (is_ordered k && all_can (typings es) k) ≡ true → Contains es x → CanBe x
  in_picked k es x c h = (k, in_all es k x (and_parts (is_ordered k) (all_can (typings es) k) c).1 h)

  in_rounded : (k : Kind) (es : List Expr) (x : Expr) → rounds (typings es) k ≡ true → Contains es x → CanBe x
  in_rounded k [] x c h = absurd (cc c)
  in_rounded k (e ∷ []) x c h = absurd (cc c)
  in_rounded k (e ∷ f ∷ []) x c h =
      let outer = and_parts (is_kind kind.Number k && can_have m e kind.Number) (typing m f).is_decimals c in
      let inner = and_parts (is_kind kind.Number k) (can_have m e kind.Number) outer.0 in
      in_have two_numbers (e ∷ f ∷ []) x (both inner.1 (counts f outer.1)) h
    where
      both : can_have m e kind.Number ≡ true → can_have m f kind.Number ≡ true → have two_numbers (typings (e ∷ f ∷ [])) ≡ true
      both p q = and_from (can_have m e kind.Number) (can_have m f kind.Number && true) p (and_from (can_have m f kind.Number) true q refl)
  in_rounded k (e ∷ f ∷ g ∷ es) x c h = absurd (cc c)

  in_operation : (o : OpKind) (k : Kind) (es : List Expr) (x : Expr) → op_can o (typings es) k ≡ true → Contains es x → CanBe x
  in_operation op.Add k es x c h = in_taken two_numbers kind.Number k es x c h
  in_operation op.Sub k es x c h = in_taken two_numbers kind.Number k es x c h
  in_operation op.Mul k es x c h = in_taken two_numbers kind.Number k es x c h
  in_operation op.Div k es x c h = in_taken two_numbers kind.Number k es x c h
  in_operation op.Neg k es x c h = in_taken one_number kind.Number k es x c h
  in_operation op.Eq k es x c h = in_compares all_kinds k es x c h
  in_operation op.Ne k es x c h = in_compares all_kinds k es x c h
  in_operation op.Lt k es x c h = in_compares ordered_kinds k es x c h
  in_operation op.Le k es x c h = in_compares ordered_kinds k es x c h
  in_operation op.Gt k es x c h = in_compares ordered_kinds k es x c h
  in_operation op.Ge k es x c h = in_compares ordered_kinds k es x c h
  in_operation op.Round k es x c h = in_rounded k es x c h
  in_operation op.Min k es x c h = in_picked k es x c h
  in_operation op.Max k es x c h = in_picked k es x c h
  in_operation op.AddDays k es x c h = in_taken date_and_number kind.Date k es x c h
  in_operation op.AddMonths k es x c h = in_taken date_and_number kind.Date k es x c h
  in_operation op.AddYears k es x c h = in_taken date_and_number kind.Date k es x c h
  in_operation op.DaysBetween k es x c h = in_taken two_dates kind.Number k es x c h
  in_operation op.YearsBetween k es x c h = in_taken two_dates kind.Number k es x c h
  in_operation op.YearOf k es x c h = in_taken one_date kind.Number k es x c h
  in_operation op.MonthOf k es x c h = in_taken one_date kind.Number k es x c h
  in_operation op.DayOf k es x c h = in_taken one_date kind.Number k es x c h
  in_operation op.Concatenate k es x c h = in_taken two_texts kind.Words k es x c h

  in_quantifier : (q : Quant) (to_one : Bool) (k : Kind) (es : List Expr) (x : Expr) → quant_can q to_one (typings es) k ≡ true → Contains es x → CanBe x
  in_quantifier quant.ForAll to_one k es x c h = in_taken one_bool kind.Bool k es x c h
  in_quantifier quant.Exists to_one k es x c h = in_taken one_bool kind.Bool k es x c h
  in_quantifier quant.For to_one k es x c h = (k, in_all es k x (and_parts to_one (all_can (typings es) k) c).1 h)
  in_quantifier quant.Count to_one k es x c h = in_taken [] kind.Number k es x c h
  in_quantifier quant.CountIf to_one k es x c h = in_taken one_bool kind.Number k es x c h
  in_quantifier quant.Sum to_one k es x c h = in_taken one_number kind.Number k es x c h
  in_quantifier quant.SumIf to_one k es x c h = in_taken number_and_test kind.Number k es x c h
  in_quantifier quant.Maximum to_one k es x c h = in_picked k es x c h
  in_quantifier quant.Minimum to_one k es x c h = in_picked k es x c h

  in_window : (w : WinKind) (k : Kind) (es : List Expr) (x : Expr) → window_can w (typings es) k ≡ true → Contains es x → CanBe x
  in_window win.ValueAt k es x c h = in_dated one_date k es x c h
  in_window win.Always k es x c h = in_taken (spanning kind.Bool) kind.Bool k es x c h
  in_window win.Sometimes k es x c h = in_taken (spanning kind.Bool) kind.Bool k es x c h
  in_window win.DailySum k es x c h = in_taken (spanning kind.Number) kind.Number k es x c h
  in_window win.Maximum k es x c h = in_dated two_dates k es x (and_parts (is_ordered k) (dated two_dates (typings es) k) c).1 h
  in_window win.Minimum k es x c h = in_dated two_dates k es x (and_parts (is_ordered k) (dated two_dates (typings es) k) c).1 h
  in_window win.ConsecutiveDays k es x c h = in_taken (spanning kind.Bool) kind.Number k es x c h
  in_window win.Before k es x c h = in_taken one_date kind.Bool k es x c h
  in_window win.OnOrAfter k es x c h = in_taken one_date kind.Bool k es x c h
  in_window win.YearsSince k es x c h = in_taken one_date kind.Number k es x c h

  over_related : (q : Quant) (xs : List Typing) (k : Kind) (o : Option Relation) → option_map_or (λ (y : Relation). quant_can q y.one xs k) o false ≡ true → (to_one : Bool) × (quant_can q to_one xs k ≡ true)
  over_related q xs k None c = absurd (cc c)
  over_related q xs k (Some y) c = (y.one, c)

  for_found : (xs : List Typing) (k : Kind) (o : Option Relation) → option_map_or (λ (y : Relation). quant_can quant.For y.one xs k) o false ≡ true → (y : Relation) × (o ≡ Some y) × (y.one ≡ true)
  for_found xs k None c = absurd (cc c)
  for_found xs k (Some y) c = (y, refl, (and_parts y.one (all_can xs k) c).0)

  -- the kinds of a row's condition and value
  in_rows : (rows : List Row) (k : Kind) (row : Row) → list_all (λ f. f k) (map (row_typing m) rows) ≡ true → Contains rows row → (can_have m row.cond kind.Bool ≡ true) × (can_have m row.value k ≡ true)
  in_rows rows k row c h = and_parts (can_have m row.cond kind.Bool) (can_have m row.value k) (sym (ap (λ (f : Kind → Bool). f k) (typing-of_row m row)) ∙ each_passes (λ f. f k) (row_typing m) rows row c h)

  -- what a level's law says of its kinds
  abbrev at : (e : Expr) (z : Expr-F Typing (Kind → Bool)) (k : Kind) → typing m e ≡ kinds_step m z → can_have m e k ≡ true → (kinds_step m z).can k ≡ true
  at e z k law c = sym (ap (λ (t : Typing). t.can k) law) ∙ c

  table_can : (rows : List Row) (last : Expr) (k : Kind) → can_have m (V.Table rows last) k ≡ true → (list_all (λ f. f k) (map (row_typing m) rows) ≡ true) × (can_have m last k ≡ true)
  table_can rows last k c = and_parts (list_all (λ f. f k) (map (row_typing m) rows)) (can_have m last k) (at (V.Table rows last) (Table (map (row_typing m) rows) (typing m last)) k (typing-Table m rows last) c)

  -- `for` stands over a declared relation to one
  pub for_to_one : (r : RelId) (es : List Expr) (k : Kind) → can_have m (V.Over quant.For r es) k ≡ true → (y : Relation) × (relation_at m r ≡ Some y) × (y.one ≡ true)
  for_to_one r es k c = for_found (typings es) k (relation_at m r) (at (V.Over quant.For r es) (Over quant.For r (typings es)) k (typing-Over m quant.For r es) c)

  bools_can : (xs : List Typing) (k : Kind) → (is_kind kind.Bool k && all_can xs kind.Bool) ≡ true → all_can xs kind.Bool ≡ true
  bools_can xs k c = (and_parts (is_kind kind.Bool k) (all_can xs kind.Bool) c).1

  pub part_can : (x : Expr) {e : Expr} → IsPartOf x e → (k : Kind) → can_have m e k ≡ true → CanBe x
  part_can x (IsPartOf.of_all es h) k c = (kind.Bool, in_all es kind.Bool x (bools_can (typings es) k (at (V.All es) (All (typings es)) k (typing-All m es) c)) h)
  part_can x (IsPartOf.of_any es h) k c = (kind.Bool, in_all es kind.Bool x (bools_can (typings es) k (at (V.Any es) (Any (typings es)) k (typing-Any m es) c)) h)
  part_can x IsPartOf.of_not k c = (kind.Bool, (and_parts (is_kind kind.Bool k) (can_have m x kind.Bool) (at (V.Not x) (Not (typing m x)) k (typing-Not m x) c)).1)
  part_can x (IsPartOf.of_operation o es h) k c = in_operation o k es x (at (V.Op o es) (Op o (typings es)) k (typing-Op m o es) c) h
  part_can x IsPartOf.of_certain k c = some_kind all_kinds x (and_parts (is_kind kind.Bool k) (list_any (can_have m x) all_kinds) (at (V.Certain x) (Certain (typing m x)) k (typing-Certain m x) c)).1
  part_can x IsPartOf.of_known k c = some_kind all_kinds x (and_parts (is_kind kind.Bool k) (list_any (can_have m x) all_kinds) (at (V.Known x) (Known (typing m x)) k (typing-Known m x) c)).1
  part_can x (IsPartOf.of_quantifier q r es h) k c = let found = over_related q (typings es) k (relation_at m r) (at (V.Over q r es) (Over q r (typings es)) k (typing-Over m q r es) c) in in_quantifier q found.0 k es x found.1 h
  part_can x (IsPartOf.of_window w es h) k c = in_window w k es x (at (V.Window w es) (Window w (typings es)) k (typing-Window m w es) c) h
  part_can x (IsPartOf.of_rolling b n) k c = (kind.Bool, (and_parts (nat_le 1 n && nat_le n 36600 && is_kind kind.Bool k) (can_have m x kind.Bool) (at (V.Rolling b n x) (Rolling b n (typing m x)) k (typing-Rolling m b n x) c)).1)
  part_can x (IsPartOf.row_condition rows last row h same) k c = subst CanBe same (kind.Bool, (in_rows rows k row (table_can rows last k c).0 h).0)
  part_can x (IsPartOf.row_value rows last row h same) k c = subst CanBe same (k, (in_rows rows k row (table_can rows last k c).0 h).1)
  part_can x (IsPartOf.last_value rows) k c = (k, (table_can rows x k c).1)

  one_bool_can : (g k : Kind) (x : Expr) → takes one_bool g (typings (x ∷ [])) k ≡ true → can_have m x kind.Bool ≡ true
  one_bool_can g k x c = (and_parts (can_have m x kind.Bool) true (and_parts (is_kind g k) (have one_bool (typings (x ∷ []))) c).1).0

  test_can : (k : Kind) (n x : Expr) → takes number_and_test kind.Number (typings (n ∷ x ∷ [])) k ≡ true → can_have m x kind.Bool ≡ true
  test_can k n x c = one_bool_can kind.Number k x (and_from (is_kind kind.Number k) _ outer.0 inner.1)
    where
      outer : (is_kind kind.Number k ≡ true) × (have number_and_test (typings (n ∷ x ∷ [])) ≡ true)
      outer = and_parts (is_kind kind.Number k) (have number_and_test (typings (n ∷ x ∷ []))) c

      inner : (can_have m n kind.Number ≡ true) × (have one_bool (typings (x ∷ [])) ≡ true)
      inner = and_parts (can_have m n kind.Number) (have one_bool (typings (x ∷ []))) outer.1

  abbrev over_can : (q : Quant) (r : RelId) (es : List Expr) (k : Kind) → can_have m (V.Over q r es) k ≡ true → (to_one : Bool) × (quant_can q to_one (typings es) k ≡ true)
  over_can q r es k c = over_related q (typings es) k (relation_at m r) (at (V.Over q r es) (Over q r (typings es)) k (typing-Over m q r es) c)

  -- a condition can be a truth value
  pub condition_can : (x : Expr) {e : Expr} → IsConditionOf x e → (k : Kind) → can_have m e k ≡ true → can_have m x kind.Bool ≡ true
  condition_can x (IsConditionOf.for_all r) k c = one_bool_can kind.Bool k x (over_can quant.ForAll r (x ∷ []) k c).1
  condition_can x (IsConditionOf.exists r) k c = one_bool_can kind.Bool k x (over_can quant.Exists r (x ∷ []) k c).1
  condition_can x (IsConditionOf.count_if r) k c = one_bool_can kind.Number k x (over_can quant.CountIf r (x ∷ []) k c).1
  condition_can x (IsConditionOf.sum_if r n) k c = test_can k n x (over_can quant.SumIf r (n ∷ x ∷ []) k c).1
  condition_can x (IsConditionOf.of_all es h) k c = in_all es kind.Bool x (bools_can (typings es) k (at (V.All es) (All (typings es)) k (typing-All m es) c)) h
  condition_can x (IsConditionOf.of_any es h) k c = in_all es kind.Bool x (bools_can (typings es) k (at (V.Any es) (Any (typings es)) k (typing-Any m es) c)) h
  condition_can x IsConditionOf.of_not k c = (and_parts (is_kind kind.Bool k) (can_have m x kind.Bool) (at (V.Not x) (Not (typing m x)) k (typing-Not m x) c)).1

  pub within_can : (e : Expr) {x : Expr} → HasWithin e x → CanBe e → CanBe x
  within_can e HasWithin.itself can = can
  within_can e (HasWithin.part y x within is) can = let own = within_can e within can in part_can x is own.0 own.1
