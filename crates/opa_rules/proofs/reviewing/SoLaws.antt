-- What is found is so.
use Rattle.std.proofs.Common.{◌≡◌, ◌≢◌, ◌↔◌, IsTrue, not, ◌&&◌, true≢false, ℕ, zero, suc, ◌+◌, Bool, true, false, ◌||◌, List, [], ◌∷◌, ◌++◌, length, take, drop, map, slice_get, Option, None, Some, Contains, if◌then◌else◌, refl, sym, ap, ◌∙◌, subst, ⊎_elim}
use Rattle.std.specs.Prelude.{flat_map, nat_le}
use Rattle.std.proofs.lemmas.List.Elements.{Contains-append_cases}
use Rattle.std.proofs.lemmas.Option.{same_Some}
use Rattle.opa_value.specs.declared.value.Value.{Value}
use Rattle.opa_value.specs.declared.value.Value.TheVariants.{Unknown, Uncertain, Bool as Truth, Num, Words, Day}
use Rattle.opa_cells.specs.declared.instance.InstanceId.{InstanceId}
use Rattle.opa_case.specs.Shapes.{Shape}
use Rattle.opa_tree.specs.declared.expr.Expr.{Expr}
use Rattle.opa_tree.specs.declared.expr.Row.{Row}
use Rattle.opa_tree.specs.declared.expr.Expr.TheVariants as V
use Rattle.opa_tree.specs.declared.rulebase.Rulebase.{Rulebase}
use Rattle.opa_tree.specs.declared.rules.Rule.{Rule}
use Rattle.opa_tree.proofs.Members.{none_in, contains_cases, flat_out}
use Rattle.opa_mean.specs.Looks.{Look}
use Rattle.opa_mean.specs.Meaning.{value, table, choose, row_meaning}
use Rattle.opa_mean.proofs.Values.{value-Const, value-Table}
use Rattle.opa_rules.specs.declared.reviewing.finding.Finding.{Finding}
use Rattle.opa_rules.specs.Reviewing.Alike.{placed, are_alike_attributes, attribute_pair, attributes_at, attributes_with, alike_attributes, are_alike_lists, list_pair, lists_at, lists_with, alike_lists, alike}
use Rattle.opa_rules.specs.Reviewing.Endings.{ends_uncertain, ending, ending_of}
use Rattle.opa_rules.specs.Reviewing.Findings.{warnings, notes}
use Rattle.opa_rules.specs.Reviewing.Laws.{AlwaysAlike, IsUnreached, IsRounding, IsEnding, IsSo, FindingsAreSo}
use Rattle.opa_rules.specs.Reviewing.Roundings.{used, is_rounded, rounding, rounding_of, roundings}
use Rattle.opa_rules.specs.Reviewing.Rows.{always, is_always, is_always_by, differs_by, covers, covering, found_by, of_option, of_place, of_rows, of_rule, rows_of}
use Rattle.opa_rules.specs.Reviewing.Trees.{same_tree}
use Rattle.opa_rules.specs.declared.reviewing.finding.TheConstants.{MOST_COMPARED}
use Rattle.opa_rules.proofs.reviewing.AlikeLaws.{placed_out}
use Rattle.opa_rules.specs.Reviewing.Compared.{compared_in}
use Rattle.opa_rules.specs.Reviewing.Looking.{settled, unused}
use Rattle.opa_rules.proofs.reviewing.ComparedLaws.{compared_so}
use Rattle.opa_rules.proofs.reviewing.FoundLaws.{unused_so, settled_so}
use Rattle.opa_rules.proofs.reviewing.RowLaws.{position_tells, table_of, rows_zero, rows_suc}
use Rattle.opa_rules.proofs.reviewing.TreeLaws.{same_tree-true, same_tree-refl}

-- ---- a table without a row

module _ (s : Shape) (l : Look) (last : Expr) (enclosing : List InstanceId) (d : ℕ) where
  abbrev here : Expr → Value
  here e = value s l e enclosing d

  abbrev tabled : List Row → Value
  tabled rows = table (map (row_meaning s l) rows) (value s l last) enclosing d

  -- a row whose condition is false is passed over
  passes : (before : List Row) (r : Row) (behind : List Row) → here r.cond ≡ Truth false → tabled (before ++ r ∷ behind) ≡ tabled (before ++ behind)
  passes [] r behind e = ap (λ v. choose v (here r.value) (tabled behind)) e
  passes (b ∷ before) r behind e = ap (choose (here b.cond) (here b.value)) (passes before r behind e)

  -- an earlier row with the same condition takes all that the row would
  same_passes : (before : List Row) (n : ℕ) (earlier r : Row) (behind : List Row) → slice_get before n ≡ Some earlier → earlier.cond ≡ r.cond → tabled (before ++ r ∷ behind) ≡ tabled (before ++ behind)
  same_passes [] n earlier r behind at e = absurd (cc at)
  same_passes (b ∷ before) zero earlier r behind at e = go (here b.cond) refl
    where
      go : (v : Value) → here b.cond ≡ v → choose v (here b.value) (tabled (before ++ r ∷ behind)) ≡ choose v (here b.value) (tabled (before ++ behind))
      go (Truth true) is = refl
      go (Truth false) is =
          let same : b ≡ earlier = same_Some b earlier at in
          passes before r behind (ap here (sym (ap (λ (x : Row). x.cond) same ∙ e)) ∙ is)
      go Unknown is = refl
      go Uncertain is = refl
      go (Num m) is = refl
      go (Words t) is = refl
      go (Day m) is = refl
  same_passes (b ∷ before) (suc n) earlier r behind at e = ap (choose (here b.cond) (here b.value)) (same_passes before n earlier r behind at e)

  -- and so does one that is always true
  always_passes : (before : List Row) (n : ℕ) (earlier r : Row) (behind : List Row) → slice_get before n ≡ Some earlier → earlier.cond ≡ always → tabled (before ++ r ∷ behind) ≡ tabled (before ++ behind)
  always_passes [] n earlier r behind at e = absurd (cc at)
  always_passes (b ∷ before) zero earlier r behind at e =
      let same : b ≡ earlier = same_Some b earlier at in
      let is : here b.cond ≡ Truth true = ap here (ap (λ (x : Row). x.cond) same ∙ e) ∙ value-Const s l (Truth true) enclosing d in
      ap (λ v. choose v (here b.value) (tabled (before ++ r ∷ behind))) is ∙ sym (ap (λ v. choose v (here b.value) (tabled (before ++ behind))) is)
  always_passes (b ∷ before) (suc n) earlier r behind at e = ap (choose (here b.cond) (here b.value)) (always_passes before n earlier r behind at e)

  covered : (t : Bool) (before : List Row) (n : ℕ) (earlier r : Row) (behind : List Row) → slice_get before n ≡ Some earlier → earlier.cond ≡ (if t then always else r.cond) → tabled (before ++ r ∷ behind) ≡ tabled (before ++ behind)
  covered true before n earlier r behind at e = always_passes before n earlier r behind at e
  covered false before n earlier r behind at e = same_passes before n earlier r behind at e

pub without_row : (e : Expr) (t : Bool) (before : List Row) (n : ℕ) (earlier r : Row) (behind : List Row) (last : Expr) → e ≡ V.Table (before ++ r ∷ behind) last → slice_get before n ≡ Some earlier
    → earlier.cond ≡ (if t then always else r.cond) → AlwaysAlike e (V.Table (before ++ behind) last)
without_row e t before n earlier r behind last is at because s l enclosing d =
    ap (λ x. value s l x enclosing d) is ∙ value-Table s l (before ++ r ∷ behind) last enclosing d
    ∙ covered s l last enclosing d t before n earlier r behind at because ∙ sym (value-Table s l (before ++ behind) last enclosing d)

-- ---- why a row is covered

because_of : (earlier r : Expr) (t : Bool) → is_always earlier ≡ t → (t || same_tree earlier r) ≡ true → earlier ≡ (if t then always else r)
because_of earlier r true is h = same_tree-true earlier always is
because_of earlier r false is h = same_tree-true earlier r h

-- whether an earlier row with the same condition has another value
differs_tells : (x y : Expr) (a same d : Bool) → same_tree x y ≡ same → d ≡ (not a && not same) → IsTrue d ↔ ((a ≡ false) × (x ≢ y))
differs_tells x y true same d is e = (λ h. absurd (true≢false (sym h ∙ e)), λ p. absurd (true≢false p.0))
differs_tells x y false true d is e = (λ h. absurd (true≢false (sym h ∙ e)), λ p. absurd (p.1 (same_tree-true x y is)))
differs_tells x y false false d is e = (λ h. (refl, λ equal. true≢false (sym (subst (λ z. same_tree x z ≡ true) equal (same_tree-refl x)) ∙ is)), λ p. e)

split_at : (rows : List Row) (n : ℕ) (r : Row) → slice_get rows n ≡ Some r → rows ≡ take n rows ++ r ∷ drop (suc n) rows
split_at [] n r e = absurd (cc e)
split_at (x ∷ rows) zero r e = let same : x ≡ r = same_Some x r e in ap (λ y. y ∷ rows) same
split_at (x ∷ rows) (suc n) r e = ap (λ ys. x ∷ ys) (split_at rows n r e)

module _ (base : Rulebase) where
  abbrev Holds : List Finding → Type 0
  Holds fs = (f : Finding) → Contains fs f → IsSo base f

  none_so : Holds []
  none_so f h = absurd (none_in f h)

  one_so : (x : Finding) → IsSo base x → Holds (x ∷ [])
  one_so x so f h = ⊎_elim (λ e. subst (IsSo base) e so) (λ none. absurd (none_in f none)) (contains_cases x f [] h)

module _ (base : Rulebase) (rule : Rule) (there : Contains base.rules rule) where
  abbrev rows : List Row
  rows = rows_of rule.expr

  row_is : (k : ℕ) (r : Row) → slice_get rows k ≡ Some r → (n : ℕ) → covering (take k rows) r.cond ≡ Some n
      → IsUnreached base (record { attr = rule.attr; file = rule.file; line = rule.line; row = length (take k rows) + 1; earlier = n + 1; always = is_always_by (slice_get (take k rows) n); differs = differs_by (slice_get (take k rows) n) r })
  row_is k r at n first =
      let told = position_tells (λ (x : Row). covers x.cond r.cond) (take k rows) n first in
      let earlier = told.1.0 in
      let stands : slice_get (take k rows) n ≡ Some earlier = told.1.1 in
      let alike : is_always_by (slice_get (take k rows) n) ≡ is_always earlier.cond = ap is_always_by stands in
      let differing : differs_by (slice_get (take k rows) n) r ≡ (not (is_always earlier.cond) && not (same_tree earlier.value r.value)) = ap (λ (o : Option Row). differs_by o r) stands in
      let because : earlier.cond ≡ (if is_always_by (slice_get (take k rows) n) then always else r.cond) =
      because_of earlier.cond r.cond (is_always_by (slice_get (take k rows) n)) (sym alike) (ap (λ b. b || same_tree earlier.cond r.cond) alike ∙ told.1.2) in
      let whole = table_of rule.expr k r at in
      let is : rule.expr ≡ V.Table (take k rows ++ r ∷ drop (suc k) rows) whole.0 = whole.1 ∙ ap (λ xs. V.Table xs whole.0) (split_at rows k r at) in
      record {
        rule = rule;
        of_base = there;
        concludes = refl;
        before = take k rows;
        row = r;
        behind = drop (suc k) rows;
        last = whole.0;
        is_table = is;
        place = refl;
        earlier = earlier;
        earlier_place = n;
        stands = stands;
        counted = refl;
        because = because;
        another_value = differs_tells earlier.value r.value (is_always_by (slice_get (take k rows) n)) (same_tree earlier.value r.value) (differs_by (slice_get (take k rows) n) r) refl (differing ∙ ap (λ a. not a && not (same_tree earlier.value r.value)) (sym alike));
        without_it = without_row rule.expr (is_always_by (slice_get (take k rows) n)) (take k rows) n earlier r (drop (suc k) rows) whole.0 is stands because;
      }

  behind_so : (k : ℕ) (r : Row) → slice_get rows k ≡ Some r → (o : Option ℕ) → covering (take k rows) r.cond ≡ o → Holds base (found_by rule (take k rows) r o)
  behind_so k r at None is = none_so base
  behind_so k r at (Some n) is = one_so base _ (row_is k r at n is)

  place_so : (k : ℕ) (o : Option Row) → slice_get rows k ≡ o → Holds base (of_option rule (take k rows) o)
  place_so k None is = none_so base
  place_so k (Some r) is = behind_so k r is (covering (take k rows) r.cond) refl

  rows_so : (k : ℕ) → Holds base (of_rows rule rows k)
  rows_so zero f h = none_so base f (subst (λ fs. Contains fs f) (rows_zero rule rows) h)
  rows_so (suc k) f h =
      ⊎_elim (rows_so k f) (place_so k (slice_get rows k) refl f) (Contains-append_cases (of_rows rule rows k) (of_place rule rows k) f (subst (λ fs. Contains fs f) (rows_suc rule rows k) h))

  -- ---- notes

  rounded_is : is_rounded base.model (used base) rule ≡ true → IsRounding base (record { attr = rule.attr; file = rule.file; line = rule.line })
  rounded_is is = record { rule = rule; of_base = there; concludes = refl; rounded = is }

  rounding_so : (b : Bool) → is_rounded base.model (used base) rule ≡ b → Holds base (if b then rounding rule ∷ [] else [])
  rounding_so true is = one_so base (rounding rule) (rounded_is is)
  rounding_so false is = none_so base

  ending_is : ends_uncertain rule.expr ≡ true → IsEnding base (record { attr = rule.attr; file = rule.file; line = rule.line })
  ending_is is = record { rule = rule; of_base = there; concludes = refl; ends = is }

  ending_so : (b : Bool) → ends_uncertain rule.expr ≡ b → Holds base (if b then ending rule ∷ [] else [])
  ending_so true is = one_so base (ending rule) (ending_is is)
  ending_so false is = none_so base

module _ (base : Rulebase) where
  rows_are_so : Holds base (flat_map of_rule base.rules)
  rows_are_so f h =
      let rule = flat_out of_rule base.rules f h in
      rows_so base rule.0 rule.1.0 (length (rows_of rule.0.expr)) f rule.1.1

  comparisons_so : Holds base (flat_map (compared_in base) base.rules)
  comparisons_so f h =
      let rule = flat_out (compared_in base) base.rules f h in
      compared_so base rule.0 rule.1.0 (IsSo base) (λ x is. is) f rule.1.1

  attributes_so : Holds base (unused base ++ settled base)
  attributes_so f h = ⊎_elim (unused_so base f) (settled_so base f) (Contains-append_cases (unused base) (settled base) f h)

  warnings_so : Holds base (warnings base)
  warnings_so f h =
      ⊎_elim (rows_are_so f)
      (λ more. ⊎_elim (comparisons_so f) (attributes_so f) (Contains-append_cases (flat_map (compared_in base) base.rules) (unused base ++ settled base) f more))
      (Contains-append_cases (flat_map of_rule base.rules) (flat_map (compared_in base) base.rules ++ (unused base ++ settled base)) f h)

  roundings_so : Holds base (roundings base)
  roundings_so f h =
      let rule = flat_out (rounding_of base.model (used base)) base.rules f h in
      rounding_so base rule.0 rule.1.0 (is_rounded base.model (used base) rule.0) refl f rule.1.1

  endings_so : Holds base (flat_map ending_of base.rules)
  endings_so f h =
      let rule = flat_out ending_of base.rules f h in
      ending_so base rule.0 rule.1.0 (ends_uncertain rule.0.expr) refl f rule.1.1

  -- if anything is found only where a test passes, it is so where it is found
  where_so : (fs : List Finding) (b : Bool) → Holds base fs → Holds base (if b then fs else [])
  where_so fs true so = so
  where_so fs false so = none_so base

  attributes_at_so : (n k : ℕ) (b : Bool) → are_alike_attributes base.model k n ≡ b → Holds base (if b then attribute_pair k n ∷ [] else [])
  attributes_at_so n k true is = one_so base (attribute_pair k n) is
  attributes_at_so n k false is = none_so base

  attributes_with_so : (n : ℕ) → Holds base (attributes_with base.model n)
  attributes_with_so n f h = let k = placed_out (attributes_at base.model n) n f h in attributes_at_so n k.0 (are_alike_attributes base.model k.0 n) refl f k.1

  all_attributes_so : Holds base (placed (attributes_with base.model) (length base.model.attributes))
  all_attributes_so f h = let n = placed_out (attributes_with base.model) (length base.model.attributes) f h in attributes_with_so n.0 f n.1

  lists_at_so : (n k : ℕ) (b : Bool) → are_alike_lists base.model k n ≡ b → Holds base (if b then list_pair k n ∷ [] else [])
  lists_at_so n k true is = one_so base (list_pair k n) is
  lists_at_so n k false is = none_so base

  lists_with_so : (n : ℕ) → Holds base (lists_with base.model n)
  lists_with_so n f h = let k = placed_out (lists_at base.model n) n f h in lists_at_so n k.0 (are_alike_lists base.model k.0 n) refl f k.1

  all_lists_so : Holds base (placed (lists_with base.model) (length base.model.relations))
  all_lists_so f h = let n = placed_out (lists_with base.model) (length base.model.relations) f h in lists_with_so n.0 f n.1

  alike_so : Holds base (alike base.model)
  alike_so f h =
      ⊎_elim
      (where_so (placed (attributes_with base.model) (length base.model.attributes)) (nat_le (length base.model.attributes) MOST_COMPARED) all_attributes_so f)
      (where_so (placed (lists_with base.model) (length base.model.relations)) (nat_le (length base.model.relations) MOST_COMPARED) all_lists_so f)
      (Contains-append_cases (alike_attributes base.model) (alike_lists base.model) f h)

  notes_so : Holds base (notes base)
  notes_so f h =
      ⊎_elim (alike_so f)
      (λ more. ⊎_elim (roundings_so f) (endings_so f) (Contains-append_cases (roundings base) (flat_map ending_of base.rules) f more))
      (Contains-append_cases (alike base.model) (roundings base ++ flat_map ending_of base.rules) f h)

pub findings_are_so : FindingsAreSo
findings_are_so base f h = ⊎_elim (warnings_so base f) (notes_so base f) (Contains-append_cases (warnings base) (notes base) f h)
