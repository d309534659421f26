-- What the bounds and the decimals of its sides say of a comparison.
use Rattle.std.specs.Prelude.{ℕ, ℤ, int_le, int_lt, Bool, true, false, not, ◌&&◌, ◌||◌, List, [], ◌∷◌, flat_map, Option, Some, None, is_some, if◌then◌else◌}
use Rattle.std.specs.Option.{option_and_then, option_map_or}
use Rattle.opa_model.specs.declared.ids.AttrId.{AttrId}
use Rattle.opa_model.specs.declared.things.Attribute.{Attribute}
use Rattle.opa_model.specs.Lookups.{attribute_at}
use Rattle.opa_tree.specs.declared.kinds.OpKind.{OpKind}
use Rattle.opa_tree.specs.declared.kinds.OpKind.TheVariants as op
use Rattle.opa_tree.specs.declared.rulebase.Rulebase.{Rulebase}
use Rattle.opa_tree.specs.declared.rules.Rule.{Rule}
use Rattle.opa_tree.specs.Rules.{rule_of}
use Rattle.opa_case.specs.Steps.{is_number, has_decimals}
use Rattle.opa_mean.specs.Mean.{is_money}
use Rattle.opa_rules.specs.declared.reviewing.finding.Comparison.{Comparison}
use Rattle.opa_rules.specs.declared.reviewing.finding.Finding.{Finding}
use Rattle.opa_rules.specs.declared.reviewing.finding.Finding.TheVariants as finding
use Rattle.opa_rules.specs.declared.reviewing.finding.Operand.{Operand}
use Rattle.opa_rules.specs.declared.reviewing.finding.Operand.TheVariants as operand
use Rattle.opa_rules.specs.declared.reviewing.finding.Verdict.{Verdict}
use Rattle.opa_rules.specs.declared.reviewing.finding.Verdict.TheVariants as verdict
use Rattle.opa_rules.specs.declared.reviewing.judging.Bounds.{Bounds}
use Rattle.opa_rules.specs.Reviewing.Comparisons.{comparisons}

-- ---- the least and the greatest that a side can be

-- the attribute has a rule
abbrev pub is_concluded : Rulebase → AttrId → Bool
is_concluded base a = is_some (rule_of base.rules a)

abbrev pub declared_bounds : Attribute → Option Bounds
declared_bounds x = if is_number x.kind then Some (record { least = x.least; most = x.most }) else None

-- A number is itself. A number that is answered has the declared bounds, and a concluded one has none.
abbrev pub bounds_of : Rulebase → Operand → Option Bounds
bounds_of base (operand.Number n) = Some (record { least = n; most = n })
bounds_of base (operand.Attr a) = if is_concluded base a then None else option_and_then declared_bounds (attribute_at base.model a)

-- a comparison of what lies in the first bounds with what lies in the second is never true
abbrev pub never_true : OpKind → Bounds → Bounds → Bool
never_true op.Lt a b = int_le b.most a.least
never_true op.Gt a b = int_le a.most b.least
never_true op.Le a b = int_lt b.most a.least
never_true op.Ge a b = int_lt a.most b.least
never_true op.Eq a b = int_lt b.most a.least || int_lt a.most b.least
never_true op.Ne a b = int_le b.most a.least && int_le a.most b.least
never_true _ a b = false

-- what is true exactly where the operation is false
abbrev pub opposite : OpKind → OpKind
opposite op.Lt = op.Ge
opposite op.Gt = op.Le
opposite op.Le = op.Gt
opposite op.Ge = op.Lt
opposite op.Eq = op.Ne
opposite op.Ne = op.Eq
opposite k = k

abbrev pub never_between : OpKind → Option Bounds → Option Bounds → Bool
never_between k (Some a) (Some b) = never_true k a b
never_between k _ _ = false

-- ---- the decimals that an attribute can have

-- A concluded currency has two, and a number that is answered those that are declared.
abbrev pub decimals_by : Bool → Attribute → Option ℕ
decimals_by true x = if is_money x.kind then Some 2 else None
decimals_by false x = if is_number x.kind then Some x.decimals else None

abbrev pub decimals_of : Rulebase → AttrId → Option ℕ
decimals_of base a = option_and_then (decimals_by (is_concluded base a)) (attribute_at base.model a)

abbrev pub cant_be : Rulebase → AttrId → ℤ → Bool
cant_be base a n = option_map_or (λ decimals. not (has_decimals decimals n)) (decimals_of base a) false

-- one side is a number with more decimals than the other can have
abbrev pub never_equal : Rulebase → Operand → Operand → Bool
never_equal base (operand.Attr a) (operand.Number n) = cant_be base a n
never_equal base (operand.Number n) (operand.Attr a) = cant_be base a n
never_equal base _ _ = false

-- ---- what is found

abbrev pub verdict_of : Rulebase → Comparison → Option Verdict
verdict_of base c =
    if never_between c.operation (bounds_of base c.left) (bounds_of base c.right) then Some verdict.NeverTrue else
    if never_between (opposite c.operation) (bounds_of base c.left) (bounds_of base c.right) then Some verdict.NeverFalse else
    if never_equal base c.left c.right then Some verdict.NeverEqual else None

abbrev pub found_by : Rule → Comparison → Option Verdict → List Finding
found_by rule c None = []
found_by rule c (Some v) = finding.Compared (record { attr = rule.attr; file = rule.file; line = rule.line; comparison = c; verdict = v }) ∷ []

abbrev pub of_comparison : Rulebase → Rule → Comparison → List Finding
of_comparison base rule c = found_by rule c (verdict_of base c)

-- what is found of the comparisons of a rule
abbrev pub compared_in : Rulebase → Rule → List Finding
compared_in base rule = flat_map (of_comparison base rule) (comparisons rule.expr)
