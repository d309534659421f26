-- What a finding about a comparison says.
use Rattle.std.specs.Prelude.{ℕ, ℤ, int_le, ◌==◌, List, [], ◌++◌, codes, Option, Some, None, option_map, if◌then◌else◌}
use Rattle.std.specs.Fmt.{decimal}
use Rattle.std.specs.Option.{unwrap_or}
use Rattle.std.specs.Ordering.{int_eq}
use Rattle.opa_value.specs.Numbers.{kept}
use Rattle.opa_value.specs.NumberText.{plain_text}
use Rattle.opa_model.specs.declared.ids.AttrId.{AttrId}
use Rattle.opa_model.specs.declared.lists.Lists.{Lists}
use Rattle.opa_tree.specs.declared.kinds.OpKind.{OpKind}
use Rattle.opa_tree.specs.declared.kinds.OpKind.TheVariants as op
use Rattle.opa_tree.specs.declared.rulebase.Rulebase.{Rulebase}
use Rattle.opa_rules.specs.declared.reviewing.finding.Compared.{Compared}
use Rattle.opa_rules.specs.declared.reviewing.finding.Comparison.{Comparison}
use Rattle.opa_rules.specs.declared.reviewing.finding.Operand.{Operand}
use Rattle.opa_rules.specs.declared.reviewing.finding.Operand.TheVariants as operand
use Rattle.opa_rules.specs.declared.reviewing.finding.Verdict.{Verdict}
use Rattle.opa_rules.specs.declared.reviewing.finding.Verdict.TheVariants as verdict
use Rattle.opa_rules.specs.declared.reviewing.judging.Bounds.{Bounds}
use Rattle.opa_rules.specs.Reviewing.Compared.{bounds_of, decimals_of}
use Rattle.opa_rules.specs.Reviewing.Phrases.{phrase_of}

abbrev pub number_words : ℤ → List ℕ
number_words n = unwrap_or (option_map plain_text (kept n)) []

abbrev pub quoted : Lists → AttrId → List ℕ
quoted m a = codes "'" ++ (phrase_of m a ++ codes "'")

abbrev pub side_words : Lists → Operand → List ℕ
side_words m (operand.Number n) = number_words n
side_words m (operand.Attr a) = quoted m a

abbrev pub sign : OpKind → List ℕ
sign op.Eq = codes "="
sign op.Ne = codes "<>"
sign op.Lt = codes "<"
sign op.Le = codes "<="
sign op.Gt = codes ">"
sign op.Ge = codes ">="
sign _ = []

-- `'the age' > 130`
abbrev pub comparison_words : Lists → Comparison → List ℕ
comparison_words m c = side_words m c.left ++ (codes " " ++ (sign c.operation ++ (codes " " ++ side_words m c.right)))

-- which of an attribute's bounds keeps it apart from what lies in others
abbrev pub limit_words : Bounds → Bounds → List ℕ
limit_words a b =
    if int_eq a.least a.most then codes " is " ++ number_words a.least else
    if int_le b.most a.least then codes " is at least " ++ number_words a.least else codes " is at most " ++ number_words a.most

abbrev pub bound_words : Lists → AttrId → Bounds → Bounds → List ℕ
bound_words m a mine others = quoted m a ++ limit_words mine others

-- the bounds of the attributes among two sides
abbrev pub between_words : Lists → Operand → Operand → Bounds → Bounds → List ℕ
between_words m (operand.Attr a) (operand.Attr b) x y = codes ": " ++ (bound_words m a x y ++ (codes ", and " ++ bound_words m b y x))
between_words m (operand.Attr a) (operand.Number n) x y = codes ": " ++ bound_words m a x y
between_words m (operand.Number n) (operand.Attr b) x y = codes ": " ++ bound_words m b y x
between_words m (operand.Number n) (operand.Number k) x y = []

abbrev pub reason_by : Lists → Operand → Operand → Option Bounds → Option Bounds → List ℕ
reason_by m l r (Some x) (Some y) = between_words m l r x y
reason_by m l r _ _ = []

abbrev pub bounds_reason : Rulebase → Comparison → List ℕ
bounds_reason base c = reason_by base.model c.left c.right (bounds_of base c.left) (bounds_of base c.right)

abbrev pub decimals_words : Option ℕ → List ℕ
decimals_words None = []
decimals_words (Some n) =
    if n == 0 then codes " is a whole number" else
    if n == 1 then codes " has at most 1 decimal" else codes " has at most " ++ (decimal n ++ codes " decimals")

-- the decimals of the attribute among two sides
abbrev pub decimals_reason : Rulebase → Operand → Operand → List ℕ
decimals_reason base (operand.Attr a) r = quoted base.model a ++ decimals_words (decimals_of base a)
decimals_reason base (operand.Number n) (operand.Attr b) = quoted base.model b ++ decimals_words (decimals_of base b)
decimals_reason base (operand.Number n) (operand.Number k) = []

abbrev pub verdict_words : Rulebase → Comparison → Verdict → List ℕ
verdict_words base c verdict.NeverTrue = codes " is never true" ++ bounds_reason base c
verdict_words base c verdict.NeverFalse = codes " is never false" ++ bounds_reason base c
verdict_words base c verdict.NeverEqual = codes " is with a number that can't be: " ++ decimals_reason base c.left c.right

-- `in the rule for 'PHRASE' the comparison 'the age' > 130 is never true: 'the age' is at most 120`
abbrev pub compared_words : Rulebase → Compared → List ℕ
compared_words base f =
    codes "in the rule for " ++ (quoted base.model f.attr ++ (codes " the comparison " ++ (comparison_words base.model f.comparison ++ verdict_words base f.comparison f.verdict)))
