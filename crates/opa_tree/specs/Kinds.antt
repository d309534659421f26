-- The kinds that a tree can have.
use Rattle.std.specs.Prelude.{ℕ, ℤ, pos, ◌%◌, Bool, true, false, ◌&&◌, ◌==◌, nat_le, int_le, List, [], ◌∷◌}
use Rattle.std.specs.Int.RustNames.{unsigned_abs}
use Rattle.std.specs.List.{list_any, list_all}
use Rattle.std.specs.Option.{option_map_or}
use Rattle.opa_value.specs.declared.value.Value.{Value}
use Rattle.opa_value.specs.declared.value.Value.TheVariants as value
use Rattle.opa_model.specs.declared.things.Kind.{Kind}
use Rattle.opa_model.specs.declared.things.Kind.TheVariants as kind
use Rattle.opa_model.specs.declared.lists.Lists.{Lists}
use Rattle.opa_model.specs.Lookups.{attribute_at, relation_at}
use Rattle.opa_tree.specs.declared.kinds.OpKind.{OpKind}
use Rattle.opa_tree.specs.declared.kinds.OpKind.TheVariants as op
use Rattle.opa_tree.specs.declared.kinds.Quant.{Quant}
use Rattle.opa_tree.specs.declared.kinds.Quant.TheVariants as quant
use Rattle.opa_tree.specs.declared.kinds.WinKind.{WinKind}
use Rattle.opa_tree.specs.declared.kinds.WinKind.TheVariants as win
use Rattle.opa_tree.specs.declared.expr.Expr.{Expr}
use Rattle.opa_tree.specs.declared.expr.Expr.TheOpen.{Expr-F, Row-F, Const, Attr, All, Any, Not, Op, Certain, Known, Over, Window, Rolling, Table}
use Rattle.opa_tree.specs.declared.expr.Expr.TheFolds.{fold-Expr}
use Rattle.opa_tree.specs.declared.rules.Rule.{Rule}
use Rattle.opa_io.specs.declared.limits.TheConstants.{MOST_DAYS}

-- number and currency are one kind
abbrev pub kind_number : Kind → ℕ
kind_number kind.Bool = 0
kind_number kind.Number = 1
kind_number kind.Currency = 1
kind_number kind.Words = 2
kind_number kind.Date = 3

abbrev pub is_kind : Kind → Kind → Bool
is_kind a b = kind_number a == kind_number b

abbrev pub all_kinds : List Kind
all_kinds = kind.Bool ∷ kind.Number ∷ kind.Words ∷ kind.Date ∷ []

-- the kinds whose values have an order
abbrev pub ordered_kinds : List Kind
ordered_kinds = kind.Number ∷ kind.Date ∷ []

abbrev pub is_ordered : Kind → Bool
is_ordered k = list_any (is_kind k) ordered_kinds

-- the kinds that a tree can have, and whether it is a literal that may say how many decimals are kept
pub record Typing : Type 0 where
  pub can : Kind → Bool
  pub is_decimals : Bool

abbrev pub typed : (Kind → Bool) → Typing
typed can = record { can = can; is_decimals = false }

-- the literal `uncertain` has every kind
abbrev pub value_can : Value → Kind → Bool
value_can value.Unknown k = false
value_can value.Uncertain k = true
value_can (value.Bool b) k = is_kind kind.Bool k
value_can (value.Num n) k = is_kind kind.Number k
value_can (value.Words t) k = is_kind kind.Words k
value_can (value.Day d) k = is_kind kind.Date k

-- a whole number from 0 to 4
abbrev pub counts_decimals : ℤ → Bool
counts_decimals n = int_le (pos 0) n && nat_le (unsigned_abs n) 40000 && unsigned_abs n % 10000 == 0

abbrev pub literal_of : Value → Typing
literal_of value.Unknown = typed (value_can value.Unknown)
literal_of value.Uncertain = typed (value_can value.Uncertain)
literal_of (value.Bool b) = typed (value_can (value.Bool b))
literal_of (value.Num n) = record { can = value_can (value.Num n); is_decimals = counts_decimals n }
literal_of (value.Words t) = typed (value_can (value.Words t))
literal_of (value.Day d) = typed (value_can (value.Day d))

-- each of the trees can have this kind
abbrev pub all_can : List Typing → Kind → Bool
all_can xs k = list_all (λ x. x.can k) xs

-- the trees can have these kinds, one each
abbrev pub have : List Kind → List Typing → Bool
have [] [] = true
have [] (x ∷ xs) = false
have (k ∷ ks) [] = false
have (k ∷ ks) (x ∷ xs) = x.can k && have ks xs

-- it takes trees of these kinds, and gives that kind
abbrev pub takes : List Kind → Kind → List Typing → Kind → Bool
takes ks given xs k = is_kind given k && have ks xs

-- it compares trees of one of these kinds
abbrev pub compares : List Kind → List Typing → Kind → Bool
compares ks xs k = is_kind kind.Bool k && list_any (all_can xs) ks

-- it picks one of several of an ordered kind
abbrev pub picks : List Typing → Kind → Bool
picks xs k = is_ordered k && all_can xs k

abbrev pub rounds : List Typing → Kind → Bool
rounds [] k = false
rounds (x ∷ []) k = false
rounds (x ∷ y ∷ []) k = is_kind kind.Number k && x.can kind.Number && y.is_decimals
rounds (x ∷ y ∷ z ∷ xs) k = false

abbrev pub op_can : OpKind → List Typing → Kind → Bool
op_can op.Add xs k = takes (kind.Number ∷ kind.Number ∷ []) kind.Number xs k
op_can op.Sub xs k = takes (kind.Number ∷ kind.Number ∷ []) kind.Number xs k
op_can op.Mul xs k = takes (kind.Number ∷ kind.Number ∷ []) kind.Number xs k
op_can op.Div xs k = takes (kind.Number ∷ kind.Number ∷ []) kind.Number xs k
op_can op.Neg xs k = takes (kind.Number ∷ []) kind.Number xs k
op_can op.Eq xs k = compares all_kinds xs k
op_can op.Ne xs k = compares all_kinds xs k
op_can op.Lt xs k = compares ordered_kinds xs k
op_can op.Le xs k = compares ordered_kinds xs k
op_can op.Gt xs k = compares ordered_kinds xs k
op_can op.Ge xs k = compares ordered_kinds xs k
op_can op.Round xs k = rounds xs k
op_can op.Min xs k = picks xs k
op_can op.Max xs k = picks xs k
op_can op.AddDays xs k = takes (kind.Date ∷ kind.Number ∷ []) kind.Date xs k
op_can op.AddMonths xs k = takes (kind.Date ∷ kind.Number ∷ []) kind.Date xs k
op_can op.AddYears xs k = takes (kind.Date ∷ kind.Number ∷ []) kind.Date xs k
op_can op.DaysBetween xs k = takes (kind.Date ∷ kind.Date ∷ []) kind.Number xs k
op_can op.YearsBetween xs k = takes (kind.Date ∷ kind.Date ∷ []) kind.Number xs k
op_can op.YearOf xs k = takes (kind.Date ∷ []) kind.Number xs k
op_can op.MonthOf xs k = takes (kind.Date ∷ []) kind.Number xs k
op_can op.DayOf xs k = takes (kind.Date ∷ []) kind.Number xs k
op_can op.Concatenate xs k = takes (kind.Words ∷ kind.Words ∷ []) kind.Words xs k

-- `For` is over a relation to one
abbrev pub quant_can : Quant → Bool → List Typing → Kind → Bool
quant_can quant.ForAll to_one xs k = takes (kind.Bool ∷ []) kind.Bool xs k
quant_can quant.Exists to_one xs k = takes (kind.Bool ∷ []) kind.Bool xs k
quant_can quant.For to_one xs k = to_one && all_can xs k
quant_can quant.Count to_one xs k = takes [] kind.Number xs k
quant_can quant.CountIf to_one xs k = takes (kind.Bool ∷ []) kind.Number xs k
quant_can quant.Sum to_one xs k = takes (kind.Number ∷ []) kind.Number xs k
quant_can quant.SumIf to_one xs k = takes (kind.Number ∷ kind.Bool ∷ []) kind.Number xs k
quant_can quant.Maximum to_one xs k = picks xs k
quant_can quant.Minimum to_one xs k = picks xs k

-- the first trees can have these kinds, one each, and the last one that kind
abbrev pub dated : List Kind → List Typing → Kind → Bool
dated [] [] k = false
dated [] (x ∷ []) k = x.can k
dated [] (x ∷ y ∷ xs) k = false
dated (d ∷ ds) [] k = false
dated (d ∷ ds) (x ∷ xs) k = x.can d && dated ds xs k

abbrev pub window_can : WinKind → List Typing → Kind → Bool
window_can win.ValueAt xs k = dated (kind.Date ∷ []) xs k
window_can win.Always xs k = takes (kind.Date ∷ kind.Date ∷ kind.Bool ∷ []) kind.Bool xs k
window_can win.Sometimes xs k = takes (kind.Date ∷ kind.Date ∷ kind.Bool ∷ []) kind.Bool xs k
window_can win.DailySum xs k = takes (kind.Date ∷ kind.Date ∷ kind.Number ∷ []) kind.Number xs k
window_can win.Maximum xs k = is_ordered k && dated (kind.Date ∷ kind.Date ∷ []) xs k
window_can win.Minimum xs k = is_ordered k && dated (kind.Date ∷ kind.Date ∷ []) xs k
window_can win.ConsecutiveDays xs k = takes (kind.Date ∷ kind.Date ∷ kind.Bool ∷ []) kind.Number xs k
window_can win.Before xs k = takes (kind.Date ∷ []) kind.Bool xs k
window_can win.OnOrAfter xs k = takes (kind.Date ∷ []) kind.Bool xs k
window_can win.YearsSince xs k = takes (kind.Date ∷ []) kind.Number xs k

abbrev pub kinds_step : Lists → Expr-F Typing (Kind → Bool) → Typing
kinds_step m (Const v) = literal_of v
kinds_step m (Attr a) = typed (λ k. option_map_or (λ x. is_kind x.kind k) (attribute_at m a) false)
kinds_step m (All xs) = typed (λ k. is_kind kind.Bool k && all_can xs kind.Bool)
kinds_step m (Any xs) = typed (λ k. is_kind kind.Bool k && all_can xs kind.Bool)
kinds_step m (Not x) = typed (λ k. is_kind kind.Bool k && x.can kind.Bool)
kinds_step m (Op o xs) = typed (op_can o xs)
kinds_step m (Certain x) = typed (λ k. is_kind kind.Bool k && list_any x.can all_kinds)
kinds_step m (Known x) = typed (λ k. is_kind kind.Bool k && list_any x.can all_kinds)
kinds_step m (Over q r xs) = typed (λ k. option_map_or (λ x. quant_can q x.one xs k) (relation_at m r) false)
kinds_step m (Window w xs) = typed (window_can w xs)
kinds_step m (Rolling b n x) = typed (λ k. nat_le 1 n && nat_le n MOST_DAYS && is_kind kind.Bool k && x.can kind.Bool)
kinds_step m (Table rows last) = typed (λ k. list_all (λ row. row k) rows && last.can k)

-- a row can have the kinds of its value, where its condition is a bool
abbrev pub kinds_row : Row-F Typing (Kind → Bool) → Kind → Bool
kinds_row row k = row.cond.can kind.Bool && row.value.can k

unfoldable pub typing : Lists → Expr → Typing
typing m = fold-Expr Typing (Kind → Bool) (kinds_step m) kinds_row

-- the tree can have this kind
abbrev pub can_have : Lists → Expr → Kind → Bool
can_have m e = (typing m e).can

-- the rule's tree can have the kind of its attribute
abbrev pub rule_has_kind : Lists → Rule → Bool
rule_has_kind m rule = option_map_or (λ x. can_have m rule.expr x.kind) (attribute_at m rule.attr) false
