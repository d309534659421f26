-- What of a rulebase and of a case can be printed.
use Rattle.std.specs.Prelude.{◌≡◌, ℕ, List, [], ◌∷◌, ◌++◌, Some, Contains}
use Rattle.std.specs.List.{AllByRecursion}
use Rattle.std.specs.Str.{IsUtf8}
use Rattle.opa_value.specs.declared.value.Value.{Value}
use Rattle.opa_value.specs.declared.value.Value.TheVariants as value
use Rattle.opa_value.specs.Numbers.{InRange}
use Rattle.opa_model.specs.declared.ids.AttrId.{AttrId}
use Rattle.opa_model.specs.declared.ids.RelId.{RelId}
use Rattle.opa_model.specs.Lookups.{attribute_phrases, relation_phrases}
use Rattle.opa_case.specs.Cases.{Answer, CaseView}
use Rattle.opa_case.specs.Clean.{IsClean}
use Rattle.opa_case.specs.Live.{Names}
use Rattle.opa_case.specs.Fits.{Answered, Known as IsKnown}
use Rattle.opa_cells.specs.declared.instance.InstanceId.{InstanceId}
use Rattle.opa_text.specs.Laws.{CanBeQuoted}
use Rattle.opa_tree.specs.declared.expr.Expr.{Expr}
use Rattle.opa_tree.specs.declared.expr.Expr.TheOpen.{Expr-F, Row-F, Const, Attr, All, Any, Not, Op, Certain, Known, Over, Window, Rolling, Table}
use Rattle.opa_tree.specs.declared.expr.Expr.TheFolds.{fold-Expr}
use Rattle.opa_tree.specs.declared.rulebase.Rulebase.{Rulebase}
use Rattle.opa_tree.specs.declared.rules.Rule.{Rule}
use Rattle.opa_tree.specs.Rules.{rule_of}
use Rattle.opa_verify.specs.Spelling.Spelling.{IsOrigin}
use Rattle.opa_verbs.specs.Phrasing.{IsReadable}
use Rattle.opa_verify.specs.Verdict.Restating.{origin_by}

-- numbers in range, and texts without control characters
abbrev pub IsFine : Value → Type 0
IsFine (value.Num n) = InRange n
IsFine (value.Words t) = CanBeQuoted t
IsFine v = Unit {0}

abbrev pub AreFine : List Value → Type 0
AreFine vs = AllByRecursion IsFine vs

-- one list behind the other
abbrev pub together : List (List Value) → List Value
together [] = []
together (xs ∷ more) = xs ++ together more

abbrev pub constants_step : Expr-F (List Value) (List Value) → List Value
constants_step (Const v) = v ∷ []
constants_step (Attr a) = []
constants_step (All xs) = together xs
constants_step (Any xs) = together xs
constants_step (Not x) = x
constants_step (Op k xs) = together xs
constants_step (Certain x) = x
constants_step (Known x) = x
constants_step (Over q r xs) = together xs
constants_step (Window k xs) = together xs
constants_step (Rolling b n x) = x
constants_step (Table rows x) = together rows ++ x

abbrev pub constants_row : Row-F (List Value) (List Value) → List Value
constants_row row = row.cond ++ row.value

-- the constants that stand in a tree
unfoldable pub constants : Expr → List Value
constants = fold-Expr (List Value) (List Value) constants_step constants_row

-- Rules can read the model, whose phrases are texts; the rules have places that can be printed, and their constants are fine.
pub record IsPrintableBase (r : Rulebase) : Type 0 where
  pub readable : IsReadable r.model
  pub texts : (t : List ℕ) → Contains (attribute_phrases r.model ++ relation_phrases r.model) t → IsUtf8 t
  pub places : (a : AttrId) (rule : Rule) → rule_of r.rules a ≡ Some rule → IsOrigin (origin_by r.files (Some rule) value.Unknown)
  pub constants_are : (a : AttrId) (rule : Rule) → rule_of r.rules a ≡ Some rule → AreFine (constants rule.expr)

-- a text in UTF-8, a number in range, as a program holds them
abbrev pub IsHeld : Value → Type 0
IsHeld (value.Num n) = InRange n
IsHeld (value.Words t) = IsUtf8 t
IsHeld v = Unit {0}

-- The case is clean, and its names and answers are texts and numbers as a program holds them.
pub record IsPrintableCase (c : CaseView) : Type 0 where
  pub clean : IsClean c
  pub names : (q : RelId) (i : InstanceId) (names : Names) → IsKnown c.lists q i names → AllByRecursion IsUtf8 names
  pub answers : (a : AttrId) (i : InstanceId) (l : Answer) → Answered c.answers a i l → AllByRecursion (λ p. IsHeld p.1) l
