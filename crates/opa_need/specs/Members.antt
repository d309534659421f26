-- Values of the operands of a quantifier at one member after another.
use Rattle.std.specs.Prelude.{List, [], ◌∷◌, IfSome}
use Rattle.opa_case.specs.Cases.{CaseView}
use Rattle.opa_code.specs.LinesOfMembers.{AreLinesOf}
use Rattle.opa_tree.specs.declared.expr.Expr.{Expr}
use Rattle.opa_tree.specs.declared.rulebase.Rulebase.{Rulebase}
use Rattle.opa_need.specs.declared.members.MemberValues.{MemberValues}
use Rattle.opa_need.specs.declared.members.OperandValues.{OperandValues}

-- the lines that a part's values are taken from, if they are, are its own
abbrev pub AreValuesOf : Rulebase → CaseView → Expr → MemberValues → Type 0
AreValuesOf r c e values = IfSome values.lines (AreLinesOf r c e)

-- of the first two operands
abbrev pub AreOfOperands : Rulebase → CaseView → List Expr → OperandValues → Type 0
AreOfOperands r c [] values = Unit {0}
AreOfOperands r c (x ∷ []) values = AreValuesOf r c x values.first
AreOfOperands r c (x ∷ y ∷ _) values = AreValuesOf r c x values.first × AreValuesOf r c y values.second
