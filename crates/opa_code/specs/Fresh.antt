-- What a tree is worth over the determination of a case.
use Rattle.std.specs.Prelude.{ℕ, List, [], ◌∷◌}
use Rattle.opa_date.specs.declared.TheConstants.{DAYS}
use Rattle.opa_value.specs.declared.value.Value.{Value}
use Rattle.opa_line.specs.Lines.{StandsFor}
use Rattle.opa_cells.specs.declared.instance.InstanceId.{InstanceId}
use Rattle.opa_case.specs.Cases.{CaseView}
use Rattle.opa_case.specs.Shapes.{shape_of}
use Rattle.opa_tree.specs.declared.expr.Expr.{Expr}
use Rattle.opa_tree.specs.declared.rulebase.Rulebase.{Rulebase}
use Rattle.opa_mean.specs.Given.{base_of, facts_of}
use Rattle.opa_mean.specs.Looks.{Look}
use Rattle.opa_mean.specs.Mean.{look_of, mean}
use Rattle.opa_mean.specs.Meaning.{Meaning, value}
use Rattle.opa_code.specs.Running.{Run}
use Rattle.opa_code.specs.declared.node.Node.{Node}

-- the value of a tree at enclosing instances, the innermost first, and a day
abbrev pub fresh_value : Rulebase → CaseView → Expr → List InstanceId → ℕ → Value
fresh_value r c e enclosing d = value (shape_of r.model) (look_of (facts_of c) (mean (base_of r) (facts_of c))) e enclosing d

-- the line stands for what the nodes leave, if that is one meaning
abbrev pub IsLeft : Look → List InstanceId → List Node → List (ℕ × Value) → Type 0
IsLeft l enclosing nodes line = (m : Meaning) → Run l nodes [] (m ∷ []) → StandsFor DAYS (m enclosing) line
