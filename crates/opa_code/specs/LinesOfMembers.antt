-- What is kept for the lines of a tree at one member after another.
use Rattle.std.specs.Prelude.{◌≡◌}
use Rattle.opa_case.specs.Cases.{CaseView}
use Rattle.opa_case.specs.Shapes.{shape_of}
use Rattle.opa_mean.specs.Holding.{held_look}
use Rattle.opa_tree.specs.declared.expr.Expr.{Expr}
use Rattle.opa_tree.specs.declared.rulebase.Rulebase.{Rulebase}
use Rattle.opa_code.specs.Codes.{code}
use Rattle.opa_code.specs.Keeping.{AreRight}
use Rattle.opa_code.specs.declared.lines_of_members.MemberLines.{MemberLines}

-- the nodes are the tree's, and the lines that are kept of their quantifiers are right over the held case
pub record AreLinesOf (r : Rulebase) (c : CaseView) (e : Expr) (lines : MemberLines) : Type 0 where
  pub nodes : lines.nodes ≡ code (shape_of r.model) e
  pub kept : AreRight (held_look r c) lines.nodes lines.kept.lines.items
