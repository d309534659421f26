-- The line of a tree over a held case.
use Rattle.std.proofs.Common.{◌≡◌, ℕ, List, [], ◌∷◌, sym, ap, subst}
use Rattle.std.specs.List.{AllByRecursion}
use Rattle.opa_date.specs.declared.TheConstants.{DAYS}
use Rattle.opa_value.specs.declared.value.Value.{Value}
use Rattle.opa_line.specs.Lines.{StandsFor}
use Rattle.opa_cells.specs.declared.instance.InstanceId.{InstanceId}
use Rattle.opa_case.specs.Cases.{CaseView, IsLive}
use Rattle.opa_case.specs.Shapes.{shape_of}
use Rattle.opa_tree.specs.declared.expr.Expr.{Expr}
use Rattle.opa_tree.specs.declared.rulebase.Rulebase.{Rulebase}
use Rattle.opa_mean.specs.Holding.{held_look}
use Rattle.opa_mean.specs.Looks.{Look}
use Rattle.opa_mean.specs.Meaning.{value, first_value}
use Rattle.opa_mean.specs.Rulebases.{IsOf}
use Rattle.opa_mean.proofs.HeldFresh.{held_is_fresh}
use Rattle.opa_code.specs.Codes.{code}
use Rattle.opa_code.specs.Fresh.{IsLeft, fresh_value}
use Rattle.opa_code.specs.OverLines.Lines.{values_at}
use Rattle.opa_code.specs.Runnable.{CanRun}
use Rattle.opa_code.specs.Running.{Run}
use Rattle.opa_code.specs.Steps.{Leaves}
use Rattle.opa_code.specs.declared.node.Node.{Node}
use Rattle.opa_code.proofs.Compiled.{run_nodes}
use Rattle.opa_code.proofs.Standing.{stand_values, stands_same}

pub first_left : (l : Look) (enclosing : List InstanceId) (nodes : List Node) (lines : List (List (ℕ × Value))) (line : List (ℕ × Value)) → Leaves l enclosing nodes lines
    → StandsFor DAYS (λ d. first_value (values_at lines d)) line → IsLeft l enclosing nodes line
first_left l enclosing nodes lines line leaves first m goes =
    stands_same line (λ d. first_value (values_at lines d)) (m enclosing) (λ d lt. ap first_value (stand_values enclosing lines (m ∷ []) (leaves (m ∷ []) goes) d lt)) first

pub held_left : (r : Rulebase) (c : CaseView) → IsOf r c → (e : Expr) (enclosing : List InstanceId) → AllByRecursion (IsLive c) enclosing → (nodes : List Node) → nodes ≡ code (shape_of r.model) e → CanRun nodes
    → (line : List (ℕ × Value)) → IsLeft (held_look r c) enclosing nodes line → StandsFor DAYS (fresh_value r c e enclosing) line
held_left r c is e enclosing lives nodes same can line left =
    let s = shape_of r.model in let l = held_look r c in
    let goes = subst (λ ns. Run l ns [] (value s l e ∷ [])) (sym same) (run_nodes s l e (subst CanRun same can)) in
    stands_same line (value s l e enclosing) (fresh_value r c e enclosing) (λ d lt. held_is_fresh r c is e enclosing lives d lt) (left (value s l e) goes)
