use Rattle.std.proofs.Common.{◌==◌, ap, ap₂, ◌∙◌}
use Rattle.std.specs.Prelude.{is_none}
use Rattle.opa_tree.specs.declared.faults.RbKind.TheVariants as kind
use Rattle.opa_tree.specs.FirstFaults.{first_of, first_fault}
use Rattle.opa_io.specs.declared.limits.TheConstants.{MOST_RULES}
use Rattle.opa_parse.specs.RuleFaults.{fault_at, when, marked, size_faults}
use Rattle.opa_parse.proofs.RuleLaws.{of_four, none_test}
use Rattle.opa_parse.proofs.faults.statement_fault.Goals as goal

pub returns : goal.returns
returns c =
    let file = c.args.place.file in
    let line = c.args.place.line in
    let s = c.args.statement.now in
    c.first_of-3.ensures
    ∙ ap₂ first_of (c.first_of.ensures ∙ ap₂ first_of c.when-over.ensures c.size_fault-size.ensures)
    (c.first_of-2.ensures ∙ ap₂ first_of (c.when-unnamed.ensures ∙ ap (λ t. first_fault (when t (fault_at file line kind.Name))) (none_test s.attr c.is_none.result c.is_none.ensures)) (c.marked-marks.ensures ∙ ap (λ ms. first_fault (marked file ms)) c.as_slice.ensures))
    ∙ of_four (when (c.args.rules == MOST_RULES) (fault_at file line kind.Limit)) (size_faults c.args.nodes file line s.said.reading) (when (is_none s.attr) (fault_at file line kind.Name)) (marked file s.said.marks)
