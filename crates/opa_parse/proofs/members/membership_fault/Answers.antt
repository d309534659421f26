use Rattle.std.proofs.Common.{ap, ap₂, ◌∙◌, nat_lt, length}
use Rattle.std.specs.Prelude.{is_none}
use Rattle.opa_tree.specs.declared.faults.RbKind.TheVariants as kind
use Rattle.opa_tree.specs.FirstFaults.{first_of, first_fault}
use Rattle.opa_io.specs.declared.limits.TheConstants.{MOST_PHRASE}
use Rattle.opa_parse.specs.RuleFaults.{fault_at, when, marked, size_faults}
use Rattle.opa_parse.proofs.MemberLaws.{of_five}
use Rattle.opa_parse.proofs.RuleLaws.{none_test}
use Rattle.opa_parse.proofs.members.membership_fault.Goals as goal

pub returns : goal.returns
returns c =
    let file = c.args.place.file in
    let line = c.args.place.line in
    let s = c.args.membership.now in
    c.first_of-4.ensures
    ∙ ap₂ first_of (c.first_of.ensures ∙ ap₂ first_of (c.when-long.ensures ∙ ap (λ x. first_fault (when (nat_lt MOST_PHRASE (length x)) (fault_at file line kind.Limit))) c.as_str.ensures) c.size_fault-size.ensures)
    (c.first_of-3.ensures ∙ ap₂ first_of
    (c.first_of-2.ensures ∙ ap₂ first_of (c.when-unnamed.ensures ∙ ap (λ t. first_fault (when t (fault_at file line kind.Name))) (none_test s.every c.is_none.result c.is_none.ensures)) (c.marked-marks.ensures ∙ ap (λ ms. first_fault (marked file ms)) c.as_slice.ensures))
    c.when-twice.ensures)
    ∙ of_five (when (nat_lt MOST_PHRASE (length s.phrase)) (fault_at file line kind.Limit)) (size_faults c.args.nodes file line s.said.reading) (when (is_none s.every) (fault_at file line kind.Name)) (marked file s.said.marks) (when c.args.is_taken (fault_at file line kind.Twice))
