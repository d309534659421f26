use Rattle.std.proofs.Common.{subst}
use Rattle.opa_parse.specs.declared.block.BlockSort.TheVariants as block_sort
use Rattle.opa_parse.specs.Openings.{IsSort}
use Rattle.opa_parse.proofs.MemberLaws.{goes_members, goes_past}
use Rattle.opa_parse.proofs.members.gather_block.Goals as goal

pub returns-in_ok-next-in-Members : goal.returns-in_ok-next-in-Members
returns-in_ok-next-in-Members c =
    goes_members c.args.model.now c.args.names.now c.args.block.now c.in_ok-members-in-Members.members c.args.gathered c.in_ok-next-in-Members.next (record {
      sort = subst (λ x. IsSort x block_sort.Members) c.as_slice.ensures (subst (IsSort c.as_slice.result.now) c.in-Members.is c.in_ok-sort_of.ensures);
      file_is = c.in_ok-members-in-Members.ensures.file;
      line_is = c.in_ok-members-in-Members.ensures.line;
      says = c.in_ok-members-in-Members.ensures.says;
    }) c.in_ok-next-in-Members.ensures

pub returns-in-Declaration : goal.returns-in-Declaration
returns-in-Declaration c =
    goes_past c.args.model.now c.args.names.now c.args.block.now c.args.gathered
    (block_sort.Declaration, subst (λ x. IsSort x block_sort.Declaration) c.as_slice.ensures (subst (IsSort c.as_slice.result.now) c.in-Declaration.is c.in_ok-sort_of.ensures), λ e. cc e)

pub returns-in-Rule : goal.returns-in-Rule
returns-in-Rule c =
    goes_past c.args.model.now c.args.names.now c.args.block.now c.args.gathered
    (block_sort.Rule, subst (λ x. IsSort x block_sort.Rule) c.as_slice.ensures (subst (IsSort c.as_slice.result.now) c.in-Rule.is c.in_ok-sort_of.ensures), λ e. cc e)
