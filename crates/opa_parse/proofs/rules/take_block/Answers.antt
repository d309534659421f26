use Rattle.std.proofs.Common.{subst}
use Rattle.opa_parse.specs.declared.block.BlockSort.TheVariants as block_sort
use Rattle.opa_parse.specs.Openings.{IsSort}
use Rattle.opa_parse.proofs.RuleLaws.{goes_rule, goes_past}
use Rattle.opa_parse.proofs.rules.take_block.Goals as goal

pub returns-in_ok-next-in-Rule : goal.returns-in_ok-next-in-Rule
returns-in_ok-next-in-Rule c =
    goes_rule c.args.model.now c.args.names.now c.args.block.now c.in_ok-rule-in-Rule.rule c.args.taken c.in_ok-next-in-Rule.next (record {
      sort = subst (λ x. IsSort x block_sort.Rule) c.as_slice.ensures (subst (IsSort c.as_slice.result.now) c.in-Rule.is c.in_ok-sort_of.ensures);
      file_is = c.in_ok-rule-in-Rule.ensures.file;
      line_is = c.in_ok-rule-in-Rule.ensures.line;
      says = c.in_ok-rule-in-Rule.ensures.says;
    }) c.in_ok-next-in-Rule.ensures

pub returns-in-Declaration : goal.returns-in-Declaration
returns-in-Declaration c =
    goes_past c.args.model.now c.args.names.now c.args.block.now c.args.taken
    (block_sort.Declaration, subst (λ x. IsSort x block_sort.Declaration) c.as_slice.ensures (subst (IsSort c.as_slice.result.now) c.in-Declaration.is c.in_ok-sort_of.ensures), λ e. cc e)

pub returns-in-Members : goal.returns-in-Members
returns-in-Members c =
    goes_past c.args.model.now c.args.names.now c.args.block.now c.args.taken
    (block_sort.Members, subst (λ x. IsSort x block_sort.Members) c.as_slice.ensures (subst (IsSort c.as_slice.result.now) c.in-Members.is c.in_ok-sort_of.ensures), λ e. cc e)
