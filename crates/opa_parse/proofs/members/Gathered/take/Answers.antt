use Rattle.std.proofs.Common.{ap, ◌∙◌, ◌+◌, min}
use Rattle.opa_tree.specs.FirstFaults.{first_of, first_fault}
use Rattle.opa_io.specs.declared.limits.TheConstants.{MOST_NODES}
use Rattle.opa_parse.specs.MemberFaults.{block_faults}
use Rattle.opa_parse.proofs.MemberLaws.{gathers}
use Rattle.opa_parse.proofs.RuleLaws.{none_test}
use Rattle.opa_parse.proofs.members.Gathered.take.Goals as goal

pub returns : goal.returns
returns c =
    gathers c.args.block c.args.self _ (record {
      first_is = c.first_of-first.ensures ∙ ap (first_of c.args.self.first) (c.member_fault-fault.ensures ∙ ap (λ t. first_fault (block_faults t c.args.self.nodes c.args.block)) c.in_ok-is_taken.ensures.taken);
      inferences_are = λ e. c.in_ok-with_inferred.ensures (none_test c.first_of-first.result c.is_none.result c.is_none.ensures ∙ e);
      texts_are = c.in_ok-is_taken.ensures.texts;
      nodes_are = c.more_than.ensures ∙ ap (λ k. min (c.args.self.nodes + k) (MOST_NODES + 1)) c.membership_nodes-more.ensures;
    })
