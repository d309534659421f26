use Rattle.std.proofs.Common.{ap, ◌∙◌, ◌+◌, min}
use Rattle.opa_tree.specs.FirstFaults.{first_of}
use Rattle.opa_io.specs.declared.limits.TheConstants.{MOST_NODES}
use Rattle.opa_parse.proofs.RuleLaws.{takes, none_test}
use Rattle.opa_parse.proofs.rules.Taken.take.Goals as goal

pub returns : goal.returns
returns c =
    takes c.args.block c.args.self _ (record {
      first_is = c.first_of-first.ensures ∙ ap (first_of c.args.self.first) c.rule_fault-fault.ensures;
      rules_are = λ e. c.in_ok-with_rule.ensures (none_test c.first_of-first.result c.is_none.result c.is_none.ensures ∙ e);
      count_is = c.more_than.ensures;
      nodes_are = c.more_than-2.ensures ∙ ap (λ k. min (c.args.self.nodes + k) (MOST_NODES + 1)) c.statement_nodes-more.ensures;
    })
