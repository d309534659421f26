use Rattle.std.proofs.Common.{◌≡◌, ℕ, List, map, ap, ◌∙◌, ◌+◌, min, Some}
use Rattle.opa_tree.specs.declared.faults.RbFault.{RbFault}
use Rattle.opa_io.specs.declared.limits.TheConstants.{MOST_NODES}
use Rattle.opa_sentence.specs.declared.names.Member.{Member}
use Rattle.opa_sentence.specs.declared.names.Names.{Names}
use Rattle.opa_sentence.specs.Measures.{nodes, total}
use Rattle.opa_parse.specs.Rules.{inferred_nodes}
use Rattle.opa_parse.proofs.RuleLaws.{members_nodes}
use Rattle.opa_parse.proofs.tables.WholeLaws.{all_read, all_refused, formed_hold, shallow_hold, declared_hold, filed_hold, few_hold}
use Rattle.opa_parse.proofs.tables.whole.read_all_rules.Goals as goal

pub returns-in-None : goal.returns-in-None
returns-in-None c =
    let count : List Member → ℕ = λ ms. total (map (λ (x : Member). nodes x.expr) ms) in
    let e = c.inferred_nodes.ensures ∙ ap (λ ms. min (count ms) (MOST_NODES + 1)) (c.as_slice.ensures ∙ ap (λ (n : Names). n.members) c.in_ok-names.ensures) ∙ ap (λ k. min k (MOST_NODES + 1)) (members_nodes c.args.inferences.now) in
    let m = c.args.model.now in let i = c.args.inferences.now in let b = c.args.blocks.now in let d = c.args.tables.now in
    let all = all_read m i b d c.in_ok-names.names c.none-none.result c.in_ok-before.before c.in_ok-taken.taken c.from_list.result c.in_ok-names.ensures (c.none-none.ensures (inferred_nodes i) e) c.in_ok-before.ensures c.in_ok-taken.ensures c.in-None.is c.from_list.ensures in
    record {
      rules = all;
      refused = tt;
      formed = formed_hold m i b d c.from_list.result all;
      shallow = shallow_hold m i b d c.from_list.result all;
      declared = declared_hold m i b d c.from_list.result all;
      filed = filed_hold m i b d c.from_list.result all;
      few = few_hold m i b d c.from_list.result all;
    }

pub returns-clause-refused : goal.returns-clause-refused
returns-clause-refused c fault same =
    let count : List Member → ℕ = λ ms. total (map (λ (x : Member). nodes x.expr) ms) in
    let e = c.inferred_nodes.ensures ∙ ap (λ ms. min (count ms) (MOST_NODES + 1)) (c.as_slice.ensures ∙ ap (λ (n : Names). n.members) c.in_ok-names.ensures) ∙ ap (λ k. min k (MOST_NODES + 1)) (members_nodes c.args.inferences.now) in
    let f : c.in-Some.fault ≡ fault = cc same in
    all_refused c.args.model.now c.args.inferences.now c.args.blocks.now c.args.tables.now c.in_ok-names.names c.none-none.result c.in_ok-before.before c.in_ok-taken.taken fault c.in_ok-names.ensures (c.none-none.ensures (inferred_nodes c.args.inferences.now) e)
    c.in_ok-before.ensures c.in_ok-taken.ensures (c.in-Some.is ∙ ap (λ (x : RbFault). Some x) f)
