use Rattle.std.proofs.Common.{◌∙◌, length, sym, refl, ap, subst, arith, inr}
use Rattle.std.proofs.lemmas.Result.{on_ok_weaker}
use Rattle.opa_code.specs.Mentions.{HasOwners}
use Rattle.opa_code.proofs.Owning.{own_behind, over_behind, found_more, all_found, added_over}
use Rattle.opa_code.proofs.owners.+naming.Goals as goal

pub owners_in-loop-node-init : goal.owners_in-loop-node-init
owners_in-loop-node-init t c = (λ o m. inr m, omega arith)

pub owners_in-loop-node-preserved : goal.owners_in-loop-node-preserved
owners_in-loop-node-preserved t c =
    let size = ap length c.in-Some.ensures in let fewer = c.in_ok-rest.ensures.fewer in let few = c.loop-node.invariant.1 in
    (found_more c.args.nodes.now c.loop-node.rest.now c.in-Some.after.now c.in_ok-rest.rest.now c.in-Some.node.now c.loop-node.owners c.add_owners.new.owners c.in-Some.ensures c.in_ok-rest.ensures.adds c.loop-node.invariant.0, omega (arith, size, fewer, few))

pub owners_in-returns : goal.owners_in-returns
owners_in-returns t c = all_found c.args.nodes.now c.loop-node.rest.now c.loop-node.owners c.in_default.ensures c.loop-node.invariant.0

pub add_owners-returns-in_ok-add_own-in-None-clause-adds : goal.add_owners-returns-in_ok-add_own-in-None-clause-adds
add_owners-returns-in_ok-add_own-in-None-clause-adds t c =
    own_behind c.args.node.now c.args.after.now c.args.after.now c.args.owners.now c.add_own.new.owners (sym c.over_of.ensures ∙ c.in-None.is) c.in_ok-add_own-in-None.ensures refl

pub add_owners-returns-in_ok-add_over-in-Some-clause-adds : goal.add_owners-returns-in_ok-add_over-in-Some-clause-adds
add_owners-returns-in_ok-add_over-in-Some-clause-adds t c =
    over_behind c.args.node.now c.in-Some.field-0-0 c.in-Some.field-0-1-0 c.in-Some.source c.in-Some.target c.in-Some.count c.args.after.now c.up_to-operand.result.now c.behind.result.now c.args.owners.now c.add_over.new.owners
    (sym c.over_of.ensures ∙ c.in-Some.is) c.up_to-operand.ensures c.in_ok-add_over-in-Some.ensures c.behind.ensures

pub add_over-returns : goal.add_over-returns
add_over-returns t c =
    on_ok_weaker c.add_others.result
    (added_over c.args.source c.args.target c.args.operand.now c.as_slice.result.now c.args.owners.now c.add_new.new.owners c.add_others.new.owners c.in_ok-add_new.ensures (subst (HasOwners c.args.operand.now) (sym c.as_slice.ensures) c.in_ok-inner.ensures))
    c.add_others.ensures
