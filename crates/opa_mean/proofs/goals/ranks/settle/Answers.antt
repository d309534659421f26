use Rattle.std.proofs.Common.{◌≡◌, ◌<◌, rules, arith, length}
use Rattle.opa_mean.specs.Goals.Tables.{free_by}
use Rattle.opa_tree.specs.Rules.{rule_of}
use Rattle.opa_mean.proofs.goals.Filling.{put_one}
use Rattle.opa_mean.proofs.goals.ranks.settle.Goals as goal

pub returns-clause-done : goal.returns-clause-done
returns-clause-done c = λ before upto.
    let r = c.args.base.now in let old = c.args.free.now.items in
    let own : c.is_free_by-own.result ≡ free_by old (rule_of r.rules c.args.attr) = search rules in
    let within : c.args.attr.0 < length old = omega (arith, c.requires.declared, c.requires.long) in
    put_one r c.args.attr before old c.put.new.free.items c.is_free_by-own.result upto within own c.put.ensures
