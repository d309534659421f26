use Rattle.std.proofs.Common.{◌≡◌, ◌<◌, ap, arith, length, ◌∙◌}
use Rattle.opa_tree.specs.Rules.{rule_of}
use Rattle.opa_rules.specs.Reviewing.Marks.{settled_by}
use Rattle.opa_rules.proofs.reviewing.SettledLaws.{put_one}
use Rattle.opa_rules.proofs.reviewing.settling.settle.Goals as goal

pub returns-clause-done : goal.returns-clause-done
returns-clause-done c = λ before upto.
    let r = c.args.base.now in let old = c.args.marks.now.items in
    let within : c.args.attr.0 < length old = omega (arith, c.requires.declared, c.requires.long) in
    put_one r c.args.attr before old c.put.new.marks.items _ upto within (c.in_ok-own.ensures ∙ ap (λ xs. settled_by xs (rule_of r.rules c.args.attr)) c.as_slice.ensures.value) c.put.ensures
