use Rattle.std.proofs.Common.{◌≡◌, ◌∙◌, true, false, sym, rules}
use Rattle.opa_mean.specs.Goals.States.{is_known}
use Rattle.opa_mean.proofs.goals.Knowing.{one_open, one_more, at_end}
use Rattle.opa_mean.proofs.goals.states.all_known.Goals as goal

pub returns-then-not-is_known : goal.returns-then-not-is_known
returns-then-not-is_known g c =
    let r = g.H.Held.rules c.args.held.now in let held = g.H.Held.held c.args.held.now in
    let open_ : c.is_known.result ≡ false = search rules in
    one_open (is_known r held) r.model.goals c.loop-number.number c.goal_of-attr.result c.goal_of-attr.ensures.goal (sym c.is_known.ensures ∙ open_) c.loop-number.invariant

pub loop-number-preserved : goal.loop-number-preserved
loop-number-preserved g c =
    let r = g.H.Held.rules c.args.held.now in let held = g.H.Held.held c.args.held.now in
    let known : c.is_known.result ≡ true = search rules in
    one_more (is_known r held) r.model.goals c.loop-number.number c.goal_of-attr.result c.goal_of-attr.ensures.goal (sym c.is_known.ensures ∙ known) c.loop-number.invariant

pub returns : goal.returns
returns g c =
    let r = g.H.Held.rules c.args.held.now in let held = g.H.Held.held c.args.held.now in
    at_end (is_known r held) r.model.goals c.loop-number.number (search rules) c.loop-number.invariant
