use Rattle.std.proofs.Common.{sym, ◌∙◌}
use Rattle.opa_mean.specs.Changes.{change_of}
use Rattle.opa_mean.specs.Given.{base_of, facts_of}
use Rattle.opa_mean.specs.Holding.{held_value}
use Rattle.opa_mean.proofs.SlotsAre.{ruled_declared}
use Rattle.opa_session.proofs.telling.Placed.{is_at}
use Rattle.opa_session.proofs.telling.Told.{change_by, tells_none, tells_some, first_within}
use Rattle.opa_session.proofs.telling.tell.change_at.Goals as goal

pub change_on-requires-clause-day : goal.change_on-requires-clause-day
change_on-requires-clause-day g c =
    first_within (held_value (g.H.Lined.rules c.args.old.now) (g.H.Lined.over c.args.old.now) c.args.attr c.args.inst.now) (held_value (g.K.Lined.rules c.args.new.now) (g.K.Lined.over c.args.new.now) c.args.attr c.args.inst.now) c.in-Some.day
    (sym c.in-Some.is ∙ c.in_ok-first.ensures)

pub change_on-requires-clause-declared : goal.change_on-requires-clause-declared
change_on-requires-clause-declared g c = ruled_declared (g.K.Lined.rules c.args.new.now) c.args.attr (is_at (g.K.Lined.rules c.args.new.now) (g.K.Lined.over c.args.new.now) c.args.attr c.args.inst.now c.requires.slot).has_rule

pub returns-in-None : goal.returns-in-None
returns-in-None g c =
    let a = c.args.attr in let i = c.args.inst.now in
    let s = g.H.Lined.rules c.args.old.now in let o = g.H.Lined.over c.args.old.now in
    let r = g.K.Lined.rules c.args.new.now in let n = g.K.Lined.over c.args.new.now in
    tells_none r.model (held_value s o a i) (held_value r n a i) a i (change_of (base_of r) (facts_of o) (facts_of n) a i) (change_by r o n c.base-base.ensures.fits a i c.requires.slot s c.requires.same) (sym c.in-None.is ∙ c.in_ok-first.ensures)

pub returns-in_ok-change-in-Some : goal.returns-in_ok-change-in-Some
returns-in_ok-change-in-Some g c =
    let a = c.args.attr in let i = c.args.inst.now in
    let s = g.H.Lined.rules c.args.old.now in let o = g.H.Lined.over c.args.old.now in
    let r = g.K.Lined.rules c.args.new.now in let n = g.K.Lined.over c.args.new.now in
    tells_some r.model (held_value s o a i) (held_value r n a i) a i c.in-Some.day (change_of (base_of r) (facts_of o) (facts_of n) a i) c.in_ok-change-in-Some.change (change_by r o n c.base-base.ensures.fits a i c.requires.slot s c.requires.same)
    (sym c.in-Some.is ∙ c.in_ok-first.ensures) c.in_ok-change-in-Some.ensures
