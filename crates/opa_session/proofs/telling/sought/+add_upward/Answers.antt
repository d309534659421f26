use Rattle.std.proofs.Common.{arith, ap, sym, ◌∙◌}
use Rattle.std.specs.Option.{option_copied}
use Rattle.opa_session.specs.Telling.Wanted.{has_wanted}
use Rattle.opa_session.proofs.telling.Upward.{upward_on, upward_ends, upward_then}
use Rattle.opa_session.proofs.telling.Wanting.{falls}
use Rattle.opa_session.proofs.telling.sought.+add_upward.Goals as goal

pub overflow_sub-steps : goal.overflow_sub-steps
overflow_sub-steps g t c =
    let down = falls (g.K.Lined.rules c.args.held.now) (g.K.Lined.over c.args.held.now) c.base-base.ensures.fits c.args.inst.now c.in-Some.container.now (sym c.container_of.ensures ∙ ap option_copied c.in-Some.is) in
    omega (arith, down, c.requires.enough)

pub add_upward-requires : goal.add_upward-requires
add_upward-requires g t c κs within =
    let down = falls (g.K.Lined.rules c.args.held.now) (g.K.Lined.over c.args.held.now) c.base-base.ensures.fits c.args.inst.now c.in-Some.container.now (sym c.container_of.ensures ∙ ap option_copied c.in-Some.is) in (
      omega (arith, down, c.requires.enough, c.decreases),
      (
        within,
        (
          omega (arith, down, c.requires.enough),
          upward_on (g.K.Lined.over c.args.held.now).live (has_wanted c.args.sought.now.wanted) (has_wanted c.insert.new.self.wanted) c.args.inst.now c.in_ok-insert.ensures c.requires.closed c.in-Some.container.now (sym c.container_of.ensures ∙ ap option_copied c.in-Some.is),
        ),
      ),
    )

pub returns-in_ok-add_upward-in-Some : goal.returns-in_ok-add_upward-in-Some
returns-in_ok-add_upward-in-Some g t c =
    upward_then (g.K.Lined.over c.args.held.now).live (has_wanted c.args.sought.now.wanted) (has_wanted c.insert.new.self.wanted) c.args.inst.now c.in_ok-insert.ensures c.requires.closed c.in-Some.container.now (has_wanted c.add_upward.new.sought.wanted) c.in_ok-add_upward-in-Some.ensures

pub returns-in-None : goal.returns-in-None
returns-in-None g t c = upward_ends (g.K.Lined.over c.args.held.now).live (has_wanted c.args.sought.now.wanted) (has_wanted c.insert.new.self.wanted) c.args.inst.now c.in_ok-insert.ensures c.requires.closed (sym c.container_of.ensures ∙ ap option_copied c.in-None.is)
