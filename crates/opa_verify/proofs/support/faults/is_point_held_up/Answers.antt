use Rattle.std.proofs.Common.{sym, ap, ◌∙◌}
use Rattle.std.specs.Option.{option_copied}
use Rattle.opa_line.proofs.Zipping.{ok_weaker}
use Rattle.opa_mean.specs.Given.{base_of}
use Rattle.opa_verify.specs.Support.Ledgers.{told_listing}
use Rattle.opa_verify.proofs.support.Concluding.{ruled}
use Rattle.opa_verify.proofs.support.faults.is_point_held_up.Goals as goal

pub returns-in-Some-clause-held : goal.returns-in-Some-clause-held
returns-in-Some-clause-held c =
    ok_weaker c.is_concluded.result _ _ (λ x h. ruled (base_of c.args.base.now) (told_listing c.args.told.now) c.args.attr c.args.inst.now c.args.first c.args.last c.args.value.now c.in-Some.rule.now x (sym c.is_told_rooted.ensures ∙ c.if-not-is_told_rooted.false)
    (sym c.of.ensures ∙ ap option_copied c.in-Some.is) h) c.is_concluded.ensures.held
