use Rattle.std.proofs.Common.{sym, ap, ◌∙◌}
use Rattle.std.specs.Option.{option_copied}
use Rattle.opa_mean.specs.Given.{base_of}
use Rattle.opa_verify.specs.Listed.Shades.{there}
use Rattle.opa_verify.specs.Support.Ledgers.{told_listing}
use Rattle.opa_verify.proofs.support.Concluding.{concluded_holds}
use Rattle.opa_verify.proofs.support.faults.is_concluded.Goals as goal

pub returns-in_ok-copy-in-Some-clause-held : goal.returns-in_ok-copy-in-Some-clause-held
returns-in_ok-copy-in-Some-clause-held c =
    concluded_holds (base_of c.args.base.now) (told_listing c.args.told.now) c.keep_line.new.kept c.args.attr c.args.inst.now c.args.rule.now c.in-Some.line.now c.args.first c.args.last c.args.value.now c.there-there.result c.is_steady.result c.requires.rule
    c.in_ok-keep_line.ensures (sym c.get.ensures ∙ ap option_copied c.in-Some.is) c.requires.within (c.there-there.ensures ∙ ap there c.in_ok-copy-in-Some.ensures) c.is_steady.ensures
