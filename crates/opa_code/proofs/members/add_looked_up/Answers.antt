use Rattle.std.proofs.Common.{◌∙◌, ap, sym}
use Rattle.std.specs.Option.{option_copied}
use Rattle.std.proofs.lemmas.Result.{on_ok_weaker}
use Rattle.opa_value.specs.declared.value.Value.TheVariants.{Unknown}
use Rattle.opa_window.specs.Days.{day_value}
use Rattle.opa_mean.specs.Given.{line_value}
use Rattle.opa_code.proofs.over_lines.Adding.{added_same}
use Rattle.opa_code.proofs.members.add_looked_up.Goals as goal

pub returns-in-None : goal.returns-in-None
returns-in-None g c =
    on_ok_weaker c.add_value.result
    (added_same (λ d. Unknown) ((g.K.Look.looks c.args.look.now).value c.args.attr c.args.inst.now) c.args.items.now c.add_value.new.self (λ d lt. ap (λ o. line_value (option_copied o) d) (sym c.in-None.is) ∙ c.line.ensures d lt)) c.add_value.ensures

pub returns-in-Some : goal.returns-in-Some
returns-in-Some g c =
    on_ok_weaker c.add.result
    (added_same (day_value c.seen.result) ((g.K.Look.looks c.args.look.now).value c.args.attr c.args.inst.now) c.args.items.now c.add.new.self (λ d lt. ap (λ l. day_value l d) c.seen.ensures ∙ ap (λ o. line_value (option_copied o) d) (sym c.in-Some.is) ∙ c.line.ensures d lt)) c.add.ensures
