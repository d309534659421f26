use Rattle.std.proofs.Common.{◌∙◌, ap, sym, subst}
use Rattle.std.specs.Option.{option_copied}
use Rattle.std.proofs.lemmas.Result.{on_ok_weaker}
use Rattle.opa_mean.specs.Meaning.{at_place}
use Rattle.opa_code.specs.OverLines.Additions.{IsAdded}
use Rattle.opa_code.proofs.members.add_attribute.Goals as goal

pub returns-in-None : goal.returns-in-None
returns-in-None g c =
    on_ok_weaker c.add_value.result (subst (λ o. IsAdded (λ d. at_place o (λ i. (g.K.Look.looks c.args.look.now).value c.args.attr i d)) c.args.items.now c.add_value.new.self) (sym (ap option_copied c.in-None.is) ∙ c.place_in.ensures)) c.add_value.ensures

pub returns-in-Some : goal.returns-in-Some
returns-in-Some g c =
    on_ok_weaker c.add_looked_up.result (subst (λ o. IsAdded (λ d. at_place o (λ i. (g.K.Look.looks c.args.look.now).value c.args.attr i d)) c.args.items.now c.add_looked_up.new.items) (sym (ap option_copied c.in-Some.is) ∙ c.place_in.ensures)) c.add_looked_up.ensures
