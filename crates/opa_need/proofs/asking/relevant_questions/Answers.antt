use Rattle.std.proofs.Common.{◌∙◌, ap, refl}
use Rattle.opa_io.proofs.Results.{if_ok_then}
use Rattle.opa_need.specs.Goals.{relevant_or}
use Rattle.opa_need.proofs.asking.relevant_questions.Goals as goal

pub returns-in-None : goal.returns-in-None
returns-in-None g c =
    let r = g.H.Held.rules c.args.held.now in let held = g.H.Held.held c.args.held.now in
    c.new.ensures ∙ ap (relevant_or r held) c.in-None.ensures.goal

pub returns-in-Some : goal.returns-in-Some
returns-in-Some g c =
    let r = g.H.Held.rules c.args.held.now in let held = g.H.Held.held c.args.held.now in
    if_ok_then _ _ c.relevant_of.result (λ qs h. h refl ∙ ap (relevant_or r held) c.in-Some.ensures.goal) c.relevant_of.ensures.whole
