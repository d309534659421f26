use Rattle.std.proofs.Common.{◌∙◌, ap}
use Rattle.opa_need.specs.Goals.{relevant_or}
use Rattle.opa_need.proofs.LeftOpen.{only_needs_decide, only_these_decide}
use Rattle.opa_need.proofs.asking.relevant.Goals as goal

pub returns-clause-completions : goal.returns-clause-completions
returns-clause-completions g c =
    let r = g.H.Held.rules c.args.held.now in let held = g.H.Held.held c.args.held.now in
    λ a is. only_needs_decide r held a

pub returns-clause-left_open : goal.returns-clause-left_open
returns-clause-left_open g c =
    let r = g.H.Held.rules c.args.held.now in let held = g.H.Held.held c.args.held.now in
    λ a is. only_these_decide r held a c.in_ok-questions.questions (c.in_ok-questions.ensures ∙ ap (relevant_or r held) is)

pub returns-in_err-questions-clause-completions : goal.returns-in_err-questions-clause-completions
returns-in_err-questions-clause-completions g c =
    let r = g.H.Held.rules c.args.held.now in let held = g.H.Held.held c.args.held.now in
    λ a is. only_needs_decide r held a
