use Rattle.std.proofs.Common.{◌∙◌, ◌++◌, List, ℕ, sym, ap}
use Rattle.opa_saved.proofs.TextLaws.{after_is, after_none}
use Rattle.opa_saved.proofs.texts.after.Goals as goal

pub returns-in-None : goal.returns-in-None
returns-in-None c = sym (after_none c.args.front.now c.args.text.now c.in-None.ensures.cases)

pub returns-in-Some : goal.returns-in-Some
returns-in-Some c =
    let found = c.in-Some.ensures.cases in
    sym (after_is c.args.front.now c.in-Some.rest.now c.args.text.now (found.1.1 ∙ ap (λ (x : List ℕ). c.args.front.now ++ x) (sym found.2)))
