use Rattle.std.proofs.Common.{◌∷◌, [], ◌++◌, subst, ap, ◌∙◌, append_assoc}
use Rattle.opa_parse.specs.Lines.{AreLines}
use Rattle.opa_parse.proofs.CutOnce.{cut_at_line}
use Rattle.opa_parse.proofs.cut.lines_of.Goals as goal

pub returns-in-None : goal.returns-in-None
returns-in-None c ls a =
    let after = c.loop-front.invariant.after in
    let split = c.loop-front.invariant.split ∙ ap (λ r. r ++ after) c.in-Some.ensures ∙ append_assoc c.in-Some.front.now (c.in-Some.last.now ∷ []) after in
    let x = cut_at_line c.args.names.now c.in-Some.front.now c.in-Some.last.now after ls (subst (λ y. AreLines c.args.names.now y ls) split a) in
    let none = rw c.in-None.is at c.in_ok-line_of.ensures in
    none x.0 x.1
