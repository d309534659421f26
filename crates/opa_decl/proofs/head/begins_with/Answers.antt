use Rattle.std.proofs.Common.{◌∙◌, ◌++◌, List, ℕ, sym, ap, not}
use Rattle.opa_decl.specs.Heads.{begins_with, ends_word}
use Rattle.opa_decl.proofs.HeadLaws.{after_front_is, after_front_none}
use Rattle.opa_decl.proofs.head.begins_with.Goals as goal

pub returns-in-None : goal.returns-in-None
unfolding begins_with
returns-in-None c = sym (ap ends_word (after_front_none c.args.word.now c.args.text.now c.in-None.ensures.cases))

pub returns-in-Some : goal.returns-in-Some
unfolding begins_with
returns-in-Some c =
    let found = c.in-Some.ensures.cases in
    ap not c.goes_on.ensures
    ∙ sym (ap ends_word (after_front_is c.args.word.now c.in-Some.rest.now c.args.text.now (found.1.1 ∙ ap (λ (x : List ℕ). c.args.word.now ++ x) (sym found.2))))
