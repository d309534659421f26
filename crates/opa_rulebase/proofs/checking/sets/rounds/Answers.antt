use Rattle.std.proofs.Common.{◌≡◌, ◌∙◌, ap, sym, map, List, [], ◌∷◌}
use Rattle.opa_tree.specs.Kinds.{Typing, typed, rounds}
use Rattle.opa_rulebase.specs.declared.checking.sets.KindSet.{KindSet}
use Rattle.opa_rulebase.specs.Checking.KindSets.{typing_of}
use Rattle.opa_rulebase.proofs.checking.sets.rounds.Goals as goal

pub returns-in_default : goal.returns-in_default
returns-in_default c = c.none.ensures ∙ ap (λ (xs : List KindSet). typed (rounds (map typing_of xs))) (sym c.in_default.ensures)

pub returns-in_default-front : goal.returns-in_default-front
returns-in_default-front c =
    c.none-in_default-front.ensures ∙ ap (λ (xs : List KindSet). typed (rounds (map typing_of xs))) (ap (λ xs. c.in-Some.x.now ∷ xs) (sym c.in_default-front.ensures) ∙ sym c.in-Some.ensures)

pub returns : goal.returns
returns c =
    c.rounds_two.ensures ∙ ap (λ (xs : List KindSet). typed (rounds (map typing_of xs))) (ap (λ xs. c.in-Some.x.now ∷ xs) (sym c.in-Some-front.ensures) ∙ sym c.in-Some.ensures)
