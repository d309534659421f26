use Rattle.std.proofs.Common.{ap, sym, ◌∙◌, ◌++◌, length}
use Rattle.std.proofs.lemmas.Str.{scalars-chars}
use Rattle.std.specs.Prelude.{slice_get}
use Rattle.std.specs.Str.{chars}
use lib.Utf8.{encode}
use Rattle.opa_words.proofs.FirstCharacter.{first_scalar, no_characters, chars_of_first}
use Rattle.opa_words.proofs.cursor.first_of.Goals as goal

pub returns-in-Some : goal.returns-in-Some
returns-in-Some c =
    let steps = c.in-Some.ensures.steps in
    let all = ap chars c.chars-left.ensures.rest in
    let is = first_scalar (chars c.args.text.now) c.in-Some.c (scalars-chars c.args.text.now c.utf8.text) (steps.2 ∙ ap (λ cs. slice_get cs 0) all) in
    chars_of_first c.args.text.now c.as_str.result.now c.in-Some.c is c.as_str.utf8 (sym c.chars-left.ensures.rest ∙ steps.0 ∙ ap (λ s. encode c.in-Some.c ++ s) (sym c.as_str.ensures))

pub returns-in-None : goal.returns-in-None
returns-in-None c = no_characters c.args.text.now (ap length (sym c.chars-left.ensures.rest) ∙ c.in-None.ensures.steps.0.0)
