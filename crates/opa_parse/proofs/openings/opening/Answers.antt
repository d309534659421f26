use Rattle.std.proofs.Common.{◌≡◌, ◌∷◌, true, ap, sym, ◌∙◌}
use Rattle.opa_sentence.specs.Cursors.{seen}
use Rattle.opa_sentence.specs.Lexemes.{Lexeme}
use Rattle.opa_sentence.specs.Phrases.{past_words}
use Rattle.opa_parse.specs.Openings.{begins_with_word, concluded}
use Rattle.opa_parse.proofs.WordLaws.{opening_by}
use Rattle.opa_parse.proofs.openings.opening.Goals as goal

pub returns-in_ok-attr-in-Some : goal.returns-in_ok-attr-in-Some
returns-in_ok-attr-in-Some c =
    let t : Lexeme = record { class = c.in-Some.class; text = c.in-Some.field-0-1.now } in
    let b : begins_with_word (seen c.args.words) ≡ true = cc in
    let p : past_words (seen c.args.words) ≡ t ∷ seen c.in-Some.rest = sym c.past_words.ensures ∙ c.in-Some.ensures in
    c.by_equals.ensures ∙ opening_by c.args.model.now (seen c.args.words) t (seen c.in-Some.rest) c.in_ok-attr-in-Some.attr b p (c.in_ok-attr-in-Some.ensures ∙ ap (concluded c.args.model.now) c.front_words.ensures)
