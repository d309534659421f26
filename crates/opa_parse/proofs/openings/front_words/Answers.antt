use Rattle.std.proofs.Common.{◌∙◌, arith}
use Rattle.opa_parse.proofs.WordLaws.{front_first, past_fewer}
use Rattle.opa_parse.proofs.openings.front_words.Goals as goal

pub overflow_sub-words : goal.overflow_sub-words
overflow_sub-words c = past_fewer c.args.words.text.now c.past_words-rest.result.text.now c.args.words.tokens.now c.past_words-rest.result.tokens.now c.past_words-rest.ensures

pub returns : goal.returns
returns c =
    let h = past_fewer c.args.words.text.now c.past_words-rest.result.text.now c.args.words.tokens.now c.past_words-rest.result.tokens.now c.past_words-rest.ensures in
    c.first_words.ensures
    ∙ front_first c.args.words.text.now c.past_words-rest.result.text.now c.args.words.tokens.now c.past_words-rest.result.tokens.now _ c.past_words-rest.ensures (omega (arith, h))
