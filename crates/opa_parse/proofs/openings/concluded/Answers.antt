use Rattle.std.proofs.Common.{ap, sym, ◌∙◌}
use Rattle.opa_model.specs.Lookups.{attribute_named}
use Rattle.opa_words.specs.Reserved.{joined}
use Rattle.opa_parse.proofs.WordLaws.{texts_are}
use Rattle.opa_parse.proofs.openings.concluded.Goals as goal

pub returns : goal.returns
returns c =
    let t = texts_are c.args.words.text.now c.args.words.tokens.now in
    c.find_attribute.ensures.value ∙ ap (attribute_named c.args.model.now) (c.as_str.ensures ∙ c.in_ok-phrase.ensures ∙ ap joined (sym t))
