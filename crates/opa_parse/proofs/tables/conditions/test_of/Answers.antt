use Rattle.std.proofs.Common.{sym, ◌∙◌}
use Rattle.opa_sentence.specs.Cursors.{seen}
use Rattle.opa_sentence.specs.Lexemes.{Lexeme}
use Rattle.opa_parse.proofs.tables.CellLaws.{tests_equal, tests_signed}
use Rattle.opa_parse.proofs.tables.conditions.test_of.Goals as goal

pub returns-in_ok-literal_of-in-None-sign_of : goal.returns-in_ok-literal_of-in-None-sign_of
returns-in_ok-literal_of-in-None-sign_of c =
    let w : Lexeme = record { class = c.in-Some.class; text = c.in-Some.field-0-1.now } in
    tests_equal c.args.names.now (seen c.args.words) w (seen c.in-Some.rest) c.in_ok-literal_of-in-None-sign_of.field-0 c.compared.result c.in-Some.ensures (sym c.sign_of.ensures ∙ c.in-None-sign_of.is) c.in_ok-literal_of-in-None-sign_of.ensures c.compared.ensures

pub returns-in_ok-literal_of-in-Some-sign_of : goal.returns-in_ok-literal_of-in-Some-sign_of
returns-in_ok-literal_of-in-Some-sign_of c =
    let w : Lexeme = record { class = c.in-Some.class; text = c.in-Some.field-0-1.now } in
    tests_signed c.args.names.now (seen c.args.words) w (seen c.in-Some.rest) c.in-Some-sign_of.kind c.in_ok-literal_of-in-Some-sign_of.field-0 c.compared-in-Some-sign_of.result c.in-Some.ensures (sym c.sign_of.ensures ∙ c.in-Some-sign_of.is)
    c.in_ok-literal_of-in-Some-sign_of.ensures c.compared-in-Some-sign_of.ensures
