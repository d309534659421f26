use Rattle.opa_sentence.specs.Lexemes.{lexemes}
use Rattle.opa_sentence.specs.Grammar.{OPERAND}
use Rattle.opa_parse.proofs.tables.CellLaws.{says_spelled}
use Rattle.opa_parse.proofs.tables.heads.operand_of.Goals as goal

pub returns : goal.returns
returns c = says_spelled c.args.names.now OPERAND (lexemes c.args.words.text.now c.args.words.tokens.now) c.in_ok-reading.reading c.in_ok-reading.ensures
