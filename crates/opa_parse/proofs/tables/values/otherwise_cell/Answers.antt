use Rattle.std.proofs.Common.{ap, ◌∙◌}
use Rattle.opa_sentence.specs.Lexemes.{lexemes}
use Rattle.opa_parse.specs.Tables.Cells.{is_otherwise}
use Rattle.opa_parse.proofs.tables.CellLaws.{otherwise_by, otherwise_none}
use Rattle.opa_parse.proofs.tables.values.otherwise_cell.Goals as goal

pub returns-in-None : goal.returns-in-None
returns-in-None c = otherwise_none c.args.cell.now (rw c.in-None.is at c.in_ok-words_of.ensures)

pub returns-in-Some : goal.returns-in-Some
returns-in-Some c =
    otherwise_by c.args.cell.now (lexemes c.in-Some.words.text.now c.in-Some.words.tokens.items) c.is_otherwise.result (rw c.in-Some.is at c.in_ok-words_of.ensures) (c.is_otherwise.ensures ∙ ap is_otherwise c.cursor.ensures)
