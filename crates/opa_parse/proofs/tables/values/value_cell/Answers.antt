use Rattle.std.proofs.Common.{subst}
use Rattle.opa_sentence.specs.Lexemes.{lexemes}
use Rattle.opa_parse.specs.Tables.Cells.{Says, IsLine}
use Rattle.opa_parse.proofs.tables.CellLaws.{cell_says, cell_says_none}
use Rattle.opa_parse.proofs.tables.values.value_cell.Goals as goal

pub returns-in-None : goal.returns-in-None
returns-in-None c = cell_says_none (IsLine c.args.names.now) c.args.cell.now (rw c.in-None.is at c.in_ok-words_of.ensures)

pub returns-in_ok-value-in-Some : goal.returns-in_ok-value-in-Some
returns-in_ok-value-in-Some c =
    let ws = lexemes c.in-Some.words.text.now c.in-Some.words.tokens.items in
    cell_says (IsLine c.args.names.now) c.args.cell.now ws c.in_ok-value-in-Some.value (rw c.in-Some.is at c.in_ok-words_of.ensures) (subst (λ v. Says (IsLine c.args.names.now v) c.in_ok-value-in-Some.value) c.cursor.ensures c.in_ok-value-in-Some.ensures)
