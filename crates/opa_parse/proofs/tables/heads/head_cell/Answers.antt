use Rattle.std.proofs.Common.{subst}
use Rattle.opa_sentence.specs.Lexemes.{lexemes}
use Rattle.opa_parse.specs.Tables.Cells.{Says, SpellsHead}
use Rattle.opa_parse.proofs.tables.CellLaws.{cell_says, cell_says_none}
use Rattle.opa_parse.proofs.tables.heads.head_cell.Goals as goal

pub returns-in-None : goal.returns-in-None
returns-in-None c = cell_says_none (SpellsHead c.args.model.now c.args.names.now) c.args.cell.now (rw c.in-None.is at c.in_ok-words_of.ensures)

pub returns-in_ok-heading-in-Some : goal.returns-in_ok-heading-in-Some
returns-in_ok-heading-in-Some c =
    let ws = lexemes c.in-Some.words.text.now c.in-Some.words.tokens.items in
    cell_says (SpellsHead c.args.model.now c.args.names.now) c.args.cell.now ws c.in_ok-heading-in-Some.heading (rw c.in-Some.is at c.in_ok-words_of.ensures) (subst (λ v. Says (SpellsHead c.args.model.now c.args.names.now v) c.in_ok-heading-in-Some.heading) c.cursor.ensures c.in_ok-heading-in-Some.ensures)
