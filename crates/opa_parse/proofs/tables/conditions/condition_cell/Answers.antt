use Rattle.std.proofs.Common.{sym, subst, ◌∙◌}
use Rattle.std.specs.Prelude.{None}
use Rattle.opa_sentence.specs.Lexemes.{lexemes}
use Rattle.opa_parse.specs.Tables.Cells.{Says, SpellsTest}
use Rattle.opa_parse.proofs.tables.CellLaws.{empty_cell, some_bytes, filled_says, cell_says, cell_says_none}
use Rattle.opa_parse.proofs.tables.conditions.condition_cell.Goals as goal

pub returns-then-is_empty : goal.returns-then-is_empty
returns-then-is_empty c = empty_cell c.args.names.now c.args.cell.now (sym c.is_empty.ensures ∙ c.if-is_empty.true)

pub returns-in-None : goal.returns-in-None
returns-in-None c =
    filled_says c.args.names.now c.args.cell.now None (some_bytes c.args.cell.now (sym c.is_empty.ensures ∙ c.if-is_empty.false))
    (cell_says_none (SpellsTest c.args.names.now) c.args.cell.now (rw c.in-None.is at c.in_ok-words_of.ensures))

pub returns-in_ok-test-in-Some : goal.returns-in_ok-test-in-Some
returns-in_ok-test-in-Some c =
    let ws = lexemes c.in-Some.words.text.now c.in-Some.words.tokens.items in
    filled_says c.args.names.now c.args.cell.now c.in_ok-test-in-Some.test (some_bytes c.args.cell.now (sym c.is_empty.ensures ∙ c.if-is_empty.false))
    (cell_says (SpellsTest c.args.names.now) c.args.cell.now ws c.in_ok-test-in-Some.test (rw c.in-Some.is at c.in_ok-words_of.ensures) (subst (λ v. Says (SpellsTest c.args.names.now v) c.in_ok-test-in-Some.test) c.cursor.ensures c.in_ok-test-in-Some.ensures))
