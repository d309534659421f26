use Rattle.std.proofs.Common.{sym, ◌∙◌}
use Rattle.opa_sentence.specs.Cursors.{seen}
use Rattle.opa_parse.specs.Lines.{ending_of}
use Rattle.opa_parse.specs.Tables.Cells.{IsOperand}
use Rattle.opa_parse.proofs.tables.CellLaws.{ends_so}
use Rattle.opa_parse.proofs.tables.heads.condition_of.Goals as goal

pub returns-in_ok-reading-in-Nothing : goal.returns-in_ok-reading-in-Nothing
returns-in_ok-reading-in-Nothing c =
    ends_so (IsOperand c.args.names.now (seen c.args.words)) (ending_of (seen c.args.words)) c.in_ok-reading-in-Nothing.reading (sym c.ending_of.ensures ∙ c.in-Nothing.is) c.in_ok-reading-in-Nothing.ensures
