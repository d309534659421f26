use Rattle.std.proofs.Common.{sym, ◌∙◌}
use Rattle.opa_sentence.specs.Cursors.{seen}
use Rattle.opa_parse.proofs.tables.CellLaws.{literal_so}
use Rattle.opa_parse.proofs.tables.conditions.literal_of.Goals as goal

pub returns-in_ok-literal : goal.returns-in_ok-literal
returns-in_ok-literal c = literal_so c.args.names.now (seen c.args.words) c.in_ok-literal.literal (sym c.are_literal.ensures ∙ c.if-are_literal.true) c.in_ok-literal.ensures
