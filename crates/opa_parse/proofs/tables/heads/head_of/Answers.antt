use Rattle.opa_sentence.specs.Cursors.{seen}
use Rattle.opa_parse.proofs.tables.CellLaws.{as_head, concludes}
use Rattle.opa_parse.proofs.tables.heads.head_of.Goals as goal

pub returns-in_ok-conclusion-in-Some : goal.returns-in_ok-conclusion-in-Some
returns-in_ok-conclusion-in-Some c =
    concludes c.args.model.now c.args.names.now (seen c.args.words) (seen c.in-Some.rest) c.in-Some.ensures.0 c.in_ok-conclusion-in-Some.conclusion c.in-Some.ensures.1 c.in-Some.ensures.2 c.in_ok-conclusion-in-Some.ensures

pub returns-in_ok-condition_of-in-None : goal.returns-in_ok-condition_of-in-None
returns-in_ok-condition_of-in-None c =
    as_head c.args.model.now c.args.names.now (seen c.args.words) c.in_ok-condition_of-in-None.field-0 c.as_condition.result c.in-None.ensures c.in_ok-condition_of-in-None.ensures c.as_condition.ensures
