use Rattle.std.proofs.Common.{sym}
use Rattle.opa_words.specs.Pieces.{seen}
use Rattle.opa_script.proofs.Found.{given_nothing, given_pointless, point_missing}
use Rattle.opa_script.proofs.points.given.Goals as goal

pub returns-then-is_empty-clause-given : goal.returns-then-is_empty-clause-given
returns-then-is_empty-clause-given c = given_nothing (seen c.in-Some.front) (seen c.in-Some.after) (seen c.args.pieces) c.in-Some.ensures.parts (sym c.if-is_empty.ensures)

pub returns-in-None-2-clause-given : goal.returns-in-None-2-clause-given
returns-in-None-2-clause-given c =
    given_pointless (seen c.in-Some.front) (seen c.in-Some.after) (seen c.args.pieces) c.in-Some.ensures.parts
    (point_missing c.in_ok-point_of-in-Some.field-0 (seen c.in-Some.front) c.in-None-2.is c.in_ok-point_of-in-Some.ensures)
