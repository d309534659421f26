use Rattle.opa_words.specs.Pieces.{seen}
use Rattle.opa_text.proofs.ChangeLaws.{match_none, match_some}
use Rattle.opa_script.specs.Commands.{NamesNothing, Shows}
use Rattle.opa_script.specs.Shapes.{AreShort}
use Rattle.opa_script.proofs.Found.{point_found, point_missing}
use Rattle.opa_script.proofs.Exits.{show_name, show_long, not_short}
use Rattle.opa_script.proofs.shows.show.Goals as goal

pub returns-in_default-clause-fault : goal.returns-in_default-clause-fault
returns-in_default-clause-fault c = λ h. point_missing c.in_ok-point.field-0 (seen c.args.rest) c.in_default.is c.in_ok-point.ensures h.0 h.1

pub returns-in_default-2-clause-fault : goal.returns-in_default-2-clause-fault
returns-in_default-2-clause-fault c = show_name c.args.model.now (seen c.args.rest) c.in-Some.point (point_found c.in_ok-point.field-0 c.in-Some.point (seen c.args.rest) c.in-Some.is c.in_ok-point.ensures) (match_none c.in_ok-command.field-0 (NamesNothing c.args.model.now c.in-Some.point) (Shows c.args.model.now c.in-Some.point) c.in_default-2.is c.in_ok-command.ensures)

pub returns-then-not-branch-clause-fault : goal.returns-then-not-branch-clause-fault
returns-then-not-branch-clause-fault c =
    let spells = point_found c.in_ok-point.field-0 c.in-Some.point (seen c.args.rest) c.in-Some.is c.in_ok-point.ensures in
    let shows = match_some c.in_ok-command.field-0 c.in-Some-2.command (NamesNothing c.args.model.now c.in-Some.point) (Shows c.args.model.now c.in-Some.point) c.in-Some-2.is c.in_ok-command.ensures in
    show_long c.args.model.now (seen c.args.rest) c.in-Some.point c.in-Some-2.command spells shows (not_short c.in_ok-are_short.field-0 (AreShort (seen c.args.rest)) c.if-not-branch.true c.in_ok-are_short.ensures)
