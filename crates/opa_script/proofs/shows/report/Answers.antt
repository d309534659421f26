use Rattle.std.proofs.Common.{sym}
use Rattle.opa_words.specs.Pieces.{seen}
use Rattle.opa_script.proofs.Found.{point_found, point_missing, attribute_found, attribute_missing}
use Rattle.opa_script.proofs.Exits.{report_shape, report_name, report_unread, is_dated, no_day}
use Rattle.opa_script.proofs.shows.report.Goals as goal

pub returns-in_default-2-clause-fault : goal.returns-in_default-2-clause-fault
returns-in_default-2-clause-fault c = report_shape c.args.model.now (seen c.args.rest) (seen c.in-Some.front) c.in-Some.date.now c.in-Some.ensures.ends (point_missing c.in_ok-point.field-0 (seen c.in-Some.front) c.in_default-2.is c.in_ok-point.ensures)

pub returns-in_default-3-clause-fault : goal.returns-in_default-3-clause-fault
returns-in_default-3-clause-fault c = report_name c.args.model.now (seen c.args.rest) c.in-Some.date.now c.in-Some-2.point (is_dated c.in-Some-2.point c.in-Some.date.now (seen c.in-Some.front) (seen c.args.rest) c.in-Some.ensures.ends (point_found c.in_ok-point.field-0 c.in-Some-2.point (seen c.in-Some.front) c.in-Some-2.is c.in_ok-point.ensures)) (attribute_missing c.in_ok-attr.field-0 c.args.model.now c.in-Some-2.point c.in_default-3.is c.in_ok-attr.ensures)

pub returns-in-Err-clause-fault : goal.returns-in-Err-clause-fault
returns-in-Err-clause-fault c =
    report_unread c.args.model.now (seen c.args.rest) c.in-Some.date.now c.in-Some-2.point c.in-Some-3.attr c.in-Some-3.inst (is_dated c.in-Some-2.point c.in-Some.date.now (seen c.in-Some.front) (seen c.args.rest) c.in-Some.ensures.ends (point_found c.in_ok-point.field-0 c.in-Some-2.point (seen c.in-Some.front) c.in-Some-2.is c.in_ok-point.ensures))
    (attribute_found c.in_ok-attr.field-0 c.args.model.now c.in-Some-2.point c.in-Some-3.attr c.in-Some-3.inst c.in-Some-3.is c.in_ok-attr.ensures)
    (no_day c.in-Some.date.now c.in-Err.field-0 (sym c.in-Err.ensures.value))
