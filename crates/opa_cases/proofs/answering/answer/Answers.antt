use Rattle.std.proofs.Common.{inl}
use Rattle.opa_cases.specs.Caseload.{IsUnnamed}
use Rattle.opa_cases.proofs.ServeLaws.{none_of}
use Rattle.opa_cases.proofs.answering.answer.Goals as goal

pub returns-in_ok-text-in-Ok-None : goal.returns-in_ok-text-in-Ok-None
returns-in_ok-text-in-Ok-None g c = λ files. inl (none_of (IsUnnamed c.args.line.now) _ c.in-Ok-None.field-0 c.in-Ok-None.field-0-is c.in-Ok-None.ensures, c.in_ok-text-in-Ok-None.ensures files)
