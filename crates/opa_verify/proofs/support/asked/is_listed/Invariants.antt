use Rattle.std.proofs.Common.{◌≡◌, is_some, length}
use Rattle.opa_verify.specs.Support.Told.{first_told, value_by}
use Rattle.opa_verify.proofs.support.asked.is_listed.Given as goal

abbrev pub invariant-loop-line : goal.invariant-loop-line
invariant-loop-line l = is_some (first_told (value_by l.attr l.inst l.day) l.fn.lines) ≡ is_some (first_told (value_by l.attr l.inst l.day) l.rest)

abbrev pub decreases-loop-line : goal.decreases-loop-line
decreases-loop-line l = length l.rest
