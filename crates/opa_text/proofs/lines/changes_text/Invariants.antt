use Rattle.std.proofs.Common.{◌≡◌, ◌<◌, ◌++◌, ℕ, length}
use Rattle.std.specs.Prelude.{All}
use Rattle.std.specs.String.{string_bytes}
use Rattle.opa_value.specs.declared.value.Value.{Value}
use Rattle.opa_date.specs.declared.TheConstants.{DAYS}
use Rattle.opa_text.specs.Texts.{changes_text, IsOfCalendar}
use Rattle.opa_text.proofs.lines.changes_text.Given as goal

abbrev pub invariant-loop-change : goal.invariant-loop-change
invariant-loop-change l = record {
  text : string_bytes l.out ++ changes_text l.kind l.rest ≡ changes_text l.fn.kind l.fn.changes;
  days : All (λ (p : ℕ × Value). p.0 < DAYS) l.rest;
  values : All (λ (p : ℕ × Value). IsOfCalendar p.1) l.rest;
}

abbrev pub decreases-loop-change : goal.decreases-loop-change
decreases-loop-change l = length l.rest
