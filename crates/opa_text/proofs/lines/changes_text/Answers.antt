use Rattle.std.proofs.Common.{◌<◌, ◌++◌, ℕ, ap, sym, ◌∙◌, append_assoc}
use Rattle.std.specs.String.{string_bytes}
use Rattle.opa_date.specs.declared.TheConstants.{DAYS}
use Rattle.opa_value.specs.declared.value.Value.{Value}
use Rattle.opa_text.specs.Texts.{IsOfCalendar, change_text, changes_text}
use Rattle.opa_text.proofs.Lists.{first_all, later_all}
use Rattle.opa_text.proofs.lines.changes_text.Goals as goal

pub change_text-requires-clause-day : goal.change_text-requires-clause-day
change_text-requires-clause-day c = first_all (λ (p : ℕ × Value). p.0 < DAYS) c.loop-change.rest.now c.in-Some.change.now c.in-Some.later.now c.in-Some.ensures c.loop-change.invariant.days

pub change_text-requires-clause-value : goal.change_text-requires-clause-value
change_text-requires-clause-value c = first_all (λ (p : ℕ × Value). IsOfCalendar p.1) c.loop-change.rest.now c.in-Some.change.now c.in-Some.later.now c.in-Some.ensures c.loop-change.invariant.values

pub loop-change-preserved : goal.loop-change-preserved
loop-change-preserved c = record {
  text =
      ap (λ bs. bs ++ changes_text c.args.kind c.in-Some.later.now) (c.in_ok-push_str.ensures.bytes ∙ ap (λ t. string_bytes c.loop-change.out ++ t) (c.as_str-in-Some.ensures ∙ c.in_ok-change_text.ensures))
      ∙ append_assoc (string_bytes c.loop-change.out) (change_text c.args.kind c.in-Some.change.now) (changes_text c.args.kind c.in-Some.later.now)
      ∙ ap (λ ps. string_bytes c.loop-change.out ++ changes_text c.args.kind ps) (sym c.in-Some.ensures)
      ∙ c.loop-change.invariant.text;
  days = later_all (λ (p : ℕ × Value). p.0 < DAYS) c.loop-change.rest.now c.in-Some.change.now c.in-Some.later.now c.in-Some.ensures c.loop-change.invariant.days;
  values = later_all (λ (p : ℕ × Value). IsOfCalendar p.1) c.loop-change.rest.now c.in-Some.change.now c.in-Some.later.now c.in-Some.ensures c.loop-change.invariant.values;
}
