use Rattle.std.proofs.Common.{◌∙◌}
use Rattle.opa_script.proofs.ExampleLaws.{people_start, people_more}
use Rattle.opa_script.proofs.examples.people.Goals as goal

pub loop-k-init : goal.loop-k-init
loop-k-init c = c.new-out.ensures.bytes ∙ people_start

pub loop-k-preserved : goal.loop-k-preserved
loop-k-preserved c = people_more _ _ _ _ _ c.loop-k.k c.in_ok-push_str.ensures.bytes c.in_ok-push_str-2.ensures.bytes c.loop-k.invariant c.gap_before.ensures (c.as_str.ensures ∙ c.in_ok-name.ensures)
