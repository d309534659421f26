use Rattle.std.proofs.Common.{◌∙◌}
use Rattle.opa_script.proofs.ExampleLaws.{answers_start, answers_more}
use Rattle.opa_script.proofs.examples.answers.Goals as goal

pub loop-k-init : goal.loop-k-init
loop-k-init c = c.new-out.ensures.bytes ∙ answers_start c.args.seed

pub loop-k-preserved : goal.loop-k-preserved
loop-k-preserved c = answers_more _ _ _ _ c.args.seed c.loop-k.k c.in_ok-push_str.ensures.bytes c.in_ok-push_str-2.ensures.bytes c.loop-k.invariant (c.as_str.ensures ∙ c.in_ok-line.ensures)
