use Rattle.std.proofs.Common.{refl, inr}
use Rattle.opa_top.specs.Generating.{generated_name}
use Rattle.opa_top.specs.Running.{a_run}
use Rattle.opa_top.proofs.GenerateLaws.{answers_example, generated_accepted, none_rose}
use Rattle.opa_top.proofs.PromiseLaws.{answers}
use Rattle.opa_top.proofs.generating.talk_over.Goals as goal

pub returns-clause-made : goal.returns-clause-made
returns-clause-made g c = inr (
  _,
  _,
  record {
    files = c.in-Ok.ensures.files;
    input = c.in-Ok.ensures.input;
    takes = none_rose 0 0 refl;
    reads = none_rose 0 0 refl;
    written_before = refl;
    written_after = refl;
    hearers_before = refl;
    hearers_after = refl;
    writes_before = refl;
    writes_after = refl;
    steps_before = refl;
    steps_after = refl;
    kept = refl;
    unread = refl;
  },
  answers_example _ _ c.open_and_talk-status.result c.unless_lacking.result c.has_lacked.result
      (answers a_run c.one_opening.ensures c.one_transcript.ensures.run generated_name _ _ c.open_and_talk-status.result c.open_and_talk-status.ensures)
      (λ none rose. none_rose _ _ (c.has_lacked.ensures none) rose)
      c.unless_lacking.ensures,
)

pub returns-clause-accepted : goal.returns-clause-accepted
returns-clause-accepted g c = generated_accepted c.generated_is_accepted.ensures.not_refused c.generated_is_accepted.ensures.alone _ _ _ c.unless_lacking.result (returns-clause-made g c)
