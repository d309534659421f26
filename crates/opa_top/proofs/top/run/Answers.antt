use Rattle.opa_talk.proofs.TranscriptLaws.{cuts_anywhere}
use Rattle.opa_top.specs.Running.{a_run, an_interview}
use Rattle.opa_top.proofs.OnlyLaws.{check_only}
use Rattle.opa_top.proofs.OnlyVerdicts.{verdict_only}
use Rattle.opa_top.proofs.PromiseLaws.{answers}
use Rattle.opa_top.proofs.TalkLaws.{run_reads_all}
use Rattle.opa_top.proofs.top.run.Goals as goal

pub returns : goal.returns
returns g c = record {
  promises = record {
    usage = c.run_words.ensures.usage;
    checked = c.run_words.ensures.checked;
    only_checked = λ name asks. check_only c.one_opening.ensures _ name _ _ _ _ _ _ c.run_words.result (c.run_words.ensures.checked name asks);
    unused = c.run_words.ensures.unused;
    verified = c.run_words.ensures.verified;
    only_verified = λ name report asks third. verdict_only c.one_opening.ensures c.one_verdict.ensures.telling name report _ _ _ _ _ _ _ c.run_words.result (c.run_words.ensures.verified name report asks third);
    still = c.run_words.ensures.still;
    run = λ name asks. answers a_run c.one_opening.ensures c.one_transcript.ensures.run name _ _ c.run_words.result (c.run_words.ensures.runs name asks);
    read_all = λ name asks done. run_reads_all name _ _ c.run_words.result (c.run_words.ensures.runs name asks) done;
    interview = λ name asks. answers an_interview c.one_opening.ensures c.one_transcript.ensures.interview name _ _ c.run_words.result (c.run_words.ensures.asks name asks);
    generated = c.run_words.ensures.generated;
    parts = cuts_anywhere a_run.rule;
    parts_asked = cuts_anywhere an_interview.rule;
    meaning = c.shown_is_meant.ensures;
  };
}
