-- What is promised of lines that were answered.
use Rattle.std.proofs.Common.{ℕ, List}
use Rattle.opa_io.specs.declared.fault.Status.{Status}
use Rattle.opa_laws.specs.Decided.Laws.{OneTranscript}
use Rattle.opa_laws.specs.Decided.Opening.{OneOpening}
use Rattle.opa_top.specs.Answering.{Answers}
use Rattle.opa_top.specs.Running.{Manner, Outside, Runs}
use Rattle.opa_top.proofs.OnlyLaws.{run_only}
use Rattle.opa_top.proofs.StatusLaws.{run_wrote, run_left_off, run_cause, run_complete}

pub answers : (way : Manner) → OneOpening → OneTranscript way.rule → (name : List ℕ) (old new : Outside) (s : Status) → Runs way name old new s → Answers way name old new s
answers way one_opening one_transcript name old new s r = record {
  runs = r;
  wrote = run_wrote way name old new s r;
  only = run_only way one_opening one_transcript name old new s r;
  left_off = run_left_off way name old new s r;
  cause = run_cause way name old new s r;
  complete = run_complete way name old new s r;
}
