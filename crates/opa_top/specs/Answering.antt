-- What is promised of lines that are answered in some manner over the rulebase of a name.
use Rattle.std.specs.Prelude.{ℕ, List}
use Rattle.opa_io.specs.declared.fault.Status.{Status}
use Rattle.opa_top.specs.Running.{Manner, Outside, Runs}
use Rattle.opa_top.specs.Statuses.{Wrote, IsOnly, LeftOff, HasCause, Completes}

pub record Answers (way : Manner) (name : List ℕ) (old new : Outside) (result : Status) : Type 0 where
  -- It ran, as one relation between what the outside was, what it is, and the answer.
  pub runs : Runs way name old new result
  -- With Done the bytes written are the transcript of the input, with Refused the printed refusal, and else a front of these; the
  -- files and the listeners are those that the lines leave, but for a name under which keeping a file failed.
  pub wrote : Wrote way name old new result
  -- Nothing else could have been written: files open one thing, and an input has one transcript.
  pub only : IsOnly way name old new result
  -- Where the source fails or the input is too long, the whole transcript of the whole lines was written.
  pub left_off : LeftOff way name old new result
  -- Each answer has its cause.
  pub cause : HasCause way name old new result
  -- Where nothing fails, what the files open decides.
  pub complete : Completes name old new result
