-- What a batch promises, whatever rulebase, input and outside it is given.
use Rattle.std.specs.Prelude.{ℕ, ◌≡◌, List}
use Rattle.opa_io.specs.declared.fault.Status.{Status}
use Rattle.opa_talk.specs.WholeInput.Outside.{Outside}
use Rattle.opa_batch.specs.Serving.{Serves}
use Rattle.opa_batch.specs.Statuses.{Wrote, HasCause, Completes}

pub record Promises (name : List ℕ) (old new : Outside) (result : Status) : Type 0 where
  -- It ran, as one relation between what the outside was, what it is, and the answer.
  pub serves : Serves name old new result
  -- With Done the heading and the rows were written, each of its own record alone; with Refused the printed refusal; and else a front.
  pub wrote : Wrote name old new result
  -- Each answer has its cause.
  pub cause : HasCause name old new result
  -- Where nothing fails, what the files open and the input gives decides.
  pub complete : Completes name old new result
  -- The files are as they were, whatever is answered.
  pub files : new.files ≡ old.files
