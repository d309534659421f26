-- What a caseload promises, whatever rulebase, input and outside it is given.
use Rattle.std.specs.Prelude.{ℕ, ◌≡◌, List}
use Rattle.opa_io.specs.declared.fault.Status.{Status}
use Rattle.opa_talk.specs.WholeInput.Outside.{Outside}
use Rattle.opa_talk.specs.Transcript.{CutsAnywhere}
use Rattle.opa_cases.specs.Caseload.{caseload}
use Rattle.opa_cases.specs.Laws.{InOrder, EachAlone, EachHeard, SuppositionsLeaveNothing}
use Rattle.opa_cases.specs.Serving.{Ran}
use Rattle.opa_cases.specs.Statuses.{Wrote, LeftOff, HasCause, Completes}

pub record Promises (name : List ℕ) (old new : Outside) (result : Status) : Type 0 where
  -- It ran, as one relation between what the outside was, what it is, and the answer.
  pub ran : Ran name old new result
  -- With Done the bytes written are the replies to the lines of the input, with Refused the printed refusal, and else a front of these.
  pub wrote : Wrote name old new result
  -- Where the source fails or the input is too long, the replies to all whole lines were written.
  pub left_off : LeftOff name old new result
  -- Each answer has its cause.
  pub cause : HasCause name old new result
  -- Where nothing fails, what the files open decides.
  pub complete : Completes name old new result
  -- The files are as they were, whatever is answered.
  pub files : new.files ≡ old.files
  -- The replies stand in the order of the input's lines.
  pub in_order : InOrder
  -- Each case's replies are those that it would get alone.
  pub each_alone : EachAlone
  -- So they are heard: the lines that begin with its quoted name and a blank are, without these, those that it would get alone.
  pub each_heard : EachHeard
  -- A supposition that is taken back leaves nothing.
  pub suppositions : SuppositionsLeaveNothing
  -- An input may be cut at any line feed: the replies to the rest go on from what the first part leaves.
  pub parts : CutsAnywhere caseload
