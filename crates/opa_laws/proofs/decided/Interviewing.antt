-- A line of an interview has one reply.
use Rattle.std.proofs.Common.{◌≡◌, ◌≢◌, ℕ, List, inl, inr, sym, ◌∙◌}
use Rattle.std.specs.Prelude.{Option, None, Some}
use Rattle.opa_session.specs.Telling.Telling.{ToldOnce}
use Rattle.opa_model.specs.declared.lists.Lists.{Lists}
use Rattle.opa_case.specs.declared.question.Question.{Question}
use Rattle.opa_reply.specs.Reporting.Laws.{OneReportTold}
use Rattle.opa_need.specs.Goals.{next_of}
use Rattle.opa_script.specs.declared.command.Command.{Command}
use Rattle.opa_script.specs.declared.fault.CmdFault.{CmdFault}
use Rattle.opa_script.specs.declared.fault.CmdFault.TheVariants as fault
use Rattle.opa_reply.specs.Held.{Held}
use Rattle.opa_reply.specs.Interviews.{IsTold as IsSaid, IsNotTold as IsNotSaid, RepliesNotTo, Tells, TellsNothing, interview}
use Rattle.opa_reply.specs.Lines.{text_of}
use Rattle.opa_reply.proofs.OneReply.{one_said, said_or_not, never_long}
use Rattle.opa_laws.specs.Decided.Laws.{HasModel, IsTold, OneReply, SameBase, StaysTold}
use Rattle.opa_laws.proofs.decided.ReplyFaults.{one_reply_fault_holds}
use Rattle.opa_laws.proofs.decided.Replying.{AreApart, answers_one, answers_stay}

one_fault : (m : Lists) (asked : Option Question) (text : List ℕ) (f g : CmdFault) → f ≢ fault.NoMemory → g ≢ fault.NoMemory → RepliesNotTo m asked text f → RepliesNotTo m asked text g → f ≡ g
one_fault m None text f g some other h k = absurd h
one_fault m (Some q) text f g some other h k = one_reply_fault_holds m q text f g some other h k

module _ (m : Lists) (asked : Option Question) where
  one_reason : (line : List ℕ) (f g : CmdFault) → f ≢ fault.NoMemory → g ≢ fault.NoMemory → IsNotSaid m asked line f → IsNotSaid m asked line g → f ≡ g
  one_reason line f g some other (inl h) (inl k) = h.1 ∙ sym k.1
  one_reason line f g some other (inl h) (inr k) = never_long line h.0 k.0
  one_reason line f g some other (inr h) (inl k) = never_long line k.0 h.0
  one_reason line f g some other (inr h) (inr k) = one_fault m asked (text_of line) f g some other h.1 k.1

  says_something : (line : List ℕ) (c : Command) (f : CmdFault) → IsSaid m asked line c → IsNotSaid m asked line f → f ≡ fault.NoMemory
  says_something line c f h (inl k) = never_long line k.0 h.0
  says_something line c f h (inr k) = said_or_not m asked (text_of line) c f h.1 k.1

replies_apart : AreApart Tells TellsNothing
replies_apart = record {
  one = λ x line c d is h k. one_said x.rules.model is (next_of x.rules x.case) (text_of line) c d h.2 k.2 h.1 k.1;
  reason = λ x line f g some other h k. one_reason x.rules.model (next_of x.rules x.case) line f g some other h k;
  either = λ x line c f h k. says_something x.rules.model (next_of x.rules x.case) line c f h k;
}

pub one_answer_holds : ToldOnce → OneReportTold → OneReply interview
one_answer_holds once one x y z line t u is told h k = answers_one Tells TellsNothing once one replies_apart x y z line t u is told h k

pub base_stays_asked : SameBase interview
base_stays_asked x y line t h = (answers_stay Tells TellsNothing x y line t h).0

pub told_stays_asked : StaysTold interview
told_stays_asked x y line t told h = (answers_stay Tells TellsNothing x y line t h).1 told
