-- A line of a run has one reply.
use Rattle.std.proofs.Common.{◌≡◌, ◌≢◌, ℕ, List, inl, inr, sym, ap, subst, ◌∙◌}
use Rattle.opa_session.specs.Telling.Telling.{ToldOnce}
use Rattle.opa_model.specs.declared.lists.Lists.{Lists}
use Rattle.opa_reply.specs.Reporting.Laws.{OneReportTold}
use Rattle.opa_script.specs.declared.command.Command.{Command}
use Rattle.opa_script.specs.declared.fault.CmdFault.{CmdFault}
use Rattle.opa_script.specs.declared.fault.CmdFault.TheVariants as fault
use Rattle.opa_script.proofs.LawsHold.{refused_or_read_holds}
use Rattle.opa_script.proofs.OneCommand.{one_command_holds}
use Rattle.opa_reply.specs.Held.{Held}
use Rattle.opa_reply.specs.Refused.{refused_command}
use Rattle.opa_reply.specs.Lines.{text_of}
use Rattle.opa_reply.specs.Replies.{Answers, Asks, AsksNothing, CarriesOut, IsAsked, IsNotAsked, Replies, conversation}
use Rattle.opa_reply.proofs.OneReply.{never_too_long}
use Rattle.opa_laws.specs.Decided.Laws.{HasModel, IsTold, OneReply, SameBase, StaysTold}
use Rattle.opa_laws.proofs.decided.LineFaults.{one_command_fault_holds}
use Rattle.opa_laws.proofs.decided.Carrying.{AreSame, Stays, stays_same, carried_one, carried_stays}

-- ---- whatever lines say

module _ (Says : Held → List ℕ → Command → Type 0) (SaysNothing : Held → List ℕ → CmdFault → Type 0) where
  -- a line says one thing, is refused for one reason, and never both
  pub record AreApart : Type 0 where
    pub one : (x : Held) (line : List ℕ) (c d : Command) → HasModel x → Says x line c → Says x line d → c ≡ d
    pub reason : (x : Held) (line : List ℕ) (f g : CmdFault) → f ≢ fault.NoMemory → g ≢ fault.NoMemory → SaysNothing x line f → SaysNothing x line g → f ≡ g
    pub either : (x : Held) (line : List ℕ) (c : Command) (f : CmdFault) → Says x line c → SaysNothing x line f → f ≡ fault.NoMemory

  pub answers_one : ToldOnce → OneReportTold → AreApart → (x y z : Held) (line t u : List ℕ) → HasModel x → IsTold x
      → Answers Says SaysNothing x line t y → Answers Says SaysNothing x line u z → AreSame t u y z
  answers_one once one apart x y z line t u is told (inl h) (inl k) = let f = apart.reason x line h.0 k.0 h.1 k.1 h.2 k.2 in (h.3 ∙ ap refused_command f ∙ sym k.3, h.4 ∙ sym k.4)
  answers_one once one apart x y z line t u is told (inl h) (inr k) = absurd (h.1 (apart.either x line k.0 h.0 k.1 h.2))
  answers_one once one apart x y z line t u is told (inr h) (inl k) = absurd (k.1 (apart.either x line h.0 k.0 h.1 k.2))
  answers_one once one apart x y z line t u is told (inr h) (inr k) =
      let c = apart.one x line h.0 k.0 is h.1 k.1 in
      carried_one once one k.0 x y z t u told (subst (λ (d : Command). CarriesOut d x t y) c h.2) k.2

  pub answers_stay : (x y : Held) (line t : List ℕ) → Answers Says SaysNothing x line t y → Stays x y
  answers_stay x y line t (inl h) = stays_same x y h.4
  answers_stay x y line t (inr h) = carried_stays h.0 x y t h.2

-- ---- commands

one_reason : (m : Lists) (line : List ℕ) (f g : CmdFault) → f ≢ fault.NoMemory → g ≢ fault.NoMemory → IsNotAsked m line f → IsNotAsked m line g → f ≡ g
one_reason m line f g some other (inl h) (inl k) = h.1 ∙ sym k.1
one_reason m line f g some other (inl h) (inr k) = never_too_long line h.0 k.0
one_reason m line f g some other (inr h) (inl k) = never_too_long line k.0 h.0
one_reason m line f g some other (inr h) (inr k) = one_command_fault_holds m (text_of line) f g some other h.1 k.1

-- a line that asks for a command is one
asks_something : (m : Lists) (line : List ℕ) (c : Command) (f : CmdFault) → IsAsked m line c → IsNotAsked m line f → f ≡ fault.NoMemory
asks_something m line c f h (inl k) = never_too_long line k.0 h.0
asks_something m line c f h (inr k) = refused_or_read_holds m (text_of line) c f h.1 k.1

commands_apart : AreApart Asks AsksNothing
commands_apart = record {
  one = λ x line c d is h k. one_command_holds x.rules.model is (text_of line) c d h.2 k.2 h.1 k.1;
  reason = λ x line f g some other h k. one_reason x.rules.model line f g some other h k;
  either = λ x line c f h k. asks_something x.rules.model line c f h k;
}

pub one_reply_holds : ToldOnce → OneReportTold → OneReply conversation
one_reply_holds once one x y z line t u is told h k = answers_one Asks AsksNothing once one commands_apart x y z line t u is told h k

pub same_base_holds : SameBase conversation
same_base_holds x y line t h = (answers_stay Asks AsksNothing x y line t h).0

pub stays_told_holds : StaysTold conversation
stays_told_holds x y line t told h = (answers_stay Asks AsksNothing x y line t h).1 told
