-- A line is refused as a reply for one reason.
use Rattle.std.proofs.Common.{◌≡◌, ◌≢◌, ◌≤◌, ℕ, List, length, refl, sym, subst}
use Rattle.std.specs.Prelude.{Option, None, Some, MatchOption}
use Rattle.opa_model.specs.declared.lists.Lists.{Lists}
use Rattle.opa_case.specs.declared.question.Question.{Question}
use Rattle.opa_script.specs.declared.fault.CmdFault.{CmdFault}
use Rattle.opa_script.specs.declared.fault.CmdFault.TheVariants as fault
use Rattle.opa_script.specs.Replies.{slashed, IsNoPlainReply, IsNoSlashed}
use Rattle.opa_laws.specs.Decided.Laws.{OneReplyFault}
use Rattle.opa_laws.proofs.decided.LineFaults.{one_command_fault_holds}

plain_fault : (q : Question) (bytes : List ℕ) (f g : CmdFault) → f ≢ fault.NoMemory → g ≢ fault.NoMemory → IsNoPlainReply q bytes f → IsNoPlainReply q bytes g → f ≡ g
plain_fault q bytes fault.NotACommand fault.NotACommand n o h k = refl
plain_fault q bytes fault.NotACommand fault.Name n o h k = absurd k
plain_fault q bytes fault.NotACommand fault.Value n o h k = absurd (h.1 k.1.0 k.1.1)
plain_fault q bytes fault.NotACommand fault.NoMemory n o h k = absurd (o refl)
plain_fault q bytes fault.Name g n o h k = absurd h
plain_fault q bytes fault.Value fault.NotACommand n o h k = absurd (k.1 h.1.0 h.1.1)
plain_fault q bytes fault.Value fault.Name n o h k = absurd k
plain_fault q bytes fault.Value fault.Value n o h k = refl
plain_fault q bytes fault.Value fault.NoMemory n o h k = absurd (o refl)
plain_fault q bytes fault.NoMemory g n o h k = absurd (n refl)

slashed_fault : (m : Lists) (bytes rest : List ℕ) (f g : CmdFault) → f ≢ fault.NoMemory → g ≢ fault.NoMemory → IsNoSlashed m bytes rest f → IsNoSlashed m bytes rest g → f ≡ g
slashed_fault m bytes rest fault.NotACommand fault.NotACommand n o h k = refl
slashed_fault m bytes rest fault.NotACommand fault.Name n o h k = one_command_fault_holds m rest fault.NotACommand fault.Name n o (h.1 k.0) k.1
slashed_fault m bytes rest fault.NotACommand fault.Value n o h k = one_command_fault_holds m rest fault.NotACommand fault.Value n o (h.1 k.0) k.1
slashed_fault m bytes rest fault.NotACommand fault.NoMemory n o h k = absurd (o refl)
slashed_fault m bytes rest fault.Name fault.NotACommand n o h k = one_command_fault_holds m rest fault.Name fault.NotACommand n o h.1 (k.1 h.0)
slashed_fault m bytes rest fault.Name fault.Name n o h k = refl
slashed_fault m bytes rest fault.Name fault.Value n o h k = one_command_fault_holds m rest fault.Name fault.Value n o h.1 k.1
slashed_fault m bytes rest fault.Name fault.NoMemory n o h k = absurd (o refl)
slashed_fault m bytes rest fault.Value fault.NotACommand n o h k = one_command_fault_holds m rest fault.Value fault.NotACommand n o h.1 (k.1 h.0)
slashed_fault m bytes rest fault.Value fault.Name n o h k = one_command_fault_holds m rest fault.Value fault.Name n o h.1 k.1
slashed_fault m bytes rest fault.Value fault.Value n o h k = refl
slashed_fault m bytes rest fault.Value fault.NoMemory n o h k = absurd (o refl)
slashed_fault m bytes rest fault.NoMemory g n o h k = absurd (n refl)

fault_by : (m : Lists) (q : Question) (bytes : List ℕ) (f g : CmdFault) → f ≢ fault.NoMemory → g ≢ fault.NoMemory → (o : Option (List ℕ))
    → MatchOption o (IsNoPlainReply q bytes f) (λ rest. IsNoSlashed m bytes rest f) → MatchOption o (IsNoPlainReply q bytes g) (λ rest. IsNoSlashed m bytes rest g) → f ≡ g
fault_by m q bytes f g some other None h k = plain_fault q bytes f g some other h k
fault_by m q bytes f g some other (Some rest) h k = slashed_fault m bytes rest f g some other h k

pub one_reply_fault_holds : OneReplyFault
one_reply_fault_holds m q bytes f g some other h k = fault_by m q bytes f g some other (slashed bytes) h k
