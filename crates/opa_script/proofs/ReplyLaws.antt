-- A line is at most one reply, a reply has no fault, and what it names is declared.
use Rattle.std.proofs.Common.{◌≡◌, ◌≤◌, ℕ, List, length, false, refl, sym, ap, subst, ◌∙◌, inl, inr}
use Rattle.std.specs.Prelude.{Option, None, Some, MatchOption}
use Rattle.opa_model.specs.declared.lists.Lists.{Lists}
use Rattle.opa_model.specs.Models.{IsModel}
use Rattle.opa_case.specs.declared.change.ChangeCommand.{ChangeCommand}
use Rattle.opa_case.specs.declared.change.ChangeCommand.TheVariants as change
use Rattle.opa_case.specs.declared.question.Question.{Question}
use Rattle.opa_case.specs.declared.question.Question.TheVariants as question
use Rattle.opa_words.specs.Pieces.{Piece}
use Rattle.opa_text.specs.Points.{HasAsked}
use Rattle.opa_text.proofs.NameLaws.{names_one}
use Rattle.opa_script.specs.declared.command.Command.{Command}
use Rattle.opa_script.specs.declared.command.Command.TheVariants as command
use Rattle.opa_script.specs.declared.fault.CmdFault.{CmdFault}
use Rattle.opa_script.specs.declared.fault.CmdFault.TheVariants as fault
use Rattle.opa_script.specs.Commands.{IsCommand}
use Rattle.opa_script.specs.Laws.{HasLine, IsInRange, IsWellFormed, OneReply, RefusedOrReplied, RepliesAreInRange}
use Rattle.opa_script.specs.Replies.{slashed, SaysChange, AreReply, IsPlainReply, IsNoPlainReply, IsNotLong, IsNoSlashed}
use Rattle.opa_script.proofs.LawsHold.{idle_apart, same_tokens, refused_or_read_holds}
use Rattle.opa_script.proofs.OneCommand.{one_command_holds, one_line}
use Rattle.opa_script.proofs.Ranges.{command_in_range, same_range}

-- ---- at most one

says_one : (q : Question) (ps : List Piece) (x y : ChangeCommand) → HasLine x → HasLine y → SaysChange q ps x → SaysChange q ps y → x ≡ y
says_one (question.Attr a i) ps x y hx hy (l, h, e) (k, g, f) =
    e ∙ ap (λ z. change.Answer a i z) (one_line l k ps (subst HasLine e hx) (subst HasLine f hy) h g) ∙ sym f
says_one (question.Members r i) ps x y hx hy (ns, h, e) (ms, g, f) = e ∙ ap (λ z. change.SetList r i z) (names_one ns ms ps h g) ∙ sym f

are_one : (q : Question) (ps : List Piece) (c d : Command) → IsWellFormed c → IsWellFormed d → AreReply q ps c → AreReply q ps d → c ≡ d
are_one q ps c d wc wd (short, (x, h, e)) (brief, (y, k, f)) =
    e ∙ ap (λ z. command.Change z) (says_one q ps x y (subst IsWellFormed e wc) (subst IsWellFormed f wd) h k) ∙ sym f

plain_one : (q : Question) (bytes : List ℕ) (c d : Command) → IsWellFormed c → IsWellFormed d → IsPlainReply q bytes c → IsPlainReply q bytes d → c ≡ d
plain_one q bytes c d wc wd (inl h) (inl k) = h.1 ∙ sym k.1
plain_one q bytes c d wc wd (inl h) (inr k) = absurd (idle_apart bytes h.0 k.0)
plain_one q bytes c d wc wd (inr h) (inl k) = absurd (idle_apart bytes k.0 h.0)
plain_one q bytes c d wc wd (inr h) (inr k) =
    are_one q k.1.0 c d wc wd (subst (λ ps. AreReply q ps c) (same_tokens bytes h.1.0 k.1.0 h.1.1 k.1.1) h.1.2) k.1.2

one_by : (m : Lists) → IsModel m → (q : Question) (bytes : List ℕ) (c d : Command) → IsWellFormed c → IsWellFormed d → (o : Option (List ℕ))
    → MatchOption o (IsPlainReply q bytes c) (λ rest. IsCommand m rest c × IsNotLong bytes rest)
    → MatchOption o (IsPlainReply q bytes d) (λ rest. IsCommand m rest d × IsNotLong bytes rest) → c ≡ d
one_by m im q bytes c d wc wd None h k = plain_one q bytes c d wc wd h k
one_by m im q bytes c d wc wd (Some rest) h k = one_command_holds m im rest c d wc wd h.0 k.0

pub one_reply_holds : OneReply
one_reply_holds m im q bytes c d wc wd h k = one_by m im q bytes c d wc wd (slashed bytes) h k

-- ---- a reply or a fault

plain_apart : (q : Question) (bytes : List ℕ) (c : Command) (f : CmdFault) → IsPlainReply q bytes c → IsNoPlainReply q bytes f → f ≡ fault.NoMemory
plain_apart q bytes c fault.NotACommand (inl h) k = absurd (idle_apart bytes h.0 k.0)
plain_apart q bytes c fault.NotACommand (inr h) k = absurd (k.1 h.1.0 h.1.1)
plain_apart q bytes c fault.Name h k = absurd k
plain_apart q bytes c fault.Value (inl h) k = absurd (idle_apart bytes h.0 k.0)
plain_apart q bytes c fault.Value (inr h) k = absurd (k.1.2 c (subst (λ ps. AreReply q ps c) (same_tokens bytes h.1.0 k.1.0 h.1.1 k.1.1) h.1.2))
plain_apart q bytes c fault.NoMemory h k = refl

slashed_apart : (m : Lists) (bytes rest : List ℕ) (c : Command) (f : CmdFault) → IsCommand m rest c × IsNotLong bytes rest → IsNoSlashed m bytes rest f → f ≡ fault.NoMemory
slashed_apart m bytes rest c fault.NotACommand h k = refused_or_read_holds m rest c fault.NotACommand h.0 (k.1 (h.1 k.0))
slashed_apart m bytes rest c fault.Name h k = refused_or_read_holds m rest c fault.Name h.0 k.1
slashed_apart m bytes rest c fault.Value h k = refused_or_read_holds m rest c fault.Value h.0 k.1
slashed_apart m bytes rest c fault.NoMemory h k = refl

apart_by : (m : Lists) (q : Question) (bytes : List ℕ) (c : Command) (f : CmdFault) (o : Option (List ℕ))
    → MatchOption o (IsPlainReply q bytes c) (λ rest. IsCommand m rest c × IsNotLong bytes rest)
    → MatchOption o (IsNoPlainReply q bytes f) (λ rest. IsNoSlashed m bytes rest f) → f ≡ fault.NoMemory
apart_by m q bytes c f None h k = plain_apart q bytes c f h k
apart_by m q bytes c f (Some rest) h k = slashed_apart m bytes rest c f h k

pub refused_or_replied_holds : RefusedOrReplied
refused_or_replied_holds m q bytes c f h k = apart_by m q bytes c f (slashed bytes) h k

-- ---- in range

says_in_range : (m : Lists) (q : Question) (ps : List Piece) (x : ChangeCommand) (c : Command) → HasAsked m q → SaysChange q ps x → c ≡ command.Change x → IsInRange m c
says_in_range m (question.Attr a i) ps x c asked (l, h, e) f = same_range m c _ (f ∙ ap (λ z. command.Change z) e) asked
says_in_range m (question.Members r i) ps x c asked (ns, h, e) f = same_range m c _ (f ∙ ap (λ z. command.Change z) e) asked

plain_in_range : (m : Lists) (q : Question) (bytes : List ℕ) (c : Command) → HasAsked m q → IsPlainReply q bytes c → IsInRange m c
plain_in_range m q bytes c asked (inl h) = same_range m c command.Nothing h.1 tt
plain_in_range m q bytes c asked (inr (busy, (ps, tokens, (short, (x, says, e))))) = says_in_range m q ps x c asked says e

range_by : (m : Lists) (q : Question) (bytes : List ℕ) (c : Command) → HasAsked m q → (o : Option (List ℕ))
    → MatchOption o (IsPlainReply q bytes c) (λ rest. IsCommand m rest c × IsNotLong bytes rest) → IsInRange m c
range_by m q bytes c asked None h = plain_in_range m q bytes c asked h
range_by m q bytes c asked (Some rest) h = command_in_range m rest c h.0

pub reply_in_range : RepliesAreInRange
reply_in_range m q bytes c asked h = range_by m q bytes c asked (slashed bytes) h
