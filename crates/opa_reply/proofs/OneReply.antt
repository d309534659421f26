-- A reply is read in one way, and a line is not both short and too long.
use Rattle.std.proofs.Common.{sym, List, ◌≡◌, ◌∙◌, ℕ, false, true}
use Rattle.std.specs.Prelude.{Option, None, Some}
use Rattle.opa_model.specs.Models.{IsModel}
use Rattle.opa_model.specs.declared.lists.Lists.{Lists}
use Rattle.opa_case.specs.declared.question.Question.{Question}
use Rattle.opa_script.specs.Laws.{IsWellFormed}
use Rattle.opa_script.specs.declared.command.Command.{Command}
use Rattle.opa_script.specs.declared.fault.CmdFault.{CmdFault}
use Rattle.opa_script.specs.declared.fault.CmdFault.TheVariants as fault
use Rattle.opa_script.proofs.ReplyLaws as replies
use Rattle.opa_reply.specs.Interviews.{RepliesTo, RepliesNotTo, is_long_reply}
use Rattle.opa_reply.specs.Lines.{is_too_long}

-- two commands that a reply gives are the same
pub one_said : (m : Lists) → IsModel m → (asked : Option Question) (text : List ℕ) (c d : Command) → IsWellFormed c → IsWellFormed d → RepliesTo m asked text c → RepliesTo m asked text d → c ≡ d
one_said m is None text c d wc wd h k = h ∙ sym k
one_said m is (Some q) text c d wc wd h k = replies.one_reply_holds m is q text c d wc wd h k

-- a reply that gives a command is refused for want of memory alone
pub said_or_not : (m : Lists) (asked : Option Question) (text : List ℕ) (c : Command) (f : CmdFault) → RepliesTo m asked text c → RepliesNotTo m asked text f → f ≡ fault.NoMemory
said_or_not m None text c f h k = absurd k
said_or_not m (Some q) text c f h k = replies.refused_or_replied_holds m q text c f h k

-- a reply is not both long and short
pub never_long : {T : Type 0} (line : List ℕ) → is_long_reply line ≡ true → is_long_reply line ≡ false → T
never_long line long short = let no : true ≡ false = sym long ∙ short in absurd (cc no)

-- a line is not both too long and short
pub never_too_long : {T : Type 0} (line : List ℕ) → is_too_long line ≡ true → is_too_long line ≡ false → T
never_too_long line long short = let no : true ≡ false = sym long ∙ short in absurd (cc no)
