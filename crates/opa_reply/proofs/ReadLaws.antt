-- What a line asks for, and what it says in reply.
use Rattle.std.proofs.Common.{◌≡◌, ◌∙◌, inl, inr, Bool, List, ℕ, true, false, refl, subst, sym}
use Rattle.std.specs.Prelude.{Option, None, Some}
use Rattle.opa_model.specs.declared.lists.Lists.{Lists}
use Rattle.opa_case.specs.declared.question.Question.{Question}
use Rattle.opa_script.specs.declared.command.Command.{Command}
use Rattle.opa_script.specs.declared.fault.CmdFault.{CmdFault}
use Rattle.opa_script.specs.declared.fault.CmdFault.TheVariants as fault
use Rattle.opa_script.specs.Commands.{IsNoCommand}
use Rattle.opa_script.specs.Replies.{IsNoReply}
use Rattle.opa_reply.specs.Interviews.{is_long_reply, IsNotTold}
use Rattle.opa_reply.specs.Lines.{text_of, is_too_long}
use Rattle.opa_reply.specs.Replies.{IsNotAsked}

pub too_long : (m : Lists) (line : List ℕ) → is_too_long line ≡ true → IsNotAsked m line fault.NotACommand
too_long m line long = inl (long, refl)

pub no_command : (m : Lists) (line : List ℕ) (f : CmdFault) → is_too_long line ≡ false → IsNoCommand m (text_of line) f → IsNotAsked m line f
no_command m line f short none = inr (short, none)

pub not_asked : (m : Lists) (line text : List ℕ) (f : CmdFault) (long : Bool) → long ≡ is_too_long line → long ≡ false → text ≡ text_of line → IsNoCommand m text f → IsNotAsked m line f
not_asked m line text f long is short at none = no_command m line f (sym is ∙ short) (subst (λ t. IsNoCommand m t f) at none)

pub ruleset asking = (too_long)

pub long_reply : (m : Lists) (asked : Option Question) (line : List ℕ) → is_long_reply line ≡ true → IsNotTold m asked line fault.NotACommand
long_reply m asked line long = inl (long, refl)

pub no_reply : (m : Lists) (q : Question) (line : List ℕ) (f : CmdFault) → is_long_reply line ≡ false → IsNoReply m q (text_of line) f → IsNotTold m (Some q) line f
no_reply m q line f short none = inr (short, none)

pub not_told : (m : Lists) (asked : Option Question) (q : Question) (line text : List ℕ) (f : CmdFault) (long : Bool) → asked ≡ Some q → long ≡ is_long_reply line → long ≡ false → text ≡ text_of line
    → IsNoReply m q text f → IsNotTold m asked line f
not_told m asked q line text f long there is short at none =
    subst (λ o. IsNotTold m o line f) (sym there) (no_reply m q line f (sym is ∙ short) (subst (λ t. IsNoReply m q t f) at none))

pub ruleset telling = (long_reply)
