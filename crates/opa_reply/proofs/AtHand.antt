-- A line that brought no other case leaves the question that is asked next.
use Rattle.std.proofs.Common.{◌≡◌, ◌∙◌, ℕ, Bool, true, false, List, [], Ok, Err, Option, None, Some, ap, sym}
use Rattle.std.specs.Prelude.{MatchResult, Result}
use Rattle.opa_case.specs.Cases.{CaseView}
use Rattle.opa_case.specs.Shapes.{shape_of}
use Rattle.opa_case.specs.Steps.{step}
use Rattle.opa_case.specs.declared.change.Refusal.{Refusal}
use Rattle.opa_case.specs.declared.question.Question.{Question}
use Rattle.opa_need.specs.Goals.{next_of}
use Rattle.opa_script.specs.declared.command.Command.{Command}
use Rattle.opa_script.specs.declared.command.Command.TheVariants as command
use Rattle.opa_script.specs.declared.fault.CmdFault.{CmdFault}
use Rattle.opa_reply.specs.Held.{Held}
use Rattle.opa_reply.specs.Refused.{refused_change}
use Rattle.opa_reply.specs.Replies.{CarriesOut, Comes, Responds}
use Rattle.opa_reply.specs.Questions.{IsAtHand, alters, brings, loads, no_text}
use Rattle.opa_tree.specs.declared.rulebase.Rulebase.{Rulebase}

abbrev Stays : Held → Held → Type 0
Stays x y = (y.rules ≡ x.rules) × (y.case ≡ x.case)

same : (x y : Held) → y ≡ x → Stays x y
same x y e = (ap (λ (z : Held). z.rules) e, ap (λ (z : Held). z.case) e)

carried : (c : Command) (x y : Held) (text : List ℕ) → CarriesOut c x text y → brings (loads (Ok c)) (alters (Ok c)) text ≡ false → Stays x y
carried command.Nothing x y text h e = same x y h.1
carried (command.Change k) x y text h e = go (step (shape_of x.rules.model) x.rules.ruled x.case k) h
  where
    go : (o : Result CaseView Refusal) → MatchResult o (λ c. (text ≡ []) × Comes x c y) (λ f. (text ≡ refused_change f) × (y ≡ x)) → Stays x y
    go (Ok c) h = absurd (cc (sym (ap no_text h.0) ∙ e))
    go (Err f) h = same x y h.1
carried (command.ShowAttr a i) x y text h e = same x y h.1
carried (command.ShowMembers r i) x y text h e = same x y h.1
carried (command.Save name) x y text h e = (ap (λ (z : Held). z.rules) h.others, ap (λ (z : Held). z.case) h.others)
carried (command.Load name) x y text h e = absurd (cc e)
carried command.Goals x y text h e = same x y h.1
carried command.Next x y text h e = same x y h.1
carried command.Screen x y text h e = same x y h.1
carried (command.Report a i d) x y text h e = same x y h.1
carried command.Stats x y text h e = same x y h.1
carried (command.Dismiss n) x y text h e = (ap (λ (z : Held). z.rules) h.others, ap (λ (z : Held). z.case) h.others)

responded : (read : Result Command CmdFault) (x y : Held) (text : List ℕ) → Responds read x text y → brings (loads read) (alters read) text ≡ false → Stays x y
responded (Ok c) x y text h e = carried c x y text h e
responded (Err f) x y text h e = same x y h.2

pub next_stays : (read : Result Command CmdFault) (x y : Held) (text bytes : List ℕ) (load change may : Bool) (q : Option Question) → load ≡ loads read → change ≡ alters read → may ≡ brings load change bytes → bytes ≡ text
    → Responds read x text y → q ≡ next_of x.rules x.case → may ≡ false → q ≡ next_of y.rules y.case
next_stays read x y text bytes load change may q f g m at out is none =
    let stays = responded read x y text out (sym (m ∙ ap (λ b. brings b change bytes) f ∙ ap (λ b. brings (loads read) b bytes) g ∙ ap (brings (loads read) (alters read)) at) ∙ none) in
    is ∙ sym (ap (λ r. next_of r y.case) stays.0 ∙ ap (next_of x.rules) stays.1)

module _ (r : Rulebase) (c : CaseView) where
  pub hand_some : (o : Option (Option Question)) (q : Option Question) → o ≡ Some q → q ≡ next_of r c → IsAtHand r c o
  hand_some o q e is x at = let same : q ≡ x = cc (e, at) in sym same ∙ is

  pub hand_none : (o : Option (Option Question)) → o ≡ None → IsAtHand r c o
  hand_none o e x at = absurd (cc (e, at))

pub ruleset handing = (hand_some, hand_none)
