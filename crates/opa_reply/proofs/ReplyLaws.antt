-- A line that was read is carried out, or refused.
use Rattle.std.proofs.Common.{◌≡◌, ◌≢◌, inl, inr, List, ℕ, Ok, Err, refl, subst, sym}
use Rattle.std.specs.Prelude.{Option, Result, IfOk, IfErr}
use Rattle.opa_io.specs.Outside.{Files}
use Rattle.opa_case.specs.Cases.{CaseView}
use Rattle.opa_case.specs.declared.question.Question.{Question}
use Rattle.opa_listen.specs.Hearing.{Hearer}
use Rattle.opa_model.specs.declared.lists.Lists.{Lists}
use Rattle.opa_need.specs.Goals.{next_of}
use Rattle.opa_script.specs.declared.command.Command.{Command}
use Rattle.opa_script.specs.declared.command.Command.TheVariants as command
use Rattle.opa_script.specs.declared.fault.CmdFault.{CmdFault}
use Rattle.opa_script.specs.declared.fault.CmdFault.TheVariants as fault
use Rattle.opa_talk.specs.Talk.{MayLeave, LeftBy}
use Rattle.opa_tree.specs.declared.rulebase.Rulebase.{Rulebase}
use Rattle.opa_reply.specs.Held.{Held, held, with_hearers}
use Rattle.opa_reply.specs.Dismissals.{IsDismissed}
use Rattle.opa_reply.specs.Refused.{refused_command}
use Rattle.opa_reply.specs.Interviews.{IsTold, IsNotTold, Tells, TellsNothing}
use Rattle.opa_reply.specs.Replies.{Answers, Asks, AsksNothing, CarriesOut, Dismisses, HaltsAt, HaltsFrom, IsAsked, IsNotAsked, IsReadAs, LacksAt, Responds, StopsAt}
use Rattle.opa_reply.proofs.Same.{same_held}

-- ---- single commands

pub dismisses : (r : Rulebase) (c : CaseView) (n d : ℕ) (files : Option Files) (hs hs' : List Hearer) (k : ℕ) (text : List ℕ) → IsDismissed hs k text hs' → Dismisses (held r c n hs files d) k text (held r c n hs' files d)
dismisses r c n d files hs hs' k text h = record { dismissed = h; others = refl }

module _ (keep keep' : ℕ) where
  pub stays : (x y : Held) (c : Command) → y ≡ x → HaltsAt keep keep' c x y
  stays x y c same = inl same

  pub quiet : (r r' : Rulebase) (c c' : CaseView) (n n' : ℕ) (hs hs' : List Hearer) (files : Option Files) (d d' : ℕ) (k : Command) → r' ≡ r → c' ≡ c → n' ≡ n → hs' ≡ hs → d' ≡ d
      → HaltsAt keep keep' k (held r c n hs files d) (held r' c' n' hs' files d')
  quiet r r' c c' n n' hs hs' files d d' k er ec en eh ed = inl (same_held r r' c c' n n' hs hs' files files d d' er ec en eh refl ed)

-- a command is what it was matched as
pub carried_as : (k l : Command) (x y : Held) (text : List ℕ) → k ≡ l → CarriesOut l x text y → CarriesOut k x text y
carried_as k l x y text is h = subst (λ c. CarriesOut c x text y) (sym is) h

pub halts_as : (keep keep' : ℕ) (k l : Command) (x y : Held) → k ≡ l → HaltsAt keep keep' l x y → HaltsAt keep keep' k x y
halts_as keep keep' k l x y is h = subst (λ c. HaltsAt keep keep' c x y) (sym is) h

pub ruleset carrying = (dismisses, stays, quiet)

-- ---- lines

module _ (keep keep' : ℕ) where
  pub halts_ok : (x y : Held) (c : Command) → HaltsAt keep keep' c x y → HaltsFrom keep keep' (Ok c) x y
  halts_ok x y c h = h

pub ruleset responding = (halts_ok)

module _ (Says : Held → List ℕ → Command → Type 0) (SaysNothing : Held → List ℕ → CmdFault → Type 0) where
  pub answered : (x y : Held) (line text : List ℕ) (read : Result Command CmdFault) → IsReadAs Says SaysNothing x line read → Responds read x text y → Answers Says SaysNothing x line text y
  answered x y line text (Ok c) is out = inr (c, is, out)
  answered x y line text (Err f) is out = inl (f, out.0, is out.0, out.1, out.2)

  pub stopped : (keep keep' : ℕ) (x y : Held) (line : List ℕ) (read : Result Command CmdFault) → IsReadAs Says SaysNothing x line read → HaltsFrom keep keep' read x y → LeftBy (MayLeave keep keep' (StopsAt Says) (LacksAt Says)) x line y
  stopped keep keep' x y line (Ok c) is halts = elim halts [
    | inl same ↦ inl same
    | inr left ↦ inr (elim left [
      | inl failed ↦ inl (failed.0, (failed.1.0, subst (Says x line) failed.1.1 is, failed.1.2))
      | inr short ↦ inr (c, is, short)
    ])
  ]
  stopped keep keep' x y line (Err f) is same = inl same

pub ruleset replying = (answered, stopped)

module _ {T E : Type 0} (P Q : T → Type 0) where
  pub said_ok : (r : Result T E) → IfOk r P → ((t : T) → P t → Q t) → IfOk r Q
  said_ok (Ok t) h f = f t h
  said_ok (Err e) h f = tt

module _ (Says : Held → List ℕ → Command → Type 0) (SaysNothing : Held → List ℕ → CmdFault → Type 0) where
  pub read_as : (x : Held) (line : List ℕ) (read : Result Command CmdFault) → IfOk read (Says x line) → IfErr read (SaysNothing x line) → IsReadAs Says SaysNothing x line read
  read_as x line (Ok c) says nothing = says
  read_as x line (Err f) says nothing = λ some. nothing

-- a line was read as a command of what is declared
pub asked_as : (x : Held) (m : Lists) (line : List ℕ) (read : Result Command CmdFault) → m ≡ x.rules.model → IfOk read (IsAsked m line) → IfErr read (IsNotAsked m line) → IsReadAs Asks AsksNothing x line read
asked_as x m line read same says nothing =
    read_as Asks AsksNothing x line read (subst (λ l. IfOk read (IsAsked l line)) same says) (subst (λ l. IfErr read (IsNotAsked l line)) same nothing)

-- a line was read as a reply to what is asked next
pub told_as : (x : Held) (m : Lists) (q : Option Question) (line : List ℕ) (read : Result Command CmdFault) → m ≡ x.rules.model → q ≡ next_of x.rules x.case
    → IfOk read (IsTold m q line) → IfErr read (IsNotTold m q line) → IsReadAs Tells TellsNothing x line read
told_as x m q line read same next says nothing =
    read_as Tells TellsNothing x line read
    (subst (λ o. IfOk read (IsTold x.rules.model o line)) next (subst (λ l. IfOk read (IsTold l q line)) same says))
    (subst (λ o. IfErr read (IsNotTold x.rules.model o line)) next (subst (λ l. IfErr read (IsNotTold l q line)) same nothing))

pub answered_asked : (x y : Held) (m : Lists) (line text : List ℕ) (read : Result Command CmdFault) → m ≡ x.rules.model → IfOk read (IsAsked m line) → IfErr read (IsNotAsked m line) → Responds read x text y
    → Answers Asks AsksNothing x line text y
answered_asked x y m line text read same says nothing out = answered Asks AsksNothing x y line text read (asked_as x m line read same says nothing) out

pub answered_told : (x y : Held) (m : Lists) (q : Option Question) (line text : List ℕ) (read : Result Command CmdFault) → m ≡ x.rules.model → q ≡ next_of x.rules x.case
    → IfOk read (IsTold m q line) → IfErr read (IsNotTold m q line) → Responds read x text y → Answers Tells TellsNothing x line text y
answered_told x y m q line text read same next says nothing out = answered Tells TellsNothing x y line text read (told_as x m q line read same next says nothing) out

pub stopped_told : (keep keep' : ℕ) (x y : Held) (m : Lists) (q : Option Question) (line : List ℕ) (read : Result Command CmdFault) → m ≡ x.rules.model → q ≡ next_of x.rules x.case
    → IfOk read (IsTold m q line) → IfErr read (IsNotTold m q line) → HaltsFrom keep keep' read x y → LeftBy (MayLeave keep keep' (StopsAt Tells) (LacksAt Tells)) x line y
stopped_told keep keep' x y m q line read same next says nothing halts = stopped Tells TellsNothing keep keep' x y line read (told_as x m q line read same next says nothing) halts
