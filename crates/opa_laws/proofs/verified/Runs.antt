-- What is held in a run or an interview can be printed, and the reports that are printed there are verified.
use Rattle.std.proofs.Common.{◌≡◌, ◌∙◌, inl, inr, ◌<◌, ℕ, true, List, [], ◌∷◌, Option, None, Some, Result, Ok, Err, refl, sym, ap, subst}
use Rattle.std.specs.Prelude.{MatchResult, map, ◌+◌}
use Rattle.opa_io.specs.Outside.{Files}
use Rattle.opa_case.specs.Cases.{CaseView}
use Rattle.opa_case.specs.Fits.{Fits}
use Rattle.opa_case.specs.Shapes.{attribute_or, shape_of}
use Rattle.opa_case.specs.Steps.{step}
use Rattle.opa_case.specs.declared.change.ChangeCommand.{ChangeCommand}
use Rattle.opa_case.specs.declared.change.Refusal.{Refusal}
use Rattle.opa_case.specs.declared.question.Question.{Question}
use Rattle.opa_case.specs.declared.question.Question.TheVariants as question
use Rattle.opa_case.proofs.Empty.{empty_fits}
use Rattle.opa_case.proofs.Shaped.{shape_is}
use Rattle.opa_case.proofs.Stepping.{step_fits}
use Rattle.opa_cells.specs.declared.instance.InstanceId.{InstanceId}
use Rattle.opa_date.specs.declared.TheConstants.{DAYS}
use Rattle.opa_session.specs.Infer.Sessions.{reached}
use Rattle.opa_listen.specs.Hearing.{Hearer, hearing}
use Rattle.opa_model.specs.declared.ids.AttrId.{AttrId}
use Rattle.opa_model.specs.declared.lists.Lists.{Lists}
use Rattle.opa_model.specs.Models.{IsModel, HasAttribute}
use Rattle.opa_mean.specs.Rulebases.{IsOf, value_at}
use Rattle.opa_mean.specs.Slots.{has_place}
use Rattle.opa_need.specs.Goals.{next_of}
use Rattle.opa_mean.specs.Goals.Asked.{IsDeclared}
use Rattle.opa_mean.proofs.goals.NeedsKnown.{next_is_declared}
use Rattle.opa_text.specs.Points.{HasAsked}
use Rattle.opa_script.specs.declared.command.Command.{Command}
use Rattle.opa_script.specs.declared.command.Command.TheVariants as command
use Rattle.opa_script.specs.declared.fault.CmdFault.{CmdFault}
use Rattle.opa_script.specs.declared.fault.CmdFault.TheVariants as fault
use Rattle.opa_script.specs.Laws.{IsInRange, IsWellFormed}
use Rattle.opa_script.proofs.LawsHold.{refused_or_read_holds}
use Rattle.opa_script.proofs.OneCommand.{one_command_holds}
use Rattle.opa_script.proofs.Ranges.{command_in_range}
use Rattle.opa_script.proofs.ReplyLaws.{reply_in_range}
use Rattle.opa_talk.specs.Transcript.{Rule, Prints}
use Rattle.opa_reply.specs.Reporting.Reports.{IsReportTold}
use Rattle.opa_tree.specs.declared.rulebase.Rulebase.{Rulebase}
use Rattle.opa_reply.specs.Held.{Held, held, at_first, with_files, with_hearers}
use Rattle.opa_reply.specs.Interviews.{RepliesTo, Tells as Asked, TellsNothing as AskedNothing, interview}
use Rattle.opa_reply.specs.Lines.{text_of}
use Rattle.opa_reply.specs.Loads as loads
use Rattle.opa_reply.specs.Loads.{Loads, LoadsBytes}
use Rattle.opa_reply.specs.Refused.{refused_change}
use Rattle.opa_reply.specs.Replies.{Answers, Asks, AsksNothing, CarriesOut, Changes, Comes, Settles, conversation}
use Rattle.opa_verify.specs.Verdict.OfCases.{IsOfCase}
use Rattle.opa_verify.specs.Verdict.Telling.{Tells, supported_line}
use Rattle.opa_verify.specs.declared.verdict.verdict.Verdict.{Verdict}
use Rattle.opa_verify.proofs.verdict.Renamed.{reports_get_yes_holds, reports_are_supported_holds, reports_tell_values_hold}
use Rattle.opa_verify.proofs.verdict.Saying.{told_judges}
use Rattle.opa_reply.proofs.OneReply.{one_said, said_or_not, never_long, never_too_long}
use Rattle.opa_laws.specs.Verified.Laws.{IsHeldBy, IsVerified, HeldIsPrintable, ReportsAreVerified}
use Rattle.opa_laws.proofs.verified.CleanCases.{HasClean, clean_printable, nothing_clean, step_leaves_clean}
use Rattle.opa_laws.proofs.verified.CleanCommands.{IsCleanCommand, command_clean, reply_clean}
use Rattle.opa_laws.proofs.verified.LoadedCases.{loaded_fits, loaded_clean}
use Rattle.opa_laws.proofs.verified.OpenedPrintable.{opened_is_model_holds, opened_is_printable_holds}
use Rattle.opa_laws.proofs.verified.ReportsTold.{told_of_point}

-- ---- what is held

abbrev CaseIsSound : Rulebase → CaseView → Type 0
CaseIsSound r c = Fits (shape_of r.model) r.ruled c × HasClean c.lists c.answers

-- it is held over the rulebase, and the case fits and is clean
record IsSound (base : Rulebase) (x : Held) : Type 0 where
  pub rules : x.rules ≡ base
  pub model : IsModel x.rules.model
  pub case : CaseIsSound x.rules x.case

starts : (base : Rulebase) → IsModel base.model → (hearers : List Hearer) (files : Option Files) (derived : ℕ) → IsSound base (at_first base hearers files derived)
starts base model hearers files derived = record { rules = refl; model = model; case = (empty_fits base.model base.ruled model, nothing_clean) }

own_fits : (base : Rulebase) (x : Held) → IsSound base x → IsOf x.rules x.case
own_fits base x h = record { is_model = h.model; fits = h.case.0 }

-- ---- what is asked of whatever lines say

-- What a line says is declared and clean; it says one thing, or nothing for some reason.
record Sayings (Says : Held → List ℕ → Command → Type 0) (SaysNothing : Held → List ℕ → CmdFault → Type 0) : Type 0 where
  pub in_range : (x : Held) (line : List ℕ) (c : Command) → IsOf x.rules x.case → Says x line c → IsInRange x.rules.model c
  pub clean : (x : Held) (line : List ℕ) (c : Command) → Says x line c → IsCleanCommand c
  pub one : (x : Held) (line : List ℕ) (c d : Command) → IsModel x.rules.model → Says x line c → Says x line d → c ≡ d
  pub either : (x : Held) (line : List ℕ) (c : Command) (f : CmdFault) → Says x line c → SaysNothing x line f → f ≡ fault.NoMemory

module _ (Says : Held → List ℕ → Command → Type 0) (SaysNothing : Held → List ℕ → CmdFault → Type 0) (say : Sayings Says SaysNothing) where
  module _ (base : Rulebase) (x y : Held) (h : IsSound base x) where
    stays : y ≡ x → IsSound base y
    stays e = subst (IsSound base) (sym e) h

    -- another case comes in over the same rulebase
    comes : (c : CaseView) → CaseIsSound x.rules c → Comes x c y → IsSound base y
    comes c k come =
        let now : IsSound base (held x.rules c (reached x.rules x.case c) (map (hearing come.told) x.hearers) x.files (x.derived + reached x.rules x.case c)) = record { rules = h.rules; model = h.model; case = k } in
        subst (IsSound base) (sym come.after) now

    stepped : (line : List ℕ) (k : ChangeCommand) (c : CaseView) → Says x line (command.Change k) → step (shape_of x.rules.model) x.rules.ruled x.case k ≡ Ok c → CaseIsSound x.rules c
    stepped line k c says e =
        let declared = say.in_range x line (command.Change k) (own_fits base x h) says in (
          step_fits (shape_of x.rules.model) x.rules.ruled (shape_is x.rules.model h.model) x.case c k declared h.case.0 e,
          step_leaves_clean (shape_of x.rules.model) x.rules.ruled x.case c k (say.clean x line (command.Change k) says) h.case.1 e,
        )

    changed : (line text : List ℕ) (k : ChangeCommand) → Says x line (command.Change k) → Changes x k text y → IsSound base y
    changed line text k says = go (step (shape_of x.rules.model) x.rules.ruled x.case k) refl
      where
        go : (r : Result CaseView Refusal) → step (shape_of x.rules.model) x.rules.ruled x.case k ≡ r → MatchResult r (λ c. (text ≡ []) × Comes x c y) (λ e. (text ≡ refused_change e) × (y ≡ x)) → IsSound base y
        go (Ok c) e m = comes c (stepped line k c says e) m.1
        go (Err e) is m = stays m.1

    bytes_settle : (bytes text : List ℕ) (o : Option CaseView) → LoadsBytes x.rules bytes text o → Settles x o y → IsSound base y
    bytes_settle bytes text o (loads.LoadsBytes.loads c origin is) = λ come. comes c (loaded_fits x.rules.model x.rules.ruled bytes c origin h.model is, loaded_clean x.rules.model x.rules.ruled bytes c origin is) come
    bytes_settle bytes text o (loads.LoadsBytes.refuses f n why) = λ same. stays same

    settles : (name text : List ℕ) (o : Option CaseView) → Loads x.rules x.files name text o → Settles x o y → IsSound base y
    settles name text o (loads.Loads.of_bytes bytes said found is few own) = λ k. bytes_settle bytes said found own k
    settles name text o (loads.Loads.too_long long) = λ same. stays same
    settles name text o (loads.Loads.missing none) = λ same. stays same

    carried : (line text : List ℕ) (c : Command) → Says x line c → CarriesOut c x text y → IsSound base y
    carried line text command.Nothing says k = stays k.1
    carried line text (command.Change c) says k = changed line text c says k
    carried line text (command.ShowAttr a i) says k = stays k.1
    carried line text (command.ShowMembers r i) says k = stays k.1
    carried line text (command.Save name) says k =
        let now : IsSound base (with_files x y.files) = record { rules = h.rules; model = h.model; case = h.case } in subst (IsSound base) (sym k.others) now
    carried line text (command.Load name) says k = settles name text k.case k.loads k.settles
    carried line text command.Goals says k = stays k.1
    carried line text command.Next says k = stays k.1
    carried line text command.Screen says k = stays k.1
    carried line text (command.Report a i d) says k = stays k.1
    carried line text command.Stats says k = stays k.1
    carried line text (command.Dismiss n) says k =
        let now : IsSound base (with_hearers x y.hearers) = record { rules = h.rules; model = h.model; case = h.case } in subst (IsSound base) (sym k.others) now

    replied : (line text : List ℕ) → Answers Says SaysNothing x line text y → IsSound base y
    replied line text (inl k) = stays k.4
    replied line text (inr k) = carried line text k.0 k.1 k.2

  -- the reply to a line that says a command is what it prints
  reply_is : (x y : Held) (line text : List ℕ) (c : Command) → IsModel x.rules.model → Says x line c → Answers Says SaysNothing x line text y → CarriesOut c x text y
  reply_is x y line text c model says (inl k) = absurd (k.1 (say.either x line c k.0 says k.2))
  reply_is x y line text c model says (inr k) = let same : k.0 ≡ c = say.one x line k.0 c model k.1 says in subst (λ (d : Command). CarriesOut d x text y) same k.2

  -- ---- a rule by which lines are answered so

  module _ (rule : Rule Held) (answers : (x y : Held) (line text : List ℕ) → rule.Replies x line text y → Answers Says SaysNothing x line text y) where
    printed_sound : (base : Rulebase) (x y : Held) (lines : List (List ℕ)) (text : List ℕ) → IsSound base x → Prints rule x lines text y → IsSound base y
    printed_sound base x y [] text h k = stays base x y h k.1
    printed_sound base x y (line ∷ lines) text h (inl k) = stays base x y h k.2
    printed_sound base x y (line ∷ lines) text h (inr k) =
        let said : List ℕ = k.1.0 in let next : Held = k.1.1 in let rest : List ℕ = k.1.2 in
        printed_sound base next y lines rest (replied base x next h line said (answers x next line said k.1.3)) k.1.4

    held_sound : (base : Rulebase) → IsModel base.model → (x : Held) → IsHeldBy rule base x → IsSound base x
    held_sound base model x h = printed_sound base (at_first base h.hearers h.files h.derived) x h.lines h.printed.0 (starts base model h.hearers h.files h.derived) h.printed.1

    case_fits : (base : Rulebase) (x : Held) → IsSound base x → IsOf base x.case
    case_fits base x h = subst (λ (r : Rulebase). IsOf r x.case) h.rules (own_fits base x h)

    printable : HeldIsPrintable rule
    printable base model x h = let is = held_sound base model x h in (is.rules, case_fits base x is, clean_printable x.case is.case.1)

    -- the text of a report of a case: what the verifier tells of it
    told_verified : (base : Rulebase) (c : CaseView) (a : AttrId) (i : InstanceId) (d : ℕ) (text : List ℕ) (of : IsOfCase base text) → of.given ≡ c → of.report.attr ≡ a → of.report.inst ≡ i → of.report.day ≡ d
        → (v : Verdict) (told : List ℕ) → Tells base text v told → IsVerified base c a i d text v told
    told_verified base c a i d text of given attr inst day v told tells =
        let line : AttrId → InstanceId → ℕ → CaseView → List ℕ = λ a i d c. supported_line (attribute_or base.model a).phrase (attribute_or base.model a).kind i d (value_at base c a i d) in
        record {
          yes = reports_get_yes_holds base text v of (told_judges base text v told tells);
          supported = reports_are_supported_holds base text told v of tells;
          value =
              reports_tell_values_hold base text told v of tells
              ∙ (ap (λ z. line z of.report.inst of.report.day of.given) attr ∙ ap (λ z. line a z of.report.day of.given) inst ∙ ap (λ z. line a i z of.given) day ∙ ap (λ z. line a i d z) given);
        }

    verified : ReportsAreVerified rule Says
    verified files name base u opens said report few v told tells =
        let x = report.held in
        let model = opened_is_model_holds files name base u opens in
        let is = held_sound base model x report.reached in
        let asked : Command = command.Report report.attr report.inst report.day in
        let in_range : HasAttribute x.rules.model report.attr × (report.day < DAYS) = say.in_range x report.line asked (own_fits base x is) report.asks in
        let reply = reply_is x report.after report.line said asked is.model report.asks (answers x report.after report.line said report.replies) in
        let known = subst (λ (r : Rulebase). HasAttribute r.model report.attr) is.rules in_range.0 in
        let there = subst (λ (r : Rulebase). has_place r x.case report.attr report.inst ≡ true) is.rules report.there in
        let text = subst (λ (r : Rulebase). IsReportTold r x.case report.attr report.inst report.day said) is.rules reply.0 in
        let is_of = told_of_point base x.case (opened_is_printable_holds files name base u opens) (case_fits base x is) (clean_printable x.case is.case.1) report.attr report.inst report.day known in_range.1 there said few text in
        told_verified base x.case report.attr report.inst report.day said is_of.of is_of.given is_of.attr is_of.inst is_of.day v told tells

-- ---- runs

asks_something : (x : Held) (line : List ℕ) (c : Command) (f : CmdFault) → Asks x line c → AsksNothing x line f → f ≡ fault.NoMemory
asks_something x line c f h (inl k) = never_too_long line k.0 h.0
asks_something x line c f h (inr k) = refused_or_read_holds x.rules.model (text_of line) c f h.1 k.1

commands_say : Sayings Asks AsksNothing
commands_say = record {
  in_range = λ x line c is h. command_in_range x.rules.model (text_of line) c h.1;
  clean = λ x line c h. command_clean x.rules.model (text_of line) c h.1 h.2;
  one = λ x line c d model h k. one_command_holds x.rules.model model (text_of line) c d h.2 k.2 h.1 k.1;
  either = asks_something;
}

pub held_in_runs_holds : HeldIsPrintable conversation
held_in_runs_holds = printable Asks AsksNothing commands_say conversation (λ x y line text h. h)

pub run_reports_hold : ReportsAreVerified conversation Asks
run_reports_hold = verified Asks AsksNothing commands_say conversation (λ x y line text h. h)

-- ---- interviews

is_asked : (m : Lists) (q : Question) → IsDeclared m q → HasAsked m q
is_asked m (question.Attr a i) h = h
is_asked m (question.Members r i) h = h

reply_declared : (r : Rulebase) (c : CaseView) → IsOf r c → (o : Option Question) → next_of r c ≡ o → (text : List ℕ) (k : Command) → RepliesTo r.model o text k → IsInRange r.model k
reply_declared r c is None e text k h = subst (IsInRange r.model) (sym h) tt
reply_declared r c is (Some q) e text k h = reply_in_range r.model q text k (is_asked r.model q (next_is_declared r c is q e)) h

reply_is_clean : (m : Lists) (o : Option Question) (text : List ℕ) (k : Command) → RepliesTo m o text k → IsWellFormed k → IsCleanCommand k
reply_is_clean m None text k h formed = subst IsCleanCommand (sym h) tt
reply_is_clean m (Some q) text k h formed = reply_clean m q text k h formed

says_something : (x : Held) (line : List ℕ) (c : Command) (f : CmdFault) → Asked x line c → AskedNothing x line f → f ≡ fault.NoMemory
says_something x line c f h (inl k) = never_long line k.0 h.0
says_something x line c f h (inr k) = said_or_not x.rules.model (next_of x.rules x.case) (text_of line) c f h.1 k.1

replies_say : Sayings Asked AskedNothing
replies_say = record {
  in_range = λ x line c is h. reply_declared x.rules x.case is (next_of x.rules x.case) refl (text_of line) c h.1;
  clean = λ x line c h. reply_is_clean x.rules.model (next_of x.rules x.case) (text_of line) c h.1 h.2;
  one = λ x line c d model h k. one_said x.rules.model model (next_of x.rules x.case) (text_of line) c d h.2 k.2 h.1 k.1;
  either = says_something;
}

pub held_in_interviews_holds : HeldIsPrintable interview
held_in_interviews_holds = printable Asked AskedNothing replies_say interview (λ x y line text h. h)

pub interview_reports_hold : ReportsAreVerified interview Asked
interview_reports_hold = verified Asked AskedNothing replies_say interview (λ x y line text h. h)
