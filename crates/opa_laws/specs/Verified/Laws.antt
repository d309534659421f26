-- What holds of what files open, of what is held in a run or an interview over it, and of the reports that are printed there.
use Rattle.std.specs.Prelude.{◌≡◌, ◌<◌, ◌^◌, ℕ, true, List, length, Option, Ok}
use Rattle.std.specs.Str.{IsUtf8}
use Rattle.opa_date.specs.declared.TheConstants.{DAYS}
use Rattle.opa_io.specs.Outside.{Files}
use Rattle.opa_model.specs.declared.ids.AttrId.{AttrId}
use Rattle.opa_model.specs.Models.{IsModel, HasAttribute}
use Rattle.opa_tree.specs.declared.rulebase.Rulebase.{Rulebase}
use Rattle.opa_cells.specs.declared.instance.InstanceId.{InstanceId}
use Rattle.opa_case.specs.Cases.{CaseView}
use Rattle.opa_case.specs.Shapes.{attribute_or}
use Rattle.opa_mean.specs.Rulebases.{IsOf, value_at}
use Rattle.opa_mean.specs.Slots.{has_place}
use Rattle.opa_listen.specs.Hearing.{Hearer}
use Rattle.opa_rulebase.specs.Loading.{Opens}
use Rattle.opa_script.specs.declared.command.Command.{Command}
use Rattle.opa_script.specs.declared.command.Command.TheVariants as command
use Rattle.opa_talk.specs.Transcript.{Rule, IsTranscript}
use Rattle.opa_reply.specs.Reporting.Reports.{IsReportTold}
use Rattle.opa_reply.specs.Held.{Held, at_first}
use Rattle.opa_verify.specs.Verdict.Fine.{IsPrintableBase, IsPrintableCase}
use Rattle.opa_verify.specs.Verdict.OfCases.{IsOfCase}
use Rattle.opa_verify.specs.Verdict.Telling.{SaysSupported, Tells, supported_line}
use Rattle.opa_verify.specs.declared.verdict.verdict.Verdict.{Verdict}
use Rattle.opa_verify.specs.declared.verdict.verdict.Verdict.TheVariants as verdict

-- What the files of a shelf open under a name that is a text can be printed.
abbrev pub OpenedIsPrintable : Type 0
OpenedIsPrintable = (files : Files) (name : List ℕ) (base : Rulebase) → IsUtf8 name → Opens files name (Ok base) → IsPrintableBase base

-- and what it declares is a model
abbrev pub OpenedIsModel : Type 0
OpenedIsModel = (files : Files) (name : List ℕ) (base : Rulebase) → IsUtf8 name → Opens files name (Ok base) → IsModel base.model

-- What is told of a point's report is the text of a report of a clean case.
abbrev pub ReportsAreOfCases : Type 0
ReportsAreOfCases = (r : Rulebase) (c : CaseView) → IsPrintableBase r → IsOf r c → IsPrintableCase c
    → (a : AttrId) (i : InstanceId) (d : ℕ) → HasAttribute r.model a → d < DAYS → has_place r c a i ≡ true → (text : List ℕ) → length text < 2 ^ 64 → IsReportTold r c a i d text → IsOfCase r text

-- ---- runs and interviews

-- This is held over a rulebase after lines that a rule replies to, from the empty case on: whoever listens, whatever files are
-- told, and however many lines were derived by then.
pub record IsHeldBy (rule : Rule Held) (base : Rulebase) (x : Held) : Type 0 where
  pub hearers : List Hearer
  pub files : Option Files
  pub derived : ℕ
  pub lines : List (List ℕ)
  pub text : List ℕ
  pub printed : IsTranscript rule (at_first base hearers files derived) lines text x

-- What is held is held over that rulebase, and its case fits and can be printed.
abbrev pub HeldIsPrintable : Rule Held → Type 0
HeldIsPrintable rule = (base : Rulebase) → IsModel base.model → (x : Held) → IsHeldBy rule base x → (x.rules ≡ base) × IsOf base x.case × IsPrintableCase x.case

-- After some lines over the rulebase a line says that the report of a point is asked for, which there is, and this is the reply.
pub record IsReportBy (rule : Rule Held) (Says : Held → List ℕ → Command → Type 0) (base : Rulebase) (said : List ℕ) : Type 0 where
  pub held : Held
  pub reached : IsHeldBy rule base held
  pub line : List ℕ
  pub attr : AttrId
  pub inst : InstanceId
  pub day : ℕ
  pub asks : Says held line (command.Report attr inst day)
  pub there : has_place held.rules held.case attr inst ≡ true
  pub after : Held
  pub replies : rule.Replies held line said after

-- Yes is the verdict on the text, what is told of it says that its value is supported, and tells the value that the case gives the point
-- on that day.
pub record IsVerified (base : Rulebase) (c : CaseView) (a : AttrId) (i : InstanceId) (d : ℕ) (text : List ℕ) (v : Verdict) (told : List ℕ) : Type 0 where
  pub yes : v ≡ verdict.Yes
  pub supported : SaysSupported base text told
  pub value : told ≡ supported_line (attribute_or base.model a).phrase (attribute_or base.model a).kind i d (value_at base c a i d)

-- Whatever the files of a shelf open, a reply that is a report over it is verified.
abbrev pub ReportsAreVerified : Rule Held → (Held → List ℕ → Command → Type 0) → Type 0
ReportsAreVerified rule Says = (files : Files) (name : List ℕ) (base : Rulebase) → IsUtf8 name → Opens files name (Ok base)
    → (said : List ℕ) (report : IsReportBy rule Says base said) → length said < 2 ^ 64 → (v : Verdict) (told : List ℕ) → Tells base said v told → IsVerified base report.held.case report.attr report.inst report.day said v told
