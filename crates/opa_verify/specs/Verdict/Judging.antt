-- What the verifier says of a text.
use Rattle.std.specs.Prelude.{◌≡◌, ◌⊎◌, ℕ, ◌+◌, List, Option, None, Some}
use Rattle.opa_value.specs.declared.value.Value.{Value}
use Rattle.opa_model.specs.declared.ids.AttrId.{AttrId}
use Rattle.opa_cells.specs.declared.instance.InstanceId.{InstanceId}
use Rattle.opa_tree.specs.declared.rulebase.Rulebase.{Rulebase}
use Rattle.opa_mean.specs.Given.{base_of}
use Rattle.opa_mean.specs.Rulebases.{Supports}
use Rattle.opa_report.specs.declared.lines.Report.{Report}
use Rattle.opa_report.specs.Supporting.{Lists}
use Rattle.opa_report.specs.Text.Texts.{ArePrintable, report_text}
use Rattle.opa_verify.specs.declared.spelling.printed.Spelled.{Spelled}
use Rattle.opa_verify.specs.Spelling.Lines.{lined}
use Rattle.opa_verify.specs.Spelling.Reading.{IsTextOf}
use Rattle.opa_verify.specs.Spelling.Spelling.{IsUnspelledAt}
use Rattle.opa_verify.specs.Support.Faults.{IsFirstFault}
use Rattle.opa_verify.specs.Support.Proofs.{AreHeldUp}
use Rattle.opa_verify.specs.Support.Told.{listing_of}
use Rattle.opa_verify.specs.Verdict.Named.{IsFirstUnnamed}
use Rattle.opa_verify.specs.Verdict.Naming.{asked_point, AreNamed}
use Rattle.opa_verify.specs.declared.verdict.verdict.Verdict.{Verdict}
use Rattle.opa_verify.specs.declared.verdict.verdict.Verdict.TheVariants as verdict

-- the text is what is printed of a report
pub record IsTextOfReport (r : Rulebase) (text : List ℕ) (x : Report) : Type 0 where
  pub is : report_text r x ≡ text
  pub printable : ArePrintable r.model x

-- the text is spelled so, and by its names it is the report
pub record IsReadAs (r : Rulebase) (text : List ℕ) (x : Report) : Type 0 where
  pub spelled : Spelled
  pub told : IsTextOf text spelled
  pub asked : asked_point r spelled.asked ≡ Some (x.attr, x.inst)
  pub day : spelled.day ≡ x.day
  pub lines : AreNamed r spelled.printed x.lines

-- the value that a report lists for its point
abbrev pub asked_value : Report → Option Value
asked_value x = (listing_of x.lines).value x.attr x.inst x.day

-- the line isn't held up, and all before it are; line 1 is where the value of the report's point is listed
abbrev pub IsNotDerivedAt : Rulebase → Report → ℕ → Type 0
IsNotDerivedAt r x k = ((k ≡ 1) × (asked_value x ≡ None)) ⊎ ((v : Value) × ((asked_value x ≡ Some v) × ((n : ℕ) × ((k ≡ n + 2) × IsFirstFault (base_of r) x.lines n))))

-- the line has a fault of names, and none before it has one
abbrev pub IsUnnamedAt : Rulebase → Spelled → ℕ → Type 0
IsUnnamedAt r s k = ((k ≡ 1) × (asked_point r s.asked ≡ None)) ⊎ ((p : AttrId × InstanceId) × ((asked_point r s.asked ≡ Some p) × ((n : ℕ) × ((k ≡ n + 2) × IsFirstUnnamed r s.printed n))))

-- The text is the report's, each of whose lines is held up, and the value of its point is listed.
pub record HoldsUp (r : Rulebase) (text : List ℕ) (x : Report) : Type 0 where
  pub told : IsTextOfReport r text x
  pub lines : AreHeldUp (base_of r) x.lines
  pub value : Value
  pub listed : asked_value x ≡ Some value

-- By its names the text is a report, and it holds up.
pub record IsUpheld (r : Rulebase) (text : List ℕ) : Type 0 where
  pub report : Report
  pub read : IsReadAs r text report
  pub holds : HoldsUp r text report

abbrev pub Judges : Rulebase → List ℕ → Verdict → Type 0
Judges r text verdict.Yes = IsUpheld r text
Judges r text (verdict.Syntax k) = IsUnspelledAt (lined text) k
Judges r text (verdict.Name k) = (s : Spelled) × (IsTextOf text s × IsUnnamedAt r s k)
Judges r text (verdict.NotDerived k) = (x : Report) × (IsTextOfReport r text x × (IsReadAs r text x × IsNotDerivedAt r x k))

-- The text is upheld, and what it lists supports the value that it prints for the point of its first line.
pub record IsSupported (r : Rulebase) (text : List ℕ) : Type 0 where
  pub upheld : IsUpheld r text
  pub supports : Supports r (Lists upheld.report.lines) upheld.report.attr upheld.report.inst upheld.report.day upheld.holds.value
