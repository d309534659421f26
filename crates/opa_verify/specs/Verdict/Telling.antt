-- What is printed of a verdict.
use Rattle.std.specs.Prelude.{◌≡◌, ℕ, List, [], ◌∷◌, ◌++◌, codes}
use Rattle.std.specs.Fmt.{decimal}
use Rattle.opa_case.specs.Shapes.{attribute_or}
use Rattle.opa_cells.specs.declared.instance.InstanceId.{InstanceId}
use Rattle.opa_date.specs.Texts.{day_text}
use Rattle.opa_model.specs.declared.things.Kind.{Kind}
use Rattle.opa_report.specs.declared.lines.Report.{Report}
use Rattle.opa_text.specs.Points.{point_text}
use Rattle.opa_text.specs.Texts.{value_text}
use Rattle.opa_tree.specs.declared.rulebase.Rulebase.{Rulebase}
use Rattle.opa_value.specs.declared.value.Value.{Value}
use Rattle.opa_verify.specs.Verdict.Judging.{IsSupported, Judges}
use Rattle.opa_verify.specs.declared.verdict.verdict.Verdict.{Verdict}
use Rattle.opa_verify.specs.declared.verdict.verdict.Verdict.TheVariants as verdict

-- `supported: POINT at DATE is VALUE`
abbrev pub says_supported : List ℕ → List ℕ → List ℕ → List ℕ
says_supported point date said = codes "supported: " ++ (point ++ (codes " at " ++ (date ++ (codes " is " ++ (said ++ 10 ∷ [])))))

abbrev pub supported_line : List ℕ → Kind → InstanceId → ℕ → Value → List ℕ
supported_line phrase kind i d v = says_supported (point_text phrase i) (day_text d) (value_text kind v)

abbrev pub supported_text : Rulebase → Report → Value → List ℕ
supported_text r x v = supported_line (attribute_or r.model x.attr).phrase (attribute_or r.model x.attr).kind x.inst x.day v

-- `refused: report N LINE`
abbrev pub refused_report : ℕ → ℕ → List ℕ
refused_report n k = codes "refused: report " ++ (decimal n ++ (codes " " ++ (decimal k ++ 10 ∷ [])))

-- the refusal of a verdict; Yes is none
abbrev pub refused_text : Verdict → List ℕ
refused_text verdict.Yes = []
refused_text (verdict.Syntax k) = refused_report 1 k
refused_text (verdict.Name k) = refused_report 2 k
refused_text (verdict.NotDerived k) = refused_report 3 k

-- What the text lists supports the value that it lists for its point, and this says so.
pub record SaysSupported (r : Rulebase) (text said : List ℕ) : Type 0 where
  pub supported : IsSupported r text
  pub says : said ≡ supported_text r supported.upheld.report supported.upheld.holds.value

-- what is said of a text
abbrev pub Tells : Rulebase → List ℕ → Verdict → List ℕ → Type 0
Tells r text verdict.Yes said = SaysSupported r text said
Tells r text (verdict.Syntax k) said = Judges r text (verdict.Syntax k) × (said ≡ refused_report 1 k)
Tells r text (verdict.Name k) said = Judges r text (verdict.Name k) × (said ≡ refused_report 2 k)
Tells r text (verdict.NotDerived k) said = Judges r text (verdict.NotDerived k) × (said ≡ refused_report 3 k)
