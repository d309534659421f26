-- What is found of a rulebase.
use Rattle.std.specs.Prelude.{ℕ, List, [], ◌∷◌, ◌++◌, take, flat_map}
use Rattle.serde_json.specs.Written.{compact_text}
use Rattle.opa_tree.specs.declared.rulebase.Rulebase.{Rulebase}
use Rattle.opa_rules.specs.declared.reviewing.finding.Finding.{Finding}
use Rattle.opa_rules.specs.declared.reviewing.finding.TheConstants.{MOST_FINDINGS}
use Rattle.opa_rules.specs.declared.reviewing.form.Form.{Form}
use Rattle.opa_rules.specs.declared.reviewing.form.Form.TheVariants as form
use Rattle.opa_rules.specs.Reviewing.Alike.{alike}
use Rattle.opa_rules.specs.Reviewing.Endings.{ending_of}
use Rattle.opa_rules.specs.Reviewing.Json.{review_data}
use Rattle.opa_rules.specs.Reviewing.Compared.{compared_in}
use Rattle.opa_rules.specs.Reviewing.Looking.{settled, unused}
use Rattle.opa_rules.specs.Reviewing.Printed.{findings_text}
use Rattle.opa_rules.specs.Reviewing.Roundings.{roundings}
use Rattle.opa_rules.specs.Reviewing.Rows.{of_rule}

-- What is so in every case: rows that are never reached and comparisons that are never true or never false, rule by rule each; then
-- attributes that no goal looks at, and goals that no answer changes.
abbrev pub warnings : Rulebase → List Finding
warnings base = flat_map of_rule base.rules ++ (flat_map (compared_in base) base.rules ++ (unused base ++ settled base))

-- what is only worth a look: phrases that differ by one letter or in case, currencies that others are concluded from, and rules that end with
-- `uncertain`
abbrev pub notes : Rulebase → List Finding
notes base = alike base.model ++ (roundings base ++ flat_map ending_of base.rules)

abbrev pub findings : Rulebase → List Finding
findings base = warnings base ++ notes base

-- the findings that are written
abbrev pub first_findings : Rulebase → List Finding
first_findings base = take MOST_FINDINGS (findings base)

-- one line each
abbrev pub reviewed : Rulebase → List ℕ
reviewed base = findings_text base (first_findings base)

-- as one JSON document, printed compactly, and a line feed
abbrev pub reviewed_json : Rulebase → List ℕ
reviewed_json base = compact_text (review_data base (first_findings base)) ++ 10 ∷ []

abbrev pub shown : Form → Rulebase → List ℕ
shown form.Lines base = reviewed base
shown form.Json base = reviewed_json base
