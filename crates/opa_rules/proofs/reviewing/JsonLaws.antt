-- The document of findings has no float in it, and it isn't deep.
use Rattle.std.proofs.Common.{◌≡◌, ◌≤◌, ℕ, List, [], ◌∷◌, ◌++◌, map, refl, ap, ◌∙◌, arith}
use Rattle.std.specs.Prelude.{false, slice_index_or}
use Rattle.serde_json.specs.Data.{Data, string, depth}
use Rattle.serde_json.specs.Read.{max_depth}
use Rattle.serde_json.specs.Written.{compact_text, has_float}
use Rattle.opa_tree.specs.declared.rulebase.Rulebase.{Rulebase}
use Rattle.opa_rules.specs.Describing.Parts.{list_data}
use Rattle.opa_rules.specs.declared.reviewing.finding.Finding.{Finding}
use Rattle.opa_rules.specs.Reviewing.Findings.{first_findings, reviewed_json}
use Rattle.opa_rules.specs.Reviewing.Json.{finding_data, format_data, review_with, review_data}
use Rattle.opa_rules.specs.Reviewing.Printed.{file_name, line_of, level_of, level_text, words_of}
use Rattle.opa_rules.proofs.describing.PlainLaws.{IsPlain, plain_text, plain_number, none, more, plain_object, plain_list, plain_each}

pub review_is : (base : Rulebase) (fs : List Finding) (found rulebase v : Data) → found ≡ list_data (map (finding_data base) fs) → rulebase ≡ string (slice_index_or base.files 0 []) → v ≡ review_with found rulebase → v ≡ review_data base fs
unfolding review_data
review_is base fs found rulebase v hf hr hv = hv ∙ ap (λ x. review_with x rulebase) hf ∙ ap (λ x. review_with (list_data (map (finding_data base) fs)) x) hr

plain_finding : (base : Rulebase) (f : Finding) → IsPlain 1 (finding_data base f)
plain_finding base f = plain_object (more (plain_text 0 (file_name base f)) (more (plain_text 0 (level_text (level_of f))) (more (plain_number 0 (line_of f)) (more (plain_text 0 (words_of base f)) (none 0)))))

plain_review : (base : Rulebase) (fs : List Finding) → IsPlain 3 (review_data base fs)
unfolding review_data
plain_review base fs =
    let format : IsPlain 2 format_data = record { no_float = refl; shallow = omega arith } in
    plain_object (more (plain_list 1 (map (finding_data base) fs) (plain_each 1 (finding_data base) (plain_finding base) fs)) (more format (more (plain_text 2 (slice_index_or base.files 0 [])) (none 2))))

pub has_no_float : (base : Rulebase) (fs : List Finding) (d : Data) → d ≡ review_data base fs → has_float d ≡ false
has_no_float base fs d e = ap has_float e ∙ (plain_review base fs).no_float

pub is_shallow : (base : Rulebase) (fs : List Finding) (d : Data) → d ≡ review_data base fs → depth d ≤ max_depth
is_shallow base fs d e = omega (arith, ap depth e, (plain_review base fs).shallow)

pub text_is : (base : Rulebase) (fs : List Finding) (d : Data) → d ≡ review_data base fs → fs ≡ first_findings base → compact_text d ++ 10 ∷ [] ≡ reviewed_json base
text_is base fs d e first = ap (λ x. compact_text x ++ 10 ∷ []) (e ∙ ap (review_data base) first)
