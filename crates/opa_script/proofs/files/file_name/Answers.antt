use Rattle.std.proofs.Common.{◌≡◌, ◌∷◌, [], ℕ, List, length, ap, arith}
use Rattle.opa_words.specs.Pieces.{seen, text}
use Rattle.opa_text.proofs.ChangeLaws.{match_some}
use Rattle.opa_script.proofs.Exits.{no_file_name}
use Rattle.opa_script.proofs.files.file_name.Goals as goal

pub returns-then-as_str-eq0-clause-fault : goal.returns-then-as_str-eq0-clause-fault
returns-then-as_str-eq0-clause-fault c =
    no_file_name (seen c.args.rest) c.in-Some.name
    (match_some c.in_ok-name.field-0 c.in-Some.name ((t : List ℕ) → seen c.args.rest ≡ text t ∷ [] → ⊥) (λ t. seen c.args.rest ≡ text t ∷ []) c.in-Some.is c.in_ok-name.ensures)
    (λ h. absurd (omega (arith, h.0, c.if-as_str-eq0.true, ap length c.as_str.ensures)))

pub returns-then-as_str-gt-MOST_FILE_NAME-clause-fault : goal.returns-then-as_str-gt-MOST_FILE_NAME-clause-fault
returns-then-as_str-gt-MOST_FILE_NAME-clause-fault c =
    no_file_name (seen c.args.rest) c.in-Some.name
    (match_some c.in_ok-name.field-0 c.in-Some.name ((t : List ℕ) → seen c.args.rest ≡ text t ∷ [] → ⊥) (λ t. seen c.args.rest ≡ text t ∷ []) c.in-Some.is c.in_ok-name.ensures)
    (λ h. absurd (omega (arith, h.1, c.if-as_str-gt-MOST_FILE_NAME.true, ap length c.as_str-2.ensures)))
