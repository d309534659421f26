-- The first line, and lines with their numbers.
use Rattle.std.proofs.Common.{◌≡◌, ℕ, List, [], ◌∷◌, ◌++◌, decimal, refl, sym, ap, ◌∙◌, append_assoc}
use Rattle.std.specs.Prelude.{Option, Some, None, codes}
use Rattle.std.proofs.lemmas.List.{append_cancel_left, append_cancel_right}
use Rattle.opa_date.specs.Texts.{day_text}
use Rattle.opa_verify.specs.Spelling.Printed.{spot_text, printed_text, numbered_line}
use Rattle.opa_verify.specs.Spelling.Reading.{IsPointAt, IsAsked, asked_line}
use Rattle.opa_verify.specs.Spelling.Spelling.{CanBePrinted, IsSpot, Reads}
use Rattle.opa_verify.specs.declared.spelling.printed.Printed.{Printed}
use Rattle.opa_verify.specs.declared.spelling.printed.Spot.{Spot}
use Rattle.opa_verify.proofs.spelling.Daying.{end_parts}

-- ---- what stands between a start and the line's end

pub no_start : (start line : List ℕ) → ((r : List ℕ) → line ≡ start ++ r → ⊥) → (b : List ℕ) → line ≡ start ++ (b ++ 10 ∷ []) → ⊥
no_start start line none b e = none (b ++ 10 ∷ []) e

pub no_end : (start line rest : List ℕ) → line ≡ start ++ rest → ((r : List ℕ) → rest ≡ r ++ 10 ∷ [] → ⊥) → (b : List ℕ) → line ≡ start ++ (b ++ 10 ∷ []) → ⊥
no_end start line rest s none b e = none b (append_cancel_left start rest (b ++ 10 ∷ []) (sym s ∙ e))

pub between : (start line rest body : List ℕ) → line ≡ start ++ rest → rest ≡ body ++ 10 ∷ [] → line ≡ start ++ (body ++ 10 ∷ [])
between start line rest body s e = s ∙ ap (λ r. start ++ r) e

-- ---- the first line

asked_body : (x : Spot × ℕ) → asked_line x ≡ codes "report " ++ ((spot_text x.0 ++ (codes " at " ++ day_text x.1)) ++ 10 ∷ [])
asked_body x = ap (λ t. codes "report " ++ t) (sym (append_assoc (spot_text x.0) (codes " at " ++ day_text x.1) (10 ∷ [])))

pub no_asked : (line : List ℕ) → ((b : List ℕ) → line ≡ codes "report " ++ (b ++ 10 ∷ []) → ⊥) → (x : Spot × ℕ) → IsAsked x → asked_line x ≡ line → ⊥
no_asked line none x is e = none (spot_text x.0 ++ (codes " at " ++ day_text x.1)) (sym e ∙ asked_body x)

own_body : (line asked : List ℕ) → line ≡ codes "report " ++ (asked ++ 10 ∷ []) → (x : Spot × ℕ) → asked_line x ≡ line → spot_text x.0 ++ (codes " at " ++ day_text x.1) ≡ asked
own_body line asked l x e =
    append_cancel_right (spot_text x.0 ++ (codes " at " ++ day_text x.1)) asked (10 ∷ [])
    (append_cancel_left (codes "report ") ((spot_text x.0 ++ (codes " at " ++ day_text x.1)) ++ 10 ∷ []) (asked ++ 10 ∷ []) (sym (asked_body x) ∙ e ∙ l))

pub no_dated : (line asked : List ℕ) → line ≡ codes "report " ++ (asked ++ 10 ∷ []) → ((p : List ℕ) (d : ℕ) → IsPointAt p d asked → ⊥) → (x : Spot × ℕ) → IsAsked x → asked_line x ≡ line → ⊥
no_dated line asked l none x is e = none (spot_text x.0) x.1 (is.1, sym (own_body line asked l x e))

pub no_asked_spot : (line asked point : List ℕ) (d : ℕ) → line ≡ codes "report " ++ (asked ++ 10 ∷ []) → IsPointAt point d asked → ((p : Spot) → IsSpot p → spot_text p ≡ point → ⊥) → (x : Spot × ℕ) → IsAsked x → asked_line x ≡ line → ⊥
no_asked_spot line asked point d l at none x is e =
    let parts = end_parts asked (point ++ codes " at ") (day_text d) (spot_text x.0) x.1 (at.1 ∙ sym (append_assoc point (codes " at ") (day_text d))) refl (is.1, sym (own_body line asked l x e)) in
    none x.0 is.0 (append_cancel_right (spot_text x.0) point (codes " at ") parts.0)

pub asked_is : (line asked point : List ℕ) (d : ℕ) (p : Spot) → line ≡ codes "report " ++ (asked ++ 10 ∷ []) → IsPointAt point d asked → IsSpot p → spot_text p ≡ point → IsAsked (p, d) × (asked_line (p, d) ≡ line)
asked_is line asked point d p l at is e = (
  (is, at.0),
  asked_body (p, d) ∙ ap (λ t. codes "report " ++ ((t ++ (codes " at " ++ day_text d)) ++ 10 ∷ [])) e ∙ ap (λ t. codes "report " ++ (t ++ 10 ∷ [])) (sym at.1) ∙ sym l,
)

-- ---- lines with their numbers

numbered_body : (n : ℕ) (start : List ℕ) → start ≡ decimal n ++ codes " " → (x : Printed) → numbered_line n x ≡ start ++ (printed_text x ++ 10 ∷ [])
numbered_body n start e x = sym (append_assoc (decimal n) (codes " ") (printed_text x ++ 10 ∷ [])) ∙ ap (λ s. s ++ (printed_text x ++ 10 ∷ [])) (sym e)

pub no_body : (n : ℕ) (start line : List ℕ) → start ≡ decimal n ++ codes " " → ((b : List ℕ) → line ≡ start ++ (b ++ 10 ∷ []) → ⊥) → (x : Printed) → CanBePrinted x → numbered_line n x ≡ line → ⊥
no_body n start line s none x is e = none (printed_text x) (sym e ∙ numbered_body n start s x)

pub numbered_reads : (n : ℕ) (start line body : List ℕ) (o : Option Printed) → start ≡ decimal n ++ codes " " → line ≡ start ++ (body ++ 10 ∷ []) → Reads CanBePrinted printed_text body o → Reads CanBePrinted (numbered_line n) line o
numbered_reads n start line body None s l none = λ x is e.
    none x is (append_cancel_right (printed_text x) body (10 ∷ []) (append_cancel_left start (printed_text x ++ 10 ∷ []) (body ++ 10 ∷ []) (sym (numbered_body n start s x) ∙ e ∙ l)))
numbered_reads n start line body (Some x) s l h = (h.0, numbered_body n start s x ∙ ap (λ t. start ++ (t ++ 10 ∷ [])) h.1 ∙ sym l)
