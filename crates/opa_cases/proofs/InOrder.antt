-- A transcript is what its lines print, one after another.
use Rattle.std.proofs.Common.{◌≡◌, inl, inr, ℕ, true, false, List, [], ◌∷◌, ◌++◌, refl, ap, ◌∙◌}
use Rattle.std.specs.List.{concat}
use Rattle.opa_talk.specs.Transcript.{Prints, IsTranscript}
use Rattle.opa_cases.specs.Caseload.{Held, caseload}
use Rattle.opa_cases.specs.Laws.{ArePrinted}

abbrev InTurn : Held → List (List ℕ) → List ℕ → Held → Type 0
InTurn x reads text y = (texts : List (List ℕ)) × ArePrinted x reads texts y × (text ≡ concat texts)

in_turn : (x y : Held) (reads : List (List ℕ)) (text : List ℕ) → Prints caseload x reads text y → InTurn x reads text y
in_turn x y [] text h = ([], (refl, h.1), h.0)
in_turn x y (read ∷ more) text (inl over) = absurd (let no : false ≡ true = over.0 in cc no)
in_turn x y (read ∷ more) text (inr (going, (said, next, rest, replies, printed, is))) =
    let t = in_turn next y more rest printed in
    (said ∷ t.0, (said, next, replies, (t.0, t.1, refl)), is ∙ ap (λ r. said ++ r) t.2)

pub in_order : (x y : Held) (reads : List (List ℕ)) (text : List ℕ) → IsTranscript caseload x reads text y → InTurn x reads text y
in_order x y reads text h = let t = in_turn x y reads h.0 h.1 in (t.0, t.1, h.2 ∙ t.2)
