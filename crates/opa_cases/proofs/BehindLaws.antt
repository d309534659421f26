-- Lines behind a front.
use Rattle.std.proofs.Common.{◌≡◌, ℕ, false, List, [], ◌∷◌, ◌++◌, length, length-append, append_assoc, append-nil, sym, ap, ◌∙◌, arith, ◌<◌}
use Rattle.std.specs.Prelude.{◌==◌, flat_map}
use Rattle.opa_talk.specs.Lines.{lines, IsPart}
use Rattle.opa_talk.proofs.LinesLaws.{lines_first, lines_last}

abbrev pub fronted : List ℕ → List ℕ → List ℕ
fronted front text = flat_map (λ l. front ++ l) (lines text)

-- a line was added, and the others follow
pub behind_more : (front text whole line after out : List ℕ) → IsPart line → text ≡ line ++ 10 ∷ after → out ++ fronted front text ≡ whole → (out ++ (front ++ (line ++ 10 ∷ []))) ++ fronted front after ≡ whole
behind_more front text whole line after out part e h =
    append_assoc out (front ++ (line ++ 10 ∷ [])) (fronted front after)
    ∙ ap (λ t. out ++ t) (sym (ap (fronted front) e ∙ ap (flat_map (λ l. front ++ l)) (lines_first line after part)))
    ∙ h

-- the last line has no line feed
pub behind_last : (front text whole out : List ℕ) → IsPart text → (length text == 0) ≡ false → out ++ fronted front text ≡ whole → (out ++ front) ++ text ≡ whole
behind_last front text whole out part full h =
    append_assoc out front text
    ∙ ap (λ t. out ++ t) (sym (append-nil (front ++ text)) ∙ sym (ap (flat_map (λ l. front ++ l)) (lines_last text part full)))
    ∙ h

-- nothing is left
pub behind_nothing : (front text whole out : List ℕ) → text ≡ [] → out ++ fronted front text ≡ whole → out ≡ whole
behind_nothing front text whole out e h = sym (append-nil out) ∙ ap (λ t. out ++ fronted front t) (sym e) ∙ h

-- nothing stands behind a front if there is nothing
pub nothing_behind : (front text : List ℕ) → text ≡ [] → [] ≡ fronted front text
nothing_behind front text e = sym (ap (fronted front) e)

pub behind_shorter : (text line after : List ℕ) → text ≡ line ++ 10 ∷ after → length after < length text
behind_shorter text line after e = omega (arith, ap length e, length-append line (10 ∷ after))

pub ruleset behind_lines = (behind_more, behind_last, behind_nothing, behind_shorter)
