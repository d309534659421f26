-- The front of a text.
use Rattle.std.proofs.Common.{◌≡◌, ◌≢◌, ◌∙◌, ℕ, Bool, true, false, cond, List, ◌++◌, length, take, drop, refl, sym, ap}
use Rattle.std.specs.Prelude.{None, Some}
use Rattle.std.specs.Str.{bytes_eq}
use Rattle.std.proofs.lemmas.Slice.Eq.{bytes_eq-Decides}
use Rattle.std.proofs.lemmas.List.{take_at, drop_at, take-append-drop}
use Rattle.opa_saved.specs.Texts.{after}

-- the text begins with the front
pub after_is : (front rest text : List ℕ) → text ≡ front ++ rest → after front text ≡ Some rest
after_is front rest text h =
    let same : bytes_eq (take (length front) text) front ≡ true = (bytes_eq-Decides (take (length front) text) front).1 (ap (take (length front)) h ∙ take_at front rest (length front) refl) in
    ap (λ (b : Bool). cond b (Some (drop (length front) text)) None) same ∙ ap (λ (x : List ℕ). Some x) (ap (drop (length front)) h ∙ drop_at front rest (length front) refl)

-- it doesn't
pub after_none : (front text : List ℕ) → ((rest : List ℕ) → text ≢ front ++ rest) → after front text ≡ None
after_none front text none = by (bytes_eq (take (length front) text) front) refl
  where
    by : (b : Bool) → bytes_eq (take (length front) text) front ≡ b → cond b (Some (drop (length front) text)) None ≡ None
    by false e = refl
    by true e = absurd (none (drop (length front) text) (sym (take-append-drop (length front) text) ∙ ap (λ (x : List ℕ). x ++ drop (length front) text) ((bytes_eq-Decides (take (length front) text) front).0 e)))
