-- The front of a text.
use Rattle.std.proofs.Common.{◌≡◌, ◌≢◌, ◌∙◌, ℕ, Bool, true, false, cond, List, ◌++◌, length, take, drop, refl, sym, ap}
use Rattle.std.specs.Prelude.{None, Some}
use Rattle.std.specs.Str.{bytes_eq}
use Rattle.std.proofs.lemmas.Slice.Eq.{bytes_eq-Decides}
use Rattle.std.proofs.lemmas.List.{take_at, drop_at, take-append-drop}
use Rattle.opa_words.specs.Phrases.{after_front}

-- the text begins with the word
pub after_front_is : (word rest text : List ℕ) → text ≡ word ++ rest → after_front word text ≡ Some rest
after_front_is word rest text h =
    let same : bytes_eq (take (length word) text) word ≡ true = (bytes_eq-Decides (take (length word) text) word).1 (ap (take (length word)) h ∙ take_at word rest (length word) refl) in
    ap (λ (b : Bool). cond b (Some (drop (length word) text)) None) same ∙ ap (λ (x : List ℕ). Some x) (ap (drop (length word)) h ∙ drop_at word rest (length word) refl)

-- the text begins with no such word
pub after_front_none : (word text : List ℕ) → ((rest : List ℕ) → text ≢ word ++ rest) → after_front word text ≡ None
after_front_none word text none = by (bytes_eq (take (length word) text) word) refl
  where
    by : (b : Bool) → bytes_eq (take (length word) text) word ≡ b → cond b (Some (drop (length word) text)) None ≡ None
    by false e = refl
    by true e = absurd (none (drop (length word) text) (sym (take-append-drop (length word) text) ∙ ap (λ (x : List ℕ). x ++ drop (length word) text) ((bytes_eq-Decides (take (length word) text) word).0 e)))
