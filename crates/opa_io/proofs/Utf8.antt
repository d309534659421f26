-- When bytes are a text.
use Rattle.std.proofs.Common.{◌≡◌, ℕ, Bool, true, false, List, Some, None, ap, sym, refl}
use Rattle.std.specs.Prelude.{if◌then◌else◌}
use Rattle.std.specs.Str.{IsUtf8, is_utf8}
use Rattle.std.proofs.lemmas.Str.{IsUtf8-from_is_utf8, is_utf8-from_IsUtf8}
use Rattle.opa_io.specs.Texts.{text_of}

pub text_of_text : (bytes : List ℕ) → IsUtf8 bytes → Some bytes ≡ text_of bytes
text_of_text bytes h = ap (λ t. if t then Some bytes else None) (sym (is_utf8-from_IsUtf8 bytes h))

not_true : (t : Bool) → (t ≡ true → ⊥) → t ≡ false
not_true true h = absurd (h refl)
not_true false h = refl

pub text_of_other : (bytes : List ℕ) → (IsUtf8 bytes → ⊥) → None ≡ text_of bytes
text_of_other bytes h = ap (λ t. if t then Some bytes else None) (sym (not_true (is_utf8 bytes) (λ e. h (IsUtf8-from_is_utf8 bytes e))))
