-- A size that stops at the greatest u64 is as good as the size: both are out of range, or equal.
use Rattle.std.proofs.Common.{◌≡◌, ℕ, zero, suc, ◌^◌, Bool, true, false, leb, List, Option, Some, None, ℤ, Result, refl, sym, ap, subst, ◌∙◌, arith, inl, inr}
use Rattle.std.proofs.lemmas.Bool.{cases_lt, lt-leb}
use Rattle.std.specs.Int.RustNames.{unsigned_abs}
use Rattle.std.specs.Option.{option_map}
use Rattle.std.specs.Str.Parse.{starts_with_minus}
use Rattle.opa_value.specs.declared.number.NumFault.{NumFault}
use Rattle.opa_value.specs.Capped.{capped, capped_count}
use Rattle.opa_value.proofs.Spelling.{reads_number}
use Rattle.opa_value.specs.NumberText.{signed, parts_of, size_of, without_minus, held_count, count_of, read_number, Reads}

pub abs_signed : (negative : Bool) (n : ℕ) → unsigned_abs (signed negative n) ≡ n
abs_signed true zero = refl
abs_signed true (suc n) = refl
abs_signed false n = refl

held_same : (negative : Bool) (n : ℕ) → held_count (Some (signed negative (capped n))) ≡ held_count (Some (signed negative n))
held_same negative n = elim (cases_lt n (2 ^ 64)) as (λ _. held_count (Some (signed negative (capped n))) ≡ held_count (Some (signed negative n))) [
  | inl less ↦ ap (λ m. held_count (Some (signed negative m))) (omega arith)
  | inr more ↦
      let large : leb (unsigned_abs (signed negative n)) (10 ^ 17) ≡ false = rw (abs_signed negative n) (lt-leb n (10 ^ 17) (omega arith)) in
      let large' : leb (unsigned_abs (signed negative (capped n))) (10 ^ 17) ≡ false = rw (abs_signed negative (capped n)) (lt-leb (capped n) (10 ^ 17) (omega arith)) in
      rw (large, large') refl
]

held_parts : (negative : Bool) (parts : Option (List ℕ × List ℕ)) → held_count (option_map (λ p. signed negative (capped (size_of p.0 p.1))) parts) ≡ held_count (option_map (λ p. signed negative (size_of p.0 p.1)) parts)
held_parts negative None = refl
held_parts negative (Some p) = held_same negative (size_of p.0 p.1)

pub held_capped : (text : List ℕ) → held_count (capped_count text) ≡ read_number text
unfolding read_number count_of
held_capped text = held_parts (starts_with_minus text) (parts_of (without_minus text))

-- what is held of the count that was read is what reading gives, and has its cause
pub held_value : (text : List ℕ) (count : Option ℤ) (r : Result ℤ NumFault) → count ≡ capped_count text → r ≡ held_count count → r ≡ read_number text
held_value text count r e is = is ∙ ap held_count e ∙ held_capped text

pub held_cause : (text : List ℕ) (count : Option ℤ) (r : Result ℤ NumFault) → count ≡ capped_count text → r ≡ held_count count → Reads text r
held_cause text count r e is = subst (Reads text) (sym (held_value text count r e is)) (reads_number text)

pub ruleset held_counts = (held_value, held_cause)
