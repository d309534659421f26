-- What a text spells: the definition by the parts of the text agrees with the form of a number's text.
use Rattle.std.proofs.Common.{◌≡◌, ℕ, ◌<◌, ◌≤◌, ℤ, Bool, true, false, cond, ltb, eqb, ◌&&◌, List, [], ◌∷◌, ◌++◌, length, take, drop, Option, Some, None, Ok, Err, refl, sym, ap, ◌∙◌, subst, arith}
use Rattle.std.specs.Char.{is_ascii_digit}
use Rattle.std.specs.List.{prefix_len}
use Rattle.std.specs.Option.{option_map}
use Rattle.std.specs.Str.Parse.{starts_with_minus}
use Rattle.std.proofs.lemmas.Bool.{and_parts, and_from, cond_both, cond-true, le-leb, lt-ltb, ltb-true, eqb-true, leb-true, ne_eqb, false≢true, both_ways}
use Rattle.std.proofs.lemmas.List.{take-append-drop, length-take-le}
use Rattle.std.proofs.lemmas.List.Sums.{prefix_len-le-length}
use Rattle.std.proofs.Math.Seq.{take-append_seam, drop-append_seam}
use Rattle.opa_value.proofs.Digits.{front_passes, decimals_say}
use Rattle.opa_value.specs.declared.number.NumFault.TheVariants as fault
use Rattle.opa_value.specs.Numbers.{in_range}
use Rattle.opa_value.specs.NumberText.{all_digits, size_of, signed, sign_text, behind_text, Spells, is_decimals, behind_of, parts_of, without_minus, count_of, held_count, read_number, Reads}

-- ---- a text of the form is read

-- the digits that stand first are all of the whole part
front_behind : (behind : List ℕ) → prefix_len is_ascii_digit (behind_text behind) ≡ 0
front_behind [] = refl
front_behind (d ∷ ds) = refl

front_len : (whole behind : List ℕ) → all_digits whole ≡ true → prefix_len is_ascii_digit (whole ++ behind_text behind) ≡ length whole
front_len [] behind all = front_behind behind
front_len (c ∷ cs) behind all =
    let parts = and_parts (is_ascii_digit c) (all_digits cs) all in
    let rest = front_len cs behind parts.1 in
    cond-true (is_ascii_digit c) _ _ parts.0 ∙ omega (arith, rest)

behind_read : (behind : List ℕ) → length behind ≤ 4 → all_digits behind ≡ true → behind_of (behind_text behind) ≡ Some behind
behind_read [] le all = refl
behind_read (d ∷ ds) le all =
    cond-true (is_decimals (d ∷ ds)) (Some (d ∷ ds)) None (and_from _ _ (lt-ltb 0 (length (d ∷ ds)) (omega arith)) (and_from _ _ (le-leb _ _ le) all))

abbrev parts_at : List ℕ → ℕ → Option (List ℕ × List ℕ)
parts_at text count = cond (ltb 0 count) (option_map (λ behind. (take count text, behind)) (behind_of (drop count text))) None

parts_read : (whole behind : List ℕ) → 0 < length whole → length behind ≤ 4 → all_digits whole ≡ true → all_digits behind ≡ true → parts_of (whole ++ behind_text behind) ≡ Some (whole, behind)
parts_read whole behind some le whole_all behind_all =
    ap (parts_at (whole ++ behind_text behind)) (front_len whole behind whole_all)
    ∙ cond-true (ltb 0 (length whole)) _ _ (lt-ltb 0 (length whole) some)
    ∙ ap (λ w. option_map (λ b. (w, b)) (behind_of (drop (length whole) (whole ++ behind_text behind)))) (take-append_seam whole (behind_text behind))
    ∙ ap (λ r. option_map (λ b. (whole, b)) (behind_of r)) (drop-append_seam whole (behind_text behind))
    ∙ ap (option_map (λ b. (whole, b))) (behind_read behind le behind_all)

minus_read : (negative : Bool) (whole behind : List ℕ) → 0 < length whole → all_digits whole ≡ true → starts_with_minus (sign_text negative ++ (whole ++ behind_text behind)) ≡ negative
minus_read true whole behind some all = refl
minus_read false [] behind some all = absurd (omega arith)
minus_read false (c ∷ cs) behind some all =
    ne_eqb c 45 (λ e. let yes = (and_parts (is_ascii_digit c) (all_digits cs) all).0 in false≢true (subst (λ (d : ℕ). is_ascii_digit d ≡ true) e yes))

rest_read : (negative : Bool) (text : List ℕ) → starts_with_minus (sign_text negative ++ text) ≡ negative → without_minus (sign_text negative ++ text) ≡ text
rest_read true text e = refl
rest_read false text e = ap (λ b. cond b (drop 1 text) text) e

count_read : (negative : Bool) (whole behind : List ℕ) → 0 < length whole → length behind ≤ 4 → all_digits whole ≡ true → all_digits behind ≡ true → count_of (sign_text negative ++ (whole ++ behind_text behind)) ≡ Some (signed negative (size_of whole behind))
unfolding count_of
count_read negative whole behind some le whole_all behind_all =
    let text : List ℕ = sign_text negative ++ (whole ++ behind_text behind) in
    let minus : starts_with_minus text ≡ negative = minus_read negative whole behind some whole_all in
    ap (λ b. option_map (λ p. signed b (size_of p.0 p.1)) (parts_of (without_minus text))) minus
    ∙ ap (λ t. option_map (λ p. signed negative (size_of p.0 p.1)) (parts_of t)) (rest_read negative (whole ++ behind_text behind) minus)
    ∙ ap (option_map (λ p. signed negative (size_of p.0 p.1))) (parts_read whole behind some le whole_all behind_all)

pub spelled_read : (text : List ℕ) (count : ℤ) → Spells text count → count_of text ≡ Some count
spelled_read text count s =
    ap count_of s.written ∙ count_read s.negative s.whole s.behind s.some s.at_most s.whole_digits s.behind_digits ∙ ap Some (sym s.counted)

-- ---- a text that is read has the form

record AreBehind (rest ds : List ℕ) : Type 0 where
  written : rest ≡ behind_text ds
  at_most : length ds ≤ 4
  digits : all_digits ds ≡ true

behind_some : (c : ℕ) (ds : List ℕ) → c ≡ 46 → 0 < length ds → c ∷ ds ≡ behind_text ds
behind_some c [] e some = absurd (omega arith)
behind_some c (d ∷ ds) e some = ap (λ x. x ∷ d ∷ ds) e

behind_spelled : (rest ds : List ℕ) → behind_of rest ≡ Some ds → AreBehind rest ds
behind_spelled [] ds h = let e : [] ≡ ds = cc in subst (AreBehind []) e (record { written = refl; at_most = omega arith; digits = refl })
behind_spelled (c ∷ digits) ds h =
    cond_both (eqb c 46 && is_decimals digits) (Some digits) None (λ o. o ≡ Some ds → AreBehind (c ∷ digits) ds)
    (λ yes is. let e : digits ≡ ds = cc in
    let both = and_parts _ _ yes in
    let say = decimals_say digits both.1 in
    subst (AreBehind (c ∷ digits)) e (record { written = behind_some c digits (eqb-true _ _ both.0) say.0; at_most = say.1; digits = say.2 }))
    (λ no is. cc) h

record AreParts (text whole behind : List ℕ) : Type 0 where
  written : text ≡ whole ++ behind_text behind
  some : 0 < length whole
  at_most : length behind ≤ 4
  whole_digits : all_digits whole ≡ true
  behind_digits : all_digits behind ≡ true

parts_spelled_at : (text : List ℕ) (p : List ℕ × List ℕ) (o : Option (List ℕ)) → behind_of (drop (prefix_len is_ascii_digit text) text) ≡ o → 0 < prefix_len is_ascii_digit text → option_map (λ behind. (take (prefix_len is_ascii_digit text) text, behind)) o ≡ Some p → AreParts text p.0 p.1
parts_spelled_at text p None is some h = cc
parts_spelled_at text p (Some ds) is some h =
    let n : ℕ = prefix_len is_ascii_digit text in
    let e : (take n text, ds) ≡ p = cc in
    let behind = behind_spelled (drop n text) ds is in
    let long : length (take n text) ≡ n = length-take-le n text (prefix_len-le-length is_ascii_digit text) in
    subst (λ (q : List ℕ × List ℕ). AreParts text q.0 q.1) e (record {
      written = sym (take-append-drop n text) ∙ ap (λ r. take n text ++ r) behind.written;
      some = omega (arith, long, some);
      at_most = behind.at_most;
      whole_digits = front_passes is_ascii_digit text;
      behind_digits = behind.digits;
    })

parts_spelled : (text : List ℕ) (p : List ℕ × List ℕ) → parts_of text ≡ Some p → AreParts text p.0 p.1
parts_spelled text p h =
    let n : ℕ = prefix_len is_ascii_digit text in
    cond_both (ltb 0 n) (option_map (λ behind. (take n text, behind)) (behind_of (drop n text))) None (λ o. o ≡ Some p → AreParts text p.0 p.1)
    (λ yes is. parts_spelled_at text p (behind_of (drop n text)) refl (ltb-true _ _ yes) is) (λ no is. cc) h

sign_at : (b : Bool) (c : ℕ) (cs : List ℕ) → (b ≡ true → c ≡ 45) → c ∷ cs ≡ sign_text b ++ cond b cs (c ∷ cs)
sign_at true c cs h = ap (λ x. x ∷ cs) (h refl)
sign_at false c cs h = refl

sign_spelled : (text : List ℕ) → text ≡ sign_text (starts_with_minus text) ++ without_minus text
sign_spelled [] = refl
sign_spelled (c ∷ cs) = sign_at (eqb c 45) c cs (eqb-true c 45)

count_spelled : (text : List ℕ) (count : ℤ) (o : Option (List ℕ × List ℕ)) → parts_of (without_minus text) ≡ o → option_map (λ p. signed (starts_with_minus text) (size_of p.0 p.1)) o ≡ Some count → Spells text count
count_spelled text count None is h = cc
count_spelled text count (Some p) is h =
    let parts = parts_spelled (without_minus text) p is in
    let e : signed (starts_with_minus text) (size_of p.0 p.1) ≡ count = cc in
    record {
      negative = starts_with_minus text;
      whole = p.0;
      behind = p.1;
      written = sign_spelled text ∙ ap (λ t. sign_text (starts_with_minus text) ++ t) parts.written;
      some = parts.some;
      at_most = parts.at_most;
      whole_digits = parts.whole_digits;
      behind_digits = parts.behind_digits;
      counted = sym e;
    }

pub read_spelled : (text : List ℕ) (count : ℤ) → count_of text ≡ Some count → Spells text count
unfolding count_of
read_spelled text count h = count_spelled text count (parts_of (without_minus text)) refl h

none_spelled : (text : List ℕ) → count_of text ≡ None → (count : ℤ) → ¬ Spells text count
none_spelled text none count s = let some = spelled_read text count s in cc

reads_at : (text : List ℕ) (o : Option ℤ) → count_of text ≡ o → Reads text (held_count o)
reads_at text None is = none_spelled text is
reads_at text (Some count) is =
    cond_both (in_range count) (Ok count) (Err fault.Range) (Reads text)
    (λ yes. (read_spelled text count is, leb-true _ _ yes))
    (λ no. (count, read_spelled text count is, λ range. both_ways (in_range count) no (le-leb _ _ range)))

-- what reading gives has its cause
pub reads_number : (text : List ℕ) → Reads text (read_number text)
unfolding read_number
reads_number text = reads_at text (count_of text) refl
