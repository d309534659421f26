-- Control characters in bytes as in characters.
use Rattle.std.proofs.Common.{◌≡◌, ℕ, suc, ◌<◌, length, get_or, List, [], ◌∷◌, ◌++◌, Bool, true, false, Decides, refl, sym, ap, ◌∙◌, arith, append-nil}
use Rattle.std.specs.Prelude.{nat_lt, not, ◌||◌}
use Rattle.std.specs.List.{list_any, AllByRecursion}
use Rattle.std.specs.Str.{chars, IsUtf8}
use lib.Utf8.{encode, encodes}
use Rattle.std.proofs.lemmas.Bool.{ltb-true, not-true}
use Rattle.std.proofs.lemmas.Str.{encodes-chars, encode_ascii, inside_one}
use Rattle.opa_io.proofs.Bools.{neither_first, neither_second}
use Rattle.opa_words.specs.Characters.{is_control}
use Rattle.opa_text.specs.Laws.{CanBeQuoted}
use Rattle.opa_verify.specs.Spelling.Spelling.{CanBePrinted}
use Rattle.opa_verify.specs.declared.spelling.printed.Printed.{Printed}
use Rattle.opa_verify.specs.declared.spelling.printed.Printed.TheVariants as printed
use Rattle.opa_verify.specs.Spelling.Dated.{IsDated}
use Rattle.opa_value.specs.declared.value.Value.{Value}
use Rattle.opa_value.specs.declared.value.Value.TheVariants as value
use Rattle.opa_model.specs.declared.things.Kind.{Kind}
use Rattle.opa_text.specs.Laws.{CanBeWritten}
use Rattle.opa_text.specs.Texts.{IsOfCalendar}

none_left : (xs ys : List ℕ) → list_any is_control (xs ++ ys) ≡ false → list_any is_control xs ≡ false
none_left [] ys h = refl
none_left (x ∷ xs) ys h = ap (λ t. t || list_any is_control xs) (neither_first (is_control x) (list_any is_control (xs ++ ys)) h) ∙ none_left xs ys (neither_second (is_control x) (list_any is_control (xs ++ ys)) h)

none_right : (xs ys : List ℕ) → list_any is_control (xs ++ ys) ≡ false → list_any is_control ys ≡ false
none_right [] ys h = h
none_right (x ∷ xs) ys h = none_right xs ys (neither_second (is_control x) (list_any is_control (xs ++ ys)) h)

low : (c : ℕ) → is_control c ≡ true → nat_lt c 128 ≡ true
low c h = grind (arith, h)

one_clean : (c : ℕ) → list_any is_control (encode c) ≡ false → is_control c ≡ false
one_clean c h = go (is_control c) refl
  where
    go : (b : Bool) → is_control c ≡ b → is_control c ≡ false
    go false e = e
    go true e =
        let one : list_any is_control (c ∷ []) ≡ false = sym (ap (list_any is_control) (encode_ascii c (ltb-true c 128 (low c e)))) ∙ h in
        neither_first (is_control c) false one

all_clean : (cs : List ℕ) → list_any is_control (encodes cs) ≡ false → list_any is_control cs ≡ false
all_clean [] h = refl
all_clean (c ∷ cs) h = ap (λ t. t || list_any is_control cs) (one_clean c (none_left (encode c) (encodes cs) h)) ∙ all_clean cs (none_right (encode c) (encodes cs) h)

pub quoted_from : (t : List ℕ) → IsUtf8 t → list_any is_control t ≡ false → CanBeQuoted t
quoted_from t u h = record { utf8 = u; plain = all_clean (chars t) (ap (list_any is_control) (encodes-chars t u) ∙ h) }

-- and back

not_at : (xs : List ℕ) → ((i : ℕ) → i < length xs → is_control (get_or xs i 0) ≡ false) → list_any is_control xs ≡ false
not_at [] h = refl
not_at (x ∷ xs) h = ap (λ t. t || list_any is_control xs) (h 0 (omega arith)) ∙ not_at xs (λ i l. h (suc i) (omega (arith, l)))

byte_clean : (c i : ℕ) → is_control c ≡ false → i < length (encode c) → is_control (get_or (encode c) i 0) ≡ false
byte_clean c i n l = go (is_control (get_or (encode c) i 0)) refl
  where
    go : (b : Bool) → is_control (get_or (encode c) i 0) ≡ b → is_control (get_or (encode c) i 0) ≡ false
    go false e = e
    go true e =
        let is : c ≡ get_or (encode c) i 0 = inside_one c [] (encode c) i (sym (append-nil (encode c))) l (ltb-true (get_or (encode c) i 0) 128 (low (get_or (encode c) i 0) e)) in
        absurd (let f : true ≡ false = sym e ∙ ap is_control (sym is) ∙ n in cc f)

pub none_both : (xs ys : List ℕ) → list_any is_control xs ≡ false → list_any is_control ys ≡ false → list_any is_control (xs ++ ys) ≡ false
none_both [] ys h k = k
none_both (x ∷ xs) ys h k = ap (λ t. t || list_any is_control (xs ++ ys)) (neither_first (is_control x) (list_any is_control xs) h) ∙ none_both xs ys (neither_second (is_control x) (list_any is_control xs) h) k

bytes_clean : (cs : List ℕ) → list_any is_control cs ≡ false → list_any is_control (encodes cs) ≡ false
bytes_clean [] h = refl
bytes_clean (c ∷ cs) h = none_both (encode c) (encodes cs) (not_at (encode c) (λ i l. byte_clean c i (neither_first (is_control c) (list_any is_control cs) h) l)) (bytes_clean cs (neither_second (is_control c) (list_any is_control cs) h))

pub clean_bytes : (t : List ℕ) → CanBeQuoted t → list_any is_control t ≡ false
clean_bytes t h = ap (list_any is_control) (sym (encodes-chars t h.utf8)) ∙ bytes_clean (chars t) h.plain

pub clean_decides : (t bytes : List ℕ) (b : Bool) → IsUtf8 t → bytes ≡ t → b ≡ list_any is_control bytes → Decides (not b) (CanBeQuoted t)
clean_decides t bytes b u e k = (
  λ yes. quoted_from t u (ap (list_any is_control) (sym e) ∙ sym k ∙ not-true b yes),
  λ can. ap not (k ∙ ap (list_any is_control) e ∙ clean_bytes t can),
)

-- ---- days

pub written_days : (k : Kind) (v : Value) → CanBeWritten k v → IsOfCalendar v
written_days k value.Unknown h = tt
written_days k value.Uncertain h = tt
written_days k (value.Bool b) h = tt
written_days k (value.Num n) h = tt
written_days k (value.Words t) h = tt
written_days k (value.Day d) h = h

pub printed_days : (x : Printed) → CanBePrinted x → IsDated x
printed_days (printed.Point p s t k v o) h = (h.1.0, (h.1.1.0, written_days k v h.1.1.1.0))
printed_days (printed.Members p names) h = tt
printed_days (printed.Member p n) h = tt

pub all_days : (xs : List Printed) → AllByRecursion CanBePrinted xs → AllByRecursion IsDated xs
all_days [] h = tt
all_days (x ∷ xs) h = (printed_days x h.0, all_days xs h.1)
