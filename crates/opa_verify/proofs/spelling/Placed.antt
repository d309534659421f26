-- Origins, cut at their last colon.
use Rattle.std.proofs.Common.{◌≡◌, ◌≢◌, inl, inr, ℕ, suc, ◌<◌, ◌^◌, List, [], ◌∷◌, ◌++◌, length, take, drop, get_or, true, ◌==◌, refl, sym, ap, subst, ◌∙◌, arith, decimal}
use Rattle.std.specs.Prelude.{Some, None, Result, Ok, Err, codes}
use Rattle.std.specs.Char.{is_ascii_digit}
use Rattle.std.specs.Str.{IsUtf8, NoCharPasses}
use Rattle.std.specs.Str.Parse.{ParsesUnsigned}
use Rattle.std.specs.Str.Pattern.{RFindsChar}
use Rattle.std.proofs.lemmas.Bool.{and_parts}
use Rattle.std.proofs.lemmas.Fmt.{decimal_injective, digits_decimal, parse-decimal}
use Rattle.std.proofs.lemmas.List.{take-append-drop}
use Rattle.std.proofs.lemmas.Str.{IsUtf8-append}
use Rattle.std.proofs.lemmas.Str.Pattern.{NoCharPasses-char, drop_at_char}
use Rattle.opa_value.specs.NumberText.{all_digits}
use Rattle.opa_value.proofs.Digits.{own}
use Rattle.opa_words.proofs.Ascii.{ascii_utf8, is_ascii}
use Rattle.opa_words.proofs.Separate.{all_wider}
use Rattle.opa_verify.specs.Spelling.Printed.{origin_text, place_text}
use Rattle.opa_verify.specs.Spelling.Spelling.{IsOrigin}
use Rattle.opa_verify.specs.declared.spelling.printed.Origin.{Origin}
use Rattle.opa_verify.specs.declared.spelling.printed.Origin.TheVariants as origin
use Rattle.opa_verify.proofs.spelling.Cutting.{same_head}
use Rattle.opa_verify.proofs.spelling.Namely.{apart}

-- ---- the last colon

-- no colon stands there
abbrev pub no_colon : List ℕ → Type 0
no_colon [] = Unit {0}
no_colon (b ∷ bs) = (b ≢ 58) × no_colon bs

no_colon_at : (bs : List ℕ) → ((i : ℕ) → i < length bs → get_or bs i 0 ≢ 58) → no_colon bs
no_colon_at [] h = tt
no_colon_at (b ∷ bs) h = (h 0 (omega arith), no_colon_at bs (λ i l. h (suc i) (omega (arith, l))))

passes_none : (bs : List ℕ) → NoCharPasses (λ d. d == 58) bs → no_colon bs
passes_none bs h = no_colon_at bs (λ i l. NoCharPasses-char 58 bs i h (omega arith) l)

colon_in : (xs ys : List ℕ) → no_colon (xs ++ 58 ∷ ys) → ⊥
colon_in [] ys h = h.0 refl
colon_in (x ∷ xs) ys h = colon_in xs ys h.1

last_colon : (f g xs ys : List ℕ) → no_colon xs → no_colon ys → f ++ 58 ∷ xs ≡ g ++ 58 ∷ ys → (f ≡ g) × (xs ≡ ys)
last_colon [] [] xs ys n m e = (refl, (same_head 58 58 xs ys e).1)
last_colon [] (b ∷ g) xs ys n m e = absurd (colon_in g ys (subst no_colon (same_head 58 b xs (g ++ 58 ∷ ys) e).1 n))
last_colon (b ∷ f) [] xs ys n m e = absurd (colon_in f xs (subst no_colon (sym (same_head b 58 (f ++ 58 ∷ xs) ys e).1) m))
last_colon (b ∷ f) (c ∷ g) xs ys n m e =
    let h = same_head b c (f ++ 58 ∷ xs) (g ++ 58 ∷ ys) e in
    let r = last_colon f g xs ys n m h.1 in
    (ap (λ z. z ∷ f) h.0 ∙ ap (λ z. c ∷ z) r.0, r.1)

digit_no_colon : (c : ℕ) → is_ascii_digit c ≡ true → c ≢ 58
digit_no_colon c h = grind (arith, h)

digits_no_colon : (ds : List ℕ) → all_digits ds ≡ true → no_colon ds
digits_no_colon [] h = tt
digits_no_colon (d ∷ ds) h = let both = and_parts (is_ascii_digit d) (all_digits ds) h in (digit_no_colon d both.0, digits_no_colon ds both.1)

decimal_no_colon : (n : ℕ) → n < 2 ^ 32 → no_colon (decimal n)
decimal_no_colon n h = let small : n < 2 ^ 64 = omega (arith, h) in digits_no_colon (decimal n) (digits_decimal own n small)

-- ---- places

-- a text is no rule's place, or a line stands behind its last colon
pub record Cut (place file line : List ℕ) : Type 0 where
  pub parts : place ≡ file ++ 58 ∷ line
  pub last : no_colon line

pub no_cut : (place : List ℕ) → RFindsChar 58 place None → no_colon place
no_cut place h = passes_none place h

pub cut_at : (place file line : List ℕ) (i j : ℕ) → RFindsChar 58 place (Some (i, j)) → file ≡ take i place → line ≡ drop j place → Cut place file line
cut_at place file line i j h f l = record {
  parts = sym (take-append-drop i place) ∙ ap (λ t. take i place ++ t) (drop_at_char 58 place i j h.1 (omega arith)) ∙ ap (λ t. t ++ 58 ∷ drop j place) (sym f) ∙ ap (λ t. file ++ 58 ∷ t) (sym l);
  last = subst no_colon (sym l) (passes_none (drop j place) h.0);
}

same_rule : (xs ys : List ℕ) → codes "rule " ++ xs ≡ codes "rule " ++ ys → xs ≡ ys
same_rule xs ys e = cc e

-- the place of a rule, cut at its last colon
rule_cut : (text place file line f : List ℕ) (n : ℕ) → text ≡ codes "rule " ++ place → Cut place file line → n < 2 ^ 32 → place_text f n ≡ text → (f ≡ file) × (decimal n ≡ line)
rule_cut text place file line f n t c h e = last_colon f file (decimal n) line (decimal_no_colon n h) c.last (same_rule (f ++ 58 ∷ decimal n) place (e ∙ t) ∙ c.parts)

-- ---- what can't be an origin

not_answer : (place : List ℕ) → codes "answer" ≡ codes "rule " ++ place → ⊥
not_answer place e = apart 97 114 (inr (omega arith)) (cc e)

not_unanswered : (place : List ℕ) → codes "unanswered" ≡ codes "rule " ++ place → ⊥
not_unanswered place e = apart 117 114 (inl (omega arith)) (cc e)

pub no_origin : (text : List ℕ) → (text ≡ codes "answer" → ⊥) → (text ≡ codes "unanswered" → ⊥) → ((rest : List ℕ) → text ≡ codes "rule " ++ rest → ⊥) → (o : Origin) → IsOrigin o → origin_text o ≡ text → ⊥
no_origin text a u r (origin.Rule file line) is e = r (file ++ (codes ":" ++ decimal line)) (sym e)
no_origin text a u r origin.Answer is e = a (sym e)
no_origin text a u r origin.Unanswered is e = u (sym e)

-- a text behind `rule ` is the place of a rule, or no origin's
only_rule : (text place : List ℕ) → text ≡ codes "rule " ++ place → ((f : List ℕ) (n : ℕ) → IsOrigin (origin.Rule f n) → place_text f n ≡ text → ⊥) → (o : Origin) → IsOrigin o → origin_text o ≡ text → ⊥
only_rule text place t none (origin.Rule f n) is e = none f n is e
only_rule text place t none origin.Answer is e = not_answer place (e ∙ t)
only_rule text place t none origin.Unanswered is e = not_unanswered place (e ∙ t)

decimal_utf8 : (n : ℕ) → n < 2 ^ 32 → IsUtf8 (decimal n)
decimal_utf8 n h = let small : n < 2 ^ 64 = omega (arith, h) in ascii_utf8 (decimal n) (all_wider is_ascii_digit is_ascii (decimal n) digit_ascii (digits_decimal own n small))
  where
    digit_ascii : (c : ℕ) → is_ascii_digit c ≡ true → is_ascii c ≡ true
    digit_ascii c h = grind (arith, h)

pub place_utf8 : (f : List ℕ) (n : ℕ) → IsOrigin (origin.Rule f n) → IsUtf8 (f ++ (codes ":" ++ decimal n))
place_utf8 f n is = IsUtf8-append f (codes ":" ++ decimal n) is.0.utf8 (IsUtf8-append (codes ":") (decimal n) (ascii_utf8 (codes ":") refl) (decimal_utf8 n is.1))

pub origin_utf8 : (o : Origin) → IsOrigin o → IsUtf8 (origin_text o)
origin_utf8 (origin.Rule f n) is = IsUtf8-append (codes "rule ") (f ++ (codes ":" ++ decimal n)) (ascii_utf8 (codes "rule ") refl) (place_utf8 f n is)
origin_utf8 origin.Answer is = ascii_utf8 (codes "answer") refl
origin_utf8 origin.Unanswered is = ascii_utf8 (codes "unanswered") refl

pub unread_place : (text place : List ℕ) → text ≡ codes "rule " ++ place → (IsUtf8 place → ⊥) → (o : Origin) → IsOrigin o → origin_text o ≡ text → ⊥
unread_place text place t n = only_rule text place t (λ f m is e. n (subst IsUtf8 (same_rule (f ++ (codes ":" ++ decimal m)) place (e ∙ t)) (place_utf8 f m is)))

pub uncut_place : (text place : List ℕ) → text ≡ codes "rule " ++ place → no_colon place → (o : Origin) → IsOrigin o → origin_text o ≡ text → ⊥
uncut_place text place t n = only_rule text place t (λ f m is e. colon_in f (decimal m) (subst no_colon (sym (same_rule (f ++ 58 ∷ decimal m) place (e ∙ t))) n))

parsed : {E : Type 0} (line : List ℕ) (m : ℕ) (r : Result ℕ E) → ParsesUnsigned 32 10 line r → m < 2 ^ 32 → decimal m ≡ line → r ≡ Ok m
parsed line m r p h e = let small : m < 2 ^ 64 = omega (arith, h) in parse-decimal 32 m line r h small (sym e) p

pub unparsed_place : {E : Type 0} (text place file line : List ℕ) (r : Result ℕ E) (x : E) → text ≡ codes "rule " ++ place → Cut place file line → ParsesUnsigned 32 10 line r → r ≡ Err x → (o : Origin) → IsOrigin o → origin_text o ≡ text → ⊥
unparsed_place text place file line r x t c p q =
    only_rule text place t (λ f m is e. let y : Err x ≡ Ok m = sym q ∙ parsed line m r p is.1 (rule_cut text place file line f m t c is.1 e).1 in cc y)

pub one_place : {E : Type 0} (text place file line : List ℕ) (n : ℕ) (r : Result ℕ E) → text ≡ codes "rule " ++ place → Cut place file line → ParsesUnsigned 32 10 line r → r ≡ Ok n → (o : Origin) → IsOrigin o → origin_text o ≡ text → o ≡ origin.Rule file n
one_place text place file line n r t c p q origin.Answer is e = absurd (not_answer place (e ∙ t))
one_place text place file line n r t c p q origin.Unanswered is e = absurd (not_unanswered place (e ∙ t))
one_place text place file line n r t c p q (origin.Rule f m) is e =
    let s = rule_cut text place file line f m t c is.1 e in
    let k : n ≡ m = cc (sym q ∙ parsed line m r p is.1 s.1) in
    ap (λ x. origin.Rule x m) s.0 ∙ ap (λ x. origin.Rule file x) (sym k)

-- ---- the one that is left

pub other_origin : (text : List ℕ) (x : Origin) → ((o : Origin) → IsOrigin o → origin_text o ≡ text → o ≡ x) → (origin_text x ≡ text → ⊥) → (o : Origin) → IsOrigin o → origin_text o ≡ text → ⊥
other_origin text x only n o is e = n (ap origin_text (sym (only o is e)) ∙ e)

pub unclean_file : (text file : List ℕ) (n : ℕ) → ((o : Origin) → IsOrigin o → origin_text o ≡ text → o ≡ origin.Rule file n) → (IsOrigin (origin.Rule file n) → ⊥) → (o : Origin) → IsOrigin o → origin_text o ≡ text → ⊥
unclean_file text file n only bad o is e = bad (subst IsOrigin (only o is e) is)

pub unread_origin : (text : List ℕ) → (IsUtf8 text → ⊥) → (o : Origin) → IsOrigin o → origin_text o ≡ text → ⊥
unread_origin text n o is e = n (subst IsUtf8 e (origin_utf8 o is))

-- ---- origins with one text

pub one_origin : (o p : Origin) → IsOrigin o → IsOrigin p → origin_text o ≡ origin_text p → o ≡ p
one_origin (origin.Rule f n) (origin.Rule g m) is can e =
    let s = last_colon f g (decimal n) (decimal m) (decimal_no_colon n is.1) (decimal_no_colon m can.1) (same_rule (f ++ 58 ∷ decimal n) (g ++ 58 ∷ decimal m) e) in
    let small : n < 2 ^ 64 = omega (arith, is.1) in
    let other : m < 2 ^ 64 = omega (arith, can.1) in
    ap (λ x. origin.Rule x n) s.0 ∙ ap (λ x. origin.Rule g x) (decimal_injective n m small other s.1)
one_origin (origin.Rule f n) origin.Answer is can e = absurd (not_answer (f ++ (codes ":" ++ decimal n)) (sym e))
one_origin (origin.Rule f n) origin.Unanswered is can e = absurd (not_unanswered (f ++ (codes ":" ++ decimal n)) (sym e))
one_origin origin.Answer (origin.Rule f n) is can e = absurd (not_answer (f ++ (codes ":" ++ decimal n)) e)
one_origin origin.Answer origin.Answer is can e = refl
one_origin origin.Answer origin.Unanswered is can e = absurd (apart 97 117 (inr (omega arith)) (cc e))
one_origin origin.Unanswered (origin.Rule f n) is can e = absurd (not_unanswered (f ++ (codes ":" ++ decimal n)) e)
one_origin origin.Unanswered origin.Answer is can e = absurd (apart 117 97 (inl (omega arith)) (cc e))
one_origin origin.Unanswered origin.Unanswered is can e = refl
