-- The strings among the tokens of a text are texts.
use Rattle.std.proofs.Common.{◌≡◌, ℕ, zero, suc, ◌+◌, ◌*◌, ◌<◌, List, [], ◌∷◌, ◌++◌, Bool, true, false, cond, ◌&&◌, ◌||◌, Option, None, Some, refl, sym, subst, append_assoc, append-nil, arith}
use Rattle.std.specs.Prelude.{◌==◌, nat_lt, slice_index, option_map, option_and_then}
use Rattle.std.specs.Char.{IsScalar, is_digit, digit_value, encode_utf8}
use Rattle.std.specs.Str.{IsUtf8}
use Rattle.std.proofs.lemmas.Str.{IsUtf8-append, IsUtf8-encode, IsUtf8-from_ascii}
use Rattle.json.specs.Text.{code_unit, short_escape, is_high_surrogate, is_low_surrogate, surrogate_pair, prepend, content, plain, after_backslash, after_u, after_high}
use Rattle.json.specs.Token.{Token, begin_object, end_object, begin_array, end_array, key, string, number, boolean, null, bad}
use Rattle.json.specs.Lex.{Lexeme, token, comma, colon, Class, quote, backslash, operator, space, other, class, Mode, between, in_word, in_string, in_escape, lex, lex_byte, operator_lexeme, string_token, Place, fresh, after_value, after_comma, after_key, begins_colon, if_allowed, place_token, may_begin, may_close, punctuate, tokens}
use Rattle.json.specs.Word.{word, head, ends_word, is_operator, is_space, number_before, after_number}
use Rattle.json.specs.Ascii as ascii
use Rattle.opa_laws.proofs.verified.Seams.{before, behind}

-- there is nothing, or it has this
abbrev pub Of : {A : Type 0} → (A → Type 0) → Option A → Type 0
Of P None = Unit {0}
Of P (Some x) = P x

pub of_then : {A B : Type 0} (P : A → Type 0) (Q : B → Type 0) (f : A → Option B) → ((x : A) → P x → Of Q (f x)) → (o : Option A) → Of P o → Of Q (option_and_then f o)
of_then P Q f h None k = tt
of_then P Q f h (Some x) k = h x k

pub of_map : {A B : Type 0} (P : A → Type 0) (Q : B → Type 0) (f : A → B) → ((x : A) → P x → Q (f x)) → (o : Option A) → Of P o → Of Q (option_map f o)
of_map P Q f h None k = tt
of_map P Q f h (Some x) k = h x k

-- ---- escapes

hex_small : (c : ℕ) → is_digit c 16 ≡ true → (c < 128) × (digit_value c < 16)
hex_small c h = (grind (arith, h), grind (arith, h))

-- four hex digits
record IsUnit (a b c d u : ℕ) : Type 0 where
  pub first : a < 128
  pub second : b < 128
  pub third : c < 128
  pub fourth : d < 128
  pub small : u < 65536

unit_is : (a b c d : ℕ) → Of (IsUnit a b c d) (code_unit a b c d)
unfolding code_unit
unit_is a b c d = go (is_digit a 16) (is_digit b 16) (is_digit c 16) (is_digit d 16) refl refl refl refl
  where
    go : (p q r s : Bool) → is_digit a 16 ≡ p → is_digit b 16 ≡ q → is_digit c 16 ≡ r → is_digit d 16 ≡ s → Of (IsUnit a b c d) (cond (p && q && r && s) (Some (digit_value a * 4096 + digit_value b * 256 + digit_value c * 16 + digit_value d)) None)
    go false q r s h i j k = tt
    go true false r s h i j k = tt
    go true true false s h i j k = tt
    go true true true false h i j k = tt
    go true true true true h i j k =
        let x = hex_small a h in let y = hex_small b i in let z = hex_small c j in let w = hex_small d k in
        record { first = x.0; second = y.0; third = z.0; fourth = w.0; small = omega (arith, x.1, y.1, z.1, w.1) }

is_scalar : (u : ℕ) → u < 65536 → is_high_surrogate u ≡ false → is_low_surrogate u ≡ false → IsScalar u
is_scalar u h i j = grind (arith, h, i, j)

is_pair : (h l : ℕ) → is_high_surrogate h ≡ true → is_low_surrogate l ≡ true → IsScalar (surrogate_pair h l)
is_pair h l i j = grind (arith, i, j)

-- ---- what stands between quotes

pub of_weaker : {A : Type 0} (P Q : A → Type 0) → ((x : A) → P x → Q x) → (o : Option A) → Of P o → Of Q o
of_weaker P Q f None h = tt
of_weaker P Q f (Some x) h = f x h

-- a short escape, and what it stands for, are ASCII
abbrev Short : ℕ → ℕ → Type 0
Short x c = (c < 128) × (x < 128)

short_or : (x : ℕ) (t : Bool) (c : ℕ) (o : Option ℕ) → (t ≡ true → Short x c) → Of (Short x) o → Of (Short x) (cond t (Some c) o)
short_or x true c o h k = h refl
short_or x false c o h k = k

short_is : (x : ℕ) → Of (Short x) (short_escape x)
unfolding short_escape
short_is x =
    short_or x ((x == 34) || (x == 92) || (x == 47)) x _ (λ h. let small : x < 128 = grind (arith, h) in (small, small))
    (short_or x (x == 98) 8 _ (λ h. (grind arith, grind (arith, h))) (short_or x (x == 102) 12 _ (λ h. (grind arith, grind (arith, h)))
    (short_or x (x == 110) 10 _ (λ h. (grind arith, grind (arith, h))) (short_or x (x == 114) 13 _ (λ h. (grind arith, grind (arith, h)))
    (short_or x (x == 116) 9 None (λ h. (grind arith, grind (arith, h))) tt)))))

ascii_text : (c : ℕ) → c < 128 → IsUtf8 (c ∷ [])
ascii_text c h = IsUtf8-from_ascii (c ∷ []) at
  where
    at : (i : ℕ) → slice_index (c ∷ []) i < 128
    at zero = h
    at (suc i) = omega arith

prefixed : (front : List ℕ) → IsUtf8 front → (o : Option (List ℕ)) → Of IsUtf8 o → Of IsUtf8 (prepend front o)
prefixed front u o h = of_map IsUtf8 IsUtf8 (λ s. front ++ s) (λ s k. IsUtf8-append front s u k) o h

pub is_number : (x n : ℕ) → (x == n) ≡ true → n < 128 → x < 128
is_number x n h l = grind (arith, h, l)

behind_four : (a b c d u : ℕ) (xs : List ℕ) → IsUnit a b c d u → IsUtf8 (a ∷ b ∷ c ∷ d ∷ xs) → IsUtf8 xs
behind_four a b c d u xs is h =
    behind [] d xs is.fourth (behind [] c (d ∷ xs) is.third (behind [] b (c ∷ d ∷ xs) is.second (behind [] a (b ∷ c ∷ d ∷ xs) is.first h)))

-- what follows is a text wherever characters that are being read go on with it
abbrev GoesOn : List ℕ → Type 0
GoesOn xs = (run : List ℕ) → IsUtf8 (run ++ xs) → Of (λ s. IsUtf8 (run ++ s)) (content plain xs)

plain_step : (x : ℕ) (xs run : List ℕ) → IsUtf8 (run ++ x ∷ xs) → GoesOn xs → (IsUtf8 xs → Of IsUtf8 (content after_backslash xs))
    → Of (λ s. IsUtf8 (run ++ s)) (cond (x == 34) (Some []) (cond (x == 92) (content after_backslash xs) (cond (nat_lt x 32) None (prepend (x ∷ []) (content plain xs)))))
plain_step x xs run u on escape = go (x == 34) refl (x == 92) refl (nat_lt x 32)
  where
    go : (a : Bool) → (x == 34) ≡ a → (b : Bool) → (x == 92) ≡ b → (c : Bool) → Of (λ s. IsUtf8 (run ++ s)) (cond a (Some []) (cond b (content after_backslash xs) (cond c None (prepend (x ∷ []) (content plain xs)))))
    go true p b q c = subst IsUtf8 (sym (append-nil run)) (before run x xs (is_number x 34 p (grind arith)) u)
    go false p true q c =
        let small = is_number x 92 q (grind arith) in
        of_weaker IsUtf8 (λ s. IsUtf8 (run ++ s)) (λ s h. IsUtf8-append run s (before run x xs small u) h) (content after_backslash xs) (escape (behind run x xs small u))
    go false p false q true = tt
    go false p false q false =
        of_map (λ s. IsUtf8 ((run ++ x ∷ []) ++ s)) (λ s. IsUtf8 (run ++ s)) (λ s. x ∷ s) (λ s h. subst IsUtf8 (append_assoc run (x ∷ []) s) h) (content plain xs)
        (on (run ++ x ∷ []) (subst IsUtf8 (sym (append_assoc run (x ∷ []) xs)) u))

mutual
  unfolding content

  plain_texts : (xs : List ℕ) → GoesOn xs
  plain_texts [] = λ run u. tt
  plain_texts (x ∷ xs) = λ run u. plain_step x xs run u (plain_texts xs) (λ h. escape_texts xs h)

  escape_texts : (xs : List ℕ) → IsUtf8 xs → Of IsUtf8 (content after_backslash xs)
  escape_texts [] u = tt
  escape_texts (x ∷ xs) u = go (x == 117) refl (λ h. unit_texts xs h) (plain_texts xs)
    where
      go : (t : Bool) → (x == 117) ≡ t → (IsUtf8 xs → Of IsUtf8 (content after_u xs)) → GoesOn xs
          → Of IsUtf8 (cond t (content after_u xs) (option_and_then (λ c. prepend (c ∷ []) (content plain xs)) (short_escape x)))
      go true p units on = units (behind [] x xs (is_number x 117 p (grind arith)) u)
      go false p units on = of_then (Short x) IsUtf8 (λ c. prepend (c ∷ []) (content plain xs)) (λ c h. prefixed (c ∷ []) (ascii_text c h.0) (content plain xs) (on [] (behind [] x xs h.1 u))) (short_escape x) (short_is x)

  unit_texts : (xs : List ℕ) → IsUtf8 xs → Of IsUtf8 (content after_u xs)
  unit_texts [] u = tt
  unit_texts (a ∷ []) u = tt
  unit_texts (a ∷ b ∷ []) u = tt
  unit_texts (a ∷ b ∷ c ∷ []) u = tt
  unit_texts (a ∷ b ∷ c ∷ d ∷ xs) u =
      let on = plain_texts xs in
      let pair = λ (h : ℕ) (is : is_high_surrogate h ≡ true) (k : IsUtf8 xs). pair_texts h is xs k in
      of_then (IsUnit a b c d) IsUtf8 _ (λ n k. at n k (is_high_surrogate n) refl (is_low_surrogate n) refl on pair) (code_unit a b c d) (unit_is a b c d)
    where
      at : (n : ℕ) → IsUnit a b c d n → (p : Bool) → is_high_surrogate n ≡ p → (q : Bool) → is_low_surrogate n ≡ q → GoesOn xs → ((h : ℕ) → is_high_surrogate h ≡ true → IsUtf8 xs → Of IsUtf8 (content (after_high h) xs))
          → Of IsUtf8 (cond p (content (after_high n) xs) (cond q None (prepend (encode_utf8 n) (content plain xs))))
      at n k true i q j on pair = pair n i (behind_four a b c d n xs k u)
      at n k false i true j on pair = tt
      at n k false i false j on pair = prefixed (encode_utf8 n) (IsUtf8-encode n (is_scalar n k.small i j)) (content plain xs) (on [] (behind_four a b c d n xs k u))

  pair_texts : (h : ℕ) → is_high_surrogate h ≡ true → (xs : List ℕ) → IsUtf8 xs → Of IsUtf8 (content (after_high h) xs)
  pair_texts h is [] u = tt
  pair_texts h is (s ∷ []) u = tt
  pair_texts h is (s ∷ v ∷ []) u = tt
  pair_texts h is (s ∷ v ∷ a ∷ []) u = tt
  pair_texts h is (s ∷ v ∷ a ∷ b ∷ []) u = tt
  pair_texts h is (s ∷ v ∷ a ∷ b ∷ c ∷ []) u = tt
  pair_texts h is (s ∷ v ∷ a ∷ b ∷ c ∷ d ∷ xs) u = go (s == 92) refl (v == 117) refl (plain_texts xs)
    where
      at : (n : ℕ) → IsUnit a b c d n → IsUtf8 (a ∷ b ∷ c ∷ d ∷ xs) → (q : Bool) → is_low_surrogate n ≡ q → GoesOn xs → Of IsUtf8 (cond q (prepend (encode_utf8 (surrogate_pair h n)) (content plain xs)) None)
      at n k t true j on = prefixed (encode_utf8 (surrogate_pair h n)) (IsUtf8-encode (surrogate_pair h n) (is_pair h n is j)) (content plain xs) (on [] (behind_four a b c d n xs k t))
      at n k t false j on = tt

      go : (p : Bool) → (s == 92) ≡ p → (q : Bool) → (v == 117) ≡ q → GoesOn xs
          → Of IsUtf8 (cond (p && q) (option_and_then (λ l. cond (is_low_surrogate l) (prepend (encode_utf8 (surrogate_pair h l)) (content plain xs)) None) (code_unit a b c d)) None)
      go false i q j on = tt
      go true i false j on = tt
      go true i true j on =
          let t = behind [] v (a ∷ b ∷ c ∷ d ∷ xs) (is_number v 117 j (grind arith)) (behind [] s (v ∷ a ∷ b ∷ c ∷ d ∷ xs) (is_number s 92 i (grind arith)) u) in
          of_then (IsUnit a b c d) IsUtf8 _ (λ n k. at n k t (is_low_surrogate n) refl on) (code_unit a b c d) (unit_is a b c d)

-- ---- tokens

abbrev pub TokenIsText : Token → Type 0
TokenIsText begin_object = Unit {0}
TokenIsText end_object = Unit {0}
TokenIsText begin_array = Unit {0}
TokenIsText end_array = Unit {0}
TokenIsText (key s) = Unit {0}
TokenIsText (string s) = IsUtf8 s
TokenIsText (number s) = Unit {0}
TokenIsText (boolean b) = Unit {0}
TokenIsText null = Unit {0}
TokenIsText bad = Unit {0}

abbrev pub TokensAreTexts : List Token → Type 0
TokensAreTexts [] = Unit {0}
TokensAreTexts (t ∷ ts) = TokenIsText t × TokensAreTexts ts

abbrev LexemeIsText : Lexeme → Type 0
LexemeIsText (token t) = TokenIsText t
LexemeIsText comma = Unit {0}
LexemeIsText colon = Unit {0}

abbrev LexemesAreTexts : List Lexeme → Type 0
LexemesAreTexts [] = Unit {0}
LexemesAreTexts (l ∷ ls) = LexemeIsText l × LexemesAreTexts ls

either_token : (t : Bool) (a b : Token) → TokenIsText a → TokenIsText b → TokenIsText (cond t a b)
either_token true a b h k = h
either_token false a b h k = k

either_lexeme : (t : Bool) (a b : Lexeme) → LexemeIsText a → LexemeIsText b → LexemeIsText (cond t a b)
either_lexeme true a b h k = h
either_lexeme false a b h k = k

number_text : (t : List ℕ) (o : Option (List ℕ)) → TokenIsText (number_before t o)
number_text t None = tt
number_text t (Some rest) = either_token (ends_word rest) (number _) bad tt tt

word_text : (t : List ℕ) → TokenIsText (word t)
unfolding word
word_text t =
    either_token (head t == ascii.lower_t) _ _ (either_token _ (boolean true) bad tt tt)
    (either_token (head t == ascii.lower_f) _ _ (either_token _ (boolean false) bad tt tt) (either_token (head t == ascii.lower_n) _ _ (either_token _ null bad tt tt) (number_text t (after_number t))))

operator_text : (x : ℕ) → LexemeIsText (operator_lexeme x)
operator_text x =
    either_lexeme (x == ascii.open_brace) (token begin_object) _ tt
    (either_lexeme (x == ascii.close_brace) (token end_object) _ tt
    (either_lexeme (x == ascii.open_bracket) (token begin_array) _ tt (either_lexeme (x == ascii.close_bracket) (token end_array) _ tt (either_lexeme (x == ascii.comma) comma colon tt tt))))

string_text : (o : Option (List ℕ)) → Of IsUtf8 o → TokenIsText (string_token o)
string_text None h = tt
string_text (Some s) h = h

quote_is : (x : ℕ) → class x ≡ quote → x < 128
quote_is x h = go (x == 34) refl (x == 92) (is_operator x) (is_space x) h
  where
    go : (a : Bool) → (x == 34) ≡ a → (b c d : Bool) → cond a quote (cond b backslash (cond c operator (cond d space other))) ≡ quote → x < 128
    go true p b c d h = is_number x 34 p (grind arith)
    go false p true c d h = absurd (cc h)
    go false p false true d h = absurd (cc h)
    go false p false false true h = absurd (cc h)
    go false p false false false h = absurd (cc h)

byte_texts : (m : Mode) (c : Class) (x : ℕ) (xs : List ℕ) (k : Mode → List Lexeme) → (c ≡ quote → Of IsUtf8 (content plain xs)) → ((next : Mode) → LexemesAreTexts (k next)) → LexemesAreTexts (lex_byte m c x xs k)
byte_texts between quote x xs k h r = (string_text (content plain xs) (h refl), r in_string)
byte_texts between backslash x xs k h r = (tt, r in_word)
byte_texts between operator x xs k h r = (operator_text x, r between)
byte_texts between space x xs k h r = r between
byte_texts between other x xs k h r = (word_text (x ∷ xs), r in_word)
byte_texts in_word quote x xs k h r = r in_word
byte_texts in_word backslash x xs k h r = r in_word
byte_texts in_word operator x xs k h r = (operator_text x, r between)
byte_texts in_word space x xs k h r = r between
byte_texts in_word other x xs k h r = r in_word
byte_texts in_string quote x xs k h r = r between
byte_texts in_string backslash x xs k h r = r in_escape
byte_texts in_string operator x xs k h r = r in_string
byte_texts in_string space x xs k h r = r in_string
byte_texts in_string other x xs k h r = r in_string
byte_texts in_escape c x xs k h r = r in_string

lex_texts : (m : Mode) (xs run : List ℕ) → IsUtf8 (run ++ xs) → LexemesAreTexts (lex m xs)
unfolding lex
lex_texts m [] run u = tt
lex_texts m (x ∷ xs) run u =
    byte_texts m (class x) x xs (λ next. lex next xs) (λ h. plain_texts xs [] (behind run x xs (quote_is x h) u)) (λ next. lex_texts next xs (run ++ x ∷ []) (subst IsUtf8 (sym (append_assoc run (x ∷ []) xs)) u))

allowed_texts : (t : Bool) (a : Token) (k : Place → List Token) (next : Place) → TokenIsText a → ((p : Place) → TokensAreTexts (k p)) → TokensAreTexts (if_allowed t a k next)
allowed_texts true a k next h r = (h, r next)
allowed_texts false a k next h r = (tt, tt)

placed_texts : (p : Place) (t : Token) (b : Bool) (k : Place → List Token) → TokenIsText t → ((p : Place) → TokensAreTexts (k p)) → TokensAreTexts (place_token p t b k)
placed_texts p begin_object b k h r = allowed_texts (may_begin p) begin_object k fresh tt r
placed_texts p end_object b k h r = allowed_texts (may_close p) end_object k after_value tt r
placed_texts p begin_array b k h r = allowed_texts (may_begin p) begin_array k fresh tt r
placed_texts p end_array b k h r = allowed_texts (may_close p) end_array k after_value tt r
placed_texts p (key s) b k h r = (tt, tt)
placed_texts p (string s) true k h r = allowed_texts (may_begin p) (key s) k after_key tt r
placed_texts p (string s) false k h r = allowed_texts (may_begin p) (string s) k after_value h r
placed_texts p (number s) b k h r = allowed_texts (may_begin p) (number s) k after_value tt r
placed_texts p (boolean c) b k h r = allowed_texts (may_begin p) (boolean c) k after_value tt r
placed_texts p null b k h r = allowed_texts (may_begin p) null k after_value tt r
placed_texts p bad b k h r = (tt, tt)

punctuated_texts : (p : Place) (ls : List Lexeme) → LexemesAreTexts ls → TokensAreTexts (punctuate p ls)
unfolding punctuate
punctuated_texts fresh [] h = tt
punctuated_texts after_value [] h = tt
punctuated_texts after_comma [] h = (tt, tt)
punctuated_texts after_key [] h = (tt, tt)
punctuated_texts fresh (token t ∷ ls) h = placed_texts fresh t (begins_colon ls) (λ next. punctuate next ls) h.0 (λ next. punctuated_texts next ls h.1)
punctuated_texts after_value (token t ∷ ls) h = placed_texts after_value t (begins_colon ls) (λ next. punctuate next ls) h.0 (λ next. punctuated_texts next ls h.1)
punctuated_texts after_comma (token t ∷ ls) h = placed_texts after_comma t (begins_colon ls) (λ next. punctuate next ls) h.0 (λ next. punctuated_texts next ls h.1)
punctuated_texts after_key (token t ∷ ls) h = placed_texts after_key t (begins_colon ls) (λ next. punctuate next ls) h.0 (λ next. punctuated_texts next ls h.1)
punctuated_texts fresh (comma ∷ ls) h = (tt, tt)
punctuated_texts after_value (comma ∷ ls) h = punctuated_texts after_comma ls h.1
punctuated_texts after_comma (comma ∷ ls) h = (tt, tt)
punctuated_texts after_key (comma ∷ ls) h = (tt, tt)
punctuated_texts fresh (colon ∷ ls) h = (tt, tt)
punctuated_texts after_value (colon ∷ ls) h = (tt, tt)
punctuated_texts after_comma (colon ∷ ls) h = (tt, tt)
punctuated_texts after_key (colon ∷ ls) h = punctuated_texts fresh ls h.1

pub tokens_are_texts : (bytes : List ℕ) → IsUtf8 bytes → TokensAreTexts (tokens bytes)
tokens_are_texts bytes u = punctuated_texts fresh (lex between bytes) (lex_texts between bytes [] u)
