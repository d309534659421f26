-- Texts of tokens, joined by spaces.
use Rattle.std.proofs.Common.{◌≡◌, ◌≤◌, ◌<◌, ◌+◌, ℕ, zero, suc, List, [], ◌∷◌, ◌++◌, length, take, get_or, Bool, true, false, cond, refl, sym, ap, ◌∙◌, arith, append_assoc, append-nil, length-append}
use Rattle.std.specs.Prelude.{◌==◌}
use Rattle.opa_words.specs.declared.kinds.Token.{Token}
use Rattle.opa_words.specs.Places.{token_text}
use Rattle.opa_words.specs.Reserved.{phrase_text}
use Rattle.opa_words.specs.Phrases.{with_word}

-- each token's text after a space
abbrev pub led : List ℕ → List Token → List ℕ
led bytes [] = []
led bytes (t ∷ ts) = 32 ∷ (token_text bytes t ++ led bytes ts)

pub text_led : (bytes : List ℕ) (t : Token) (ts : List Token) → phrase_text bytes (t ∷ ts) ≡ token_text bytes t ++ led bytes ts
text_led bytes t [] = sym (append-nil (token_text bytes t))
text_led bytes t (u ∷ ts) = ap (λ r. token_text bytes t ++ 32 ∷ r) (text_led bytes u ts)

led_push : (bytes : List ℕ) (ts : List Token) (t : Token) → led bytes (ts ++ t ∷ []) ≡ led bytes ts ++ 32 ∷ token_text bytes t
led_push bytes [] t = ap (λ r. 32 ∷ r) (append-nil (token_text bytes t))
led_push bytes (u ∷ ts) t = ap (λ r. 32 ∷ (token_text bytes u ++ r)) (led_push bytes ts t) ∙ ap (λ r. 32 ∷ r) (sym (append_assoc (token_text bytes u) (led bytes ts) (32 ∷ token_text bytes t)))

-- a token more
text_push : (bytes : List ℕ) (u : Token) (ts : List Token) (t : Token) → phrase_text bytes (u ∷ (ts ++ t ∷ [])) ≡ phrase_text bytes (u ∷ ts) ++ 32 ∷ token_text bytes t
text_push bytes u ts t =
    text_led bytes u (ts ++ t ∷ []) ∙ ap (λ r. token_text bytes u ++ r) (led_push bytes ts t) ∙ sym (append_assoc (token_text bytes u) (led bytes ts) (32 ∷ token_text bytes t))
    ∙ ap (λ r. r ++ 32 ∷ token_text bytes t) (sym (text_led bytes u ts))

take_more : (n : ℕ) (ts : List Token) (d : Token) → n < length ts → take (suc n) ts ≡ take n ts ++ get_or ts n d ∷ []
take_more zero [] d h = absurd (omega (arith, h))
take_more zero (u ∷ ts) d h = refl
take_more (suc n) [] d h = absurd (omega (arith, h))
take_more (suc n) (u ∷ ts) d h = ap (λ r. u ∷ r) (take_more n ts d (omega (arith, h)))

not_first : (n : ℕ) → (suc n == 0) ≡ false
not_first n = grind arith

with_more : (bytes : List ℕ) (n : ℕ) (ts : List Token) (d : Token) → n < length ts → with_word (phrase_text bytes (take n ts)) (n == 0) (token_text bytes (get_or ts n d)) ≡ phrase_text bytes (take (suc n) ts)
with_more bytes zero [] d h = absurd (omega (arith, h))
with_more bytes zero (u ∷ ts) d h = refl
with_more bytes (suc n) [] d h = absurd (omega (arith, h))
with_more bytes (suc n) (u ∷ ts) d h =
    ap (λ b. with_word (phrase_text bytes (u ∷ take n ts)) b (token_text bytes (get_or ts n d))) (not_first n)
    ∙ sym (ap (λ r. phrase_text bytes (u ∷ r)) (take_more n ts d (omega (arith, h))) ∙ text_push bytes u (take n ts) (get_or ts n d))

-- the text of a token more
joined_next : (bytes : List ℕ) (n : ℕ) (ts : List Token) (d : Token) → n < length ts → with_word (phrase_text bytes (take n ts)) (n == 0) (token_text bytes (get_or ts n d)) ≡ phrase_text bytes (take (n + 1) ts)
joined_next bytes n ts d h = with_more bytes n ts d h ∙ ap (λ k. phrase_text bytes (take k ts)) (let e : suc n ≡ n + 1 = omega arith in e)

-- the same of what a loop has so far
pub joined_is : (bytes : List ℕ) (n : ℕ) (ts : List Token) (d : Token) (front word : List ℕ) → n < length ts → front ≡ phrase_text bytes (take n ts) → word ≡ token_text bytes (get_or ts n d)
    → with_word front (n == 0) word ≡ phrase_text bytes (take (n + 1) ts)
joined_is bytes n ts d front word l f w = ap (λ x. with_word x (n == 0) word) f ∙ ap (with_word (phrase_text bytes (take n ts)) (n == 0)) w ∙ joined_next bytes n ts d l

-- a space is put before the word, and then the word
pub spaced : (is_first : Bool) (front space word mid all : List ℕ) → space ≡ cond is_first [] (32 ∷ []) → mid ≡ front ++ space → all ≡ mid ++ word → all ≡ with_word front is_first word
spaced true front space word mid all s m a = a ∙ ap (λ x. x ++ word) (m ∙ ap (λ x. front ++ x) s ∙ append-nil front)
spaced false front space word mid all s m a = a ∙ ap (λ x. x ++ word) (m ∙ ap (λ x. front ++ x) s) ∙ append_assoc front (32 ∷ []) word

-- ---- more tokens make no shorter text

led_grows : (bytes : List ℕ) (ts : List Token) (a b : ℕ) → a ≤ b → length (led bytes (take a ts)) ≤ length (led bytes (take b ts))
led_grows bytes [] zero b l = omega arith
led_grows bytes [] (suc a) zero l = omega arith
led_grows bytes [] (suc a) (suc b) l = omega arith
led_grows bytes (t ∷ ts) zero b l = omega arith
led_grows bytes (t ∷ ts) (suc a) zero l = absurd (omega (arith, l))
led_grows bytes (t ∷ ts) (suc a) (suc b) l =
    omega (arith, led_grows bytes ts a b (omega (arith, l)), length-append (token_text bytes t) (led bytes (take a ts)), length-append (token_text bytes t) (led bytes (take b ts)))

pub text_grows : (bytes : List ℕ) (ts : List Token) (a b : ℕ) → a ≤ b → length (phrase_text bytes (take a ts)) ≤ length (phrase_text bytes (take b ts))
text_grows bytes [] zero b l = omega arith
text_grows bytes [] (suc a) zero l = omega arith
text_grows bytes [] (suc a) (suc b) l = omega arith
text_grows bytes (t ∷ ts) zero b l = omega arith
text_grows bytes (t ∷ ts) (suc a) zero l = absurd (omega (arith, l))
text_grows bytes (t ∷ ts) (suc a) (suc b) l =
    omega (arith, led_grows bytes ts a b (omega (arith, l)), ap length (text_led bytes t (take a ts)), ap length (text_led bytes t (take b ts)), length-append (token_text bytes t) (led bytes (take a ts)), length-append (token_text bytes t) (led bytes (take b ts)))
