-- The last word of a line, and what stands before it.
use Rattle.std.proofs.Common.{◌≡◌, ℕ, zero, suc, Option, ◌+◌, List, [], ◌∷◌, ◌++◌, length, take, map, Bool, true, false, if◌then◌else◌, refl, sym, ap, ◌∙◌, ◌≤◌, length-append, arith}
use Rattle.std.proofs.lemmas.List.{map-append, append-nil}
use Rattle.std.proofs.Math.Seq.{take-append_seam}
use Rattle.opa_words.specs.declared.kinds.Token.{Token}
use Rattle.opa_words.specs.Places.{token_text}
use Rattle.opa_words.specs.Reserved.{is_ending}
use Rattle.opa_sentence.specs.Lexemes.{Lexeme, lexeme, lexemes}
use Rattle.opa_sentence.specs.Phrases.{is_wordlike, past_words}
use Rattle.opa_parse.specs.Lines.{ending_word, ending_of, body}
use Rattle.opa_model.specs.declared.ids.AttrId.{AttrId}
use Rattle.opa_model.specs.declared.lists.Lists.{Lists}
use Rattle.opa_parse.specs.declared.block.Opening.TheVariants as opens
use Rattle.opa_parse.specs.Openings.{begins_with_word, front_words, concluded, by_equals, opening_at, opening}

pub ending_at : (ts : List Lexeme) (t : Lexeme) → ending_of (ts ++ t ∷ []) ≡ ending_word t.text
ending_at [] t = refl
ending_at (u ∷ []) t = refl
ending_at (u ∷ v ∷ ts) t = ending_at (v ∷ ts) t

body_at : (ts : List Lexeme) (t : Lexeme) → body (ts ++ t ∷ []) ≡ ts ++ (if is_ending t.text then [] else t ∷ [])
body_at [] t = refl
body_at (u ∷ []) t = refl
body_at (u ∷ v ∷ ts) t = ap (λ x. u ∷ x) (body_at (v ∷ ts) t)

pub lexemes_last : (text : List ℕ) (ts : List Token) (t : Token) → lexemes text (ts ++ t ∷ []) ≡ lexemes text ts ++ lexeme text t ∷ []
lexemes_last text ts t = map-append (lexeme text) ts (t ∷ [])

pub ending_last : (text : List ℕ) (ts : List Token) (t : Token) → ending_of (lexemes text (ts ++ t ∷ [])) ≡ ending_word (token_text text t)
ending_last text ts t = ap ending_of (lexemes_last text ts t) ∙ ending_at (lexemes text ts) (lexeme text t)

body_last : (text : List ℕ) (ts : List Token) (t : Token) → body (lexemes text (ts ++ t ∷ [])) ≡ lexemes text ts ++ (if is_ending (token_text text t) then [] else lexeme text t ∷ [])
body_last text ts t = ap body (lexemes_last text ts t) ∙ body_at (lexemes text ts) (lexeme text t)

pub body_ending : (text : List ℕ) (all ts : List Token) (t : Token) → all ≡ ts ++ t ∷ [] → is_ending (token_text text t) ≡ true → body (lexemes text all) ≡ lexemes text ts
body_ending text all ts t p q = ap (λ x. body (lexemes text x)) p ∙ body_last text ts t ∙ ap (λ b. lexemes text ts ++ (if b then [] else lexeme text t ∷ [])) q ∙ append-nil (lexemes text ts)

pub body_plain : (text : List ℕ) (all ts : List Token) (t : Token) → all ≡ ts ++ t ∷ [] → is_ending (token_text text t) ≡ false → body (lexemes text all) ≡ lexemes text all
body_plain text all ts t p q =
    ap (λ x. body (lexemes text x)) p ∙ body_last text ts t ∙ ap (λ b. lexemes text ts ++ (if b then [] else lexeme text t ∷ [])) q
    ∙ sym (lexemes_last text ts t) ∙ sym (ap (lexemes text) p)

pub ruleset bodies = (body_ending, body_plain)

-- ---- the words at the front

front_at : (t : Lexeme) (ts : List Lexeme) (b : Bool) → front_words ts ++ past_words ts ≡ ts → (if b then t ∷ front_words ts else []) ++ (if b then past_words ts else t ∷ ts) ≡ t ∷ ts
front_at t ts true e = ap (λ x. t ∷ x) e
front_at t ts false e = refl

pub front_and_past : (ts : List Lexeme) → front_words ts ++ past_words ts ≡ ts
front_and_past [] = refl
front_and_past (t ∷ ts) = front_at t ts (is_wordlike t.class) (front_and_past ts)

front_take : (fs ps ts : List Lexeme) (n : ℕ) → fs ++ ps ≡ ts → n + length ps ≡ length ts → take n ts ≡ fs
front_take fs ps ts n p q =
    let e : n ≡ length fs = omega (arith, q, ap length p, length-append fs ps) in
    ap (λ k. take k ts) e ∙ ap (take (length fs)) (sym p) ∙ take-append_seam fs ps

lexemes_length : (text : List ℕ) (ts : List Token) → length (lexemes text ts) ≡ length ts
lexemes_length text [] = refl
lexemes_length text (t ∷ ts) = omega (arith, lexemes_length text ts)

pub front_first : (text other : List ℕ) (ts rs : List Token) (n : ℕ) → lexemes other rs ≡ past_words (lexemes text ts) → n + length rs ≡ length ts → take n (lexemes text ts) ≡ front_words (lexemes text ts)
front_first text other ts rs n p q =
    front_take (front_words (lexemes text ts)) (past_words (lexemes text ts)) (lexemes text ts) n (front_and_past (lexemes text ts))
    (omega (arith, q, ap length p, lexemes_length text ts, lexemes_length other rs))

pub past_fewer : (text other : List ℕ) (ts rs : List Token) → lexemes other rs ≡ past_words (lexemes text ts) → length rs ≤ length ts
past_fewer text other ts rs p =
    omega (arith, ap length p, ap length (front_and_past (lexemes text ts)), length-append (front_words (lexemes text ts)) (past_words (lexemes text ts)), lexemes_length text ts, lexemes_length other rs)

pub texts_are : (text : List ℕ) (ts : List Token) → map (λ t. t.text) (lexemes text ts) ≡ map (token_text text) ts
texts_are text [] = refl
texts_are text (t ∷ ts) = ap (λ x. token_text text t ∷ x) (texts_are text ts)

-- ---- the front of the words

pub lexemes_take : (text : List ℕ) (n : ℕ) (ts : List Token) → lexemes text (take n ts) ≡ take n (lexemes text ts)
lexemes_take text zero ts = refl
lexemes_take text (suc n) [] = refl
lexemes_take text (suc n) (t ∷ ts) = ap (λ x. lexeme text t ∷ x) (lexemes_take text n ts)

-- ---- how a rule begins

pub opening_by : (m : Lists) (ts : List Lexeme) (t : Lexeme) (rest : List Lexeme) (attr : Option AttrId) → begins_with_word ts ≡ true → past_words ts ≡ t ∷ rest → attr ≡ concluded m (front_words ts) → by_equals attr t.class rest ≡ opening m ts
opening_by m ts t rest attr p q r =
    ap (λ a. by_equals a t.class rest) r ∙ sym (ap (opening_at m ts) q) ∙ sym (ap (λ b. if b then opening_at m ts (past_words ts) else opens.Nothing) p)
