-- The texts of literals, phrases and parts.
use Rattle.std.proofs.Common.{◌≡◌, ℕ, ℤ, pos, negsuc, suc, List, [], ◌∷◌, ◌++◌, length, take, get_or, map, Bool, true, false, cond, refl, sym, ap, ◌∙◌, arith, append_assoc, append-nil}
use Rattle.std.specs.Prelude.{codes, ◌==◌, ◌&&◌, ◌<◌, ◌+◌}
use Rattle.std.specs.Char.{is_ascii_digit}
use Rattle.std.proofs.lemmas.List.{take_more}
use Rattle.opa_value.specs.declared.value.Value.{Value}
use Rattle.opa_value.specs.declared.value.Value.TheVariants as value
use Rattle.opa_value.specs.NumberText.{plain_text, number_text}
use Rattle.opa_words.specs.Pieces.{Piece, word, number, symbol}
use Rattle.opa_words.specs.Written.{Written, gap, text_of, joined}
use Rattle.opa_wording.specs.declared.joint.Joint.{Joint}
use Rattle.opa_wording.specs.Wordings.{Wording, token, bracketed, part, together, literal, phrase, phrase_word, words_from}
use Rattle.opa_wording.specs.Lines.{literal_text}

pub text_append : (ws vs : List Written) → text_of (ws ++ vs) ≡ text_of ws ++ text_of vs
text_append [] vs = refl
text_append (w ∷ ws) vs =
    ap (λ t. gap w.spaced ++ (w.piece.text ++ t)) (text_append ws vs) ∙ ap (λ t. gap w.spaced ++ t) (sym (append_assoc w.piece.text (text_of ws) (text_of vs)))
    ∙ sym (append_assoc (gap w.spaced) (w.piece.text ++ text_of ws) (text_of vs))

pub one_text : (s : Bool) (p : Piece) → text_of (token s p ∷ []) ≡ gap s ++ p.text
one_text s p = ap (λ t. gap s ++ t) (append-nil p.text)

number_says : (n : ℤ) (s : Bool) → text_of (literal s (value.Num n)) ≡ gap s ++ plain_text n
unfolding plain_text number_text
number_says (pos n) s = ap (λ t. gap s ++ t) (append-nil (plain_text (pos n)))
number_says (negsuc n) s = ap (λ t. gap s ++ (45 ∷ t)) (append-nil (plain_text (pos (suc n))))

pub literal_says : (s : Bool) (v : Value) → text_of (literal s v) ≡ gap s ++ literal_text v
literal_says s value.Unknown = refl
literal_says s value.Uncertain = refl
literal_says s (value.Bool true) = refl
literal_says s (value.Bool false) = refl
literal_says s (value.Num n) = number_says n s
literal_says s (value.Words t) = ap (λ u. gap s ++ u) (append-nil (literal_text (value.Words t)))
literal_says s (value.Day d) = ap (λ u. gap s ++ u) (append-nil (literal_text (value.Day d)))

word_text : (w : List ℕ) → (phrase_word w).text ≡ w
word_text [] = refl
word_text (c ∷ cs) = go (is_ascii_digit c)
  where
    go : (b : Bool) → (cond b (number (c ∷ cs)) (word (c ∷ cs))).text ≡ c ∷ cs
    go true = refl
    go false = refl

words_say : (s : Bool) (w cs : List ℕ) → text_of (words_from s w cs) ≡ gap s ++ (w ++ cs)
words_say s w [] = ap (λ t. gap s ++ (t ++ [])) (word_text w)
words_say s w (c ∷ cs) = go (c == 32) refl (words_say true [] cs) (words_say s (w ++ c ∷ []) cs)
  where
    go : (b : Bool) → (c == 32) ≡ b → text_of (words_from true [] cs) ≡ gap true ++ ([] ++ cs) → text_of (words_from s (w ++ c ∷ []) cs) ≡ gap s ++ ((w ++ c ∷ []) ++ cs)
        → text_of (cond b (token s (phrase_word w) ∷ words_from true [] cs) (words_from s (w ++ c ∷ []) cs)) ≡ gap s ++ (w ++ c ∷ cs)
    go true e h i = let same : c ≡ 32 = grind (arith, e) in ap (λ t. gap s ++ (t ++ text_of (words_from true [] cs))) (word_text w) ∙ ap (λ t. gap s ++ (w ++ t)) h ∙ ap (λ d. gap s ++ (w ++ d ∷ cs)) (sym same)
    go false e h i = i ∙ ap (λ t. gap s ++ t) (append_assoc w (c ∷ []) cs)

pub phrase_says : (s : Bool) (t : List ℕ) → text_of (phrase s t) ≡ gap s ++ t
phrase_says s t = words_say s [] t

pub brackets_say : (s : Bool) (ws : List Written) → text_of (bracketed s ws) ≡ gap s ++ (40 ∷ (text_of ws ++ 41 ∷ []))
brackets_say s ws = ap (λ t. gap s ++ (40 ∷ t)) (text_append ws (joined (symbol (codes ")")) ∷ []))

-- ---- one part more

abbrev pub is_nil : {A : Type 0} → List A → Bool
is_nil [] = true
is_nil (x ∷ xs) = false

together_last : (j : Joint) (s b : Bool) (ws : List Wording) (w : Wording) → text_of (together j s b (ws ++ w ∷ [])) ≡ text_of (together j s b ws) ++ text_of (part j s (b && is_nil ws) w)
together_last j s b [] w = text_append (part j s b w) [] ∙ append-nil (text_of (part j s b w)) ∙ ap (λ c. text_of (part j s c w)) (and_true b)
  where
    and_true : (b : Bool) → b ≡ (b && true)
    and_true true = refl
    and_true false = refl
together_last j s b (v ∷ ws) w =
    text_append (part j s b v) (together j s false (ws ++ w ∷ []))
    ∙ ap (λ t. text_of (part j s b v) ++ t) (together_last j s false ws w)
    ∙ sym (append_assoc (text_of (part j s b v)) (text_of (together j s false ws)) (text_of (part j s false w)))
    ∙ ap (λ t. t ++ text_of (part j s false w)) (sym (text_append (part j s b v) (together j s false ws)))
    ∙ ap (λ c. text_of (together j s b (v ∷ ws)) ++ text_of (part j s c w)) (and_false b)
  where
    and_false : (b : Bool) → false ≡ (b && false)
    and_false true = refl
    and_false false = refl

pub ruleset leaves = (literal_says, phrase_says)

-- ---- one step after another

pub then_ended : (before one two three : List ℕ) (s : Bool) (ws : List Written) → one ≡ before ++ (gap s ++ (40 ∷ [])) → two ≡ one ++ text_of ws → three ≡ two ++ 41 ∷ [] → three ≡ before ++ text_of (bracketed s ws)
then_ended before one two three s ws a b c =
    c ∙ ap (λ t. t ++ 41 ∷ []) (b ∙ ap (λ t. t ++ text_of ws) a ∙ append_assoc before (gap s ++ (40 ∷ [])) (text_of ws) ∙ ap (λ t. before ++ t) (append_assoc (gap s) (40 ∷ []) (text_of ws)))
    ∙ append_assoc before (gap s ++ (40 ∷ text_of ws)) (41 ∷ []) ∙ ap (λ t. before ++ t) (append_assoc (gap s) (40 ∷ text_of ws) (41 ∷ []) ∙ sym (brackets_say s ws))

pub then_more : (before one two : List ℕ) (s : Bool) (p : Piece) (ws : List Written) → one ≡ before ++ (gap s ++ p.text) → two ≡ one ++ text_of ws → two ≡ before ++ text_of (token s p ∷ ws)
then_more before one two s p ws a b = b ∙ ap (λ t. t ++ text_of ws) a ∙ append_assoc before (gap s ++ p.text) (text_of ws) ∙ ap (λ t. before ++ t) (append_assoc (gap s) p.text (text_of ws))

pub then_joined : (before one two : List ℕ) (ws vs : List Written) → one ≡ before ++ text_of ws → two ≡ one ++ text_of vs → two ≡ before ++ text_of (ws ++ vs)
then_joined before one two ws vs a b = b ∙ ap (λ t. t ++ text_of vs) a ∙ append_assoc before (text_of ws) (text_of vs) ∙ ap (λ t. before ++ t) (sym (text_append ws vs))

pub ruleset steps = (then_ended, then_more, then_joined)

map_last : {A B : Type 0} (f : A → B) (ys : List A) (x : A) → map f (ys ++ x ∷ []) ≡ map f ys ++ f x ∷ []
map_last f [] x = refl
map_last f (y ∷ ys) x = ap (λ zs. f y ∷ zs) (map_last f ys x)

mapped_more : {A B : Type 0} (f : A → B) (xs : List A) (i : ℕ) (x : A) → i < length xs → x ≡ get_or xs i x → map f (take (i + 1) xs) ≡ map f (take i xs) ++ f x ∷ []
mapped_more f xs i x within is = ap (map f) (take_more xs i x within) ∙ map_last f (take i xs) (get_or xs i x) ∙ ap (λ y. map f (take i xs) ++ f y ∷ []) (sym is)

some_last : {A : Type 0} (ys : List A) (x : A) → is_nil (ys ++ x ∷ []) ≡ false
some_last [] x = refl
some_last (y ∷ ys) x = refl

pub one_part_more : {A : Type 0} (f : A → Wording) (j : Joint) (s b : Bool) (xs : List A) (i : ℕ) (x : A) (start old new : List ℕ) (first : Bool) → i < length xs → x ≡ get_or xs i x → old ≡ start ++ text_of (together j s b (map f (take i xs)))
    → first ≡ (b && is_nil (map f (take i xs))) → new ≡ old ++ text_of (part j s first (f x)) → new ≡ start ++ text_of (together j s b (map f (take (i + 1) xs)))
one_part_more f j s b xs i x start old new first within is before which after =
    after ∙ ap (λ t. t ++ text_of (part j s first (f x))) before ∙ append_assoc start (text_of (together j s b (map f (take i xs)))) (text_of (part j s first (f x)))
    ∙ ap (λ c. start ++ (text_of (together j s b (map f (take i xs))) ++ text_of (part j s c (f x)))) which
    ∙ ap (λ t. start ++ t) (sym (together_last j s b (map f (take i xs)) (f x)) ∙ ap (λ ws. text_of (together j s b ws)) (sym (mapped_more f xs i x within is)))

pub not_first_after : {A : Type 0} (f : A → Wording) (b : Bool) (xs : List A) (i : ℕ) (x : A) → i < length xs → x ≡ get_or xs i x → false ≡ (b && is_nil (map f (take (i + 1) xs)))
not_first_after f b xs i x within is = sym (ap (λ c. b && c) (ap is_nil (mapped_more f xs i x within is) ∙ some_last (map f (take i xs)) (f x)) ∙ none b)
  where
    none : (b : Bool) → (b && false) ≡ false
    none true = refl
    none false = refl
