-- Lines of ASCII are cut by computing.
use Rattle.std.proofs.Common.{◌≡◌, ◌∙◌, ℕ, zero, suc, ◌-◌, List, [], ◌∷◌, length, Bool, true, false, cond, refl, sym, ap, ap₂, subst}
use Rattle.std.specs.Prelude.{Option, Some, None, is_some, ◌||◌, ◌==◌}
use Rattle.std.specs.Char.{is_ascii_alphabetic, is_ascii_digit}
use Rattle.std.specs.List.{list_all}
use Rattle.std.specs.Option.{option_map, option_or, option_and_then}
use Rattle.std.specs.Str.{chars}
use Rattle.opa_io.proofs.Bools.{and_first, and_second}
use Rattle.opa_words.specs.declared.kinds.Token.{Token}
use Rattle.opa_words.specs.declared.kinds.TokenKind.{TokenKind}
use Rattle.opa_words.specs.declared.kinds.TokenKind.TheVariants as kind
use Rattle.opa_words.specs.Characters.{begins_word, continues_word, is_blank, width}
use Rattle.opa_words.specs.Cuts as c
use Rattle.opa_words.specs.Cuts.{Cuts}
use Rattle.opa_words.specs.Scan.{past, one, date, number, word, text, symbol, kinded, token}
use Rattle.opa_words.proofs.Ascii.{is_ascii, ascii_chars}
use Rattle.opa_words.proofs.AsciiLetters.{ascii_letter, ascii_no_mark}
use Rattle.opa_words.proofs.Longest.{token_longest}

-- ---- characters

abbrev pub begins : ℕ → Bool
begins x = is_ascii_alphabetic x || (x == 95)

abbrev pub continues : ℕ → Bool
continues x = begins x || is_ascii_digit x || false || (x == 39) || (x == 0x2019) || (x == 45)

begins_alike : (x : ℕ) → is_ascii x ≡ true → begins x ≡ begins_word x
begins_alike x h = ap (λ t. t || (x == 95)) (ascii_letter x h)

pub continues_alike : (x : ℕ) → is_ascii x ≡ true → continues x ≡ continues_word x
continues_alike x h = ap₂ (λ a m. a || is_ascii_digit x || m || (x == 39) || (x == 0x2019) || (x == 45)) (begins_alike x h) (ascii_no_mark x h)

past_alike : (xs : List ℕ) → list_all is_ascii xs ≡ true → past continues xs ≡ past continues_word xs
past_alike [] h = refl
past_alike (x ∷ xs) h =
    ap₂ (λ t rest. cond t rest (x ∷ xs)) (continues_alike x (and_first (is_ascii x) (list_all is_ascii xs) h)) (past_alike xs (and_second (is_ascii x) (list_all is_ascii xs) h))

-- ---- tokens

abbrev plain_word : List ℕ → Option (List ℕ)
plain_word xs = option_map (past continues) (one begins xs)

mapped : (t : Bool) (f : List ℕ → List ℕ) (xs : List ℕ) → option_map f (cond t (Some xs) None) ≡ cond t (Some (f xs)) None
mapped true f xs = refl
mapped false f xs = refl

word_alike : (xs : List ℕ) → list_all is_ascii xs ≡ true → plain_word xs ≡ word xs
word_alike [] h = refl
word_alike (x ∷ xs) h =
    mapped (begins x) (past continues) xs
    ∙ ap₂ (λ t rest. cond t (Some rest) None) (begins_alike x (and_first (is_ascii x) (list_all is_ascii xs) h)) (past_alike xs (and_second (is_ascii x) (list_all is_ascii xs) h))
    ∙ sym (mapped (begins_word x) (past continues_word) xs)

abbrev with_word : List ℕ → Option (List ℕ) → Option (TokenKind × List ℕ)
with_word xs w = option_or (kinded kind.Date (date xs)) (option_or (kinded kind.Number (number xs)) (option_or (kinded kind.Word w) (option_or (kinded kind.Text (text xs)) (kinded kind.Symbol (symbol xs)))))

-- the longest token at the front of ASCII
abbrev pub plain_token : List ℕ → Option (TokenKind × List ℕ)
plain_token xs = cond (list_all is_ascii xs) (with_word xs (plain_word xs)) None

token_alike : (xs : List ℕ) (x : TokenKind × List ℕ) → plain_token xs ≡ Some x → token xs ≡ Some x
token_alike xs x h = go (list_all is_ascii xs) refl h
  where
    go : (t : Bool) → list_all is_ascii xs ≡ t → cond t (with_word xs (plain_word xs)) None ≡ Some x → token xs ≡ Some x
    go true e k = ap (with_word xs) (sym (word_alike xs e)) ∙ k
    go false e k = absurd (cc k)

-- ---- lines

abbrev pub token_from : ℕ → List ℕ → TokenKind × List ℕ → Token
token_from total xs x = record { kind = x.0; start = total - width xs; end = total - width x.1 }

-- the tokens of what is left of a line, in at most so many steps
abbrev pub cuts : ℕ → ℕ → List ℕ → Option (List Token)
cuts zero total xs = None
cuts (suc n) total [] = Some []
cuts (suc n) total (x ∷ xs) =
    cond (is_blank x) (cuts n total xs) (option_and_then (λ y. option_map (λ ts. token_from total (x ∷ xs) y ∷ ts) (cuts n total y.1)) (plain_token (x ∷ xs)))

-- what is cut in fewer steps
abbrev Fewer : ℕ → ℕ → Type 0
Fewer n total = (xs : List ℕ) (ts : List Token) → cuts n total xs ≡ Some ts → Cuts total xs ts

after_token : (n total x : ℕ) (xs : List ℕ) (ts : List Token) → Fewer n total → (y : TokenKind × List ℕ) → is_blank x ≡ false → token (x ∷ xs) ≡ Some y
    → (o : Option (List Token)) → cuts n total y.1 ≡ o → option_map (λ us. token_from total (x ∷ xs) y ∷ us) o ≡ Some ts → Cuts total (x ∷ xs) ts
after_token n total x xs ts fewer y e f None g k = absurd (cc k)
after_token n total x xs ts fewer y e f (Some us) g k =
    let same : token_from total (x ∷ xs) y ∷ us ≡ ts = cc k in
    subst (Cuts total (x ∷ xs)) same (c.Cuts.cut y.0 y.1 e (token_longest (x ∷ xs) y.0 y.1 f) (fewer y.1 us g))

at_first : (n total x : ℕ) (xs : List ℕ) (ts : List Token) → Fewer n total → (t : Bool) → is_blank x ≡ t → (o : Option (TokenKind × List ℕ)) → plain_token (x ∷ xs) ≡ o
    → cond t (cuts n total xs) (option_and_then (λ y. option_map (λ us. token_from total (x ∷ xs) y ∷ us) (cuts n total y.1)) o) ≡ Some ts → Cuts total (x ∷ xs) ts
at_first n total x xs ts fewer true e o f k = c.Cuts.blank e (fewer xs ts k)
at_first n total x xs ts fewer false e None f k = absurd (cc k)
at_first n total x xs ts fewer false e (Some y) f k = after_token n total x xs ts fewer y e (token_alike (x ∷ xs) y f) (cuts n total y.1) refl k

cuts_hold : (n total : ℕ) → Fewer n total
cuts_hold zero total xs ts h = absurd (cc h)
cuts_hold (suc n) total [] ts h = let same : [] ≡ ts = cc h in subst (Cuts total []) same c.Cuts.ends
cuts_hold (suc n) total (x ∷ xs) ts h = at_first n total x xs ts (cuts_hold n total) (is_blank x) refl (plain_token (x ∷ xs)) refl h

abbrev pub line_cuts : List ℕ → Option (List Token)
line_cuts bytes = cuts 100 (length bytes) bytes

abbrev pub listed : Option (List Token) → List Token
listed None = []
listed (Some ts) = ts

-- the tokens of a line
abbrev pub tokens : List ℕ → List Token
tokens bytes = listed (line_cuts bytes)

abbrev pub IsLine : List ℕ → Type 0
IsLine bytes = (list_all is_ascii bytes ≡ true) × (is_some (line_cuts bytes) ≡ true)

pub line_is_cut : (bytes : List ℕ) → IsLine bytes → Cuts (length bytes) (chars bytes) (tokens bytes)
line_is_cut bytes h = subst (λ xs. Cuts (length bytes) xs (tokens bytes)) (sym (ascii_chars bytes h.0)) (cuts_hold 100 (length bytes) bytes (tokens bytes) (found (line_cuts bytes) h.1))
  where
    found : (o : Option (List Token)) → is_some o ≡ true → o ≡ Some (listed o)
    found None k = absurd (cc k)
    found (Some ts) k = refl
