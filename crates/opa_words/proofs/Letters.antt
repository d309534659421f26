-- With which characters the tokens of each kind begin.
use Rattle.std.proofs.Common.{◌≡◌, ℕ, List, [], ◌∷◌, ◌++◌, Bool, true, false, refl, sym, ap, subst, ◌∙◌, arith}
use Rattle.std.specs.Prelude.{◌&&◌, ◌||◌, ◌==◌, not, codes}
use Rattle.std.proofs.Common.{inl, inr}
use Rattle.std.specs.List.{list_all, list_any}
use Rattle.ucd_derived.proofs.Computing.{ucd_derived}
use Rattle.opa_io.proofs.Bools.{and_first, and_second}
use Rattle.opa_words.specs.declared.kinds.TokenKind.{TokenKind}
use Rattle.opa_words.specs.declared.kinds.TokenKind.TheVariants as kind
use Rattle.opa_words.specs.Characters.{begins_word, continues_word, is_digit}
use Rattle.opa_words.specs.Kinds.{IsToken, is_date, is_word, is_symbol, is_single, AreDigits, IsNumber}

-- the first character of a token of the kind
abbrev pub starts : TokenKind → ℕ → Bool
starts kind.Word c = begins_word c
starts kind.Number c = is_digit c
starts kind.Date c = is_digit c
starts kind.Text c = c == 34
starts kind.Symbol c = list_any (λ d. c == d) (codes "()[],:;/+-*=<>")

-- a character of the list is none that passes
pub none_of : (p : ℕ → Bool) (c : ℕ) (ds : List ℕ) → list_all (λ d. not (p d)) ds ≡ true → list_any (λ d. c == d) ds ≡ true → p c ≡ true → ⊥
none_of p c [] a h q = absurd (cc h)
none_of p c (d ∷ ds) a h q = go (c == d) refl (none_of p c ds (and_second (not (p d)) (list_all (λ d. not (p d)) ds) a))
  where
    same : (p d : Bool) → p ≡ true → p ≡ d → not d ≡ true → ⊥
    same true true h e n = absurd (cc n)
    same true false h e n = absurd (cc e)
    same false d h e n = absurd (cc h)

    go : (t : Bool) → (c == d) ≡ t → (list_any (λ d. c == d) ds ≡ true → p c ≡ true → ⊥) → ⊥
    go true e r = same (p c) (p d) q (ap p (grind (arith, e))) (and_first (not (p d)) (list_all (λ d. not (p d)) ds) a)
    go false e r = r (ap (λ t. t || list_any (λ d. c == d) ds) (sym e) ∙ h) q

abbrev digits : List ℕ
digits = codes "0123456789"

digit_in : (c : ℕ) → is_digit c ≡ true → list_any (λ d. c == d) digits ≡ true
digit_in c h = grind (arith, h)

digits_no_letters : list_all (λ d. not (begins_word d)) digits ≡ true
unfolding ucd_derived
digits_no_letters = refl

symbols_no_letters : list_all (λ d. not (begins_word d)) (codes "()[],:;/+-*=<>") ≡ true
unfolding ucd_derived
symbols_no_letters = refl

quote_no_letter : list_all (λ d. not (begins_word d)) (34 ∷ []) ≡ true
unfolding ucd_derived
quote_no_letter = refl

digit_letter : (c : ℕ) → is_digit c ≡ true → begins_word c ≡ true → ⊥
digit_letter c h = none_of begins_word c digits digits_no_letters (digit_in c h)

symbol_letter : (c : ℕ) → starts kind.Symbol c ≡ true → begins_word c ≡ true → ⊥
symbol_letter c h = none_of begins_word c (codes "()[],:;/+-*=<>") symbols_no_letters h

quote_in : (c : ℕ) → (c == 34) ≡ true → list_any (λ d. c == d) (34 ∷ []) ≡ true
quote_in c h = ap (λ t. t || false) h

quote_letter : (c : ℕ) → (c == 34) ≡ true → begins_word c ≡ true → ⊥
quote_letter c h = none_of begins_word c (34 ∷ []) quote_no_letter (quote_in c h)

quote_digit : (c : ℕ) → (c == 34) ≡ true → is_digit c ≡ true → ⊥
quote_digit c h = none_of is_digit c (34 ∷ []) refl (quote_in c h)

symbol_digit : (c : ℕ) → starts kind.Symbol c ≡ true → is_digit c ≡ true → ⊥
symbol_digit c h = none_of is_digit c (codes "()[],:;/+-*=<>") refl h

symbol_quote : (c : ℕ) → starts kind.Symbol c ≡ true → (c == 34) ≡ true → ⊥
symbol_quote c h = none_of (λ d. d == 34) c (codes "()[],:;/+-*=<>") refl h

-- kinds that may begin alike
abbrev pub Peers : TokenKind → TokenKind → Type 0
Peers kind.Word kind.Word = Unit {0}
Peers kind.Number kind.Number = Unit {0}
Peers kind.Number kind.Date = Unit {0}
Peers kind.Date kind.Number = Unit {0}
Peers kind.Date kind.Date = Unit {0}
Peers kind.Text kind.Text = Unit {0}
Peers kind.Symbol kind.Symbol = Unit {0}
Peers k l = ⊥

pub peers : (k l : TokenKind) (c : ℕ) → starts k c ≡ true → starts l c ≡ true → Peers k l
peers kind.Word kind.Word c p q = tt
peers kind.Word kind.Number c p q = digit_letter c q p
peers kind.Word kind.Date c p q = digit_letter c q p
peers kind.Word kind.Text c p q = quote_letter c q p
peers kind.Word kind.Symbol c p q = symbol_letter c q p
peers kind.Number kind.Word c p q = digit_letter c p q
peers kind.Number kind.Number c p q = tt
peers kind.Number kind.Date c p q = tt
peers kind.Number kind.Text c p q = quote_digit c q p
peers kind.Number kind.Symbol c p q = symbol_digit c q p
peers kind.Date kind.Word c p q = digit_letter c p q
peers kind.Date kind.Number c p q = tt
peers kind.Date kind.Date c p q = tt
peers kind.Date kind.Text c p q = quote_digit c q p
peers kind.Date kind.Symbol c p q = symbol_digit c q p
peers kind.Text kind.Word c p q = quote_letter c p q
peers kind.Text kind.Number c p q = quote_digit c p q
peers kind.Text kind.Date c p q = quote_digit c p q
peers kind.Text kind.Text c p q = tt
peers kind.Text kind.Symbol c p q = symbol_quote c q p
peers kind.Symbol kind.Word c p q = symbol_letter c p q
peers kind.Symbol kind.Number c p q = symbol_digit c p q
peers kind.Symbol kind.Date c p q = symbol_digit c p q
peers kind.Symbol kind.Text c p q = symbol_quote c p q
peers kind.Symbol kind.Symbol c p q = tt

abbrev pub Starts : TokenKind → List ℕ → Type 0
Starts k [] = ⊥
Starts k (c ∷ cs) = starts k c ≡ true

-- one more in the list
widened : (c : ℕ) (ds es : List ℕ) → list_any (λ d. c == d) ds ≡ true → list_any (λ d. c == d) (ds ++ es) ≡ true
widened c [] es h = absurd (cc h)
widened c (d ∷ ds) es h = go (c == d) refl (widened c ds es)
  where
    go : (t : Bool) → (c == d) ≡ t → (list_any (λ d. c == d) ds ≡ true → list_any (λ d. c == d) (ds ++ es) ≡ true) → ((c == d) || list_any (λ d. c == d) (ds ++ es)) ≡ true
    go true e r = ap (λ t. t || list_any (λ d. c == d) (ds ++ es)) e
    go false e r = ap (λ t. t || list_any (λ d. c == d) (ds ++ es)) e ∙ r (ap (λ t. t || list_any (λ d. c == d) ds) (sym e) ∙ h)

less_or_more : (c : ℕ) (t : Bool) → (c == 60) ≡ t → (t || (c == 62)) ≡ true → starts kind.Symbol c ≡ true
less_or_more c true e k = subst (λ d. starts kind.Symbol d ≡ true) (let f : 60 ≡ c = grind (arith, e) in f) refl
less_or_more c false e k = subst (λ d. starts kind.Symbol d ≡ true) (let f : 62 ≡ c = grind (arith, k) in f) refl

one_start : (c : ℕ) (t : Bool) → is_single c ≡ t → (t || (c == 60) || (c == 62)) ≡ true → starts kind.Symbol c ≡ true
one_start c true e k = widened c (codes "()[],:;/+-*=") (codes "<>") e
one_start c false e k = less_or_more c (c == 60) refl k

two_start : (c d : ℕ) (t : Bool) → (c == 60) ≡ t → ((t && ((d == 61) || (d == 62))) || ((c == 62) && (d == 61))) ≡ true → starts kind.Symbol c ≡ true
two_start c d true e k = subst (λ x. starts kind.Symbol x ≡ true) (let f : 60 ≡ c = grind (arith, e) in f) refl
two_start c d false e k = subst (λ x. starts kind.Symbol x ≡ true) (let g = and_first (c == 62) (d == 61) k in let f : 62 ≡ c = grind (arith, g) in f) refl

digits_start : (cs back : List ℕ) → AreDigits cs → Starts kind.Number (cs ++ back)
digits_start [] back h = absurd (omega (arith, h.1))
digits_start (c ∷ cs) back h = and_first (is_digit c) (list_all is_digit cs) h.0

digits_first : (cs : List ℕ) → AreDigits cs → Starts kind.Number cs
digits_first [] h = absurd (omega (arith, h.1))
digits_first (c ∷ cs) h = and_first (is_digit c) (list_all is_digit cs) h.0

-- the characters of a date
pub record DateParts (cs : List ℕ) : Type 0 where
  pub a : ℕ
  pub b : ℕ
  pub c : ℕ
  pub d : ℕ
  pub f : ℕ
  pub g : ℕ
  pub i : ℕ
  pub j : ℕ
  pub digits : list_all is_digit (a ∷ b ∷ c ∷ d ∷ f ∷ g ∷ i ∷ j ∷ []) ≡ true
  pub is : cs ≡ a ∷ b ∷ c ∷ d ∷ 45 ∷ f ∷ g ∷ 45 ∷ i ∷ j ∷ []

pub hyphen_is : (e : ℕ) → (e == 45) ≡ true → e ≡ 45
hyphen_is e h = grind (arith, h)

pub date_parts : (cs : List ℕ) → is_date cs ≡ true → DateParts cs
date_parts [] h = absurd (cc h)
date_parts (a ∷ []) h = absurd (cc h)
date_parts (a ∷ b ∷ []) h = absurd (cc h)
date_parts (a ∷ b ∷ c ∷ []) h = absurd (cc h)
date_parts (a ∷ b ∷ c ∷ d ∷ []) h = absurd (cc h)
date_parts (a ∷ b ∷ c ∷ d ∷ e ∷ []) h = absurd (cc h)
date_parts (a ∷ b ∷ c ∷ d ∷ e ∷ f ∷ []) h = absurd (cc h)
date_parts (a ∷ b ∷ c ∷ d ∷ e ∷ f ∷ g ∷ []) h = absurd (cc h)
date_parts (a ∷ b ∷ c ∷ d ∷ e ∷ f ∷ g ∷ k ∷ []) h = absurd (cc h)
date_parts (a ∷ b ∷ c ∷ d ∷ e ∷ f ∷ g ∷ k ∷ i ∷ []) h = absurd (cc h)
date_parts (a ∷ b ∷ c ∷ d ∷ e ∷ f ∷ g ∷ k ∷ i ∷ j ∷ []) h =
    let front : (list_all is_digit (a ∷ b ∷ c ∷ d ∷ f ∷ g ∷ i ∷ j ∷ []) && (e == 45)) ≡ true = and_first (list_all is_digit (a ∷ b ∷ c ∷ d ∷ f ∷ g ∷ i ∷ j ∷ []) && (e == 45)) (k == 45) h in
    let first : e ≡ 45 = hyphen_is e (and_second (list_all is_digit (a ∷ b ∷ c ∷ d ∷ f ∷ g ∷ i ∷ j ∷ [])) (e == 45) front) in
    let second : k ≡ 45 = hyphen_is k (and_second (list_all is_digit (a ∷ b ∷ c ∷ d ∷ f ∷ g ∷ i ∷ j ∷ []) && (e == 45)) (k == 45) h) in
    record {
      a = a;
      b = b;
      c = c;
      d = d;
      f = f;
      g = g;
      i = i;
      j = j;
      digits = and_first (list_all is_digit (a ∷ b ∷ c ∷ d ∷ f ∷ g ∷ i ∷ j ∷ [])) (e == 45) front;
      is = ap (λ x. a ∷ b ∷ c ∷ d ∷ x ∷ f ∷ g ∷ k ∷ i ∷ j ∷ []) first ∙ ap (λ x. a ∷ b ∷ c ∷ d ∷ 45 ∷ f ∷ g ∷ x ∷ i ∷ j ∷ []) second;
    }
date_parts (a ∷ b ∷ c ∷ d ∷ e ∷ f ∷ g ∷ k ∷ i ∷ j ∷ x ∷ cs) h = absurd (cc h)

word_start : (f : List ℕ) → is_word f ≡ true → Starts kind.Word f
word_start [] h = absurd (cc h)
word_start (c ∷ cs) h = and_first (begins_word c) (list_all continues_word cs) h

symbol_start : (f : List ℕ) → is_symbol f ≡ true → Starts kind.Symbol f
symbol_start [] h = absurd (cc h)
symbol_start (c ∷ []) h = one_start c (is_single c) refl h
symbol_start (c ∷ d ∷ []) h = two_start c d (c == 60) refl h
symbol_start (c ∷ d ∷ e ∷ cs) h = absurd (cc h)

number_start : (f : List ℕ) → IsNumber f → Starts kind.Number f
number_start f (inl h) = digits_first f h
number_start f (inr h) = subst (Starts kind.Number) (sym h.5) (digits_start h.0 (46 ∷ h.1) h.2)

date_start : (f : List ℕ) → DateParts f → Starts kind.Date f
date_start f p = subst (Starts kind.Date) (sym p.is) (and_first (is_digit p.a) (list_all is_digit (p.b ∷ p.c ∷ p.d ∷ p.f ∷ p.g ∷ p.i ∷ p.j ∷ [])) p.digits)

-- a token of the kind begins so
pub token_starts : (k : TokenKind) (f : List ℕ) → IsToken k f → Starts k f
token_starts kind.Word f h = word_start f h
token_starts kind.Number f h = number_start f h
token_starts kind.Date f h = date_start f (date_parts f h)
token_starts kind.Text f h = subst (Starts kind.Text) (sym h.2) refl
token_starts kind.Symbol f h = symbol_start f h
