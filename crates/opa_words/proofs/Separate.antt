-- A character that parts tokens stands in no token but a text between quotes.
use Rattle.std.proofs.Common.{◌≡◌, ℕ, List, [], ◌∷◌, ◌++◌, Bool, true, refl, sym, subst, arith}
use Rattle.std.specs.Prelude.{◌||◌, ◌==◌, not, codes}
use Rattle.std.proofs.Common.{inl, inr}
use Rattle.std.specs.List.{list_all}
use Rattle.std.proofs.lemmas.Bool.{and_from, or_left}
use Rattle.ucd_derived.proofs.Computing.{ucd_derived}
use Rattle.ucd_category.proofs.Computing.{ucd_category}
use Rattle.opa_io.proofs.Bools.{and_first, and_second}
use Rattle.opa_words.specs.declared.kinds.TokenKind.{TokenKind}
use Rattle.opa_words.specs.declared.kinds.TokenKind.TheVariants as kind
use Rattle.opa_words.specs.Characters.{begins_word, continues_word, is_digit}
use Rattle.opa_words.specs.Kinds.{IsToken, is_word, is_symbol, IsNumber}
use Rattle.opa_words.proofs.Letters.{date_parts, DateParts, none_of}
use Rattle.opa_words.specs.Written.{parts}

abbrev pub partings : List ℕ
partings = 32 ∷ codes ";,():"

partings_no_letters : list_all (λ d. not (continues_word d)) partings ≡ true
unfolding ucd_derived ucd_category
partings_no_letters = refl

-- digits and points
abbrev pub numeric : ℕ → Bool
numeric c = is_digit c || (c == 46)

-- digits and hyphens
abbrev pub dated : ℕ → Bool
dated c = is_digit c || (c == 45)

abbrev compares : ℕ → Bool
compares c = (c == 61) || (c == 62)

pub all_wider : (p q : ℕ → Bool) (cs : List ℕ) → ((c : ℕ) → p c ≡ true → q c ≡ true) → list_all p cs ≡ true → list_all q cs ≡ true
all_wider p q [] f h = refl
all_wider p q (c ∷ cs) f h = and_from (q c) (list_all q cs) (f c (and_first (p c) (list_all p cs) h)) (all_wider p q cs f (and_second (p c) (list_all p cs) h))

pub all_append : (p : ℕ → Bool) (cs ds : List ℕ) → list_all p cs ≡ true → list_all p ds ≡ true → list_all p (cs ++ ds) ≡ true
all_append p [] ds h k = k
all_append p (c ∷ cs) ds h k = and_from (p c) (list_all p (cs ++ ds)) (and_first (p c) (list_all p cs) h) (all_append p cs ds (and_second (p c) (list_all p cs) h) k)

-- what passes everywhere passes in the middle
middle : (p : ℕ → Bool) (front : List ℕ) (c : ℕ) (back : List ℕ) → list_all p (front ++ c ∷ back) ≡ true → p c ≡ true
middle p [] c back h = and_first (p c) (list_all p back) h
middle p (d ∷ front) c back h = middle p front c back (and_second (p d) (list_all p (front ++ c ∷ back)) h)

front_all : (p : ℕ → Bool) (cs ds : List ℕ) → list_all p (cs ++ ds) ≡ true → list_all p cs ≡ true
front_all p [] ds h = refl
front_all p (c ∷ cs) ds h = and_from (p c) (list_all p cs) (and_first (p c) (list_all p (cs ++ ds)) h) (front_all p cs ds (and_second (p c) (list_all p (cs ++ ds)) h))

back_all : (p : ℕ → Bool) (cs ds : List ℕ) → list_all p (cs ++ ds) ≡ true → list_all p ds ≡ true
back_all p [] ds h = h
back_all p (c ∷ cs) ds h = back_all p cs ds (and_second (p c) (list_all p (cs ++ ds)) h)

pub digits_numeric : (cs : List ℕ) → list_all is_digit cs ≡ true → list_all numeric cs ≡ true
digits_numeric cs h = all_wider is_digit numeric cs (λ c k. or_left (is_digit c) (c == 46) k) h

pub number_numeric : (f : List ℕ) → IsNumber f → list_all numeric f ≡ true
number_numeric f (inl h) = digits_numeric f h.0
number_numeric f (inr h) = subst (λ x. list_all numeric x ≡ true) (sym h.5) (all_append numeric h.0 (46 ∷ h.1) (digits_numeric h.0 h.2.0) (digits_numeric h.1 h.3.0))

digit_dated : (c : ℕ) → is_digit c ≡ true → dated c ≡ true
digit_dated c k = or_left (is_digit c) (c == 45) k

pub date_dated : (f : List ℕ) → DateParts f → list_all dated f ≡ true
date_dated f p =
    let all = all_wider is_digit dated (p.a ∷ p.b ∷ p.c ∷ p.d ∷ p.f ∷ p.g ∷ p.i ∷ p.j ∷ []) digit_dated p.digits in
    let year = all_wider is_digit dated (p.a ∷ p.b ∷ p.c ∷ p.d ∷ []) digit_dated (front4 p.a p.b p.c p.d (p.f ∷ p.g ∷ p.i ∷ p.j ∷ []) p.digits) in
    let later = all_wider is_digit dated (p.f ∷ p.g ∷ p.i ∷ p.j ∷ []) digit_dated (back4 p.a p.b p.c p.d (p.f ∷ p.g ∷ p.i ∷ p.j ∷ []) p.digits) in
    let month = front2 p.f p.g (p.i ∷ p.j ∷ []) later in
    let day = back2 p.f p.g (p.i ∷ p.j ∷ []) later in
    subst (λ x. list_all dated x ≡ true) (sym p.is) (all_append dated (p.a ∷ p.b ∷ p.c ∷ p.d ∷ []) (45 ∷ p.f ∷ p.g ∷ 45 ∷ p.i ∷ p.j ∷ []) year (all_append dated (p.f ∷ p.g ∷ []) (45 ∷ p.i ∷ p.j ∷ []) month day))
  where
    front4 : (a b c d : ℕ) (cs : List ℕ) → list_all is_digit (a ∷ b ∷ c ∷ d ∷ cs) ≡ true → list_all is_digit (a ∷ b ∷ c ∷ d ∷ []) ≡ true
    front4 a b c d cs h = front_all is_digit (a ∷ b ∷ c ∷ d ∷ []) cs h

    back4 : (a b c d : ℕ) (cs : List ℕ) → list_all is_digit (a ∷ b ∷ c ∷ d ∷ cs) ≡ true → list_all is_digit cs ≡ true
    back4 a b c d cs h = back_all is_digit (a ∷ b ∷ c ∷ d ∷ []) cs h

    front2 : (a b : ℕ) (cs : List ℕ) → list_all dated (a ∷ b ∷ cs) ≡ true → list_all dated (a ∷ b ∷ []) ≡ true
    front2 a b cs h = front_all dated (a ∷ b ∷ []) cs h

    back2 : (a b : ℕ) (cs : List ℕ) → list_all dated (a ∷ b ∷ cs) ≡ true → list_all dated cs ≡ true
    back2 a b cs h = back_all dated (a ∷ b ∷ []) cs h

word_letters : (f : List ℕ) → is_word f ≡ true → list_all continues_word f ≡ true
word_letters [] h = absurd (cc h)
word_letters (c ∷ cs) h = and_from (continues_word c) (list_all continues_word cs) (first c (and_first (begins_word c) (list_all continues_word cs) h)) (and_second (begins_word c) (list_all continues_word cs) h)
  where
    first : (c : ℕ) → begins_word c ≡ true → continues_word c ≡ true
    first c h = grind (arith, h)

-- a symbol is one character, or ends with one that compares
symbol_parts : (c d : ℕ) → is_symbol (c ∷ d ∷ []) ≡ true → compares d ≡ true
symbol_parts c d h = grind (arith, h)

-- in a token that is no text, no character after the first parts
abbrev pub NoText : TokenKind → Type 0
NoText kind.Text = ⊥
NoText k = Unit {0}

pub parts_none : (k : TokenKind) (b : ℕ) (front : List ℕ) (c : ℕ) (back : List ℕ) → NoText k → IsToken k (b ∷ (front ++ c ∷ back)) → parts c ≡ true → ⊥
parts_none kind.Word b front c back n t p = none_of continues_word c partings partings_no_letters p (middle continues_word (b ∷ front) c back (word_letters (b ∷ (front ++ c ∷ back)) t))
parts_none kind.Number b front c back n t p = none_of numeric c partings refl p (middle numeric (b ∷ front) c back (number_numeric (b ∷ (front ++ c ∷ back)) t))
parts_none kind.Date b front c back n t p = none_of dated c partings refl p (middle dated (b ∷ front) c back (date_dated (b ∷ (front ++ c ∷ back)) (date_parts (b ∷ (front ++ c ∷ back)) t)))
parts_none kind.Text b front c back n t p = n
parts_none kind.Symbol b [] c [] n t p = none_of compares c partings refl p (symbol_parts b c t)
parts_none kind.Symbol b [] c (d ∷ back) n t p = absurd (cc t)
parts_none kind.Symbol b (d ∷ []) c back n t p = absurd (cc t)
parts_none kind.Symbol b (d ∷ e ∷ front) c back n t p = absurd (cc t)
