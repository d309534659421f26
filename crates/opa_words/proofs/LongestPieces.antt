-- Which token is the longest, by what follows it.
use Rattle.std.proofs.Common.{◌≡◌, ◌≤◌, ◌<◌, ℕ, List, [], ◌∷◌, ◌++◌, length, Bool, true, false, refl, sym, ap, subst, ◌∙◌, arith}
use Rattle.std.specs.Prelude.{◌||◌, ◌==◌, nat_le}
use Rattle.opa_io.proofs.Bools.{never_both}
use Rattle.opa_words.specs.declared.kinds.TokenKind.{TokenKind}
use Rattle.opa_words.specs.declared.kinds.TokenKind.TheVariants as kind
use Rattle.opa_words.specs.Kinds.{IsToken, IsLongest, is_single, is_symbol}
use Rattle.opa_words.proofs.Letters.{starts, token_starts, Peers, peers}
use Rattle.opa_words.specs.Written.{parts}
use Rattle.opa_words.proofs.QuotedTexts.{text_goes_on}
use Rattle.opa_words.proofs.Separate.{parts_none}

-- what is written after a token that is read on into nothing
abbrev pub Ends : List ℕ → Type 0
Ends [] = Unit {0}
Ends (c ∷ cs) = parts c ≡ true

-- a front that is longer than p goes on with what follows p
pub record Longer (p f rest : List ℕ) : Type 0 where
  pub first : ℕ
  pub later : List ℕ
  pub is : f ≡ p ++ first ∷ later
  pub back : List ℕ
  pub from : rest ≡ first ∷ back

longer : (p f rest r : List ℕ) → f ++ r ≡ p ++ rest → length p < length f → Longer p f rest
longer [] [] rest r e h = absurd (omega (arith, h))
longer [] (c ∷ f) rest r e h = record { first = c; later = f; is = refl; back = f ++ r; from = sym e }
longer (b ∷ p) [] rest r e h = absurd (omega (arith, h))
longer (b ∷ p) (c ∷ f) rest r e h =
    let x = longer p f rest r (let k : f ++ r ≡ p ++ rest = cc e in k) (omega (arith, h)) in
    record { first = x.first; later = x.later; is = (let k : c ≡ b = cc e in ap (λ y. y ∷ f) k) ∙ ap (λ y. b ∷ y) x.is; back = x.back; from = x.from }

-- no token goes on over the end of another
abbrev Kinds : TokenKind → TokenKind → Type 0
Kinds kind.Text kind.Text = Unit {0}
Kinds k kind.Text = ⊥
Kinds k l = Unit {0}

peers_kinds : (k l : TokenKind) → Peers k l → Kinds k l
peers_kinds kind.Word kind.Word p = tt
peers_kinds kind.Number kind.Number p = tt
peers_kinds kind.Number kind.Date p = tt
peers_kinds kind.Date kind.Number p = tt
peers_kinds kind.Date kind.Date p = tt
peers_kinds kind.Text kind.Text p = tt
peers_kinds kind.Symbol kind.Symbol p = tt
peers_kinds kind.Word kind.Number p = absurd p
peers_kinds kind.Word kind.Date p = absurd p
peers_kinds kind.Word kind.Text p = absurd p
peers_kinds kind.Word kind.Symbol p = absurd p
peers_kinds kind.Number kind.Word p = absurd p
peers_kinds kind.Number kind.Text p = absurd p
peers_kinds kind.Number kind.Symbol p = absurd p
peers_kinds kind.Date kind.Word p = absurd p
peers_kinds kind.Date kind.Text p = absurd p
peers_kinds kind.Date kind.Symbol p = absurd p
peers_kinds kind.Text kind.Word p = absurd p
peers_kinds kind.Text kind.Number p = absurd p
peers_kinds kind.Text kind.Date p = absurd p
peers_kinds kind.Text kind.Symbol p = absurd p
peers_kinds kind.Symbol kind.Word p = absurd p
peers_kinds kind.Symbol kind.Number p = absurd p
peers_kinds kind.Symbol kind.Date p = absurd p
peers_kinds kind.Symbol kind.Text p = absurd p

alike : (k l : TokenKind) (b c : ℕ) → b ≡ c → starts k b ≡ true → starts l c ≡ true → Kinds k l
alike k l b c e s t = peers_kinds k l (peers k l b s (subst (λ x. starts l x ≡ true) (sym e) t))

no_longer : (k l : TokenKind) (b c : ℕ) (p g : List ℕ) → Kinds k l → IsToken k (b ∷ p) → IsToken l (b ∷ (p ++ c ∷ g)) → parts c ≡ true → ⊥
no_longer kind.Text kind.Text b c p g a s t h = never_both (parts c) h (ap parts (text_goes_on (b ∷ p) (b ∷ (p ++ c ∷ g)) c g s t refl))
no_longer kind.Word kind.Text b c p g a s t h = a
no_longer kind.Number kind.Text b c p g a s t h = a
no_longer kind.Date kind.Text b c p g a s t h = a
no_longer kind.Symbol kind.Text b c p g a s t h = a
no_longer k kind.Word b c p g a s t h = parts_none kind.Word b p c g tt t h
no_longer k kind.Number b c p g a s t h = parts_none kind.Number b p c g tt t h
no_longer k kind.Date b c p g a s t h = parts_none kind.Date b p c g tt t h
no_longer k kind.Symbol b c p g a s t h = parts_none kind.Symbol b p c g tt t h

parted : (rest : List ℕ) (c : ℕ) (back : List ℕ) → Ends rest → rest ≡ c ∷ back → parts c ≡ true
parted [] c back h e = absurd (cc e)
parted (d ∷ rest) c back h e = subst (λ x. parts x ≡ true) (let k : d ≡ c = cc e in k) h

-- the token goes no further
ends_here : (k l : TokenKind) (p f rest : List ℕ) → IsToken k p → Ends rest → IsToken l f → Longer p f rest → ⊥
ends_here k l [] f rest s h t x = token_starts k [] s
ends_here k l (b ∷ p) [] rest s h t x = token_starts l [] t
ends_here k l (b ∷ p) (c ∷ f) rest s h t x =
    let same : c ∷ f ≡ b ∷ (p ++ x.first ∷ x.later) = x.is in
    let first : b ≡ c = cc same in
    no_longer k l b x.first p x.later (alike k l b c first (token_starts k (b ∷ p) s) (token_starts l (c ∷ f) t)) s (subst (IsToken l) same t) (parted rest x.first x.back h x.from)

not_above : (m n : ℕ) → (n < m → ⊥) → m ≤ n
not_above m n h = go (nat_le m n) refl
  where
    go : (t : Bool) → nat_le m n ≡ t → m ≤ n
    go true e = grind (arith, e)
    go false e = absurd (h (grind (arith, e)))

-- a token is the longest one before what parts it
pub longest_before : (k : TokenKind) (p rest : List ℕ) → IsToken k p → Ends rest → IsLongest (p ++ rest) k rest
longest_before k p rest s h = record {
  front = p;
  split = refl;
  token = s;
  longest = λ l f r e t. not_above (length f) (length p) (λ n. ends_here k l p f rest s h t (longer p f rest r e n));
}

-- ---- symbols that begin no longer one

single_first : (b c : ℕ) → is_single b ≡ true → is_symbol (b ∷ c ∷ []) ≡ true → ⊥
single_first b c h t = two b c (first b c t) h
  where
    first : (b c : ℕ) → is_symbol (b ∷ c ∷ []) ≡ true → ((b == 60) || (b == 62)) ≡ true
    first b c t = grind (arith, t)

    two : (b c : ℕ) → ((b == 60) || (b == 62)) ≡ true → is_single b ≡ true → ⊥
    two b c e h = grind (arith, e, h)

only_symbol : (l : TokenKind) → Peers kind.Symbol l → l ≡ kind.Symbol
only_symbol kind.Symbol p = refl
only_symbol kind.Word p = absurd p
only_symbol kind.Number p = absurd p
only_symbol kind.Date p = absurd p
only_symbol kind.Text p = absurd p

single_short : (b : ℕ) (f : List ℕ) → is_single b ≡ true → is_symbol (b ∷ f) ≡ true → length f ≤ 0
single_short b [] h t = omega arith
single_short b (c ∷ []) h t = absurd (single_first b c h t)
single_short b (c ∷ d ∷ f) h t = absurd (cc t)

pub longest_single : (b : ℕ) (rest : List ℕ) → is_single b ≡ true → IsToken kind.Symbol (b ∷ []) → IsLongest (b ∷ rest) kind.Symbol rest
longest_single b rest h s = record {
  front = b ∷ [];
  split = refl;
  token = s;
  longest = λ l f r e t. short l f r e t;
}
  where
    short : (l : TokenKind) (f r : List ℕ) → f ++ r ≡ b ∷ rest → IsToken l f → length f ≤ length (b ∷ [])
    short l [] r e t = omega arith
    short l (c ∷ f) r e t =
        let same : c ≡ b = cc e in
        let kinds = only_symbol l (peers kind.Symbol l b (token_starts kind.Symbol (b ∷ []) s) (subst (λ x. starts l x ≡ true) same (token_starts l (c ∷ f) t))) in
        let n = single_short b f h (subst (λ x. is_symbol (x ∷ f) ≡ true) same (subst (λ k. IsToken k (c ∷ f)) kinds t)) in
        omega (arith, n)
