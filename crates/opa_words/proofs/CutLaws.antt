-- Cutting goes on from what was cut.
use Rattle.std.proofs.Common.{◌≡◌, ℕ, ◌+◌, ◌-◌, List, [], ◌∷◌, ◌++◌, length, refl, sym, ap, subst, ◌∙◌, append_assoc, append-nil, arith, true, false}
use Rattle.std.specs.Prelude.{Some, None}
use Rattle.std.specs.Str.{chars, IsUtf8}
use lib.Utf8.{encodes, encode}
use Rattle.std.proofs.Common.{length-append}
use Rattle.std.proofs.lemmas.Str.{encodes-chars}
use Rattle.std.proofs.lemmas.Str.{length-encode}
use Rattle.opa_words.specs.declared.kinds.TokenKind.{TokenKind}
use Rattle.opa_words.specs.declared.kinds.Token.{Token}
use Rattle.opa_words.specs.Characters.{width, is_blank}
use Rattle.opa_words.specs.Scan.{token}
use Rattle.opa_words.proofs.Longest.{token_longest, token_none}
use Rattle.opa_words.specs.Cuts as c
use Rattle.opa_words.specs.Cuts.{Cuts, Stuck}

module _ (total : ℕ) where
  -- what the loop keeps: whatever the rest is cut into completes the tokens, and the rest is stuck where all is
  pub record Keeps (all : List ℕ) (ts : List Token) (rest : List ℕ) : Type 0 where
    pub cut : (us : List Token) → Cuts total rest us → Cuts total all (ts ++ us)
    pub stuck : (p : ℕ) → Stuck total rest p → Stuck total all p

  pub keeps_start : (all : List ℕ) → Keeps all [] all
  keeps_start all = record { cut = λ us h. h; stuck = λ p h. h }

  pub keeps_blank : (all : List ℕ) (ts : List Token) (x : ℕ) (xs : List ℕ) → is_blank x ≡ true → Keeps all ts (x ∷ xs) → Keeps all ts xs
  keeps_blank all ts x xs b k = record { cut = λ us h. k.cut us (c.Cuts.blank b h); stuck = λ p h. k.stuck p (c.Stuck.blank b h) }

  pub keeps_cut : (all : List ℕ) (ts : List Token) (x : ℕ) (xs : List ℕ) (kind : TokenKind) (rest : List ℕ) (p q : ℕ) → is_blank x ≡ false → token (x ∷ xs) ≡ Some (kind, rest)
      → p + width (x ∷ xs) ≡ total → q + width rest ≡ total → Keeps all ts (x ∷ xs) → Keeps all (ts ++ record { kind = kind; start = p; end = q } ∷ []) rest
  keeps_cut all ts x xs kind rest p q b is from to k =
      let p_is : total - width (x ∷ xs) ≡ p = omega (arith, from) in
      let q_is : total - width rest ≡ q = omega (arith, to) in
      let next : (us : List Token) → Cuts total rest us → Cuts total (x ∷ xs) (record { kind = kind; start = p; end = q } ∷ us) =
      λ us h. subst (λ u. Cuts total (x ∷ xs) (record { kind = kind; start = p; end = u } ∷ us)) q_is (subst (λ u. Cuts total (x ∷ xs) (record { kind = kind; start = u; end = total - width rest } ∷ us)) p_is (c.Cuts.cut kind rest b (token_longest (x ∷ xs) kind rest is) h)) in
      record {
        cut = λ us h. subst (Cuts total all) (sym (append_assoc ts (record { kind = kind; start = p; end = q } ∷ []) us)) (k.cut (record { kind = kind; start = p; end = q } ∷ us) (next us h));
        stuck = λ r h. k.stuck r (c.Stuck.cut kind rest b (token_longest (x ∷ xs) kind rest is) h);
      }

module _ (total : ℕ) where
  pub ends : (all : List ℕ) (ts : List Token) → Keeps total all ts [] → Cuts total all ts
  ends all ts k = subst (Cuts total all) (append-nil ts) (k.cut [] c.Cuts.ends)

  pub fault : (all : List ℕ) (ts : List Token) (x : ℕ) (xs : List ℕ) (p : ℕ) → is_blank x ≡ false → token (x ∷ xs) ≡ None → p + width (x ∷ xs) ≡ total → Keeps total all ts (x ∷ xs) → Stuck total all p
  fault all ts x xs p b is e k = k.stuck p (subst (Stuck total (x ∷ xs)) (let q : total - width (x ∷ xs) ≡ p = omega (arith, e) in q) (c.Stuck.here b (token_none (x ∷ xs) is)))

pub width_encodes : (cs : List ℕ) → length (encodes cs) ≡ width cs
width_encodes [] = refl
width_encodes (c ∷ cs) = length-append (encode c) (encodes cs) ∙ omega (arith, length-encode c, width_encodes cs)

-- a text's characters take all of its bytes
pub width_chars : (bs : List ℕ) → IsUtf8 bs → width (chars bs) ≡ length bs
width_chars bs utf8 = sym (width_encodes (chars bs)) ∙ ap length (encodes-chars bs utf8)
