-- What loops over tokens keep.
use Rattle.std.proofs.Common.{◌≡◌, ◌≤◌, ◌+◌, ℕ, List, [], ◌∷◌, ◌++◌, length, true, false, refl, sym, ap, subst, ◌∙◌, arith, append_assoc}
use Rattle.std.specs.Prelude.{not, codes, ◌&&◌}
use Rattle.opa_words.specs.declared.kinds.TokenKind.{TokenKind}
use Rattle.opa_words.specs.declared.kinds.TokenKind.TheVariants as kind
use Rattle.std.proofs.lemmas.Slice.Eq.{bytes_eq-Decides}
use Rattle.opa_words.specs.Pieces.{Piece, symbol}
use Rattle.opa_script.specs.Shapes.{is_equals, has_no_equals, IsAtEquals, IsShort, AreShort}
use Rattle.opa_words.proofs.PieceLists.{same_cut}
use Rattle.opa_script.proofs.PointLaws.{no_equals_more}
use Rattle.std.proofs.lemmas.List.{length-append}

-- ---- up to the first `=`

-- so many tokens that are no `=`
pub record Passed (start rest : List Piece) (count : ℕ) : Type 0 where
  pub front : List Piece
  pub parts : start ≡ front ++ rest
  pub size : length front ≡ count
  pub plain : has_no_equals front ≡ true

pub passed_start : (start : List Piece) → Passed start start 0
passed_start start = record { front = []; parts = refl; size = refl; plain = refl }

pub passed_more : (start rest later : List Piece) (p : Piece) (count : ℕ) → Passed start rest count → rest ≡ p ∷ later → is_equals p.kind p.text ≡ false → Passed start later (count + 1)
passed_more start rest later p count h e n = record {
  front = h.front ++ p ∷ [];
  parts = h.parts ∙ ap (λ ps. h.front ++ ps) e ∙ sym (append_assoc h.front (p ∷ []) later);
  size = omega (arith, length-append h.front (p ∷ []), h.size);
  plain = no_equals_more h.front (p ∷ []) h.plain (ap (λ b. not b && true) n);
}

pub passed_end : (start rest : List Piece) (count : ℕ) → Passed start rest count → rest ≡ [] → has_no_equals start ≡ true
passed_end start rest count h e = ap has_no_equals (h.parts ∙ ap (λ ps. h.front ++ ps) e) ∙ no_equals_more h.front [] h.plain refl

pub passed_within : (start rest : List Piece) (count : ℕ) → Passed start rest count → count ≤ length start
passed_within start rest count h = omega (arith, length-append h.front rest, h.size, ap length h.parts)

abbrev made : TokenKind → List ℕ → Piece
made k t = record { kind = k; text = t }

equals_is : (p : Piece) → is_equals p.kind p.text ≡ true → p ≡ symbol (codes "=")
equals_is p h = go p.kind refl h
  where
    go : (k : TokenKind) → p.kind ≡ k → is_equals k p.text ≡ true → p ≡ symbol (codes "=")
    go kind.Symbol e g = ap (λ k. made k p.text) e ∙ ap (made kind.Symbol) ((bytes_eq-Decides p.text (codes "=")).0 g)
    go kind.Word e g = absurd (cc g)
    go kind.Number e g = absurd (cc g)
    go kind.Date e g = absurd (cc g)
    go kind.Text e g = absurd (cc g)

pub passed_equals : (start rest later front back : List Piece) (p : Piece) (count : ℕ)
    → Passed start rest count → rest ≡ p ∷ later → is_equals p.kind p.text ≡ true → start ≡ front ++ back → length front ≡ count → IsAtEquals front later start
passed_equals start rest later front back p count h e q s n =
    let r = same_cut front h.front back rest (n ∙ sym h.size) (sym s ∙ h.parts) in
    (s ∙ ap (λ ps. front ++ ps) (r.1 ∙ e ∙ ap (λ x. x ∷ later) (equals_is p q)), ap has_no_equals r.0 ∙ h.plain)

-- ---- texts

-- these tokens have a long text where the others have one
pub record IsAsShort (start rest : List Piece) : Type 0 where
  pub whole : AreShort rest → AreShort start
  pub part : AreShort start → AreShort rest

pub as_short_start : (start : List Piece) → IsAsShort start start
as_short_start start = record { whole = λ h. h; part = λ h. h }

shorter : (rest later : List Piece) (p : Piece) → rest ≡ p ∷ later → AreShort rest → AreShort later
shorter rest later p e h = (subst AreShort e h).1

pub as_short_more : (start rest later : List Piece) (p : Piece) → IsAsShort start rest → rest ≡ p ∷ later → IsShort p → IsAsShort start later
as_short_more start rest later p h e s = record {
  whole = λ k. h.whole (subst AreShort (sym e) (s, k));
  part = λ k. (subst AreShort e (h.part k)).1;
}

pub as_short_long : (start rest later : List Piece) (p : Piece) → IsAsShort start rest → rest ≡ p ∷ later → (IsShort p → ⊥) → AreShort start → ⊥
as_short_long start rest later p h e n k = n (subst AreShort e (h.part k)).0

pub as_short_end : (start rest : List Piece) → IsAsShort start rest → rest ≡ [] → AreShort start
as_short_end start rest h e = h.whole (subst AreShort (sym e) tt)
