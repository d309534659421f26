-- The lines of a text, one after another.
use Rattle.std.proofs.Common.{◌≡◌, ℕ, ◌+◌, ◌<◌, List, [], ◌∷◌, ◌++◌, Bool, true, false, cond, not, ◌&&◌, ◌==◌, take, length, refl, sym, ◌∙◌, ap, arith, append_assoc, append-nil, length-append}
use Rattle.std.proofs.lemmas.Bool.{ne_eqb, not-true, and_parts}
use Rattle.opa_verify.specs.Spelling.Lines.{Lined, with_byte, lined, with_line}
use Rattle.opa_verify.proofs.spelling.Cutting.{taken}

-- no line feed is among the bytes
abbrev pub no_feed : List ℕ → Bool
no_feed [] = true
no_feed (b ∷ bs) = not (b == 10) && no_feed bs

pub line_ends : (front more : List ℕ) → no_feed front ≡ true → lined (front ++ 10 ∷ more) ≡ with_line (front ++ 10 ∷ []) (lined more)
line_ends [] more h = refl
line_ends (b ∷ front) more h =
    let both = and_parts (not (b == 10)) (no_feed front) h in
    ap (with_byte b) (line_ends front more both.1)
    ∙ ap (λ t. cond t (record { lines = (b ∷ []) ∷ (front ++ 10 ∷ []) ∷ (lined more).lines; left = (lined more).left }) (record { lines = (b ∷ front ++ 10 ∷ []) ∷ (lined more).lines; left = (lined more).left })) (not-true (b == 10) both.0)

pub no_line : (front : List ℕ) → no_feed front ≡ true → lined front ≡ record { lines = []; left = front }
no_line [] h = refl
no_line (b ∷ front) h =
    let both = and_parts (not (b == 10)) (no_feed front) h in
    ap (with_byte b) (no_line front both.1)
    ∙ ap (λ t. cond t (record { lines = (b ∷ []) ∷ []; left = front }) (record { lines = []; left = b ∷ front })) (not-true (b == 10) both.0)

-- what was passed has no line feed
pub record Unended (text front rest : List ℕ) (count : ℕ) : Type 0 where
  pub parts : text ≡ front ++ rest
  pub many : length front ≡ count
  pub none : no_feed front ≡ true

pub unended_none : (text : List ℕ) → Unended text [] text 0
unended_none text = record { parts = refl; many = refl; none = refl }

none_more : (front : List ℕ) (b : ℕ) → no_feed front ≡ true → (b == 10) ≡ false → no_feed (front ++ b ∷ []) ≡ true
none_more [] b h e = ap (λ t. not t && true) e
none_more (c ∷ front) b h e =
    let both = and_parts (not (c == 10)) (no_feed front) h in
    ap (λ t. t && no_feed (front ++ b ∷ [])) both.0 ∙ none_more front b both.1 e

pub unended_more : (text front rest later : List ℕ) (count : ℕ) (b : ℕ) → Unended text front rest count → rest ≡ b ∷ later → (b ≡ 10 → ⊥) → Unended text (front ++ b ∷ []) later (count + 1)
unended_more text front rest later count b u r n = record {
  parts = u.parts ∙ ap (λ x. front ++ x) r ∙ sym (append_assoc front (b ∷ []) later);
  many = length-append front (b ∷ []) ∙ ap (λ n. n + 1) u.many;
  none = none_more front b u.none (ne_eqb b 10 n);
}

pub ended : (text front rest later line : List ℕ) (count : ℕ) (b : ℕ) → Unended text front rest count → rest ≡ b ∷ later → b ≡ 10 → line ≡ take (count + 1) text → lined text ≡ with_line line (lined later)
ended text front rest later line count b u r e t =
    let whole : text ≡ front ++ 10 ∷ later = u.parts ∙ ap (λ x. front ++ x) (r ∙ ap (λ x. x ∷ later) e) in
    let is : line ≡ front ++ 10 ∷ [] =
    t ∙ ap (take (count + 1)) (whole ∙ sym (append_assoc front (10 ∷ []) later)) ∙ ap (λ n. take n ((front ++ 10 ∷ []) ++ later)) (ap (λ n. n + 1) (sym u.many) ∙ sym (length-append front (10 ∷ []))) ∙ taken (front ++ 10 ∷ []) later in
    ap lined whole ∙ line_ends front later u.none ∙ ap (λ l. with_line l (lined later)) (sym is)

pub ended_parts : (text front rest later line : List ℕ) (count : ℕ) (b : ℕ) → Unended text front rest count → rest ≡ b ∷ later → line ≡ take (count + 1) text → text ≡ line ++ later
ended_parts text front rest later line count b u r t =
    let whole : text ≡ (front ++ b ∷ []) ++ later = u.parts ∙ ap (λ x. front ++ x) r ∙ sym (append_assoc front (b ∷ []) later) in
    let is : line ≡ front ++ b ∷ [] =
    t ∙ ap (take (count + 1)) whole ∙ ap (λ n. take n ((front ++ b ∷ []) ++ later)) (ap (λ n. n + 1) (sym u.many) ∙ sym (length-append front (b ∷ []))) ∙ taken (front ++ b ∷ []) later in
    whole ∙ ap (λ x. x ++ later) (sym is)

pub ended_shorter : (text front rest later : List ℕ) (count : ℕ) (b : ℕ) → Unended text front rest count → rest ≡ b ∷ later → length later < length text
ended_shorter text front rest later count b u r =
    let n : length text ≡ length front + length (b ∷ later) = ap length (u.parts ∙ ap (λ x. front ++ x) r) ∙ length-append front (b ∷ later) in omega (arith, n)

pub never_ended : (text front rest : List ℕ) (count : ℕ) → Unended text front rest count → rest ≡ [] → lined text ≡ record { lines = []; left = text }
never_ended text front rest count u e =
    let is : text ≡ front = u.parts ∙ ap (λ x. front ++ x) e ∙ append-nil front in
    ap lined is ∙ no_line front u.none ∙ ap (λ l. let t : Lined = record { lines = []; left = l } in t) (sym is)
