-- A text between quotes at the front of a line, found quote by quote.
use Rattle.std.proofs.Common.{◌≡◌, ◌≢◌, ◌≤◌, ◌<◌, ℕ, List, [], ◌∷◌, ◌++◌, length, Bool, true, false, cond, refl, sym, ap, subst, ◌∙◌, arith, length-append}
use Rattle.std.specs.Prelude.{Option, Some, None, MatchOption, ◌||◌, ◌==◌}
use Rattle.std.specs.List.{list_any}
use Rattle.std.specs.Option.{option_map}
use denote.Ref.{Bor}
use Rattle.opa_words.specs.Characters.{is_control}
use Rattle.opa_words.specs.Kinds.{quoted}
use Rattle.opa_words.specs.Scan.{one, past_quote, text}
use Rattle.opa_words.specs.Quotes.{HasNoQuote, SplitsAtQuote, IsQuoted}
use Rattle.opa_words.specs.Fronts.{HasInFront, BeginsWithText, BeginsWithNoText}
use Rattle.std.proofs.lemmas.List.{append_cancel_right}
use Rattle.opa_io.proofs.Characters.{quote_is}
use Rattle.opa_io.proofs.Bools.{neither_first, neither_second}
use Rattle.opa_words.proofs.QuoteLaws.{quoted_tells_apart}
use Rattle.opa_words.proofs.Scans.{AtMost, text_found, text_reaches}

-- ---- the next quote

pub one_quote : (bs : List ℕ) (r : Option (Bor (List ℕ))) → MatchOption r ((rest : List ℕ) → bs ≢ 34 ∷ rest) (λ x. bs ≡ 34 ∷ x.now) → option_map (λ (x : Bor (List ℕ)). x.now) r ≡ one (λ b. b == 34) bs
one_quote [] None h = refl
one_quote (b ∷ bs) None h = go (b == 34) refl
  where
    go : (t : Bool) → (b == 34) ≡ t → None ≡ cond t (Some bs) None
    go true e = absurd (h bs (ap (λ x. x ∷ bs) (quote_is b e)))
    go false e = refl
one_quote bs (Some x) h = sym (ap (one (λ b. b == 34)) h)

pub no_quote_ahead : (bs : List ℕ) → HasNoQuote bs → None ≡ past_quote bs
no_quote_ahead [] h = refl
no_quote_ahead (b ∷ bs) h = go (b == 34) (is_control b) (neither_first (b == 34) (list_any (λ x. x == 34) bs) h) (no_quote_ahead bs (neither_second (b == 34) (list_any (λ x. x == 34) bs) h))
  where
    go : (t d : Bool) → t ≡ false → None ≡ past_quote bs → None ≡ cond t (Some bs) (cond d None (past_quote bs))
    go true d e k = absurd (cc e)
    go false true e k = refl
    go false false e k = k

quote_ahead_at : (front later : List ℕ) → HasNoQuote front → past_quote (front ++ 34 ∷ later) ≡ cond (list_any is_control front) None (Some later)
quote_ahead_at [] later h = refl
quote_ahead_at (b ∷ front) later h = go (b == 34) (is_control b) (neither_first (b == 34) (list_any (λ x. x == 34) front) h) (quote_ahead_at front later (neither_second (b == 34) (list_any (λ x. x == 34) front) h))
  where
    go : (t d : Bool) → t ≡ false → past_quote (front ++ 34 ∷ later) ≡ cond (list_any is_control front) None (Some later)
        → cond t (Some (front ++ 34 ∷ later)) (cond d None (past_quote (front ++ 34 ∷ later))) ≡ cond (d || list_any is_control front) None (Some later)
    go true d e k = absurd (cc e)
    go false true e k = refl
    go false false e k = k

pub quote_ahead : (bs front later : List ℕ) (b : Bool) → SplitsAtQuote bs front later → b ≡ list_any is_control front → cond b None (Some later) ≡ past_quote bs
quote_ahead bs front later b h e = ap (λ t. cond t None (Some later)) e ∙ sym (ap past_quote h.0 ∙ quote_ahead_at front later h.1)

pub later_shorter : (bs front later : List ℕ) → SplitsAtQuote bs front later → length later < length bs
later_shorter bs front later h = omega (arith, ap length h.0, length-append front (34 ∷ later))

-- ---- the whole text

-- what stands before the rest that is scanned is a text between quotes
pub record Scanned (token : List ℕ) : Type 0 where
  pub inner : List ℕ
  pub clean : list_any is_control inner ≡ false
  pub is : token ≡ quoted inner

scanned : (line rest token : List ℕ) → text line ≡ Some rest → line ≡ token ++ rest → Scanned token
scanned line rest token e split =
    let found = text_found line rest e in
    let same : token ≡ found.front = append_cancel_right token found.front rest (sym split ∙ found.is) in
    record { inner = found.token.0; clean = found.token.1; is = same ∙ found.token.2 }

pub scanned_is_quoted : (line rest token : List ℕ) → text line ≡ Some rest → line ≡ token ++ rest → IsQuoted token
scanned_is_quoted line rest token e split = let x = scanned line rest token e split in (x.inner, x.is)

shortest : (line rest other left : List ℕ) → text line ≡ Some rest → HasInFront line other left → length rest ≤ length left
shortest line rest other left e h =
    let reaches : AtMost (text (quoted other ++ left)) (length left) = text_reaches (quoted other) left (other, h.clean, refl) in
    let same : text (quoted other ++ left) ≡ Some rest = ap text (sym h.split) ∙ e in
    subst (λ o. AtMost o (length left)) same reaches

pub text_is_longest : (line rest inner token : List ℕ) → text line ≡ Some rest → line ≡ token ++ rest → quoted inner ≡ token → BeginsWithText line inner rest
text_is_longest line rest inner token e split same =
    let x = scanned line rest token e split in
    record {
      front = record {
        split = split ∙ ap (λ x. x ++ rest) (sym same);
        clean = subst (λ t. list_any is_control t ≡ false) (sym (quoted_tells_apart inner x.inner (same ∙ x.is))) x.clean;
      };
      longest = λ other left h. shortest line rest other left e h;
    }

pub text_is_none : (line : List ℕ) → text line ≡ None → BeginsWithNoText line
text_is_none line e inner rest h =
    let reaches : AtMost (text (quoted inner ++ rest)) (length rest) = text_reaches (quoted inner) rest (inner, h.clean, refl) in
    let same : text (quoted inner ++ rest) ≡ None = ap text (sym h.split) ∙ e in
    subst (λ o. AtMost o (length rest)) same reaches

-- where a rest was found, a text between quotes stands before it
pub text_before : (line rest : List ℕ) → text line ≡ Some rest → (front : List ℕ) × (line ≡ front ++ rest)
text_before line rest e = let found = text_found line rest e in (found.front, found.is)
