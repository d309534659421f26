-- How many lines a text has, and how long they are.
use Rattle.std.proofs.Common.{◌≡◌, ℕ, ◌+◌, ◌<◌, ◌≤◌, List, [], ◌∷◌, ◌++◌, length, Bool, true, false, cond, refl, sym, ap, subst, ◌∙◌, arith}
use Rattle.std.specs.Prelude.{◌==◌, ◌-◌, ◌^◌, take, drop, slice_index, slice_index_or}
use Rattle.std.specs.List.{slice_split, onto_first, All, AllByRecursion}
use Rattle.std.specs.Str.{bytes_eq}
use Rattle.std.proofs.lemmas.List.{length-take, length-drop}
use Rattle.std.proofs.lemmas.List.Elements.{All-from_recursion, All-nil, All-cons, All-head, All-tail}
use Rattle.std.specs.Str.Lines.{strip_carriage_return}
use Rattle.std.proofs.lemmas.List.Splits.{slice_split-cons_no, slice_split-cons_yes, length-slice_split}
use Rattle.opa_words.specs.declared.layout.block.Block.{Block}
use Rattle.opa_words.specs.declared.layout.block.BlockLine.{BlockLine}
use Rattle.opa_words.specs.Layout.Lines.{Row, numbered, without_mark, rows}
use Rattle.opa_words.specs.Layout.Indents.{is_passed, is_blank, past_blanks}
use Rattle.opa_words.specs.Layout.Blocks.{kept, line_of, lines_of, block_lines}

-- the bytes of parts and those between them
abbrev weight : List (List ℕ) → ℕ
weight [] = 0
weight (x ∷ []) = length x
weight (x ∷ y ∷ more) = length x + 1 + weight (y ∷ more)

weight-start : (parts : List (List ℕ)) → 0 < length parts → weight ([] ∷ parts) ≡ 1 + weight parts
weight-start [] h = absurd (omega (arith, h))
weight-start (x ∷ parts) h = omega arith

weight-onto : (c : ℕ) (parts : List (List ℕ)) → weight (onto_first c parts) ≡ 1 + weight parts
weight-onto c [] = refl
weight-onto c (x ∷ []) = omega arith
weight-onto c (x ∷ y ∷ more) = omega arith

weight-slice_split : (p : ℕ → Bool) (bs : List ℕ) → weight (slice_split p bs) ≡ length bs
weight-slice_split p [] = refl
weight-slice_split p (b ∷ bs) = go (p b) refl (weight-slice_split p bs)
  where
    go : (t : Bool) → p b ≡ t → weight (slice_split p bs) ≡ length bs → weight (slice_split p (b ∷ bs)) ≡ length (b ∷ bs)
    go true e h = ap weight (slice_split-cons_yes p b bs e) ∙ weight-start (slice_split p bs) (omega (arith, length-slice_split p bs)) ∙ omega (arith, h)
    go false e h = ap weight (slice_split-cons_no p b bs e) ∙ weight-onto b (slice_split p bs) ∙ omega (arith, h)

last_few : (n : ℕ) (x : List ℕ) (t : Bool) → (length x == 0) ≡ t → length {A = Row} (cond t [] (record { number = n; size = length x; text = x } ∷ [])) ≤ length x
last_few n x true e = omega arith
last_few n x false e = grind (arith, e)

few : (n : ℕ) (parts : List (List ℕ)) → length (numbered n parts) ≤ weight parts
few n [] = omega arith
few n (x ∷ []) = last_few n x (length x == 0) refl
few n (x ∷ y ∷ more) = omega (arith, few (n + 1) (y ∷ more))

shorter : (x : List ℕ) (t : Bool) → length (cond t (take (length x - 1) x) x) ≤ length x
shorter x true = omega (arith, length-take (length x - 1) x)
shorter x false = omega arith

stripped : (x : List ℕ) → length (strip_carriage_return x) ≤ length x
stripped x = shorter x (slice_index x (length x - 1) == 13)

past : (bs : List ℕ) → length (past_blanks bs) ≤ length bs
past [] = omega arith
past (b ∷ bs) = go (is_blank b) (past bs)
  where
    go : (t : Bool) → length (past_blanks bs) ≤ length bs → length (cond t (past_blanks bs) (b ∷ bs)) ≤ length (b ∷ bs)
    go true h = omega (arith, h)
    go false h = omega arith

pub unmarked : (x : List ℕ) (t : Bool) → length (cond t (drop 3 x) x) ≤ length x
unmarked x true = omega (arith, length-drop 3 x)
unmarked x false = omega arith

pub without_mark-shorter : (x : List ℕ) → length (without_mark x) ≤ length x
without_mark-shorter x = unmarked x (bytes_eq (take 3 x) (239 ∷ 187 ∷ 191 ∷ []))

kept_few : (rs : List Row) → length (kept rs) ≤ length rs
kept_few [] = omega arith
kept_few (r ∷ rs) = go (is_passed r.text) (kept_few rs)
  where
    go : (t : Bool) → length (kept rs) ≤ length rs → length (cond t (kept rs) (line_of r ∷ kept rs)) ≤ length (r ∷ rs)
    go true h = omega (arith, h)
    go false h = omega (arith, h)

-- a text has no more lines than bytes
pub block_lines-few : (bs : List ℕ) → length (block_lines bs) ≤ length bs
block_lines-few bs =
    omega (arith, kept_few (rows bs), few 1 (slice_split (λ b. b == 10) (without_mark bs)), weight-slice_split (λ b. b == 10) (without_mark bs), without_mark-shorter bs)

module _ (most : ℕ) where
  abbrev Rows : List Row → Type 0
  Rows rs = AllByRecursion (λ r. length r.text ≤ most) rs

  abbrev Lines : List BlockLine → Type 0
  Lines ls = AllByRecursion (λ l. length l.text ≤ most) ls

  last_short : (n : ℕ) (x : List ℕ) (t : Bool) → length x ≤ most → Rows (cond t [] (record { number = n; size = length x; text = x } ∷ []))
  last_short n x true h = tt
  last_short n x false h = (h, tt)

  short : (n : ℕ) (parts : List (List ℕ)) → weight parts ≤ most → Rows (numbered n parts)
  short n [] h = tt
  short n (x ∷ []) h = last_short n x (length x == 0) h
  short n (x ∷ y ∷ more) h = (omega (arith, stripped x, h), short (n + 1) (y ∷ more) (omega (arith, h)))

  kept_short : (rs : List Row) → Rows rs → Lines (kept rs)
  kept_short [] h = tt
  kept_short (r ∷ rs) h = go (is_passed r.text) (kept_short rs h.1)
    where
      go : (t : Bool) → Lines (kept rs) → Lines (cond t (kept rs) (line_of r ∷ kept rs))
      go true k = k
      go false k = (omega (arith, past r.text, h.0), k)

-- no line is longer than its text
pub block_lines-short : (bs : List ℕ) → All (λ l. length l.text ≤ length bs) (block_lines bs)
block_lines-short bs =
    All-from_recursion (λ l. length l.text ≤ length bs) (block_lines bs)
    (kept_short (length bs) (rows bs) (short (length bs) 1 (slice_split (λ b. b == 10) (without_mark bs)) (omega (arith, weight-slice_split (λ b. b == 10) (without_mark bs), without_mark-shorter bs))))

pub lines_short : (ls : List BlockLine) (bs : List ℕ) → ls ≡ block_lines bs → length bs < 2 ^ 32 → All (λ l. length l.text < 2 ^ 32) ls
lines_short ls bs e h = subst (All (λ l. length l.text < 2 ^ 32)) (sym e) (λ k d i. let m : length (slice_index_or (block_lines bs) k d).text ≤ length bs = block_lines-short bs k d i in omega (arith, m, h))

pub lines_few : (ls : List BlockLine) (bs : List ℕ) → ls ≡ block_lines bs → length bs < 2 ^ 32 → length ls < 2 ^ 32
lines_few ls bs e h = omega (arith, ap length e, block_lines-few bs, h)

-- ---- blocks

abbrev Fits : BlockLine → Type 0
Fits l = length l.text < 2 ^ 32

left : (xs ys : List BlockLine) → All Fits (xs ++ ys) → All Fits xs
left [] ys h = All-nil Fits
left (x ∷ xs) ys h = All-cons Fits x xs (All-head Fits x (xs ++ ys) h) (left xs ys (All-tail Fits x (xs ++ ys) h))

right : (xs ys : List BlockLine) → All Fits (xs ++ ys) → All Fits ys
right [] ys h = h
right (x ∷ xs) ys h = right xs ys (All-tail Fits x (xs ++ ys) h)

abbrev AllFit : Block → Type 0
AllFit b = All Fits b.lines

-- the lines of blocks are short enough to be cut, where all of them are
pub short_blocks : (bs : List Block) → All (λ (l : BlockLine). length l.text < 2 ^ 32) (lines_of bs) → All (λ (b : Block). All (λ (l : BlockLine). length l.text < 2 ^ 32) b.lines) bs
short_blocks [] h = All-nil AllFit
short_blocks (b ∷ bs) h = All-cons AllFit b bs (left b.lines (lines_of bs) h) (short_blocks bs (right b.lines (lines_of bs) h))
