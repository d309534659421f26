-- The lines of a text are texts, and their numbers are small.
use Rattle.std.proofs.Common.{◌≡◌, ℕ, ◌+◌, ◌-◌, ◌<◌, ◌≤◌, ◌^◌, List, [], ◌∷◌, ◌++◌, length, take, drop, Bool, true, false, cond, refl, sym, ap, subst, append_assoc, append-nil, arith}
use Rattle.std.specs.Prelude.{◌==◌, slice_index}
use Rattle.std.specs.List.{slice_split, onto_first, AllByRecursion}
use Rattle.std.specs.Str.{IsUtf8, bytes_eq}
use Rattle.std.specs.Str.Lines.{strip_carriage_return}
use lib.Utf8.{encode}
use Rattle.std.proofs.lemmas.List.Splits.{slice_split-cons_no, slice_split-cons_yes}
use Rattle.std.proofs.lemmas.Slice.Eq.{bytes_eq-Decides}
use Rattle.std.proofs.lemmas.Str.{IsUtf8-take, IsUtf8-past_char, IsCharBoundary-before_ascii}
use Rattle.opa_io.specs.declared.limits.TheConstants.{MOST_FILE}
use Rattle.opa_words.specs.declared.layout.block.BlockLine.{BlockLine}
use Rattle.opa_words.specs.Layout.Lines.{Row, numbered, without_mark, rows}
use Rattle.opa_words.specs.Layout.Indents.{is_passed, is_blank, past_blanks}
use Rattle.opa_words.specs.Layout.Blocks.{kept, line_of, block_lines}
use Rattle.opa_words.proofs.layout.ShortLaws.{unmarked as unmarked_few}
use Rattle.opa_laws.proofs.verified.Seams.{before, behind}
use Rattle.opa_laws.proofs.verified.JsonStrings.{is_number}

-- ---- parts between line feeds

abbrev Parts : List ℕ → List (List ℕ) → Type 0
Parts run [] = ⊥
Parts run (x ∷ xs) = IsUtf8 (run ++ x) × AllByRecursion IsUtf8 xs

all_parts : (ps : List (List ℕ)) → Parts [] ps → AllByRecursion IsUtf8 ps
all_parts [] h = absurd h
all_parts (x ∷ xs) h = h

onto_parts : (run : List ℕ) (b : ℕ) (ps : List (List ℕ)) → Parts (run ++ b ∷ []) ps → Parts run (onto_first b ps)
onto_parts run b [] h = absurd h
onto_parts run b (x ∷ xs) h = (subst IsUtf8 (append_assoc run (b ∷ []) x) h.0, h.1)

split_parts : (bs run : List ℕ) → IsUtf8 (run ++ bs) → Parts run (slice_split (λ b. b == 10) bs)
split_parts [] run u = (u, tt)
split_parts (b ∷ bs) run u = go (b == 10) refl (split_parts bs)
  where
    go : (t : Bool) → (b == 10) ≡ t → ((run : List ℕ) → IsUtf8 (run ++ bs) → Parts run (slice_split (λ b. b == 10) bs)) → Parts run (slice_split (λ b. b == 10) (b ∷ bs))
    go true e rec =
        let small = is_number b 10 e (grind arith) in
        let now : IsUtf8 (run ++ []) = subst IsUtf8 (sym (append-nil run)) (before run b bs small u) in
        subst (Parts run) (sym (slice_split-cons_yes (λ b. b == 10) b bs e)) (now, all_parts (slice_split (λ b. b == 10) bs) (rec [] (behind run b bs small u)))
    go false e rec =
        subst (Parts run) (sym (slice_split-cons_no (λ b. b == 10) b bs e)) (onto_parts run b (slice_split (λ b. b == 10) bs) (rec (run ++ b ∷ []) (subst IsUtf8 (sym (append_assoc run (b ∷ []) bs)) u)))

split_texts : (bs : List ℕ) → IsUtf8 bs → AllByRecursion IsUtf8 (slice_split (λ b. b == 10) bs)
split_texts bs u = all_parts (slice_split (λ b. b == 10) bs) (split_parts bs [] u)

-- there is at most one part more than there are bytes
few_onto : (b : ℕ) (ps : List (List ℕ)) (n : ℕ) → length ps ≤ n + 1 → length (onto_first b ps) ≤ n + 1 + 1
few_onto b [] n h = omega arith
few_onto b (x ∷ ps) n h = omega (arith, h)

few_parts : (bs : List ℕ) → length (slice_split (λ b. b == 10) bs) ≤ length bs + 1
few_parts [] = omega arith
few_parts (b ∷ bs) = go (b == 10) refl (few_parts bs)
  where
    go : (t : Bool) → (b == 10) ≡ t → length (slice_split (λ b. b == 10) bs) ≤ length bs + 1 → length (slice_split (λ b. b == 10) (b ∷ bs)) ≤ length (b ∷ bs) + 1
    go true e h = let same = ap length (slice_split-cons_yes (λ b. b == 10) b bs e) in omega (arith, same, h)
    go false e h = let same = ap length (slice_split-cons_no (λ b. b == 10) b bs e) in omega (arith, same, few_onto b (slice_split (λ b. b == 10) bs) (length bs) h)

-- ---- rows

-- without the carriage return
shorn : (x : List ℕ) (t : Bool) → (slice_index x (length x - 1) == 13) ≡ t → IsUtf8 x → IsUtf8 (cond t (take (length x - 1) x) x)
shorn x false e u = u
shorn [] true e u = u
shorn (b ∷ x) true e u =
    let last : length (b ∷ x) - 1 < length (b ∷ x) = omega arith in
    IsUtf8-take (b ∷ x) (length (b ∷ x) - 1) u (IsCharBoundary-before_ascii (b ∷ x) (length (b ∷ x) - 1) last (is_number (slice_index (b ∷ x) (length (b ∷ x) - 1)) 13 e (grind arith)))

stripped : (x : List ℕ) → IsUtf8 x → IsUtf8 (strip_carriage_return x)
stripped x u = shorn x (slice_index x (length x - 1) == 13) refl u

abbrev pub RowIsText : Row → Type 0
RowIsText r = IsUtf8 r.text × (r.number < 2 ^ 32)

last_row : (n : ℕ) (x : List ℕ) (t : Bool) → IsUtf8 x → n < 2 ^ 32 → AllByRecursion RowIsText (cond t [] (record { number = n; size = length x; text = x } ∷ []))
last_row n x true u l = tt
last_row n x false u l = ((u, l), tt)

numbered_rows : (n : ℕ) (ps : List (List ℕ)) → n + length ps ≤ 2 ^ 32 → AllByRecursion IsUtf8 ps → AllByRecursion RowIsText (numbered n ps)
numbered_rows n [] l u = tt
numbered_rows n (x ∷ []) l u = last_row n x (length x == 0) u.0 (omega (arith, l))
numbered_rows n (x ∷ y ∷ more) l u = ((stripped x u.0, omega (arith, l)), numbered_rows (n + 1) (y ∷ more) (omega (arith, l)) u.1)

-- what follows the byte order mark
unmarked : (bytes : List ℕ) → bytes_eq (take 3 bytes) (239 ∷ 187 ∷ 191 ∷ []) ≡ true → IsUtf8 bytes → IsUtf8 (drop 3 bytes)
unfolding encode
unmarked [] e u = u
unmarked (a ∷ []) e u = absurd (let h : a ∷ [] ≡ 239 ∷ 187 ∷ 191 ∷ [] = (bytes_eq-Decides (a ∷ []) (239 ∷ 187 ∷ 191 ∷ [])).0 e in cc h)
unmarked (a ∷ b ∷ []) e u = absurd (let h : a ∷ b ∷ [] ≡ 239 ∷ 187 ∷ 191 ∷ [] = (bytes_eq-Decides (a ∷ b ∷ []) (239 ∷ 187 ∷ 191 ∷ [])).0 e in cc h)
unmarked (a ∷ b ∷ c ∷ rest) e u =
    let h : a ∷ b ∷ c ∷ [] ≡ 239 ∷ 187 ∷ 191 ∷ [] = (bytes_eq-Decides (a ∷ b ∷ c ∷ []) (239 ∷ 187 ∷ 191 ∷ [])).0 e in
    IsUtf8-past_char (a ∷ b ∷ c ∷ rest) rest 65279 u (ap (λ xs. xs ++ rest) h)

without_mark_text : (bytes : List ℕ) → IsUtf8 bytes → IsUtf8 (without_mark bytes)
without_mark_text bytes u = go (bytes_eq (take 3 bytes) (239 ∷ 187 ∷ 191 ∷ [])) refl
  where
    go : (t : Bool) → bytes_eq (take 3 bytes) (239 ∷ 187 ∷ 191 ∷ []) ≡ t → IsUtf8 (cond t (drop 3 bytes) bytes)
    go true e = unmarked bytes e u
    go false e = u

pub rows_are_texts : (bytes : List ℕ) → IsUtf8 bytes → length bytes ≤ MOST_FILE → AllByRecursion RowIsText (rows bytes)
rows_are_texts bytes u l =
    let text = without_mark bytes in
    let short = unmarked_few bytes (bytes_eq (take 3 bytes) (239 ∷ 187 ∷ 191 ∷ [])) in
    let few : 1 + length (slice_split (λ b. b == 10) text) ≤ 2 ^ 32 = omega (arith, few_parts text, short, l) in
    numbered_rows 1 (slice_split (λ b. b == 10) text) few (split_texts text (without_mark_text bytes u))

-- ---- lines of blocks

blank_small : (b : ℕ) → is_blank b ≡ true → b < 128
blank_small b h = grind (arith, h)

pub past_text : (bs : List ℕ) → IsUtf8 bs → IsUtf8 (past_blanks bs)
past_text [] u = u
past_text (b ∷ bs) u = go (is_blank b) refl (past_text bs)
  where
    go : (t : Bool) → is_blank b ≡ t → (IsUtf8 bs → IsUtf8 (past_blanks bs)) → IsUtf8 (cond t (past_blanks bs) (b ∷ bs))
    go true e rec = rec (behind [] b bs (blank_small b e) u)
    go false e rec = u

abbrev pub LineIsText : BlockLine → Type 0
LineIsText l = IsUtf8 l.text × (l.line < 2 ^ 32)

kept_lines : (rs : List Row) → AllByRecursion RowIsText rs → AllByRecursion LineIsText (kept rs)
kept_lines [] h = tt
kept_lines (r ∷ rs) h = go (is_passed r.text) (kept_lines rs h.1)
  where
    go : (t : Bool) → AllByRecursion LineIsText (kept rs) → AllByRecursion LineIsText (cond t (kept rs) (line_of r ∷ kept rs))
    go true k = k
    go false k = ((past_text r.text h.0.0, h.0.1), k)

pub lines_are_texts : (bytes : List ℕ) → IsUtf8 bytes → length bytes ≤ MOST_FILE → AllByRecursion LineIsText (block_lines bytes)
lines_are_texts bytes u l = kept_lines (rows bytes) (rows_are_texts bytes u l)
