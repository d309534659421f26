-- The lines of bytes that are cut at a line feed.
use Rattle.std.proofs.Common.{◌+◌, ◌<◌, ◌≤◌, slice_index_or, subst, arith, ◌≡◌, inl, inr, ℕ, Bool, true, false, List, [], ◌∷◌, ◌++◌, ◌&&◌, ap, sym, ◌∙◌, refl, append_assoc, append-nil, take, drop, length, ne_eqb}
use Rattle.std.specs.Prelude.{if◌then◌else◌, ◌==◌}
use Rattle.std.specs.Str.{bytes_eq}
use Rattle.std.specs.List.{onto_first}
use Rattle.std.proofs.lemmas.List.Elements.{All-cons, All-drop, All-push, All-head, All-tail}
use Rattle.std.proofs.lemmas.Bool.Decides.{eqb_tells}
use Rattle.std.proofs.lemmas.List.{take_more, take_all}
use Rattle.opa_io.proofs.Bools.{and_false, and_true}
use Rattle.opa_talk.specs.Lines.{lines, without_mark, line_at, lines_from, IsPart, EndsLine, IsWhole}
use Rattle.opa_talk.specs.Points.{is_empty}

-- a list of lines has a first
first_cond : (test : Bool) (b : ℕ) (parts : List (List ℕ)) → (x : List ℕ) × (xs : List (List ℕ)) × (parts ≡ x ∷ xs)
    → (x : List ℕ) × (xs : List (List ℕ)) × ((if test then (b ∷ []) ∷ parts else onto_first b parts) ≡ x ∷ xs)
first_cond true b parts q = (b ∷ [], parts, refl)
first_cond false b parts q = (b ∷ q.0, q.1, ap (onto_first b) q.2)

-- there is a line where a line feed stands
first_feed : (bytes more : List ℕ) → (x : List ℕ) × (xs : List (List ℕ)) × (lines (bytes ++ 10 ∷ more) ≡ x ∷ xs)
first_feed [] more = (10 ∷ [], lines more, refl)
first_feed (b ∷ bytes) more = first_cond (b == 10) b (lines (bytes ++ 10 ∷ more)) (first_feed bytes more)

-- a byte that is no line feed goes on the first line
onto_other : (b : ℕ) (bytes : List ℕ) → (b == 10) ≡ false → lines (b ∷ bytes) ≡ onto_first b (lines bytes)
onto_other b bytes other = ap (λ t. if t then (b ∷ []) ∷ lines bytes else onto_first b (lines bytes)) other

-- the first line, and those after it
pub lines_first : (line more : List ℕ) → IsPart line → lines (line ++ 10 ∷ more) ≡ (line ++ 10 ∷ []) ∷ lines more
lines_first [] more part = refl
lines_first (b ∷ line) more part =
    onto_other b (line ++ 10 ∷ more) (All-head (λ b. (b == 10) ≡ false) b line part) ∙ ap (onto_first b) (lines_first line more (All-tail (λ b. (b == 10) ≡ false) b line part))

last_line : (b : ℕ) (line : List ℕ) → IsPart (b ∷ line) → lines (b ∷ line) ≡ (b ∷ line) ∷ []
last_line b [] part = onto_other b [] (All-head (λ b. (b == 10) ≡ false) b [] part)
last_line b (c ∷ line) part =
    onto_other b (c ∷ line) (All-head (λ b. (b == 10) ≡ false) b (c ∷ line) part) ∙ ap (onto_first b) (last_line c line (All-tail (λ b. (b == 10) ≡ false) b (c ∷ line) part))

-- a last line without a line feed counts if it isn't empty
pub lines_last : (line : List ℕ) → IsPart line → (length line == 0) ≡ false → lines line ≡ line ∷ []
lines_last [] part full = let no : true ≡ false = full in absurd (cc no)
lines_last (b ∷ line) part full = last_line b line part

onto_first-append : (x : ℕ) (parts more : List (List ℕ)) → (p : List ℕ) × (ps : List (List ℕ)) × (parts ≡ p ∷ ps) → onto_first x (parts ++ more) ≡ onto_first x parts ++ more
onto_first-append x parts more q = ap (λ ps. onto_first x (ps ++ more)) q.2 ∙ ap (λ ps. onto_first x ps ++ more) (sym q.2)

cut_cond : (test : Bool) (x : ℕ) (parts more all : List (List ℕ)) → (p : List ℕ) × (ps : List (List ℕ)) × (parts ≡ p ∷ ps) → all ≡ parts ++ more
    → (if test then (x ∷ []) ∷ all else onto_first x all) ≡ (if test then (x ∷ []) ∷ parts else onto_first x parts) ++ more
cut_cond true x parts more all q e = ap (λ s. (x ∷ []) ∷ s) e
cut_cond false x parts more all q e = ap (onto_first x) e ∙ onto_first-append x parts more q

-- the lines before a line feed, and those after it
pub lines_cut : (xs ys : List ℕ) → lines (xs ++ 10 ∷ ys) ≡ lines (xs ++ 10 ∷ []) ++ lines ys
lines_cut [] ys = refl
lines_cut (x ∷ xs) ys = cut_cond (x == 10) x (lines (xs ++ 10 ∷ [])) (lines ys) (lines (xs ++ 10 ∷ ys)) (first_feed xs []) (lines_cut xs ys)

and_and_false : (a b : Bool) → (a && (b && false)) ≡ false
and_and_false true b = and_false b
and_and_false false b = refl

mark_absent : (bytes : List ℕ) → bytes_eq (take 3 bytes) (239 ∷ 187 ∷ 191 ∷ []) ≡ false → without_mark bytes ≡ bytes
mark_absent bytes h = ap (λ t. if t then drop 3 bytes else bytes) h

if-append : (t : Bool) (xs ys more : List ℕ) → (if t then xs ++ more else ys ++ more) ≡ (if t then xs else ys) ++ more
if-append true xs ys more = refl
if-append false xs ys more = refl

-- a line feed is no part of the mark
pub mark_stays : (line more : List ℕ) → without_mark (line ++ 10 ∷ more) ≡ without_mark line ++ 10 ∷ more
mark_stays [] more = refl
mark_stays (a ∷ []) more = mark_absent (a ∷ 10 ∷ more) (and_false (a == 239)) ∙ ap (λ s. s ++ 10 ∷ more) (sym (mark_absent (a ∷ []) (and_false (a == 239))))
mark_stays (a ∷ b ∷ []) more = mark_absent (a ∷ b ∷ 10 ∷ more) (and_and_false (a == 239) (b == 187)) ∙ ap (λ s. s ++ 10 ∷ more) (sym (mark_absent (a ∷ b ∷ []) (and_and_false (a == 239) (b == 187))))
mark_stays (a ∷ b ∷ c ∷ line) more = if-append (bytes_eq (a ∷ b ∷ c ∷ []) (239 ∷ 187 ∷ 191 ∷ [])) line (a ∷ b ∷ c ∷ line) (10 ∷ more)

pub line_at-append : (fresh : Bool) (line more : List ℕ) → line_at fresh (line ++ 10 ∷ more) ≡ line_at fresh line ++ 10 ∷ more
line_at-append true line more = mark_stays line more
line_at-append false line more = refl

if_part : (t : Bool) (xs ys : List ℕ) → IsPart xs → IsPart ys → IsPart (if t then xs else ys)
if_part true xs ys p q = p
if_part false xs ys p q = q

pub line_at_part : (fresh : Bool) (line : List ℕ) → IsPart line → IsPart (line_at fresh line)
line_at_part true line part = if_part (bytes_eq (take 3 line) (239 ∷ 187 ∷ 191 ∷ [])) (drop 3 line) line (All-drop (λ b. (b == 10) ≡ false) 3 line part) part
line_at_part false line part = part

-- one line, which a line feed ends
pub lines_from_line : (fresh : Bool) (line : List ℕ) → IsPart line → lines_from fresh (line ++ 10 ∷ []) ≡ line_at fresh (line ++ 10 ∷ []) ∷ []
lines_from_line fresh line part =
    ap lines (line_at-append fresh line []) ∙ lines_first (line_at fresh line) [] (line_at_part fresh line part) ∙ ap (λ l. l ∷ []) (sym (line_at-append fresh line []))

-- the lines of a front that a line feed ends, and those after it
pub lines_from-cut : (fresh : Bool) (xs ys : List ℕ) → lines_from fresh (xs ++ 10 ∷ ys) ≡ lines_from fresh (xs ++ 10 ∷ []) ++ lines ys
lines_from-cut fresh xs ys =
    ap lines (line_at-append fresh xs ys) ∙ lines_cut (line_at fresh xs) ys ∙ ap (λ s. lines s ++ lines ys) (sym (line_at-append fresh xs []))

pub is_empty_feed : (xs ys : List ℕ) → is_empty (xs ++ 10 ∷ ys) ≡ false
is_empty_feed [] ys = refl
is_empty_feed (x ∷ xs) ys = refl

pub fresh_feed : (fresh : Bool) (xs : List ℕ) → false ≡ (fresh && is_empty (xs ++ 10 ∷ []))
fresh_feed fresh xs = sym (ap (λ b. fresh && b) (is_empty_feed xs []) ∙ and_false fresh)

-- the lines of whole lines, and those after them
pub lines_from-append : (fresh : Bool) (xs ys : List ℕ) → EndsLine xs → lines_from fresh (xs ++ ys) ≡ lines_from fresh xs ++ lines_from (fresh && is_empty xs) ys
lines_from-append fresh xs ys ends = elim ends [
  | inl none ↦
      ap (λ s. lines_from fresh (s ++ ys)) none
      ∙ ap (λ b. lines_from b ys) (sym (and_true fresh))
      ∙ ap (λ s. s ++ lines_from (fresh && true) ys) (sym (nothing fresh))
      ∙ ap (λ s. lines_from fresh s ++ lines_from (fresh && is_empty s) ys) (sym none)
  | inr feed ↦
      ap (λ s. lines_from fresh (s ++ ys)) feed.1
      ∙ ap (lines_from fresh) (append_assoc feed.0 (10 ∷ []) ys)
      ∙ lines_from-cut fresh feed.0 ys
      ∙ ap (λ b. lines_from fresh (feed.0 ++ 10 ∷ []) ++ lines_from b ys) (fresh_feed fresh feed.0)
      ∙ ap (λ s. lines_from fresh s ++ lines_from (fresh && is_empty s) ys) (sym feed.1)
]
  where
    nothing : (f : Bool) → lines_from f [] ≡ []
    nothing true = refl
    nothing false = refl

and_assoc : (a b c : Bool) → ((a && b) && c) ≡ (a && (b && c))
and_assoc true b c = refl
and_assoc false b c = refl

is_empty-append : (xs ys : List ℕ) → (is_empty xs && is_empty ys) ≡ is_empty (xs ++ ys)
is_empty-append [] ys = refl
is_empty-append (x ∷ xs) ys = refl

pub fresh-append : (fresh : Bool) (xs ys : List ℕ) → ((fresh && is_empty xs) && is_empty ys) ≡ (fresh && is_empty (xs ++ ys))
fresh-append fresh xs ys = and_assoc fresh (is_empty xs) (is_empty ys) ∙ ap (λ b. fresh && b) (is_empty-append xs ys)

pub EndsLine-append : (xs ys : List ℕ) → EndsLine xs → EndsLine ys → EndsLine (xs ++ ys)
EndsLine-append xs ys p q = elim q [
  | inl none ↦ let P : List ℕ → Type 0 = EndsLine in subst P (sym (append-nil xs) ∙ ap (λ s. xs ++ s) (sym none)) p
  | inr feed ↦ inr (xs ++ feed.0, ap (λ s. xs ++ s) feed.1 ∙ sym (append_assoc xs feed.0 (10 ∷ [])))
]

-- one byte more is no line feed
pub part_more : (bytes : List ℕ) (i : ℕ) → i < length bytes → IsPart (take i bytes) → (slice_index_or bytes i 0 ≡ 10 → ⊥) → IsPart (take (i + 1) bytes)
part_more bytes i inside part other =
    let P : List ℕ → Type 0 = IsPart in
    subst P (sym (take_more bytes i 0 inside)) (All-push (λ b. (b == 10) ≡ false) (take i bytes) (slice_index_or bytes i 0) part (ne_eqb _ _ other))

-- all of the bytes
pub part_all : (bytes : List ℕ) (i : ℕ) → length bytes ≤ i → IsPart (take i bytes) → IsPart bytes
part_all bytes i over part = let P : List ℕ → Type 0 = IsPart in subst P (take_all i bytes over) part

-- no bytes have no line feed
pub part_none : IsPart []
part_none = λ k d h. absurd (omega arith)

whole_cons : (b : ℕ) (bytes whole : List ℕ) → IsWhole whole bytes → (more : List ℕ) × IsWhole more (b ∷ bytes)
whole_cons b bytes whole is = elim is.ends [
  | inr feed ↦ (b ∷ whole, record { rest = is.rest; cut = ap (λ s. b ∷ s) is.cut; ends = inr (b ∷ feed.0, ap (λ s. b ∷ s) feed.1); part = is.part })
  | inl none ↦
      let P : List ℕ → Type 0 = IsPart in
      let part : IsPart bytes = subst P (ap (λ s. s ++ is.rest) (sym none) ∙ is.cut) is.part in
      elim (eqb_tells b 10) [
        | inl same ↦ (b ∷ [], record { rest = bytes; cut = refl; ends = inr ([], ap (λ x. x ∷ []) same.1); part = part })
        | inr other ↦ ([], record { rest = b ∷ bytes; cut = refl; ends = inl refl; part = All-cons (λ x. (x == 10) ≡ false) b bytes other.0 part })
      ]
]

-- the bytes up to the last line feed
pub whole_of : (bytes : List ℕ) → (whole : List ℕ) × IsWhole whole bytes
whole_of [] = ([], record { rest = []; cut = refl; ends = inl refl; part = part_none })
whole_of (b ∷ bytes) = let w = whole_of bytes in whole_cons b bytes w.0 w.1
