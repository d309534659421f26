-- The text of lines is laid out as those lines.
use Rattle.std.proofs.Common.{◌≡◌, ◌≤◌, ◌*◌, ◌+◌, ◌-◌, ℕ, zero, suc, List, [], ◌∷◌, ◌++◌, length, take, drop, Some, slice_get, Bool, true, false, cond, get_or, refl, sym, ap, ap₂, subst, ◌∙◌, arith, append_assoc, length-append}
use Rattle.std.specs.Prelude.{not, ◌==◌, ◌||◌, ◌&&◌, nat_lt, if◌then◌else◌}
use Rattle.std.specs.List.{list_all, slice_split}
use Rattle.std.specs.Str.{chars, IsUtf8, bytes_eq}
use Rattle.std.specs.Str.Lines.{strip_carriage_return}
use Rattle.std.proofs.lemmas.List.Splits.{slice_split_at}
use Rattle.std.proofs.lemmas.Slice.Eq.{bytes_eq-Decides}
use Rattle.std.proofs.lemmas.Str.{chars-append}
use Rattle.ucd_derived.proofs.Computing.{ucd_derived}
use Rattle.opa_words.specs.Characters.{begins_word, continues_word}
use Rattle.opa_words.specs.Kinds.{is_word}
use Rattle.opa_words.specs.Reserved.{is_reserved}
use Rattle.std.proofs.lemmas.List.Elements.{All-from_recursion}
use Rattle.std.specs.List.{AllByRecursion}
use Rattle.opa_io.proofs.Bools.{and_first, and_second}
use Rattle.opa_words.specs.declared.layout.block.BlockLine.{BlockLine}
use Rattle.opa_words.specs.declared.layout.fault.LayoutFault.{LayoutFault}
use Rattle.opa_words.specs.Layout.Lines.{Row, numbered, rows_from, without_mark}
use Rattle.opa_words.specs.Layout.Indents.{is_blank, past_blanks, is_void, is_passed, levels, level, is_odd, has_odd_space}
use Rattle.opa_words.specs.Layout.Blocks.{line_of, kept, block_lines}
use Rattle.opa_words.specs.Layout.Faults.{is_over, is_astray, next_most, faults_from, layout_faults}
use Rattle.opa_words.specs.Pieces.{Piece, IsPiece, word}
use Rattle.opa_words.specs.Written.{Written, AreWritten, text_of}
use Rattle.opa_words.proofs.Separate.{all_append}
use Rattle.opa_wording.specs.Wordings.{token}
use Rattle.opa_wording.specs.Laid.{Laid, block_line, block_from, size, indent, line_bytes, laid_text}
use Rattle.opa_wording.proofs.TokenBytes.{avoids, openings, unbroken, text_unbroken, OpensLine, piece_opens}

-- A line is written as tokens, and no blank stands before the first.
pub record IsSound (l : Laid) : Type 0 where
  pub first : Piece
  pub later : List Written
  pub words_are : l.words ≡ token false first ∷ later
  pub written : AreWritten l.words

abbrev pub AreSound : List Laid → Type 0
AreSound ls = AllByRecursion IsSound ls

-- ---- bytes of a line

indent_unbroken : (k : ℕ) → list_all unbroken (indent k) ≡ true
indent_unbroken zero = refl
indent_unbroken (suc k) = indent_unbroken k

line_unbroken : (l : Laid) → IsSound l → list_all unbroken (line_bytes l) ≡ true
line_unbroken l h = all_append unbroken (indent l.level) (text_of l.words) (indent_unbroken l.level) (text_unbroken l.words h.written)

no_feed : (b : ℕ) → unbroken b ≡ true → (b == 10) ≡ false
no_feed b h = grind (arith, h)

no_return : (b : ℕ) → unbroken b ≡ true → (b == 13) ≡ false
no_return b h = grind (arith, h)

no_feeds : (bs : List ℕ) → list_all unbroken bs ≡ true → AllByRecursion (λ b. (b == 10) ≡ false) bs
no_feeds [] h = tt
no_feeds (b ∷ bs) h = (no_feed b (and_first (unbroken b) (list_all unbroken bs) h), no_feeds bs (and_second (unbroken b) (list_all unbroken bs) h))

no_return_at : (bs : List ℕ) (i : ℕ) → list_all unbroken bs ≡ true → (get_or bs i 0 == 13) ≡ false
no_return_at [] i h = refl
no_return_at (b ∷ bs) zero h = no_return b (and_first (unbroken b) (list_all unbroken bs) h)
no_return_at (b ∷ bs) (suc i) h = no_return_at bs i (and_second (unbroken b) (list_all unbroken bs) h)

unstripped : (bs : List ℕ) → list_all unbroken bs ≡ true → strip_carriage_return bs ≡ bs
unstripped bs h = ap (λ b. cond b (take (length bs - 1) bs) bs) (no_return_at bs (length bs - 1) h)

-- ---- rows

abbrev row : ℕ → Laid → Row
row n l = record { number = n; size = length (line_bytes l); text = line_bytes l }

abbrev rows_of : ℕ → List Laid → List Row
rows_of n [] = []
rows_of n (l ∷ ls) = row n l ∷ rows_of (n + 1) ls

abbrev parts : List Laid → List (List ℕ)
parts [] = [] ∷ []
parts (l ∷ ls) = line_bytes l ∷ parts ls

abbrev is_feed : ℕ → Bool
is_feed b = b == 10

split_parts : (ls : List Laid) → AreSound ls → slice_split is_feed (laid_text ls) ≡ parts ls
split_parts [] h = refl
split_parts (l ∷ ls) h = slice_split_at is_feed (line_bytes l) 10 (laid_text ls) (All-from_recursion (λ b. (b == 10) ≡ false) (line_bytes l) (no_feeds (line_bytes l) (line_unbroken l h.0))) refl ∙ ap (λ ps. line_bytes l ∷ ps) (split_parts ls h.1)

numbered_more : (n : ℕ) (x : List ℕ) (ls : List Laid) → numbered n (x ∷ parts ls) ≡ record { number = n; size = length x; text = strip_carriage_return x } ∷ numbered (n + 1) (parts ls)
numbered_more n x [] = refl
numbered_more n x (l ∷ ls) = refl

numbered_parts : (n : ℕ) (ls : List Laid) → AreSound ls → numbered n (parts ls) ≡ rows_of n ls
numbered_parts n [] h = refl
numbered_parts n (l ∷ ls) h =
    numbered_more n (line_bytes l) ls ∙ ap₂ (λ (t : List ℕ) (rs : List Row). (let r : Row = record { number = n; size = length (line_bytes l); text = t } in r) ∷ rs) (unstripped (line_bytes l) (line_unbroken l h.0)) (numbered_parts (n + 1) ls h.1)

rows_laid : (n : ℕ) (ls : List Laid) → AreSound ls → rows_from n (laid_text ls) ≡ rows_of n ls
rows_laid n ls h = ap (numbered n) (split_parts ls h) ∙ numbered_parts n ls h

-- ---- what a row is in a block

-- what begins a line is no blank and begins no comment
opening_blank : (b : ℕ) → avoids openings b ≡ true → is_blank b ≡ false
opening_blank b h = grind (arith, h)

opening_tab : (b : ℕ) → avoids openings b ≡ true → (b == 9) ≡ false
opening_tab b h = grind (arith, h)

opening_space : (b : ℕ) → avoids openings b ≡ true → (b == 32) ≡ false
opening_space b h = grind (arith, h)

opening_comment : (b : ℕ) → avoids openings b ≡ true → (b == 35) ≡ false
opening_comment b h = grind (arith, h)

past_first : (b : ℕ) (bs : List ℕ) → avoids openings b ≡ true → past_blanks (b ∷ bs) ≡ b ∷ bs
past_first b bs h = ap (λ t. cond t (past_blanks bs) (b ∷ bs)) (opening_blank b h)

past_indent : (k : ℕ) (b : ℕ) (bs : List ℕ) → avoids openings b ≡ true → past_blanks (indent k ++ b ∷ bs) ≡ b ∷ bs
past_indent zero b bs h = past_first b bs h
past_indent (suc k) b bs h = past_indent k b bs h

level_first : (b : ℕ) (bs : List ℕ) → avoids openings b ≡ true → levels false (b ∷ bs) ≡ 0
level_first b bs h =
    ap (λ t. if t then levels false bs + 1 else (if b == 32 then levels true bs else 0)) (opening_tab b h) ∙ ap (λ t. if t then levels true bs else 0) (opening_space b h)

level_indent : (k : ℕ) (b : ℕ) (bs : List ℕ) → avoids openings b ≡ true → levels false (indent k ++ b ∷ bs) ≡ k
level_indent zero b bs h = level_first b bs h
level_indent (suc k) b bs h = ap (λ n. n + 1) (level_indent k b bs h) ∙ (let e : k + 1 ≡ suc k = omega arith in e)

odd_first : (b : ℕ) (bs : List ℕ) → avoids openings b ≡ true → is_odd false (b ∷ bs) ≡ false
odd_first b bs h =
    ap (λ t. if t then is_odd false bs else (if b == 32 then is_odd true bs else false)) (opening_tab b h) ∙ ap (λ t. if t then is_odd true bs else false) (opening_space b h)

odd_indent : (k : ℕ) (b : ℕ) (bs : List ℕ) → avoids openings b ≡ true → is_odd false (indent k ++ b ∷ bs) ≡ false
odd_indent zero b bs h = odd_first b bs h
odd_indent (suc k) b bs h = odd_indent k b bs h

-- what a line's bytes are to the layout
pub record IsRead (l : Laid) : Type 0 where
  pub passed : is_passed (line_bytes l) ≡ false
  pub level_is : level (line_bytes l) ≡ l.level
  pub text_is : past_blanks (line_bytes l) ≡ text_of l.words
  pub even : has_odd_space (line_bytes l) ≡ false

line_opens : (l : Laid) → IsSound l → OpensLine (text_of l.words)
line_opens l h =
    let first : AreWritten (token false h.first ∷ h.later) = subst AreWritten h.words_are h.written in
    subst (λ ws. OpensLine (text_of ws)) (sym h.words_are) (piece_opens h.first (text_of h.later) first.0)

pub line_read : (l : Laid) → IsSound l → IsRead l
line_read l h =
    let o = line_opens l h in
    let bytes : line_bytes l ≡ indent l.level ++ o.first ∷ o.later = ap (λ t. indent l.level ++ t) o.is in record {
      passed = ap (λ t. is_void (past_blanks t)) bytes ∙ ap is_void (past_indent l.level o.first o.later o.passes) ∙ opening_comment o.first o.passes;
      level_is = ap level bytes ∙ level_indent l.level o.first o.later o.passes;
      text_is = ap past_blanks bytes ∙ past_indent l.level o.first o.later o.passes ∙ sym o.is;
      even = ap has_odd_space bytes ∙ odd_indent l.level o.first o.later o.passes;
    }

kept_rows : (n : ℕ) (ls : List Laid) → AreSound ls → kept (rows_of n ls) ≡ block_from n ls
kept_rows n [] h = refl
kept_rows n (l ∷ ls) h =
    let r = line_read l h.0 in
    ap (λ b. if b then kept (rows_of (n + 1) ls) else line_of (row n l) ∷ kept (rows_of (n + 1) ls)) r.passed
    ∙ ap₂ (λ (k : ℕ) (t : List ℕ). (let b : BlockLine = record { level = k; line = n; text = t } in b) ∷ kept (rows_of (n + 1) ls)) r.level_is r.text_is
    ∙ ap (λ bs. block_line n l ∷ bs) (kept_rows (n + 1) ls h.1)

-- ---- no line is at fault

-- each line has at most one level more than the line before it, and is short enough
pub data AreEven : ℕ → List Laid → Type 0 where
  none : {most : ℕ} → AreEven most []
  one_more : {most : ℕ} {l : Laid} {ls : List Laid} → l.level ≤ most → l.level ≤ 64 → size l ≤ 65536 → AreEven (l.level + 1) ls → AreEven most (l ∷ ls)

indent_length : (k : ℕ) → length (indent k) ≡ 2 * k
indent_length zero = refl
indent_length (suc k) = let e = indent_length k in omega (arith, e)

not_over : (n size k : ℕ) (r : Row) → r.size ≡ size → level r.text ≡ k → size ≤ 65536 → k ≤ 64 → is_over r ≡ false
not_over n size k r s e h l = go (is_passed r.text)
  where
    large : nat_lt 65536 r.size ≡ false
    large = grind (arith, s, h)

    deep : nat_lt 64 (level r.text) ≡ false
    deep = grind (arith, e, l)

    go : (b : Bool) → (nat_lt 65536 r.size || (not b && nat_lt 64 (level r.text))) ≡ false
    go true = ap (λ t. t || false) large
    go false = ap (λ t. t || nat_lt 64 (level r.text)) large ∙ deep

not_astray : (most k : ℕ) (r : Row) → is_passed r.text ≡ false → level r.text ≡ k → k ≤ most → has_odd_space r.text ≡ false → is_astray most r ≡ false
not_astray most k r p e l o =
    let low : nat_lt most (level r.text) ≡ false = grind (arith, e, l) in
    ap (λ b. not b && (nat_lt most (level r.text) || has_odd_space r.text)) p ∙ ap (λ b. b || has_odd_space r.text) low ∙ o

faultless : (n most : ℕ) (ls : List Laid) → AreSound ls → AreEven most ls → faults_from most (rows_of n ls) ≡ []
faultless n most [] h e = refl
faultless n most (l ∷ ls) h (AreEven.one_more low within short more) =
    let r = line_read l h.0 in
    let length_is : length (line_bytes l) ≡ size l = length-append (indent l.level) (text_of l.words) ∙ ap (λ k. k + length (text_of l.words)) (indent_length l.level) in
    let over : is_over (row n l) ≡ false = not_over n (size l) l.level (row n l) length_is r.level_is short within in
    let astray : is_astray most (row n l) ≡ false = not_astray most l.level (row n l) r.passed r.level_is low r.even in
    let next : next_most most (row n l) ≡ l.level + 1 = ap (λ b. if b then most else level (line_bytes l) + 1) r.passed ∙ ap (λ k. k + 1) r.level_is in
    ap₂ (λ (a b : Bool). (if a then LayoutFault.Limit n ∷ [] else (if b then LayoutFault.Indent n ∷ [] else [])) ++ faults_from (next_most most (row n l)) (rows_of (n + 1) ls)) over astray
    ∙ ap (λ k. faults_from k (rows_of (n + 1) ls)) next ∙ faultless (n + 1) (l.level + 1) ls h.1 more

pub even_more : (a b : ℕ) (ls : List Laid) → AreEven a ls → a ≤ b → AreEven b ls
even_more a b [] h le = AreEven.none
even_more a b (l ∷ ls) (AreEven.one_more low within short more) le = AreEven.one_more (omega (arith, low, le)) within short more

-- a short line at this level
pub record IsAt (k : ℕ) (l : Laid) : Type 0 where
  pub level_is : l.level ≡ k
  pub short : size l ≤ 65536

-- lines at one level, and what follows them at that level at most
pub even_append : (k : ℕ) (ls rest : List Laid) (most : ℕ) → k ≤ 64 → AllByRecursion (IsAt k) ls → AreEven k rest → k ≤ most → AreEven most (ls ++ rest)
even_append k [] rest most top h e le = even_more k most rest e le
even_append k (l ∷ ls) rest most top h e le =
    let is = h.0.level_is in
    AreEven.one_more (omega (arith, is, le)) (omega (arith, is, top)) h.0.short (even_append k ls rest (l.level + 1) top h.1 e (omega (arith, is)))

-- ---- a text that begins with a word has no byte order mark

marked_first : (rest : List ℕ) → slice_get (chars (239 ∷ 187 ∷ 191 ∷ rest)) 0 ≡ Some 65279
unfolding chars
marked_first [] = refl
marked_first (b ∷ bs) = refl

no_mark_letter : begins_word 65279 ≡ false
unfolding ucd_derived
no_mark_letter = refl

-- the front of three
record BeginsMarked (bs : List ℕ) : Type 0 where
  pub rest : List ℕ
  pub is : bs ≡ 239 ∷ 187 ∷ 191 ∷ rest

front_three : (bs : List ℕ) → take 3 bs ≡ 239 ∷ 187 ∷ 191 ∷ [] → BeginsMarked bs
front_three [] e = absurd (cc e)
front_three (a ∷ []) e = absurd (cc e)
front_three (a ∷ b ∷ []) e = absurd (cc e)
front_three (a ∷ b ∷ c ∷ rest) e =
    let p : a ≡ 239 = cc e in
    let q : b ≡ 187 = cc e in
    let r : c ≡ 191 = cc e in
    record { rest = rest; is = ap (λ x. x ∷ b ∷ c ∷ rest) p ∙ ap (λ x. 239 ∷ x ∷ c ∷ rest) q ∙ ap (λ x. 239 ∷ 187 ∷ x ∷ rest) r }

word_first : (cs : List ℕ) → is_word cs ≡ true → (c : ℕ) (more : List ℕ) → slice_get (cs ++ more) 0 ≡ Some c → begins_word c ≡ true
word_first [] h c more e = absurd (cc h)
word_first (d ∷ cs) h c more e = subst (λ x. begins_word x ≡ true) (let same : d ≡ c = cc e in same) (and_first (begins_word d) (list_all continues_word cs) h)

unmarked : (t more : List ℕ) → IsUtf8 t → is_word (chars t) ≡ true → without_mark (t ++ more) ≡ t ++ more
unmarked t more u h = go (bytes_eq (take 3 (t ++ more)) (239 ∷ 187 ∷ 191 ∷ [])) refl
  where
    go : (b : Bool) → bytes_eq (take 3 (t ++ more)) (239 ∷ 187 ∷ 191 ∷ []) ≡ b → (if b then drop 3 (t ++ more) else t ++ more) ≡ t ++ more
    go false e = refl
    go true e =
        let m = front_three (t ++ more) ((bytes_eq-Decides (take 3 (t ++ more)) (239 ∷ 187 ∷ 191 ∷ [])).0 e) in
        let first : slice_get (chars t ++ chars more) 0 ≡ Some 65279 = ap (λ cs. slice_get cs 0) (sym (chars-append t more u)) ∙ ap (λ bs. slice_get (chars bs) 0) m.is ∙ marked_first m.rest in
        absurd (let k : true ≡ false = sym (word_first (chars t) h 65279 (chars more) first) ∙ no_mark_letter in cc k)

-- ---- the whole text

-- it begins with a word at the left
pub record BeginsWithWord (l : Laid) : Type 0 where
  pub top : l.level ≡ 0
  pub text : List ℕ
  pub later : List Written
  pub words_are : l.words ≡ token false (word text) ∷ later
  pub piece : IsPiece (word text)
  pub unreserved : is_reserved text ≡ false

text_unmarked : (l : Laid) (ls : List Laid) → BeginsWithWord l → without_mark (laid_text (l ∷ ls)) ≡ laid_text (l ∷ ls)
text_unmarked l ls h =
    let more : List ℕ = text_of h.later ++ 10 ∷ laid_text ls in
    let is : laid_text (l ∷ ls) ≡ h.text ++ more = ap₂ (λ (k : ℕ) (ws : List Written). (indent k ++ text_of ws) ++ 10 ∷ laid_text ls) h.top h.words_are ∙ append_assoc h.text (text_of h.later) (10 ∷ laid_text ls) in
    ap without_mark is ∙ unmarked h.text more h.piece.utf8 h.piece.token ∙ sym is

pub laid_out : (l : Laid) (ls : List Laid) → BeginsWithWord l → AreSound (l ∷ ls) → block_lines (laid_text (l ∷ ls)) ≡ block_from 1 (l ∷ ls)
laid_out l ls b h = ap (λ t. kept (rows_from 1 t)) (text_unmarked l ls b) ∙ ap kept (rows_laid 1 (l ∷ ls) h) ∙ kept_rows 1 (l ∷ ls) h

pub laid_faultless : (l : Laid) (ls : List Laid) → BeginsWithWord l → AreSound (l ∷ ls) → AreEven 0 (l ∷ ls) → layout_faults (laid_text (l ∷ ls)) ≡ []
laid_faultless l ls b h e = ap (λ t. faults_from 0 (rows_from 1 t)) (text_unmarked l ls b) ∙ ap (faults_from 0) (rows_laid 1 (l ∷ ls) h) ∙ faultless 1 0 (l ∷ ls) h e
