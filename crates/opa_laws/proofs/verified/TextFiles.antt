-- The files of a shelf are texts, and so are the lines of their blocks.
use Rattle.std.proofs.Common.{◌≡◌, ℕ, ◌+◌, ◌≤◌, List, [], ◌∷◌, ◌++◌, length, All, Bool, true, false, cond, Option, None, Some, Result, Ok, Err, refl, sym, subst, append_assoc, arith}
use Rattle.std.specs.Prelude.{◌==◌, nat_lt}
use Rattle.std.specs.List.{AllByRecursion}
use Rattle.std.specs.FinMap as map
use Rattle.std.specs.Str.{IsUtf8, is_utf8, chars}
use Rattle.std.proofs.lemmas.Str.{IsUtf8-between, IsUtf8-append, IsUtf8-from_is_utf8}
use Rattle.std.proofs.lemmas.List.Elements.{All-head, All-tail}
use Rattle.opa_io.specs.Outside.{Files}
use Rattle.opa_io.specs.declared.limits.TheConstants.{MOST_FILE}
use Rattle.opa_words.specs.Cuts.{Cuts}
use Rattle.opa_words.specs.Kinds.{doubled, quoted}
use Rattle.opa_words.specs.Pieces.{Piece, pieces}
use Rattle.opa_words.specs.Places.{IsWithin, token_text}
use Rattle.opa_words.specs.declared.kinds.Token.{Token}
use Rattle.opa_words.proofs.PlaceLaws.{tokens_within}
use Rattle.opa_words.specs.declared.layout.block.Block.{Block}
use Rattle.opa_words.specs.Layout.Lines.{Row}
use Rattle.opa_words.specs.Layout.Blocks.{lines_of}
use Rattle.opa_tree.specs.declared.faults.RbKind.{RbKind}
use Rattle.opa_tree.specs.declared.faults.RbKind.TheVariants.{Limit}
use Rattle.opa_rulebase.specs.declared.files.fault.Unread.{Unread}
use Rattle.opa_rulebase.specs.declared.files.source.FileLine.{FileLine}
use Rattle.opa_rulebase.specs.declared.files.source.SourceFile.{SourceFile}
use Rattle.opa_rulebase.specs.Files.FileLines as named
use Rattle.opa_rulebase.specs.Files.FileLines.{AreFileLines, NamesFile, first_word}
use Rattle.opa_rulebase.specs.Files.Files as files
use Rattle.opa_rulebase.specs.Files.Files.{AreFiles, IsMain, text_or_fault, text_in, text_under, source, with_more, file_then, files_from}
use Rattle.opa_rulebase.specs.Files.Layouts as laid
use Rattle.opa_rulebase.specs.Files.Layouts.{AreBlocksOf, AreLaid}
use Rattle.opa_laws.proofs.verified.Seams.{before, behind}
use Rattle.opa_laws.proofs.verified.TextRows.{RowIsText, rows_are_texts, LineIsText, lines_are_texts}

abbrev pub Each : {X : Type 0} → (X → Type 0) → List X → Type 0
Each P xs = AllByRecursion P xs

pub each_append : {X : Type 0} (P : X → Type 0) (xs ys : List X) → Each P xs → Each P ys → Each P (xs ++ ys)
each_append P [] ys h k = k
each_append P (x ∷ xs) ys h k = (h.0, each_append P xs ys h.1 k)

pub each_parts : {X : Type 0} (P : X → Type 0) (xs ys : List X) → Each P (xs ++ ys) → Each P xs × Each P ys
each_parts P [] ys h = (tt, h)
each_parts P (x ∷ xs) ys h = let rest = each_parts P xs ys h.1 in ((h.0, rest.0), rest.1)

-- ---- what stands between quotes

undoubled : (xs run : List ℕ) → IsUtf8 (run ++ doubled xs) → IsUtf8 (run ++ xs)
undoubled [] run u = u
undoubled (x ∷ xs) run u = go (x == 34) refl u (undoubled xs)
  where
    go : (t : Bool) → (x == 34) ≡ t → IsUtf8 (run ++ cond t (34 ∷ 34 ∷ doubled xs) (x ∷ doubled xs)) → ((run : List ℕ) → IsUtf8 (run ++ doubled xs) → IsUtf8 (run ++ xs)) → IsUtf8 (run ++ x ∷ xs)
    go true e u rec =
        let is : x ≡ 34 = grind (arith, e) in
        let more : IsUtf8 (34 ∷ doubled xs) = behind run 34 (34 ∷ doubled xs) (grind arith) u in
        subst (λ c. IsUtf8 (run ++ c ∷ xs)) (sym is) (IsUtf8-append run (34 ∷ xs) (before run 34 (34 ∷ doubled xs) (grind arith) u) (rec (34 ∷ []) more))
    go false e u rec = subst IsUtf8 (append_assoc run (x ∷ []) xs) (rec (run ++ x ∷ []) (subst IsUtf8 (sym (append_assoc run (x ∷ []) (doubled xs))) u))

unquoted_text : (t : List ℕ) → IsUtf8 (quoted t) → IsUtf8 t
unquoted_text t u = undoubled t [] (before (doubled t) 34 [] (grind arith) (behind [] 34 (doubled t ++ 34 ∷ []) (grind arith) u))

token_is_text : (bytes : List ℕ) (t : Token) → IsUtf8 bytes → IsWithin bytes t → IsUtf8 (token_text bytes t)
token_is_text bytes t u w = IsUtf8-between bytes t.start t.end u w.order w.from w.to

pieces_are_texts : (bytes : List ℕ) (ts : List Token) → IsUtf8 bytes → Each (λ t. IsUtf8 (token_text bytes t)) ts → Each (λ p. IsUtf8 p.text) (pieces bytes ts)
pieces_are_texts bytes [] u h = tt
pieces_are_texts bytes (t ∷ ts) u h = (h.0, pieces_are_texts bytes ts u h.1)

cut_texts : (bytes : List ℕ) (ts : List Token) → IsUtf8 bytes → Cuts (length bytes) (chars bytes) ts → Each (λ p. IsUtf8 p.text) (pieces bytes ts)
cut_texts bytes ts u c = pieces_are_texts bytes ts u (at ts (tokens_within bytes ts u c))
  where
    at : (ts : List Token) → All (IsWithin bytes) ts → Each (λ t. IsUtf8 (token_text bytes t)) ts
    at [] w = tt
    at (t ∷ ts) w = (token_is_text bytes t u (All-head (IsWithin bytes) t ts w), at ts (All-tail (IsWithin bytes) t ts w))

-- ---- names of files

names_text : (n : ℕ) (line : List ℕ) (f : FileLine) → IsUtf8 line → NamesFile n line f → IsUtf8 f.name
names_text n line f u h =
    let cut = h.tokens in
    let all = subst (Each (λ (p : Piece). IsUtf8 p.text)) cut.2 (cut_texts line cut.0 u cut.1) in
    unquoted_text f.name all.1.0

abbrev NameIsText : FileLine → Type 0
NameIsText f = IsUtf8 f.name

named_texts : {rs : List Row} {fs : List FileLine} → AreFileLines rs fs → Each RowIsText rs → Each NameIsText fs
named_texts named.AreFileLines.none = λ h. tt
named_texts (named.AreFileLines.passed none more) = λ h. named_texts more h.1
named_texts (named.AreFileLines.named {r = r} {f = f} is more) = λ h. (names_text r.number r.text f h.0.0 is, named_texts more h.1)

-- ---- files

-- a file's name and its text are texts, and the text isn't too long
abbrev pub SourceIsText : SourceFile → Type 0
SourceIsText f = IsUtf8 f.name × IsUtf8 f.text × (length f.text ≤ MOST_FILE)

abbrev OfOk : {A E : Type 0} → (A → Type 0) → Result A E → Type 0
OfOk P (Ok x) = P x
OfOk P (Err e) = Unit {0}

abbrev IsTaken : List ℕ → Type 0
IsTaken t = IsUtf8 t × (length t ≤ MOST_FILE)

text_taken : (o : Option (List ℕ)) → OfOk IsTaken (text_in o)
text_taken None = tt
text_taken (Some bytes) = go (nat_lt MOST_FILE (length bytes)) refl
  where
    told : (t : Bool) → is_utf8 bytes ≡ t → length bytes ≤ MOST_FILE → OfOk IsTaken (text_or_fault (cond t (Some bytes) None))
    told true e l = (IsUtf8-from_is_utf8 bytes e, l)
    told false e l = tt

    go : (t : Bool) → nat_lt MOST_FILE (length bytes) ≡ t → OfOk IsTaken (cond t (Err Limit) (text_or_fault (cond (is_utf8 bytes) (Some bytes) None)))
    go true e = tt
    go false e = told (is_utf8 bytes) refl (grind (arith, e))

more_sources : (xs : List SourceFile) (r : Result (List SourceFile) Unread) → Each SourceIsText xs → OfOk (Each SourceIsText) r → OfOk (Each SourceIsText) (with_more xs r)
more_sources xs (Ok ys) h k = each_append SourceIsText xs ys h k
more_sources xs (Err u) h k = tt

then_source : (n : ℕ) (l : FileLine) (t : Result (List ℕ) RbKind) (r : Result (List SourceFile) Unread) → IsUtf8 l.name → OfOk IsTaken t → OfOk (Each SourceIsText) r → OfOk (Each SourceIsText) (file_then n l t r)
then_source n l (Err _) r u h k = tt
then_source n l (Ok t) r u h k = more_sources (source l.name l.is_table t ∷ []) r ((u, h.0, h.1), tt) k

further_sources : (fs : Files) (n : ℕ) (ls : List FileLine) → Each NameIsText ls → OfOk (Each SourceIsText) (files_from fs n ls)
further_sources fs n [] h = tt
further_sources fs n (l ∷ ls) h = then_source n l (text_under fs l.name) (files_from fs (n + 1) ls) h.0 (text_taken (map.get fs l.name)) (further_sources fs (n + 1) ls h.1)

main_taken : (fs : Files) (name t : List ℕ) → text_under fs name ≡ Ok t → IsTaken t
main_taken fs name t e = let h : OfOk {E = RbKind} IsTaken (Ok t) = subst (OfOk {E = RbKind} IsTaken) e (text_taken (map.get fs name)) in h

sources_taken : {fs : Files} {name : List ℕ} {r : Result (List SourceFile) Unread} → IsUtf8 name → AreFiles fs name r → OfOk (Each SourceIsText) r
sources_taken u (files.AreFiles.no_main _ e) = tt
sources_taken u (files.AreFiles.too_many t lines over main at) = tt
sources_taken {fs} {name} u (files.AreFiles.with_named t lines main few) =
    let taken = main_taken fs name t main.text_is in
    more_sources (source name false t ∷ []) (files_from fs 1 lines) ((u, taken.0, taken.1), tt) (further_sources fs 1 lines (named_texts main.lines_are (rows_are_texts t taken.0 taken.1)))

pub sources_are_texts : (fs : Files) (name : List ℕ) (sources : List SourceFile) → IsUtf8 name → AreFiles fs name (Ok sources) → Each SourceIsText sources
sources_are_texts fs name sources u h = sources_taken u h

-- ---- blocks

abbrev pub BlockIsText : Block → Type 0
BlockIsText b = Each LineIsText b.lines

lines_in_blocks : (bs : List Block) → Each LineIsText (lines_of bs) → Each BlockIsText bs
lines_in_blocks [] h = tt
lines_in_blocks (b ∷ bs) h = let parts = each_parts LineIsText b.lines (lines_of bs) h in (parts.0, lines_in_blocks bs parts.1)

blocks_of_file : (n : ℕ) (f : SourceFile) (bs : List Block) → SourceIsText f → AreBlocksOf n f bs → Each BlockIsText bs
blocks_of_file n f bs is h = go f.is_table refl
  where
    go : (t : Bool) → f.is_table ≡ t → Each BlockIsText bs
    go true e = let none : Each BlockIsText [] = tt in subst (Each BlockIsText) (sym (h.of_table e)) none
    go false e = lines_in_blocks bs (subst (Each LineIsText) (sym (h.of_rules e).1) (lines_are_texts f.text is.1 is.2))

pub blocks_are_texts : {n : ℕ} {fs : List SourceFile} {bs : List Block} → AreLaid n fs bs → Each SourceIsText fs → Each BlockIsText bs
blocks_are_texts laid.AreLaid.none = λ h. tt
blocks_are_texts (laid.AreLaid.file {n = n} {f = f} {bs = bs} {more = more} is k) = λ h. each_append BlockIsText bs more (blocks_of_file n f bs h.0 is) (blocks_are_texts k h.1)
