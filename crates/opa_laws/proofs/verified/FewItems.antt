-- What files open declares a model: no more is declared than there are lines.
use Rattle.std.proofs.Common.{◌≡◌, ℕ, ◌+◌, ◌*◌, ◌≤◌, Bool, true, false, cond, List, [], ◌∷◌, ◌++◌, length, map, filter, Option, None, Some, Result, Ok, Err, refl, sym, ap, subst, length-append, arith}
use Rattle.std.specs.Prelude.{◌==◌, if◌then◌else◌}
use Rattle.std.specs.Option.{option_map, option_and_then}
use Rattle.std.proofs.lemmas.List.{length-map}
use Rattle.std.proofs.lemmas.Option.{cond_some}
use Rattle.opa_io.specs.Outside.{Files}
use Rattle.opa_io.specs.declared.limits.TheConstants.{MOST_FILE}
use Rattle.opa_io.proofs.Options.{bound_parts, mapped_parts}
use Rattle.opa_model.specs.declared.lists.Lists.{Lists}
use Rattle.opa_model.specs.Models.{IsModel}
use Rattle.opa_words.specs.declared.kinds.Token.{Token}
use Rattle.opa_words.specs.declared.layout.block.Block.{Block}
use Rattle.opa_words.specs.Layout.Blocks.{lines_of}
use Rattle.opa_words.proofs.layout.ShortLaws.{block_lines-few}
use Rattle.opa_tree.specs.declared.faults.RbKind.{RbKind}
use Rattle.opa_rulebase.specs.declared.files.fault.Unread.{Unread}
use Rattle.opa_rulebase.specs.declared.files.source.FileLine.{FileLine}
use Rattle.opa_rulebase.specs.declared.files.source.SourceFile.{SourceFile}
use Rattle.opa_rulebase.specs.Files.Files as files
use Rattle.opa_rulebase.specs.Files.Files.{AreFiles, text_under, source, with_more, file_then, files_from}
use Rattle.opa_rulebase.specs.Files.Layouts as laid
use Rattle.opa_rulebase.specs.Files.Layouts.{AreBlocksOf, AreLaid}
use Rattle.opa_decl.specs.declared.cut.CutBlock.{CutBlock}
use Rattle.opa_decl.specs.declared.cut.CutLine.{CutLine}
use Rattle.opa_decl.specs.declared.head.Head.{Head}
use Rattle.opa_decl.specs.declared.head.Head.TheVariants as head
use Rattle.opa_decl.specs.declared.items.Item.{Item}
use Rattle.opa_decl.specs.declared.items.Item.TheVariants as item
use Rattle.opa_decl.specs.declared.items.Name.{Name}
use Rattle.opa_decl.specs.Cutting.{block_of, line_of}
use Rattle.opa_decl.specs.Declarations.{Declares, items_in, items_of, items_or_none}
use Rattle.opa_decl.specs.Heads.{head_of, is_declaration}
use Rattle.opa_decl.specs.Spelling.{behind_head, member_in, headed_verb, headed_phrase, headed_text, inside_in, screen_item, verb_item, verb_block, global_block, entity_block, goal_block, screen_block, file_block, block_by, spelled_in, spelled}
use Rattle.opa_decl.specs.Steps.{each}
use Rattle.opa_decl.proofs.DeclaredModels.{declared_by}
use Rattle.opa_decl.proofs.SpelledItems.{same_value}
use Rattle.opa_laws.proofs.verified.TextFiles.{Each, SourceIsText}

-- ---- blocks

each_length : {A B : Type 0} (f : A → Option B) (xs : List A) (ys : List B) → each f xs ≡ Some ys → length ys ≡ length xs
each_length f [] ys h = sym (ap length (same_value h))
each_length {A} {B} f (x ∷ xs) ys h =
    let here = bound_parts (λ (y : B). option_map (λ (zs : List B). y ∷ zs) (each f xs)) (f x) ys h in
    let rest = mapped_parts (λ (zs : List B). here.0 ∷ zs) (each f xs) ys here.2 in
    let same = ap length rest.2 in let more = each_length f xs rest.0 rest.1 in omega (arith, same, more)

-- no more items than lines
abbrev AreFew : List CutLine → List Item → Type 0
AreFew deeper is = length is ≤ 1 + length deeper

one_few : (deeper : List CutLine) (i : Item) (is : List Item) → i ∷ [] ≡ is → AreFew deeper is
one_few deeper i is e = let same = ap length e in omega (arith, same)

verb_few : (file : ℕ) (first : CutLine) (deeper : List CutLine) (is : List Item) → verb_block file first deeper ≡ Some is → AreFew deeper is
verb_few file first [] is h = let v = mapped_parts (verb_item file first) (headed_verb first) is h in one_few [] _ is v.2
verb_few file first (line ∷ lines) is h = absurd (cc h)

global_few : (file : ℕ) (first : CutLine) (deeper : List CutLine) (is : List Item) → global_block file first deeper ≡ Some is → AreFew deeper is
global_few file first [] is h = absurd (cc h)
global_few file first (line ∷ lines) is h =
    let more = bound_parts (λ (more : List Token). option_and_then (λ (members : List Item). if length more == 0 then Some members else None) (each (member_in file true) (line ∷ lines))) (behind_head first) is h in
    let members = bound_parts (λ (members : List Item). if length more.0 == 0 then Some members else None) (each (member_in file true) (line ∷ lines)) is more.2 in
    let many = each_length (member_in file true) (line ∷ lines) members.0 members.1 in
    let same = ap length (cond_some (length more.0 == 0) members.0 is members.2).1 in
    omega (arith, many, same)

entity_few : (file : ℕ) (first : CutLine) (deeper : List CutLine) (is : List Item) → entity_block file first deeper ≡ Some is → AreFew deeper is
entity_few file first [] is h = absurd (cc h)
entity_few file first (second ∷ lines) is h =
    let make : Name → Option Name × Name → List Item → List Item = λ phrase above members. item.Entity (record { phrase = phrase; parent = above.0; inside = above.1 }) ∷ members in
    let phrase = bound_parts (λ (phrase : Name). option_and_then (λ (above : Option Name × Name). option_and_then (λ (members : List Item). Some (make phrase above members)) (each (member_in file false) lines)) (inside_in file second)) (headed_phrase file first) is h in
    let above = bound_parts (λ (above : Option Name × Name). option_and_then (λ (members : List Item). Some (make phrase.0 above members)) (each (member_in file false) lines)) (inside_in file second) is phrase.2 in
    let members = bound_parts (λ (members : List Item). Some (make phrase.0 above.0 members)) (each (member_in file false) lines) is above.2 in
    let many = each_length (member_in file false) lines members.0 members.1 in
    let is_made : make phrase.0 above.0 members.0 ≡ is = same_value members.2 in
    let same = ap length is_made in
    omega (arith, many, same)

goal_few : (file : ℕ) (first : CutLine) (deeper : List CutLine) (is : List Item) → goal_block file first deeper ≡ Some is → AreFew deeper is
goal_few file first [] is h = let g = mapped_parts (λ (goal : Name). item.Goal goal ∷ []) (headed_phrase file first) is h in one_few [] _ is g.2
goal_few file first (line ∷ lines) is h = absurd (cc h)

screen_few : (file : ℕ) (first : CutLine) (deeper : List CutLine) (is : List Item) → screen_block file first deeper ≡ Some is → AreFew deeper is
screen_few file first [] is h = absurd (cc h)
screen_few file first (line ∷ lines) is h =
    let make : Name → List Name → List Item = λ title names. item.Screen (record { title = title; items = names }) ∷ [] in
    let title = bound_parts (λ (title : Name). option_and_then (λ (names : List Name). Some (make title names)) (each (screen_item file) (line ∷ lines))) (headed_text file first) is h in
    let names = bound_parts (λ (names : List Name). Some (make title.0 names)) (each (screen_item file) (line ∷ lines)) is title.2 in
    one_few (line ∷ lines) _ is (let same : make title.0 names.0 ≡ is = same_value names.2 in same)

file_few : (file : ℕ) (first : CutLine) (deeper : List CutLine) (is : List Item) → file_block file first deeper ≡ Some is → AreFew deeper is
file_few file first [] is h = go (file == 0) h
  where
    go : (b : Bool) → cond b (option_map (λ (named : Name). item.File named ∷ []) (headed_text file first)) None ≡ Some is → AreFew [] is
    go true k = let f = mapped_parts (λ (named : Name). item.File named ∷ []) (headed_text file first) is k in one_few [] _ is f.2
    go false k = absurd (cc k)
file_few file first (line ∷ lines) is h = absurd (cc h)

block_few : (file : ℕ) (h : Head) (first : CutLine) (deeper : List CutLine) (is : List Item) → block_by file h first deeper ≡ Some is → AreFew deeper is
unfolding block_by
block_few file head.Verb first deeper is e = verb_few file first deeper is e
block_few file head.Global first deeper is e = global_few file first deeper is e
block_few file head.Entity first deeper is e = entity_few file first deeper is e
block_few file head.Goal first deeper is e = goal_few file first deeper is e
block_few file head.Screen first deeper is e = screen_few file first deeper is e
block_few file head.File first deeper is e = file_few file first deeper is e

lines_few : (file : ℕ) (lines : List CutLine) (is : List Item) → spelled_in file lines ≡ Some is → length is ≤ length lines
lines_few file [] is h = absurd (cc h)
lines_few file (first ∷ deeper) is h =
    let head = bound_parts (λ (kind : Head). block_by file kind first deeper) (head_of first.text) is h in
    let few = block_few file head.0 first deeper is head.2 in
    omega (arith, few)

items_few : (b : CutBlock) → length (items_in b) ≤ length b.lines
unfolding spelled
items_few b = go (spelled_in b.file b.lines) refl
  where
    go : (o : Option (List Item)) → spelled_in b.file b.lines ≡ o → length (items_or_none o) ≤ length b.lines
    go None e = omega arith
    go (Some is) e = lines_few b.file b.lines is e

abbrev lines_in : List Block → ℕ
lines_in [] = 0
lines_in (b ∷ bs) = length b.lines + lines_in bs

all_few : (cuts : List CutBlock) → length (items_of cuts) ≤ lines_in (map block_of cuts)
all_few [] = omega arith
all_few (b ∷ cuts) = omega (arith, items_few b, all_few cuts, length-append (items_in b) (items_of cuts), length-map b.lines line_of)

fewer_lines : (p : Block → Bool) (bs : List Block) → lines_in (filter p bs) ≤ lines_in bs
fewer_lines p [] = omega arith
fewer_lines p (b ∷ bs) = go (p b) (fewer_lines p bs)
  where
    go : (t : Bool) → lines_in (filter p bs) ≤ lines_in bs → lines_in (cond t (b ∷ filter p bs) (filter p bs)) ≤ lines_in (b ∷ bs)
    go true h = omega (arith, h)
    go false h = omega (arith, h)

lines_are : (bs : List Block) → lines_in bs ≡ length (lines_of bs)
lines_are [] = refl
lines_are (b ∷ bs) = omega (arith, lines_are bs, length-append b.lines (lines_of bs))

lines_append : (bs cs : List Block) → lines_in (bs ++ cs) ≡ lines_in bs + lines_in cs
lines_append [] cs = omega arith
lines_append (b ∷ bs) cs = omega (arith, lines_append bs cs)

-- ---- files

file_lines : (n : ℕ) (f : SourceFile) (bs : List Block) → SourceIsText f → AreBlocksOf n f bs → lines_in bs ≤ MOST_FILE
file_lines n f bs is h = go f.is_table refl
  where
    go : (t : Bool) → f.is_table ≡ t → lines_in bs ≤ MOST_FILE
    go true e = let none : lines_in bs ≡ 0 = ap lines_in (h.of_table e) in omega (arith, none)
    go false e = let same = ap length (h.of_rules e).1 in omega (arith, lines_are bs, same, block_lines-few f.text, is.2)

laid_lines : {n : ℕ} {fs : List SourceFile} {bs : List Block} → AreLaid n fs bs → Each SourceIsText fs → lines_in bs ≤ length fs * 8388608
laid_lines laid.AreLaid.none = λ h. omega arith
laid_lines (laid.AreLaid.file {n = n} {f = f} {fs = fs} {bs = bs} {more = more} is k) = λ h. let here = file_lines n f bs h.0 is in let rest = laid_lines k h.1 in omega (arith, here, rest, lines_append bs more)

abbrev AtMost : {E : Type 0} → ℕ → Result (List SourceFile) E → Type 0
AtMost n (Ok xs) = length xs ≤ n
AtMost n (Err e) = Unit {0}

more_files : (x : SourceFile) (n : ℕ) (r : Result (List SourceFile) Unread) → AtMost n r → AtMost (n + 1) (with_more (x ∷ []) r)
more_files x n (Ok xs) h = omega (arith, h)
more_files x n (Err u) h = tt

then_file : (n k : ℕ) (l : FileLine) (t : Result (List ℕ) RbKind) (r : Result (List SourceFile) Unread) → AtMost n r → AtMost (n + 1) (file_then k l t r)
then_file n k l (Err _) r h = tt
then_file n k l (Ok t) r h = more_files (source l.name l.is_table t) n r h

few_sources : (fs : Files) (n : ℕ) (ls : List FileLine) → AtMost (length ls) (files_from fs n ls)
few_sources fs n [] = omega arith
few_sources fs n (l ∷ ls) =
    let next : length ls + 1 ≡ length (l ∷ ls) = omega arith in
    subst (λ k. AtMost k (files_from fs n (l ∷ ls))) next (then_file (length ls) n l (text_under fs l.name) (files_from fs (n + 1) ls) (few_sources fs (n + 1) ls))

at_most_more : (m n : ℕ) (r : Result (List SourceFile) Unread) → m ≤ n → AtMost m r → AtMost n r
at_most_more m n (Ok xs) h k = omega (arith, h, k)
at_most_more m n (Err u) h k = tt

files_few : {fs : Files} {name : List ℕ} {r : Result (List SourceFile) Unread} → AreFiles fs name r → AtMost 101 r
files_few (files.AreFiles.no_main _ e) = tt
files_few (files.AreFiles.too_many t lines over main at) = tt
files_few {fs} {name} (files.AreFiles.with_named t lines main few) =
    at_most_more (length lines + 1) 101 (with_more (source name false t ∷ []) (files_from fs 1 lines)) (omega (arith, few)) (more_files (source name false t) (length lines) (files_from fs 1 lines) (few_sources fs 1 lines))

-- the blocks of files declare a model
pub declared_model : (fs : Files) (name : List ℕ) (sources : List SourceFile) (blocks : List Block) (m : Lists) → AreFiles fs name (Ok sources) → Each SourceIsText sources → AreLaid 0 sources blocks → Declares blocks m → IsModel m
declared_model fs name sources blocks m taken texts laid h =
    let many : length sources ≤ 101 = files_few taken in
    let all = all_few h.read in
    let same = ap lines_in h.cut.same in
    let fewer = fewer_lines is_declaration blocks in
    let total = laid_lines laid texts in
    declared_by h.read (items_of h.read) m h.faultless refl h.model_is (omega (arith, many, all, same, fewer, total))
