-- Declaration blocks that are cut one after another.
use Rattle.std.proofs.Common.{◌≡◌, ◌∙◌, Bool, true, false, cond, List, [], ◌∷◌, ◌++◌, map, sym, ap, subst, append_assoc}
use Rattle.std.specs.Prelude.{filter}
use Rattle.std.specs.List.{All}
use Rattle.std.proofs.lemmas.List.{map-append}
use Rattle.std.proofs.lemmas.List.Elements.{All-tail, All-head, All-nil, All-cons, All-append}
use Rattle.opa_words.specs.declared.layout.block.Block.{Block}
use Rattle.opa_words.specs.declared.layout.block.BlockLine.{BlockLine}
use Rattle.opa_words.specs.Layout.Blocks.{lines_of}
use Rattle.opa_decl.specs.declared.cut.CutBlock.{CutBlock}
use Rattle.opa_decl.specs.Heads.{is_declaration}
use Rattle.opa_decl.specs.Cutting.{block_of, IsShort}

pub one_cut_more : (cuts cuts' : List CutBlock) (cut : CutBlock) (block : Block) (rest later all : List Block) → map block_of cuts ++ filter is_declaration rest ≡ all
    → rest ≡ block ∷ later → is_declaration block ≡ true → block_of cut ≡ block → cuts' ≡ cuts ++ cut ∷ [] → map block_of cuts' ++ filter is_declaration later ≡ all
one_cut_more cuts cuts' cut block rest later all h r is same more =
    ap (λ (x : List CutBlock). map block_of x ++ filter is_declaration later) more
    ∙ ap (λ (x : List Block). x ++ filter is_declaration later) (map-append block_of cuts (cut ∷ []) ∙ ap (λ (b : Block). map block_of cuts ++ b ∷ []) same)
    ∙ append_assoc (map block_of cuts) (block ∷ []) (filter is_declaration later)
    ∙ ap (λ (t : Bool). map block_of cuts ++ cond t (block ∷ filter is_declaration later) (filter is_declaration later)) (sym is)
    ∙ ap (λ (x : List Block). map block_of cuts ++ filter is_declaration x) (sym r) ∙ h

pub none_cut_more : (cuts : List CutBlock) (block : Block) (rest later all : List Block) → map block_of cuts ++ filter is_declaration rest ≡ all
    → rest ≡ block ∷ later → is_declaration block ≡ false → map block_of cuts ++ filter is_declaration later ≡ all
none_cut_more cuts block rest later all h r not_one =
    ap (λ (t : Bool). map block_of cuts ++ cond t (block ∷ filter is_declaration later) (filter is_declaration later)) (sym not_one)
    ∙ ap (λ (x : List Block). map block_of cuts ++ filter is_declaration x) (sym r) ∙ h

-- what holds of all lines holds of those of the first block and of the others
all_right : (P : BlockLine → Type 0) (xs ys : List BlockLine) → All P (xs ++ ys) → All P ys
all_right P [] ys h = h
all_right P (x ∷ xs) ys h = all_right P xs ys (All-tail P x (xs ++ ys) h)

all_left : (P : BlockLine → Type 0) (xs ys : List BlockLine) → All P (xs ++ ys) → All P xs
all_left P [] ys h = All-nil P
all_left P (x ∷ xs) ys h = All-cons P x xs (All-head P x (xs ++ ys) h) (all_left P xs ys (All-tail P x (xs ++ ys) h))

pub short_here : (block : Block) (rest later : List Block) → rest ≡ block ∷ later → All IsShort (lines_of rest) → All IsShort block.lines
short_here block rest later r h = all_left IsShort block.lines (lines_of later) (subst (λ (x : List Block). All IsShort (lines_of x)) r h)

pub short_later : (block : Block) (rest later : List Block) → rest ≡ block ∷ later → All IsShort (lines_of rest) → All IsShort (lines_of later)
short_later block rest later r h = all_right IsShort block.lines (lines_of later) (subst (λ (x : List Block). All IsShort (lines_of x)) r h)

-- the blocks of two files
pub short_both : (xs ys : List Block) → All IsShort (lines_of xs) → All IsShort (lines_of ys) → All IsShort (lines_of (xs ++ ys))
short_both [] ys h k = k
short_both (x ∷ xs) ys h k =
    All-append IsShort x.lines (lines_of (xs ++ ys)) (all_left IsShort x.lines (lines_of xs) h) (short_both xs ys (all_right IsShort x.lines (lines_of xs) h) k)
