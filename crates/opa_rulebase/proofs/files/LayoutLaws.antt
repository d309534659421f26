-- Blocks of files that are laid out one after another.
use Rattle.std.proofs.Common.{◌≡◌, ℕ, ◌+◌, ◌<◌, List, [], ◌∷◌, ◌++◌, All, slice_index_or, sym, ap, ◌∙◌, append_assoc, append-nil, subst, arith}
use Rattle.std.proofs.lemmas.List.Elements.{All-nil, All-cons, All-append}
use Rattle.opa_words.specs.declared.layout.block.Block.{Block}
use Rattle.opa_words.specs.Layout.Blocks.{lines_of, AreBlocks}
use Rattle.opa_words.proofs.layout.BlockLaws.{lines_of-append}
use Rattle.opa_tree.specs.declared.faults.RbFault.{RbFault}
use Rattle.opa_rulebase.specs.declared.files.source.SourceFile.{SourceFile}
use Rattle.opa_rulebase.specs.Files.Layouts.{AreBlocksOf, AreLaid, IsShort, faults_in, faults_from, Begins}

-- ---- short lines

pub short_more : (old more new : List Block) → new ≡ old ++ more → All IsShort (lines_of old) → All IsShort (lines_of more) → All IsShort (lines_of new)
short_more old more new e h k = subst (All IsShort) (sym (ap lines_of e ∙ lines_of-append old more)) (All-append IsShort (lines_of old) (lines_of more) h k)

-- ---- places

raised : (n : ℕ) (bs : List Block) → All (λ (b : Block). b.file < n) bs → All (λ (b : Block). b.file < n + 1) bs
raised n bs h = λ k d i. let m : (slice_index_or bs k d).file < n = h k d i in omega (arith, m)

at_place : (n : ℕ) (bs : List Block) → All (λ (b : Block). b.file ≡ n) bs → All (λ (b : Block). b.file < n + 1) bs
at_place n bs h = λ k d i. let m : (slice_index_or bs k d).file ≡ n = h k d i in omega (arith, m)

pub placed_more : (n : ℕ) (old more new : List Block) → new ≡ old ++ more → All (λ (b : Block). b.file < n) old → All (λ (b : Block). b.file ≡ n) more → All (λ (b : Block). b.file < n + 1) new
placed_more n old more new e h k = subst (All (λ (b : Block). b.file < n + 1)) (sym e) (All-append (λ (b : Block). b.file < n + 1) old more (raised n old h) (at_place n more k))

-- ---- layouts

pub laid_more : (files : List SourceFile) (old more new : List Block) (n : ℕ) (f : SourceFile) (fs rest : List SourceFile) → rest ≡ f ∷ fs → new ≡ old ++ more → AreBlocksOf n f more
    → ((bs : List Block) → AreLaid n rest bs → AreLaid 0 files (old ++ bs)) → (bs : List Block) → AreLaid (n + 1) fs bs → AreLaid 0 files (new ++ bs)
laid_more files old more new n f fs rest e m is h bs k =
    subst (AreLaid 0 files) (sym (ap (λ x. x ++ bs) m ∙ append_assoc old more bs)) (h (more ++ bs) (subst (λ x. AreLaid n x (more ++ bs)) (sym e) (AreLaid.file is k)))

pub laid_end : (files : List SourceFile) (old : List Block) (n : ℕ) (rest : List SourceFile) → rest ≡ [] → ((bs : List Block) → AreLaid n rest bs → AreLaid 0 files (old ++ bs)) → AreLaid 0 files old
laid_end files old n rest e h = subst (AreLaid 0 files) (append-nil old) (h [] (subst (λ x. AreLaid n x []) (sym e) AreLaid.none))

-- ---- faults

pub faults_more : (all : List RbFault) (n : ℕ) (f : SourceFile) (fs rest : List SourceFile) → rest ≡ f ∷ fs → faults_in n f ≡ [] → faults_from n rest ≡ all → faults_from (n + 1) fs ≡ all
faults_more all n f fs rest e none h = ap (λ x. x ++ faults_from (n + 1) fs) (sym none) ∙ ap (faults_from n) (sym e) ∙ h

begins_more : (f : RbFault) (xs ys : List RbFault) → Begins f xs → Begins f (xs ++ ys)
begins_more f [] ys h = absurd h
begins_more f (x ∷ xs) ys h = h

pub faults_begin : (all : List RbFault) (n : ℕ) (f : SourceFile) (fs rest : List SourceFile) (fault : RbFault) → rest ≡ f ∷ fs → faults_from n rest ≡ all → Begins fault (faults_in n f) → Begins fault all
faults_begin all n f fs rest fault e h b = subst (Begins fault) (ap (faults_from n) (sym e) ∙ h) (begins_more fault (faults_in n f) (faults_from (n + 1) fs) b)

pub all_placed : (n : ℕ) (bs : List Block) → AreBlocks n bs → All (λ (b : Block). b.file ≡ n) bs
all_placed n [] h = All-nil (λ (b : Block). b.file ≡ n)
all_placed n (b ∷ bs) h = All-cons (λ (c : Block). c.file ≡ n) b bs h.0 (all_placed n bs h.2)
