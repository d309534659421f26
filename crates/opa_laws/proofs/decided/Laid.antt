-- Files are laid out in one way.
use Rattle.std.proofs.Common.{◌≡◌, ◌∙◌, ℕ, ◌+◌, List, [], ◌∷◌, ◌++◌, Bool, true, false, refl, sym, ap₂}
use Rattle.opa_words.specs.declared.layout.block.Block.{Block}
use Rattle.opa_words.proofs.layout.OneLayout.{one_layout_holds}
use Rattle.opa_rulebase.specs.declared.files.source.SourceFile.{SourceFile}
use Rattle.opa_rulebase.specs.Files.Layouts as l
use Rattle.opa_rulebase.specs.Files.Layouts.{AreBlocksOf, AreLaid}
use Rattle.opa_laws.specs.Decided.Taking.{OneLaying}

-- the blocks of one file
one_file : (n : ℕ) (f : SourceFile) (bs cs : List Block) → AreBlocksOf n f bs → AreBlocksOf n f cs → bs ≡ cs
one_file n f bs cs h k = go f.is_table refl
  where
    go : (t : Bool) → f.is_table ≡ t → bs ≡ cs
    go true e = h.of_table e ∙ sym (k.of_table e)
    go false e = let x = h.of_rules e in let y = k.of_rules e in one_layout_holds n bs cs x.0 y.0 (x.1 ∙ sym y.1)

abbrev Only : ℕ → List SourceFile → List Block → Type 0
Only n fs bs = (cs : List Block) → AreLaid n fs cs → bs ≡ cs

at_end : (n : ℕ) → Only n [] []
at_end n cs l.AreLaid.none = refl

after_file : (n : ℕ) (f : SourceFile) (fs : List SourceFile) (bs more : List Block) → AreBlocksOf n f bs → Only (n + 1) fs more → Only n (f ∷ fs) (bs ++ more)
after_file n f fs bs more is one cs (l.AreLaid.file {bs = own} {more = rest} also k) = ap₂ (λ xs ys. xs ++ ys) (one_file n f bs own is also) (one rest k)

one_list : {n : ℕ} {fs : List SourceFile} {bs : List Block} → AreLaid n fs bs → Only n fs bs
one_list (l.AreLaid.none {n = n}) = at_end n
one_list (l.AreLaid.file {n = n} {f = f} {fs = fs} {bs = bs} {more = more} is k) = after_file n f fs bs more is (one_list k)

pub one_laying_holds : OneLaying
one_laying_holds n files bs cs h k = one_list h cs k
