-- Blocks that take one line more.
use Rattle.std.proofs.Common.{◌≡◌, ℕ, ◌<◌, List, [], ◌∷◌, ◌++◌, refl, sym, ap, ◌∙◌, append_assoc, append-nil, subst}
use Rattle.opa_words.specs.declared.layout.block.Block.{Block}
use Rattle.opa_words.specs.declared.layout.block.BlockLine.{BlockLine}
use Rattle.opa_words.specs.Layout.Blocks.{lines_of, AreDeeper, IsHeaded, AreBlocks}

pub lines_of-append : (bs cs : List Block) → lines_of (bs ++ cs) ≡ lines_of bs ++ lines_of cs
lines_of-append [] cs = refl
lines_of-append (b ∷ bs) cs = ap (λ ls. b.lines ++ ls) (lines_of-append bs cs) ∙ sym (append_assoc b.lines (lines_of bs) (lines_of cs))

pub AreBlocks-append : (file : ℕ) (bs cs : List Block) → AreBlocks file bs → AreBlocks file cs → AreBlocks file (bs ++ cs)
AreBlocks-append file [] cs h k = k
AreBlocks-append file (b ∷ bs) cs h k = (h.0, h.1, AreBlocks-append file bs cs h.2 k)

pub AreBlocks-front : (file : ℕ) (bs cs : List Block) → AreBlocks file (bs ++ cs) → AreBlocks file bs
AreBlocks-front file [] cs h = tt
AreBlocks-front file (b ∷ bs) cs h = (h.0, h.1, AreBlocks-front file bs cs h.2)

pub AreBlocks-back : (file : ℕ) (bs cs : List Block) → AreBlocks file (bs ++ cs) → AreBlocks file cs
AreBlocks-back file [] cs h = h
AreBlocks-back file (b ∷ bs) cs h = AreBlocks-back file bs cs h.2

AreDeeper-push : (ls : List BlockLine) (l : BlockLine) → AreDeeper ls → 0 < l.level → AreDeeper (ls ++ l ∷ [])
AreDeeper-push [] l h k = (k, tt)
AreDeeper-push (m ∷ ls) l h k = (h.0, AreDeeper-push ls l h.1 k)

pub IsHeaded-push : (ls : List BlockLine) (l : BlockLine) → IsHeaded ls → 0 < l.level → IsHeaded (ls ++ l ∷ [])
IsHeaded-push [] l h k = absurd h
IsHeaded-push (m ∷ ls) l h k = (h.0, AreDeeper-push ls l h.1 k)

pub begins_lines : (file : ℕ) (bs new : List Block) (ls : List BlockLine) (l : BlockLine) → ls ≡ l ∷ [] → new ≡ bs ++ record { file = file; lines = ls } ∷ [] → lines_of new ≡ lines_of bs ++ l ∷ []
begins_lines file bs new ls l e n = ap lines_of n ∙ lines_of-append bs (record { file = file; lines = ls } ∷ []) ∙ ap (λ ms. lines_of bs ++ ms) (append-nil ls ∙ e)

pub begins_blocks : (file : ℕ) (bs new : List Block) (ls : List BlockLine) (l : BlockLine) → ls ≡ l ∷ [] → l.level ≡ 0 → new ≡ bs ++ record { file = file; lines = ls } ∷ [] → AreBlocks file bs → AreBlocks file new
begins_blocks file bs new ls l e z n h =
    subst (AreBlocks file) (sym n) (AreBlocks-append file bs (record { file = file; lines = ls } ∷ []) h (refl, subst IsHeaded (sym e) (z, tt), tt))

pub goes_lines : (bs old new : List Block) (b : Block) (ls : List BlockLine) (l : BlockLine) → old ≡ bs ++ b ∷ [] → ls ≡ b.lines ++ l ∷ [] → new ≡ bs ++ record { file = b.file; lines = ls } ∷ [] → lines_of new ≡ lines_of old ++ l ∷ []
goes_lines bs old new b ls l o e n =
    ap lines_of n ∙ lines_of-append bs (record { file = b.file; lines = ls } ∷ []) ∙ ap (λ ms. lines_of bs ++ ms) (append-nil ls ∙ e)
    ∙ sym (append_assoc (lines_of bs) b.lines (l ∷ []))
    ∙ ap (λ ms. (lines_of bs ++ ms) ++ l ∷ []) (sym (append-nil b.lines)) ∙ ap (λ ms. ms ++ l ∷ []) (sym (lines_of-append bs (b ∷ [])) ∙ ap lines_of (sym o))

pub goes_blocks : (file : ℕ) (bs old new : List Block) (b : Block) (ls : List BlockLine) (l : BlockLine) → old ≡ bs ++ b ∷ [] → ls ≡ b.lines ++ l ∷ [] → 0 < l.level → new ≡ bs ++ record { file = b.file; lines = ls } ∷ [] → AreBlocks file old → AreBlocks file new
goes_blocks file bs old new b ls l o e d n h =
    let both = subst (AreBlocks file) o h in
    let back = AreBlocks-back file bs (b ∷ []) both in
    subst (AreBlocks file) (sym n) (AreBlocks-append file bs (record { file = b.file; lines = ls } ∷ []) (AreBlocks-front file bs (b ∷ []) both)
    (back.0, subst IsHeaded (sym e) (IsHeaded-push b.lines l back.1 d), tt))
