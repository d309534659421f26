-- The lines decide the blocks.
use Rattle.std.proofs.Common.{◌≡◌, ℕ, ◌<◌, List, [], ◌∷◌, ◌++◌, refl, sym, ap, subst, ◌∙◌, arith}
use Rattle.opa_words.specs.declared.layout.block.Block.{Block}
use Rattle.opa_words.specs.declared.layout.block.BlockLine.{BlockLine}
use Rattle.opa_words.specs.Layout.Blocks.{lines_of, AreDeeper, IsHeaded, AreBlocks}
use Rattle.opa_words.specs.Layout.Laws.{OneLayout}

-- nothing, or a line of level 0 first
abbrev IsTop : List BlockLine → Type 0
IsTop [] = Unit {0}
IsTop (l ∷ ls) = l.level ≡ 0

top-append : (ls ms : List BlockLine) → IsHeaded ls → IsTop (ls ++ ms)
top-append [] ms h = absurd h
top-append (l ∷ ls) ms h = h.0

top : (file : ℕ) (bs : List Block) → AreBlocks file bs → IsTop (lines_of bs)
top file [] h = tt
top file (b ∷ bs) h = top-append b.lines (lines_of bs) h.1

not_both : (n : ℕ) → 0 < n → n ≡ 0 → ⊥
not_both n p q = omega (arith, p, q)

-- deeper lines, and what begins with a line of level 0 after them
parted : (xs ys ps qs : List BlockLine) → AreDeeper xs → AreDeeper ys → IsTop ps → IsTop qs → xs ++ ps ≡ ys ++ qs → (xs ≡ ys) × (ps ≡ qs)
parted [] [] ps qs hx hy hp hq e = (refl, e)
parted [] (y ∷ ys) ps qs hx hy hp hq e = absurd (not_both y.level hy.0 (subst IsTop e hp))
parted (x ∷ xs) [] ps qs hx hy hp hq e = absurd (not_both x.level hx.0 (subst IsTop (sym e) hq))
parted (x ∷ xs) (y ∷ ys) ps qs hx hy hp hq e =
    let later : xs ++ ps ≡ ys ++ qs = cc e in
    let rest = parted xs ys ps qs hx.1 hy.1 hp hq later in
    (let same : x ≡ y = cc e in ap (λ l. l ∷ xs) same ∙ ap (λ ls. y ∷ ls) rest.0, rest.1)

headed : (xs ys ps qs : List BlockLine) → IsHeaded xs → IsHeaded ys → IsTop ps → IsTop qs → xs ++ ps ≡ ys ++ qs → (xs ≡ ys) × (ps ≡ qs)
headed [] ys ps qs hx hy hp hq e = absurd hx
headed (x ∷ xs) [] ps qs hx hy hp hq e = absurd hy
headed (x ∷ xs) (y ∷ ys) ps qs hx hy hp hq e =
    let later : xs ++ ps ≡ ys ++ qs = cc e in
    let rest = parted xs ys ps qs hx.1 hy.1 hp hq later in
    (let same : x ≡ y = cc e in ap (λ l. l ∷ xs) same ∙ ap (λ ls. y ∷ ls) rest.0, rest.1)

begun : (b : Block) (bs : List Block) → IsHeaded b.lines → [] ≡ b.lines ++ lines_of bs → ⊥
begun b bs h e = go b.lines h e
  where
    go : (ls : List BlockLine) → IsHeaded ls → [] ≡ ls ++ lines_of bs → ⊥
    go [] k f = k
    go (l ∷ ls) k f = absurd (cc f)

same_block : (b c : Block) → b.file ≡ c.file → b.lines ≡ c.lines → b ≡ c
same_block b c p q = ap (λ n. record { file = n; lines = b.lines }) p ∙ ap (λ ls. record { file = c.file; lines = ls }) q

pub one_layout_holds : OneLayout
one_layout_holds file [] [] h k e = refl
one_layout_holds file [] (c ∷ cs) h k e = absurd (begun c cs k.1 e)
one_layout_holds file (b ∷ bs) [] h k e = absurd (begun b bs h.1 (sym e))
one_layout_holds file (b ∷ bs) (c ∷ cs) h k e =
    let both = headed b.lines c.lines (lines_of bs) (lines_of cs) h.1 k.1 (top file bs h.2) (top file cs k.2) e in
    ap (λ x. x ∷ bs) (same_block b c (h.0 ∙ sym k.0) both.0) ∙ ap (λ xs. c ∷ xs) (one_layout_holds file bs cs h.2 k.2 both.1)

pub ruleset laws = (one_layout_holds)
