-- Laying out goes on from the lines that were taken.
use Rattle.std.proofs.Common.{◌≡◌, ℕ, List, [], ◌∷◌, ◌++◌, Bool, true, false, cond, refl, sym, ap, subst, ◌∙◌, append_assoc, append-nil, ◌≤◌, arith}
use Rattle.std.specs.Prelude.{◌||◌, ◌&&◌, not, nat_lt, if◌then◌else◌}
use Rattle.std.specs.List.{All, AllByRecursion}
use Rattle.std.proofs.lemmas.List.Elements.{All-from_recursion}
use Rattle.opa_words.specs.declared.layout.fault.LayoutFault.{LayoutFault}
use Rattle.opa_words.specs.declared.layout.fault.LayoutFault.TheVariants as fault
use Rattle.opa_words.specs.declared.layout.block.BlockLine.{BlockLine}
use Rattle.opa_words.specs.Layout.Lines.{Row, rows, rows_from}
use Rattle.opa_words.specs.Layout.Indents.{is_passed, level}
use Rattle.opa_words.specs.Layout.Faults.{fault_of, faults_from, is_astray, next_most, IsOnly, IsFirst, IsCause, layout_faults}
use Rattle.opa_words.specs.Layout.Blocks.{kept, line_of, block_lines}

-- the lines of a row and of those after it
kept-cons : (r : Row) (rs : List Row) → kept (r ∷ rs) ≡ kept (r ∷ []) ++ kept rs
kept-cons r rs = go (is_passed r.text)
  where
    go : (b : Bool) → cond b (kept rs) (line_of r ∷ kept rs) ≡ cond b [] (line_of r ∷ []) ++ kept rs
    go true = refl
    go false = refl

pub kept_more : (done more all : List BlockLine) (r : Row) (rs rows : List Row) → rows ≡ r ∷ rs → done ++ kept rows ≡ all → more ≡ done ++ kept (r ∷ []) → more ++ kept rs ≡ all
kept_more done more all r rs rows e h m = ap (λ ls. ls ++ kept rs) m ∙ append_assoc done (kept (r ∷ [])) (kept rs) ∙ ap (λ ls. done ++ ls) (sym (kept-cons r rs) ∙ ap kept (sym e)) ∙ h

pub faults_more : (most next : ℕ) (all : List LayoutFault) (r : Row) (rs rows : List Row) → rows ≡ r ∷ rs → faults_from most rows ≡ all → fault_of most r ≡ [] → next ≡ next_most most r → faults_from next rs ≡ all
faults_more most next all r rs rows e h none n = ap (λ k. faults_from k rs) n ∙ ap (λ fs. fs ++ faults_from (next_most most r) rs) (sym none) ∙ sym (ap (faults_from most) e) ∙ h

first : (f : LayoutFault) (all more : List LayoutFault) (most : ℕ) (r : Row) (rs : List Row) → faults_from most (r ∷ rs) ≡ all → fault_of most r ≡ f ∷ [] → IsFirst f all
first f all more most r rs h only = subst (IsFirst f) (ap (λ fs. fs ++ faults_from (next_most most r) rs) (sym only) ∙ h) refl

pub first_fault : (bytes : List ℕ) (most : ℕ) (r : Row) (rs rows : List Row) (f : LayoutFault) → rows ≡ r ∷ rs → faults_from most rows ≡ layout_faults bytes → IsOnly (fault_of most r) f → IsCause bytes f
first_fault bytes most r rs rows (fault.Indent n) e h only = first (fault.Indent n) (layout_faults bytes) [] most r rs (sym (ap (faults_from most) e) ∙ h) only
first_fault bytes most r rs rows (fault.Limit n) e h only = first (fault.Limit n) (layout_faults bytes) [] most r rs (sym (ap (faults_from most) e) ∙ h) only
first_fault bytes most r rs rows fault.NoMemory e h only = tt

-- nothing is left
pub taken : (done all : List BlockLine) (n : ℕ) (rest : List ℕ) → done ++ kept (rows_from n rest) ≡ all → rest ≡ [] → done ≡ all
taken done all n rest h e = sym (append-nil done) ∙ ap (λ bytes. done ++ kept (rows_from n bytes)) (sym e) ∙ h

none_front : (fs gs : List LayoutFault) → fs ++ gs ≡ [] → fs ≡ []
none_front [] gs e = refl
none_front (f ∷ fs) gs e = absurd (cc e)

within : (s p : Bool) (n : ℕ) (f : LayoutFault) (fs : List LayoutFault) → cond (s || (not p && nat_lt 64 n)) (f ∷ []) fs ≡ [] → p ≡ false → n ≤ 64
within true p n f fs e q = absurd (cc e)
within false true n f fs e q = absurd (cc q)
within false false n f fs e q = go (nat_lt 64 n) refl e
  where
    go : (t : Bool) → nat_lt 64 n ≡ t → cond t (f ∷ []) fs ≡ [] → n ≤ 64
    go true h k = absurd (cc k)
    go false h k = grind (arith, h)

kept_within : (most : ℕ) (rs : List Row) → faults_from most rs ≡ [] → AllByRecursion (λ l. l.level ≤ 64) (kept rs)
kept_within most [] e = tt
kept_within most (r ∷ rs) e =
    let front : fault_of most r ≡ [] = none_front (fault_of most r) (faults_from (next_most most r) rs) e in
    let back : faults_from (next_most most r) rs ≡ [] = ap (λ fs. fs ++ faults_from (next_most most r) rs) (sym front) ∙ e in
    go (is_passed r.text) refl (within (nat_lt 65536 r.size) (is_passed r.text) (level r.text) (fault.Limit r.number) (if is_astray most r then fault.Indent r.number ∷ [] else []) front)
    (kept_within (next_most most r) rs back)
  where
    go : (t : Bool) → is_passed r.text ≡ t → (is_passed r.text ≡ false → level r.text ≤ 64) → AllByRecursion (λ l. l.level ≤ 64) (kept rs) → AllByRecursion (λ l. l.level ≤ 64) (cond t (kept rs) (line_of r ∷ kept rs))
    go true p h k = k
    go false p h k = (h p, k)

-- no line of a text without faults is deeper than the limit
pub lines_within : (ls : List BlockLine) (bs : List ℕ) → ls ≡ block_lines bs → layout_faults bs ≡ [] → All (λ l. l.level ≤ 64) ls
lines_within ls bs e h = subst (All (λ l. l.level ≤ 64)) (sym e) (All-from_recursion (λ l. l.level ≤ 64) (block_lines bs) (kept_within 0 (rows bs) h))

pub no_faults : (most : ℕ) (n : ℕ) (rest : List ℕ) (all : List LayoutFault) → faults_from most (rows_from n rest) ≡ all → rest ≡ [] → all ≡ []
no_faults most n rest all h e = sym h ∙ ap (λ bytes. faults_from most (rows_from n bytes)) e

pub ruleset laws = (kept_more, faults_more)
