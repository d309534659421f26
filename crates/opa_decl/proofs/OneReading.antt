-- Blocks are read in one way.
use Rattle.std.proofs.Common.{◌≡◌, ◌∙◌, ℕ, List, [], ◌∷◌, map, refl, sym, ap, ap₂, subst, length}
use Rattle.std.specs.Prelude.{Option, None, Some}
use Rattle.std.specs.List.{All}
use Rattle.std.specs.Str.{chars}
use Rattle.std.proofs.lemmas.List.Elements.{All-head, All-tail}
use Rattle.opa_words.specs.declared.kinds.Token.{Token}
use Rattle.opa_words.proofs.OneCut.{one_cut_holds, cut_or_stuck_holds}
use Rattle.opa_words.specs.declared.layout.block.Block.{Block}
use Rattle.opa_words.specs.declared.layout.block.BlockLine.{BlockLine}
use Rattle.opa_tree.specs.declared.faults.RbFault.{RbFault}
use Rattle.opa_tree.specs.FirstFaults.{IsFirst}
use Rattle.opa_tree.proofs.Members.{none_in}
use Rattle.opa_decl.specs.declared.cut.CutBlock.{CutBlock}
use Rattle.opa_decl.specs.declared.cut.CutLine.{CutLine}
use Rattle.opa_decl.specs.Cutting.{HasTokens, HaveTokens, line_of, block_of}
use Rattle.opa_decl.specs.Declarations.{faults_of, model_of, items_of}
use Rattle.opa_decl.specs.Laws.{OneCutting, OneModel, ModelOrFault}

one_tokens : (text : List ℕ) (o p : Option (List Token)) → HasTokens text o → HasTokens text p → o ≡ p
one_tokens text None None h k = refl
one_tokens text (Some ts) (Some us) h k = ap (λ (x : List Token). Some x) (one_cut_holds (length text) (chars text) ts us h.cut k.cut)
one_tokens text (Some ts) None h k = absurd (cut_or_stuck_holds (length text) (chars text) ts k.0 h.cut k.1)
one_tokens text None (Some us) h k = absurd (cut_or_stuck_holds (length text) (chars text) us h.0 k.cut h.1)

abbrev Has : CutLine → Type 0
Has cut = HasTokens cut.text cut.tokens

one_line : (a b : CutLine) → line_of a ≡ line_of b → Has a → Has b → a ≡ b
one_line a b same h k =
    let texts : a.text ≡ b.text = ap (λ (l : BlockLine). l.text) same in
    ap₂ (λ (x y : ℕ). let c : CutLine = record { level = x; line = y; text = a.text; tokens = a.tokens } in c) (ap (λ (l : BlockLine). l.level) same) (ap (λ (l : BlockLine). l.line) same)
    ∙ ap₂ (λ (x : List ℕ) (y : Option (List Token)). let c : CutLine = record { level = b.level; line = b.line; text = x; tokens = y } in c) texts (one_tokens b.text a.tokens b.tokens (subst (λ (x : List ℕ). HasTokens x a.tokens) texts h) k)

one_lines : (xs ys : List CutLine) → map line_of xs ≡ map line_of ys → All Has xs → All Has ys → xs ≡ ys
one_lines [] [] e h k = refl
one_lines [] (y ∷ ys) e h k = absurd (cc e)
one_lines (x ∷ xs) [] e h k = absurd (cc e)
one_lines (x ∷ xs) (y ∷ ys) e h k =
    let first : line_of x ≡ line_of y = cc e in let rest : map line_of xs ≡ map line_of ys = cc e in
    ap₂ (λ (z : CutLine) (zs : List CutLine). z ∷ zs) (one_line x y first (All-head Has x xs h) (All-head Has y ys k)) (one_lines xs ys rest (All-tail Has x xs h) (All-tail Has y ys k))

one_block : (a b : CutBlock) → block_of a ≡ block_of b → HaveTokens a → HaveTokens b → a ≡ b
one_block a b same h k =
    ap₂ (λ (x : ℕ) (y : List CutLine). let c : CutBlock = record { file = x; lines = y } in c) (ap (λ (l : Block). l.file) same) (one_lines a.lines b.lines (ap (λ (l : Block). l.lines) same) h k)

one_list : (xs ys : List CutBlock) → map block_of xs ≡ map block_of ys → All HaveTokens xs → All HaveTokens ys → xs ≡ ys
one_list [] [] e h k = refl
one_list [] (y ∷ ys) e h k = absurd (cc e)
one_list (x ∷ xs) [] e h k = absurd (cc e)
one_list (x ∷ xs) (y ∷ ys) e h k =
    let first : block_of x ≡ block_of y = cc e in let rest : map block_of xs ≡ map block_of ys = cc e in
    ap₂ (λ (z : CutBlock) (zs : List CutBlock). z ∷ zs) (one_block x y first (All-head HaveTokens x xs h) (All-head HaveTokens y ys k)) (one_list xs ys rest (All-tail HaveTokens x xs h) (All-tail HaveTokens y ys k))

pub one_cutting_holds : OneCutting
one_cutting_holds blocks a b h k = one_list a b (h.same ∙ sym k.same) h.tokens k.tokens

pub one_model_holds : OneModel
one_model_holds blocks m n h k = h.model_is ∙ ap (λ (x : List CutBlock). model_of (items_of x)) (one_cutting_holds blocks h.read k.read h.cut k.cut) ∙ sym k.model_is

pub model_or_fault_holds : ModelOrFault
model_or_fault_holds blocks m fault h k =
    let none : faults_of k.read ≡ [] = ap faults_of (one_cutting_holds blocks k.read h.read k.cut h.cut) ∙ h.faultless in
    none_in fault (subst (λ (x : List RbFault). IsFirst x (Some fault)) none k.first).0

pub ruleset laws = (one_cutting_holds, one_model_holds, model_or_fault_holds)
