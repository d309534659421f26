-- The code of a tree is at most twice as long as the tree.
use Rattle.std.proofs.Common.{◌≡◌, ℕ, ◌+◌, ◌*◌, ◌≤◌, ◌==◌, Bool, true, false, cond, List, [], ◌∷◌, ◌++◌, Some, length, map, refl, sym, ◌∙◌, ap, subst, arith}
use Rattle.std.specs.Prelude.{suc, find, IfSome}
use Rattle.std.proofs.lemmas.List.{length-append}
use Rattle.opa_model.specs.declared.ids.AttrId.{AttrId}
use Rattle.opa_case.specs.Shapes.{Shape, shape_of}
use Rattle.opa_tree.specs.declared.expr.Expr.{Expr}
use Rattle.opa_tree.specs.declared.expr.Row.{Row}
use Rattle.opa_tree.specs.declared.expr.Expr.TheOpen.{Expr-F, Const, Attr, All, Any, Not, Op, Certain, Known, Over, Window, Rolling, Table}
use Rattle.opa_tree.specs.declared.expr.Expr.TheViews.{roll-Expr}
use Rattle.opa_tree.specs.declared.expr.Expr.TheFolds.{fold-Row, fold-roll-Expr, fold_out-Row, map-Expr}
use Rattle.opa_tree.specs.declared.rules.Rule.{Rule}
use Rattle.opa_tree.specs.Rules.{rule_of}
use Rattle.opa_tree.proofs.Induction.{by_parts, Part, RowPart, without}
use Rattle.opa_code.specs.Codes.{code, code_step, joined, leaving, deciding, chosen_rows}
use Rattle.opa_code.specs.declared.node.Decider.{Decider}
use Rattle.opa_code.specs.declared.node.Decider.TheVariants.{AtFalse, AtTrue, Chosen}
use Rattle.opa_code.specs.Coding.{coded, is_for}
use Rattle.opa_code.specs.Laws.{total, size, size_step, size_row, CodeIsShort}
use Rattle.opa_code.specs.Rulebases.{rulebase_of}
use Rattle.opa_code.specs.declared.node.Node.{Node}
use Rattle.opa_code.specs.declared.node.Node.TheVariants as node
use Rattle.opa_code.proofs.CodeLaws.{row_folded, code-roll, row_folded-is}

unfoldable pub row_size : Row → ℕ
row_size = fold-Row ℕ ℕ size_step size_row

size-roll : (x : Expr-F Expr Row) → size (roll-Expr x) ≡ size_step (map-Expr Expr Row ℕ ℕ size row_size x)
unfolding size row_size
size-roll = fold-roll-Expr ℕ ℕ size_step size_row

row_size-is : (r : Row) → row_size r ≡ 1 + (size r.cond + size r.value)
unfolding size row_size
row_size-is r = fold_out-Row ℕ ℕ size_step size_row r

module _ (s : Shape) where
  -- with room for a node that passes others over
  abbrev IsShort : Expr → Type 0
  IsShort e = length (code s e) + 1 ≤ 2 * size e

  abbrev parts_of : List (Part IsShort) → List Expr
  parts_of ps = map (λ p. p.0) ps

  abbrev rows_of : List (RowPart IsShort) → List Row
  rows_of rs = map (λ r. r.0) rs

  parts_short : (ps : List (Part IsShort)) → length (joined (map (code s) (parts_of ps))) ≤ 2 * total (map size (parts_of ps))
  parts_short [] = omega arith
  parts_short (p ∷ ps) = let a = length-append (code s p.0) (joined (map (code s) (parts_of ps))) in omega (arith, a, p.1, parts_short ps)

  deciding_short : (how : Decider) (dropped : ℕ) (x rest : List Node) (k j : ℕ) → length x + 1 ≤ k → length rest ≤ j → length (deciding how dropped x rest) ≤ k + j
  deciding_short how dropped x rest k j h i = let a = length-append x (node.Leave how dropped (length rest) ∷ rest) in omega (arith, a, h, i)

  leaving_short : (how : Decider) (dropped : ℕ) (ps : List (Part IsShort)) (behind : List Node) → length (leaving how dropped (map (code s) (parts_of ps)) behind) ≤ 2 * total (map size (parts_of ps)) + length behind
  leaving_short how dropped [] behind = omega arith
  leaving_short how dropped (p ∷ ps) behind =
      let more = leaving_short how (suc dropped) ps behind in
      let a = deciding_short how dropped (code s p.0) (leaving how (suc dropped) (map (code s) (parts_of ps)) behind) (2 * size p.0) (2 * total (map size (parts_of ps)) + length behind) p.1 more in
      omega (arith, a)

  row_short : (r : RowPart IsShort) → length (row_folded s r.0) + 3 ≤ 2 * row_size r.0
  row_short r =
      let a = ap length (row_folded-is s r.0) ∙ length-append (code s r.0.cond) (node.Pass (suc (length (code s r.0.value))) ∷ code s r.0.value) in
      omega (arith, a, row_size-is r.0, r.1.0, r.1.1)

  rows_short : (rs : List (RowPart IsShort)) (last : List Node) → length (chosen_rows (map (row_folded s) (rows_of rs)) last) ≤ 2 * total (map row_size (rows_of rs)) + length last
  rows_short [] last = omega arith
  rows_short (r ∷ rs) last =
      let others = chosen_rows (map (row_folded s) (rows_of rs)) last in
      let a = length-append others (node.Choose ∷ []) in
      let b = length-append (row_folded s r.0) (node.Leave Chosen 1 (length (others ++ node.Choose ∷ [])) ∷ (others ++ node.Choose ∷ [])) in
      omega (arith, a, b, row_short r, rows_short rs last)

  one_behind : (ns : List Node) (n : Node) (k : ℕ) → length ns ≤ 2 * k → length (ns ++ n ∷ []) + 1 ≤ 2 * (1 + k)
  one_behind ns n k h = let a = length-append ns (n ∷ []) in omega (arith, a, h)

  one_behind_part : (ns : List Node) (n : Node) (k : ℕ) → length ns + 1 ≤ 2 * k → length (ns ++ n ∷ []) + 1 ≤ 2 * (1 + k)
  one_behind_part ns n k h = one_behind ns n k (omega (arith, h))

  one_before : (n : Node) (ns : List Node) (k : ℕ) → length ns ≤ 2 * k → length (n ∷ ns) + 1 ≤ 2 * (1 + k)
  one_before n ns k h = omega (arith, h)

  level_short : (z : Expr-F (Part IsShort) (RowPart IsShort)) → length (code_step s (map-Expr Expr Row (List Node) (List Node) (code s) (row_folded s) (without IsShort z))) + 1 ≤ 2 * size_step (map-Expr Expr Row ℕ ℕ size row_size (without IsShort z))
  level_short (Const v) = omega arith
  level_short (Attr a) = omega arith
  level_short (All ps) = let a = leaving_short AtFalse 0 ps (node.All (length (map (code s) (parts_of ps))) ∷ []) in omega (arith, a)
  level_short (Any ps) = let a = leaving_short AtTrue 0 ps (node.Any (length (map (code s) (parts_of ps))) ∷ []) in omega (arith, a)
  level_short (Not p) = one_behind_part (code s p.0) _ (size p.0) p.1
  level_short (Op k ps) = one_behind (joined (map (code s) (parts_of ps))) _ (total (map size (parts_of ps))) (parts_short ps)
  level_short (Certain p) = one_behind_part (code s p.0) _ (size p.0) p.1
  level_short (Known p) = one_behind_part (code s p.0) _ (size p.0) p.1
  level_short (Over q r ps) = one_before (node.Over q r (s.source r) (s.target r) (length (joined (map (code s) (parts_of ps))))) (joined (map (code s) (parts_of ps))) (total (map size (parts_of ps))) (parts_short ps)
  level_short (Window k ps) = one_behind (joined (map (code s) (parts_of ps))) _ (total (map size (parts_of ps))) (parts_short ps)
  level_short (Rolling b n p) = one_behind_part (code s p.0) _ (size p.0) p.1
  level_short (Table rs p) = let a = rows_short rs (code s p.0) in let b = p.1 in omega (arith, a, b)

  shorter : (e : Expr) → IsShort e
  shorter = by_parts IsShort (λ z. subst (λ ns. length ns + 1 ≤ 2 * size (roll-Expr (without IsShort z))) (sym (code-roll s (without IsShort z)))
      (subst (λ n. length (code_step s (map-Expr Expr Row (List Node) (List Node) (code s) (row_folded s) (without IsShort z))) + 1 ≤ 2 * n) (sym (size-roll (without IsShort z))) (level_short z)))

  pub tree_short : (e : Expr) → length (code s e) ≤ 2 * size e
  tree_short e = let a = shorter e in omega (arith, a)

  found_short : (a : AttrId) (rules : List Rule) (rule : Rule) → rule_of rules a ≡ Some rule → IfSome (find (is_for a) (map (coded s) rules)) (λ c. length c.nodes ≤ 2 * size rule.expr)
  found_short a [] rule e = absurd (cc e)
  found_short a (r ∷ rules) rule e = go (r.attr.0 == a.0) refl (found_short a rules rule) e
    where
      go : (b : Bool) → (r.attr.0 == a.0) ≡ b → (rule_of rules a ≡ Some rule → IfSome (find (is_for a) (map (coded s) rules)) (λ c. length c.nodes ≤ 2 * size rule.expr)) → cond b (Some r) (rule_of rules a) ≡ Some rule
          → IfSome (cond b (Some (coded s r)) (find (is_for a) (map (coded s) rules))) (λ c. length c.nodes ≤ 2 * size rule.expr)
      go true is more e = let same : r ≡ rule = cc e in subst (λ (x : Rule). length (code s r.expr) ≤ 2 * size x.expr) same (tree_short r.expr)
      go false is more e = more e

pub code_is_short : CodeIsShort
code_is_short code a rule e =
    subst (λ cs. IfSome (find (is_for a) cs) (λ c. length c.nodes ≤ 2 * size rule.expr)) (sym code.compiled) (found_short (shape_of (rulebase_of code).model) a (rulebase_of code).rules rule e)
