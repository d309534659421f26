-- The nodes of a tree that has its form can be run.
use Rattle.std.proofs.Common.{ℕ, suc, ◌≤◌, Bool, true, false, List, [], ◌∷◌, ◌++◌, length, map, refl, sym, subst, arith}
use Rattle.std.specs.Prelude.{IsTrue, nat_le, ◌&&◌}
use Rattle.std.specs.List.{list_all}
use Rattle.std.proofs.lemmas.Bool.{and_parts}
use Rattle.std.proofs.lemmas.List.Folds.{list_all-append}
use Rattle.opa_case.specs.Shapes.{Shape}
use Rattle.opa_tree.specs.declared.expr.Expr.{Expr}
use Rattle.opa_tree.specs.declared.expr.Row.{Row}
use Rattle.opa_tree.specs.declared.expr.Expr.TheOpen.{Expr-F, Const, Attr, All, Any, Not, Op, Certain, Known, Over, Window, Rolling, Table}
use Rattle.opa_tree.specs.declared.expr.Expr.TheFolds.{map-Expr}
use Rattle.opa_tree.specs.Trees.{has_form, form_step}
use Rattle.opa_tree.proofs.FormLaws.{row_has_form, form-of_row, form-roll}
use Rattle.opa_tree.proofs.Induction.{by_parts, Part, RowPart, without}
use Rattle.opa_code.specs.Codes.{code, code_step, joined, leaving, chosen_rows}
use Rattle.opa_code.specs.declared.node.Decider.{Decider}
use Rattle.opa_code.specs.declared.node.Decider.TheVariants.{AtFalse, AtTrue, Chosen}
use Rattle.opa_code.specs.Runnable.{can_run, CanRun}
use Rattle.opa_code.specs.declared.node.Node.{Node}
use Rattle.opa_code.specs.declared.node.Node.TheVariants as node
use Rattle.opa_code.proofs.CodeLaws.{row_folded, code-roll, row_folded-is}

pub both_run : (ns more : List Node) → CanRun (ns ++ more) → CanRun ns × CanRun more
both_run ns more h = and_parts (list_all can_run ns) (list_all can_run more) (subst (λ b. IsTrue b) (list_all-append can_run ns more) h)

pub run_both : (ns more : List Node) → CanRun ns → CanRun more → CanRun (ns ++ more)
run_both ns more h k = subst (λ b. IsTrue b) (sym (list_all-append can_run ns more)) (joins (list_all can_run ns) (list_all can_run more) h k)
  where
    joins : (a b : Bool) → IsTrue a → IsTrue b → IsTrue (a && b)
    joins true b h k = k
    joins false b h k = h

pub within_a_century : (b : Bool) (n : ℕ) → CanRun (node.Rolling b n ∷ []) → n ≤ 36600
within_a_century b n h = let few = (and_parts (nat_le n 36600) true h).0 in grind (arith, few)

module _ (s : Shape) where
  abbrev Runs : Expr → Type 0
  Runs e = (b : Bool) → IsTrue (has_form e b) → CanRun (code s e)

  abbrev nodes_of : List (Part Runs) → List Node
  nodes_of ps = joined (map (code s) (map (λ p. p.0) ps))

  abbrev forms_of : List (Part Runs) → Bool
  forms_of ps = list_all (λ (x : Bool → Bool). x false) (map has_form (map (λ p. p.0) ps))

  parts_run : (ps : List (Part Runs)) → IsTrue (forms_of ps) → CanRun (nodes_of ps)
  parts_run [] h = refl
  parts_run (p ∷ ps) h =
      let both = and_parts (has_form p.0 false) (forms_of ps) h in
      run_both (code s p.0) (nodes_of ps) (p.1 false both.0) (parts_run ps both.1)

  -- with a node behind them
  then_runs : (ns : List Node) (n : Node) → CanRun (n ∷ []) → CanRun ns → CanRun (ns ++ n ∷ [])
  then_runs ns n ok h = run_both ns (n ∷ []) h ok

  -- operands that may decide
  leaving_runs : (how : Decider) (dropped : ℕ) (ps : List (Part Runs)) (behind : List Node) → IsTrue (forms_of ps) → CanRun behind → CanRun (leaving how dropped (map (code s) (map (λ p. p.0) ps)) behind)
  leaving_runs how dropped [] behind h k = k
  leaving_runs how dropped (p ∷ ps) behind h k =
      let both = and_parts (has_form p.0 false) (forms_of ps) h in
      run_both (code s p.0) (node.Leave how dropped _ ∷ leaving how (suc dropped) (map (code s) (map (λ p. p.0) ps)) behind) (p.1 false both.0) (leaving_runs how (suc dropped) ps behind both.1 k)

  abbrev rows_of : List (RowPart Runs) → List (List Node)
  rows_of rs = map (row_folded s) (map (λ r. r.0) rs)

  abbrev row_forms : List (RowPart Runs) → Bool
  row_forms rs = list_all (λ (x : Bool → Bool). x false) (map row_has_form (map (λ r. r.0) rs))

  row_runs : (r : RowPart Runs) → IsTrue (row_has_form r.0 false) → CanRun (row_folded s r.0)
  row_runs r h =
      let form : IsTrue (has_form r.0.cond false && has_form r.0.value false) = subst (λ (f : Bool → Bool). IsTrue (f false)) (form-of_row r.0) h in
      let both = and_parts (has_form r.0.cond false) (has_form r.0.value false) form in
      subst CanRun (sym (row_folded-is s r.0)) (run_both (code s r.0.cond) (node.Pass (suc (length (code s r.0.value))) ∷ code s r.0.value) (r.1.0 false both.0) (r.1.1 false both.1))

  rows_run : (rs : List (RowPart Runs)) (last : List Node) → IsTrue (row_forms rs) → CanRun last → CanRun (chosen_rows (rows_of rs) last)
  rows_run [] last h k = k
  rows_run (r ∷ rs) last h k =
      let both = and_parts (row_has_form r.0 false) (row_forms rs) h in
      let others = chosen_rows (rows_of rs) last in
      run_both (row_folded s r.0) (node.Leave Chosen 1 (length (others ++ node.Choose ∷ [])) ∷ (others ++ node.Choose ∷ [])) (row_runs r both.0) (run_both others (node.Choose ∷ []) (rows_run rs last both.1 k) refl)

  few_run : (b : Bool) (n : ℕ) → IsTrue (nat_le n 36600) → CanRun (node.Rolling b n ∷ [])
  few_run b n h = subst (λ x. IsTrue (x && true)) (sym h) refl

  level : (z : Expr-F (Part Runs) (RowPart Runs)) (b : Bool) → IsTrue (form_step (map-Expr Expr Row (Bool → Bool) (Bool → Bool) has_form row_has_form (without Runs z)) b)
      → CanRun (code_step s (map-Expr Expr Row (List Node) (List Node) (code s) (row_folded s) (without Runs z)))
  level (Const v) b h = refl
  level (Attr a) b h = refl
  level (All ps) b h = leaving_runs AtFalse 0 ps _ (and_parts _ (forms_of ps) h).1 refl
  level (Any ps) b h = leaving_runs AtTrue 0 ps _ (and_parts _ (forms_of ps) h).1 refl
  level (Not p) b h = then_runs (code s p.0) _ refl (p.1 false h)
  level (Op k ps) b h = then_runs (nodes_of ps) _ refl (parts_run ps (and_parts _ (forms_of ps) h).1)
  level (Certain p) b h = then_runs (code s p.0) _ refl (p.1 false h)
  level (Known p) b h = then_runs (code s p.0) _ refl (p.1 false h)
  level (Over q r ps) b h = parts_run ps (and_parts _ (forms_of ps) h).1
  level (Window k ps) b h = then_runs (nodes_of ps) _ refl (parts_run ps (and_parts _ (forms_of ps) h).1)
  level (Rolling c n p) b h =
      let both = and_parts (nat_le n 36600) (has_form p.0 false) h in
      then_runs (code s p.0) (node.Rolling c n) (few_run c n both.0) (p.1 false both.1)
  level (Table rs p) b h =
      let outer = and_parts (b && row_forms rs) (has_form p.0 false) h in
      let inner = and_parts b (row_forms rs) outer.0 in
      rows_run rs (code s p.0) inner.1 (p.1 false outer.1)

  pub form_runs : (e : Expr) (b : Bool) → IsTrue (has_form e b) → CanRun (code s e)
  form_runs = by_parts Runs (λ z b h. subst CanRun (sym (code-roll s (without Runs z))) (level z b (subst (λ (f : Bool → Bool). IsTrue (f b)) (form-roll (without Runs z)) h)))
