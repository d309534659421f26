-- The nodes of a tree: those of each part before the node that takes it.
use Rattle.std.specs.Prelude.{ℕ, suc, List, [], ◌∷◌, ◌++◌, flat_map, length}
use Rattle.opa_case.specs.Shapes.{Shape}
use Rattle.opa_tree.specs.declared.expr.Expr.{Expr}
use Rattle.opa_tree.specs.declared.expr.Row.{Row}
use Rattle.opa_tree.specs.declared.expr.Expr.TheOpen.{Expr-F, Row-F, Const, Attr, All, Any, Not, Op, Certain, Known, Over, Window, Rolling, Table}
use Rattle.opa_tree.specs.declared.expr.Expr.TheFolds.{fold-Expr}
use Rattle.opa_mean.specs.Places.{owner_of}
use Rattle.opa_code.specs.declared.node.Decider.{Decider}
use Rattle.opa_code.specs.declared.node.Decider.TheVariants.{AtFalse, AtTrue, Chosen}
use Rattle.opa_code.specs.declared.node.Node.{Node}
use Rattle.opa_code.specs.declared.node.Node.TheVariants as node

-- the nodes of all parts
abbrev pub joined : List (List Node) → List Node
joined xs = flat_map (λ x. x) xs

-- nodes, and others that are passed over where the first ones decide
abbrev pub deciding : Decider → ℕ → List Node → List Node → List Node
deciding how dropped nodes rest = nodes ++ (node.Leave how dropped (length rest) ∷ rest)

-- The nodes of operands before the node that takes them. An operand that decides makes the others needless, and those
-- before it are dropped.
abbrev pub leaving : Decider → ℕ → List (List Node) → List Node → List Node
leaving how dropped [] behind = behind
leaving how dropped (x ∷ xs) behind = deciding how dropped x (leaving how (suc dropped) xs behind)

-- The nodes of rows before those of the last value. A row whose condition is true makes the others needless.
abbrev pub chosen_rows : List (List Node) → List Node → List Node
chosen_rows [] last = last
chosen_rows (row ∷ rows) last = deciding Chosen 1 row (chosen_rows rows last ++ node.Choose ∷ [])

abbrev pub code_step : Shape → Expr-F (List Node) (List Node) → List Node
code_step s (Const v) = node.Const v ∷ []
code_step s (Attr a) = node.Attr a (owner_of s a) ∷ []
code_step s (All xs) = leaving AtFalse 0 xs (node.All (length xs) ∷ [])
code_step s (Any xs) = leaving AtTrue 0 xs (node.Any (length xs) ∷ [])
code_step s (Not x) = x ++ node.Not ∷ []
code_step s (Op k xs) = joined xs ++ node.Op k (length xs) ∷ []
code_step s (Certain x) = x ++ node.Certain ∷ []
code_step s (Known x) = x ++ node.Known ∷ []
code_step s (Over q r xs) = node.Over q r (s.source r) (s.target r) (length (joined xs)) ∷ joined xs
code_step s (Window k xs) = joined xs ++ node.Window k (length xs) ∷ []
code_step s (Rolling b n x) = x ++ node.Rolling b n ∷ []
code_step s (Table rows last) = chosen_rows rows last

-- A row's condition stands before its value. Where it is false, the value and the node behind it are passed over.
abbrev pub row_nodes : List Node → List Node → List Node
row_nodes test value = test ++ (node.Pass (suc (length value)) ∷ value)

abbrev pub code_row : Row-F (List Node) (List Node) → List Node
code_row row = row_nodes row.cond row.value

-- the nodes of a tree
unfoldable pub code : Shape → Expr → List Node
code s = fold-Expr (List Node) (List Node) (code_step s) code_row

abbrev pub row_code : Shape → Row → List Node
row_code s row = row_nodes (code s row.cond) (code s row.value)
