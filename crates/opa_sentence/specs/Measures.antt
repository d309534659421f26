-- What is counted in a part of a line, and the numbers that bound it.
use Rattle.std.specs.Prelude.{ℕ, ◌+◌, max, min, Bool, true, false, ◌&&◌, nat_le, List, [], ◌∷◌}
use Rattle.opa_tree.specs.declared.expr.Expr.{Expr}
use Rattle.opa_tree.specs.declared.expr.Expr.TheOpen.{Expr-F, Row-F, Const, Attr, All, Any, Not, Op, Certain, Known, Over, Window, Rolling, Table}
use Rattle.opa_tree.specs.declared.expr.Expr.TheFolds.{fold-Expr}
use Rattle.opa_sentence.specs.declared.measure.Measure.{Measure}
use Rattle.opa_io.specs.declared.limits.TheConstants.{MOST_DEPTH, MOST_NODES, MOST_NESTING}

-- ---- how many trees and rows a tree is made of

abbrev pub total : List ℕ → ℕ
total [] = 0
total (n ∷ ns) = n + total ns

abbrev pub nodes_step : Expr-F ℕ ℕ → ℕ
nodes_step (Const v) = 1
nodes_step (Attr a) = 1
nodes_step (All xs) = 1 + total xs
nodes_step (Any xs) = 1 + total xs
nodes_step (Not x) = 1 + x
nodes_step (Op k xs) = 1 + total xs
nodes_step (Certain x) = 1 + x
nodes_step (Known x) = 1 + x
nodes_step (Over q r xs) = 1 + total xs
nodes_step (Window k xs) = 1 + total xs
nodes_step (Rolling b n x) = 1 + x
nodes_step (Table rows last) = 1 + (total rows + last)

abbrev pub nodes_row : Row-F ℕ ℕ → ℕ
nodes_row row = 1 + (row.cond + row.value)

unfoldable pub nodes : Expr → ℕ
nodes = fold-Expr ℕ ℕ nodes_step nodes_row

-- ---- measures

-- of no parts
abbrev pub of_none : Measure
of_none = record { depth = 0; nodes = 0; nesting = 0; named = true; short = true }

-- of a tree without parts
abbrev pub of_leaf : Measure
of_leaf = record { depth = 1; nodes = 1; nesting = 0; named = true; short = true }

-- of parts beside one another
abbrev pub beside : Measure → Measure → Measure
beside m n = record { depth = max m.depth n.depth; nodes = m.nodes + n.nodes; nesting = max m.nesting n.nesting; named = m.named && n.named; short = m.short && n.short }

-- of a tree over its parts
abbrev pub above : Measure → Measure
above m = record m { depth = 1 + m.depth; nodes = 1 + m.nodes }

-- inside a bracket, a call or a prefix
abbrev pub inside : Measure → Measure
inside m = record m { nesting = 1 + m.nesting }

abbrev pub without_name : Measure → Measure
without_name m = record m { named = false }

-- ---- bounds

-- all is named, and nothing is over its number
abbrev pub fits : Measure → Bool
fits m = (m.named && m.short) && (nat_le m.depth MOST_DEPTH && (nat_le m.nodes MOST_NODES && nat_le m.nesting MOST_NESTING))

-- a number over its bound is told as the bound and one
abbrev pub capped : Measure → Measure
capped m = record m { depth = min m.depth (MOST_DEPTH + 1); nodes = min m.nodes (MOST_NODES + 1); nesting = min m.nesting (MOST_NESTING + 1) }

-- Which trees are kept, and how numbers are told.
pub record Bounds : Type 0 where
  pub keeps : Measure → Bool
  pub tells : Measure → Measure

-- no bounds
abbrev pub unbounded : Bounds
unbounded = record { keeps = λ m. true; tells = λ m. m }

-- the bounds of what is read
abbrev pub bounded : Bounds
bounded = record { keeps = fits; tells = capped }
