-- The rows of a table.
use Rattle.std.specs.Prelude.{ℕ, ◌+◌}
use Rattle.opa_tree.specs.declared.expr.Row.{Row}
use Rattle.opa_sentence.specs.Measures.{nodes}

abbrev pub row_nodes : Row → ℕ
row_nodes r = 1 + (nodes r.cond + nodes r.value)
