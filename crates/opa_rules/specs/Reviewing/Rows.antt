-- Rows of tables that are never reached.
use Rattle.std.specs.Prelude.{ℕ, zero, suc, ◌+◌, Bool, true, false, not, ◌||◌, ◌&&◌, List, [], ◌∷◌, ◌++◌, length, take, slice_get, position, Option, Some, None}
use Rattle.opa_value.specs.declared.value.Value.TheVariants.{Bool as Truth}
use Rattle.opa_tree.specs.declared.expr.Expr.{Expr}
use Rattle.opa_tree.specs.declared.expr.Row.{Row}
use Rattle.opa_tree.specs.declared.expr.Expr.TheOpen.{Expr-F, Table}
use Rattle.opa_tree.specs.declared.expr.Expr.TheVariants as V
use Rattle.opa_tree.specs.declared.expr.Expr.TheViews.{out-Expr}
use Rattle.opa_tree.specs.declared.rules.Rule.{Rule}
use Rattle.opa_rules.specs.declared.reviewing.finding.Finding.{Finding}
use Rattle.opa_rules.specs.declared.reviewing.finding.Finding.TheVariants as finding
use Rattle.opa_rules.specs.Reviewing.Trees.{same_tree}

-- the literal `true`
abbrev pub always : Expr
always = V.Const (Truth true)

abbrev pub is_always : Expr → Bool
is_always e = same_tree e always

-- an earlier condition leaves nothing to a later one: it is always true, or the same
abbrev pub covers : Expr → Expr → Bool
covers earlier later = is_always earlier || same_tree earlier later

-- the place of the first of the earlier rows that leaves nothing to a condition
abbrev pub covering : List Row → Expr → Option ℕ
covering earlier e = position (λ r. covers r.cond e) earlier

abbrev pub is_always_by : Option Row → Bool
is_always_by None = false
is_always_by (Some r) = is_always r.cond

abbrev pub is_always_at : List Row → ℕ → Bool
is_always_at rows n = is_always_by (slice_get rows n)

-- an earlier row with the same condition has another value
abbrev pub differs : Row → Row → Bool
differs earlier row = not (is_always earlier.cond) && not (same_tree earlier.value row.value)

abbrev pub differs_by : Option Row → Row → Bool
differs_by None row = false
differs_by (Some r) row = differs r row

abbrev pub differs_at : List Row → ℕ → Row → Bool
differs_at rows n row = differs_by (slice_get rows n) row

-- the row behind the earlier ones is never reached, because of the one at a place
abbrev pub found_by : Rule → List Row → Row → Option ℕ → List Finding
found_by rule earlier row None = []
found_by rule earlier row (Some n) = finding.Row (record {
  attr = rule.attr;
  file = rule.file;
  line = rule.line;
  row = length earlier + 1;
  earlier = n + 1;
  always = is_always_at earlier n;
  differs = differs_at earlier n row;
}) ∷ []

-- what is found of a row behind the earlier ones
abbrev pub of_row : Rule → List Row → Row → List Finding
of_row rule earlier row = found_by rule earlier row (covering earlier row.cond)

abbrev pub of_option : Rule → List Row → Option Row → List Finding
of_option rule earlier None = []
of_option rule earlier (Some r) = of_row rule earlier r

-- what is found of the row at a place
abbrev pub of_place : Rule → List Row → ℕ → List Finding
of_place rule rows n = of_option rule (take n rows) (slice_get rows n)

-- what is found of the first so many rows
unfoldable pub of_rows : Rule → List Row → ℕ → List Finding
of_rows rule rows zero = []
of_rows rule rows (suc n) = of_rows rule rows n ++ of_place rule rows n

abbrev pub rows_by : Expr-F Expr Row → List Row
rows_by (Table rows last) = rows
rows_by _ = []

-- the rows of a table; another tree has none
abbrev pub rows_of : Expr → List Row
rows_of e = rows_by (out-Expr e)

-- the rows of a rule that are never reached
abbrev pub of_rule : Rule → List Finding
of_rule rule = of_rows rule (rows_of rule.expr) (length (rows_of rule.expr))
