-- The uses of the rows of a table, each as it stands.
use Rattle.std.specs.Prelude.{List, [], ◌∷◌, ◌++◌}
use Rattle.opa_case.specs.Shapes.{Shape}
use Rattle.opa_tree.specs.declared.expr.Row.{Row}
use Rattle.opa_mean.specs.Looks.{Look}
use Rattle.opa_mean.specs.Meaning.{value}
use Rattle.opa_mean.specs.Uses.{Uses, after_cond, uses}

-- the conditions of rows up to the first that isn't false, and behind them the last value
abbrev pub rows_uses : Shape → Look → List Row → Uses → Uses
rows_uses s l [] last enclosing d = last enclosing d
rows_uses s l (r ∷ rs) last enclosing d = uses s l r.cond enclosing d ++ after_cond (value s l r.cond enclosing d) (uses s l r.value enclosing d) (rows_uses s l rs last enclosing d)
