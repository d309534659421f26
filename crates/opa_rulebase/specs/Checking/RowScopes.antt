-- What is reached by a row of a table.
use Rattle.std.specs.Prelude.{Bool, ◌&&◌, List}
use Rattle.opa_model.specs.declared.ids.EntityId.{EntityId}
use Rattle.opa_model.specs.declared.lists.Lists.{Lists}
use Rattle.opa_tree.specs.declared.expr.Row.{Row}
use Rattle.opa_tree.specs.Scopes.{is_reached}

abbrev pub row_reached : Lists → List EntityId → Row → Bool
row_reached m enclosing row = is_reached m row.cond enclosing && is_reached m row.value enclosing
