-- Points and lists of what is declared.
use Rattle.std.specs.Prelude.{ℕ, ◌<◌, length}
use Rattle.opa_model.specs.declared.lists.Lists.{Lists}
use Rattle.opa_mean.specs.Uses.{Use, Point, Listed}

-- the attribute, or the relation, is declared
abbrev pub IsDeclared : Lists → Use → Type 0
IsDeclared m (Point a i d) = a.0 < length m.attributes
IsDeclared m (Listed r i) = r.0 < length m.relations
