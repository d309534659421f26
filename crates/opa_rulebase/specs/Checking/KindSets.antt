-- Sets of kinds, as what a tree can have.
use Rattle.std.specs.Prelude.{Bool, ◌&&◌}
use Rattle.opa_model.specs.declared.things.Kind.{Kind}
use Rattle.opa_model.specs.declared.things.Kind.TheVariants as kind
use Rattle.opa_model.specs.declared.lists.Lists.{Lists}
use Rattle.opa_tree.specs.declared.expr.Row.{Row}
use Rattle.opa_tree.specs.Kinds.{Typing, typed, can_have}
use Rattle.opa_rulebase.specs.declared.checking.sets.KindSet.{KindSet}

abbrev pub has : KindSet → Kind → Bool
has s kind.Bool = s.bools
has s kind.Number = s.numbers
has s kind.Currency = s.numbers
has s kind.Words = s.words
has s kind.Date = s.dates

abbrev pub typing_of : KindSet → Typing
typing_of s = record { can = has s; is_decimals = s.is_decimals }

-- a row can have the kinds of its value, where its condition is a bool
abbrev pub row_can : Lists → Row → Kind → Bool
row_can m row k = can_have m row.cond kind.Bool && can_have m row.value k

unfoldable pub row_typed : Lists → Row → Typing
row_typed m row = typed (row_can m row)
