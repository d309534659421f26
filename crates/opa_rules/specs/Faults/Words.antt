-- What an error is in words.
use Rattle.std.specs.Prelude.{ℕ, List, codes}
use Rattle.opa_tree.specs.declared.faults.RbKind.{RbKind}
use Rattle.opa_tree.specs.declared.faults.RbKind.TheVariants as kind
use Rattle.opa_rules.specs.declared.faults.slip.Slip.{Slip}
use Rattle.opa_rules.specs.declared.faults.slip.Slip.TheVariants as slip

abbrev pub words_of : RbKind → List ℕ
words_of kind.Bytes = codes "this file isn't UTF-8"
words_of kind.Syntax = codes "this can't be read: look for an indentation that jumps, a missing `and` or `or`, or a bracket"
words_of kind.Name = codes "a phrase isn't declared, or names something else than is expected here"
words_of kind.Scope = codes "this speaks of something that the rule's own case doesn't reach: use a list"
words_of kind.Kind = codes "two sorts of values don't go together, or a number isn't allowed here"
words_of kind.Twice = codes "this is declared, concluded or named a second time"
words_of kind.Cycle = codes "these conclusions need one another, so none of them can come first:"
words_of kind.Limit = codes "this is over a limit"
words_of kind.Missing = codes "there is no such file"

-- what is said of a place that can't be read
abbrev pub slip_words : Slip → List ℕ
slip_words slip.Head = codes "this begins neither a declaration nor a rule: the first line of a rule has `=`, or ends with `if`"
slip_words slip.Closing = codes "this bracket closes none"
slip_words slip.Opening = codes "this bracket isn't closed"
slip_words slip.Text = codes "this text isn't closed"
slip_words slip.Control = codes "this text has a tab in it, or another control character"
slip_words slip.Sign = codes "this sign has no meaning here"
slip_words slip.Missing = codes "something is missing behind this sign"
slip_words slip.Unjoined = codes "there is no `and` or `or` at the end of this line, and another line follows"
slip_words slip.Dangling = codes "no line with the same indentation follows this `and` or `or`"
