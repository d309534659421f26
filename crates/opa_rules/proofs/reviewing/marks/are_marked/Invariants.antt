use Rattle.std.proofs.Common.{◌≡◌, drop}
use Rattle.std.specs.List.{list_all}
use Rattle.opa_rules.specs.Reviewing.Marks.{told}
use Rattle.opa_rules.proofs.reviewing.marks.are_marked.Given as goal

abbrev pub invariant-loop-attr : goal.invariant-loop-attr
invariant-loop-attr l = list_all (told l.marks) l.attrs ≡ list_all (told l.marks) (drop l.attr-index l.attrs)
