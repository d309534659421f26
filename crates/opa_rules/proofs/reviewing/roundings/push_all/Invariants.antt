use Rattle.std.proofs.Common.{◌≡◌, ◌++◌, take}
use Rattle.opa_rules.proofs.reviewing.roundings.push_all.Given as goal

abbrev pub invariant-loop-attr : goal.invariant-loop-attr
invariant-loop-attr l = l.attrs ≡ l.initial.attrs ++ take l.attr-index l.more
