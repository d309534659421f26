use Rattle.std.proofs.Common.{◌≡◌, ◌++◌, take}
use Rattle.opa_parse.proofs.sayings.and_then.Given as goal

abbrev pub invariant-loop-mark : goal.invariant-loop-mark
invariant-loop-mark l = l.all ≡ l.fn.marks ++ take l.mark-index l.others
