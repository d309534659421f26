use Rattle.std.proofs.Common.{◌≡◌, map}
use Rattle.serde_json.specs.View.{view}
use Rattle.opa_saved.specs.Told.{told_upto}
use Rattle.opa_saved.proofs.lists.lists.Given as goal

abbrev pub invariant-loop-n : goal.invariant-loop-n
invariant-loop-n l = map view l.out.items ≡ told_upto l.model l.case l.n
