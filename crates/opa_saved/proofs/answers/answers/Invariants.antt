use Rattle.std.proofs.Common.{◌≡◌, map}
use Rattle.serde_json.specs.View.{view}
use Rattle.opa_saved.specs.RoundTrip.{HaveLines}
use Rattle.opa_saved.specs.Saved.{answers_upto}
use Rattle.opa_saved.proofs.answers.answers.Given as goal

abbrev pub invariant-loop-n : goal.invariant-loop-n
invariant-loop-n l = record {
  written : map view l.out.items ≡ answers_upto l.model l.case l.n;
  lines : HaveLines l.model l.case l.n;
}
