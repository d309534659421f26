use Rattle.std.proofs.Common.{◌≡◌, ◌++◌, map, length}
use Rattle.std.specs.Prelude.{flat_map}
use Rattle.std.specs.FinMap.{get}
use Rattle.std.specs.List.{AllByRecursion}
use Rattle.serde_json.specs.View.{view}
use Rattle.opa_saved.specs.RoundTrip.{HasLineAt}
use Rattle.opa_saved.specs.Saved.{entry_of, answer_entry}
use Rattle.opa_saved.proofs.answers.add_answers.Given as goal

abbrev pub invariant-loop-inst : goal.invariant-loop-inst
invariant-loop-inst l = record {
  data_ : map view l.out.items ++ flat_map (λ i. entry_of (answer_entry l.phrase i) (get l.case.answers (l.attr.0, i))) l.rest
      ≡ map view l.fn.out.items ++ flat_map (λ i. entry_of (answer_entry l.phrase i) (get l.case.answers (l.attr.0, i))) l.fn.insts;
  lines : AllByRecursion (HasLineAt l.case l.attr.0) l.rest → AllByRecursion (HasLineAt l.case l.attr.0) l.fn.insts;
}

abbrev pub decreases-loop-inst : goal.decreases-loop-inst
decreases-loop-inst l = length l.rest
