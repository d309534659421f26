use Rattle.std.proofs.Common.{◌≡◌, ◌++◌, map, length}
use Rattle.std.specs.Prelude.{flat_map}
use Rattle.serde_json.specs.View.{view}
use Rattle.opa_case.specs.Cases.{list_of}
use Rattle.opa_saved.specs.Saved.{entry_of, list_entry}
use Rattle.opa_saved.proofs.lists.add_lists.Given as goal

abbrev pub invariant-loop-inst : goal.invariant-loop-inst
invariant-loop-inst l =
    map view l.out.items ++ flat_map (λ i. entry_of (list_entry l.phrase i) (list_of l.case l.rel i)) l.rest
    ≡ map view l.fn.out.items ++ flat_map (λ i. entry_of (list_entry l.phrase i) (list_of l.case l.rel i)) l.fn.insts

abbrev pub decreases-loop-inst : goal.decreases-loop-inst
decreases-loop-inst l = length l.rest
