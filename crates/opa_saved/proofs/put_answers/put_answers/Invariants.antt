use Rattle.std.specs.Prelude.{◌≡◌, ◌≤◌}
use Rattle.std.specs.FinMap.{len}
use Rattle.std.specs.Vec.Iter.{into_iter_items}
use Rattle.opa_case.specs.Fits.{Fits}
use Rattle.opa_case.specs.Shapes.{shape_of}
use Rattle.opa_saved.specs.Building.{with_answers, AreAnswerable}
use Rattle.opa_saved.specs.Loading as meant
use Rattle.opa_saved.proofs.put_answers.put_answers.Given as goal

abbrev pub invariant-loop-entry : goal.invariant-loop-entry
invariant-loop-entry l = record {
  rest : meant.put_answers l.model l.case.answers (into_iter_items l.entry-iterator) ≡ meant.put_answers l.model l.fn.case.answers l.fn.answers.items;
  is : l.case ≡ with_answers l.fn.case l.case.answers;
  taken : AreAnswerable l.model l.ruled l.fn.case.live (into_iter_items l.entry-iterator);
  fits : Fits (shape_of l.model) l.ruled l.case;
  few : len l.case.answers ≤ 100000;
}
