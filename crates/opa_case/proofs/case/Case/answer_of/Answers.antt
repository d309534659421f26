use Rattle.std.specs.Prelude.{◌≤◌, length}
use Rattle.std.specs.FinMap.{get}
use Rattle.std.specs.Option.{option_copied}
use Rattle.std.proofs.lemmas.Bool.{ltb-false}
use Rattle.opa_case.specs.Cases.{Answer}
use Rattle.opa_case.proofs.Whole.{of_found}
use Rattle.opa_case.proofs.case.Case.answer_of.Goals as goal

pub returns-clause-few : goal.returns-clause-few
returns-clause-few c =
    of_found (λ (line : Answer). length line ≤ 1000) (option_copied c.get.result) (get c.self.inside.answers (c.args.attr.0, c.args.inst.now)) c.get.ensures
    (λ line at. ltb-false 1000 (length line) (c.self.invariant.2.few c.args.attr c.args.inst.now line at))
