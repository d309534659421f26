use Rattle.std.proofs.Common.{◌≡◌, drop}
use Rattle.std.specs.List.{list_any}
use Rattle.opa_mean.specs.Changes.{differs}
use Rattle.opa_mean.specs.Given.{base_of, facts_of}
use Rattle.opa_session.proofs.telling.reach.any_differs.Given as goal

abbrev pub invariant-loop-question : goal.invariant-loop-question
invariant-loop-question g l =
    list_any (differs (base_of (g.K.Held.rules l.new)) (facts_of (g.H.Held.held l.old)) (facts_of (g.K.Held.held l.new))) l.questions
    ≡ list_any (differs (base_of (g.K.Held.rules l.new)) (facts_of (g.H.Held.held l.old)) (facts_of (g.K.Held.held l.new))) (drop l.question-index l.questions)
