use Rattle.std.specs.Prelude.{◌==◌, ◌&&◌}
use Rattle.opa_case.specs.Listed.{has_source}
use Rattle.opa_case.proofs.Touching.{Leads}
use Rattle.opa_case.proofs.lists_naming.add_sources.Given as goal

abbrev pub invariant-loop-inst : goal.invariant-loop-inst
invariant-loop-inst l = Leads l.fn.keys l.keys (λ q j. q == l.number && has_source l.sources.entries j) (λ q j. q == l.number && has_source l.inst-iterator j)
