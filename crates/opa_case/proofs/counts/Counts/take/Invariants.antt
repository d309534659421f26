use Rattle.std.specs.Prelude.{◌≡◌, ◌-◌, ℕ, drop}
use Rattle.opa_case.specs.Homes.{count_at, count_of}
use Rattle.opa_case.proofs.counts.Counts.take.Given as goal

abbrev pub invariant-loop-inst : goal.invariant-loop-inst
invariant-loop-inst l = record {
  each : (e : ℕ) → count_at l.self.each e - count_of e (drop l.inst-index l.gone) ≡ count_at l.fn.self.each e - count_of e l.gone;
  total : l.self.total ≡ l.fn.self.total;
}
