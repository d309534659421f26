use Rattle.std.specs.Prelude.{◌≡◌, ◌+◌, ℕ, drop}
use Rattle.opa_case.specs.Homes.{count_at, count_of}
use Rattle.opa_case.proofs.counts.Counts.add.Given as goal

abbrev pub invariant-loop-inst : goal.invariant-loop-inst
invariant-loop-inst l = record {
  each : (e : ℕ) → count_of e (drop l.inst-index l.come) + count_at l.self.each e ≡ count_of e l.come + count_at l.fn.self.each e;
  total : l.self.total ≡ l.fn.self.total;
}
