use Rattle.std.proofs.Common.{◌≤◌, ◌-◌, length}
use Rattle.std.specs.Io.KnownBytes.{Keeps}
use Rattle.opa_io.specs.Gathering.{with_rest}
use Rattle.opa_io.proofs.gathered.pass_on.Given as goal

-- what was written, with what is still held back, stays
abbrev pub invariant-loop-passed : goal.invariant-loop-passed
invariant-loop-passed g l = record {
  bytes : Keeps (with_rest (g.K.Sink.written l.fn.inner) l.fn.passed l.fn.bytes) (with_rest (g.K.Sink.written l.inner) l.passed l.bytes);
  within : l.passed ≤ length l.bytes;
  later : g.K.Sink.faults l.fn.inner ≤ g.K.Sink.faults l.inner;
}

abbrev pub decreases-loop-passed : goal.decreases-loop-passed
decreases-loop-passed g l = length l.bytes - l.passed
