use Rattle.std.proofs.Common.{◌≡◌, ◌<◌, ◌≤◌, ◌+◌, length, vec_len}
use Rattle.std.specs.Io.KnownBytes.{Consumes}
use Rattle.opa_talk.proofs.whole_input.reading.read_all.Given as goal

-- what was read so far
abbrev pub invariant-loop-left : goal.invariant-loop-left
invariant-loop-left g l = record {
  took : Consumes (g.S.Source.left l.fn.input) (g.S.Source.left l.input) l.bytes.items;
  so_far : length l.bytes.items + l.left ≡ 67108864;
  room : 0 < vec_len l.buf;
  later : g.S.Source.faults l.fn.input ≤ g.S.Source.faults l.input;
}

abbrev pub decreases-loop-left : goal.decreases-loop-left
decreases-loop-left g l = l.left
