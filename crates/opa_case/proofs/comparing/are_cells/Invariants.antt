use Rattle.std.proofs.Common.{◌≡◌, ◌≤◌, length, map, take}
use Rattle.opa_cells.specs.Rows.{seen}
use Rattle.opa_case.proofs.comparing.are_cells.Given as goal

-- those before are the same
abbrev pub invariant-loop-place : goal.invariant-loop-place
invariant-loop-place l = record {
  same : map seen (take l.place l.cells) ≡ map seen (take l.place l.others);
  long : length l.cells ≡ length l.others;
  upto : l.place ≤ length l.cells;
}
