use Rattle.std.proofs.Common.{◌≡◌, ◌++◌, length}
use Rattle.std.specs.Prelude.{flat_map}
use Rattle.std.specs.List.{All}
use Rattle.opa_tree.specs.FirstFaults.{first_of, first_fault}
use Rattle.opa_decl.specs.Cutting.{HaveTokens}
use Rattle.opa_decl.specs.Declarations.{items_in, items_of, syntax_faults}
use Rattle.opa_decl.proofs.reading.read.Given as goal

abbrev pub invariant-loop-block : goal.invariant-loop-block
invariant-loop-block l = record {
  items : l.items ++ flat_map items_in l.rest ≡ items_of l.blocks;
  fault : first_of l.fault (first_fault (flat_map syntax_faults l.rest)) ≡ first_fault (flat_map syntax_faults l.blocks);
  tokens : All HaveTokens l.rest;
}

abbrev pub decreases-loop-block : goal.decreases-loop-block
decreases-loop-block l = length l.rest
