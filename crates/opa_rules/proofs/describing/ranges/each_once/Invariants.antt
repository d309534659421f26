use Rattle.std.proofs.Common.{◌≡◌, take}
use Rattle.opa_tree.specs.FirstOnes.{first_ones}
use Rattle.opa_rules.specs.Describing.Ranges.{is_rel}
use Rattle.opa_rules.proofs.describing.ranges.each_once.Given as goal

abbrev pub invariant-loop-rel : goal.invariant-loop-rel
invariant-loop-rel l = l.once ≡ first_ones is_rel (take l.rel-index l.rels)
