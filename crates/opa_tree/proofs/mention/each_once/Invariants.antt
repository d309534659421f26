use Rattle.std.proofs.Common.{◌≡◌, take}
use Rattle.opa_tree.specs.FirstOnes.{first_ones}
use Rattle.opa_tree.specs.Mentions.{is_attr}
use Rattle.opa_tree.proofs.mention.each_once.Given as goal

abbrev pub invariant-loop-attr : goal.invariant-loop-attr
invariant-loop-attr l = l.once ≡ first_ones is_attr (take l.attr-index l.attrs)
