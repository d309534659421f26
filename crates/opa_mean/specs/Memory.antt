-- Which operations have a value that takes memory.
use Rattle.std.specs.Prelude.{Bool, true, false}
use Rattle.opa_tree.specs.declared.kinds.OpKind.{OpKind}
use Rattle.opa_tree.specs.declared.kinds.OpKind.TheVariants as op

abbrev pub takes_memory : OpKind → Bool
takes_memory op.Min = true
takes_memory op.Max = true
takes_memory op.Concatenate = true
takes_memory _ = false
