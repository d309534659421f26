use Rattle.std.proofs.Common.{arith}
use Rattle.opa_words.proofs.CutLaws.{width_chars}
use Rattle.opa_words.proofs.cursor.Cursor.new.Goals as goal

pub invariant_of-result : goal.invariant_of-result
invariant_of-result c = record { in_range = omega (arith, width_chars c.args.all.now c.utf8.all, c.requires) }
