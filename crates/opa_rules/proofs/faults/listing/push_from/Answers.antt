use Rattle.std.proofs.Common.{sym, subst, All}
use Rattle.opa_words.specs.declared.layout.block.Block.{Block}
use Rattle.opa_parse.specs.Fronts.{AreShort}
use Rattle.opa_rules.proofs.FaultLaws.{short_without}
use Rattle.opa_rules.proofs.faults.listing.push_from.Goals as goal

pub push_errors-requires-clause-short : goal.push_errors-requires-clause-short
push_errors-requires-clause-short c = subst (All (λ (b : Block). AreShort b.lines)) (sym c.without-left.ensures) (short_without c.args.wrong.now.fault.file c.args.wrong.now.fault.line c.args.blocks c.requires.short)
