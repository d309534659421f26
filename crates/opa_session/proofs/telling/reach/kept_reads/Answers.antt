use Rattle.std.proofs.Common.{sym, ◌∙◌}
use Rattle.opa_session.proofs.telling.Sames.{stayed_live}
use Rattle.opa_session.proofs.telling.reach.kept_reads.Goals as goal

pub same_reads-requires-clause-live : goal.same_reads-requires-clause-live
same_reads-requires-clause-live c = stayed_live c.args.old.now c.args.new.now c.args.inst.now (sym c.has_stayed.ensures ∙ c.if-has_stayed.true)
