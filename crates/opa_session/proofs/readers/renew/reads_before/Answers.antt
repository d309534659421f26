use Rattle.std.proofs.Common.{sym, ◌∙◌}
use Rattle.opa_session.proofs.readers.AllRenewed.{those_in, none_in_those}
use Rattle.opa_session.proofs.readers.renew.reads_before.Goals as goal

pub returns-in_ok-reads : goal.returns-in_ok-reads
returns-in_ok-reads c = those_in c.args.base.now c.args.held.now c.args.attr c.args.inst.now c.in_ok-reads.reads (sym c.is_slot.ensures ∙ c.if-is_slot.true) c.in_ok-reads.ensures

pub returns-else-is_slot : goal.returns-else-is_slot
returns-else-is_slot c = none_in_those c.args.base.now c.args.held.now c.args.attr c.args.inst.now c.new.result (sym c.is_slot.ensures ∙ c.if-is_slot.false) c.new.ensures
