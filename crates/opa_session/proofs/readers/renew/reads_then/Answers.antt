use Rattle.std.proofs.Common.{sym, ◌∙◌}
use Rattle.opa_case.specs.Overlays.{relisted_case}
use Rattle.opa_session.proofs.readers.AllRenewed.{those_in, none_in_those}
use Rattle.opa_session.proofs.readers.renew.reads_then.Goals as goal

pub returns-in_ok-reads : goal.returns-in_ok-reads
returns-in_ok-reads c = those_in c.args.base.now (relisted_case c.args.next.now) c.args.attr c.args.inst.now c.in_ok-reads.reads (sym c.is_slot_then.ensures ∙ c.if-is_slot_then.true) c.in_ok-reads.ensures

pub returns-else-is_slot_then : goal.returns-else-is_slot_then
returns-else-is_slot_then c = none_in_those c.args.base.now (relisted_case c.args.next.now) c.args.attr c.args.inst.now c.new.result (sym c.is_slot_then.ensures ∙ c.if-is_slot_then.false) c.new.ensures
