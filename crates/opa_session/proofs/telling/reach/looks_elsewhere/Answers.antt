use Rattle.std.proofs.Common.{List, sym, subst}
use Rattle.opa_case.specs.declared.question.Question.{Question}
use Rattle.opa_mean.specs.Gathering.{AreThose}
use Rattle.opa_mean.specs.Reached.Dirty.{slot_reads}
use Rattle.opa_session.proofs.telling.Reached.{elsewhere}
use Rattle.opa_session.proofs.telling.reach.looks_elsewhere.Goals as goal

pub returns : goal.returns
returns c =
    λ true. elsewhere c.in_ok-before.before c.in_ok-after.after (slot_reads c.args.base.now c.args.old.now c.args.attr c.args.inst.now) (slot_reads c.args.base.now c.args.new.now c.args.attr c.args.inst.now) c.in_ok-before.ensures c.in_ok-after.ensures
    (λ same. c.in_ok-apart.ensures true (subst (λ (qs : List Question). AreThose qs c.as_slice-second.result.now) (sym c.as_slice-first.ensures) (subst (λ (qs : List Question). AreThose c.in_ok-before.before qs) (sym c.as_slice-second.ensures) same)))
