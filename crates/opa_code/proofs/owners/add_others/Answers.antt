use Rattle.std.proofs.Common.{sym, refl, subst, take, get_or, ◌+◌}
use Rattle.opa_code.specs.Mentions.{AddsOthers}
use Rattle.opa_code.proofs.Owning.{no_others, others_more, others_past}
use Rattle.opa_code.proofs.owners.add_others.Goals as goal
use Rattle.opa_code.proofs.owners.add_others.Goals.{then-owner-target+in_ok-add_new, else-owner-target}

pub loop-owner-init : goal.loop-owner-init
loop-owner-init c = no_others c.args.target _ c.args.owners.now _ refl refl

pub loop-owner-preserved : goal.loop-owner-preserved
loop-owner-preserved c =
    let i = c.loop-owner.owner-index in let inner = c.args.inner.now in
    elim c.if-owner-target.branch [
      | then-owner-target+in_ok-add_new w ↦ subst (AddsOthers c.args.target (take (i + 1) inner) c.args.owners.now) (sym w.owners-is)
          (others_more c.args.target inner i (get_or inner i 0) c.args.owners.now c.loop-owner.owners w.add_new.new.owners c.loop-owner-test.true refl w.in_ok-add_new.ensures c.loop-owner.invariant)
      | else-owner-target w ↦ subst (AddsOthers c.args.target (take (i + 1) inner) c.args.owners.now) (sym w.owners-is)
          (others_past c.args.target inner i (get_or inner i 0) c.args.owners.now c.loop-owner.owners c.loop-owner-test.true refl w.if-owner-target.false c.loop-owner.invariant)
    ]
