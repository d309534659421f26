use Rattle.std.proofs.Common.{sym, subst, ap, ◌∙◌}
use Rattle.std.specs.FinMap.{get, get-empty}
use Rattle.opa_cells.specs.Keys.{cell_cmp}
use Rattle.opa_mean.specs.Given.{base_of}
use Rattle.opa_verify.specs.Support.Ledgers.{told_listing}
use Rattle.opa_verify.specs.Support.Proofs.{IsHeldUp}
use Rattle.opa_verify.proofs.support.Concluding.{none_kept}
use Rattle.opa_verify.proofs.support.Going.{going_none, going_more, going_fault, have_one}
use Rattle.opa_verify.proofs.support.Ledging.{told_is}
use Rattle.opa_verify.proofs.support.faults.first_fault.Goals as goal

pub loop-line-init : goal.loop-line-init
loop-line-init c = (going_none (base_of c.args.base.now) c.args.lines.now, none_kept (base_of c.args.base.now) (told_listing c.in_ok-told.told) c.new-kept.result (λ j. ap (λ m. get m j) c.new-kept.ensures ∙ get-empty cell_cmp j))

pub returns-then-not-branch : goal.returns-then-not-branch
returns-then-not-branch c =
    let b = base_of c.args.base.now in let line = c.in-Some.line.now in
    going_fault b c.args.lines.now c.loop-line.rest.now c.loop-line.place c.loop-line.invariant.0 line c.in-Some.later.now c.in-Some.ensures
    (λ h. cc (c.in_ok-is_held_up.ensures.held.1 (subst (λ k. IsHeldUp b k line) (sym (told_is c.in_ok-told.told c.args.lines.now c.in_ok-told.ensures)) h), c.if-not-branch.true))

pub loop-line-preserved : goal.loop-line-preserved
loop-line-preserved c =
    let b = base_of c.args.base.now in let line = c.in-Some.line.now in (
      going_more b c.args.lines.now c.loop-line.rest.now c.loop-line.place c.loop-line.invariant.0 line c.in-Some.later.now c.in-Some.ensures
          (subst (λ k. IsHeldUp b k line) (told_is c.in_ok-told.told c.args.lines.now c.in_ok-told.ensures) (c.in_ok-is_held_up.ensures.held.0 c.if-not-branch.false)),
      c.in_ok-is_held_up.ensures.kept,
    )

pub is_held_up-requires-clause-days : goal.is_held_up-requires-clause-days
is_held_up-requires-clause-days c = have_one (base_of c.args.base.now) c.args.lines.now c.loop-line.rest.now c.loop-line.place c.loop-line.invariant.0 c.in-Some.line.now c.in-Some.later.now c.in-Some.ensures c.requires.days
