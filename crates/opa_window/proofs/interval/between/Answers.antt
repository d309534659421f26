use Rattle.std.proofs.Common.{◌∙◌, sym, ap, subst, arith}
use Rattle.opa_date.specs.declared.TheConstants.{DAYS}
use Rattle.opa_line.proofs.Tracking.{some_pair}
use Rattle.opa_line.proofs.Zipping.{ok_weaker}
use Rattle.opa_window.specs.Folds.{fold_of}
use Rattle.opa_window.specs.Runs.{shown, spread, day_count, runs_of, AreLong}
use Rattle.opa_window.proofs.Spreading.{window_long, window_count, window_spread}
use Rattle.opa_window.proofs.interval.between.Goals as goal

pub folded-requires-clause-long : goal.folded-requires-clause-long
folded-requires-clause-long c =
    subst AreLong (sym (ap shown c.deref.ensures.value ∙ c.in_ok-runs.ensures)) (window_long c.segments.result.now c.args.from c.args.to (omega (arith, c.if-from-to.true)))

pub folded-requires-clause-few : goal.folded-requires-clause-few
folded-requires-clause-few c =
    let e = ap day_count (ap shown c.deref.ensures.value ∙ c.in_ok-runs.ensures) in
    omega (arith, e, window_count c.segments.result.now c.args.from c.args.to (omega (arith, c.if-from-to.true)), c.ranges.to.fits)

pub returns-in_ok-runs : goal.returns-in_ok-runs
returns-in_ok-runs c =
    ok_weaker c.folded.result _ _ (λ v is. is ∙ ap (λ rs. fold_of c.args.fold (spread rs)) (ap shown c.deref.ensures.value ∙ c.in_ok-runs.ensures)
    ∙ ap (fold_of c.args.fold) (ap (λ xs. spread (runs_of xs c.args.from c.args.to)) c.segments.ensures.value
    ∙ window_spread c.args.x.now c.args.from c.args.to (omega (arith, c.if-from-to.true)) (some_pair DAYS c.args.x.now c.segments.ensures.form))) c.folded.ensures
