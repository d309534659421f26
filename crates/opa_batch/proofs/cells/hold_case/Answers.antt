use Rattle.opa_case.specs.Cases.{no_case}
use Rattle.opa_session.specs.Infer.Sessions.{rules_of, held_of}
use Rattle.opa_mean.specs.Rulebases.{IsOf}
use Rattle.opa_batch.proofs.CountLaws.{over_nothing}
use Rattle.opa_batch.proofs.cells.hold_case.Goals as goal

pub returns-in_err-replace_case-clause-counts : goal.returns-in_err-replace_case-clause-counts
returns-in_err-replace_case-clause-counts g c =
    let r = rules_of c.args.session.now in
    let none : IsOf r no_case = record { is_model = c.requires.fits.is_model; fits = c.empty_fits.ensures r.model r.ruled c.requires.fits.is_model } in
    over_nothing r (held_of c.args.session.now) c.args.case c.args.steps.now c.replace_case.new.steps none c.requires.fits c.in_err-replace_case.ensures.bound

pub returns-clause-counts : goal.returns-clause-counts
returns-clause-counts g c =
    let r = rules_of c.args.session.now in
    let none : IsOf r no_case = record { is_model = c.requires.fits.is_model; fits = c.empty_fits.ensures r.model r.ruled c.requires.fits.is_model } in
    over_nothing r (held_of c.args.session.now) c.args.case c.args.steps.now c.replace_case.new.steps none c.requires.fits c.in_ok-replace_case.ensures.bound
