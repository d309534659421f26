use Rattle.std.proofs.Common.{map}
use Rattle.serde_json.specs.View.{view}
use Rattle.opa_saved.proofs.SavedLaws.{fits_days, whole_is}
use Rattle.opa_saved.proofs.saved.saved_json.Goals as goal

pub answers-requires-clause-days : goal.answers-requires-clause-days
answers-requires-clause-days c = fits_days c.args.model.now c.args.case.now c.requires.fits

pub returns-clause-data : goal.returns-clause-data
returns-clause-data c =
    whole_is c.args.model.now c.args.case.now (view c.in_ok-json.json) (map view c.in_ok-answers.answers.items) (map view c.in_ok-lists.lists.items) c.digest.result c.requires.fits c.in_ok-json.ensures c.in_ok-answers.ensures.data c.in_ok-lists.ensures c.digest.ensures
