use Rattle.std.proofs.Common.{◌∙◌}
use Rattle.opa_session.specs.Store.Stores.{kept_of, staged_of}
use Rattle.opa_session.proofs.infer.Firstly.{all_first}
use Rattle.opa_session.proofs.infer.first.first_lines.Goals as goal

pub returns-clause-current : goal.returns-clause-current
returns-clause-current g c =
    all_first c.args.base.now c.args.case.now c.requires.fits c.as_slice-slots.result.now (c.as_slice-slots.ensures ∙ c.in_ok-all.ensures) (kept_of c.in_ok-store.store) (staged_of c.in_ok-store.store) (kept_of c.commit.new.self) c.in_ok-store.ensures.first c.commit.ensures.kept
