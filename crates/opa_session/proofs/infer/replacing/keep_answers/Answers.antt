use Rattle.opa_mean.specs.Reached.Settling.{laid, shift}
use Rattle.opa_session.specs.Store.Stores.{kept_of, staged_of}
use Rattle.opa_session.proofs.infer.replacing.keep_answers.Goals as goal

pub returns-clause-current : goal.returns-clause-current
returns-clause-current g c =
    let kept = kept_of c.args.store.now in
    let staged = staged_of c.args.store.now in
    c.same_are_current.ensures c.args.base.now c.args.next.now (laid kept staged) (kept_of c.commit.new.self) c.commit.ensures.kept
    (c.laid_stay_current.ensures (shift c.args.base.now c.args.held.now c.args.next.now) (record { before = c.requires.before; after = c.requires.after }) c.requires.answers.live kept staged c.requires.held c.requires.settled)
