use Rattle.std.proofs.Common.{sym, subst}
use Rattle.opa_session.specs.Store.Drops.{AreDropped}
use Rattle.opa_session.specs.Store.Stores.{kept_of, staged_of}
use Rattle.opa_tree.specs.declared.rulebase.Rulebase.{Rulebase}
use Rattle.opa_session.proofs.infer.relisting.keep_staged.Goals as goal

pub returns-clause-current : goal.returns-clause-current
returns-clause-current g c = λ s come i same is turns current settled.
    c.dropped_are_current.ensures s is c.args.went.now come i turns (kept_of c.args.store.now) (staged_of c.args.store.now) (kept_of c.commit.new.self) (kept_of c.drop_slots.new.self) current settled c.commit.ensures.kept
    (subst (λ (r : Rulebase). AreDropped r c.args.went.now (kept_of c.commit.new.self) (kept_of c.drop_slots.new.self)) (sym same) c.drop_slots.ensures.kept)
