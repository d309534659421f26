use Rattle.std.proofs.Common.{None, cond, ◌∙◌, ap}
use Rattle.std.specs.Prelude.{◌&&◌}
use Rattle.opa_case.specs.Turns.{is_among}
use Rattle.opa_session.specs.Store.Drops.{has_slot}
use Rattle.opa_session.specs.Store.Stores.{StoreView, kept_of}
use Rattle.opa_session.proofs.store.Dropped.{dropped_lines}
use Rattle.opa_session.proofs.store.store.Store.drop_slots.Goals as goal

pub returns-clause-kept : goal.returns-clause-kept
returns-clause-kept g c a i =
    dropped_lines c.args.base.now c.args.owners.now c.requires.owners c.args.went.now c.self.inside.entries c.drop_all.new.entries c.drop_all.ensures a i
    ∙ ap (λ (s : StoreView). cond (has_slot c.args.base.now a i && is_among c.args.went.now i) None (kept_of s a i)) c.self.view_is
