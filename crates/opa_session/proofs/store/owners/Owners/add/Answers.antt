use Rattle.opa_session.proofs.store.Owning.{put_behind}
use Rattle.opa_session.proofs.store.owners.Owners.add.Goals as goal

pub returns : goal.returns
returns c e =
    put_behind c.args.entity c.args.attr c.args.self.now c.take-attrs.new.self (record { each = c.insert.new.self }) c.take-attrs.result c.push.new.self c.take-attrs.ensures.taken c.take-attrs.ensures.others c.in_ok-push.ensures.ok (λ q. c.in_ok-insert.ensures.updates.0 q) e
