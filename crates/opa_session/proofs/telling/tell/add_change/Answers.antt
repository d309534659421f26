use Rattle.std.proofs.Common.{Option, subst}
use Rattle.opa_listen.specs.declared.change.Change.{Change}
use Rattle.opa_mean.specs.Changes.{change_of}
use Rattle.opa_mean.specs.Given.{base_of, facts_of}
use Rattle.opa_session.specs.Telling.Telling.{TellsAny}
use Rattle.opa_session.proofs.telling.Told.{adds_some}
use Rattle.opa_session.proofs.telling.tell.add_change.Goals as goal

pub returns-in_ok-push-in-Some : goal.returns-in_ok-push-in-Some
returns-in_ok-push-in-Some g c = λ xs told.
    let m = (g.K.Lined.rules c.args.new.now).model in
    let o = change_of (base_of (g.K.Lined.rules c.args.new.now)) (facts_of (g.H.Lined.over c.args.old.now)) (facts_of (g.K.Lined.over c.args.new.now)) c.args.attr c.args.inst.now in
    adds_some m xs c.args.told.now.items c.push.new.self.items o c.in-Some.change (subst (λ (x : Option Change). TellsAny m o x) c.in-Some.is c.in_ok-change.ensures) c.in_ok-push-in-Some.ensures.items told
