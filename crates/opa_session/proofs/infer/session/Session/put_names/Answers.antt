use Rattle.std.proofs.Common.{◌≡◌, Ok, Option, subst, sym}
use Rattle.opa_case.specs.Live.{Names}
use Rattle.opa_session.specs.Readers.Indexes.{readers_in}
use Rattle.opa_session.specs.Store.Stores.{staged_of}
use Rattle.opa_session.specs.Infer.Relisting.{IsPrepared, relists}
use Rattle.opa_session.proofs.infer.Heard.{tells}
use Rattle.opa_session.proofs.infer.Known.{known}
use Rattle.opa_session.proofs.infer.session.Session.put_names.Goals as goal

pub prepare_list-requires-clause-exact : goal.prepare_list-requires-clause-exact
prepare_list-requires-clause-exact g c = known c.args.self.now.base c.args.self.now.case (readers_in c.args.self.now.readers) c.args.self.now.exact

pub keep_list-requires-clause-exact : goal.keep_list-requires-clause-exact
keep_list-requires-clause-exact g c = known c.args.self.now.base c.args.self.now.case (readers_in c.args.self.now.readers) c.args.self.now.exact

pub keep_list-requires-clause-prepared : goal.keep_list-requires-clause-prepared
keep_list-requires-clause-prepared g c =
    let s = c.args.self.now in
    subst (λ (o : Option Names). IsPrepared s.base s.case c.args.rel c.args.inst.now o (readers_in s.readers) (staged_of c.prepare_list.new.store) c.in_ok-prepared.prepared.moves c.in_ok-prepared.prepared.renewal) c.as_ref.ensures.value c.in_ok-prepared.ensures.prepared

pub returns-clause-told : goal.returns-clause-told
returns-clause-told g c =
    let s = c.args.self.now in
    tells _ _ _ _ _ _ _ _ _ (c.in_ok-prepared.ensures.ready c.keep_list.new.case (subst (λ (o : Option Names). relists s.base s.case c.args.rel c.args.inst.now o ≡ Ok c.keep_list.new.case) (sym c.as_ref.ensures.value) c.in_ok-dirty.ensures.case)) c.tell.ensures
