use Rattle.opa_session.specs.Readers.Indexes.{readers_in}
use Rattle.opa_session.proofs.infer.Heard.{tells}
use Rattle.opa_session.proofs.infer.Known.{still_known}
use Rattle.opa_session.proofs.infer.session.Session.replace_answers.Goals as goal

pub stage_answers-prepared-requires-clause-exact : goal.stage_answers-prepared-requires-clause-exact
stage_answers-prepared-requires-clause-exact g c = let s = c.args.self.now in still_known c.readers_stay.ensures s.base s.case c.args.case (readers_in s.readers) c.requires.answers s.exact

pub invariant_of-self : goal.invariant_of-self
invariant_of-self g c =
    let s = c.args.self.now in
    record {
      owned = s.owned;
      coded = s.coded;
      freed = s.freed;
      nothing = s.nothing;
      fits = c.requires.fits;
      current = c.keep_answers-self.ensures.current;
      empty = c.keep_answers-self.ensures.empty;
      exact = ∣ still_known c.readers_stay.ensures s.base s.case c.args.case (readers_in s.readers) c.requires.answers s.exact ∣₁;
    }

pub returns-in-Ok-clause-told : goal.returns-in-Ok-clause-told
returns-in-Ok-clause-told g c = tells _ _ _ _ _ _ _ _ _ c.in-Ok.ensures.ready c.tell.ensures
