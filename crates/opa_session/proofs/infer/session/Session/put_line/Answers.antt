use Rattle.std.proofs.Common.{Option, ap, subst, sym}
use Rattle.opa_case.specs.Cases.{Answer, CaseView}
use Rattle.opa_case.specs.Fits.{Fits}
use Rattle.opa_case.specs.Shapes.{shape_of}
use Rattle.opa_mean.specs.Reached.Settling.{AreCurrent, AreReaders}
use Rattle.opa_session.specs.Readers.Indexes.{readers_in}
use Rattle.opa_session.specs.Store.Nexts.{answered}
use Rattle.opa_session.specs.Store.Stores.{kept_of}
use Rattle.opa_session.proofs.infer.Accepted.{unruled}
use Rattle.opa_session.proofs.infer.Heard.{tells, tells_to}
use Rattle.opa_session.proofs.infer.Known.{known}
use Rattle.opa_session.proofs.infer.session.Session.put_line.Goals as goal

pub prepare_answer-requires-clause-unruled : goal.prepare_answer-requires-clause-unruled
prepare_answer-requires-clause-unruled g c = unruled c.args.self.now.base c.args.self.now.case c.args.attr c.args.inst.now c.args.line c.requires.may

pub prepare_answer-requires-clause-exact : goal.prepare_answer-requires-clause-exact
prepare_answer-requires-clause-exact g c = known c.args.self.now.base c.args.self.now.case (readers_in c.args.self.now.readers) c.args.self.now.exact

pub invariant_of-self-2 : goal.invariant_of-self-2
invariant_of-self-2 g c =
    let s = c.args.self.now in
    record {
      owned = s.owned;
      coded = s.coded;
      freed = s.freed;
      nothing = s.nothing;
      fits = subst (λ (v : CaseView). Fits (shape_of s.base.model) s.base.ruled v) (sym c.in_ok-dirty.ensures.case) c.requires.may.fits.fits;
      current = subst (λ (v : CaseView). AreCurrent s.base v (kept_of c.keep_answer.new.store)) (sym c.in_ok-dirty.ensures.case) c.in_ok-dirty.ensures.current;
      empty = c.in_ok-dirty.ensures.empty;
      exact = ∣ subst (λ (v : CaseView). AreReaders s.base v (readers_in s.readers)) (sym c.in_ok-dirty.ensures.case) (subst (λ (o : Option Answer). AreReaders s.base (answered s.case c.args.attr c.args.inst.now o) (readers_in s.readers)) c.as_ref.ensures.value c.in_ok-ready.ensures.exact) ∣₁;
    }

pub returns-clause-told : goal.returns-clause-told
returns-clause-told g c =
    tells_to _ _ _ _ _ _ _ (ap (answered c.args.self.now.case c.args.attr c.args.inst.now) c.as_ref.ensures.value)
    (tells _ _ _ _ _ _ _ _ _ c.in_ok-ready.ensures.ready c.tell.ensures)

pub invariant_of-self-in-Break-branch-2 : goal.invariant_of-self-in-Break-branch-2
invariant_of-self-in-Break-branch-2 g c =
    let s = c.args.self.now in
    record {
      owned = s.owned;
      coded = s.coded;
      freed = s.freed;
      nothing = s.nothing;
      fits = subst (λ (v : CaseView). Fits (shape_of s.base.model) s.base.ruled v) (sym c.in_err-dirty.ensures.unchanged) s.fits;
      current = c.in_err-dirty.ensures.held;
      empty = c.in_err-dirty.ensures.empty;
      exact = subst (λ (v : CaseView). ∥ AreReaders s.base v (readers_in s.readers) ∥₁) (sym c.in_err-dirty.ensures.unchanged) s.exact;
    }
