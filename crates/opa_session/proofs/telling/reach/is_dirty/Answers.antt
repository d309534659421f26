use Rattle.std.proofs.Common.{◌≡◌, sym, ◌∙◌, ap, not, is_some, List, Option, IfSome, subst}
use Rattle.std.specs.List.{list_any}
use Rattle.opa_case.specs.declared.question.Question.{Question}
use Rattle.opa_mean.specs.Changes.{differs}
use Rattle.opa_mean.specs.Given.{base_of, facts_of}
use Rattle.opa_mean.specs.Reached.Dirty.{slot_reads}
use Rattle.opa_session.specs.Telling.Reaching.{ArePlaced}
use Rattle.opa_session.proofs.telling.Reached.{is_of_same, slot_same, fresh_same, reads_here, placed_same, fresh_dirty, kept_dirty}
use Rattle.opa_session.proofs.telling.reach.is_dirty.Goals as goal

pub kept_reads-requires-clause-before : goal.kept_reads-requires-clause-before
kept_reads-requires-clause-before g c = is_of_same _ _ _ _ (c.base-base.ensures ∙ sym c.requires.same) c.case-before.ensures.case c.case-before.ensures.fits

pub kept_reads-requires-clause-after : goal.kept_reads-requires-clause-after
kept_reads-requires-clause-after g c = is_of_same _ _ _ _ c.base-base.ensures c.case-after.ensures.case c.case-after.ensures.fits

pub kept_reads-requires-clause-slot : goal.kept_reads-requires-clause-slot
kept_reads-requires-clause-slot g c = slot_same (g.K.Held.rules c.args.new.now) c.base-base.result.now (g.K.Held.held c.args.new.now) c.case-after.result.now c.args.attr c.args.inst.now c.base-base.ensures c.case-after.ensures.case c.requires.slot

pub any_differs-requires-clause-placed : goal.any_differs-requires-clause-placed
any_differs-requires-clause-placed g c =
    placed_same (g.K.Held.rules c.args.new.now) c.base-base.result.now (g.H.Held.held c.args.old.now) c.case-before.result.now (g.K.Held.held c.args.new.now) c.case-after.result.now c.as_slice-questions.result.now
    c.base-base.ensures c.case-before.ensures.case c.case-after.ensures.case
    (subst (λ (qs : List Question). ArePlaced c.base-base.result.now c.case-before.result.now c.case-after.result.now qs) (sym c.as_slice-questions.ensures)
    (subst (λ (o : Option (List Question)). IfSome o (ArePlaced c.base-base.result.now c.case-before.result.now c.case-after.result.now)) c.in-Some.is c.in_ok-kept.ensures.placed))

pub returns-in-None : goal.returns-in-None
returns-in-None g c =
    let r = g.K.Held.rules c.args.new.now in let o = g.H.Held.held c.args.old.now in let n = g.K.Held.held c.args.new.now in
    fresh_dirty c.fresh_or_reads.ensures r o n c.args.attr c.args.inst.now
    (sym (ap (λ (x : Option (List Question)). not (is_some x)) c.in-None.is) ∙ c.in_ok-kept.ensures.fresh
    ∙ fresh_same r c.base-base.result.now o c.case-before.result.now n c.case-after.result.now c.args.attr c.args.inst.now c.base-base.ensures c.case-before.ensures.case c.case-after.ensures.case)

pub returns-in_ok-reached-in-Some : goal.returns-in_ok-reached-in-Some
returns-in_ok-reached-in-Some g c =
    let r = g.K.Held.rules c.args.new.now in let o = g.H.Held.held c.args.old.now in let n = g.K.Held.held c.args.new.now in
    let a = c.args.attr in let i = c.args.inst.now in
    kept_dirty c.fresh_or_reads.ensures r o n a i c.in_ok-reached-in-Some.reached c.in-Some.found
    (sym (ap (λ (x : Option (List Question)). not (is_some x)) c.in-Some.is) ∙ c.in_ok-kept.ensures.fresh
    ∙ fresh_same r c.base-base.result.now o c.case-before.result.now n c.case-after.result.now a i c.base-base.ensures c.case-before.ensures.case c.case-after.ensures.case)
    (subst (λ (x : Option (List Question)). IfSome x (λ found. found ≡ slot_reads c.base-base.result.now c.case-after.result.now a i)) c.in-Some.is c.in_ok-kept.ensures.reads
    ∙ reads_here r c.base-base.result.now n c.case-after.result.now a i c.base-base.ensures c.case-after.ensures.case)
    (c.in_ok-reached-in-Some.ensures ∙ ap (list_any (differs (base_of r) (facts_of o) (facts_of n))) c.as_slice-questions.ensures)
