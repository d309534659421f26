use Rattle.std.proofs.lemmas.Result.{err_from_is_err_and}
use Rattle.opa_talk.specs.Talk.{MayLeave}
use Rattle.opa_talk.proofs.PointsLaws.{stops_text, stops_prompt}
use Rattle.opa_talk.proofs.talk.carry_out.Goals as goal

pub returns-in_err-say-clause-err : goal.returns-in_err-say-clause-err
returns-in_err-say-clause-err g c =
    let p = err_from_is_err_and c.from_residual-in_err-say.result c.from_residual-in_err-say.ensures.1 in
    rw p.1 (stops_text g.T.Replier.rule (MayLeave (g.F.Shelf.keep_faults c.args.shelf.now) (g.F.Shelf.keep_faults c.reply.new.shelf) g.T.Replier.Stops g.T.Replier.Lacks) _ _ _ _ _ _ _ c.in_ok-text.ensures.ok c.deref.ensures.value c.in_err-say.ensures.bytes)

pub returns-clause-err : goal.returns-clause-err
returns-clause-err g c =
    stops_prompt g.T.Replier.rule (MayLeave (g.F.Shelf.keep_faults c.args.shelf.now) (g.F.Shelf.keep_faults c.reply.new.shelf) g.T.Replier.Stops g.T.Replier.Lacks) c.ask.result _ _ _ _ _ _ _ _ c.in_ok-text.ensures.ok c.deref.ensures.value c.in_ok-say.ensures.bytes c.ask.ensures.err
