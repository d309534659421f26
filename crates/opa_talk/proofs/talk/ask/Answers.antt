use Rattle.std.proofs.Common.{subst, ◌∙◌}
use Rattle.std.proofs.lemmas.Result.{err_from_is_err_and}
use Rattle.opa_io.specs.Outside.{AppendsFront}
use Rattle.opa_talk.proofs.talk.ask.Goals as goal

pub returns-in_err-say-clause-err : goal.returns-in_err-say-clause-err
returns-in_err-say-clause-err g c =
    let p = err_from_is_err_and c.from_residual-in_err-say.result c.from_residual-in_err-say.ensures.1 in
    rw p.1 (subst (AppendsFront (g.K.Sink.written c.args.out.now) (g.K.Sink.written c.say.new.out)) (c.deref.ensures.value ∙ (c.in_ok-prompt.ensures _ _ c.args.steps.now).text_is) c.in_err-say.ensures.bytes)
