use Rattle.opa_session.proofs.infer.Heard.{tells}
use Rattle.opa_session.proofs.infer.session.Session.replace_lists.Goals as goal

pub returns-in-Ok-clause-told : goal.returns-in-Ok-clause-told
returns-in-Ok-clause-told g c = tells _ _ _ _ _ _ _ _ _ c.in-Ok.ensures.ready c.tell.ensures
