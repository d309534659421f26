use Rattle.std.proofs.Common.{arith}
use Rattle.opa_reply.proofs.Leaving.{is_dismissed, is_not_there}
use Rattle.opa_reply.proofs.dismissing.dismissed.Goals as goal

pub returns-in_ok-words-clause-ok : goal.returns-in_ok-words-clause-ok
returns-in_ok-words-clause-ok g c =
    is_dismissed (λ l. (goal.Listener-dyn g (l.vtable, l.value)).state l.value) c.args.listeners.now.items _ c.args.number c.in_ok-words.words.items c.in_ok-words.ensures.words c.in_ok-words.ensures.others

pub returns-in_ok-text-clause-ok : goal.returns-in_ok-text-clause-ok
returns-in_ok-text-clause-ok g c =
    is_not_there (λ l. (goal.Listener-dyn g (l.vtable, l.value)).state l.value) c.args.listeners.now.items c.args.number c.in_ok-text.text.items (omega (arith, c.if-place-len.false, c.len.ensures)) c.in_ok-text.ensures
