use Rattle.std.proofs.Common.{◌≡◌, ◌∷◌, [], length, length-append, sym, ap, subst, ◌∙◌, arith}
use Rattle.std.specs.Prelude.{reverse}
use Rattle.opa_sentence.specs.Cursors.{seen}
use Rattle.opa_sentence.specs.Measures.{bounded}
use Rattle.opa_sentence.specs.Moves.{fail, done, next, call}
use Rattle.opa_sentence.specs.Spelled.{weight}
use Rattle.opa_sentence.specs.Steps.{move_of}
use Rattle.opa_sentence.specs.Table.{production, resume}
use Rattle.opa_sentence.proofs.Falls.{call_less, next_less, done_less}
use Rattle.opa_sentence.proofs.Machine.{Keeps, keeps_next, keeps_call, keeps_done, found, none}
use Rattle.opa_sentence.proofs.reader.read.Goals as goal

pub returns-in-Fail : goal.returns-in-Fail
returns-in-Fail c =
    let ns = c.args.names.now in
    let p : production bounded ns c.loop-stack.sort (seen c.loop-stack.rest) ≡ fail = sym c.in_ok-production.ensures ∙ ap move_of c.in-Fail.is in
    none (production bounded ns) (resume bounded) c.args.start (seen c.args.tokens) c.loop-stack.sort (seen c.loop-stack.rest) (reverse c.loop-stack.stack) p c.loop-stack.invariant

pub returns-in-None : goal.returns-in-None
returns-in-None c =
    let ns = c.args.names.now in
    let p : production bounded ns c.loop-stack.sort (seen c.loop-stack.rest) ≡ done c.in-Done.reading (seen c.in-Done.after) = sym c.in_ok-production.ensures ∙ ap move_of c.in-Done.is in
    found (production bounded ns) (resume bounded) c.args.start (seen c.args.tokens) c.loop-stack.sort (seen c.loop-stack.rest) _ _ p
    (subst (λ st. Keeps (production bounded ns) (resume bounded) c.args.start (seen c.args.tokens) c.loop-stack.sort (seen c.loop-stack.rest) (reverse st)) c.in-None.ensures.0 c.loop-stack.invariant)

pub loop-stack-smaller-in-Some : goal.loop-stack-smaller-in-Some
loop-stack-smaller-in-Some c =
    let ns = c.args.names.now in
    let p : production bounded ns c.loop-stack.sort (seen c.loop-stack.rest) ≡ done c.in-Done.reading (seen c.in-Done.after) = sym c.in_ok-production.ensures ∙ ap move_of c.in-Done.is in
    omega (arith, done_less bounded ns c.loop-stack.sort (seen c.loop-stack.rest) c.in-Done.reading (seen c.in-Done.after) c.in-Some.frame p, ap (λ s. weight s (seen c.in-Done.after)) c.in_ok-sort-in-Some.ensures, ap length c.in-Some.ensures, length-append c.pop.new.self (c.in-Some.frame ∷ []))

pub loop-stack-preserved-in-Some : goal.loop-stack-preserved-in-Some
loop-stack-preserved-in-Some c =
    let ns = c.args.names.now in
    let p : production bounded ns c.loop-stack.sort (seen c.loop-stack.rest) ≡ done c.in-Done.reading (seen c.in-Done.after) = sym c.in_ok-production.ensures ∙ ap move_of c.in-Done.is in
    let k = subst (λ st. Keeps (production bounded ns) (resume bounded) c.args.start (seen c.args.tokens) c.loop-stack.sort (seen c.loop-stack.rest) (reverse st)) c.in-Some.ensures c.loop-stack.invariant in
    subst (λ s. Keeps (production bounded ns) (resume bounded) c.args.start (seen c.args.tokens) s (seen c.in-Done.after) (reverse c.pop.new.self)) (sym c.in_ok-sort-in-Some.ensures)
    (keeps_done (production bounded ns) (resume bounded) c.args.start (seen c.args.tokens) _ _ _ _ c.in-Some.frame c.pop.new.self p k)

pub loop-stack-smaller-in-Next : goal.loop-stack-smaller-in-Next
loop-stack-smaller-in-Next c =
    let ns = c.args.names.now in
    let p : production bounded ns c.loop-stack.sort (seen c.loop-stack.rest) ≡ next c.in-Next.more (seen c.in-Next.after) = sym c.in_ok-production.ensures ∙ ap move_of c.in-Next.is in
    omega (arith, next_less bounded ns c.loop-stack.sort (seen c.loop-stack.rest) c.in-Next.more (seen c.in-Next.after) p)

pub loop-stack-preserved-in-Next : goal.loop-stack-preserved-in-Next
loop-stack-preserved-in-Next c =
    let ns = c.args.names.now in
    let p : production bounded ns c.loop-stack.sort (seen c.loop-stack.rest) ≡ next c.in-Next.more (seen c.in-Next.after) = sym c.in_ok-production.ensures ∙ ap move_of c.in-Next.is in
    keeps_next (production bounded ns) (resume bounded) c.args.start (seen c.args.tokens) _ _ _ _ (reverse c.loop-stack.stack) p c.loop-stack.invariant

pub loop-stack-smaller : goal.loop-stack-smaller
loop-stack-smaller c =
    let ns = c.args.names.now in
    let p : production bounded ns c.loop-stack.sort (seen c.loop-stack.rest) ≡ call c.in-Call.part c.in-Call.frame (seen c.in-Call.after) = sym c.in_ok-production.ensures ∙ ap move_of c.in-Call.is in
    omega (arith, call_less bounded ns c.loop-stack.sort (seen c.loop-stack.rest) c.in-Call.part c.in-Call.frame (seen c.in-Call.after) p, ap length c.in_ok-push-in-Call.ensures.ok, length-append c.loop-stack.stack (c.in-Call.frame ∷ []))

pub loop-stack-preserved : goal.loop-stack-preserved
loop-stack-preserved c =
    let ns = c.args.names.now in
    let p : production bounded ns c.loop-stack.sort (seen c.loop-stack.rest) ≡ call c.in-Call.part c.in-Call.frame (seen c.in-Call.after) = sym c.in_ok-production.ensures ∙ ap move_of c.in-Call.is in
    subst (λ st. Keeps (production bounded ns) (resume bounded) c.args.start (seen c.args.tokens) c.in-Call.part (seen c.in-Call.after) (reverse st)) (sym c.in_ok-push-in-Call.ensures.ok)
    (keeps_call (production bounded ns) (resume bounded) c.args.start (seen c.args.tokens) _ _ _ _ _ c.loop-stack.stack p c.loop-stack.invariant)
