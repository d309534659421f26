use Rattle.std.proofs.Common.{◌≡◌, ◌∷◌, [], length, length-append, sym, ap, subst, ◌∙◌, arith}
use Rattle.std.specs.Prelude.{reverse}
use Rattle.opa_sentence.specs.Moves.{fail, done, next, call}
use Rattle.opa_sentence.proofs.Machine.{Keeps, keeps_next, keeps_call, keeps_done, found, none}
use Rattle.opa_parse.specs.GroupTable.{production, resume}
use Rattle.opa_parse.specs.Steps.{move_of}
use Rattle.opa_parse.proofs.Shrinks.{call_less, next_less, done_less}
use Rattle.opa_parse.proofs.reader.read.Goals as goal

pub returns-in-Fail : goal.returns-in-Fail
returns-in-Fail c =
    let ns = c.args.names.now in
    let p : production c.loop-stack.sort c.loop-stack.rest ≡ fail = sym c.in_ok-production.ensures ∙ ap move_of c.in-Fail.is in
    none production (resume ns) c.args.start c.args.lines c.loop-stack.sort c.loop-stack.rest (reverse c.loop-stack.stack) p c.loop-stack.invariant

pub returns-in-None : goal.returns-in-None
returns-in-None c =
    let ns = c.args.names.now in
    let p : production c.loop-stack.sort c.loop-stack.rest ≡ done c.in-Done.group c.in-Done.after = sym c.in_ok-production.ensures ∙ ap move_of c.in-Done.is in
    found production (resume ns) c.args.start c.args.lines c.loop-stack.sort c.loop-stack.rest _ _ p
    (subst (λ st. Keeps production (resume ns) c.args.start c.args.lines c.loop-stack.sort c.loop-stack.rest (reverse st)) c.in-None.ensures.0 c.loop-stack.invariant)

pub loop-stack-smaller-in-Some : goal.loop-stack-smaller-in-Some
loop-stack-smaller-in-Some c =
    let p : production c.loop-stack.sort c.loop-stack.rest ≡ done c.in-Done.group c.in-Done.after = sym c.in_ok-production.ensures ∙ ap move_of c.in-Done.is in
    omega (arith, done_less c.loop-stack.sort c.loop-stack.rest c.in-Done.group c.in-Done.after p, ap length c.in-Some.ensures, length-append c.pop.new.self (c.in-Some.frame ∷ []))

pub loop-stack-preserved-in-Some : goal.loop-stack-preserved-in-Some
loop-stack-preserved-in-Some c =
    let ns = c.args.names.now in
    let p : production c.loop-stack.sort c.loop-stack.rest ≡ done c.in-Done.group c.in-Done.after = sym c.in_ok-production.ensures ∙ ap move_of c.in-Done.is in
    let k = subst (λ st. Keeps production (resume ns) c.args.start c.args.lines c.loop-stack.sort c.loop-stack.rest (reverse st)) c.in-Some.ensures c.loop-stack.invariant in
    subst (λ s. Keeps production (resume ns) c.args.start c.args.lines s c.in-Done.after (reverse c.pop.new.self)) (sym c.in_ok-sort-in-Some.ensures)
    (keeps_done production (resume ns) c.args.start c.args.lines _ _ _ _ c.in-Some.frame c.pop.new.self p k)

pub loop-stack-smaller-in-Next : goal.loop-stack-smaller-in-Next
loop-stack-smaller-in-Next c =
    let p : production c.loop-stack.sort c.loop-stack.rest ≡ next c.in-Next.more c.in-Next.after = sym c.in_ok-production.ensures ∙ ap move_of c.in-Next.is in
    omega (arith, next_less c.loop-stack.sort c.loop-stack.rest c.in-Next.more c.in-Next.after p)

pub loop-stack-preserved-in-Next : goal.loop-stack-preserved-in-Next
loop-stack-preserved-in-Next c =
    let ns = c.args.names.now in
    let p : production c.loop-stack.sort c.loop-stack.rest ≡ next c.in-Next.more c.in-Next.after = sym c.in_ok-production.ensures ∙ ap move_of c.in-Next.is in
    keeps_next production (resume ns) c.args.start c.args.lines _ _ _ _ (reverse c.loop-stack.stack) p c.loop-stack.invariant

pub loop-stack-smaller : goal.loop-stack-smaller
loop-stack-smaller c =
    let p : production c.loop-stack.sort c.loop-stack.rest ≡ call c.in-Call.part c.in-Call.frame c.in-Call.after = sym c.in_ok-production.ensures ∙ ap move_of c.in-Call.is in
    omega (arith, call_less c.loop-stack.sort c.loop-stack.rest c.in-Call.part c.in-Call.frame c.in-Call.after p, ap length c.in_ok-push-in-Call.ensures.ok, length-append c.loop-stack.stack (c.in-Call.frame ∷ []))

pub loop-stack-preserved : goal.loop-stack-preserved
loop-stack-preserved c =
    let ns = c.args.names.now in
    let p : production c.loop-stack.sort c.loop-stack.rest ≡ call c.in-Call.part c.in-Call.frame c.in-Call.after = sym c.in_ok-production.ensures ∙ ap move_of c.in-Call.is in
    subst (λ st. Keeps production (resume ns) c.args.start c.args.lines c.in-Call.part c.in-Call.after (reverse st)) (sym c.in_ok-push-in-Call.ensures.ok)
    (keeps_call production (resume ns) c.args.start c.args.lines _ _ _ _ _ c.loop-stack.stack p c.loop-stack.invariant)
