use Rattle.std.proofs.Common.{List, [], ◌∷◌, ◌++◌, ◌∙◌, ◌<◌, None, ap, subst, arith, reverse, length}
use Rattle.opa_io.proofs.Lists.{reverse_push}
use Rattle.opa_mean.specs.Next.{first_or}
use Rattle.opa_need.specs.Finding.{added}
use Rattle.opa_need.specs.Noted.{IsRight}
use Rattle.opa_need.specs.Steps.{point_needs}
use Rattle.opa_need.specs.declared.steps.Step.{Step}
use Rattle.opa_need.specs.declared.steps.Step.TheVariants as step
use Rattle.opa_need.proofs.Noting.{none_noted}
use Rattle.opa_need.proofs.Pursuing.{begins, first_found}
use Rattle.opa_need.proofs.pursuit.questions.Goals as goal

pub loop-init : goal.loop-init
loop-init g c =
    let r = g.H.Held.rules c.args.held.now in let held = g.H.Held.held c.args.held.now in
    record {
      noted = none_noted r held c.new-found.result c.new-noted.result.items c.new-noted.ensures.items;
      way = begins r held c.args.attr c.args.inst.now c.in_ok-from.from c.args.day c.new-found.result c.new-runs.result c.push.new.self c.in_ok-from.ensures c.requires.live c.requires.day c.new-found.ensures c.new-runs.ensures
          (c.in_ok-push.ensures.ok ∙ ap (λ (xs : List Step). xs ++ step.Point c.args.attr c.in_ok-from.from c.args.day ∷ []) c.new-steps.ensures);
    }

pub returns-then-len-gt0-clause-front : goal.returns-then-len-gt0-clause-front
returns-then-len-gt0-clause-front g c =
    let r = g.H.Held.rules c.args.held.now in let held = g.H.Held.held c.args.held.now in
    ap (λ qs. first_or qs None) c.into_list.ensures ∙ first_found r held (added [] (point_needs r held c.args.attr c.args.inst.now c.args.day)) c.loop.found c.loop.runs c.loop.steps (let some : 0 < length c.loop.found = omega (arith, c.if-len-gt0.true, c.len.ensures) in some) c.loop.invariant.way

pub loop-preserved : goal.loop-preserved
loop-preserved g c =
    let r = g.H.Held.rules c.args.held.now in let held = g.H.Held.held c.args.held.now in
    c.in_ok-take-in-Some.ensures (added [] (point_needs r held c.args.attr c.args.inst.now c.args.day)) (subst (λ (xs : List Step). IsRight r held (added [] (point_needs r held c.args.attr c.args.inst.now c.args.day)) c.loop.found c.loop.runs c.loop.noted.items xs) (ap reverse c.in-Some.ensures ∙ reverse_push c.pop.new.self c.in-Some.step) c.loop.invariant)
