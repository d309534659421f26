use Rattle.std.proofs.Common.{Option, Bor, subst}
use Rattle.std.specs.Option.{option_copied}
use Rattle.opa_case.specs.Cases.{Answer}
use Rattle.opa_session.specs.Infer.Ready.{IsFound}
use Rattle.opa_session.proofs.infer.Found.{tells, tells_all, found_has, found_right}
use Rattle.opa_session.proofs.infer.told.told_line.Goals as goal

pub returns-in-Some-clause-value : goal.returns-in-Some-clause-value
returns-in-Some-clause-value g c =
    let n = g.N.Next.next c.args.next.now in
    found_right c.args.base.now n c.requires.fits c.args.attr c.args.inst.now c.in-Some.line.now (subst (λ (o : Option (Bor Answer)). IsFound c.args.base.now n c.args.attr c.args.inst.now (option_copied o)) c.in-Some.is c.requires.found)

pub returns-in-Some-clause-none : goal.returns-in-Some-clause-none
returns-in-Some-clause-none g c =
    let n = g.N.Next.next c.args.next.now in
    found_has c.args.base.now n c.requires.fits c.args.attr c.args.inst.now c.in-Some.line.now (subst (λ (o : Option (Bor Answer)). IsFound c.args.base.now n c.args.attr c.args.inst.now (option_copied o)) c.in-Some.is c.requires.found)

pub returns-in-None-clause-value : goal.returns-in-None-clause-value
returns-in-None-clause-value g c =
    let n = g.N.Next.next c.args.next.now in
    tells c.args.base.now n c.requires.fits c.args.attr c.args.inst.now c.answer_line.result (subst (λ (o : Option (Bor Answer)). IsFound c.args.base.now n c.args.attr c.args.inst.now (option_copied o)) c.in-None.is c.requires.found) c.answer_line.ensures.answer c.answer_line.ensures.form

pub returns-in-None-clause-none : goal.returns-in-None-clause-none
returns-in-None-clause-none g c =
    let n = g.N.Next.next c.args.next.now in
    tells_all c.args.base.now n c.requires.fits c.args.attr c.args.inst.now c.answer_line.result (subst (λ (o : Option (Bor Answer)). IsFound c.args.base.now n c.args.attr c.args.inst.now (option_copied o)) c.in-None.is c.requires.found) c.answer_line.ensures.answer
