use Rattle.std.proofs.Common.{rules, ◌∙◌, ap}
use Rattle.opa_date.specs.declared.TheConstants.{DAYS}
use Rattle.opa_line.specs.Lines.{at}
use Rattle.opa_line.proofs.Mapping.{mapped_now, mapped_step, mapped_end}
use Rattle.opa_line.proofs.combine.mapped.Goals as goal

pub loop-rest-preserved : goal.loop-rest-preserved
loop-rest-preserved g c =
    mapped_step g.F.Fn c.args.f DAYS c.args.line.now c.loop-rest.value c.next-item.result _ _ c.until.new.self c.in_ok-answer.answer c.loop-rest.invariant c.in-len1-up.len_at_least c.next-item.is c.in_ok-answer.ensures c.in_ok-until.ensures

pub f-requires-2 : goal.f-requires-2
f-requires-2 g c =
    let r = mapped_now g.F.Fn c.args.f DAYS c.args.line.now _ _ _ c.loop-rest.invariant in
    let h = c.requires c.loop-rest.out.0 in
    let lt = r.0 in
    let a = r.1 in
    search rules

pub returns : goal.returns
returns g c =
    let e = mapped_end g.F.Fn c.args.f DAYS c.args.line.now c.loop-rest.value _ _ c.until-2.new.self c.in_ok-last.last c.loop-rest.invariant c.in_default.len_below c.in_ok-last.ensures c.in_ok-until-2.ensures in
    λ d lt. let v = e.1 d lt in (v.0, v.1, ap (λ l. at l d) c.finish.ensures ∙ v.2)

pub f-requires : goal.f-requires
f-requires g c =
    let r = mapped_now g.F.Fn c.args.f DAYS c.args.line.now _ _ _ c.loop-rest.invariant in
    let h = c.requires c.loop-rest.out.0 in
    let lt = r.0 in
    let a = r.1 in
    search rules
