use Rattle.opa_need.proofs.TreesOpen as law
use Rattle.opa_need.proofs.opening.open_over.Goals as goal

pub open_members-requires-clause-listed : goal.open_members-requires-clause-listed
open_members-requires-clause-listed g c =
    let r = g.H.Held.rules c.args.held.now in let held = g.H.Held.held c.args.held.now in
    law.listed_live r held c.case-case.ensures.fits c.args.rel c.in-Some.inst.now c.in-Some-names_of.names.now _ _ c.in-Some-names_of.ensures c.as_slice-names.ensures c.target_of-target.ensures

pub returns-in-None : goal.returns-in-None
returns-in-None g c =
    let r = g.H.Held.rules c.args.held.now in let held = g.H.Held.held c.args.held.now in let es = c.args.enclosing.now in let d = c.args.day in
    law.over_nowhere r held es d c.args.quant c.args.rel c.args.parts.now c.new.result c.in-None.ensures c.new.ensures

pub returns-in-None-names_of : goal.returns-in-None-names_of
returns-in-None-names_of g c =
    let r = g.H.Held.rules c.args.held.now in let held = g.H.Held.held c.args.held.now in let es = c.args.enclosing.now in let d = c.args.day in
    law.over_unlisted r held es d c.open_list.result c.args.quant c.args.rel c.args.parts.now c.in-Some.inst.now c.in-Some.ensures c.in-None-names_of.ensures c.open_list.ensures

pub returns-in-Some-names_of : goal.returns-in-Some-names_of
returns-in-Some-names_of g c =
    let r = g.H.Held.rules c.args.held.now in let held = g.H.Held.held c.args.held.now in let es = c.args.enclosing.now in let d = c.args.day in
    law.over_listed r held es d c.open_members.result c.args.quant c.args.rel c.args.parts.now c.in-Some.inst.now c.in-Some-names_of.names.now _ _ c.in-Some.ensures c.in-Some-names_of.ensures c.as_slice-names.ensures c.target_of-target.ensures c.open_members.ensures
