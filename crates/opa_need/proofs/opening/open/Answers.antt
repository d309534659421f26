use Rattle.opa_need.proofs.TreesOpen as law
use Rattle.opa_need.proofs.opening.open.Goals as goal

pub open_point-requires-clause-live : goal.open_point-requires-clause-live
open_point-requires-clause-live g c =
    let r = g.H.Held.rules c.args.held.now in let held = g.H.Held.held c.args.held.now in let es = c.args.enclosing.now in let d = c.args.day in let e = c.args.tree.now in
    law.placed_live r held c.case-case.ensures.fits es c.requires.live _ c.in-Some.inst.now c.in-Some.ensures

pub returns-in-Const : goal.returns-in-Const
returns-in-Const g c =
    let r = g.H.Held.rules c.args.held.now in let held = g.H.Held.held c.args.held.now in let es = c.args.enclosing.now in let d = c.args.day in let e = c.args.tree.now in
    law.opens_const r held es d e c.in-Const.field-0 c.new.result c.in-Const.is c.new.ensures

pub returns-in-Known : goal.returns-in-Known
returns-in-Known g c =
    let r = g.H.Held.rules c.args.held.now in let held = g.H.Held.held c.args.held.now in let es = c.args.enclosing.now in let d = c.args.day in let e = c.args.tree.now in
    law.opens_known r held es d e c.in-Known.field-0 c.new-in-Known.result c.in-Known.is c.new-in-Known.ensures

pub returns-in-None : goal.returns-in-None
returns-in-None g c =
    let r = g.H.Held.rules c.args.held.now in let held = g.H.Held.held c.args.held.now in let es = c.args.enclosing.now in let d = c.args.day in let e = c.args.tree.now in
    law.opens_no_attr r held es d e c.in-Attr.attr c.new-in-None.result c.in-Attr.is c.in-None.ensures c.new-in-None.ensures

pub returns-in-Some : goal.returns-in-Some
returns-in-Some g c =
    let r = g.H.Held.rules c.args.held.now in let held = g.H.Held.held c.args.held.now in let es = c.args.enclosing.now in let d = c.args.day in let e = c.args.tree.now in
    law.opens_attr r held es d e c.open_point.result c.in-Attr.attr c.in-Some.inst.now c.in-Attr.is c.in-Some.ensures c.open_point.ensures

pub returns-in-All : goal.returns-in-All
returns-in-All g c =
    let r = g.H.Held.rules c.args.held.now in let held = g.H.Held.held c.args.held.now in let es = c.args.enclosing.now in let d = c.args.day in let e = c.args.tree.now in
    law.opens_all r held es d e c.open_parts.result c.in-All.parts _ c.in-All.is c.as_slice.ensures c.open_parts.ensures

pub returns-in-Any : goal.returns-in-Any
returns-in-Any g c =
    let r = g.H.Held.rules c.args.held.now in let held = g.H.Held.held c.args.held.now in let es = c.args.enclosing.now in let d = c.args.day in let e = c.args.tree.now in
    law.opens_any r held es d e c.open_parts-in-Any.result c.in-Any.parts _ c.in-Any.is c.as_slice-in-Any.ensures c.open_parts-in-Any.ensures

pub returns-in-Op : goal.returns-in-Op
returns-in-Op g c =
    let r = g.H.Held.rules c.args.held.now in let held = g.H.Held.held c.args.held.now in let es = c.args.enclosing.now in let d = c.args.day in let e = c.args.tree.now in
    law.opens_op r held es d e c.open_parts-in-Op.result c.in-Op.field-0 c.in-Op.parts _ c.in-Op.is c.as_slice-in-Op.ensures c.open_parts-in-Op.ensures

pub returns-in-Not : goal.returns-in-Not
returns-in-Not g c =
    let r = g.H.Held.rules c.args.held.now in let held = g.H.Held.held c.args.held.now in let es = c.args.enclosing.now in let d = c.args.day in let e = c.args.tree.now in
    law.opens_not r held es d e c.open_whole.result c.in-Not.part _ c.in-Not.is c.get.ensures c.open_whole.ensures

pub returns-in-Certain : goal.returns-in-Certain
returns-in-Certain g c =
    let r = g.H.Held.rules c.args.held.now in let held = g.H.Held.held c.args.held.now in let es = c.args.enclosing.now in let d = c.args.day in let e = c.args.tree.now in
    law.opens_certain r held es d e c.open_whole-in-Certain.result c.in-Certain.part _ c.in-Certain.is c.get-in-Certain.ensures c.open_whole-in-Certain.ensures

pub returns-in-Window : goal.returns-in-Window
returns-in-Window g c =
    let r = g.H.Held.rules c.args.held.now in let held = g.H.Held.held c.args.held.now in let es = c.args.enclosing.now in let d = c.args.day in let e = c.args.tree.now in
    law.opens_window r held es d e c.open_span.result c.in-Window.field-0 c.in-Window.parts _ c.in-Window.is c.as_slice-in-Window.ensures c.open_span.ensures

pub returns-in-Rolling : goal.returns-in-Rolling
returns-in-Rolling g c =
    let r = g.H.Held.rules c.args.held.now in let held = g.H.Held.held c.args.held.now in let es = c.args.enclosing.now in let d = c.args.day in let e = c.args.tree.now in
    law.opens_rolling r held es d e c.open_days.result c.in-Rolling.field-0 c.in-Rolling.count _ c.in-Rolling.part _ c.in-Rolling.is c.get-in-Rolling.ensures c.saturating_sub-first.ensures c.open_days.ensures

pub returns-in-Table : goal.returns-in-Table
returns-in-Table g c =
    let r = g.H.Held.rules c.args.held.now in let held = g.H.Held.held c.args.held.now in let es = c.args.enclosing.now in let d = c.args.day in let e = c.args.tree.now in
    law.opens_table r held es d e c.open_rows.result c.in-Table.rows _ c.in-Table.last _ c.in-Table.is c.as_slice-in-Table.ensures c.get-in-Table.ensures c.open_rows.ensures

pub returns-in-Over : goal.returns-in-Over
returns-in-Over g c =
    let r = g.H.Held.rules c.args.held.now in let held = g.H.Held.held c.args.held.now in let es = c.args.enclosing.now in let d = c.args.day in let e = c.args.tree.now in
    law.opens_over r held es d e c.open_over.result c.in-Over.quant c.in-Over.rel c.in-Over.parts _ c.in-Over.is c.as_slice-in-Over.ensures c.open_over.ensures
