use Rattle.std.proofs.Common.{◌∙◌, ◌∷◌, ap, subst, rules, arith}
use Rattle.opa_cells.specs.Instances.{named}
use Rattle.opa_need.specs.Finding.{AreFound}
use Rattle.opa_need.specs.Steps.{IsSettled}
use Rattle.opa_need.specs.Steps as spec
use Rattle.opa_need.proofs.OperandLaws.{one_is, two_are}
use Rattle.opa_need.proofs.Settling as law
use Rattle.opa_need.proofs.LastingLaws.{noted_settles}
use Rattle.opa_need.proofs.SettledParts as more
use Rattle.opa_need.proofs.stretches.+settling.Goals as goal

pub settled-returns-in-Const-clause-settles : goal.settled-returns-in-Const-clause-settles
settled-returns-in-Const-clause-settles g t c =
    let r = g.H.Held.rules c.args.held.now in let held = g.H.Held.held c.args.held.now in let found = c.args.found.now in let runs = c.args.runs.now in let d = c.args.day in
    let es = c.args.enclosing.now in let e = c.args.tree.now in
    law.settles_nothing r held found runs (spec.tree_needs r held e es) d _ (law.const_none r held e c.in-Const.field-0 es c.in-Const.is)

pub settled-returns-in-Known-clause-settles : goal.settled-returns-in-Known-clause-settles
settled-returns-in-Known-clause-settles g t c =
    let r = g.H.Held.rules c.args.held.now in let held = g.H.Held.held c.args.held.now in let found = c.args.found.now in let runs = c.args.runs.now in let d = c.args.day in
    let es = c.args.enclosing.now in let e = c.args.tree.now in
    law.settles_nothing r held found runs (spec.tree_needs r held e es) d _ (law.known_none r held e c.in-Known.field-0 es c.in-Known.is)

pub settled-returns-in-Attr-clause-settles : goal.settled-returns-in-Attr-clause-settles
settled-returns-in-Attr-clause-settles g t c =
    let r = g.H.Held.rules c.args.held.now in let held = g.H.Held.held c.args.held.now in let found = c.args.found.now in let runs = c.args.runs.now in let d = c.args.day in
    let es = c.args.enclosing.now in let e = c.args.tree.now in
    law.settles_as r held found runs (spec.attr_needs r held c.in-Attr.attr es) (spec.tree_needs r held e es) d c.settled_attr.result (law.attr_is r held e c.in-Attr.attr es c.in-Attr.is) c.settled_attr.ensures

pub settled-returns-in-All-clause-settles : goal.settled-returns-in-All-clause-settles
settled-returns-in-All-clause-settles g t c =
    let r = g.H.Held.rules c.args.held.now in let held = g.H.Held.held c.args.held.now in let found = c.args.found.now in let runs = c.args.runs.now in let d = c.args.day in
    let es = c.args.enclosing.now in let e = c.args.tree.now in
    law.settles_alike r held c.settled_parts.result found runs (spec.parts_needs r held c.as_slice.result.now es) (spec.tree_needs r held e es) d (law.all_is r held e c.in-All.parts _ es c.in-All.is c.as_slice.ensures) c.settled_parts.ensures.settles

pub settled-returns-in-Any-clause-settles : goal.settled-returns-in-Any-clause-settles
settled-returns-in-Any-clause-settles g t c =
    let r = g.H.Held.rules c.args.held.now in let held = g.H.Held.held c.args.held.now in let found = c.args.found.now in let runs = c.args.runs.now in let d = c.args.day in
    let es = c.args.enclosing.now in let e = c.args.tree.now in
    law.settles_alike r held c.settled_parts-in-Any.result found runs (spec.parts_needs r held c.as_slice-in-Any.result.now es) (spec.tree_needs r held e es) d (law.any_is r held e c.in-Any.parts _ es c.in-Any.is c.as_slice-in-Any.ensures) c.settled_parts-in-Any.ensures.settles

pub settled-returns-in-Op-clause-settles : goal.settled-returns-in-Op-clause-settles
settled-returns-in-Op-clause-settles g t c =
    let r = g.H.Held.rules c.args.held.now in let held = g.H.Held.held c.args.held.now in let found = c.args.found.now in let runs = c.args.runs.now in let d = c.args.day in
    let es = c.args.enclosing.now in let e = c.args.tree.now in
    law.settles_alike r held c.settled_parts-in-Op.result found runs (spec.parts_needs r held c.as_slice-in-Op.result.now es) (spec.tree_needs r held e es) d (law.op_is r held e c.in-Op.field-0 c.in-Op.parts _ es c.in-Op.is c.as_slice-in-Op.ensures) c.settled_parts-in-Op.ensures.settles

pub settled-returns-in-Not-clause-settles : goal.settled-returns-in-Not-clause-settles
settled-returns-in-Not-clause-settles g t c =
    let r = g.H.Held.rules c.args.held.now in let held = g.H.Held.held c.args.held.now in let found = c.args.found.now in let runs = c.args.runs.now in let d = c.args.day in
    let es = c.args.enclosing.now in let e = c.args.tree.now in
    law.settles_alike r held c.settled.result found runs (spec.tree_needs r held c.get.result.now es) (spec.tree_needs r held e es) d (law.not_is r held e c.in-Not.part _ es c.in-Not.is c.get.ensures) c.settled.ensures.settles

pub settled-returns-in-Certain-clause-settles : goal.settled-returns-in-Certain-clause-settles
settled-returns-in-Certain-clause-settles g t c =
    let r = g.H.Held.rules c.args.held.now in let held = g.H.Held.held c.args.held.now in let found = c.args.found.now in let runs = c.args.runs.now in let d = c.args.day in
    let es = c.args.enclosing.now in let e = c.args.tree.now in
    law.settles_alike r held c.settled-in-Certain.result found runs (spec.tree_needs r held c.get-in-Certain.result.now es) (spec.tree_needs r held e es) d (law.certain_is r held e c.in-Certain.part _ es c.in-Certain.is c.get-in-Certain.ensures) c.settled-in-Certain.ensures.settles

pub settled-returns-in-Rolling-clause-settles : goal.settled-returns-in-Rolling-clause-settles
settled-returns-in-Rolling-clause-settles g t c =
    let r = g.H.Held.rules c.args.held.now in let held = g.H.Held.held c.args.held.now in let found = c.args.found.now in let runs = c.args.runs.now in let d = c.args.day in
    let es = c.args.enclosing.now in let e = c.args.tree.now in
    law.settles_alike r held c.settled_days.result found runs (spec.last_needs r held c.in-Rolling.count c.get-in-Rolling.result.now es) (spec.tree_needs r held e es) d (law.rolling_is r held e c.in-Rolling.part _ c.in-Rolling.field-0 c.in-Rolling.count es c.in-Rolling.is c.get-in-Rolling.ensures) c.settled_days.ensures.settles

pub settled-returns-in-Over-clause-settles : goal.settled-returns-in-Over-clause-settles
settled-returns-in-Over-clause-settles g t c =
    let r = g.H.Held.rules c.args.held.now in let held = g.H.Held.held c.args.held.now in let found = c.args.found.now in let runs = c.args.runs.now in let d = c.args.day in
    let es = c.args.enclosing.now in let e = c.args.tree.now in
    law.settles_alike r held c.settled_over.result found runs (spec.quantifier_needs r held c.in-Over.quant c.in-Over.rel c.as_slice-parts.result.now es) (spec.tree_needs r held e es) d (more.over_is r held e c.in-Over.quant c.in-Over.rel c.in-Over.parts _ es c.in-Over.is c.as_slice-parts.ensures) c.settled_over.ensures.settles

pub settled-returns-in-Window-clause-settles : goal.settled-returns-in-Window-clause-settles
settled-returns-in-Window-clause-settles g t c =
    let r = g.H.Held.rules c.args.held.now in let held = g.H.Held.held c.args.held.now in let found = c.args.found.now in let runs = c.args.runs.now in let d = c.args.day in
    let es = c.args.enclosing.now in let e = c.args.tree.now in
    law.settles_alike r held c.settled_span.result found runs (spec.span_needs r held c.as_slice-in-Window.result.now es) (spec.tree_needs r held e es) d (more.window_is r held e c.in-Window.field-0 c.in-Window.parts _ es c.in-Window.is c.as_slice-in-Window.ensures) c.settled_span.ensures.settles

pub settled_part-returns-then-stay-day-clause-settles : goal.settled_part-returns-then-stay-day-clause-settles
settled_part-returns-then-stay-day-clause-settles g t c =
    let r = g.H.Held.rules c.args.held.now in let held = g.H.Held.held c.args.held.now in let found = c.args.found.now in let runs = c.args.runs.now in let d = c.args.day in
    let es = c.args.enclosing.now in
    law.settles_none r held found runs (spec.part_needs r held c.args.part.now es) d

pub settled_part-returns-then-is_unknown-clause-settles : goal.settled_part-returns-then-is_unknown-clause-settles
settled_part-returns-then-is_unknown-clause-settles g t c =
    let r = g.H.Held.rules c.args.held.now in let held = g.H.Held.held c.args.held.now in let found = c.args.found.now in let runs = c.args.runs.now in let d = c.args.day in
    let es = c.args.enclosing.now in
    law.open_settles r held c.settled_open.result found runs c.args.part.now es d c.in_ok-stay.stay.until c.in_ok-stay.stay.value c.in_ok-stay.ensures (search rules) (search rules) c.settled_open.ensures.settles

pub settled_part-returns-clause-settles : goal.settled_part-returns-clause-settles
settled_part-returns-clause-settles g t c =
    let r = g.H.Held.rules c.args.held.now in let held = g.H.Held.held c.args.held.now in let found = c.args.found.now in let runs = c.args.runs.now in let d = c.args.day in
    let es = c.args.enclosing.now in
    law.known_settles r held found runs c.args.part.now es d c.in_ok-stay.stay.until c.in_ok-stay.stay.value c.in_ok-stay.ensures (search rules)

pub settled_parts-loop-part-preserved : goal.settled_parts-loop-part-preserved
settled_parts-loop-part-preserved g t c =
    let r = g.H.Held.rules c.args.held.now in let held = g.H.Held.held c.args.held.now in let found = c.args.found.now in let runs = c.args.runs.now in let d = c.args.day in
    let es = c.args.enclosing.now in
    (λ right there. law.settled_more (λ e. spec.part_needs r held e es) found c.args.parts.now c.loop-part.part-index c.part-item.result d c.loop-part.least c.in_ok-own.own c.min-least.result c.loop-part-test.true c.part-item.is c.min-least.ensures there (c.loop-part.invariant.0 right there) (c.in_ok-own.ensures.settles right), c.in_ok-own.ensures.stay)

pub settled_days-loop-at-preserved : goal.settled_days-loop-at-preserved
settled_days-loop-at-preserved g t c =
    let r = g.H.Held.rules c.args.held.now in let held = g.H.Held.held c.args.held.now in let found = c.args.found.now in let runs = c.args.runs.now in let d = c.args.day in
    let es = c.args.enclosing.now in
    (search (arith, rules), λ right there. law.settled_step (spec.part_needs r held c.args.part.now es) found c.args.count d c.saturating_sub-first.result c.loop-at.at c.in_ok-next.next c.saturating_sub-first.ensures c.loop-at.invariant.0 (search rules) there (c.loop-at.invariant.1 right there) (c.in_ok-next.ensures.settles right), c.in_ok-next.ensures.stay)

pub settled_days-returns-clause-settles : goal.settled_days-returns-clause-settles
settled_days-returns-clause-settles g t c =
    let r = g.H.Held.rules c.args.held.now in let held = g.H.Held.held c.args.held.now in let found = c.args.found.now in let runs = c.args.runs.now in let d = c.args.day in
    let es = c.args.enclosing.now in
    λ right there. law.settled_last (spec.part_needs r held c.args.part.now es) found c.args.count d c.saturating_sub-first.result c.loop-at.at c.saturating_sub-first.ensures (c.loop-at.invariant.1 right there)

pub settled_over-returns-in-None-clause-settles : goal.settled_over-returns-in-None-clause-settles
settled_over-returns-in-None-clause-settles g t c =
    let r = g.H.Held.rules c.args.held.now in let held = g.H.Held.held c.args.held.now in let found = c.args.found.now in let runs = c.args.runs.now in let d = c.args.day in
    let es = c.args.enclosing.now in
    more.over_nowhere_settles r held found runs c.args.quant c.args.rel c.args.parts.now es d _ c.in-None.ensures

pub settled_over-returns-in-None-names_of-clause-settles : goal.settled_over-returns-in-None-names_of-clause-settles
settled_over-returns-in-None-names_of-clause-settles g t c =
    let r = g.H.Held.rules c.args.held.now in let held = g.H.Held.held c.args.held.now in let found = c.args.found.now in let runs = c.args.runs.now in let d = c.args.day in
    let es = c.args.enclosing.now in
    more.over_unlisted_settles r held found runs c.args.quant c.args.rel c.args.parts.now es c.in-Some.inst.now d _ c.in-Some.ensures c.in-None-names_of.ensures

pub settled_over-returns-in-Some-names_of-clause-settles : goal.settled_over-returns-in-Some-names_of-clause-settles
settled_over-returns-in-Some-names_of-clause-settles g t c =
    let r = g.H.Held.rules c.args.held.now in let held = g.H.Held.held c.args.held.now in let found = c.args.found.now in let runs = c.args.runs.now in let d = c.args.day in
    let es = c.args.enclosing.now in
    more.over_listed_settles r held found runs c.settled_members.result c.args.quant c.args.rel c.args.parts.now es c.in-Some.inst.now c.in-Some-names_of.names.now _ _ d c.in-Some.ensures c.in-Some-names_of.ensures c.as_slice-names.ensures c.target_of-target.ensures c.settled_members.ensures.settles

pub settled_members-loop-name-preserved : goal.settled_members-loop-name-preserved
settled_members-loop-name-preserved g t c =
    let r = g.H.Held.rules c.args.held.now in let held = g.H.Held.held c.args.held.now in let found = c.args.found.now in let runs = c.args.runs.now in let d = c.args.day in
    let es = c.args.enclosing.now in
    let inner = c.in_ok-inner.ensures ∙ ap (λ js. named c.args.target c.name-item.result ∷ js) c.as_slice.ensures in (
      λ right there. law.settled_more (λ n. spec.member_needs r held c.args.quant c.args.parts.now (named c.args.target n ∷ es)) found c.args.names.now c.loop-name.name-index c.name-item.result d c.loop-name.least c.in_ok-own.own c.min-least.result c.loop-name-test.true c.name-item.is c.min-least.ensures there (c.loop-name.invariant.0 right there)
          (subst (λ js. AreFound found (spec.member_needs r held c.args.quant c.args.parts.now js d) → IsSettled (spec.member_needs r held c.args.quant c.args.parts.now js) found d c.in_ok-own.own) inner (c.in_ok-own.ensures.settles right)),
      c.in_ok-own.ensures.stay,
    )

pub settled_member-returns-in-len1-clause-settles : goal.settled_member-returns-in-len1-clause-settles
settled_member-returns-in-len1-clause-settles g t c =
    let r = g.H.Held.rules c.args.held.now in let held = g.H.Held.held c.args.held.now in let found = c.args.found.now in let runs = c.args.runs.now in let d = c.args.day in
    more.member_one_settles r held found runs c.settled_part.result c.args.quant c.args.parts.now c.part-item.result c.args.inner.now d (one_is c.args.parts.now c.part-item.result c.in-len1.len_at_least c.in-len1.len_below c.part-item.is) c.settled_part.ensures.settles

pub settled_span-returns-in-len1-clause-settles : goal.settled_span-returns-in-len1-clause-settles
settled_span-returns-in-len1-clause-settles g t c =
    let r = g.H.Held.rules c.args.held.now in let held = g.H.Held.held c.args.held.now in let found = c.args.found.now in let runs = c.args.runs.now in let d = c.args.day in
    let es = c.args.enclosing.now in
    more.date_settles r held found runs c.settled_part.result c.args.parts.now c.date-item.result es d (one_is c.args.parts.now c.date-item.result c.in-len1.len_at_least c.in-len1.len_below c.date-item.is) c.settled_part.ensures.settles

pub settled-returns-in_ok-after-in-Table-clause-settles : goal.settled-returns-in_ok-after-in-Table-clause-settles
settled-returns-in_ok-after-in-Table-clause-settles g t c =
    let r = g.H.Held.rules c.args.held.now in let held = g.H.Held.held c.args.held.now in let found = c.args.found.now in let runs = c.args.runs.now in let d = c.args.day in
    let es = c.args.enclosing.now in let e = c.args.tree.now in
    more.table_settles r held found runs c.settled_rows.result e c.in-Table.rows _ c.in-Table.last _ _ es d c.in_ok-after-in-Table.after c.in-Table.is c.as_slice-rows.ensures c.get-in-Table.ensures c.get-in-Table-2.ensures c.in_ok-after-in-Table.ensures.settles c.settled_rows.ensures.settles

pub settled_members-returns-clause-settles : goal.settled_members-returns-clause-settles
settled_members-returns-clause-settles g t c =
    let r = g.H.Held.rules c.args.held.now in let held = g.H.Held.held c.args.held.now in let found = c.args.found.now in let runs = c.args.runs.now in let d = c.args.day in
    let es = c.args.enclosing.now in
    more.all_settle r held found runs (λ n. spec.member_needs r held c.args.quant c.args.parts.now (named c.args.target n ∷ es)) c.args.names.now c.loop-name.name-index d c.loop-name.least c.loop-name-test.false c.loop-name.invariant.0

pub settled_member-returns-then-is_true-clause-settles : goal.settled_member-returns-then-is_true-clause-settles
settled_member-returns-then-is_true-clause-settles g t c =
    let r = g.H.Held.rules c.args.held.now in let held = g.H.Held.held c.args.held.now in let found = c.args.found.now in let runs = c.args.runs.now in let d = c.args.day in
    more.member_two_settles r held found runs c.args.quant c.args.parts.now c.number-item.result c.test-item.result c.args.inner.now d _ (two_are c.args.parts.now c.number-item.result c.test-item.result c.in-len2.len_at_least c.in-len2.len_below c.number-item.is c.test-item.is) (search rules)
    (more.true_settles r held found runs c.number-item.result c.test-item.result c.args.inner.now d c.in_ok-stay-in-len2.stay.until c.in_ok-own-in-len2.own c.min-least.result c.in_ok-more-in-len2.more _ c.in_ok-stay-in-len2.stay.value c.in_ok-stay-in-len2.ensures (search rules) c.min-least.ensures c.min.ensures c.in_ok-own-in-len2.ensures.settles c.in_ok-more-in-len2.ensures.settles)

pub settled_member-returns-in-len2-clause-settles : goal.settled_member-returns-in-len2-clause-settles
settled_member-returns-in-len2-clause-settles g t c =
    let r = g.H.Held.rules c.args.held.now in let held = g.H.Held.held c.args.held.now in let found = c.args.found.now in let runs = c.args.runs.now in let d = c.args.day in
    more.member_two_settles r held found runs c.args.quant c.args.parts.now c.number-item.result c.test-item.result c.args.inner.now d _ (two_are c.args.parts.now c.number-item.result c.test-item.result c.in-len2.len_at_least c.in-len2.len_below c.number-item.is c.test-item.is) (search rules)
    (more.untrue_settles r held found runs c.number-item.result c.test-item.result c.args.inner.now d c.in_ok-stay-in-len2.stay.until c.in_ok-own-in-len2.own c.min-least.result c.in_ok-stay-in-len2.stay.value c.in_ok-stay-in-len2.ensures (search rules) c.min-least.ensures c.in_ok-own-in-len2.ensures.settles)

pub settled_span-returns-in_ok-steady-in-len2-clause-settles : goal.settled_span-returns-in_ok-steady-in-len2-clause-settles
settled_span-returns-in_ok-steady-in-len2-clause-settles g t c =
    let r = g.H.Held.rules c.args.held.now in let held = g.H.Held.held c.args.held.now in let found = c.args.found.now in let runs = c.args.runs.now in let d = c.args.day in
    let es = c.args.enclosing.now in
    more.at_settles r held found runs c.args.parts.now c.date-item-then-parts-lt3.result _ es d c.in_ok-own-in-len2.own c.in_ok-steady-in-len2.steady c.min.result (more.two_with c.args.parts.now c.date-item-then-parts-lt3.result c.in-len2.len_at_least c.in-len2.len_below c.date-item-then-parts-lt3.is) c.min.ensures c.in_ok-own-in-len2.ensures.settles c.in_ok-steady-in-len2.ensures

pub settled_span-returns-in_ok-still-in-len3-clause-settles : goal.settled_span-returns-in_ok-still-in-len3-clause-settles
settled_span-returns-in_ok-still-in-len3-clause-settles g t c =
    let r = g.H.Held.rules c.args.held.now in let held = g.H.Held.held c.args.held.now in let found = c.args.found.now in let runs = c.args.runs.now in let d = c.args.day in
    let es = c.args.enclosing.now in
    more.between_settles r held found runs c.args.parts.now c.start-item.result c.end-item.result _ es d c.in_ok-own-in-len3.own c.in_ok-steady-in-len3.steady c.in_ok-other-in-len3.other c.in_ok-still-in-len3.still c.min-first.result c.min-last.result c.min-in-len3.result (more.three_with c.args.parts.now c.start-item.result c.end-item.result c.in-len3.len_at_least c.in-len3.len_below c.start-item.is c.end-item.is) c.min-first.ensures c.min-last.ensures c.min-in-len3.ensures c.in_ok-own-in-len3.ensures.settles c.in_ok-steady-in-len3.ensures c.in_ok-other-in-len3.ensures.settles c.in_ok-still-in-len3.ensures

pub settled_rows-returns-then-is_true-clause-settles : goal.settled_rows-returns-then-is_true-clause-settles
settled_rows-returns-then-is_true-clause-settles g t c =
    let r = g.H.Held.rules c.args.held.now in let held = g.H.Held.held c.args.held.now in let found = c.args.found.now in let runs = c.args.runs.now in let d = c.args.day in
    let es = c.args.enclosing.now in
    λ settles. more.row_true r held found runs c.args.rows.now c.args._last.now es c.loop-row.row-index d c.loop-row.least c.in_ok-stay.stay.until c.min-least.result c.in_ok-own.own _ c.row-item.result c.in_ok-stay.stay.value c.loop-row-test.true c.row-item.is c.min-least.ensures c.in_ok-stay.ensures (search rules) c.min.ensures c.loop-row.invariant.0 c.in_ok-own.ensures.settles

pub settled_rows-returns-then-is_unknown-clause-settles : goal.settled_rows-returns-then-is_unknown-clause-settles
settled_rows-returns-then-is_unknown-clause-settles g t c =
    let r = g.H.Held.rules c.args.held.now in let held = g.H.Held.held c.args.held.now in let found = c.args.found.now in let runs = c.args.runs.now in let d = c.args.day in
    let es = c.args.enclosing.now in
    λ settles. more.row_unknown r held found runs c.args.rows.now c.args._last.now es c.loop-row.row-index d c.loop-row.least c.in_ok-stay.stay.until c.min-least.result c.in_ok-own-2.own _ c.row-item.result c.in_ok-stay.stay.value c.loop-row-test.true c.row-item.is c.min-least.ensures c.in_ok-stay.ensures (search rules) c.min-then-is_unknown.ensures c.loop-row.invariant.0 c.in_ok-own-2.ensures.settles

pub settled_rows-returns-then-not-is_false-clause-settles : goal.settled_rows-returns-then-not-is_false-clause-settles
settled_rows-returns-then-not-is_false-clause-settles g t c =
    let r = g.H.Held.rules c.args.held.now in let held = g.H.Held.held c.args.held.now in let found = c.args.found.now in let runs = c.args.runs.now in let d = c.args.day in
    let es = c.args.enclosing.now in
    λ settles. more.row_other r held found runs c.args.rows.now c.args._last.now es c.loop-row.row-index d c.loop-row.least c.in_ok-stay.stay.until c.min-least.result c.row-item.result c.in_ok-stay.stay.value c.loop-row-test.true c.row-item.is c.min-least.ensures c.in_ok-stay.ensures (search rules) (search rules) (search rules) c.loop-row.invariant.0

pub settled_rows-loop-row-preserved : goal.settled_rows-loop-row-preserved
settled_rows-loop-row-preserved g t c =
    let r = g.H.Held.rules c.args.held.now in let held = g.H.Held.held c.args.held.now in let found = c.args.found.now in let runs = c.args.runs.now in let d = c.args.day in
    let es = c.args.enclosing.now in
    (more.row_false r held c.args.rows.now c.args._last.now es c.loop-row.row-index d c.loop-row.least c.in_ok-stay.stay.until c.min-least.result c.row-item.result c.in_ok-stay.stay.value c.loop-row-test.true c.row-item.is c.min-least.ensures c.in_ok-stay.ensures (search rules) c.loop-row.invariant.0, c.loop-row.invariant.1)

pub settled_rows-returns-clause-settles : goal.settled_rows-returns-clause-settles
settled_rows-returns-clause-settles g t c =
    let r = g.H.Held.rules c.args.held.now in let held = g.H.Held.held c.args.held.now in let found = c.args.found.now in let runs = c.args.runs.now in let d = c.args.day in
    let es = c.args.enclosing.now in
    λ settles. more.rows_end r held found runs c.args.rows.now c.args._last.now es c.loop-row.row-index d c.loop-row.least c.args.after _ c.loop-row-test.false c.min-2.ensures c.loop-row.invariant.0 settles

pub settled_open-returns-in-Some-clause-settles : goal.settled_open-returns-in-Some-clause-settles
settled_open-returns-in-Some-clause-settles g t c =
    let r = g.H.Held.rules c.args.held.now in let held = g.H.Held.held c.args.held.now in
    noted_settles r held c.deref.result.now c.args.noted.now.items c.in_ok-before.before c.in-Some.until c.args.tree.now c.args.enclosing.now c.args.day c.args.found.now c.args.runs.now c.in-Some.is c.deref.ensures.value c.in_ok-before.ensures c.requires
