use Rattle.std.proofs.Common.{List, ◌∷◌, ap, reverse, subst, sym}
use Rattle.std.proofs.lemmas.Result.{on_ok_weaker}
use Rattle.opa_need.specs.Steps as spec
use Rattle.opa_need.specs.Steps.{IsReady, step_needs}
use Rattle.opa_need.specs.declared.noted.NotedTree.{NotedTree}
use Rattle.opa_need.specs.declared.steps.Step.{Step}
use Rattle.opa_need.specs.declared.steps.Step.TheVariants as step
use Rattle.opa_case.specs.declared.question.Question.{Question}
use Rattle.opa_mean.specs.Uses.{Listed}
use Rattle.opa_need.specs.Finding.{Grows}
use Rattle.opa_need.specs.Noted.{GoesOn, IsRight}
use Rattle.opa_need.proofs.Noting.{going, grown, noted_now, ok_both, same_grown}
use Rattle.opa_need.proofs.Pursuing.{of_step, put_steps, list_asked}
use Rattle.opa_need.proofs.pursuit.take.Goals as goal

pub take_or_pass-requires-clause-day : goal.take_or_pass-requires-clause-day
take_or_pass-requires-clause-day g c =
    let r = g.H.Held.rules c.args.held.now in let held = g.H.Held.held c.args.held.now in
    let ready = subst (λ (s : Step). IsReady r held s) c.in-Tree.is c.requires in ready.1

pub take_or_pass-requires-clause-live : goal.take_or_pass-requires-clause-live
take_or_pass-requires-clause-live g c =
    let r = g.H.Held.rules c.args.held.now in let held = g.H.Held.held c.args.held.now in
    let ready = subst (λ (s : Step). IsReady r held s) c.in-Tree.is c.requires in ready.0

pub take_part-requires-clause-day : goal.take_part-requires-clause-day
take_part-requires-clause-day g c =
    let r = g.H.Held.rules c.args.held.now in let held = g.H.Held.held c.args.held.now in
    let ready = subst (λ (s : Step). IsReady r held s) c.in-Part.is c.requires in ready.1

pub take_part-requires-clause-live : goal.take_part-requires-clause-live
take_part-requires-clause-live g c =
    let r = g.H.Held.rules c.args.held.now in let held = g.H.Held.held c.args.held.now in
    let ready = subst (λ (s : Step). IsReady r held s) c.in-Part.is c.requires in ready.0

pub take_parts-requires-clause-day : goal.take_parts-requires-clause-day
take_parts-requires-clause-day g c =
    let r = g.H.Held.rules c.args.held.now in let held = g.H.Held.held c.args.held.now in
    let ready = subst (λ (s : Step). IsReady r held s) c.in-Parts.is c.requires in ready.1

pub take_parts-requires-clause-live : goal.take_parts-requires-clause-live
take_parts-requires-clause-live g c =
    let r = g.H.Held.rules c.args.held.now in let held = g.H.Held.held c.args.held.now in
    let ready = subst (λ (s : Step). IsReady r held s) c.in-Parts.is c.requires in ready.0

pub take_members-requires-clause-day : goal.take_members-requires-clause-day
take_members-requires-clause-day g c =
    let r = g.H.Held.rules c.args.held.now in let held = g.H.Held.held c.args.held.now in
    let ready = subst (λ (s : Step). IsReady r held s) c.in-Members.is c.requires in ready.1

pub take_members-requires-clause-live : goal.take_members-requires-clause-live
take_members-requires-clause-live g c =
    let r = g.H.Held.rules c.args.held.now in let held = g.H.Held.held c.args.held.now in
    let ready = subst (λ (s : Step). IsReady r held s) c.in-Members.is c.requires in ready.0

pub take_members-requires-clause-listed : goal.take_members-requires-clause-listed
take_members-requires-clause-listed g c =
    let r = g.H.Held.rules c.args.held.now in let held = g.H.Held.held c.args.held.now in
    let ready = subst (λ (s : Step). IsReady r held s) c.in-Members.is c.requires in ready.2

pub take_members-requires-clause-of : goal.take_members-requires-clause-of
take_members-requires-clause-of g c =
    let r = g.H.Held.rules c.args.held.now in let held = g.H.Held.held c.args.held.now in
    let ready = subst (λ (s : Step). IsReady r held s) c.in-Members.is c.requires in ready.3

pub take_point-requires-clause-day : goal.take_point-requires-clause-day
take_point-requires-clause-day g c =
    let r = g.H.Held.rules c.args.held.now in let held = g.H.Held.held c.args.held.now in
    let ready = subst (λ (s : Step). IsReady r held s) c.in-Point.is c.requires in ready.1

pub take_point-requires-clause-live : goal.take_point-requires-clause-live
take_point-requires-clause-live g c =
    let r = g.H.Held.rules c.args.held.now in let held = g.H.Held.held c.args.held.now in
    let ready = subst (λ (s : Step). IsReady r held s) c.in-Point.is c.requires in ready.0

pub leave_day-requires : goal.leave_day-requires
leave_day-requires g c =
    let r = g.H.Held.rules c.args.held.now in let held = g.H.Held.held c.args.held.now in
    let ready = subst (λ (s : Step). IsReady r held s) c.in-AfterDay.is c.requires in record { day = ready.1 }

pub leave_point-requires : goal.leave_point-requires
leave_point-requires g c =
    let r = g.H.Held.rules c.args.held.now in let held = g.H.Held.held c.args.held.now in
    let ready = subst (λ (s : Step). IsReady r held s) c.in-AfterPoint.is c.requires in record { day = ready.1 }

pub returns-in-Tree : goal.returns-in-Tree
returns-in-Tree g c =
    let r = g.H.Held.rules c.args.held.now in let held = g.H.Held.held c.args.held.now in
    on_ok_weaker c.take_or_pass.result (λ h total right. record {
      way = h total c.args.found.now c.args.runs.now (subst (λ (ns : List NotedTree). IsRight r held total c.args.found.now c.args.runs.now ns (step.Tree c.in-Tree.tree c.in-Tree.enclosing c.in-Tree.day ∷ reverse c.args.steps.now)) (sym c.deref.ensures.value)
          (subst (λ (s : Step). IsRight r held total c.args.found.now c.args.runs.now c.args.noted.now.items (s ∷ reverse c.args.steps.now)) c.in-Tree.is right));
      noted = right.noted;
    }) c.take_or_pass.ensures

pub returns-in-AfterTree : goal.returns-in-AfterTree
returns-in-AfterTree g c =
    let r = g.H.Held.rules c.args.held.now in let held = g.H.Held.held c.args.held.now in
    on_ok_weaker c.note_tree.result (λ h. subst (λ (s : Step). GoesOn r held s c.args.found.now c.args.runs.now c.args.noted.now.items c.args.steps.now c.args.found.now c.args.runs.now c.note_tree.new.noted.items c.args.steps.now) (sym c.in-AfterTree.is)
    (noted_now r held c.in-AfterTree.tree c.in-AfterTree.enclosing c.in-AfterTree.day c.args.found.now c.args.runs.now c.args.noted.now.items c.note_tree.new.noted.items c.args.steps.now (h r held c.args.found.now))) c.note_tree.ensures

pub returns-in-Part : goal.returns-in-Part
returns-in-Part g c =
    let r = g.H.Held.rules c.args.held.now in let held = g.H.Held.held c.args.held.now in
    on_ok_weaker c.take_part.result (λ h. going r held c.args.step.now c.args.found.now c.args.found.now c.args.runs.now c.args.runs.now c.args.noted.now.items c.args.steps.now c.take_part.new.steps (same_grown c.args.found.now)
    (put_steps r held c.args.found.now c.args.runs.now c.args.step.now (spec.part_needs r held c.in-Part.part.now c.in-Part.enclosing c.in-Part.day) c.args.steps.now c.take_part.new.steps (sym (ap (step_needs r held) c.in-Part.is)) h)) c.take_part.ensures

pub returns-in-Parts : goal.returns-in-Parts
returns-in-Parts g c =
    let r = g.H.Held.rules c.args.held.now in let held = g.H.Held.held c.args.held.now in
    on_ok_weaker c.take_parts.result (λ h. going r held c.args.step.now c.args.found.now c.args.found.now c.args.runs.now c.args.runs.now c.args.noted.now.items c.args.steps.now c.take_parts.new.steps (same_grown c.args.found.now)
    (put_steps r held c.args.found.now c.args.runs.now c.args.step.now (spec.parts_needs r held c.in-Parts.parts.now c.in-Parts.enclosing c.in-Parts.day) c.args.steps.now c.take_parts.new.steps (sym (ap (step_needs r held) c.in-Parts.is)) h)) c.take_parts.ensures

pub returns-in-Members : goal.returns-in-Members
returns-in-Members g c =
    let r = g.H.Held.rules c.args.held.now in let held = g.H.Held.held c.args.held.now in
    on_ok_weaker c.take_members.result (λ h. going r held c.args.step.now c.args.found.now c.args.found.now c.args.runs.now c.args.runs.now c.args.noted.now.items c.args.steps.now c.take_members.new.steps (same_grown c.args.found.now)
    (put_steps r held c.args.found.now c.args.runs.now c.args.step.now (spec.members_needs r held c.in-Members.quant c.in-Members.target c.in-Members.names.now c.in-Members.parts.now c.in-Members.enclosing c.in-Members.day) c.args.steps.now c.take_members.new.steps (sym (ap (step_needs r held) c.in-Members.is)) h)) c.take_members.ensures

pub returns-in-Point : goal.returns-in-Point
returns-in-Point g c =
    let r = g.H.Held.rules c.args.held.now in let held = g.H.Held.held c.args.held.now in
    ok_both c.take_point.result (λ h grows. going r held c.args.step.now c.args.found.now c.take_point.new.found c.args.runs.now c.args.runs.now c.args.noted.now.items c.args.steps.now c.take_point.new.steps grows
    (of_step r held c.args.step.now (step.Point c.in-Point.attr c.in-Point.inst c.in-Point.day) c.args.found.now c.take_point.new.found c.args.runs.now c.args.runs.now c.args.steps.now c.take_point.new.steps c.in-Point.is h)) c.take_point.ensures.leads c.take_point.ensures.grows

pub returns-in-Listed : goal.returns-in-Listed
returns-in-Listed g c =
    let r = g.H.Held.rules c.args.held.now in let held = g.H.Held.held c.args.held.now in
    on_ok_weaker c.ask_list.result (λ h. going r held c.args.step.now c.args.found.now c.ask_list.new.found c.args.runs.now c.args.runs.now c.args.noted.now.items c.args.steps.now c.args.steps.now
    (subst (λ (qs : List Question). Grows c.args.found.now qs) (sym h) (grown c.args.found.now (Listed c.in-Listed.rel c.in-Listed.inst)))
    (of_step r held c.args.step.now (step.Listed c.in-Listed.rel c.in-Listed.inst) c.args.found.now c.ask_list.new.found c.args.runs.now c.args.runs.now c.args.steps.now c.args.steps.now c.in-Listed.is (list_asked r held c.args.found.now c.ask_list.new.found c.args.runs.now c.in-Listed.rel c.in-Listed.inst c.args.steps.now h))) c.ask_list.ensures

pub returns-in-Days : goal.returns-in-Days
returns-in-Days g c =
    let r = g.H.Held.rules c.args.held.now in let held = g.H.Held.held c.args.held.now in
    on_ok_weaker c.take_days.result (λ h. going r held c.args.step.now c.args.found.now c.args.found.now c.args.runs.now c.args.runs.now c.args.noted.now.items c.args.steps.now c.take_days.new.steps (same_grown c.args.found.now)
    (of_step r held c.args.step.now (step.Days c.in-Days.part c.in-Days.enclosing c.in-Days.first c.in-Days.end) c.args.found.now c.args.found.now c.args.runs.now c.args.runs.now c.args.steps.now c.take_days.new.steps c.in-Days.is (h c.args.found.now c.args.runs.now))) c.take_days.ensures

pub returns-in-AfterDay : goal.returns-in-AfterDay
returns-in-AfterDay g c =
    let r = g.H.Held.rules c.args.held.now in let held = g.H.Held.held c.args.held.now in
    on_ok_weaker c.leave_day.result (λ h. going r held c.args.step.now c.args.found.now c.args.found.now c.args.runs.now c.args.runs.now c.args.noted.now.items c.args.steps.now c.leave_day.new.steps (same_grown c.args.found.now)
    (of_step r held c.args.step.now (step.AfterDay c.in-AfterDay.part c.in-AfterDay.enclosing c.in-AfterDay.day c.in-AfterDay.end) c.args.found.now c.args.found.now c.args.runs.now c.args.runs.now c.args.steps.now c.leave_day.new.steps c.in-AfterDay.is h)) c.leave_day.ensures

pub returns-in-AfterPoint : goal.returns-in-AfterPoint
returns-in-AfterPoint g c =
    let r = g.H.Held.rules c.args.held.now in let held = g.H.Held.held c.args.held.now in
    on_ok_weaker c.leave_point.result (λ h. going r held c.args.step.now c.args.found.now c.args.found.now c.args.runs.now c.leave_point.new.runs c.args.noted.now.items c.args.steps.now c.args.steps.now (same_grown c.args.found.now)
    (of_step r held c.args.step.now (step.AfterPoint c.in-AfterPoint.attr c.in-AfterPoint.inst c.in-AfterPoint.day) c.args.found.now c.args.found.now c.args.runs.now c.leave_point.new.runs c.args.steps.now c.args.steps.now c.in-AfterPoint.is (h c.args.steps.now))) c.leave_point.ensures
