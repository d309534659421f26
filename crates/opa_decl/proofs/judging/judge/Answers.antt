use Rattle.std.proofs.Common.{◌∙◌, subst, List}
use Rattle.opa_decl.specs.declared.items.Item.{Item}
use Rattle.opa_decl.specs.Judging.{IsDraft}
use Rattle.opa_decl.proofs.JudgeLaws.{judged_are}
use Rattle.opa_decl.proofs.judging.judge.Goals as goal

pub returns : goal.returns
returns c =
    judged_are c.in_ok-draft.draft c.args.items c.as_slice-2.result.now c.in-Ok.judged.lists c.in-Ok.judged.fault
    (subst (λ (x : List Item). IsDraft c.in_ok-draft.draft x) c.as_slice.ensures c.in_ok-draft.ensures) (c.as_slice-2.ensures ∙ c.in_ok-numbered.ensures)
    (record { entities = c.in-Ok.ensures.entities; attributes = c.in-Ok.ensures.attributes; relations = c.in-Ok.ensures.relations; verbs = c.in-Ok.ensures.verbs; screens = c.in-Ok.ensures.screens; goals = c.in-Ok.ensures.goals; fault_is = c.in-Ok.ensures.fault })
