use Rattle.std.proofs.Common.{◌≡◌, false, is_some, ◌∙◌, ap}
use Rattle.opa_mean.specs.declared.reached.slot.Slot.{Slot}
use Rattle.opa_session.specs.Store.Stores.{StoreView, kept_of, staged_of}
use Rattle.opa_session.proofs.store.Storing.{stages_seen, is_staged, still_kept, is_listed_too, is_once}
use Rattle.opa_session.proofs.store.store.Store.stage.Goals as goal

pub invariant_of-self-in-Ok : goal.invariant_of-self-in-Ok
invariant_of-self-in-Ok g c =
    let s : Slot = record { attr = c.args.slot.attr; inst = c.args.slot.inst } in
    let none : is_some (staged_of (record { entries = c.self.inside.entries; slots = c.self.inside.slots }) c.args.slot.attr c.args.slot.inst) ≡ false = ap (λ (v : StoreView). is_some (staged_of v c.args.slot.attr c.args.slot.inst)) c.self.view_is ∙ c.requires in (
      is_listed_too c.self.inside.entries c.stage_at.new.entries s c.in_ok-inst.inst c.args.line c.in_ok-inst.ensures c.in-Ok.ensures.ok c.self.inside.slots c.push.new.self c.in_ok-push.ensures.ok c.self.invariant.0,
      is_once c.self.inside.entries s c.self.inside.slots c.push.new.self c.in_ok-push.ensures.ok c.self.invariant.0 c.self.invariant.1 none,
    )

pub returns-in-Ok-clause-staged : goal.returns-in-Ok-clause-staged
returns-in-Ok-clause-staged g c =
    let s : Slot = record { attr = c.args.slot.attr; inst = c.args.slot.inst } in
    λ b j. is_staged c.self.inside.entries c.stage_at.new.entries s c.in_ok-inst.inst c.args.line c.in_ok-inst.ensures c.in-Ok.ensures.ok b j
    ∙ stages_seen (record { entries = c.self.inside.entries; slots = c.self.inside.slots }) c.args.self.now c.self.view_is c.args.slot.attr c.args.slot.inst c.args.line b j

pub returns-in-Ok-clause-kept : goal.returns-in-Ok-clause-kept
returns-in-Ok-clause-kept g c =
    let s : Slot = record { attr = c.args.slot.attr; inst = c.args.slot.inst } in
    λ a i. still_kept c.self.inside.entries c.stage_at.new.entries s c.in_ok-inst.inst c.args.line c.in_ok-inst.ensures c.in-Ok.ensures.ok a i ∙ ap (λ (v : StoreView). kept_of v a i) c.self.view_is
