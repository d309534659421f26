use Rattle.std.proofs.Common.{◌∙◌, ap}
use Rattle.opa_session.specs.Store.Stores.{StoreView, kept_of, staged_lines}
use Rattle.opa_session.proofs.store.Listing.{among}
use Rattle.opa_session.proofs.store.Storing.{abandons, shorter, nothing_left}
use Rattle.opa_session.proofs.store.store.Store.abandon.Goals as goal

pub loop-slot-init : goal.loop-slot-init
loop-slot-init g c = record {
  kept = λ a i. ap (λ (s : StoreView). kept_of s a i) c.self.view_is;
  listed = among (staged_lines c.self.inside.entries) c.self.inside.slots c.self.invariant.0;
}

pub loop-slot-smaller : goal.loop-slot-smaller
loop-slot-smaller g c = shorter c.loop-slot.self-inside.slots c.pop.new.self c.in-Some.slot c.in-Some.ensures

pub loop-slot-preserved : goal.loop-slot-preserved
loop-slot-preserved g c =
    let k = abandons c.loop-slot.self-inside.entries c.abandon_at.new.entries c.in-Some.slot c.loop-slot.self-inside.slots c.pop.new.self c.in-Some.ensures c.loop-slot.invariant.listed c.abandon_at.ensures in
    record { kept = λ a i. k.0 a i ∙ c.loop-slot.invariant.kept a i; listed = k.1 }

pub invariant_of-self : goal.invariant_of-self
invariant_of-self g c = nothing_left c.loop-slot.self-inside.entries c.loop-slot.self-inside.slots c.pop.new.self c.loop-slot.invariant.listed c.in_default.ensures.0 c.in_default.ensures.1

pub returns-clause-kept : goal.returns-clause-kept
returns-clause-kept g c = λ a i. c.loop-slot.invariant.kept a i

pub loop-slot-smaller-in-Some : goal.loop-slot-smaller-in-Some
loop-slot-smaller-in-Some g c = shorter c.loop-slot.self-inside.slots c.pop.new.self c.in-Some.slot c.in-Some.ensures

pub loop-slot-preserved-in-Some : goal.loop-slot-preserved-in-Some
loop-slot-preserved-in-Some g c =
    let k = abandons c.loop-slot.self-inside.entries c.abandon_at.new.entries c.in-Some.slot c.loop-slot.self-inside.slots c.pop.new.self c.in-Some.ensures c.loop-slot.invariant.listed c.abandon_at.ensures in
    record { kept = λ a i. k.0 a i ∙ c.loop-slot.invariant.kept a i; listed = k.1 }
