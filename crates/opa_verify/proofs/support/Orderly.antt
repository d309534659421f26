-- A case that fits has its containers in order, and relations to one list at most one name.
use Rattle.std.proofs.Common.{◌≡◌, ◌⊎◌, inl, inr, IsTrue, ◌-◌, ◌<◌, ◌≤◌, true, false, Option, None, Some, length, refl, sym, ◌∙◌, ap, arith}
use Rattle.std.specs.Prelude.{unwrap_or, slice_get}
use Rattle.std.specs.FinMap.{get}
use Rattle.opa_io.proofs.Places.{at_of_All}
use Rattle.opa_model.specs.declared.ids.RelId.{RelId}
use Rattle.opa_model.specs.Models.{IsModel, IsOverAll}
use Rattle.opa_cells.specs.declared.instance.InstanceId.{InstanceId}
use Rattle.opa_case.specs.Cases.{CaseView, stored, list_of}
use Rattle.opa_case.specs.Live.{Names, container_of}
use Rattle.opa_case.specs.Shapes.{Shape, shape_of, relation_or, no_relation}
use Rattle.opa_case.proofs.Shaped.{shape_is}
use Rattle.opa_model.specs.declared.lists.Lists.{Lists}
use Rattle.opa_model.specs.declared.things.Relation.{Relation}
use Rattle.opa_case.proofs.Losing.{is_every}
use Rattle.opa_case.proofs.Stands.{either_has, in_upto}
use Rattle.opa_tree.specs.declared.rulebase.Rulebase.{Rulebase}
use Rattle.opa_mean.specs.Given.{base_of, facts_of}
use Rattle.opa_mean.specs.Rulebases.{IsOf}
use Rattle.opa_mean.proofs.Fitting.{live_in}
use Rattle.opa_mean.proofs.LawsOver.{base, facts}
use Rattle.opa_verify.proofs.support.Singling.{rules_are_single_holds}
use Rattle.opa_verify.specs.Support.Proofs.{IsOrderly}
use Rattle.opa_verify.specs.Support.Rulebases.{HeldUpSupports, ReportsAreHeldUp}
use Rattle.opa_verify.proofs.support.Reporting.{report_is_held_up_holds}
use Rattle.opa_verify.proofs.support.Upholding.{held_up_fixes_holds}

pub held_up_supports_holds : HeldUpSupports
held_up_supports_holds r lines held a i d v told c is live agrees = held_up_fixes_holds (base_of r) lines (base r c is) held a i d v told (facts_of c) (facts r c is) (live_in c i live) agrees

-- a list of all instances is no relation to one
over_many : (m : Lists) → IsModel m → (r : RelId) → (relation_or m r).every ≡ true → (relation_or m r).one ≡ false
over_many m is r h = go (slice_get m.relations r.0) refl h
  where
    go : (o : Option Relation) → slice_get m.relations r.0 ≡ o → (unwrap_or o no_relation).every ≡ true → (relation_or m r).one ≡ false
    go None e h = absurd (cc h)
    go (Some x) e h = ap (λ o. (unwrap_or o no_relation).one) e ∙ (at_of_All (λ y. IsTrue y.every → IsOverAll y) m.relations r.0 x is.over_all e h).to_many

module _ (r : Rulebase) (c : CaseView) (is : IsOf r c) where
  abbrev s : Shape
  s = shape_of r.model

  falls : (i j : InstanceId) → container_of c.live i ≡ Some j → j.entity.0 < i.entity.0
  falls i j e =
      let shape = shape_is r.model is.is_model in
      let up = in_upto s (stored c.lists) (s.count - 1) i j (sym (ap (λ l. container_of l i) is.fits.live) ∙ e) in
      let has = up.2 in
      let inside : i.entity.0 < s.count = omega (arith, up.1, shape.some) in
      let at : j.entity.0 ≡ s.parent i.entity.0 = is.fits.sound.source (s.contained i.entity.0) j has.names has.known ∙ shape.source i.entity.0 up.0 inside in
      omega (arith, at, shape.earlier i.entity.0 up.0 inside)

  one : (q : RelId) (i : InstanceId) (names : Names) → s.one q ≡ true → list_of c q i ≡ Some names → length names ≤ 1
  one q i names single h = go (either_has (get c.lists (q.0, i)) (get c.every (q.0, i)) names h)
    where
      go : (get c.lists (q.0, i) ≡ Some names) ⊎ (get c.every (q.0, i) ≡ Some names) → length names ≤ 1
      go (inl g) = is.fits.sound.one q i names g single
      go (inr g) =
          let every : s.every q ≡ true = is_every s (stored c.lists) q.0 i names (sym (ap (λ m. get m (q.0, i)) is.fits.every) ∙ g) in
          absurd (cc (single, over_many r.model is.is_model q every))

  pub orderly : IsOrderly (base_of r) (facts_of c)
  orderly = record { falls = λ i j live e. falls i j e; one = λ q i names live o h. one q i names o h; single = rules_are_single_holds r }

pub reports_are_held_up_holds : ReportsAreHeldUp
reports_are_held_up_holds r c is x live entries days =
    report_is_held_up_holds (base_of r) (facts_of c) (base r c is) (facts r c is) (orderly r c is) x.attr x.inst x.day (live_in c x.inst live) x.lines (record { entries = entries; no_empty_run = λ m j s t v there. (days m j s t v there).0 })
