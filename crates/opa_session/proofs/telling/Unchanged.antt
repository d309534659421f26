-- A slot that a change doesn't reach isn't told.
use Rattle.std.proofs.Common.{◌≡◌, ℕ, ◌<◌, Bool, true, false, cond, not, Option, None, Some, is_some, refl, ◌∙◌, ap}
use Rattle.std.specs.Prelude.{◌&&◌, ◌||◌}
use Rattle.std.specs.Option.{option_map}
use Rattle.opa_date.specs.declared.TheConstants.{DAYS}
use Rattle.opa_value.specs.declared.value.Value.TheVariants.{Unknown}
use Rattle.opa_model.specs.declared.ids.AttrId.{AttrId}
use Rattle.opa_cells.specs.declared.instance.InstanceId.{InstanceId}
use Rattle.opa_case.specs.Cases.{CaseView}
use Rattle.opa_mean.specs.Reached.Dirty.{is_reached}
use Rattle.opa_tree.specs.declared.rulebase.Rulebase.{Rulebase}
use Rattle.opa_tree.specs.declared.rules.Rule.{Rule}
use Rattle.opa_tree.specs.Rules.{rule_of}
use Rattle.opa_mean.specs.Changes.{first_difference, is_live, value_before, change_of}
use Rattle.opa_mean.specs.Given.{base_of, facts_of}
use Rattle.opa_mean.specs.Rulebases.{IsOf, value_at}
use Rattle.opa_mean.specs.Slots.{is_slot}
use Rattle.opa_mean.proofs.ChangesAre.{difference_found}
use Rattle.opa_mean.proofs.LawsOver.{clean_stays_holds}
use Rattle.opa_session.specs.Telling.Among.{DirtyHaveChanges}
use Rattle.opa_session.specs.Telling.Telling.{moved}
use Rattle.opa_session.proofs.telling.Placed.{is_at}

first_false : (x y z : Bool) → (not (x && y) || z) ≡ false → x ≡ true
first_false true y z h = refl
first_false false y z h = absurd (cc h)

module _ (r : Rulebase) (c c' : CaseView) (is : IsOf r c) (is' : IsOf r c') (a : AttrId) (i : InstanceId) (slot : is_slot r c' a i ≡ true) (clean : is_reached r c c' a i ≡ false) where
  ruled : (o : Option Rule) → rule_of r.rules a ≡ o → is_some o ≡ true → (d : ℕ) → d < DAYS → value_at r c a i d ≡ value_at r c' a i d
  ruled None e h = absurd (cc h)
  ruled (Some rule) e h = clean_stays_holds r c c' is is' a i rule e (is_at r c' a i slot).lives clean

  was_live : is_live (facts_of c) i ≡ true
  was_live = first_false (is_live (facts_of c) i) _ _ clean

  same : (d : ℕ) → d < DAYS → value_before (base_of r) (facts_of c) a i d ≡ value_at r c' a i d
  same d lt = ap (λ b. cond b (value_at r c a i d) Unknown) was_live ∙ ruled (rule_of r.rules a) refl (is_at r c' a i slot).has_rule d lt

  pub not_told : change_of (base_of r) (facts_of c) (facts_of c') a i ≡ None
  not_told = go (first_difference DAYS (value_before (base_of r) (facts_of c) a i) (value_at r c' a i)) refl
    where
      go : (o : Option ℕ) → first_difference DAYS (value_before (base_of r) (facts_of c) a i) (value_at r c' a i) ≡ o → change_of (base_of r) (facts_of c) (facts_of c') a i ≡ None
      go None e = ap (option_map (moved (value_before (base_of r) (facts_of c) a i) (value_at r c' a i) a i)) e
      go (Some d) e = let k = difference_found DAYS (value_before (base_of r) (facts_of c) a i) (value_at r c' a i) d e in absurd (k.1 (same d k.0))

pub dirty_have_changes : DirtyHaveChanges
dirty_have_changes r c c' is is' slots live reached = record {
  live = live;
  all = λ a i slot some. reached a i slot (go a i slot some (is_reached r c c' a i) refl);
}
  where
    go : (a : AttrId) (i : InstanceId) → is_slot r c' a i ≡ true → is_some (change_of (base_of r) (facts_of c) (facts_of c') a i) ≡ true → (t : Bool) → is_reached r c c' a i ≡ t → is_reached r c c' a i ≡ true
    go a i slot some true e = e
    go a i slot some false e = absurd (cc (some, ap is_some (not_told r c c' is is' a i slot e)))
