-- The cone of a point lies in the slots and the keys of its case.
use Rattle.std.proofs.Common.{◌≡◌, ◌⊎◌, inl, inr, ℕ, ◌<◌, Bool, true, List, [], ◌∷◌, length, Option, None, Some, IsSome, Contains, is_some, refl, sym, ◌∙◌, ap, subst}
use Rattle.std.specs.Prelude.{IsTrue, ◌==◌}
use Rattle.std.specs.List.{AllByRecursion}
use Rattle.std.proofs.lemmas.Bool.{and_parts, eqb-true}
use Rattle.opa_io.proofs.Options.{there_is}
use Rattle.opa_model.specs.declared.ids.AttrId.{AttrId}
use Rattle.opa_model.specs.declared.ids.RelId.{RelId}
use Rattle.opa_model.specs.declared.things.Attribute.{Attribute}
use Rattle.opa_model.specs.Lookups.{attribute_at}
use Rattle.opa_case.specs.Cases.{CaseView}
use Rattle.opa_case.specs.Live.{is_live}
use Rattle.opa_case.specs.Shapes.{Shape, shape_of}
use Rattle.opa_cells.specs.Instances.{named}
use Rattle.opa_cells.specs.declared.instance.InstanceId.{InstanceId}
use Rattle.opa_tree.specs.declared.rulebase.Rulebase.{Rulebase}
use Rattle.opa_tree.specs.declared.rules.Rule.{Rule}
use Rattle.opa_tree.specs.Rules.{rule_of, concludes}
use Rattle.opa_tree.specs.Scopes.{is_reached, rule_is_reached}
use Rattle.opa_tree.proofs.Members.{none_in, contains_cases}
use Rattle.opa_mean.specs.Given.{base_of, facts_of}
use Rattle.opa_mean.specs.Looks.{Look}
use Rattle.opa_mean.specs.Mean.{Base, Facts, IsLive, look_of, mean}
use Rattle.opa_mean.specs.Places.{chain, owner_of}
use Rattle.opa_mean.specs.Reports.{InCone, itself, used_by, members_of, own_of, rule_uses, uses_of}
use Rattle.opa_mean.specs.Rulebases.{IsOf}
use Rattle.opa_mean.specs.Slots.{has_place, has_list_place}
use Rattle.opa_mean.specs.Uses.{Use, Point, Listed, uses}
use Rattle.opa_mean.proofs.Accepting.{all_found}
use Rattle.opa_mean.proofs.Chains.{chain_live}
use Rattle.opa_mean.proofs.Completing.{above_live}
use Rattle.opa_mean.proofs.ConeLying.{cone_lies}
use Rattle.opa_mean.proofs.Everywhere.{each_of_all}
use Rattle.opa_mean.proofs.Filtered.{map_out}
use Rattle.opa_mean.proofs.Fitting.{live_in}
use Rattle.opa_mean.proofs.LawsOver.{facts}
use Rattle.opa_report.specs.Declares.{IsDeclared}
use Rattle.opa_report.specs.ReportLines.{IsOwned}
use Rattle.opa_report.specs.Reporting.{IsPlaced}
use Rattle.opa_report.proofs.Declaring.{uses_declared}
use Rattle.opa_report.proofs.Ordering.{in_slots, in_keys}

module _ (r : Rulebase) (c : CaseView) (is : IsOf r c) where
  abbrev b : Base
  b = base_of r

  abbrev k : Facts
  k = facts_of c

  abbrev fresh : Look
  fresh = look_of k (mean b k)

  abbrev Reached : Rule → Type 0
  Reached rule = (x : Attribute) × ((attribute_at r.model rule.attr ≡ Some x) × IsTrue (is_reached r.model rule.expr (x.entity ∷ [])))

  reached : (a : AttrId) (rule : Rule) → rule_of r.rules a ≡ Some rule → Reached rule
  reached a rule e = there_is (attribute_at r.model rule.attr) (λ (x : Attribute). is_reached r.model rule.expr (x.entity ∷ [])) (all_found (λ (q : Rule). IsTrue (rule_is_reached r.model q)) (concludes a) r.rules rule r.sound.reached e)

  used_declared : (u v : Use) → Contains (uses_of b k u) v → IsDeclared r.model v
  used_declared (Point a i d) v h = go (rule_of r.rules a) refl h
    where
      go : (o : Option Rule) → rule_of r.rules a ≡ o → Contains (rule_uses o (λ e. uses (shape_of r.model) fresh e (i ∷ []) d)) v → IsDeclared r.model v
      go None e there = absurd (none_in v there)
      go (Some rule) e there = let x = reached a rule e in uses_declared r.model (shape_of r.model) fresh rule.expr (x.0.entity ∷ []) x.1.1 (i ∷ []) d v there
  used_declared (Listed q i) v h = absurd (none_in v h)

  cone_declared : (p : Use) → IsDeclared r.model p → {u : Use} → InCone b k p u → IsDeclared r.model u
  cone_declared p lt itself = lt
  cone_declared p lt (used_by u v cone there) = used_declared u v there

  abbrev Lives : InstanceId → Type 0
  Lives i = IsLive k i

  owned_live : (a : AttrId) (i : InstanceId) (d : ℕ) → has_place r c a i ≡ true → (u : Use) (own : InstanceId) → InCone b k (Point a i d) u → Contains (own_of b k u) own → Lives own
  owned_live a i d place (Point m j e) own cone h = go (contains_cases j own [] h)
    where
      go : (j ≡ own) ⊎ Contains [] own → Lives own
      go (inl same) = subst Lives same (live_in c j (and_parts (is_live c.live j) _ (cone_lies r c is a i d (Point m j e) place cone)).0)
      go (inr none) = absurd (none_in own none)
  owned_live a i d place (Listed q j) own cone h = go (contains_cases j own (members_of (b.shape.target q) (k.members q j)) h)
    where
      listed : (o : Option (List (List ℕ))) → k.members q j ≡ o → Contains (members_of (b.shape.target q) o) own → Lives own
      listed None e there = absurd (none_in own there)
      listed (Some names) e there =
          let x = map_out (named (b.shape.target q)) names own there in
          subst Lives x.1.1 (each_of_all (λ n. Lives (named (b.shape.target q) n)) names ((facts r c is).listed q j names e) x.0 x.1.0)

      go : (j ≡ own) ⊎ Contains (members_of (b.shape.target q) (k.members q j)) own → Lives own
      go (inl same) = subst Lives same (live_in c j (and_parts (is_live c.live j) _ (cone_lies r c is a i d (Listed q j) place cone)).0)
      go (inr there) = listed (k.members q j) refl there

  pub placed : (a : AttrId) (i : InstanceId) (d : ℕ) → a.0 < length r.model.attributes → has_place r c a i ≡ true → IsPlaced b k (Point a i d)
  placed a i d lt place = record {
    points = λ m j e cone.
        let p = and_parts (is_live c.live j) (j.entity.0 == owner_of (shape_of r.model) m) (cone_lies r c is a i d (Point m j e) place cone) in
        in_slots b k m j (cone_declared (Point a i d) lt cone) (live_in c j p.0) (eqb-true j.entity.0 (owner_of (shape_of r.model) m) p.1);
    lists = λ q j cone.
        let p = and_parts (is_live c.live j) (j.entity.0 == (shape_of r.model).source q) (cone_lies r c is a i d (Listed q j) place cone) in
        in_keys b k q j (cone_declared (Point a i d) lt cone) (live_in c j p.0) (eqb-true j.entity.0 ((shape_of r.model).source q) p.1);
    instances = λ j o. each_of_all Lives (chain k.container o.own) (chain_live k.container Lives (above_live (shape_of r.model) k (facts r c is)) o.own (owned_live a i d place o.use_ o.own o.in_cone o.is_own)) j o.above;
  }
