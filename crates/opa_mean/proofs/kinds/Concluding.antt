-- What rules conclude has its kind, by the number of steps that it is made in.
use Rattle.std.proofs.Common.{◌≡◌, ℕ, zero, suc, Bool, true, false, cond, IsTrue, [], ◌∷◌, Option, None, Some, refl, ◌∙◌, ap, subst}
use Rattle.std.specs.Prelude.{nat_le, unwrap_or}
use Rattle.std.specs.List.{list_all}
use Rattle.std.specs.FinMap.{get}
use Rattle.std.specs.Option.{option_map_or}
use Rattle.std.proofs.lemmas.Bool.{and_parts, eqb-true, or_right}
use Rattle.opa_value.specs.declared.value.Value.{Value}
use Rattle.opa_line.specs.Lines.{value_from}
use Rattle.opa_window.specs.Days.{day_value}
use Rattle.opa_model.specs.declared.ids.AttrId.{AttrId}
use Rattle.opa_model.specs.declared.things.Attribute.{Attribute}
use Rattle.opa_model.specs.declared.things.Kind.{Kind}
use Rattle.opa_model.specs.Lookups.{attribute_at}
use Rattle.opa_cells.specs.declared.instance.InstanceId.{InstanceId}
use Rattle.opa_tree.specs.declared.rulebase.Rulebase.{Rulebase}
use Rattle.opa_tree.specs.declared.rules.Rule.{Rule}
use Rattle.opa_tree.specs.Kinds.{can_have, rule_has_kind}
use Rattle.opa_tree.specs.Rules.{concludes, rule_of}
use Rattle.opa_tree.specs.Trees.{has_form, HasForm}
use Rattle.opa_case.specs.Cases.{CaseView, Answer}
use Rattle.opa_case.specs.Shapes.{shape_of, no_attribute}
use Rattle.opa_case.specs.Steps.{has_kind}
use Rattle.opa_mean.specs.Given.{base_of, facts_of, line_value}
use Rattle.opa_mean.specs.Mean.{look_of, concluded, fitted, is_money, mean_by}
use Rattle.opa_mean.specs.Meaning.{value as value_of}
use Rattle.opa_mean.specs.Rulebases.{IsOf}
use Rattle.opa_mean.specs.Kinds.Laws.{kind_of}
use Rattle.opa_mean.proofs.kinds.Passing.{found_is}
use Rattle.opa_mean.proofs.kinds.Plain.{Has, kind_has, fit_has}
use Rattle.opa_mean.proofs.kinds.Stepping.{tree_has}

-- a line of values of a kind
module _ (free : Bool) where
  from_has : (k : Kind) (v : Value) (l : Answer) (d : ℕ) → Has free k v → list_all (λ p. has_kind k p.1) l ≡ true → Has free k (value_from v l d)
  from_has k v [] d h hs = h
  from_has k v (p ∷ l) d h hs = let both = and_parts (has_kind k p.1) _ hs in go (nat_le p.0 d) (from_has k p.1 l d (kind_has free k p.1 both.0) both.1)
    where
      go : (b : Bool) → Has free k (value_from p.1 l d) → Has free k (cond b (value_from p.1 l d) v)
      go true h' = h'
      go false h' = h

  line_has : (k : Kind) (l : Answer) (d : ℕ) → list_all (λ p. has_kind k p.1) l ≡ true → Has free k (day_value l d)
  line_has k [] d hs = refl
  line_has k (p ∷ l) d hs = let both = and_parts (has_kind k p.1) _ hs in from_has k p.1 l d (kind_has free k p.1 both.0) both.1

module _ (free : Bool) (r : Rulebase) (c : CaseView) (is : IsOf r c) where
  abbrev Holds : (AttrId → InstanceId → ℕ → Value) → Type 0
  Holds f = (a : AttrId) (i : InstanceId) (d : ℕ) → Has free (kind_of r a) (f a i d)

  answers_have : Holds (facts_of c).answer
  answers_have a i d = go (get c.answers (a.0, i)) refl
    where
      go : (o : Option Answer) → get c.answers (a.0, i) ≡ o → Has free (kind_of r a) (line_value o d)
      go None e = refl
      go (Some l) e = line_has free (kind_of r a) l d (is.fits.answers a i l e).kind

  -- the rule of an attribute can have its kind
  rule_can : (a : AttrId) (rule : Rule) → rule_of r.rules a ≡ Some rule → can_have r.model rule.expr (kind_of r a) ≡ true
  rule_can a rule e =
      let own = found_is (λ (x : Rule). IsTrue (rule_has_kind r.model x)) (concludes a) r.rules rule r.sound.of_kinds e in
      let same : rule.attr ≡ a = ap (λ (n : ℕ). record { 0 = n }) (eqb-true rule.attr.0 a.0 own.1) in
      go (attribute_at r.model a) refl (subst (λ (b : AttrId). option_map_or (λ x. can_have r.model rule.expr x.kind) (attribute_at r.model b) false ≡ true) same own.0)
    where
      go : (o : Option Attribute) → attribute_at r.model a ≡ o → option_map_or (λ (x : Attribute). can_have r.model rule.expr x.kind) o false ≡ true → can_have r.model rule.expr (kind_of r a) ≡ true
      go None e h = absurd (cc h)
      go (Some x) e h = ap (λ (o : Option Attribute). can_have r.model rule.expr (unwrap_or o no_attribute).kind) e ∙ h

  step_has : (f : AttrId → InstanceId → ℕ → Value) → Holds f → (a : AttrId) (i : InstanceId) (d : ℕ)
      → Has free (kind_of r a) (concluded (rule_of r.rules a) ((facts_of c).answer a i d) (λ e. fitted (shape_of r.model) a (value_of (shape_of r.model) (look_of (facts_of c) f) e (i ∷ []) d)))
  step_has f holds a i d = go (rule_of r.rules a) refl
    where
      go : (o : Option Rule) → rule_of r.rules a ≡ o → Has free (kind_of r a) (concluded o ((facts_of c).answer a i d) (λ e. fitted (shape_of r.model) a (value_of (shape_of r.model) (look_of (facts_of c) f) e (i ∷ []) d)))
      go None e = answers_have a i d
      go (Some rule) e =
          fit_has free (kind_of r a) (is_money (kind_of r a)) (value_of (shape_of r.model) (look_of (facts_of c) f) rule.expr (i ∷ []) d)
          (tree_has free r.model (look_of (facts_of c) f) holds rule.expr true (or_right free (has_form rule.expr true) (found_is (λ (x : Rule). HasForm x.expr) (concludes a) r.rules rule r.formed e).0) (kind_of r a) (rule_can a rule e) (i ∷ []) d)

  pub steps_have : (n : ℕ) → Holds (mean_by (base_of r) (facts_of c) n)
  unfolding mean_by
  steps_have zero a i d = refl
  steps_have (suc n) a i d = step_has (mean_by (base_of r) (facts_of c) n) (steps_have n) a i d
