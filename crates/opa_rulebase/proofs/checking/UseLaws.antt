-- What attributes mention, rule by rule.
use Rattle.std.proofs.Common.{◌≡◌, ◌≢◌, ◌∙◌, ◌<◌, ◌+◌, ℕ, zero, suc, arith, get_or, take, Bool, true, false, cond, List, [], ◌∷◌, ◌++◌, length, map, refl, sym, ap, subst, nat_eq}
use Rattle.std.specs.Prelude.{Option, None, Some, is_some, slice_get, slice_set, ◌==◌}
use Rattle.std.specs.Option.{option_map, option_or}
use Rattle.opa_model.specs.declared.ids.AttrId.{AttrId}
use Rattle.opa_tree.specs.declared.rules.Rule.{Rule}
use Rattle.opa_tree.specs.Mentions.{mentions}
use Rattle.opa_tree.specs.Rules.{rule_of, concludes}
use Rattle.opa_tree.proofs.Setting.{set_same, set_other, set_length, same_place, other_place, rule_after}
use Rattle.opa_rulebase.specs.Checking.Found.{uses_by, AreUses}

or_none : (o : Option Rule) → option_or o None ≡ o
or_none None = refl
or_none (Some r) = refl

or_some : (o : Option Rule) (rule : Rule) (ms : List AttrId) → option_map (λ r. mentions r.expr) o ≡ Some ms → option_or o (Some rule) ≡ o
or_some None rule ms is = cc
or_some (Some r) rule ms is = refl

or_first : (o : Option Rule) (rule : Rule) → option_map (λ r. mentions r.expr) o ≡ None → option_or o (Some rule) ≡ Some rule
or_first None rule is = refl
or_first (Some r) rule is = cc

module _ (count : ℕ) (before : List Rule) (rule : Rule) (uses : List (Option (List AttrId))) (are : AreUses count before uses) where
  pub uses_again : (ms : List AttrId) → slice_get uses rule.attr.0 ≡ Some (Some ms) → AreUses count (before ++ rule ∷ []) uses
  uses_again ms known = record { for_each = are.for_each; by_rules = λ a lt. at a lt (concludes a rule) refl }
    where
      at : (a : AttrId) → a.0 < count → (t : Bool) → concludes a rule ≡ t → slice_get uses a.0 ≡ Some (uses_by (before ++ rule ∷ []) a)
      at a lt true is =
          let here : slice_get uses a.0 ≡ Some (Some ms) = subst (λ (n : ℕ). slice_get uses n ≡ Some (Some ms)) (sym (same_place rule.attr.0 a.0 is)) known in
          let was : Some (uses_by before a) ≡ Some (Some ms) = sym (are.by_rules a lt) ∙ here in
          let same : uses_by before a ≡ Some ms = cc in
          are.by_rules a lt ∙ ap (λ (o : Option Rule). Some (option_map (λ r. mentions r.expr) o)) (sym (rule_after before rule a true is ∙ or_some (rule_of before a) rule ms same))
      at a lt false is = are.by_rules a lt ∙ ap (λ (o : Option Rule). Some (option_map (λ r. mentions r.expr) o)) (sym (rule_after before rule a false is ∙ or_none (rule_of before a)))

  pub uses_first : slice_get uses rule.attr.0 ≡ Some None → AreUses count (before ++ rule ∷ []) (slice_set uses rule.attr.0 (Some (mentions rule.expr)))
  uses_first known = record { for_each = set_length uses rule.attr.0 (Some (mentions rule.expr)) ∙ are.for_each; by_rules = λ a lt. at a lt (concludes a rule) refl }
    where
      at : (a : AttrId) → a.0 < count → (t : Bool) → concludes a rule ≡ t → slice_get (slice_set uses rule.attr.0 (Some (mentions rule.expr))) a.0 ≡ Some (uses_by (before ++ rule ∷ []) a)
      at a lt true is =
          let same : a.0 ≡ rule.attr.0 = same_place rule.attr.0 a.0 is in
          let here : slice_get uses a.0 ≡ Some None = subst (λ (n : ℕ). slice_get uses n ≡ Some None) (sym same) known in
          let was : Some (uses_by before a) ≡ Some None = sym (are.by_rules a lt) ∙ here in
          let none : uses_by before a ≡ None = cc in
          subst (λ (n : ℕ). slice_get (slice_set uses rule.attr.0 (Some (mentions rule.expr))) n ≡ Some (Some (mentions rule.expr))) (sym same) (set_same uses rule.attr.0 (Some (mentions rule.expr)) (omega (arith, lt, same, are.for_each)))
          ∙ ap (λ (o : Option Rule). Some (option_map (λ r. mentions r.expr) o)) (sym (rule_after before rule a true is ∙ or_first (rule_of before a) rule none))
      at a lt false is =
          set_other uses rule.attr.0 a.0 (Some (mentions rule.expr)) (other_place rule.attr.0 a.0 is)
          ∙ are.by_rules a lt ∙ ap (λ (o : Option Rule). Some (option_map (λ r. mentions r.expr) o)) (sym (rule_after before rule a false is ∙ or_none (rule_of before a)))

pub known_again : (count : ℕ) (before : List Rule) (rule : Rule) (uses : List (Option (List AttrId))) → AreUses count before uses
    → (o : Option (List AttrId)) → slice_get uses rule.attr.0 ≡ Some o → is_some o ≡ true → AreUses count (before ++ rule ∷ []) uses
known_again count before rule uses are None known some = cc
known_again count before rule uses are (Some ms) known some = uses_again count before rule uses are ms known
