-- Attributes that are concluded, rule by rule.
use Rattle.std.proofs.Common.{◌≡◌, ◌≢◌, ◌∙◌, ◌<◌, ℕ, arith, Bool, true, false, cond, ◌||◌, List, [], ◌∷◌, ◌++◌, refl, sym, ap, subst, take}
use Rattle.std.specs.Prelude.{Option, None, Some, is_some, slice_get, slice_set}
use Rattle.std.specs.Option.{option_or}
use Rattle.opa_model.specs.declared.ids.AttrId.{AttrId}
use Rattle.opa_tree.specs.declared.rules.Rule.{Rule}
use Rattle.opa_tree.specs.Rules.{rule_of, concludes}
use Rattle.opa_rulebase.specs.Checking.Faults.{AreMarks}
use Rattle.opa_tree.proofs.Setting.{set_same, set_other, set_length, same_place, other_place, rule_after}

some_first : (o : Option Rule) → is_some (option_or o None) ≡ is_some o
some_first None = refl
some_first (Some r) = refl

some_second : (o : Option Rule) (rule : Rule) → is_some (option_or o (Some rule)) ≡ true
some_second None rule = refl
some_second (Some r) rule = refl

pub marks_more : (count : ℕ) (before : List Rule) (rule : Rule) (marks : List Bool) → AreMarks count before marks → AreMarks count (before ++ rule ∷ []) (slice_set marks rule.attr.0 true)
marks_more count before rule marks are = record { for_each = set_length marks rule.attr.0 true ∙ are.for_each; by_rules = λ a lt. at a lt (concludes a rule) refl }
  where
    at : (a : AttrId) → a.0 < count → (t : Bool) → concludes a rule ≡ t → slice_get (slice_set marks rule.attr.0 true) a.0 ≡ Some (is_some (rule_of (before ++ rule ∷ []) a))
    at a lt true is =
        let same : a.0 ≡ rule.attr.0 = same_place rule.attr.0 a.0 is in
        subst (λ (n : ℕ). slice_get (slice_set marks rule.attr.0 true) n ≡ Some true) (sym same) (set_same marks rule.attr.0 true (omega (arith, lt, same, are.for_each)))
        ∙ ap Some (sym (ap (λ o. is_some o) (rule_after before rule a true is) ∙ some_second (rule_of before a) rule))
    at a lt false is =
        set_other marks rule.attr.0 a.0 true (other_place rule.attr.0 a.0 is) ∙ are.by_rules a lt
        ∙ ap Some (sym (ap (λ o. is_some o) (rule_after before rule a false is) ∙ some_first (rule_of before a)))
