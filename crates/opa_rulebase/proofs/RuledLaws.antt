-- Attributes that have a rule, as rules are taken one after another.
use Rattle.std.proofs.Common.{◌≡◌, ◌≢◌, ◌<◌, ℕ, Bool, true, false, List, [], ◌∷◌, length, replicate, slice_index_or, slice_set, Some, is_some, refl, sym, ap, ◌∙◌, arith}
use Rattle.std.specs.Prelude.{◌||◌, ◌==◌, if◌then◌else◌}
use Rattle.std.proofs.lemmas.List.{get_or-set_same, get_or-set_other, get_or-replicate, length-set, length-replicate}
use Rattle.opa_io.proofs.Bools.{or_true, or_false}
use Rattle.opa_model.specs.declared.ids.AttrId.{AttrId}
use Rattle.opa_tree.specs.declared.rules.Rule.{Rule}
use Rattle.opa_tree.specs.Rules.{rule_of}
use Rattle.opa_tree.specs.Ranks.{AreRuled}

-- said of each attribute: it has one of the rules that were taken, or one of the rest
pub record AreRuledSoFar (count : ℕ) (rules rest : List Rule) (ruled : List Bool) : Type 0 where
  pub for_each : length ruled ≡ count
  pub by_rules : (a : AttrId) → a.0 < count → (slice_index_or ruled a.0 false || is_some (rule_of rest a)) ≡ is_some (rule_of rules a)

pub none_so_far : (count : ℕ) (rules : List Rule) (ruled : List Bool) → ruled ≡ replicate count false → AreRuledSoFar count rules rules ruled
none_so_far count rules ruled e = record {
  for_each = ap length e ∙ length-replicate count false;
  by_rules = λ a h. ap (λ xs. slice_index_or xs a.0 false || is_some (rule_of rules a)) e ∙ ap (λ b. b || is_some (rule_of rules a)) (get_or-replicate count a.0 false false h);
}

-- one more rule of this attribute, or of another
same_attribute : (ruled : List Bool) (r : Rule) (rs : List Rule) (a : AttrId) (t : Bool) → (r.attr.0 == a.0) ≡ t → r.attr.0 < length ruled
    → (slice_index_or (slice_set ruled r.attr.0 true) a.0 false || is_some (rule_of rs a)) ≡ (slice_index_or ruled a.0 false || is_some (if t then Some r else rule_of rs a))
same_attribute ruled r rs a true e h =
    let same : a.0 ≡ r.attr.0 = grind (arith, e) in
    ap (λ b. b || is_some (rule_of rs a)) (ap (λ n. slice_index_or (slice_set ruled r.attr.0 true) n false) same ∙ get_or-set_same ruled r.attr.0 true false h) ∙ sym (or_true (slice_index_or ruled a.0 false))
same_attribute ruled r rs a false e h =
    let other : a.0 ≢ r.attr.0 = λ f. (let g : ⊥ = grind (arith, e, f) in g) in
    ap (λ b. b || is_some (rule_of rs a)) (get_or-set_other ruled r.attr.0 a.0 true false other)

pub one_more : (count : ℕ) (rules rest later : List Rule) (r : Rule) (ruled new : List Bool) → rest ≡ r ∷ later → r.attr.0 < count → new ≡ slice_set ruled r.attr.0 true → AreRuledSoFar count rules rest ruled
    → AreRuledSoFar count rules later new
one_more count rules rest later r ruled new e h n k = record {
  for_each = ap length n ∙ length-set ruled r.attr.0 true ∙ k.for_each;
  by_rules = λ a i. ap (λ xs. slice_index_or xs a.0 false || is_some (rule_of later a)) n ∙ same_attribute ruled r later a (r.attr.0 == a.0) refl (omega (arith, h, k.for_each))
      ∙ ap (λ rs. slice_index_or ruled a.0 false || is_some (rule_of rs a)) (sym e) ∙ k.by_rules a i;
}

pub all_so_far : (count : ℕ) (rules rest : List Rule) (ruled : List Bool) → rest ≡ [] → AreRuledSoFar count rules rest ruled → AreRuled count rules ruled
all_so_far count rules rest ruled e k = record {
  for_each = k.for_each;
  by_rules = λ a i. sym (or_false (slice_index_or ruled a.0 false)) ∙ ap (λ rs. slice_index_or ruled a.0 false || is_some (rule_of rs a)) (sym e) ∙ k.by_rules a i;
}
