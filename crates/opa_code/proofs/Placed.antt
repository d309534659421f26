-- The code of a rule stands where the rule stands.
use Rattle.std.proofs.Common.{◌≡◌, ◌∙◌, ℕ, Bool, true, false, cond, List, [], ◌∷◌, map, Option, None, Some, refl, sym, ap, subst}
use Rattle.std.specs.Prelude.{find, slice_get, ◌==◌}
use Rattle.std.specs.Option.{option_map, option_and_then}
use Rattle.std.proofs.lemmas.Option.{slice_get-map}
use Rattle.opa_model.specs.declared.ids.AttrId.{AttrId}
use Rattle.opa_case.specs.Shapes.{Shape}
use Rattle.opa_tree.specs.declared.rules.Rule.{Rule}
use Rattle.opa_tree.specs.Places.{ArePlaces}
use Rattle.opa_tree.specs.Rules.{rule_of}
use Rattle.opa_code.specs.Coding.{coded, is_for, AreCodesPlaced}
use Rattle.opa_code.specs.declared.rule_code.RuleCode.{RuleCode}

-- the code of an attribute is that of its rule
code_is : (s : Shape) (a : AttrId) (rules : List Rule) → find (is_for a) (map (coded s) rules) ≡ option_map (coded s) (rule_of rules a)
code_is s a [] = refl
code_is s a (r ∷ rules) = go (r.attr.0 == a.0) (code_is s a rules)
  where
    go : (b : Bool) → find (is_for a) (map (coded s) rules) ≡ option_map (coded s) (rule_of rules a)
        → cond b (Some (coded s r)) (find (is_for a) (map (coded s) rules)) ≡ option_map (coded s) (cond b (Some r) (rule_of rules a))
    go true more = refl
    go false more = more

own_placed : (s : Shape) (rules : List Rule) (places : List (Option ℕ)) → ArePlaces rules places → AreCodesPlaced (map (coded s) rules) places
own_placed s rules places are = record { right = λ n o at. go n o (are.right n o at) }
  where
    go : (n : ℕ) (o : Option ℕ) → option_and_then (slice_get rules) o ≡ rule_of rules (record { 0 = n }) → option_and_then (slice_get (map (coded s) rules)) o ≡ find (is_for (record { 0 = n })) (map (coded s) rules)
    go n None e = ap (option_map (coded s)) e ∙ sym (code_is s (record { 0 = n }) rules)
    go n (Some p) e = slice_get-map (coded s) rules p ∙ ap (option_map (coded s)) e ∙ sym (code_is s (record { 0 = n }) rules)

pub placed_codes : (s : Shape) (rules : List Rule) (codes own : List RuleCode) (places given : List (Option ℕ)) → own ≡ codes → given ≡ places → codes ≡ map (coded s) rules → ArePlaces rules places → AreCodesPlaced own given
placed_codes s rules codes own places given e f compiled are =
    subst (λ cs. AreCodesPlaced cs given) (sym (e ∙ compiled)) (subst (AreCodesPlaced (map (coded s) rules)) (sym f) (own_placed s rules places are))
