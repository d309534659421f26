-- Where there is neither a rule nor an answer, a line that is unknown on every day is right.
use Rattle.std.proofs.Common.{◌≡◌, ◌∙◌, ℕ, true, false, ◌&&◌, ◌||◌, List, [], ◌∷◌, Some, is_some, sym, ap, subst}
use Rattle.std.specs.FinMap.{get}
use Rattle.opa_date.specs.declared.TheConstants.{DAYS}
use Rattle.opa_value.specs.declared.value.Value.{Value}
use Rattle.opa_value.specs.declared.value.Value.TheVariants.{Unknown}
use Rattle.opa_line.specs.Lines.{StandsFor}
use Rattle.opa_model.specs.declared.ids.AttrId.{AttrId}
use Rattle.opa_cells.specs.declared.instance.InstanceId.{InstanceId}
use Rattle.opa_case.specs.Cases.{CaseView}
use Rattle.opa_tree.specs.Rules.{rule_of}
use Rattle.opa_tree.specs.declared.rulebase.Rulebase.{Rulebase}
use Rattle.opa_mean.specs.Holding.{has_line}
use Rattle.opa_mean.specs.Rulebases.{IsOf, value_at}
use Rattle.opa_mean.specs.Slots.{has_place}
use Rattle.opa_mean.proofs.Holdings.{unanswered}

module _ (r : Rulebase) (c : CaseView) (is : IsOf r c) (a : AttrId) (i : InstanceId) where
  nothing_there : has_place r c a i ≡ true → false ≡ has_line r c a i → (d : ℕ) → value_at r c a i d ≡ Unknown
  nothing_there place none d = unanswered r c is a i d (sym (ap (λ b. b && (is_some (rule_of r.rules a) || is_some (get c.answers (a.0, i)))) place) ∙ sym none)

  pub unknown_stands : (l : List (ℕ × Value)) → l ≡ (0, Unknown) ∷ [] → has_place r c a i ≡ true → false ≡ has_line r c a i → StandsFor DAYS (value_at r c a i) l
  unknown_stands l same place none =
      let P : List (ℕ × Value) → Type 0 = λ x. StandsFor DAYS (value_at r c a i) x in
      subst P (sym same) (λ d lt. ap Some (sym (nothing_there place none d)))
