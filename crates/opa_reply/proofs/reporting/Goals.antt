-- Goals, and lines of what is held.
use Rattle.std.proofs.Common.{◌≡◌, ℕ, suc, ◌+◌, ◌<◌, true, false, ◌&&◌, ◌||◌, List, ◌∷◌, ◌++◌, length, drop, get_or, Some, is_some, sym, ◌∙◌, ap, append_assoc, add-one, drop-cons}
use Rattle.std.specs.Prelude.{flat_map, slice_get}
use Rattle.std.specs.FinMap.{get}
use Rattle.std.proofs.lemmas.Option.{slice_get-get_or, slice_get_within, get_or_from_slice_get}
use Rattle.opa_io.proofs.Places.{All_at}
use Rattle.opa_date.specs.declared.TheConstants.{DAYS}
use Rattle.opa_value.specs.declared.value.Value.{Value}
use Rattle.opa_value.specs.declared.value.Value.TheVariants.{Unknown}
use Rattle.opa_line.specs.Lines.{StandsFor}
use Rattle.opa_model.specs.declared.ids.AttrId.{AttrId}
use Rattle.opa_model.specs.declared.lists.Lists.{Lists}
use Rattle.opa_model.specs.Models.{HasAttribute, IsModel}
use Rattle.opa_cells.specs.declared.instance.InstanceId.{InstanceId}
use Rattle.opa_case.specs.Cases.{CaseView}
use Rattle.opa_tree.specs.Rules.{rule_of}
use Rattle.opa_tree.specs.declared.rulebase.Rulebase.{Rulebase}
use Rattle.opa_mean.specs.Holding.{has_line}
use Rattle.opa_mean.specs.Rulebases.{IsOf, value_at}
use Rattle.opa_mean.specs.Slots.{has_place}
use Rattle.opa_mean.proofs.Holdings.{unanswered}

pub goal_declared : (m : Lists) → IsModel m → (n : ℕ) (a : AttrId) → slice_get m.goals n ≡ Some a → HasAttribute m a
goal_declared m is n a at = All_at (HasAttribute m) m.goals n a at is.in_range.goals

-- where there is neither a rule nor an answer, each value is unknown
pub unheld : (r : Rulebase) (c : CaseView) → IsOf r c → (a : AttrId) (i : InstanceId) → has_place r c a i ≡ true → false ≡ has_line r c a i → (d : ℕ) → value_at r c a i d ≡ Unknown
unheld r c is a i place none d = unanswered r c is a i d (sym (ap (λ b. b && (is_some (rule_of r.rules a) || is_some (get c.answers (a.0, i)))) place) ∙ sym none)

pub unheld_stands : (r : Rulebase) (c : CaseView) → IsOf r c → (a : AttrId) (i : InstanceId) (l : List (ℕ × Value)) → has_place r c a i ≡ true → false ≡ has_line r c a i → StandsFor DAYS (λ _. Unknown) l → StandsFor DAYS (value_at r c a i) l
unheld_stands r c is a i l place none stands d lt = stands d lt ∙ ap Some (sym (unheld r c is a i place none d))

-- ---- lines of goals

module _ (f : AttrId → List ℕ) (goals : List AttrId) where
  -- with those of the goals from a number on, these are all lines
  abbrev pub AreUpTo : ℕ → List ℕ → Type 0
  AreUpTo n out = out ++ flat_map f (drop n goals) ≡ flat_map f goals

  at_goal : (n : ℕ) (a : AttrId) → slice_get goals n ≡ Some a → drop n goals ≡ a ∷ drop (n + 1) goals
  at_goal n a at =
      drop-cons goals n a (slice_get_within goals n a at)
      ∙ ap (λ x. x ∷ drop (suc n) goals) (get_or_from_slice_get goals n a a at)
      ∙ ap (λ m. a ∷ drop m goals) (sym (add-one n))

  one_more : (n : ℕ) (a : AttrId) (out line new : List ℕ) → slice_get goals n ≡ Some a → line ≡ f a → new ≡ out ++ line → AreUpTo n out → AreUpTo (n + 1) new
  one_more n a out line new at is grown upto =
      ap (λ t. t ++ flat_map f (drop (n + 1) goals)) (grown ∙ ap (λ t. out ++ t) is)
      ∙ append_assoc out (f a) (flat_map f (drop (n + 1) goals))
      ∙ sym (ap (λ gs. out ++ flat_map f gs) (at_goal n a at))
      ∙ upto

  pub more_told : (n : ℕ) (out line new : List ℕ) → n < length goals → ((a : AttrId) → slice_get goals n ≡ Some a → line ≡ f a) → new ≡ out ++ line → AreUpTo n out → AreUpTo (n + 1) new
  more_told n out line new lt is grown upto =
      let a : AttrId = get_or goals n (record { 0 = 0 }) in
      let at : slice_get goals n ≡ Some a = slice_get-get_or goals n (record { 0 = 0 }) lt in
      one_more n a out line new at (is a at) grown upto
