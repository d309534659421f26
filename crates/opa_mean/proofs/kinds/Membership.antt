-- In accepted rules, trees that stand for quantifiers over an inferred relationship count the members alone.
use Rattle.std.proofs.Common.{ℕ, List, [], ◌∷◌, Contains}
use Rattle.opa_model.specs.declared.ids.RelId.{RelId}
use Rattle.opa_cells.specs.declared.instance.InstanceId.{InstanceId}
use Rattle.opa_cells.specs.Instances.{named}
use Rattle.opa_tree.specs.declared.kinds.Quant.{Quant}
use Rattle.opa_tree.specs.declared.kinds.Quant.TheVariants as quant
use Rattle.opa_tree.specs.declared.expr.Expr.{Expr}
use Rattle.opa_tree.specs.declared.expr.Expr.TheVariants as expr
use Rattle.opa_tree.specs.declared.rulebase.Rulebase.{Rulebase}
use Rattle.opa_tree.specs.declared.rules.Rule.{Rule}
use Rattle.opa_tree.proofs.Members.{contains_head, contains_tail}
use Rattle.opa_case.specs.Cases.{CaseView}
use Rattle.opa_case.specs.Shapes.{shape_of}
use Rattle.opa_mean.specs.Rulebases.{IsOf}
use Rattle.opa_mean.specs.Kinds.Membership.{Setting, IsCondition, CountsAlone, ForAllMembers, ExistsMember, CountsMembers, CountsMembersIf, SumsMembers, SumsMembersIf}
use Rattle.opa_mean.specs.Kinds.Conditions.{IsPartOf, HasWithin, IsConditionOf}
use Rattle.opa_mean.specs.Kinds.Memberships.{StandsFor, MembershipsCount, setting_of}
use Rattle.opa_mean.proofs.kinds.LawsHold.{conditions_are_truths_holds}

-- what the trees count where conditions are truth values
pub record Laws : Type 0 where
  pub for_all : ForAllMembers
  pub exists : ExistsMember
  pub count : CountsMembers
  pub count_if : CountsMembersIf
  pub sum : SumsMembers
  pub sum_if : SumsMembersIf

module _ (laws : Laws) (r : Rulebase) (c : CaseView) (is : IsOf r c) (rule : Rule) (one : Contains r.rules rule) (every : RelId) (member : Expr) (enclosing : List InstanceId) (d : ℕ) where
  abbrev here : Setting
  here = setting_of r c every member enclosing d

  truth : (q : Quant) (es : List Expr) (y x : Expr) → HasWithin rule.expr (expr.Over q every es) → Contains es y → IsConditionOf x y → IsCondition here x
  truth q es y x within has condition n =
      conditions_are_truths_holds r c is rule one y x (HasWithin.part (expr.Over q every es) y within (IsPartOf.of_quantifier q every es has)) condition (named ((shape_of r.model).target every) n ∷ enclosing) d

  -- what is asked beside the membership
  joined : (x : Expr) → IsConditionOf x (expr.All (member ∷ x ∷ []))
  joined x = IsConditionOf.of_all (member ∷ x ∷ []) (contains_tail member x (x ∷ []) (contains_head x []))

  alternative : (x : Expr) → IsConditionOf x (expr.Any (expr.Not member ∷ x ∷ []))
  alternative x = IsConditionOf.of_any (expr.Not member ∷ x ∷ []) (contains_tail (expr.Not member) x (x ∷ []) (contains_head x []))

  only : (q : Quant) (y x : Expr) → HasWithin rule.expr (expr.Over q every (y ∷ [])) → IsConditionOf x y → IsCondition here x
  only q y x within = truth q (y ∷ []) y x within (contains_head y [])

  counts_alone : {q : Quant} {operands : List Expr} {e : Expr} → HasWithin rule.expr e → StandsFor every member q operands e → CountsAlone here e q operands
  counts_alone within (StandsFor.for_all x) = laws.for_all here x (only quant.ForAll (expr.Any (expr.Not member ∷ x ∷ [])) x within (alternative x))
  counts_alone within (StandsFor.exists x) = laws.exists here x (only quant.Exists (expr.All (member ∷ x ∷ [])) x within (joined x))
  counts_alone within StandsFor.count = laws.count here
  counts_alone within (StandsFor.count_if x) = laws.count_if here x (only quant.CountIf (expr.All (member ∷ x ∷ [])) x within (joined x))
  counts_alone within (StandsFor.sum x) = laws.sum here x
  counts_alone within (StandsFor.sum_if n x) =
      laws.sum_if here n x (truth quant.SumIf (n ∷ expr.All (member ∷ x ∷ []) ∷ []) (expr.All (member ∷ x ∷ [])) x within (contains_tail n (expr.All (member ∷ x ∷ [])) (expr.All (member ∷ x ∷ []) ∷ []) (contains_head (expr.All (member ∷ x ∷ [])) [])) (joined x))

pub memberships_count_holds : Laws → (r : Rulebase) → MembershipsCount r
memberships_count_holds laws r c is rule one e within every member q operands stands enclosing d = counts_alone laws r c is rule one every member enclosing d within stands
