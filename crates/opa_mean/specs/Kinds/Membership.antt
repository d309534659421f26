-- Quantifiers over an inferred relationship, and the trees that stand for them.
use Rattle.std.specs.Prelude.{ℕ, ◌≡◌, ◌⊎◌, true, false, List, [], ◌∷◌, map, filter, Option, None, Some}
use Rattle.std.specs.List.{AllByRecursion}
use Rattle.opa_value.specs.declared.value.Value.{Value}
use Rattle.opa_value.specs.declared.value.Value.TheVariants.{Unknown, Bool as Truth}
use Rattle.opa_value.specs.Truth.{is_true}
use Rattle.opa_model.specs.declared.ids.RelId.{RelId}
use Rattle.opa_model.specs.declared.things.Kind.TheVariants as kinds
use Rattle.opa_cells.specs.declared.instance.InstanceId.{InstanceId}
use Rattle.opa_cells.specs.Instances.{named}
use Rattle.opa_tree.specs.declared.expr.Expr.{Expr}
use Rattle.opa_tree.specs.declared.expr.Expr.TheVariants as expr
use Rattle.opa_tree.specs.declared.kinds.Quant.{Quant}
use Rattle.opa_tree.specs.declared.kinds.Quant.TheVariants as quant
use Rattle.opa_case.specs.Shapes.{Shape}
use Rattle.opa_case.specs.Steps.{has_kind}
use Rattle.opa_mean.specs.Looks.{Look}
use Rattle.opa_mean.specs.Meaning.{value, over}
use Rattle.opa_mean.specs.Places.{place}

-- at these enclosing instances and this day, over a listed relation and the tree of an inferred relationship
pub record Setting : Type 0 where
  pub shape : Shape
  pub look : Look
  pub every : RelId
  pub member : Expr
  pub enclosing : List InstanceId
  pub day : ℕ

-- the value of a tree where a listed instance is the innermost enclosing one
abbrev pub value_for : Setting → Expr → List ℕ → Value
value_for g e name = value g.shape g.look e (named (g.shape.target g.every) name ∷ g.enclosing) g.day

-- whether a listed instance belongs to the relationship
abbrev pub membership : Setting → List ℕ → Value
membership g name = value_for g g.member name

-- the listed instances that belong to it
abbrev pub members : Setting → List (List ℕ) → List (List ℕ)
members g names = filter (λ n. is_true (membership g n)) names

abbrev pub IsDecided : Value → Type 0
IsDecided v = (v ≡ Truth true) ⊎ (v ≡ Truth false)

-- the value of a tree at the setting itself
abbrev pub value_here : Setting → Expr → Value
value_here g e = value g.shape g.look e g.enclosing g.day

-- the list of the relation
abbrev pub IsListed : Setting → Option (List (List ℕ)) → Type 0
IsListed g names = (i : InstanceId) × (place g.look.container g.enclosing (g.shape.source g.every) ≡ Some i) × (g.look.members g.every i ≡ names)

-- The tree counts the members alone: where the list is known and each membership is true or false, its value is the
-- quantifier's over the operands at the members. Where the list is unknown, it is unknown.
pub record CountsAlone (g : Setting) (tree : Expr) (q : Quant) (operands : List Expr) : Type 0 where
  pub known : (names : List (List ℕ)) → IsListed g (Some names) → AllByRecursion (λ n. IsDecided (membership g n)) names
      → value_here g tree ≡ over q (g.shape.target g.every) (Some (members g names)) (map (value g.shape g.look) operands) g.enclosing g.day
  pub unknown : IsListed g None → value_here g tree ≡ Unknown

-- a condition is true, false, unknown or uncertain at each listed instance, as it is in accepted rules
abbrev pub IsCondition : Setting → Expr → Type 0
IsCondition g x = (n : List ℕ) → has_kind kinds.Bool (value_for g x n) ≡ true

-- all of the members meet a condition: each listed instance is no member or meets it
abbrev pub ForAllMembers : Type 0
ForAllMembers = (g : Setting) (x : Expr) → IsCondition g x → CountsAlone g (expr.Over quant.ForAll g.every (expr.Any (expr.Not g.member ∷ x ∷ []) ∷ [])) quant.ForAll (x ∷ [])

-- one of the members meets a condition: a listed instance is a member and meets it
abbrev pub ExistsMember : Type 0
ExistsMember = (g : Setting) (x : Expr) → IsCondition g x → CountsAlone g (expr.Over quant.Exists g.every (expr.All (g.member ∷ x ∷ []) ∷ [])) quant.Exists (x ∷ [])

-- how many members there are: how many listed instances are members
abbrev pub CountsMembers : Type 0
CountsMembers = (g : Setting) → CountsAlone g (expr.Over quant.CountIf g.every (g.member ∷ [])) quant.Count []

-- how many members meet a condition
abbrev pub CountsMembersIf : Type 0
CountsMembersIf = (g : Setting) (x : Expr) → IsCondition g x → CountsAlone g (expr.Over quant.CountIf g.every (expr.All (g.member ∷ x ∷ []) ∷ [])) quant.CountIf (x ∷ [])

-- a sum over the members: over the listed instances that are members
abbrev pub SumsMembers : Type 0
SumsMembers = (g : Setting) (x : Expr) → CountsAlone g (expr.Over quant.SumIf g.every (x ∷ g.member ∷ [])) quant.Sum (x ∷ [])

-- a sum over the members that meet a condition
abbrev pub SumsMembersIf : Type 0
SumsMembersIf = (g : Setting) (n x : Expr) → IsCondition g x → CountsAlone g (expr.Over quant.SumIf g.every (n ∷ expr.All (g.member ∷ x ∷ []) ∷ [])) quant.SumIf (n ∷ x ∷ [])
