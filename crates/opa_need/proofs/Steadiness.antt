-- How long a part stays as it is.
use Rattle.std.proofs.Common.{◌≡◌, ℕ, ◌<◌, ◌≤◌, List, Some, sym, ◌∙◌, ap, subst, arith}
use Rattle.opa_date.specs.declared.TheConstants.{DAYS}
use Rattle.opa_value.specs.declared.value.Value.{Value}
use Rattle.opa_line.specs.Lines.{at, IsLine, StandsFor}
use Rattle.opa_model.specs.declared.ids.AttrId.{AttrId}
use Rattle.opa_cells.specs.declared.instance.InstanceId.{InstanceId}
use Rattle.opa_case.specs.Cases.{CaseView}
use Rattle.opa_case.specs.Live.{container_of}
use Rattle.opa_case.specs.Shapes.{shape_of}
use Rattle.opa_tree.specs.declared.expr.Expr.{Expr}
use Rattle.opa_tree.specs.declared.expr.Expr.TheVariants as V
use Rattle.opa_tree.specs.declared.rulebase.Rulebase.{Rulebase}
use Rattle.opa_mean.specs.Given.{base_of, facts_of}
use Rattle.opa_mean.specs.Meaning.{at_place}
use Rattle.opa_mean.specs.PartNeeds as part
use Rattle.opa_mean.specs.Places.{owner_of, place}
use Rattle.opa_mean.specs.Rulebases.{value_at}
use Rattle.opa_mean.proofs.Values.{value-Attr}
use Rattle.opa_need.specs.Goals.{next_change}
use Rattle.opa_need.specs.Steps.{HasUntil, IsKnownOn, IsKnownUntil, IsStay, part_value}
use Rattle.opa_need.proofs.GoalLaws.{line_steady, change_later}

pub stay_on_line : (l : List (ℕ × Value)) (d : ℕ) (v w : Value) (until : ℕ) → IsLine DAYS l → d < DAYS → at l d ≡ Some v → w ≡ v → until ≡ next_change d l → IsStay l d until w
stay_on_line l d v w until form lt e f g = (
  λ k low high. line_steady l d k form low (subst (λ n. k < n) g high) ∙ e ∙ ap Some (sym f),
  let later = change_later l d form lt in omega (arith, later.1, g),
)

pub value_on_line : (f : ℕ → Value) (l : List (ℕ × Value)) (d : ℕ) (v w : Value) → StandsFor DAYS f l → d < DAYS → at l d ≡ Some v → w ≡ v → w ≡ f d
value_on_line f l d v w stands lt e g = let one : Some v ≡ Some (f d) = sym e ∙ stands d lt in let same : v ≡ f d = cc one in g ∙ same

module _ (r : Rulebase) (c : CaseView) where
  pub stays_by_line : (e : Expr) (es : List InstanceId) (l : List (ℕ × Value)) (d until : ℕ) (v : Value) → StandsFor DAYS (part_value r c e es) l → IsStay l d until v → HasUntil r c e es d until v
  stays_by_line e es l d until v stands stay k low high = let one : Some (part_value r c e es k) ≡ Some v = sym (stands k (omega (arith, high, stay.1))) ∙ stay.0 k low high in cc one

  pub attr_stands : (e : Expr) (a : AttrId) (i : InstanceId) (l : List (ℕ × Value)) (es : List InstanceId) → e ≡ V.Attr a → Some i ≡ place (container_of c.live) es (owner_of (shape_of r.model) a) → StandsFor DAYS (value_at r c a i) l → StandsFor DAYS (part_value r c e es) l
  attr_stands e a i l es is at stands k lt =
      stands k lt ∙ ap Some (ap (λ o. at_place o (λ j. value_at r c a j k)) at ∙ sym (ap (λ x. part_value r c x es k) is ∙ value-Attr (shape_of r.model) (part.fresh_look (base_of r) (facts_of c)) a es k))

  -- no days at all
  pub stays_nowhere : (e : Expr) (es : List InstanceId) (d : ℕ) (v : Value) → HasUntil r c e es d d v
  stays_nowhere e es d v k low high = absurd (omega (arith, low, high))

  pub stays_so : (e : Expr) (es : List InstanceId) (d until : ℕ) (v : Value) → HasUntil r c e es d until v → HasUntil r c e es d until (part_value r c e es d)
  stays_so e es d until v stays k low high = stays k low high ∙ sym (stays d (omega arith) (omega (arith, low, high)))

  pub known_by_line : (e : Expr) (es : List InstanceId) (l : List (ℕ × Value)) (d until : ℕ) → StandsFor DAYS (part_value r c e es) l → until ≤ DAYS → IsKnownOn l d until → IsKnownUntil r c e es d until
  known_by_line e es l d until stands most known k low high un = known k low high (stands k (omega (arith, high, most)) ∙ ap Some un)
