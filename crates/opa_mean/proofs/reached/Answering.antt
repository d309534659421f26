-- The line of an attribute without a rule is its answer.
use Rattle.std.proofs.Common.{◌≡◌, ℕ, [], ◌∷◌, false, Option, None, Some, is_some, refl, ◌∙◌, ap}
use Rattle.std.specs.FinMap.{get}
use Rattle.opa_date.specs.declared.TheConstants.{DAYS}
use Rattle.opa_model.specs.declared.ids.AttrId.{AttrId}
use Rattle.opa_cells.specs.declared.instance.InstanceId.{InstanceId}
use Rattle.opa_case.specs.Cases.{CaseView}
use Rattle.opa_case.specs.Shapes.{shape_of}
use Rattle.opa_tree.specs.declared.rulebase.Rulebase.{Rulebase}
use Rattle.opa_tree.specs.declared.rules.Rule.{Rule}
use Rattle.opa_tree.specs.Rules.{rule_of}
use Rattle.opa_mean.specs.Given.{base_of, facts_of, line_value}
use Rattle.opa_mean.specs.Mean.{look_of, concluded, fitted, mean}
use Rattle.opa_mean.specs.Meaning.{value}
use Rattle.opa_mean.specs.Rulebases.{IsOf, value_at}
use Rattle.opa_mean.proofs.Determining.{determined}
use Rattle.opa_mean.proofs.LawsOver.{base}
use Rattle.opa_mean.specs.Reached.Dirty.{AnswersDiffer}
use Rattle.opa_mean.proofs.reached.Differing.{same_difference}

pub answer_is : (r : Rulebase) (c : CaseView) → IsOf r c → (a : AttrId) (i : InstanceId) (d : ℕ) → is_some (rule_of r.rules a) ≡ false → value_at r c a i d ≡ line_value (get c.answers (a.0, i)) d
answer_is r c is a i d none =
    determined (base_of r) (facts_of c) (base r c is).falls a i d
    ∙ ap (λ o. concluded o ((facts_of c).answer a i d) (λ e. fitted (shape_of r.model) a (value (shape_of r.model) (look_of (facts_of c) (mean (base_of r) (facts_of c))) e (i ∷ []) d))) (no_rule (rule_of r.rules a) none)
  where
    no_rule : (o : Option Rule) → is_some o ≡ false → o ≡ None
    no_rule None h = refl
    no_rule (Some x) h = absurd (cc h)

pub answers_differ : AnswersDiffer
answers_differ r c c' is is' a i none =
    same_difference DAYS (value_at r c a i) (line_value (get c.answers (a.0, i))) (value_at r c' a i) (line_value (get c'.answers (a.0, i)))
    (λ d lt. answer_is r c is a i d none) (λ d lt. answer_is r c' is' a i d none)
