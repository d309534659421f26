-- What is held gives a tree the value over the fresh determinations.
use Rattle.std.proofs.Common.{◌≡◌, ℕ, ◌<◌, List, [], ◌∷◌, Bool, true, false, cond, Option, None, Some, Contains, Result, IfOk, IfSome, Bor, is_some, refl, sym, ◌∙◌, ap, subst}
use Rattle.std.specs.Prelude.{◌&&◌, ◌||◌, ◌==◌}
use Rattle.std.specs.List.{AllByRecursion}
use Rattle.std.specs.Option.{option_copied}
use Rattle.std.specs.FinMap.{get}
use Rattle.std.proofs.lemmas.Bool.{eq-eqb}
use Rattle.opa_io.proofs.Lists.{each_weaker}
use Rattle.opa_date.specs.declared.TheConstants.{DAYS}
use Rattle.opa_value.specs.declared.value.Value.{Value}
use Rattle.opa_value.specs.declared.value.Value.TheVariants.{Unknown}
use Rattle.opa_line.specs.Lines.{StandsFor, value_or}
use Rattle.opa_model.specs.declared.ids.AttrId.{AttrId}
use Rattle.opa_cells.specs.declared.instance.InstanceId.{InstanceId}
use Rattle.opa_case.specs.Cases.{CaseView, Answer, IsLive}
use Rattle.opa_case.specs.Shapes.{shape_of}
use Rattle.opa_case.specs.declared.question.Question.{Question}
use Rattle.opa_case.specs.declared.question.Question.TheVariants as question
use Rattle.opa_tree.specs.declared.expr.Expr.{Expr}
use Rattle.opa_tree.specs.declared.rulebase.Rulebase.{Rulebase}
use Rattle.opa_tree.specs.declared.rules.Rule.{Rule}
use Rattle.opa_tree.specs.Rules.{rule_of}
use Rattle.opa_mean.specs.Given.{base_of, facts_of, line_value}
use Rattle.opa_mean.specs.Holding.{has_line, held_value, held_look}
use Rattle.opa_mean.specs.Mean.{look_of, concluded, fitted, mean}
use Rattle.opa_mean.specs.Meaning.{value}
use Rattle.opa_mean.specs.Places.{owner_of, place}
use Rattle.opa_mean.specs.Reads.{reads}
use Rattle.opa_mean.specs.Rulebases.{IsOf, value_at}
use Rattle.opa_mean.proofs.Chains.{place_live}
use Rattle.opa_mean.proofs.Completing.{above_live}
use Rattle.opa_mean.proofs.Determining.{determined}
use Rattle.opa_mean.proofs.Everywhere.{all_of_each}
use Rattle.opa_mean.proofs.Fitting.{live_in, in_live}
use Rattle.opa_mean.proofs.LawsOver.{base, facts}
use Rattle.opa_mean.proofs.Reading.{reads_fix, Alike}

-- a line that is held, at a day
pub held_line : (r : Rulebase) (c : CaseView) (a : AttrId) (i : InstanceId) (o : Option (Bor Answer)) → IfSome o (λ l. StandsFor DAYS (value_at r c a i) l.now) → is_some o ≡ has_line r c a i → (d : ℕ) → d < DAYS → line_value (option_copied o) d ≡ held_value r c a i d
held_line r c a i None h e d lt = ap (λ b. cond b (value_at r c a i d) Unknown) e
held_line r c a i (Some l) h e d lt = ap (value_or Unknown) (h d lt) ∙ ap (λ b. cond b (value_at r c a i d) Unknown) e

module _ (r : Rulebase) (c : CaseView) (is : IsOf r c) where
  abbrev Live : InstanceId → Type 0
  Live i = Contains (facts_of c).instances i

  live : (enclosing : List InstanceId) → AllByRecursion Live enclosing → (e : ℕ) (i : InstanceId) → place (facts_of c).container enclosing e ≡ Some i → Live i
  live = place_live (facts_of c).container Live (above_live (shape_of r.model) (facts_of c) (facts r c is))

  -- without a rule and an answer a value is unknown
  pub unanswered : (a : AttrId) (i : InstanceId) (d : ℕ) → (is_some (rule_of r.rules a) || is_some (get c.answers (a.0, i))) ≡ false → value_at r c a i d ≡ Unknown
  unanswered a i d h = determined (base_of r) (facts_of c) (base r c is).falls a i d ∙ go (rule_of r.rules a) (get c.answers (a.0, i)) h
    where
      go : (o : Option Rule) (p : Option Answer) → (is_some o || is_some p) ≡ false → concluded o (line_value p d) (λ e. fitted (shape_of r.model) a (value (shape_of r.model) (look_of (facts_of c) (mean (base_of r) (facts_of c))) e (i ∷ []) d)) ≡ Unknown
      go None None h = refl
      go None (Some l) h = absurd (cc h)
      go (Some rule) p h = absurd (cc h)

  as_held : (a : AttrId) (i : InstanceId) → Live i → i.entity.0 ≡ owner_of (shape_of r.model) a → (d : ℕ) → held_value r c a i d ≡ value_at r c a i d
  as_held a i lives own d =
      ap (λ b. cond ((b && (i.entity.0 == owner_of (shape_of r.model) a)) && (is_some (rule_of r.rules a) || is_some (get c.answers (a.0, i)))) (value_at r c a i d) Unknown) (in_live c i lives)
      ∙ ap (λ b. cond (b && (is_some (rule_of r.rules a) || is_some (get c.answers (a.0, i)))) (value_at r c a i d) Unknown) (eq-eqb i.entity.0 (owner_of (shape_of r.model) a) own)
      ∙ go (is_some (rule_of r.rules a) || is_some (get c.answers (a.0, i))) refl
    where
      go : (b : Bool) → (is_some (rule_of r.rules a) || is_some (get c.answers (a.0, i))) ≡ b → cond b (value_at r c a i d) Unknown ≡ value_at r c a i d
      go true e = refl
      go false e = sym (unanswered a i d e)

  alike : (q : Question) → Alike (shape_of r.model) (held_look r c) (look_of (facts_of c) (mean (base_of r) (facts_of c))) Live Live (λ enclosing w e. refl) live (λ k i names _ e e'. (facts r c is).listed k i names e) q
  alike (question.Attr a i) = λ lives own d lt. as_held a i lives own d
  alike (question.Members k i) = λ _. refl

  pub over_held : (e : Expr) (enclosing : List InstanceId) → AllByRecursion (IsLive c) enclosing → (d : ℕ) → d < DAYS → value (shape_of r.model) (held_look r c) e enclosing d ≡ value (shape_of r.model) (look_of (facts_of c) (mean (base_of r) (facts_of c))) e enclosing d
  over_held e enclosing lives d lt =
      reads_fix (shape_of r.model) (held_look r c) (look_of (facts_of c) (mean (base_of r) (facts_of c))) Live Live (λ enclosing w e. refl) live (λ k i names _ e e'. (facts r c is).listed k i names e) e enclosing
      (each_weaker (IsLive c) Live (λ i h. live_in c i h) enclosing lives) refl
      (all_of_each _ (reads (shape_of r.model) (facts_of c).members (facts_of c).container e enclosing) (λ q _. alike q)) d lt

pub held_answer : {E : Type 0} (r : Rulebase) (c : CaseView) (e : Expr) (enclosing enclosing' : List InstanceId) (d : ℕ) (o : Result Value E) → IsOf r c → d < DAYS → AllByRecursion (IsLive c) enclosing → enclosing' ≡ enclosing
    → IfOk o (λ v. v ≡ value (shape_of r.model) (held_look r c) e enclosing' d) → IfOk o (λ v. v ≡ value (shape_of r.model) (look_of (facts_of c) (mean (base_of r) (facts_of c))) e enclosing d)
held_answer r c e enclosing enclosing' d o is lt lives same h =
    subst (λ w. IfOk o (λ v. v ≡ w)) (ap (λ es. value (shape_of r.model) (held_look r c) e es d) same ∙ over_held r c is e enclosing lives d lt) h
