-- What the code of a rule concludes.
use Rattle.std.proofs.Common.{◌≡◌, ℕ, Bool, true, false, cond, List, [], ◌∷◌, None, Some, map, refl, sym, ◌∙◌, ap, subst, ◌==◌}
use Rattle.std.specs.Prelude.{find}
use Rattle.std.specs.List.{All}
use Rattle.std.proofs.lemmas.Bool.{eqb-true}
use Rattle.std.proofs.lemmas.List.Elements.{All-head, All-tail}
use Rattle.opa_date.specs.declared.TheConstants.{DAYS}
use Rattle.opa_value.specs.Fit.{fit_of}
use Rattle.opa_value.specs.declared.value.Value.{Value}
use Rattle.opa_value.specs.declared.value.Value.TheVariants.{Unknown}
use Rattle.opa_line.specs.Lines.{StandsFor}
use Rattle.opa_model.specs.declared.ids.AttrId.{AttrId}
use Rattle.opa_case.specs.Shapes.{Shape}
use Rattle.opa_cells.specs.declared.instance.InstanceId.{InstanceId}
use Rattle.opa_tree.specs.declared.rules.Rule.{Rule}
use Rattle.opa_tree.specs.Rules.{rule_of, concludes}
use Rattle.opa_tree.specs.Trees.{HasForm}
use Rattle.opa_mean.specs.Looks.{Look}
use Rattle.opa_mean.specs.Mean.{concluded, fitted, is_money}
use Rattle.opa_mean.specs.Meaning.{value, first_value}
use Rattle.opa_code.specs.Coding.{coded, is_for}
use Rattle.opa_code.specs.OverLines.Lines.{values_at}
use Rattle.opa_code.specs.Steps.{Leaves}
use Rattle.opa_code.specs.declared.rule_code.RuleCode.{RuleCode}
use Rattle.opa_code.proofs.Compiled.{run_code}
use Rattle.opa_code.proofs.Standing.{stand_values, stands_same}

all_found : {X : Type 0} (P : X → Type 0) (p : X → Bool) (xs : List X) (x : X) → All P xs → find p xs ≡ Some x → P x
all_found P p [] x all e = absurd (cc e)
all_found P p (y ∷ xs) x all e = go (p y) refl (all_found P p xs x (All-tail P y xs all))
  where
    go : (b : Bool) → p y ≡ b → (find p xs ≡ Some x → P x) → P x
    go true q rest = let same : y ≡ x = cc (e, ap (λ b. cond b (Some y) (find p xs)) q) in subst P same (All-head P y xs all)
    go false q rest = rest (sym (ap (λ b. cond b (Some y) (find p xs)) q) ∙ e)

-- the code that is found is the rule's
pub record IsFound (s : Shape) (a : AttrId) (rules : List Rule) (code : RuleCode) : Type 0 where
  pub rule : Rule
  pub found : rule_of rules a ≡ Some rule
  pub is : code ≡ coded s rule
  pub for : rule.attr ≡ a

same_attr : (a b : AttrId) → a.0 ≡ b.0 → a ≡ b
same_attr a b e = ap (λ n. let c : AttrId = record { 0 = n } in c) e

pub code_found : (s : Shape) (a : AttrId) (rules : List Rule) (code : RuleCode) → find (is_for a) (map (coded s) rules) ≡ Some code → IsFound s a rules code
code_found s a [] code e = absurd (cc e)
code_found s a (r ∷ rules) code e = go (r.attr.0 == a.0) refl (code_found s a rules code) e
  where
    go : (b : Bool) → (r.attr.0 == a.0) ≡ b → (find (is_for a) (map (coded s) rules) ≡ Some code → IsFound s a rules code) → cond b (Some (coded s r)) (find (is_for a) (map (coded s) rules)) ≡ Some code → IsFound s a (r ∷ rules) code
    go true is more e = record { rule = r; found = ap (λ b. cond b (Some r) (rule_of rules a)) is; is = cc e; for = same_attr r.attr a (eqb-true r.attr.0 a.0 is) }
    go false is more e = let f = more e in record { rule = f.rule; found = ap (λ b. cond b (Some r) (rule_of rules a)) is ∙ f.found; is = f.is; for = f.for }

pub code_none : (s : Shape) (a : AttrId) (rules : List Rule) → find (is_for a) (map (coded s) rules) ≡ None → rule_of rules a ≡ None
code_none s a [] e = refl
code_none s a (r ∷ rules) e = go (r.attr.0 == a.0) refl (code_none s a rules) e
  where
    go : (b : Bool) → (r.attr.0 == a.0) ≡ b → (find (is_for a) (map (coded s) rules) ≡ None → rule_of rules a ≡ None) → cond b (Some (coded s r)) (find (is_for a) (map (coded s) rules)) ≡ None → rule_of (r ∷ rules) a ≡ None
    go true is more e = absurd (cc e)
    go false is more e = ap (λ b. cond b (Some r) (rule_of rules a)) is ∙ more e

module _ (s : Shape) (l : Look) (a : AttrId) (i : InstanceId) (rules : List Rule) where
  abbrev derives : ℕ → Value
  derives d = concluded (rule_of rules a) Unknown (λ e. fitted s a (value s l e (i ∷ []) d))

  pub none_derived : (line : List (ℕ × Value)) → rule_of rules a ≡ None → StandsFor DAYS (λ d. Unknown) line → StandsFor DAYS derives line
  none_derived line none h = stands_same line (λ d. Unknown) derives (λ d lt. ap (λ r. concluded r Unknown (λ e. fitted s a (value s l e (i ∷ []) d))) (sym none)) h

  pub code_derived : (code : RuleCode) (lines : List (List (ℕ × Value))) (line : List (ℕ × Value)) → All (λ r. HasForm r.expr) rules → IsFound s a rules code → Leaves l (i ∷ []) code.nodes lines
      → StandsFor DAYS (λ d. fit_of code.money (first_value (values_at lines d))) line → StandsFor DAYS derives line
  code_derived code lines line formed f leaves h =
      let rule = f.rule in
      let form : HasForm rule.expr = all_found (λ (r : Rule). HasForm r.expr) (concludes a) rules rule formed f.found in
      let left : Leaves l (i ∷ []) (coded s rule).nodes lines = subst (λ (c : RuleCode). Leaves l (i ∷ []) c.nodes lines) f.is leaves in
      let stand = left (value s l rule.expr ∷ []) (run_code s l rule.expr true form) in
      stands_same line (λ d. fit_of code.money (first_value (values_at lines d))) derives (λ d lt.
      ap (λ (c : RuleCode). fit_of c.money (first_value (values_at lines d))) f.is
      ∙ ap (λ b. fit_of (is_money (s.attribute b).kind) (first_value (values_at lines d))) f.for
      ∙ ap (λ vs. fitted s a (first_value vs)) (stand_values (i ∷ []) lines (value s l rule.expr ∷ []) stand d lt)
      ∙ ap (λ r. concluded r Unknown (λ e. fitted s a (value s l e (i ∷ []) d))) (sym f.found)) h
