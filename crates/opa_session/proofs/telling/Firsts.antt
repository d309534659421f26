-- The first day at which what is held differs.
use Rattle.std.proofs.Common.{◌≡◌, ℕ, ◌<◌, Bool, true, false, cond, [], ◌∷◌, Option, None, Some, is_some, refl, sym, ◌∙◌, ap, subst, arith}
use Rattle.std.specs.Prelude.{◌&&◌, ◌||◌, nat_lt}
use Rattle.std.specs.FinMap.{get}
use Rattle.std.proofs.lemmas.Bool.{and_parts, ltb-true}
use Rattle.opa_date.specs.declared.TheConstants.{DAYS}
use Rattle.opa_value.specs.declared.value.Value.{Value}
use Rattle.opa_value.specs.declared.value.Value.TheVariants.{Unknown}
use Rattle.opa_line.specs.Lines.{IsLine, at}
use Rattle.opa_line.specs.Differences.{IsFirstDifference}
use Rattle.opa_model.specs.declared.ids.AttrId.{AttrId}
use Rattle.opa_model.specs.declared.things.Kind.{Kind}
use Rattle.opa_cells.specs.declared.instance.InstanceId.{InstanceId}
use Rattle.opa_case.specs.Cases.{CaseView, Answer}
use Rattle.opa_case.specs.Steps.{has_kind}
use Rattle.opa_listen.specs.Days.{IsInCalendar}
use Rattle.opa_tree.specs.declared.rulebase.Rulebase.{Rulebase}
use Rattle.opa_tree.specs.Rules.{rule_of}
use Rattle.opa_mean.specs.Kinds.Laws.{ValuesHaveKinds, kind_of}
use Rattle.opa_mean.specs.Changes.{first_difference}
use Rattle.opa_mean.specs.Given.{line_value}
use Rattle.opa_mean.specs.Holding.{has_line, held_value}
use Rattle.opa_mean.specs.Rulebases.{IsOf, value_at}
use Rattle.opa_mean.specs.Slots.{has_place}
use Rattle.opa_mean.proofs.ChangesAre.{difference_found, found_difference, no_difference}
use Rattle.opa_mean.proofs.Holdings.{unanswered}

at_value : (l : Answer) → IsLine DAYS l → (d : ℕ) → at l d ≡ Some (line_value (Some l) d)
at_value [] form d = absurd form
at_value (p ∷ l) form d = refl

pub two_lines : (l m : Answer) → IsLine DAYS l → IsLine DAYS m → (o : Option ℕ) → IsFirstDifference DAYS l m o → o ≡ first_difference DAYS (line_value (Some l)) (line_value (Some m))
two_lines l m fl fm None same = sym (ap (λ x. first_difference DAYS (line_value (Some l)) (line_value (Some x))) (sym same) ∙ no_difference DAYS (line_value (Some l)))
two_lines l m fl fm (Some d) h = sym (found_difference DAYS (line_value (Some l)) (line_value (Some m)) d h.0
    (λ same. h.1 (at_value l fl d ∙ ap Some same ∙ sym (at_value m fm d)))
    (λ e lt. some_is (sym (at_value l fl e) ∙ h.2 e lt ∙ at_value m fm e)))
  where
    some_is : {v w : Value} → Some v ≡ Some w → v ≡ w
    some_is e = cc e

-- functions that agree on the calendar's days differ first at the same day
pub same_first : (end : ℕ) (f f' g g' : ℕ → Value) → ((d : ℕ) → d < end → f d ≡ f' d) → ((d : ℕ) → d < end → g d ≡ g' d) → first_difference end f g ≡ first_difference end f' g'
same_first end f f' g g' hf hg = go (first_difference end f g) refl (first_difference end f' g') refl
  where
    over : (d : ℕ) → first_difference end f g ≡ Some d → first_difference end f' g' ≡ Some d
    over d e =
        let r = difference_found end f g d e in
        found_difference end f' g' d r.0 (λ same. r.1 (hf d r.0 ∙ same ∙ sym (hg d r.0))) (λ k lt. sym (hf k (below k d lt r.0)) ∙ r.2 k lt ∙ hg k (below k d lt r.0))
      where
        below : (k d : ℕ) → k < d → d < end → k < end
        below k d lt le = omega (arith, lt, le)

    back : (d : ℕ) → first_difference end f' g' ≡ Some d → first_difference end f g ≡ Some d
    back d e =
        let r = difference_found end f' g' d e in
        found_difference end f g d r.0 (λ same. r.1 (sym (hf d r.0) ∙ same ∙ hg d r.0)) (λ k lt. hf k (below k d lt r.0) ∙ r.2 k lt ∙ sym (hg k (below k d lt r.0)))
      where
        below : (k d : ℕ) → k < d → d < end → k < end
        below k d lt le = omega (arith, lt, le)

    go : (o : Option ℕ) → first_difference end f g ≡ o → (p : Option ℕ) → first_difference end f' g' ≡ p → first_difference end f g ≡ first_difference end f' g'
    go None e None k = e ∙ sym k
    go (Some d) e p k = e ∙ sym (over d e)
    go None e (Some d) k = absurd (cc (e, back d k))

-- at its place an attribute has what is held
pub at_place : (r : Rulebase) (c : CaseView) → IsOf r c → (a : AttrId) (i : InstanceId) → has_place r c a i ≡ true → (d : ℕ) → held_value r c a i d ≡ value_at r c a i d
at_place r c is a i place d =
    ap (λ b. cond (b && (is_some (rule_of r.rules a) || is_some (get c.answers (a.0, i)))) (value_at r c a i d) Unknown) place
    ∙ go (is_some (rule_of r.rules a) || is_some (get c.answers (a.0, i))) refl
  where
    go : (b : Bool) → (is_some (rule_of r.rules a) || is_some (get c.answers (a.0, i))) ≡ b → cond b (value_at r c a i d) Unknown ≡ value_at r c a i d
    go true e = refl
    go false e = sym (unanswered r c is a i d e)

pub line_differ : (r s : Rulebase) (c c' : CaseView) (a : AttrId) (i : InstanceId) → s ≡ r → IsOf s c → IsOf r c' → has_place r c a i ≡ true → has_place r c' a i ≡ true
    → first_difference DAYS (held_value s c a i) (held_value r c' a i) ≡ first_difference DAYS (value_at r c a i) (value_at r c' a i)
line_differ r s c c' a i e is is' place place' =
    ap (λ (q : Rulebase). first_difference DAYS (held_value q c a i) (held_value r c' a i)) e
    ∙ same_first DAYS (held_value r c a i) (value_at r c a i) (held_value r c' a i) (value_at r c' a i)
    (λ d lt. at_place r c (subst (λ (q : Rulebase). IsOf q c) e is) a i place d) (λ d lt. at_place r c' is' a i place' d)

of_kind : (k : Kind) (v : Value) → has_kind k v ≡ true → IsInCalendar v
of_kind k v h d e = ltb-true d DAYS (and_parts _ (nat_lt d DAYS) (ap (has_kind k) (sym e) ∙ h)).1

-- a value that is held has no day past the calendar
pub in_calendar : ValuesHaveKinds → (r : Rulebase) (c : CaseView) → IsOf r c → (a : AttrId) (i : InstanceId) (d : ℕ) (v : Value) → v ≡ held_value r c a i d → IsInCalendar v
in_calendar kinds r c is a i d v e = of_kind (kind_of r a) v (ap (has_kind (kind_of r a)) e ∙ go (has_line r c a i))
  where
    go : (b : Bool) → has_kind (kind_of r a) (cond b (value_at r c a i d) Unknown) ≡ true
    go true = kinds r c is a i d
    go false = refl
