-- What an accepted rulebase keeps.
use Rattle.std.proofs.Common.{◌≡◌, ℕ, zero, suc, ◌<◌, List, [], ◌∷◌, length, Bool, true, false, cond, IsTrue, Option, None, Some, All, refl, sym, ◌∙◌, ap, subst, arith}
use Rattle.std.specs.Prelude.{find, slice_get, unwrap_or}
use Rattle.std.proofs.lemmas.List.Elements.{All-head, All-tail}
use Rattle.opa_model.specs.declared.ids.RelId.{RelId}
use Rattle.opa_model.specs.declared.lists.Lists.{Lists}
use Rattle.opa_model.specs.declared.things.Relation.{Relation}
use Rattle.opa_model.specs.Models.{IsModel, IsOverAll}
use Rattle.opa_case.specs.Cases.{CaseView}
use Rattle.opa_case.specs.Fits.{Fits}
use Rattle.opa_case.specs.Shapes.{shape_of, relation_or, no_relation}
use Rattle.opa_case.proofs.Shaped.{shape_is}
use Rattle.opa_tree.specs.declared.rulebase.Rulebase.{Rulebase}
use Rattle.opa_tree.specs.declared.rules.Rule.{Rule}
use Rattle.opa_tree.specs.Rules.{concludes}
use Rattle.opa_tree.specs.Trees.{HasForm}
use Rattle.opa_tree.proofs.RankLaws.{ranks_fall}
use Rattle.opa_mean.specs.Bases.{IsBase}
use Rattle.opa_mean.specs.Completion.{AreFacts}
use Rattle.opa_mean.specs.Given.{base_of, facts_of}
use Rattle.opa_mean.proofs.Fitting.{are_facts}

pub all_found : {X : Type 0} (P : X → Type 0) (p : X → Bool) (xs : List X) (x : X) → All P xs → find p xs ≡ Some x → P x
all_found P p [] x all e = absurd (cc e)
all_found P p (y ∷ xs) x all e = go (p y) refl (all_found P p xs x (All-tail P y xs all))
  where
    go : (b : Bool) → p y ≡ b → (find p xs ≡ Some x → P x) → P x
    go true q rest = let same : y ≡ x = cc (e, ap (λ b. cond b (Some y) (find p xs)) q) in subst P same (All-head P y xs all)
    go false q rest = rest (sym (ap (λ b. cond b (Some y) (find p xs)) q) ∙ e)

all_got : {X : Type 0} (P : X → Type 0) (xs : List X) (k : ℕ) (x : X) → All P xs → slice_get xs k ≡ Some x → P x × (k < length xs)
all_got P [] k x all e = absurd (cc e)
all_got P (y ∷ xs) zero x all e = (subst P (cc e) (All-head P y xs all), omega arith)
all_got P (y ∷ xs) (suc k) x all e = let rest = all_got P xs k x (All-tail P y xs all) e in (rest.0, omega (arith, rest.1))

module _ (m : Lists) (is : IsModel m) where
  over_all : (r : RelId) → (relation_or m r).every ≡ true → IsOverAll (relation_or m r) × (r.0 < length m.relations)
  over_all r h = go (slice_get m.relations r.0) refl h
    where
      go : (o : Option Relation) → slice_get m.relations r.0 ≡ o → (unwrap_or o no_relation).every ≡ true → IsOverAll (relation_or m r) × (r.0 < length m.relations)
      go None e h = absurd (cc h)
      go (Some x) e h =
          let got = all_got (λ y. IsTrue y.every → IsOverAll y) m.relations r.0 x is.over_all e in
          (subst IsOverAll (sym (ap (λ o. unwrap_or o no_relation) e)) (got.0 h), got.1)

  pub case_facts : (ruled : List Bool) (c : CaseView) → Fits (shape_of m) ruled c → AreFacts (shape_of m) (facts_of c)
  case_facts ruled c fits = are_facts (shape_of m) (shape_is m is) (λ r h. (over_all r h).1) ruled c fits

pub is_base : (r : Rulebase) → IsModel r.model → IsBase (base_of r)
is_base r is = record {
  falls = λ a m h. ranks_fall (length r.model.attributes) r.rules r.ranks r.sound.attributes_declared r.ranked a m h;
  formed = λ a rule e. all_found (λ (x : Rule). HasForm x.expr) (concludes a) r.rules rule r.formed e;
  of_global = λ q h. (over_all r.model is q h).0.from_global;
}
