-- What a point rests on lies at live instances.
use Rattle.std.proofs.Common.{◌≡◌, ℕ, true, ◌==◌, List, [], ◌∷◌, Option, None, Some, Contains, refl}
use Rattle.std.specs.List.{AllByRecursion}
use Rattle.std.proofs.lemmas.Bool.{and_parts, eq-eqb, and_from}
use Rattle.opa_model.specs.declared.ids.AttrId.{AttrId}
use Rattle.opa_model.specs.declared.ids.RelId.{RelId}
use Rattle.opa_cells.specs.Instances.{named}
use Rattle.opa_cells.specs.declared.instance.InstanceId.{InstanceId}
use Rattle.opa_case.specs.Cases.{CaseView, IsLive}
use Rattle.opa_case.specs.Live.{is_live}
use Rattle.opa_case.specs.Shapes.{shape_of}
use Rattle.opa_tree.specs.Mentions.{mentioned}
use Rattle.opa_tree.specs.Rules.{rule_of}
use Rattle.opa_tree.specs.declared.rulebase.Rulebase.{Rulebase}
use Rattle.opa_tree.specs.declared.rules.Rule.{Rule}
use Rattle.opa_tree.proofs.Members.{none_in}
use Rattle.opa_mean.specs.Given.{base_of, facts_of}
use Rattle.opa_mean.specs.Lies.{IsPlaced, IsLower, UsesLie, ConeLies}
use Rattle.opa_mean.specs.Looks.{Look}
use Rattle.opa_mean.specs.Mean.{look_of, mean}
use Rattle.opa_mean.specs.Mean as facts_are
use Rattle.opa_mean.specs.Places.{owner_of, place}
use Rattle.opa_mean.specs.Reports.{rule_uses, uses_of, InCone}
use Rattle.opa_mean.specs.Rulebases.{IsOf}
use Rattle.opa_mean.specs.Slots.{has_place}
use Rattle.opa_mean.specs.Uses.{Use, Point, Listed, uses}
use Rattle.opa_mean.proofs.Chains.{place_live}
use Rattle.opa_mean.proofs.Completing.{above_live}
use Rattle.opa_mean.proofs.Determining.{mentioned_in}
use Rattle.opa_mean.proofs.Fitting.{live_in, in_live}
use Rattle.opa_mean.proofs.LawsOver.{base, facts}
use Rattle.opa_mean.proofs.Lying.{Lies, uses_lie}

module _ (r : Rulebase) (c : CaseView) (is : IsOf r c) where
  abbrev Live : InstanceId → Type 0
  Live i = facts_are.IsLive (facts_of c) i

  abbrev fresh : Look
  fresh = look_of (facts_of c) (mean (base_of r) (facts_of c))

  places : (enclosing : List InstanceId) → AllByRecursion Live enclosing → (e : ℕ) (i : InstanceId) → place (facts_of c).container enclosing e ≡ Some i → Live i
  places = place_live (facts_of c).container Live (above_live (shape_of r.model) (facts_of c) (facts r c is))

  listed : (q : RelId) (i : InstanceId) (names : List (List ℕ)) → (facts_of c).members q i ≡ Some names → AllByRecursion (λ n. Live (named ((shape_of r.model).target q) n)) names
  listed q i names e = (facts r c is).listed q i names e

  placed : (a : AttrId) (rule : Rule) → rule_of r.rules a ≡ Some rule → (u : Use) → Lies (shape_of r.model) fresh Live places listed (mentioned rule.expr) u → IsPlaced r c u × IsLower r a u
  placed a rule e (Point m i d) h = (
    and_from (is_live c.live i) (i.entity.0 == owner_of (shape_of r.model) m) (in_live c i h.1.0) (eq-eqb i.entity.0 (owner_of (shape_of r.model) m) h.1.1),
    (base r c is).falls a m (mentioned_in r.rules a rule e m h.0),
  )
  placed a rule e (Listed q i) h = (and_from (is_live c.live i) (i.entity.0 == (shape_of r.model).source q) (in_live c i h.0) (eq-eqb i.entity.0 ((shape_of r.model).source q) h.1), tt)

  used_placed : (a : AttrId) (i : InstanceId) (d : ℕ) (u : Use) → IsLive c i → Contains (uses_of (base_of r) (facts_of c) (Point a i d)) u → IsPlaced r c u × IsLower r a u
  used_placed a i d u live h = go (rule_of r.rules a) refl h
    where
      go : (o : Option Rule) → rule_of r.rules a ≡ o → Contains (rule_uses o (λ e. uses (shape_of r.model) fresh e (i ∷ []) d)) u → IsPlaced r c u × IsLower r a u
      go None e k = absurd (none_in u k)
      go (Some rule) e k = placed a rule e u (uses_lie (shape_of r.model) fresh Live places listed rule.expr (i ∷ []) (live_in c i live, tt) d u k)

  next_placed : (u v : Use) → IsPlaced r c u → Contains (uses_of (base_of r) (facts_of c) u) v → IsPlaced r c v
  next_placed (Point a i d) v p h = (used_placed a i d v (and_parts _ _ p).0 h).0
  next_placed (Listed q i) v p h = absurd (none_in v h)

  cone_placed : (a : AttrId) (i : InstanceId) (d : ℕ) → has_place r c a i ≡ true → {u : Use} → InCone (base_of r) (facts_of c) (Point a i d) u → IsPlaced r c u
  cone_placed a i d p InCone.itself = p
  cone_placed a i d p (InCone.used_by u v h k) = next_placed u v (cone_placed a i d p h) k

pub used_lie : UsesLie
used_lie r c is a i d u live h = used_placed r c is a i d u live h

pub cone_lies : ConeLies
cone_lies r c is a i d u p h = cone_placed r c is a i d p h
