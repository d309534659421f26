-- What is asked of a declared goal is declared.
use Rattle.std.proofs.Common.{◌≡◌, ◌⊎◌, inl, inr, ℕ, zero, suc, ◌<◌, Bool, true, false, cond, List, [], ◌∷◌, length, get_or, map, Option, None, Some, Contains, IsTrue, All, refl, sym, ap, subst, arith}
use Rattle.std.specs.Prelude.{unwrap_or}
use Rattle.std.specs.List.{AllByRecursion}
use Rattle.std.proofs.lemmas.List.Elements.{All-head, All-tail}
use Rattle.std.proofs.lemmas.Option.{slice_get-get_or, slice_get_within}
use Rattle.opa_io.proofs.Options.{there_is}
use Rattle.opa_date.specs.declared.TheConstants.{DAYS}
use Rattle.opa_model.specs.declared.ids.AttrId.{AttrId}
use Rattle.opa_model.specs.declared.ids.RelId.{RelId}
use Rattle.opa_model.specs.declared.things.Attribute.{Attribute}
use Rattle.opa_model.specs.declared.things.Entity.{Entity}
use Rattle.opa_model.specs.Lookups.{attribute_at}
use Rattle.opa_model.specs.Models.{HasAttribute}
use Rattle.opa_cells.specs.Instances.{global}
use Rattle.opa_cells.specs.declared.instance.InstanceId.{InstanceId}
use Rattle.opa_case.specs.Cases.{CaseView}
use Rattle.opa_case.specs.Live.{walk}
use Rattle.opa_case.specs.Shapes.{Shape, IsShape, shape_of, entity_or, no_entity}
use Rattle.opa_case.specs.declared.question.Question.{Question}
use Rattle.opa_case.proofs.Shaped.{shape_is}
use Rattle.opa_tree.specs.declared.rulebase.Rulebase.{Rulebase}
use Rattle.opa_tree.specs.declared.rules.Rule.{Rule}
use Rattle.opa_tree.specs.Rules.{rule_of, concludes}
use Rattle.opa_tree.specs.Scopes.{is_reached, rule_is_reached}
use Rattle.opa_tree.proofs.FirstOnesLaws.{first_ones-out}
use Rattle.opa_tree.proofs.Members.{none_in, contains_cases}
use Rattle.opa_mean.specs.Given.{base_of, facts_of}
use Rattle.opa_mean.specs.Mean.{look_of, mean_by, mean}
use Rattle.opa_mean.specs.Needs.{gap_of, gap_by, gap, asked, needs, needs_or, needs_by, needs_of}
use Rattle.opa_mean.specs.Next.{question_of, questions, asked_at, relevant, next, first_or, first_unknown}
use Rattle.opa_mean.specs.Sameness.{same_question}
use Rattle.opa_mean.specs.Uses.{Use, Point, Listed}
use Rattle.opa_mean.specs.Rulebases.{IsOf}
use Rattle.opa_mean.proofs.Accepting.{all_found}
use Rattle.opa_mean.proofs.Everywhere.{all_of_each}
use Rattle.opa_mean.proofs.Filtered.{map_out}
use Rattle.opa_mean.proofs.SameBoth.{sameness_is_exact}
use Rattle.opa_mean.specs.Goals.Asked.{IsDeclared}
use Rattle.opa_mean.proofs.goals.Needing.{IsAsked, if_in, needs_declared}

module _ (r : Rulebase) (c : CaseView) (is : IsOf r c) where
  abbrev s : Shape
  s = shape_of r.model

  form : IsShape (shape_of r.model)
  form = shape_is r.model is.is_model

  -- the relation that contains an entity other than the global one
  contained_known : (e : ℕ) → 0 < e → e < length r.model.entities → (s.contained e).0 < length r.model.relations
  contained_known e low lt =
      let m = r.model in
      let x : Entity = get_or m.entities e no_entity in
      let got = slice_get-get_or m.entities e no_entity lt in
      let inside = is.is_model.contained e x low got in
      let same : entity_or m e ≡ x = ap (λ o. unwrap_or o no_entity) got in
      subst (λ (y : Entity). y.contained.0 < length m.relations) (sym same) (slice_get_within m.relations x.contained.0 inside.relation inside.by_it)

  abbrev members : RelId → InstanceId → Option (List (List ℕ))
  members = (facts_of c).members

  walk_global : (n : ℕ) → walk s members n 0 ≡ Some (global ∷ [])
  unfolding walk
  walk_global zero = refl
  walk_global (suc n) = refl

  gap_zero : (e : ℕ) → gap_by s members zero e ≡ Listed (s.contained e) global
  unfolding gap_by
  gap_zero e = refl

  gap_suc : (n e : ℕ) → gap_by s members (suc n) e ≡ gap_of (s.contained e) (members (s.contained e)) (walk s members n (s.parent e)) (gap_by s members n (s.parent e))
  unfolding gap_by
  gap_suc n e = refl

  gap_declared : (n e : ℕ) → 0 < e → e < s.count → IsAsked r.model (gap_by s members n e)
  gap_declared zero e low lt = subst (IsAsked r.model) (sym (gap_zero e)) (contained_known e low lt)
  gap_declared (suc n) e low lt = subst (IsAsked r.model) (sym (gap_suc n e)) (go (walk s members n (s.parent e)) refl (gap_declared n (s.parent e)))
    where
      earlier : s.parent e < e
      earlier = form.earlier e low lt

      above : walk s members n (s.parent e) ≡ None → (0 < s.parent e) ⊎ (s.parent e ≡ 0) → 0 < s.parent e
      above q (inl up) = up
      above q (inr zero_) = absurd (cc (q, ap (walk s members n) zero_, walk_global n))

      at : (p : ℕ) → (0 < p) ⊎ (p ≡ 0)
      at zero = inr refl
      at (suc p) = inl (omega arith)

      go : (o : Option (List InstanceId)) → walk s members n (s.parent e) ≡ o → (0 < s.parent e → s.parent e < s.count → IsAsked r.model (gap_by s members n (s.parent e))) → IsAsked r.model (gap_of (s.contained e) (members (s.contained e)) o (gap_by s members n (s.parent e)))
      go None q rest = rest (above q (at (s.parent e))) (let less = earlier in omega (arith, less, lt))
      go (Some parents) q rest = contained_known e low lt

  list_asked : (q : RelId) (i : InstanceId) → q.0 < length r.model.relations → IsAsked r.model (asked s members q i)
  list_asked q i lt = go (s.every q) refl
    where
      go : (b : Bool) → s.every q ≡ b → IsAsked r.model (cond b (gap s members (s.target q)) (Listed q i))
      go true e = gap_declared s.count (s.target q) (form.over_another q e) (form.inside q)
      go false e = lt

  abbrev Reached : Rule → Type 0
  Reached rule = (x : Attribute) × ((attribute_at r.model rule.attr ≡ Some x) × IsTrue (is_reached r.model rule.expr (x.entity ∷ [])))

  reached : (a : AttrId) (rule : Rule) → rule_of r.rules a ≡ Some rule → Reached rule
  reached a rule e = there_is (attribute_at r.model rule.attr) (λ (x : Attribute). is_reached r.model rule.expr (x.entity ∷ [])) (all_found (λ (q : Rule). IsTrue (rule_is_reached r.model q)) (concludes a) r.rules rule r.sound.reached e)

  abbrev at_level : ℕ → AttrId → InstanceId → ℕ → List Use
  at_level = needs_by (base_of r) (facts_of c)

  level_zero : (a : AttrId) (i : InstanceId) (d : ℕ) → at_level zero a i d ≡ []
  unfolding needs_by
  level_zero a i d = refl

  level_suc : (n : ℕ) (a : AttrId) (i : InstanceId) (d : ℕ) → at_level (suc n) a i d ≡ needs_or (rule_of r.rules a) (Point a i d ∷ []) (λ e. needs s (look_of (facts_of c) (mean_by (base_of r) (facts_of c) n)) (asked s members) (at_level n) e (i ∷ []) d)
  unfolding needs_by
  level_suc n a i d = refl

  point_asked : (n : ℕ) (a : AttrId) (i : InstanceId) (d : ℕ) (u : Use) → a.0 < length r.model.attributes → Contains (at_level n a i d) u → IsAsked r.model u
  point_asked zero a i d u lt h = absurd (none_in u (subst (λ us. Contains us u) (level_zero a i d) h))
  point_asked (suc n) a i d u lt h = go (rule_of r.rules a) refl (subst (λ us. Contains us u) (level_suc n a i d) h) (λ m j e v. point_asked n m j e v)
    where
      itself : (Point a i d ≡ u) ⊎ Contains [] u → IsAsked r.model u
      itself (inl e) = subst (IsAsked r.model) e lt
      itself (inr k) = absurd (none_in u k)

      go : (o : Option Rule) → rule_of r.rules a ≡ o → Contains (needs_or o (Point a i d ∷ []) (λ e. needs s (look_of (facts_of c) (mean_by (base_of r) (facts_of c) n)) (asked s members) (at_level n) e (i ∷ []) d)) u
          → ((m : AttrId) (j : InstanceId) (e : ℕ) (v : Use) → m.0 < length r.model.attributes → Contains (at_level n m j e) v → IsAsked r.model v) → IsAsked r.model u
      go None e there lower = itself (contains_cases (Point a i d) u [] there)
      go (Some rule) e there lower =
          let x = reached a rule e in
          needs_declared r.model s (look_of (facts_of c) (mean_by (base_of r) (facts_of c) n)) (asked s members) (at_level n) list_asked lower rule.expr (x.0.entity ∷ []) x.1.1 (i ∷ []) d u there

  need_asked : (a : AttrId) (i : InstanceId) (d : ℕ) (u : Use) → a.0 < length r.model.attributes → Contains (needs_of (base_of r) (facts_of c) a i d) u → IsAsked r.model u
  need_asked a i d u lt h = point_asked (suc ((base_of r).rank a)) a i d u lt (if_in (mean (base_of r) (facts_of c) a i d) (at_level (suc ((base_of r).rank a)) a i d) u h)

  all_asked : (us : List Use) → ((u : Use) → Contains us u → IsAsked r.model u) → AllByRecursion (IsDeclared r.model) (questions us)
  all_asked us h = all_of_each (IsDeclared r.model) (questions us) (λ q there.
      let x = map_out question_of us q (first_ones-out same_question sameness_is_exact.questions (map question_of us) q there) in
      subst (IsDeclared r.model) x.1.1 (h x.0 x.1.0))

  pub relevant_declared : (a : AttrId) → HasAttribute r.model a → AllByRecursion (IsDeclared r.model) (relevant (base_of r) (facts_of c) a)
  relevant_declared a lt = go (first_unknown DAYS (mean (base_of r) (facts_of c) a global))
    where
      go : (o : Option ℕ) → AllByRecursion (IsDeclared r.model) (asked_at (base_of r) (facts_of c) a o)
      go None = tt
      go (Some d) = all_asked (needs_of (base_of r) (facts_of c) a global d) (λ u there. need_asked a global d u lt there)

  next_declared : (goals : List AttrId) → All (HasAttribute r.model) goals → (q : Question) → next (base_of r) (facts_of c) goals ≡ Some q → IsDeclared r.model q
  next_declared [] all q e = absurd (cc e)
  next_declared (a ∷ goals) all q e =
      go (relevant (base_of r) (facts_of c) a) (relevant_declared a (All-head (HasAttribute r.model) a goals all)) e (next_declared goals (All-tail (HasAttribute r.model) a goals all) q)
    where
      go : (qs : List Question) → AllByRecursion (IsDeclared r.model) qs → first_or qs (next (base_of r) (facts_of c) goals) ≡ Some q → (next (base_of r) (facts_of c) goals ≡ Some q → IsDeclared r.model q) → IsDeclared r.model q
      go [] each e rest = rest e
      go (p ∷ qs) each e rest = let same : p ≡ q = cc e in subst (IsDeclared r.model) same each.0

  pub next_is_declared : (q : Question) → next (base_of r) (facts_of c) r.model.goals ≡ Some q → IsDeclared r.model q
  next_is_declared q e = next_declared r.model.goals is.is_model.in_range.goals q e
