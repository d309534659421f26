-- What no goal looks at changes no goal, and nothing changes a settled goal.
use Rattle.std.proofs.Common.{◌≡◌, ◌⊎◌, inl, inr, ℕ, suc, ◌<◌, Bool, true, false, List, [], ◌∷◌, ◌++◌, length, Option, None, Some, Contains, refl, sym, ◌∙◌, ap, subst, arith}
use Rattle.std.specs.Prelude.{flat_map, ◌==◌, if◌then◌else◌}
use Rattle.std.proofs.lemmas.Bool.{eqb-true, false≢true}
use Rattle.std.proofs.lemmas.List.Elements.{Contains-append_left, Contains-append_right}
use Rattle.opa_model.specs.declared.ids.AttrId.{AttrId}
use Rattle.opa_model.specs.declared.ids.RelId.{RelId}
use Rattle.opa_model.specs.Models.{HasAttribute}
use Rattle.opa_cells.specs.declared.instance.InstanceId.{InstanceId}
use Rattle.opa_tree.specs.declared.rulebase.Rulebase.{Rulebase}
use Rattle.opa_tree.specs.declared.rules.Rule.{Rule}
use Rattle.opa_tree.specs.Levels.{attributes}
use Rattle.opa_tree.specs.Ranks.{mentions_of, rank_at, Reaches, itself, mentioned_by}
use Rattle.opa_tree.specs.Rules.{rule_of}
use Rattle.opa_tree.proofs.Members.{none_in, contains_head, contains_cases, flat_in, flat_out}
use Rattle.opa_mean.specs.Given.{base_of}
use Rattle.opa_mean.specs.Mean.{Facts}
use Rattle.opa_mean.proofs.SlotsAre.{in_attributes, out_attributes}
use Rattle.opa_rules.specs.declared.reviewing.finding.Finding.{Finding}
use Rattle.opa_rules.specs.declared.reviewing.finding.Finding.TheVariants as finding
use Rattle.opa_rules.specs.declared.reviewing.finding.UnusedAttribute.{UnusedAttribute}
use Rattle.opa_rules.specs.Describing.Ranges.{ranged}
use Rattle.opa_rules.specs.Reviewing.Laws.{DifferAt, SameValue, StandsAt, IsUnused, IsSo, UnusedAreFound, SettledAreFound}
use Rattle.opa_rules.specs.Reviewing.Looking.{IsLookedAt, IsSettled, is_looked_at, is_settled, unused_by, unused_at, unused, settled_by, settled_at, settled}
use Rattle.opa_rules.specs.Reviewing.Compared.{compared_in}
use Rattle.opa_rules.specs.Reviewing.Findings.{findings, warnings, notes}
use Rattle.opa_rules.specs.Reviewing.Rows.{of_rule}
use Rattle.opa_rules.proofs.reviewing.AnswerLaws.{means_same}
use Rattle.opa_rules.proofs.reviewing.SeenLaws.{looked_at_tells}
use Rattle.opa_rules.proofs.reviewing.SettledLaws.{settled_tells}

module _ (base : Rulebase) where
  -- ---- values

  looks_on : (g a m : AttrId) → Reaches base.rules g a → Contains (mentions_of (rule_of base.rules a)) m → Reaches base.rules g m
  looks_on g a m reached there = mentioned_by a m reached there

  unused_changes_nothing : (a : AttrId) → (IsLookedAt base a → ⊥) → (c c' : Facts) → DifferAt a c c' → (g : AttrId) → Contains base.model.goals g → SameValue base c c' g
  unused_changes_nothing a not c c' differ g goal i d = ap (λ v. v i d) (means_same (base_of base) c c' differ.container (Reaches base.rules g) (looks_on g) answers listed (suc (rank_at base.ranks g)) g itself)
    where
      answers : (b : AttrId) → Reaches base.rules g b → rule_of base.rules b ≡ None → (i : InstanceId) (d : ℕ) → c.answer b i d ≡ c'.answer b i d
      answers b reached none i d = differ.answers b (λ e. not (g, (goal, subst (λ (x : AttrId). Reaches base.rules g x) e reached))) i d

      listed : (b : AttrId) (rule : Rule) → Reaches base.rules g b → rule_of base.rules b ≡ Some rule → (r : RelId) → Contains (ranged rule.expr) r → c.members r ≡ c'.members r
      listed b rule reached at r there = ap (λ m. m r) differ.members

  settled_unchanged : (g : AttrId) → IsSettled base g → (c c' : Facts) → c.container ≡ c'.container → SameValue base c c' g
  settled_unchanged g so c c' containers i d = ap (λ v. v i d) (means_same (base_of base) c c' containers (Reaches base.rules g) (looks_on g) answers listed (suc (rank_at base.ranks g)) g itself)
    where
      answers : (b : AttrId) → Reaches base.rules g b → rule_of base.rules b ≡ None → (i : InstanceId) (d : ℕ) → c.answer b i d ≡ c'.answer b i d
      answers b reached none i d = let w = so b reached in absurd (cc (sym none ∙ w.1.0))

      listed : (b : AttrId) (rule : Rule) → Reaches base.rules g b → rule_of base.rules b ≡ Some rule → (r : RelId) → Contains (ranged rule.expr) r → c.members r ≡ c'.members r
      listed b rule reached at r there = absurd (none_in r (subst (λ (rels : List RelId). Contains rels r) (lists_none b rule reached at) there))
        where
          lists_none : (b : AttrId) (rule : Rule) → Reaches base.rules g b → rule_of base.rules b ≡ Some rule → ranged rule.expr ≡ []
          lists_none b rule reached at = let w = so b reached in ap (λ (r : Rule). ranged r.expr) (same_rule rule w.0 (sym at ∙ w.1.0)) ∙ w.1.1
            where
              same_rule : (r s : Rule) → Some r ≡ Some s → r ≡ s
              same_rule r s e = cc e

  -- ---- what is found

  stands_by : (a : AttrId) (o : Option Rule) → StandsAt o (unused_by a o).file (unused_by a o).line
  stands_by a None = (refl, refl)
  stands_by a (Some rule) = (refl, refl)

  own_attr : (a : AttrId) (o : Option Rule) → (unused_by a o).attr ≡ a
  own_attr a None = refl
  own_attr a (Some rule) = refl

  unused_is : (a : AttrId) → HasAttribute base.model a → (IsLookedAt base a → ⊥) → (u : UnusedAttribute) → u.attr ≡ a → StandsAt (rule_of base.rules a) u.file u.line → IsUnused base u
  unused_is a declared not u e stands = record {
    declared = subst (HasAttribute base.model) (sym e) declared;
    stands = subst (λ (x : AttrId). StandsAt (rule_of base.rules x) u.file u.line) (sym e) stands;
    not_looked_at = subst (λ (x : AttrId). IsLookedAt base x → ⊥) (sym e) not;
    changes_nothing = subst (λ (x : AttrId). (c c' : Facts) → DifferAt x c c' → (g : AttrId) → Contains base.model.goals g → SameValue base c c' g) (sym e) (unused_changes_nothing a not);
  }

  unused_at_so : (a : AttrId) → a.0 < length base.model.attributes → (f : Finding) → Contains (unused_at base a) f → IsSo base f
  unused_at_so a declared f h = go (is_looked_at base a) refl h
    where
      one : is_looked_at base a ≡ false → (finding.Unused (unused_by a (rule_of base.rules a)) ≡ f) ⊎ Contains [] f → IsSo base f
      one unseen (inl e) = subst (IsSo base) e (unused_is a declared (λ seen. false≢true (sym unseen ∙ (looked_at_tells base a).1 seen)) (unused_by a (rule_of base.rules a)) (own_attr a (rule_of base.rules a)) (stands_by a (rule_of base.rules a)))
      one unseen (inr none) = absurd (none_in f none)

      go : (t : Bool) → is_looked_at base a ≡ t → Contains (if t then [] else finding.Unused (unused_by a (rule_of base.rules a)) ∷ []) f → IsSo base f
      go true e there = absurd (none_in f there)
      go false e there = one e (contains_cases (finding.Unused (unused_by a (rule_of base.rules a))) f [] there)

  pub unused_so : (f : Finding) → Contains (unused base) f → IsSo base f
  unused_so f h = go (length base.model.goals == 0) h
    where
      go : (t : Bool) → Contains (if t then [] else flat_map (unused_at base) (attributes (length base.model.attributes))) f → IsSo base f
      go true there = absurd (none_in f there)
      go false there = let w = flat_out (unused_at base) (attributes (length base.model.attributes)) f there in unused_at_so w.0 (out_attributes (length base.model.attributes) w.0 w.1.0) f w.1.1

  settled_rule_so : (g : AttrId) → Contains base.model.goals g → IsSettled base g → (o : Option Rule) → rule_of base.rules g ≡ o → (f : Finding) → Contains (settled_by g o) f → IsSo base f
  settled_rule_so g goal so None at f h = absurd (none_in f h)
  settled_rule_so g goal so (Some rule) at f h = go (contains_cases (finding.Settled (record { attr = g; file = rule.file; line = rule.line })) f [] h)
    where
      go : (finding.Settled (record { attr = g; file = rule.file; line = rule.line }) ≡ f) ⊎ Contains [] f → IsSo base f
      go (inl e) = subst (IsSo base) e (record {
        of_goals = goal;
        rule = rule;
        by_rule = at;
        stands = (refl, refl);
        settled = so;
        unchanged = settled_unchanged g so;
      })
      go (inr none) = absurd (none_in f none)

  settled_at_so : (g : AttrId) → Contains base.model.goals g → (f : Finding) → Contains (settled_at base g) f → IsSo base f
  settled_at_so g goal f h = go (is_settled base g) refl h
    where
      go : (t : Bool) → is_settled base g ≡ t → Contains (if t then settled_by g (rule_of base.rules g) else []) f → IsSo base f
      go true e there = settled_rule_so g goal ((settled_tells base g).0 e) (rule_of base.rules g) refl f there
      go false e there = absurd (none_in f there)

  pub settled_so : (f : Finding) → Contains (settled base) f → IsSo base f
  settled_so f h = let w = flat_out (settled_at base) base.model.goals f h in settled_at_so w.0 w.1.0 f w.1.1

-- ---- all is found

unused_there : (base : Rulebase) (a : AttrId) → (t : Bool) → is_looked_at base a ≡ t → t ≡ false → Contains (unused_at base a) (finding.Unused (unused_by a (rule_of base.rules a)))
unused_there base a t e unseen = subst (λ (b : Bool). Contains (if b then [] else finding.Unused (unused_by a (rule_of base.rules a)) ∷ []) (finding.Unused (unused_by a (rule_of base.rules a)))) (sym (e ∙ unseen)) (contains_head _ [])

not_seen : (base : Rulebase) (a : AttrId) → (IsLookedAt base a → ⊥) → (t : Bool) → is_looked_at base a ≡ t → t ≡ false
not_seen base a not true e = absurd (not ((looked_at_tells base a).0 e))
not_seen base a not false e = refl

some_goals : (n : ℕ) → 0 < n → (t : Bool) → (n == 0) ≡ t → t ≡ false
some_goals n lt true e = let none = eqb-true n 0 e in absurd (omega (arith, lt, none))
some_goals n lt false e = refl

among_findings : (base : Rulebase) (x : Finding) → Contains (unused base ++ settled base) x → Contains (findings base) x
among_findings base x h =
    let others : Contains (flat_map (compared_in base) base.rules ++ (unused base ++ settled base)) x = Contains-append_right (flat_map (compared_in base) base.rules) (unused base ++ settled base) x h in
    let all : Contains (warnings base) x = Contains-append_right (flat_map of_rule base.rules) (flat_map (compared_in base) base.rules ++ (unused base ++ settled base)) x others in
    Contains-append_left (warnings base) (notes base) x all

pub unused_are_found : UnusedAreFound
unused_are_found base a some declared not =
    let x = finding.Unused (unused_by a (rule_of base.rules a)) in
    let own = unused_there base a (is_looked_at base a) refl (not_seen base a not (is_looked_at base a) refl) in
    let all = flat_in (unused_at base) (attributes (length base.model.attributes)) a x (in_attributes (length base.model.attributes) a declared) own in
    let among : Contains (unused base) x = subst (λ (t : Bool). Contains (if t then [] else flat_map (unused_at base) (attributes (length base.model.attributes))) x) (sym (some_goals (length base.model.goals) some (length base.model.goals == 0) refl)) all in
    among_findings base x (Contains-append_left (unused base) (settled base) x among)

pub settled_are_found : SettledAreFound
settled_are_found base g rule goal so at =
    let x = finding.Settled (record { attr = g; file = rule.file; line = rule.line }) in
    let by : Contains (settled_by g (rule_of base.rules g)) x = subst (λ (o : Option Rule). Contains (settled_by g o) x) (sym at) (contains_head x []) in
    let own : Contains (settled_at base g) x = subst (λ (t : Bool). Contains (if t then settled_by g (rule_of base.rules g) else []) x) (sym ((settled_tells base g).1 so)) by in
    let all : Contains (settled base) x = flat_in (settled_at base) base.model.goals g x goal own in
    among_findings base x (Contains-append_right (unused base) (settled base) x all)
