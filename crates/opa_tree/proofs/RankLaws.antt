-- Ranks fall along mentions, and there is one list of them.
use Rattle.std.proofs.Common.{◌≡◌, ℕ, zero, suc, ◌+◌, ◌<◌, ◌≤◌, ◌⊎◌, Bool, true, false, cond, List, [], ◌∷◌, map, get_or, ◌≢◌, AllPairs, Contains, Option, None, Some, inl, inr, refl, sym, ap, ◌∙◌, arith, eq-eqb}
use Rattle.std.specs.Prelude.{find}
use Rattle.std.proofs.lemmas.Bool.{eqb-true, cases_lt, false≢true}
use Rattle.std.proofs.lemmas.List.{get_or_past}
use Rattle.std.proofs.lemmas.Grind.{same_number_lists}
use Rattle.std.proofs.lemmas.List.Elements.{All-head, All-tail}
use Rattle.opa_model.specs.declared.ids.AttrId.{AttrId}
use Rattle.opa_tree.specs.declared.rules.Rule.{Rule}
use Rattle.opa_tree.specs.Laws.{AreDeclared}
use Rattle.opa_tree.specs.Mentions.{mentions}
use Rattle.opa_tree.specs.Ranks.{rank_at, rank_by, mentions_of, AreRanks}
use Rattle.opa_tree.specs.Rules.{concludes, rule_of}
use Rattle.opa_tree.specs.Trees.{highest}
use Rattle.opa_tree.proofs.Members.{none_in, contains_cases, highest_above, map_agrees}

-- an attribute with a rule is declared
found_at : (count : ℕ) (r : Rule) (rules : List Rule) (a : AttrId) (rule : Rule) → r.attr.0 < count → (b : Bool) → concludes a r ≡ b → cond b (Some r) (find (concludes a) rules) ≡ Some rule → (find (concludes a) rules ≡ Some rule → a.0 < count) → a.0 < count
found_at count r rules a rule lt true e is more = omega (arith, lt, eqb-true r.attr.0 a.0 e)
found_at count r rules a rule lt false e is more = more is

pub rule_declared : (count : ℕ) (rules : List Rule) (a : AttrId) (rule : Rule) → AreDeclared count rules → rule_of rules a ≡ Some rule → a.0 < count
rule_declared count [] a rule all is = cc
rule_declared count (r ∷ rules) a rule all is =
    found_at count r rules a rule (All-head (λ r. r.attr.0 < count) r rules all) (concludes a r) refl is (λ there. rule_declared count rules a rule (All-tail (λ r. r.attr.0 < count) r rules all) there)

-- where no two rules conclude one attribute, a rule is the rule of its attribute
found_first : (r s : Rule) (rules : List Rule) → (r ≡ s) ⊎ Contains rules s → AllPairs (λ x y. x.attr ≢ y.attr) (r ∷ rules) → (b : Bool) → concludes s.attr r ≡ b → (Contains rules s → find (concludes s.attr) rules ≡ Some s) → cond b (Some r) (find (concludes s.attr) rules) ≡ Some s
found_first r s rules (inl e) differ true is more = ap Some e
found_first r s rules (inl e) differ false is more = let own : concludes s.attr r ≡ true = ap (λ (x : Rule). concludes s.attr x) e ∙ eq-eqb s.attr.0 s.attr.0 refl in absurd (false≢true (sym is ∙ own))
found_first r s rules (inr there) differ true is more =
    let k = there.0 in
    let apart = differ 0 (suc k) s (omega arith) (omega (arith, there.1)) in
    let same : r.attr ≡ s.attr = ap (λ (n : ℕ). record { 0 = n }) (eqb-true r.attr.0 s.attr.0 is) in
    absurd (apart (same ∙ ap (λ (x : Rule). x.attr) (sym there.2)))
found_first r s rules (inr there) differ false is more = more there

pub rule_found : (rules : List Rule) (s : Rule) → AllPairs (λ x y. x.attr ≢ y.attr) rules → Contains rules s → rule_of rules s.attr ≡ Some s
rule_found [] s differ h = absurd (none_in s h)
rule_found (r ∷ rules) s differ h =
    found_first r s rules (contains_cases r s rules h) differ (concludes s.attr r) refl
    (λ there. rule_found rules s (λ i j d lt within. differ (suc i) (suc j) d (omega arith) (omega (arith, within))) there)

falls_at : (count : ℕ) (rules : List Rule) (ranks : List ℕ) → AreDeclared count rules → AreRanks count rules ranks → (a b : AttrId) (o : Option Rule) → rule_of rules a ≡ o → Contains (mentions_of o) b → rank_at ranks b < rank_at ranks a
falls_at count rules ranks all are a b None is h = absurd (none_in b h)
falls_at count rules ranks all are a b (Some rule) is h =
    let low : rank_at ranks b ≤ highest (map (rank_at ranks) (mentions rule.expr)) = highest_above (rank_at ranks) (mentions rule.expr) b h in
    let own : rank_at ranks a ≡ 1 + highest (map (rank_at ranks) (mentions rule.expr)) = are.by_rules a (rule_declared count rules a rule all is) ∙ ap (rank_by ranks) is in
    omega (arith, low, own)

-- a rule mentions attributes of lower rank
pub ranks_fall : (count : ℕ) (rules : List Rule) (ranks : List ℕ) → AreDeclared count rules → AreRanks count rules ranks → (a b : AttrId) → Contains (mentions_of (rule_of rules a)) b → rank_at ranks b < rank_at ranks a
ranks_fall count rules ranks all are a b h = falls_at count rules ranks all are a b (rule_of rules a) refl h

module _ (count : ℕ) (rules : List Rule) (ranks others : List ℕ) (all : AreDeclared count rules) (are : AreRanks count rules ranks) (also : AreRanks count rules others) where
  past : (a : AttrId) → count ≤ a.0 → rank_at ranks a ≡ rank_at others a
  past a le = get_or_past ranks a.0 0 (omega (arith, are.for_each, le)) ∙ sym (get_or_past others a.0 0 (omega (arith, also.for_each, le)))

  by_rule : (a : AttrId) → a.0 < count → (o : Option Rule) → rule_of rules a ≡ o → ((b : AttrId) → Contains (mentions_of o) b → rank_at ranks b ≡ rank_at others b) → rank_by ranks o ≡ rank_by others o
  by_rule a lt None is h = refl
  by_rule a lt (Some rule) is h = ap (λ ns. 1 + highest ns) (map_agrees (rank_at ranks) (rank_at others) (mentions rule.expr) h)

  declared_same : (n : ℕ) (a : AttrId) → a.0 < count → ((b : AttrId) → Contains (mentions_of (rule_of rules a)) b → rank_at ranks b ≡ rank_at others b) → rank_at ranks a ≡ rank_at others a
  declared_same n a lt h = are.by_rules a lt ∙ by_rule a lt (rule_of rules a) refl h ∙ sym (also.by_rules a lt)

  same_at : (n : ℕ) (a : AttrId) → (a.0 < count) ⊎ (count ≤ a.0) → ((b : AttrId) → Contains (mentions_of (rule_of rules a)) b → rank_at ranks b ≡ rank_at others b) → rank_at ranks a ≡ rank_at others a
  same_at n a (inl lt) h = declared_same n a lt h
  same_at n a (inr le) h = past a le

  pub same_below : (n : ℕ) (a : AttrId) → rank_at ranks a < n → rank_at ranks a ≡ rank_at others a
  same_below zero a lt = absurd (omega arith)
  same_below (suc n) a lt = same_at n a (cases_lt a.0 count) (λ b h. same_below n b (let falls : rank_at ranks b < rank_at ranks a = ranks_fall count rules ranks all are a b h in omega arith))

  same_ranks : (k : ℕ) → get_or ranks k 0 ≡ get_or others k 0
  same_ranks k = let a : AttrId = record { 0 = k } in same_below (suc (rank_at ranks a)) a (omega arith)

  pub ranks_unique : ranks ≡ others
  ranks_unique = same_number_lists ranks others (are.for_each ∙ sym also.for_each) (λ k within. same_ranks k)
