-- The attributes that have a rule, by their entities.
use Rattle.std.proofs.Common.{◌≡◌, ◌≢◌, ◌⊎◌, inl, inr, ℕ, ◌+◌, ◌<◌, ◌≤◌, Bool, true, false, cond, List, [], ◌∷◌, ◌++◌, length, get_or, take, Some, is_some, Contains, refl, sym, ◌∙◌, ap, subst}
use Rattle.std.specs.Prelude.{◌==◌, ◌||◌, find, flat_map, unwrap_or}
use Rattle.std.specs.BTreeMap as tree
use Rattle.std.specs.Ordering.{nat_cmp, is_eq}
use Rattle.std.proofs.lemmas.Bool.{eqb-true, eq-eqb}
use Rattle.std.proofs.lemmas.List.{append-nil, take_all, take_more}
use Rattle.std.proofs.lemmas.List.Elements.{Contains-append_left, Contains-append_right}
use Rattle.std.proofs.lemmas.List.Concat.{flat_map-append}
use Rattle.opa_model.specs.declared.ids.AttrId.{AttrId}
use Rattle.opa_case.specs.Shapes.{Shape}
use Rattle.opa_case.proofs.Taken.{one_number}
use Rattle.opa_mean.specs.Places.{owner_of}
use Rattle.opa_tree.specs.Rules.{concludes}
use Rattle.opa_tree.specs.declared.rules.Rule.{Rule}
use Rattle.opa_tree.proofs.Members.{contains_head, contains_cases, none_in}
use Rattle.opa_session.specs.Store.Drops.{is_named}
use Rattle.opa_session.specs.Store.Owners.{owned_in}
use Rattle.opa_session.specs.declared.store.owners.Owners.{Owners}

abbrev owned_attr : Shape → ℕ → Rule → List AttrId
owned_attr s e rule = cond (owner_of s rule.attr == e) (rule.attr ∷ []) []

-- an attribute of an entity that has a rule
pub in_ruled : (s : Shape) (e : ℕ) (a : AttrId) (rules : List Rule) → e ≡ owner_of s a → is_some (find (concludes a) rules) ≡ true → Contains (flat_map (owned_attr s e) rules) a
in_ruled s e a [] owner h = absurd (cc h)
in_ruled s e a (r ∷ rules) owner h = go (concludes a r) refl (λ k. in_ruled s e a rules owner k)
  where
    here : r.attr ≡ a → Contains (owned_attr s e r) a
    here same = subst (λ b. Contains (cond b (r.attr ∷ []) []) a) (sym (eq-eqb (owner_of s r.attr) e (ap (owner_of s) same ∙ sym owner))) (subst (λ (x : AttrId). Contains (r.attr ∷ []) x) same (contains_head r.attr []))

    go : (b : Bool) → concludes a r ≡ b → (is_some (find (concludes a) rules) ≡ true → Contains (flat_map (owned_attr s e) rules) a) → Contains (owned_attr s e r ++ flat_map (owned_attr s e) rules) a
    go true is rest = Contains-append_left (owned_attr s e r) (flat_map (owned_attr s e) rules) a (here (ap (λ (n : ℕ). let x : AttrId = record { 0 = n } in x) (eqb-true r.attr.0 a.0 is)))
    go false is rest = Contains-append_right (owned_attr s e r) (flat_map (owned_attr s e) rules) a (rest (sym (ap (λ b. is_some (cond b (Some r) (find (concludes a) rules))) is) ∙ h))

-- what is among them is named
pub named_in : (attrs : List AttrId) (a : AttrId) → Contains attrs a → is_named attrs a.0 ≡ true
named_in [] a h = absurd (none_in a h)
named_in (b ∷ attrs) a h = go (contains_cases b a attrs h) (named_in attrs a)
  where
    or_true : (t : Bool) → (t || true) ≡ true
    or_true true = refl
    or_true false = refl

    go : (b ≡ a) ⊎ Contains attrs a → (Contains attrs a → is_named attrs a.0 ≡ true) → ((a.0 == b.0) || is_named attrs a.0) ≡ true
    go (inl e) rest = ap (λ t. t || is_named attrs a.0) (eq-eqb a.0 b.0 (ap (λ (x : AttrId). x.0) (sym e)))
    go (inr there) rest = ap (λ t. (a.0 == b.0) || t) (rest there) ∙ or_true (a.0 == b.0)

-- an attribute is put behind those of its entity
pub put_behind : (n : ℕ) (a : AttrId) (old left new : Owners) (attrs more : List AttrId) → attrs ≡ owned_in old n → ((e : ℕ) → e ≢ n → owned_in left e ≡ owned_in old e) → more ≡ attrs ++ a ∷ []
    → ((e : ℕ) → tree.get nat_cmp new.each e ≡ cond (is_eq (nat_cmp n e)) (Some more) (tree.get nat_cmp left.each e)) → (e : ℕ) → owned_in new e ≡ owned_in old e ++ cond (n == e) (a ∷ []) []
put_behind n a old left new attrs more taken others pushed put e = ap (λ o. unwrap_or o []) (put e) ∙ go (n == e) refl
  where
    eq : is_eq (nat_cmp n e) ≡ (n == e)
    eq = one_number n e

    go : (b : Bool) → (n == e) ≡ b → unwrap_or (cond (is_eq (nat_cmp n e)) (Some more) (tree.get nat_cmp left.each e)) [] ≡ owned_in old e ++ cond (n == e) (a ∷ []) []
    go true q =
        ap (λ b. unwrap_or (cond b (Some more) (tree.get nat_cmp left.each e)) []) (eq ∙ q) ∙ pushed ∙ ap (λ xs. xs ++ a ∷ []) (taken ∙ ap (owned_in old) (eqb-true n e q))
        ∙ sym (ap (λ b. owned_in old e ++ cond b (a ∷ []) []) q)
    go false q =
        ap (λ b. unwrap_or (cond b (Some more) (tree.get nat_cmp left.each e)) []) (eq ∙ q) ∙ others e (λ h. cc (q, eq-eqb n e (sym h))) ∙ sym (append-nil (owned_in old e))
        ∙ sym (ap (λ b. owned_in old e ++ cond b (a ∷ []) []) q)

-- the attributes of an entity, as these rules tell them
abbrev pub all_of : Shape → ℕ → List Rule → List AttrId
all_of s e rules = flat_map (owned_attr s e) rules

pub all_owned : (s : Shape) (rules : List Rule) (k : ℕ) (e : ℕ) (found : List AttrId) → length rules ≤ k → found ≡ all_of s e (take k rules) → found ≡ all_of s e rules
all_owned s rules k e found end is = is ∙ ap (all_of s e) (take_all k rules end)

-- one rule more
pub next_owned : (s : Shape) (rules : List Rule) (k : ℕ) (x : Rule) (e : ℕ) (old new : List AttrId) → k < length rules → x ≡ get_or rules k x → old ≡ flat_map (owned_attr s e) (take k rules) → new ≡ old ++ owned_attr s e x → new ≡ flat_map (owned_attr s e) (take (k + 1) rules)
next_owned s rules k x e old new lt is before step =
    step ∙ ap (λ xs. xs ++ owned_attr s e x) before ∙ ap (λ xs. flat_map (owned_attr s e) (take k rules) ++ xs) (sym (append-nil (owned_attr s e x)))
    ∙ sym (flat_map-append (owned_attr s e) (take k rules) (x ∷ [])) ∙ ap (λ y. flat_map (owned_attr s e) (take k rules ++ y ∷ [])) is ∙ ap (flat_map (owned_attr s e)) (sym (take_more rules k x lt))
