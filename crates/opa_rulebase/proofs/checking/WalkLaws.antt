-- A walk along first mentions without a rank, and which attributes it has visited.
use Rattle.std.proofs.Common.{◌≡◌, ◌≢◌, ◌∙◌, ◌+◌, ◌<◌, ◌⊎◌, inl, inr, ℕ, zero, suc, arith, Bool, true, false, cond, List, [], ◌∷◌, ◌++◌, length, refl, sym, ap, subst, Contains}
use Rattle.std.specs.Prelude.{Option, None, Some, slice_get, slice_set, ◌==◌}
use Rattle.std.proofs.lemmas.Bool.{false≢true}
use Rattle.std.proofs.lemmas.Option.{slice_get_within}
use Rattle.std.proofs.lemmas.List.Elements.{Contains-append_left, Contains-append_right, Contains-append_cases}
use Rattle.opa_model.specs.declared.ids.AttrId.{AttrId}
use Rattle.opa_tree.specs.declared.rules.Rule.{Rule}
use Rattle.opa_tree.specs.Mentions.{is_attr}
use Rattle.opa_tree.proofs.Members.{none_in, contains_head, contains_cases}
use Rattle.opa_rulebase.specs.Checking.Circles.{Circles, again, goes_on, IsFirstLeft, from_visit}
use Rattle.opa_rulebase.specs.Checking.Settled.{IsOpen, BeginsOpen}
use Rattle.opa_tree.proofs.Setting.{set_same, set_other, set_length, same_place, other_place}

pub record Walks (rules : List Rule) (ranks : List (Option ℕ)) (start : AttrId) (walk : List AttrId) (at : AttrId) (visited : List Bool) : Type 0 where
  pub is_open : IsOpen ranks at
  pub for_each : length visited ≡ length ranks
  pub marked : (b : AttrId) → slice_get visited b.0 ≡ Some true → Contains walk b
  pub marks : (b : AttrId) → Contains walk b → slice_get visited b.0 ≡ Some true
  pub leads : (circle : List AttrId) → Circles rules walk at circle → Circles rules [] start circle

-- how many attributes aren't visited
abbrev pub unvisited_count : List Bool → ℕ
unvisited_count [] = 0
unvisited_count (true ∷ visited) = unvisited_count visited
unvisited_count (false ∷ visited) = 1 + unvisited_count visited

pub fewer : (visited : List Bool) (p : ℕ) → slice_get visited p ≡ Some false → unvisited_count (slice_set visited p true) < unvisited_count visited
fewer [] p is = cc
fewer (true ∷ visited) zero is = cc
fewer (false ∷ visited) zero is = omega arith
fewer (true ∷ visited) (suc p) is = fewer visited p is
fewer (false ∷ visited) (suc p) is = let rest : unvisited_count (slice_set visited p true) < unvisited_count visited = fewer visited p is in omega (arith, rest)

pub one_id : (a b : AttrId) → (a.0 == b.0) ≡ true → a ≡ b
one_id a b is = let same : b.0 ≡ a.0 = same_place a.0 b.0 is in ap (λ (n : ℕ). let x : AttrId = record { 0 = n } in x) (sym same)

own_id : (n : ℕ) → (n == n) ≡ true
own_id n = grind arith

pub walks_start : (rules : List Rule) (ranks : List (Option ℕ)) (start : AttrId) (visited : List Bool) → IsOpen ranks start → length visited ≡ length ranks
    → ((n : ℕ) → n < length visited → slice_get visited n ≡ Some false) → Walks rules ranks start [] start visited
walks_start rules ranks start visited is same none = record {
  is_open = is;
  for_each = same;
  marked = λ b at. absurd (never b at);
  marks = λ b h. absurd (none_in b h);
  leads = λ circle c. c;
}
  where
    never : (b : AttrId) → slice_get visited b.0 ≡ Some true → ⊥
    never b at = let both : Some false ≡ Some true = sym (none b.0 (slice_get_within visited b.0 true at)) ∙ at in let bad : false ≡ true = cc in false≢true bad

module _ (rules : List Rule) (ranks : List (Option ℕ)) (start : AttrId) (walk : List AttrId) (at : AttrId) (visited : List Bool) (w : Walks rules ranks start walk at visited) where
  pub walks_on : (b : AttrId) → slice_get visited at.0 ≡ Some false → IsFirstLeft rules at b → IsOpen ranks b → Walks rules ranks start (walk ++ at ∷ []) b (slice_set visited at.0 true)
  walks_on b new next is = record {
    is_open = is;
    for_each = set_length visited at.0 true ∙ w.for_each;
    marked = λ x h. marked_by x h (at.0 == x.0) refl;
    marks = λ x h. marks_by x (Contains-append_cases walk (at ∷ []) x h);
    leads = λ circle c. w.leads circle (goes_on walk circle at b fresh next c);
  }
    where
      fresh : Contains walk at → ⊥
      fresh h = let both : Some false ≡ Some true = sym new ∙ w.marks at h in let bad : false ≡ true = cc in false≢true bad

      marked_by : (x : AttrId) → slice_get (slice_set visited at.0 true) x.0 ≡ Some true → (t : Bool) → (at.0 == x.0) ≡ t → Contains (walk ++ at ∷ []) x
      marked_by x h true e = Contains-append_right walk (at ∷ []) x (subst (λ (y : AttrId). Contains (at ∷ []) y) (one_id at x e) (contains_head at []))
      marked_by x h false e = Contains-append_left walk (at ∷ []) x (w.marked x (sym (set_other visited at.0 x.0 true (other_place at.0 x.0 e)) ∙ h))

      kept : (x : AttrId) → slice_get visited x.0 ≡ Some true → (t : Bool) → (at.0 == x.0) ≡ t → slice_get (slice_set visited at.0 true) x.0 ≡ Some true
      kept x h true e = let both : Some false ≡ Some true = sym new ∙ subst (λ (j : ℕ). slice_get visited j ≡ Some true) (same_place at.0 x.0 e) h in let bad : false ≡ true = cc in absurd (false≢true bad)
      kept x h false e = set_other visited at.0 x.0 true (other_place at.0 x.0 e) ∙ h

      own : (x : AttrId) → (at ≡ x) ⊎ Contains [] x → slice_get (slice_set visited at.0 true) x.0 ≡ Some true
      own x (inl same) = subst (λ (y : AttrId). slice_get (slice_set visited at.0 true) y.0 ≡ Some true) same (set_same visited at.0 true (slice_get_within visited at.0 false new))
      own x (inr h) = absurd (none_in x h)

      marks_by : (x : AttrId) → Contains walk x ⊎ Contains (at ∷ []) x → slice_get (slice_set visited at.0 true) x.0 ≡ Some true
      marks_by x (inl h) = kept x (w.marks x h) (at.0 == x.0) refl
      marks_by x (inr h) = own x (contains_cases at x [] h)

  pub comes_again : slice_get visited at.0 ≡ Some true → Circles rules [] start (from_visit at walk)
  comes_again is = w.leads (from_visit at walk) (again walk at (w.marked at is))

-- from the first visit of an attribute on, a walk begins with it
pub begins_with : (a : AttrId) (walk : List AttrId) → Contains walk a → (more : List AttrId) × (from_visit a walk ≡ a ∷ more)
begins_with a [] h = absurd (none_in a h)
begins_with a (b ∷ walk) h = here a b walk (begins_with a walk) (a.0 == b.0) refl (contains_cases b a walk h)
  where
    here : (a b : AttrId) (walk : List AttrId) → (Contains walk a → (more : List AttrId) × (from_visit a walk ≡ a ∷ more)) → (t : Bool) → (a.0 == b.0) ≡ t → (b ≡ a) ⊎ Contains walk a
        → (more : List AttrId) × (cond t (b ∷ walk) (from_visit a walk) ≡ a ∷ more)
    here a b walk rest true e c = (walk, ap (λ x. x ∷ walk) (sym (one_id a b e)))
    here a b walk rest false e (inl same) = absurd (false≢true (sym e ∙ ap (λ (x : AttrId). a.0 == x.0) same ∙ own_id a.0))
    here a b walk rest false e (inr h) = rest h

pub begins_open : (ranks : List (Option ℕ)) (a : AttrId) (walk : List AttrId) → Contains walk a → IsOpen ranks a → BeginsOpen ranks (from_visit a walk)
begins_open ranks a walk h is = let w = begins_with a walk h in record { first = a; more = w.0; begins = w.1; is_open = is }
