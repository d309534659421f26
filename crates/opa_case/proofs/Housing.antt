-- Homes that are set and taken away, and what is live by them.
use Rattle.std.specs.Prelude.{◌≡◌, ℕ, zero, suc, Bool, true, false, cond, ◌||◌, List, [], ◌∷◌, ◌++◌, take, Option, None, Some, is_some, refl}
use Rattle.std.specs.List.{list_any}
use Rattle.std.specs.FinMap.{FinMap, insert, remove, empty, get-empty, get-insert, get-remove}
use Rattle.std.proofs.Common.{ap, sym, ◌∙◌}
use Rattle.std.proofs.lemmas.List.Folds.{list_any-append}
use Rattle.std.proofs.lemmas.Bool.{or_parts}
use mathlib.Core.Bool.{true≢false}
use Rattle.opa_cells.specs.declared.instance.InstanceId.{InstanceId}
use Rattle.opa_cells.specs.Instances.{is_same, global}
use Rattle.opa_cells.specs.Keys.{cell_cmp}
use Rattle.opa_cells.proofs.Orders.{cell_total}
use Rattle.opa_case.specs.Homes.{home_of, AreHomes}
use Rattle.opa_case.specs.Live.{Population, is_live}
use Rattle.opa_case.specs.Turns.{is_among}
use Rattle.opa_case.proofs.Commit.{key_test}
use Rattle.opa_case.proofs.Lively.{some_in}

pub live_by_homes : (homes : FinMap cell_cmp InstanceId) (live : Population) → AreHomes homes live → (i : InstanceId) → (is_same i global || is_some (home_of homes i)) ≡ is_live live i
live_by_homes homes live are i = ap (λ b. is_same i global || b) (ap is_some (are i) ∙ some_in i live)

pub no_homes : (homes : FinMap cell_cmp InstanceId) → homes ≡ empty → AreHomes homes []
no_homes homes none i = ap (λ (h : FinMap cell_cmp InstanceId). home_of h i) none ∙ get-empty cell_cmp (0, i)

home_set : (homes : FinMap cell_cmp InstanceId) (x d i : InstanceId) → home_of (insert homes (0, x) d) i ≡ cond (is_same i x) (Some d) (home_of homes i)
home_set homes x d i = get-insert cell_total homes (0, x) d (0, i) ∙ ap (λ b. cond b (Some d) (home_of homes i)) (sym (key_test 0 0 i x refl))

home_taken : (homes : FinMap cell_cmp InstanceId) (x i : InstanceId) → home_of (remove homes (0, x)) i ≡ cond (is_same i x) None (home_of homes i)
home_taken homes x i = get-remove cell_total homes (0, x) (0, i) ∙ ap (λ b. cond b None (home_of homes i)) (sym (key_test 0 0 i x refl))

twice : {X : Type 0} (a b : Bool) (w o : X) → cond b w (cond a w o) ≡ cond (a || b) w o
twice true true w o = refl
twice true false w o = refl
twice false true w o = refl
twice false false w o = refl

among_more : (xs : Population) (x : InstanceId × InstanceId) (i : InstanceId) → is_among (xs ++ x ∷ []) i ≡ (is_among xs i || is_same i x.0)
among_more xs x i = list_any-append (λ p. is_same i p.0) xs (x ∷ []) ∙ ap (λ b. is_among xs i || b) (last (is_same i x.0))
  where
    last : (b : Bool) → (b || false) ≡ b
    last true = refl
    last false = refl

module _ (start : Option InstanceId) (xs : Population) (x : InstanceId × InstanceId) (i : InstanceId) where
  pub one_set : (homes : FinMap cell_cmp InstanceId) (d : InstanceId) → home_of homes i ≡ cond (is_among xs i) (Some d) start → home_of (insert homes (0, x.0) d) i ≡ cond (is_among (xs ++ x ∷ []) i) (Some d) start
  one_set homes d h =
      home_set homes x.0 d i ∙ ap (cond (is_same i x.0) (Some d)) h ∙ twice (is_among xs i) (is_same i x.0) (Some d) start
      ∙ ap (λ b. cond b (Some d) start) (sym (among_more xs x i))

  pub one_taken : (homes : FinMap cell_cmp InstanceId) → home_of homes i ≡ cond (is_among xs i) None start → home_of (remove homes (0, x.0)) i ≡ cond (is_among (xs ++ x ∷ []) i) None start
  one_taken homes h =
      home_taken homes x.0 i ∙ ap (cond (is_same i x.0) None) h ∙ twice (is_among xs i) (is_same i x.0) None start
      ∙ ap (λ b. cond b None start) (sym (among_more xs x i))

-- what isn't among all isn't among the first
pub not_among : {A : Type 0} (p : A → Bool) (k : ℕ) (xs : List A) → list_any p xs ≡ false → list_any p (take k xs) ≡ false
not_among p zero xs h = refl
not_among p (suc k) [] h = refl
not_among p (suc k) (x ∷ xs) h = let b = or_parts (p x) (list_any p xs) h in ap (λ t. t || list_any p (take k xs)) b.0 ∙ not_among p k xs b.1

pub untouched : {X : Type 0} (b : Bool) (w o o' : X) → o' ≡ cond b w o → b ≡ false → o' ≡ o
untouched true w o o' h f = absurd (true≢false f)
untouched false w o o' h f = h

-- what was put in and is taken out again was never there
pub taken_back : (b : Bool) (old after end : Option InstanceId) → end ≡ cond b None after → (b ≡ true → old ≡ None) → (b ≡ false → after ≡ old) → end ≡ old
taken_back true old after end is none same = is ∙ sym (none refl)
taken_back false old after end is none same = is ∙ same refl

-- homes that others than these keep
abbrev pub Leaves : Population → FinMap cell_cmp InstanceId → FinMap cell_cmp InstanceId → Type 0
Leaves come old new = (i : InstanceId) → is_among come i ≡ false → home_of new i ≡ home_of old i

pub first_set : (come : Population) (k : ℕ) (old new : FinMap cell_cmp InstanceId) (d : InstanceId) → ((i : InstanceId) → home_of new i ≡ cond (is_among (take k come) i) (Some d) (home_of old i)) → Leaves come old new
first_set come k old new d h i none = untouched (is_among (take k come) i) _ _ _ (h i) (not_among (λ p. is_same i p.0) k come none)
