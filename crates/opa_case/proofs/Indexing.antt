-- What an index says as names come and go one by one.
use Rattle.std.specs.Prelude.{◌≡◌, ◌<◌, ◌+◌, ℕ, zero, suc, Bool, true, false, cond, ◌&&◌, ◌||◌, List, [], ◌∷◌, ◌++◌, length, take, slice_index_or, Result, Ok, Err, OnOk, OnErr, refl}
use Rattle.std.specs.List.{list_any}
use Rattle.std.specs.Result.{is_err}
use Rattle.std.proofs.Common.{ap, sym, ◌∙◌}
use Rattle.std.proofs.lemmas.List.{take_more}
use Rattle.std.proofs.lemmas.List.Folds.{list_any-append}
use Rattle.std.proofs.lemmas.Map.Views.{tells_apart}
use mathlib.Core.Bool.{true≢false}
use Rattle.opa_cells.specs.declared.instance.InstanceId.{InstanceId}
use Rattle.opa_cells.specs.Instances.{is_text}
use Rattle.opa_cells.proofs.Orders.{cell_exact}
use Rattle.opa_case.specs.Live.{Names}
use Rattle.opa_case.specs.Listed.{IndexEntries, is_indexed, is_list, SetsName, SetsNames, SameIndex}

never : {X : Type 0} (k : Bool) (b x : X) → x ≡ cond (k && false) b x
never true b x = refl
never false b x = refl

pub sets_none : (b : Bool) (es : IndexEntries) (number : ℕ) (inst : InstanceId) → SetsNames b es es number [] inst
sets_none b es number inst q n j = never (is_list number inst q j) b (is_indexed es q n j)

one_more : (k a t b x : Bool) → cond (k && t) b (cond (k && a) b x) ≡ cond (k && (a || (t || false))) b x
one_more true true true b x = refl
one_more true true false b x = refl
one_more true false true b x = refl
one_more true false false b x = refl
one_more false a t b x = refl

-- the name at a place, after those before it
any_more : (names : Names) (i : ℕ) (name : List ℕ) → i < length names → name ≡ slice_index_or names i name → (n : List ℕ) → list_any (is_text n) (take (i + 1) names) ≡ (list_any (is_text n) (take i names) || (is_text n name || false))
any_more names i name lt is n =
    ap (list_any (is_text n)) (take_more names i name lt ∙ ap (λ x. take i names ++ x ∷ []) (sym is)) ∙ list_any-append (is_text n) (take i names) (name ∷ [])

pub sets_more : (b : Bool) (es es' es'' : IndexEntries) (number : ℕ) (names : Names) (inst : InstanceId) (i : ℕ) (name : List ℕ) → i < length names → name ≡ slice_index_or names i name
    → SetsNames b es es' number (take i names) inst → SetsName b es' es'' number name inst → SetsNames b es es'' number (take (i + 1) names) inst
sets_more b es es' es'' number names inst i name lt is before step q n j =
    step q n j
    ∙ ap (cond (is_list number inst q j && is_text n name) b) (before q n j)
    ∙ one_more (is_list number inst q j) (list_any (is_text n) (take i names)) (is_text n name) b (is_indexed es q n j)
    ∙ ap (λ a. cond (is_list number inst q j && a) b (is_indexed es q n j)) (sym (any_more names i name lt is n))

any_first : {X : Type 0} (p : X → Bool) (i : ℕ) (xs : List X) → list_any p (take i xs) ≡ true → list_any p xs ≡ true
any_first p zero xs h = absurd (true≢false (sym h))
any_first p (suc i) [] h = h
any_first p (suc i) (x ∷ xs) h = or_step (p x) (list_any p (take i xs)) (list_any p xs) (any_first p i xs) h
  where
    or_step : (a b c : Bool) → (b ≡ true → c ≡ true) → (a || b) ≡ true → (a || c) ≡ true
    or_step true b c f e = refl
    or_step false b c f e = f e

-- What was added goes again. It wasn't there before.
pub sets_back : (es es' es'' : IndexEntries) (number : ℕ) (names : Names) (inst : InstanceId)
    → ((n : List ℕ) → list_any (is_text n) names ≡ true → is_indexed es number n inst ≡ false)
    → SetsNames true es es' number names inst → SetsNames false es' es'' number names inst → SameIndex es es''
sets_back es es' es'' number names inst new added dropped q n j =
    dropped q n j ∙ ap (cond (is_list number inst q j && list_any (is_text n) names) false) (added q n j)
    ∙ elim (is_list number inst q j) as (λ k. is_list number inst q j ≡ k → cond (k && list_any (is_text n) names) false (cond (k && list_any (is_text n) names) true (is_indexed es q n j)) ≡ is_indexed es q n j) [
      | true ↦ λ k. elim (list_any (is_text n) names) as (λ a. list_any (is_text n) names ≡ a → cond a false (cond a true (is_indexed es q n j)) ≡ is_indexed es q n j) [
        | true ↦ λ a. sym (ap (λ (x : ℕ × InstanceId). is_indexed es x.0 n x.1) (tells_apart cell_exact (q, j) (number, inst) k) ∙ new n a)
        | false ↦ λ _. refl
      ] refl
      | false ↦ λ _. refl
    ] refl

pub sets_first_back : (es es' es'' es''' : IndexEntries) (number : ℕ) (names : Names) (inst : InstanceId) (i : ℕ)
    → ((n : List ℕ) → list_any (is_text n) names ≡ true → is_indexed es number n inst ≡ false)
    → SetsNames true es es' number (take i names) inst → SameIndex es' es'' → SetsNames false es'' es''' number (take i names) inst → SameIndex es es'''
sets_first_back es es' es'' es''' number names inst i new added same dropped =
    sets_back es es'' es''' number (take i names) inst (λ n h. new n (any_first (is_text n) i names h)) (λ q n j. same q n j ∙ added q n j) dropped

pub by_ok : {X E P : Type 0} → (r : Result X E) → is_err r ≡ false → OnOk r P → P
by_ok (Ok x) e p = p
by_ok (Err x) e p = absurd (true≢false e)

pub by_err : {X E P : Type 0} → (r : Result X E) → is_err r ≡ true → OnErr r P → P
by_err (Ok x) e p = absurd (true≢false (sym e))
by_err (Err x) e p = p
