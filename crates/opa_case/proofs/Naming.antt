-- Names that are gone through from the last to the first, over a set of those behind.
use Rattle.std.specs.Prelude.{◌≡◌, ◌<◌, ◌+◌, ◌-◌, ℕ, zero, suc, Bool, true, false, cond, ◌&&◌, ◌||◌, not, List, [], ◌∷◌, ◌++◌, Option, None, Some, is_some, length, drop, take, slice_index_or, slice_get, unwrap_or, refl}
use Rattle.std.specs.List.{list_any}
use Rattle.std.specs.Ordering.{nat_cmp, is_eq}
use Rattle.std.specs.Cmp.{eq_by_cmp_equiv}
use Rattle.std.specs.Cmp.Lexicographic.{slice_cmp, nat_list_cmp_total}
use Rattle.std.proofs.Common.{arith, ap, sym, ◌∙◌}
use Rattle.std.proofs.lemmas.List.{drop_more, append-nil, take_more}
use Rattle.std.proofs.lemmas.List.Elements.{filter_more}
use Rattle.std.proofs.lemmas.List.Folds.{list_any_more, list_any-append}
use Rattle.std.proofs.lemmas.Bool.{and_from, and_parts, and_right, and_left, or_parts, or_from, or_left, or_right}
use Rattle.std.proofs.lemmas.Option.{same_Some}
use Rattle.opa_case.proofs.Stands.{text_itself}
use Rattle.opa_cells.specs.Instances.{is_text}
use Rattle.opa_case.specs.Live.{Names}
use Rattle.opa_case.specs.Cases.{are_names, is_empty}
use Rattle.opa_case.specs.Turns.{names_without}

pub added : {X : Type 0} (name q : List ℕ) (x : X) (o : Option X) → is_some (cond (is_eq (slice_cmp nat_cmp name q)) (Some x) o) ≡ (is_text q name || is_some o)
added name q x o = ap (λ b. is_some (cond b (Some x) o)) ((eq_by_cmp_equiv nat_list_cmp_total).symm name q) ∙ either (is_text q name) o
  where
    either : (b : Bool) (p : Option _) → is_some (cond b (Some x) p) ≡ (b || is_some p)
    either true p = refl
    either false p = refl

-- the names from a place on
pub from_place : (names : Names) (at : ℕ) (x : List ℕ) → 0 < at → at - 1 < length names → x ≡ slice_index_or names (at - 1) x → drop (at - 1) names ≡ x ∷ drop at names
from_place names at x pos lt is =
    let next : at - 1 + 1 ≡ at = omega (arith, pos) in
    drop_more names (at - 1) x lt ∙ ap (λ y. y ∷ drop (at - 1 + 1) names) (sym is) ∙ ap (λ n. x ∷ drop n names) next

-- the first of these names is bad
pub fails : (k : ℕ) (names : Names) → are_names (drop k names) ≡ false → are_names names ≡ false
fails zero names h = h
fails (suc k) [] h = h
fails (suc k) (n ∷ ns) h = and_right (not (is_empty n) && not (list_any (is_text n) ns)) (are_names ns) (fails k ns h)

pub bad_at : (names : Names) (at : ℕ) (x : List ℕ) (has : Bool) → drop (at - 1) names ≡ x ∷ drop at names → has ≡ list_any (is_text x) (drop at names) → (not (is_empty x) && not has) ≡ false → false ≡ are_names names
bad_at names at x has split is test =
    sym (fails (at - 1) names (ap are_names split ∙ and_left _ (are_names (drop at names)) (ap (λ b. not (is_empty x) && not b) (sym is) ∙ test)))

pub good_at : (names : Names) (at : ℕ) (x : List ℕ) (has : Bool) → drop (at - 1) names ≡ x ∷ drop at names → has ≡ list_any (is_text x) (drop at names) → (not (is_empty x) && not has) ≡ true → are_names (drop at names) ≡ true → are_names (drop (at - 1) names) ≡ true
good_at names at x has split is test rest = ap are_names split ∙ and_from _ (are_names (drop at names)) (ap (λ b. not (is_empty x) && not b) (sym is) ∙ test) rest

-- a name more is looked for
pub found_more : (names : Names) (i : ℕ) (x q : List ℕ) (now before : Bool) → i < length names → x ≡ slice_index_or names i x → now ≡ (is_text q x || before) → before ≡ list_any (is_text q) (take i names)
    → now ≡ list_any (is_text q) (take (i + 1) names)
found_more names i x q now before lt is step so = step ∙ swap (is_text q x) before ∙ (λ k. so k || is_text q (is k)) ∙ sym (list_any_more (is_text q) names i x lt)
  where
    swap : (a b : Bool) → (a || b) ≡ (b || a)
    swap true true = refl
    swap true false = refl
    swap false true = refl
    swap false false = refl

-- a name more is kept, unless the others have it
pub without_more : (names others : Names) (i : ℕ) (x : List ℕ) (left next : Names) (found : Bool) → i < length names → x ≡ slice_index_or names i x → next ≡ cond found left (left ++ x ∷ []) → found ≡ list_any (is_text x) others
    → left ≡ names_without (take i names) others → next ≡ names_without (take (i + 1) names) others
without_more names others i x left next found lt is step has so =
    step ∙ either found left ∙ (λ k. so k ++ cond (not (has k)) (x ∷ []) [])
    ∙ (λ k. names_without (take i names) others ++ cond (not (list_any (is_text (is k)) others)) (is k ∷ []) [])
    ∙ sym (filter_more (λ n. not (list_any (is_text n) others)) names i x lt)
  where
    either : (b : Bool) (l : Names) → cond b l (l ++ x ∷ []) ≡ l ++ cond (not b) (x ∷ []) []
    either true l = sym (append-nil l)
    either false l = refl

-- the first name is good, or bad
pub first_tells : (names rest behind : Names) (name : List ℕ) (is good : Bool) → are_names names ≡ are_names rest → rest ≡ name ∷ behind → is ≡ (not (is_empty name) && not (list_any (is_text name) behind)) → is ≡ good → are_names names ≡ (good && are_names behind)
first_tells names rest behind name is good so split says test = so ∙ ap are_names split ∙ ap (λ t. t && are_names behind) (sym says ∙ test)

-- both lists begin with a name more
pub shared_more : (names others : Names) (i : ℕ) (x : List ℕ) → i < length names → x ≡ slice_index_or names i x → slice_get others i ≡ Some x → take i names ≡ take i others → take (i + 1) names ≡ take (i + 1) others
shared_more names others i x lt is stands same = let on : suc i ≡ i + 1 = omega arith in take_more names i x lt ∙ (λ k. same k ++ sym is k ∷ []) ∙ next others i stands ∙ ap (λ n. take n others) on
  where
    next : (ns : Names) (k : ℕ) → slice_get ns k ≡ Some x → take k ns ++ x ∷ [] ≡ take (suc k) ns
    next [] k h = absurd (cc h)
    next (n ∷ ns) zero h = ap (λ m. m ∷ []) (same_Some x n (sym h))
    next (n ∷ ns) (suc k) h = ap (λ ms. n ∷ ms) (next ns k h)

abbrev pub first_of : Names → List ℕ
first_of [] = []
first_of (n ∷ ns) = n

abbrev pub rest_of : Names → Names
rest_of [] = []
rest_of (n ∷ ns) = ns

-- what both lists begin with may be passed over
pub shared_passed : (names others : Names) (k : ℕ) → take k names ≡ take k others → names_without (drop k names) others ≡ names_without names others
shared_passed names others k same = pass k names others others same (λ q h. h)
  where
    pass : (k : ℕ) (ns os others : Names) → take k ns ≡ take k os → ((q : List ℕ) → list_any (is_text q) os ≡ true → list_any (is_text q) others ≡ true) → names_without (drop k ns) others ≡ names_without ns others
    pass zero ns os others same over = refl
    pass (suc k) [] os others same over = refl
    pass (suc k) (n ∷ ns) [] others same over = absurd (cc same)
    pass (suc k) (n ∷ ns) (o ∷ os) others same over =
        let first : n ≡ o = ap first_of same in
        let has = over n (or_left (is_text n o) _ (ap (is_text n) (sym first) ∙ text_itself n)) in
        pass k ns os others (ap rest_of same) (λ q h. over q (or_right (is_text q o) _ h))
        ∙ ap (λ b. cond (not b) (n ∷ names_without ns others) (names_without ns others)) (sym has)

not_true : (x : Bool) → not x ≡ true → x ≡ false
not_true true h = absurd (cc h)
not_true false h = refl

-- the first of names that none is empty or twice are so
pub names_before : (k : ℕ) (names : Names) → are_names names ≡ true → are_names (take k names) ≡ true
names_before zero names h = refl
names_before (suc k) [] h = h
names_before (suc k) (n ∷ ns) h =
    let parts = and_parts (not (is_empty n) && not (list_any (is_text n) ns)) (are_names ns) h in
    let fresh = and_parts (not (is_empty n)) (not (list_any (is_text n) ns)) parts.0 in
    and_from _ (are_names (take k ns)) (and_from _ (not (list_any (is_text n) (take k ns))) fresh.0 (ap not (fewer n k ns (not_true _ fresh.1)))) (names_before k ns parts.1)
  where
    fewer : (n : List ℕ) (k : ℕ) (ns : Names) → list_any (is_text n) ns ≡ false → list_any (is_text n) (take k ns) ≡ false
    fewer n zero ns h = refl
    fewer n (suc k) [] h = h
    fewer n (suc k) (m ∷ ns) h = let parts = or_parts (is_text n m) (list_any (is_text n) ns) h in or_from _ _ parts.0 (fewer n k ns parts.1)

-- names behind others
pub joined_names : (front rest : Names) → are_names front ≡ true → (are_names rest && not (list_any (λ n. list_any (is_text n) rest) front)) ≡ are_names (front ++ rest)
joined_names [] rest h = and_true (are_names rest)
  where
    and_true : (b : Bool) → (b && true) ≡ b
    and_true true = refl
    and_true false = refl
joined_names (n ∷ ns) rest h =
    let parts = and_parts (not (is_empty n) && not (list_any (is_text n) ns)) (are_names ns) h in
    let fresh = and_parts (not (is_empty n)) (not (list_any (is_text n) ns)) parts.0 in
    turn (are_names rest) (list_any (is_text n) rest) (list_any (λ m. list_any (is_text m) rest) ns)
    ∙ (λ k. sym fresh.0 k && not (sym (not_true _ fresh.1) k || list_any (is_text n) rest) && joined_names ns rest parts.1 k)
    ∙ ap (λ b. not (is_empty n) && not b && are_names (ns ++ rest)) (sym (list_any-append (is_text n) ns rest))
  where
    turn : (r a b : Bool) → (r && not (a || b)) ≡ (true && not (false || a) && (r && not b))
    turn true true b = refl
    turn false true b = refl
    turn r false b = refl

-- the names of a list, where it is known
pub names_known : (o : Option Names) → ((names : Names) → o ≡ Some names → are_names names ≡ true) → are_names (unwrap_or o []) ≡ true
names_known None h = refl
names_known (Some names) h = h names refl
