-- What goes takes its lists and answers along: what is left then is what a settled case keeps.
use Rattle.std.specs.Prelude.{◌≡◌, ◌<◌, ◌==◌, ℕ, nat_lt, Bool, true, false, cond, not, ◌||◌, ◌&&◌, List, [], ◌∷◌, Option, None, Some, refl}
use Rattle.std.specs.List.{list_all, list_any}
use Rattle.std.specs.Option.{option_map_or}
use Rattle.std.specs.Ordering.{nat_cmp}
use Rattle.std.specs.Cmp.Lexicographic.{slice_cmp}
use Rattle.std.specs.FinMap.{FinMap, get, insert, remove, retain_keys, same_map}
use Rattle.std.proofs.Common.{ap, sym, subst, ◌∙◌, ◌⊎◌, inl, inr, eq-eqb}
use Rattle.std.proofs.lemmas.Bool.{or_parts, and_parts, lt-ltb, not-false}
use Rattle.std.proofs.lemmas.Map.Views.{exact_unsigned_eq}
use Rattle.opa_io.proofs.Bools.{same_truth, or_false, and_true}
use Rattle.opa_io.proofs.Lists.{any_both}
use Rattle.opa_model.specs.declared.ids.AttrId.{AttrId}
use Rattle.opa_model.specs.declared.ids.RelId.{RelId}
use Rattle.opa_cells.specs.declared.instance.InstanceId.{InstanceId}
use Rattle.opa_cells.specs.Instances.{is_same, is_text, named}
use Rattle.opa_cells.specs.Keys.{cell_cmp}
use Rattle.opa_cells.proofs.Orders.{cell_exact, cell_total, get_kept, same_is}
use Rattle.opa_cells.proofs.Rowed.{parts}
use Rattle.opa_case.specs.Shapes.{Shape, IsShape}
use Rattle.opa_case.specs.Live.{Names, Population, live_of, is_live}
use Rattle.opa_case.specs.Cases.{CaseView, Answer, stored}
use Rattle.opa_case.specs.Steps.{rel, stays, list_fault, with_list, without_list}
use Rattle.opa_case.specs.Fits.{Known, Answered, Fits}
use Rattle.opa_case.specs.Turns.{Turns, is_among}
use Rattle.opa_case.specs.Lost.{stands_at, goes_with, answers_of}
use Rattle.opa_case.proofs.Stands.{text_is, text_itself}
use Rattle.opa_case.proofs.Kept.{inserted, removed, tests_passed}
use Rattle.opa_case.proofs.Referring.{names_live}
use Rattle.opa_case.proofs.Taken.{one_number}

-- what isn't taken stays
stays_is : {X : Type 0} (o : Option X) (taken keeps : Bool) → ((x : X) → o ≡ Some x → not taken ≡ keeps) → cond taken None o ≡ cond keeps o None
stays_is {X} None taken keeps h = elim taken as (λ b. ◌≡◌ {A = Option X} (cond b None None) (cond keeps None None)) [
  | true ↦ elim keeps as (λ b. ◌≡◌ {A = Option X} None (cond b None None)) [ true ↦ refl | false ↦ refl ]
  | false ↦ elim keeps as (λ b. ◌≡◌ {A = Option X} None (cond b None None)) [ true ↦ refl | false ↦ refl ]
]
stays_is {X} (Some x) taken keeps h = elim taken as (λ b. not b ≡ keeps → ◌≡◌ {A = Option X} (cond b None (Some x)) (cond keeps (Some x) None)) [
  | true ↦ λ e. ap (λ b. cond b (Some x) None) e
  | false ↦ λ e. ap (λ b. cond b (Some x) None) e
] (h x refl)

any_same : {A : Type 0} (p q : A → Bool) → ((x : A) → p x ≡ q x) → (xs : List A) → list_any p xs ≡ list_any q xs
any_same p q h xs = λ k. list_any (λ x. h x k) xs

any_never : {A : Type 0} (ys : List A) → false ≡ list_any (λ y. false) ys
any_never [] = refl
any_never (y ∷ ys) = any_never ys

turned : (a b c d : Bool) → ((a || b) || (c || d)) ≡ ((a || c) || (b || d))
turned true b c d = refl
turned false true true d = refl
turned false true false d = refl
turned false false true d = refl
turned false false false d = refl

any_either : {A : Type 0} (p q : A → Bool) (xs : List A) → list_any (λ x. p x || q x) xs ≡ (list_any p xs || list_any q xs)
any_either p q [] = refl
any_either p q (x ∷ xs) = ap (λ b. (p x || q x) || b) (any_either p q xs) ∙ turned (p x) (q x) (list_any p xs) (list_any q xs)

-- some x and some y
any_swapped : {A B : Type 0} (p : A → B → Bool) (xs : List A) (ys : List B) → list_any (λ x. list_any (p x) ys) xs ≡ list_any (λ y. list_any (λ x. p x y) xs) ys
any_swapped p [] ys = any_never ys
any_swapped p (x ∷ xs) ys = ap (λ b. list_any (p x) ys || b) (any_swapped p xs ys) ∙ sym (any_either (p x) (λ y. list_any (λ z. p z y) xs) ys)

not_either : (a b : Bool) → not (a || b) ≡ (not a && not b)
not_either true b = refl
not_either false b = refl

-- none goes: all stay
none_go : {A : Type 0} (p : A → Bool) (xs : List A) → not (list_any p xs) ≡ list_all (λ x. not (p x)) xs
none_go p [] = refl
none_go p (x ∷ xs) = not_either (p x) (list_any p xs) ∙ ap (λ b. not (p x) && b) (none_go p xs)

all_where : {A : Type 0} (live p q : A → Bool) → ((x : A) → live x ≡ true → p x ≡ q x) → (xs : List A) → list_all live xs ≡ true → list_all p xs ≡ list_all q xs
all_where live p q h [] all = refl
all_where live p q h (x ∷ xs) all = let a = and_parts (live x) (list_all live xs) all in ap (λ b. b && list_all p xs) (h x a.0) ∙ ap (λ b. q x && b) (all_where live p q h xs a.1)

text_turned : (n m : List ℕ) → is_text n m ≡ is_text m n
text_turned n m = same_truth (is_text n m) (is_text m n)
    (λ h. subst (λ k. is_text k n ≡ true) (text_is n m h) (text_itself n))
    (λ h. subst (λ k. is_text k m ≡ true) (text_is m n h) (text_itself m))

-- the instance of an entity with a name
named_is : (e : ℕ) (n : List ℕ) (g : InstanceId) → is_same (named e n) g ≡ ((e == g.entity.0) && is_text g.name n)
named_is e n g = parts (nat_cmp e g.entity.0) (slice_cmp nat_cmp n g.name) ∙ ap (λ b. b && is_text n g.name) (one_number e g.entity.0) ∙ ap (λ b. (e == g.entity.0) && b) (text_turned n g.name)

-- an instance of an entity is one with another of that entity
of_entity : (e : ℕ) (j g : InstanceId) → j.entity.0 ≡ e → ((e == g.entity.0) && is_same j g) ≡ is_same j g
of_entity e j g at = elim (is_same j g) as (λ b. is_same j g ≡ b → ((e == g.entity.0) && b) ≡ b) [
  | true ↦ λ h. ap (λ b. b && true) (eq-eqb e g.entity.0 (sym at ∙ ap (λ (x : InstanceId). x.entity.0) (same_is j g h)))
  | false ↦ λ _. nothing (e == g.entity.0)
] refl
  where
    nothing : (b : Bool) → (b && false) ≡ false
    nothing true = refl
    nothing false = refl

module _ (s : Shape) (c : CaseView) (m : FinMap cell_cmp Names) (next gone come : Population) (i : InstanceId) (turns : Turns c.live next gone come i) where
  -- where all that a list names was live
  names_stay : (e : ℕ) (ns : Names) → list_all (λ n. is_live c.live (named e n)) ns ≡ true → not (list_any (λ g. (e == g.0.entity.0) && list_any (is_text g.0.name) ns) gone) ≡ list_all (λ n. is_live next (named e n)) ns
  names_stay e ns alive =
      ap not (any_same (λ (g : InstanceId × InstanceId). (e == g.0.entity.0) && list_any (is_text g.0.name) ns) (λ g. list_any (λ n. is_same (named e n) g.0) ns)
      (λ g. sym (any_both (e == g.0.entity.0) (is_text g.0.name) ns) ∙ any_same (λ n. (e == g.0.entity.0) && is_text g.0.name n) (λ n. is_same (named e n) g.0) (λ n. sym (named_is e n g.0)) ns) gone
      ∙ any_swapped (λ (g : InstanceId × InstanceId) (n : List ℕ). is_same (named e n) g.0) gone ns)
      ∙ none_go (λ n. is_among gone (named e n)) ns
      ∙ sym (all_where (λ n. is_live c.live (named e n)) (λ n. is_live next (named e n)) (λ n. not (is_among gone (named e n))) (λ n h. turns.stays (named e n) h) ns alive)

  -- what goes takes the lists that stand at it
  own_stay : (e : ℕ) (j : InstanceId) → j.entity.0 ≡ e → is_live c.live j ≡ true → not (list_any (λ g. (e == g.0.entity.0) && is_same j g.0) gone) ≡ is_live next j
  own_stay e j at alive = ap not (any_same (λ (g : InstanceId × InstanceId). (e == g.0.entity.0) && is_same j g.0) (λ g. is_same j g.0) (λ g. of_entity e j g.0 at) gone) ∙ sym (turns.stays j alive)

  list_stays : (n : ℕ) (j : InstanceId) (ns : Names) → get m (n, j) ≡ Some ns → n < s.relations → j.entity.0 ≡ s.source (rel n) → is_live c.live j ≡ true → (s.contains (rel n) ≡ false → list_all (λ k. is_live c.live (named (s.target (rel n)) k)) ns ≡ true)
      → not (nat_lt n s.relations && list_any (λ g. goes_with s g.0 n j (get m (n, j))) gone) ≡ stays s next m (n, j)
  list_stays n j ns at there own alive named_live =
      ap (λ b. not (b && list_any (λ g. goes_with s g.0 n j (get m (n, j))) gone)) (lt-ltb n s.relations there)
      ∙ ap (λ o. not (list_any (λ g. goes_with s g.0 n j o) gone)) at
      ∙ elim (s.contains (rel n)) as (λ b. (b ≡ false → list_all (λ k. is_live c.live (named (s.target (rel n)) k)) ns ≡ true)
      → not (list_any (λ g. stands_at s g.0 n j || ((not b && (s.target (rel n) == g.0.entity.0)) && list_any (is_text g.0.name) ns)) gone)
      ≡ (is_live next j && (b || list_all (λ k. is_live next (named (s.target (rel n)) k)) ns))) [
        | true ↦ λ _.
            ap not (any_same (λ (g : InstanceId × InstanceId). stands_at s g.0 n j || false) (λ g. stands_at s g.0 n j) (λ g. or_false (stands_at s g.0 n j)) gone)
            ∙ own_stay (s.source (rel n)) j own alive ∙ sym (and_true (is_live next j))
        | false ↦ λ h.
            ap not (any_either (λ (g : InstanceId × InstanceId). stands_at s g.0 n j) (λ g. (s.target (rel n) == g.0.entity.0) && list_any (is_text g.0.name) ns) gone)
            ∙ not_either (list_any (λ g. stands_at s g.0 n j) gone) (list_any (λ g. (s.target (rel n) == g.0.entity.0) && list_any (is_text g.0.name) ns) gone)
            ∙ ap (λ b. b && not (list_any (λ g. (s.target (rel n) == g.0.entity.0) && list_any (is_text g.0.name) ns) gone)) (own_stay (s.source (rel n)) j own alive)
            ∙ ap (λ b. is_live next j && b) (names_stay (s.target (rel n)) ns (h refl))
      ] named_live
      ∙ ap (λ o. is_live next j && (s.contains (rel n) || option_map_or (list_all (λ k. is_live next (named (s.target (rel n)) k))) o true)) (sym at)

  pub lists_settled :
      ((q : RelId) (j : InstanceId) (ns : Names) → Known m q j ns → q.0 < s.relations)
      → ((q : RelId) (j : InstanceId) (ns : Names) → Known m q j ns → j.entity.0 ≡ s.source q)
      → ((q : RelId) (j : InstanceId) (ns : Names) → Known m q j ns → is_live c.live j ≡ true)
      → ((q : RelId) (j : InstanceId) (ns : Names) → Known m q j ns → s.contains q ≡ false → list_all (λ n. is_live c.live (named (s.target q) n)) ns ≡ true)
      → (lists : FinMap cell_cmp Names)
      → ((q : ℕ) (j : InstanceId) → get lists (q, j) ≡ cond (nat_lt q s.relations && list_any (λ g. goes_with s g.0 q j (get m (q, j))) gone) None (get m (q, j)))
      → lists ≡ retain_keys m (stays s next m)
  lists_settled declared own alive named_live lists left = same_map cell_total cell_exact _ _ (λ q.
      left q.0 q.1
      ∙ stays_is (get m q) (nat_lt q.0 s.relations && list_any (λ g. goes_with s g.0 q.0 q.1 (get m q)) gone) (stays s next m q)
      (λ ns at. list_stays q.0 q.1 ns at (declared (rel q.0) q.1 ns at) (own (rel q.0) q.1 ns at) (alive (rel q.0) q.1 ns at) (named_live (rel q.0) q.1 ns at))
      ∙ sym (get_kept cell_exact m (stays s next m) q))

  answer_stays : (a : ℕ) (j : InstanceId) → a < s.attributes → j.entity.0 ≡ (s.attribute (record { 0 = a })).entity.0 → is_live c.live j ≡ true → not (nat_lt a s.attributes && list_any (λ g. answers_of s g.0 a j) gone) ≡ is_live next j
  answer_stays a j there own alive =
      ap (λ b. not (b && list_any (λ g. answers_of s g.0 a j) gone)) (lt-ltb a s.attributes there)
      ∙ own_stay (s.attribute (record { 0 = a })).entity.0 j own alive

  pub answers_settled :
      ((a : AttrId) (j : InstanceId) (line : Answer) → Answered c.answers a j line → a.0 < s.attributes)
      → ((a : AttrId) (j : InstanceId) (line : Answer) → Answered c.answers a j line → j.entity.0 ≡ (s.attribute a).entity.0)
      → ((a : AttrId) (j : InstanceId) (line : Answer) → Answered c.answers a j line → is_live c.live j ≡ true)
      → (answers : FinMap cell_cmp Answer)
      → ((a : ℕ) (j : InstanceId) → get answers (a, j) ≡ cond (nat_lt a s.attributes && list_any (λ g. answers_of s g.0 a j) gone) None (get c.answers (a, j)))
      → answers ≡ retain_keys c.answers (λ k. is_live next k.1)
  answers_settled declared own alive answers left = same_map cell_total cell_exact _ _ (λ q.
      left q.0 q.1
      ∙ stays_is (get c.answers q) (nat_lt q.0 s.attributes && list_any (λ g. answers_of s g.0 q.0 q.1) gone) (is_live next q.1)
      (λ line at. answer_stays q.0 q.1 (declared (record { 0 = q.0 }) q.1 line at) (own (record { 0 = q.0 }) q.1 line at) (alive (record { 0 = q.0 }) q.1 line at))
      ∙ sym (get_kept cell_exact c.answers (λ k. is_live next k.1) q))

pub either : {A B : Type 0} (Q : Type 0) → A ⊎ B → (A → Q) → (B → Q) → Q
either Q (inl a) f g = f a
either Q (inr b) f g = g b

-- A list is set that passes the tests, and some go and come thereby.
module _ (s : Shape) (ruled : List Bool) (shape : IsShape s) (c : CaseView) (r : RelId) (i : InstanceId) (names : Names) (there : r.0 < s.relations) (fits : Fits s ruled c) (fine : list_fault s c r i names ≡ None)
    (gone come : Population) (turns : Turns c.live (live_of s (stored (insert c.lists (r.0, i) names))) gone come i) where
  here : (is_live c.live i ≡ true) × (i.entity.0 ≡ s.source r)
  here =
      let outer = or_parts _ _ (tests_passed s c r i names fine).placed in
      (not-false (is_live c.live i) (or_parts _ _ outer.0).1, exact_unsigned_eq i.entity.0 (s.source r) (not-false (i.entity.0 == s.source r) outer.1))

  pub set_settled : (lists : FinMap cell_cmp Names)
      → ((q : ℕ) (j : InstanceId) → get lists (q, j) ≡ cond (nat_lt q s.relations && list_any (λ g. goes_with s g.0 q j (get (insert c.lists (r.0, i) names) (q, j))) gone) None (get (insert c.lists (r.0, i) names) (q, j)))
      → lists ≡ (with_list s c r i names).lists
  set_settled lists left =
      lists_settled s c (insert c.lists (r.0, i) names) (live_of s (stored (insert c.lists (r.0, i) names))) gone come i turns
      (λ q j ns h. either (q.0 < s.relations) (inserted c.lists r i names q j ns h) (λ x. subst (λ (y : RelId). y.0 < s.relations) (sym x.0) there) (λ k. fits.sound.declared q j ns k))
      (λ q j ns h. either (j.entity.0 ≡ s.source q) (inserted c.lists r i names q j ns h) (λ x. ap (λ (y : InstanceId). y.entity.0) x.1 ∙ here.1 ∙ ap s.source (sym x.0)) (λ k. fits.sound.source q j ns k))
      (λ q j ns h. either (is_live c.live j ≡ true) (inserted c.lists r i names q j ns h) (λ x. ap (is_live c.live) x.1 ∙ here.0) (λ k. fits.listed q j ns k))
      (λ q j ns h other. either (list_all (λ n. is_live c.live (named (s.target q) n)) ns ≡ true) (inserted c.lists r i names q j ns h)
      (λ x. ap (λ (p : RelId). list_all (λ n. is_live c.live (named (s.target p) n)) ns) x.0 ∙ ap (list_all (λ n. is_live c.live (named (s.target r) n))) (sym x.2)
      ∙ names_live s ruled shape c fits r i (ap s.contains (sym x.0) ∙ other) names (tests_passed s c r i names fine).free)
      (λ k. fits.referred q j ns k other))
      lists left

  pub set_answers : (answers : FinMap cell_cmp Answer)
      → ((a : ℕ) (j : InstanceId) → get answers (a, j) ≡ cond (nat_lt a s.attributes && list_any (λ g. answers_of s g.0 a j) gone) None (get c.answers (a, j)))
      → answers ≡ (with_list s c r i names).answers
  set_answers answers left =
      answers_settled s c (insert c.lists (r.0, i) names) (live_of s (stored (insert c.lists (r.0, i) names))) gone come i turns
      (λ a j line h. (fits.answers a j line h).declared) (λ a j line h. (fits.answers a j line h).owner) (λ a j line h. fits.answered a j line h) answers left

-- A list is forgotten, and some go thereby.
module _ (s : Shape) (ruled : List Bool) (c : CaseView) (r : RelId) (i : InstanceId) (fits : Fits s ruled c)
    (gone come : Population) (turns : Turns c.live (live_of s (stored (remove c.lists (r.0, i)))) gone come i) where
  pub forgotten_settled : (lists : FinMap cell_cmp Names)
      → ((q : ℕ) (j : InstanceId) → get lists (q, j) ≡ cond (nat_lt q s.relations && list_any (λ g. goes_with s g.0 q j (get (remove c.lists (r.0, i)) (q, j))) gone) None (get (remove c.lists (r.0, i)) (q, j)))
      → lists ≡ (without_list s c r i).lists
  forgotten_settled lists left =
      lists_settled s c (remove c.lists (r.0, i)) (live_of s (stored (remove c.lists (r.0, i)))) gone come i turns
      (λ q j ns h. fits.sound.declared q j ns (removed c.lists (r.0, i) q j ns h))
      (λ q j ns h. fits.sound.source q j ns (removed c.lists (r.0, i) q j ns h))
      (λ q j ns h. fits.listed q j ns (removed c.lists (r.0, i) q j ns h))
      (λ q j ns h other. fits.referred q j ns (removed c.lists (r.0, i) q j ns h) other)
      lists left

  pub forgotten_answers : (answers : FinMap cell_cmp Answer)
      → ((a : ℕ) (j : InstanceId) → get answers (a, j) ≡ cond (nat_lt a s.attributes && list_any (λ g. answers_of s g.0 a j) gone) None (get c.answers (a, j)))
      → answers ≡ (without_list s c r i).answers
  forgotten_answers answers left =
      answers_settled s c (remove c.lists (r.0, i)) (live_of s (stored (remove c.lists (r.0, i)))) gone come i turns
      (λ a j line h. (fits.answers a j line h).declared) (λ a j line h. (fits.answers a j line h).owner) (λ a j line h. fits.answered a j line h) answers left
