-- A case that fits, as it is saved.
use Rattle.std.proofs.Common.{◌≡◌, ◌<◌, ◌≤◌, ◌+◌, ◌-◌, ℕ, zero, suc, Bool, true, false, cond, List, [], ◌∷◌, ◌++◌, length, map, refl, sym, ap, subst, ◌∙◌, arith}
use Rattle.std.specs.Prelude.{Option, Some, None, flat_map, ◌||◌}
use Rattle.std.specs.Option.{option_or}
use Rattle.std.specs.List.{list_all, AllByRecursion}
use Rattle.std.specs.FinMap.{get}
use Rattle.serde_json.specs.Data.{Data, string, depth}
use Rattle.serde_json.specs.Read.{max_depth}
use Rattle.serde_json.specs.View.{items_of}
use Rattle.serde_json.specs.Written.{compact_text, has_float, items_have_float}
use Rattle.opa_value.specs.declared.value.Value.{Value}
use Rattle.opa_model.specs.declared.lists.Lists.{Lists}
use Rattle.opa_model.specs.declared.things.Kind.{Kind}
use Rattle.opa_model.specs.Models.{IsModel}
use Rattle.opa_cells.specs.declared.instance.InstanceId.{InstanceId}
use Rattle.opa_case.specs.Live.{members, live_of}
use Rattle.opa_case.specs.Cases.{CaseView, Answer, stored, list_of}
use Rattle.opa_case.specs.Shapes.{Shape, IsShape, shape_of, attribute_or, relation_or}
use Rattle.opa_case.specs.Steps.{has_kind}
use Rattle.opa_case.proofs.Losing.{is_every}
use Rattle.opa_case.proofs.Lively.{same_live}
use Rattle.opa_case.proofs.Shaped.{shape_is}
use Rattle.std.proofs.lemmas.Bool.{and_parts}
use Rattle.opa_io.proofs.Options.{none_by}
use Rattle.opa_io.proofs.Lists.{flat_map_same}
use Rattle.opa_text.proofs.ValueDays.{value_days}
use Rattle.opa_saved.specs.Digests.{digest}
use Rattle.opa_saved.specs.Saved.{pair_data, list_data, answer_entry, list_entry, entry_of, rel, attr, lists_of, lists_upto, answers_of, answers_upto, whole_data, saved_data, saved_text}
use Rattle.opa_saved.specs.Told.{AreOfCalendar, HasDays, FitsModel, lists_told, told_upto}

-- ---- the days of answers

line_days : (k : Kind) (l : Answer) → list_all (λ (p : ℕ × Value). has_kind k p.1) l ≡ true → AreOfCalendar l
line_days k [] h = tt
line_days k (p ∷ l) h = let b = and_parts (has_kind k p.1) (list_all (λ (q : ℕ × Value). has_kind k q.1) l) h in (value_days k p.1 b.0, line_days k l b.1)

pub fits_days : (m : Lists) (c : CaseView) → FitsModel m c → HasDays c
fits_days m c f n i l h = line_days ((shape_of m).attribute (attr n)).kind l (f.1.answers (attr n) i l h).kind

-- ---- lists as they are looked up

or_none : {A : Type 0} (o p : Option A) → p ≡ None → option_or o p ≡ o
or_none None p e = e
or_none (Some x) p e = refl

-- a relation that isn't declared with `every`
pub list_stored : (m : Lists) (c : CaseView) → FitsModel m c → (n : ℕ) (i : InstanceId) → (shape_of m).every (rel n) ≡ false → list_of c (rel n) i ≡ get c.lists (n, i)
list_stored m c f n i e = or_none (get c.lists (n, i)) (get c.every (n, i)) (none_by (get c.every (n, i)) never)
  where
    never : (ns : List (List ℕ)) → get c.every (n, i) ≡ Some ns → ⊥
    never ns h = absurd (let g : false ≡ true = sym e ∙ is_every (shape_of m) (stored c.lists) n i ns (subst (λ x. get x (n, i) ≡ Some ns) f.1.every h) in cc g)

-- a relation that is has no list there
no_list : (m : Lists) (c : CaseView) → FitsModel m c → (n : ℕ) (i : InstanceId) → (shape_of m).every (rel n) ≡ true → get c.lists (n, i) ≡ None
no_list m c f n i e = none_by (get c.lists (n, i)) (λ ns h. absurd (let g : true ≡ false = sym e ∙ f.1.sound.not_every (rel n) i ns h in cc g))

flat_none : {A B : Type 0} (f : A → List B) → ((x : A) → f x ≡ []) → (xs : List A) → flat_map f xs ≡ []
flat_none f h [] = refl
flat_none f h (x ∷ xs) = ap (λ ys. ys ++ flat_map f xs) (h x) ∙ flat_none f h xs

told_is : (m : Lists) (c : CaseView) → FitsModel m c → (n : ℕ) → lists_told m c n ≡ lists_of m c n
told_is m c f n = go (relation_or m (rel n)).every refl
  where
    entry : InstanceId → Option (List (List ℕ)) → List Data
    entry i o = entry_of (list_entry (relation_or m (rel n)).phrase i) o

    go : (b : Bool) → (relation_or m (rel n)).every ≡ b
        → cond b [] (flat_map (λ i. entry_of (list_entry (relation_or m (rel n)).phrase i) (list_of c (rel n) i)) (members (relation_or m (rel n)).source.0 c.live)) ≡ lists_of m c n
    go true e = sym (flat_none (λ i. entry_of (list_entry (relation_or m (rel n)).phrase i) (get c.lists (n, i))) (λ i. ap (λ o. entry_of (list_entry (relation_or m (rel n)).phrase i) o) (no_list m c f n i e)) (members (relation_or m (rel n)).source.0 c.live))
    go false e = flat_map_same (λ i. entry_of (list_entry (relation_or m (rel n)).phrase i) (list_of c (rel n) i)) (λ i. entry_of (list_entry (relation_or m (rel n)).phrase i) (get c.lists (n, i))) (λ i. ap (λ o. entry_of (list_entry (relation_or m (rel n)).phrase i) o) (list_stored m c f n i e)) (members (relation_or m (rel n)).source.0 c.live)

pub told_upto_is : (m : Lists) (c : CaseView) → FitsModel m c → (n : ℕ) → told_upto m c n ≡ lists_upto m c n
unfolding told_upto lists_upto
told_upto_is m c f zero = refl
told_upto_is m c f (suc n) = ap (λ x. x ++ lists_told m c n) (told_upto_is m c f n) ∙ ap (λ x. lists_upto m c n ++ x) (told_is m c f n)

-- ---- the live instances

not_every : (s : Shape) → IsShape s → (e : ℕ) → suc e < s.count → s.every (s.contained (suc e)) ≡ false
not_every s h e lt = go (s.every (s.contained (suc e))) refl
  where
    go : (b : Bool) → s.every (s.contained (suc e)) ≡ b → b ≡ false
    go false g = refl
    go true g = absurd (let k : true ≡ false = sym (h.contains (suc e) (omega arith) lt) ∙ h.every (s.contained (suc e)) g in cc k)

pub live_listed : (m : Lists) (c : CaseView) → IsModel m → FitsModel m c → live_of (shape_of m) (list_of c) ≡ c.live
live_listed m c im f =
    let s = shape_of m in
    let h = shape_is m im in
    sym (f.1.live ∙ same_live s (stored c.lists) (list_of c) (s.count - 1)
    (λ e i lt live. sym (list_stored m c f (s.contained (suc e)).0 i (not_every s h e (omega (arith, lt))))) 0 (s.count - 1) (omega arith))

-- ---- one more

answers_suc : (m : Lists) (c : CaseView) (n : ℕ) → answers_upto m c n ++ answers_of m c n ≡ answers_upto m c (suc n)
unfolding answers_upto
answers_suc m c n = refl

pub answers_none : (m : Lists) (c : CaseView) → [] ≡ answers_upto m c 0
unfolding answers_upto
answers_none m c = refl

pub answers_next : (m : Lists) (c : CaseView) (n : ℕ) → answers_upto m c n ++ answers_of m c n ≡ answers_upto m c (n + 1)
answers_next m c n = let e : suc n ≡ n + 1 = omega arith in answers_suc m c n ∙ ap (answers_upto m c) e

told_suc : (m : Lists) (c : CaseView) (n : ℕ) → told_upto m c n ++ lists_told m c n ≡ told_upto m c (suc n)
unfolding told_upto
told_suc m c n = refl

pub told_none : (m : Lists) (c : CaseView) → [] ≡ told_upto m c 0
unfolding told_upto
told_none m c = refl

pub told_next : (m : Lists) (c : CaseView) (n : ℕ) → told_upto m c n ++ lists_told m c n ≡ told_upto m c (n + 1)
told_next m c n = let e : suc n ≡ n + 1 = omega arith in told_suc m c n ∙ ap (told_upto m c) e

-- ---- no float, and not deep

-- a value of texts and whole numbers, so deep at most
abbrev IsPlain : ℕ → Data → Type 0
IsPlain n d = (has_float d ≡ false) × (depth d ≤ n)

plain_list : (n : ℕ) (ds : List Data) → AllByRecursion (IsPlain n) ds → IsPlain (suc n) (list_data ds)
plain_list n [] all = (refl, omega arith)
plain_list n (d ∷ ds) all =
    let r = plain_list n ds all.1 in
    (ap (λ b. b || items_have_float (items_of ds)) all.0.0 ∙ r.0, omega (arith, all.0.1, r.1))

plain_pair : (p : ℕ × Value) → IsPlain 1 (pair_data p)
plain_pair p = (refl, omega arith)

plain_pairs : (l : Answer) → AllByRecursion (IsPlain 1) (map pair_data l)
plain_pairs [] = tt
plain_pairs (p ∷ l) = (plain_pair p, plain_pairs l)

plain_names : (ns : List (List ℕ)) → AllByRecursion (IsPlain 0) (map string ns)
plain_names [] = tt
plain_names (n ∷ ns) = ((refl, omega arith), plain_names ns)

all_join : (n : ℕ) (xs ys : List Data) → AllByRecursion (IsPlain n) xs → AllByRecursion (IsPlain n) ys → AllByRecursion (IsPlain n) (xs ++ ys)
all_join n [] ys h k = k
all_join n (x ∷ xs) ys h k = (h.0, all_join n xs ys h.1 k)

all_flat : (n : ℕ) (f : InstanceId → List Data) → ((i : InstanceId) → AllByRecursion (IsPlain n) (f i)) → (js : List InstanceId) → AllByRecursion (IsPlain n) (flat_map f js)
all_flat n f h [] = tt
all_flat n f h (i ∷ js) = all_join n (f i) (flat_map f js) (h i) (all_flat n f h js)

plain_answer : (phrase : List ℕ) (i : InstanceId) (l : Answer) → IsPlain 3 (answer_entry phrase i l)
plain_answer phrase i l = let r = plain_list 1 (map pair_data l) (plain_pairs l) in (ap (λ b. b || false) r.0, omega (arith, r.1))

plain_list_entry : (phrase : List ℕ) (i : InstanceId) (ns : List (List ℕ)) → IsPlain 3 (list_entry phrase i ns)
plain_list_entry phrase i ns = let r = plain_list 0 (map string ns) (plain_names ns) in (ap (λ b. b || false) r.0, omega (arith, r.1))

plain_entry : {A : Type 0} (n : ℕ) (f : A → Data) → ((x : A) → IsPlain n (f x)) → (o : Option A) → AllByRecursion (IsPlain n) (entry_of f o)
plain_entry n f h None = tt
plain_entry n f h (Some x) = (h x, tt)

plain_answers : (m : Lists) (c : CaseView) (n : ℕ) → AllByRecursion (IsPlain 3) (answers_upto m c n)
unfolding answers_upto
plain_answers m c zero = tt
plain_answers m c (suc n) =
    all_join 3 (answers_upto m c n) (answers_of m c n) (plain_answers m c n)
    (all_flat 3 (λ i. entry_of (answer_entry (attribute_or m (attr n)).phrase i) (get c.answers (n, i))) (λ i. plain_entry 3 (answer_entry (attribute_or m (attr n)).phrase i) (plain_answer (attribute_or m (attr n)).phrase i) (get c.answers (n, i))) (members (attribute_or m (attr n)).entity.0 c.live))

plain_lists : (m : Lists) (c : CaseView) (n : ℕ) → AllByRecursion (IsPlain 3) (lists_upto m c n)
unfolding lists_upto
plain_lists m c zero = tt
plain_lists m c (suc n) =
    all_join 3 (lists_upto m c n) (lists_of m c n) (plain_lists m c n)
    (all_flat 3 (λ i. entry_of (list_entry (relation_or m (rel n)).phrase i) (get c.lists (n, i))) (λ i. plain_entry 3 (list_entry (relation_or m (rel n)).phrase i) (plain_list_entry (relation_or m (rel n)).phrase i) (get c.lists (n, i))) (members (relation_or m (rel n)).source.0 c.live))

plain_whole : (xs ys : List Data) (d : ℕ) → AllByRecursion (IsPlain 3) xs → AllByRecursion (IsPlain 3) ys → IsPlain 5 (whole_data xs ys d)
plain_whole xs ys d h k =
    let r = plain_list 3 xs h in let q = plain_list 3 ys k in
    (ap (λ b. b || (false || (has_float (list_data ys) || false))) r.0 ∙ ap (λ b. false || (b || false)) q.0, omega (arith, r.1, q.1))

saved_plain : (m : Lists) (c : CaseView) → IsPlain 5 (saved_data m c)
unfolding saved_data
saved_plain m c = plain_whole (answers_upto m c (length m.attributes)) (lists_upto m c (length m.relations)) (digest m) (plain_answers m c (length m.attributes)) (plain_lists m c (length m.relations))

pub saved_has_no_float : (m : Lists) (c : CaseView) (d : Data) → d ≡ saved_data m c → has_float d ≡ false
saved_has_no_float m c d e = ap has_float e ∙ (saved_plain m c).0

pub saved_is_shallow : (m : Lists) (c : CaseView) (d : Data) → d ≡ saved_data m c → depth d ≤ max_depth
saved_is_shallow m c d e = omega (arith, ap depth e, (saved_plain m c).1)

-- ---- the whole

pub whole_is : (m : Lists) (c : CaseView) (v : Data) (answers lists : List Data) (d : ℕ)
    → FitsModel m c → v ≡ whole_data answers lists d → answers ≡ answers_upto m c (length m.attributes) → lists ≡ told_upto m c (length m.relations) → d ≡ digest m → v ≡ saved_data m c
unfolding saved_data
whole_is m c v answers lists d f e a l g =
    e ∙ ap (λ x. whole_data x lists d) a ∙ ap (λ x. whole_data (answers_upto m c (length m.attributes)) x d) (l ∙ told_upto_is m c f (length m.relations))
    ∙ ap (whole_data (answers_upto m c (length m.attributes)) (lists_upto m c (length m.relations))) g

pub text_is : (m : Lists) (c : CaseView) (d : Data) → d ≡ saved_data m c → compact_text d ++ 10 ∷ [] ≡ saved_text m c
unfolding saved_text
text_is m c d e = ap (λ x. compact_text x ++ 10 ∷ []) e
