-- Changes keep what fits.
use Rattle.std.specs.Prelude.{◌≡◌, ◌≤◌, ◌<◌, ℕ, nat_lt, Bool, true, false, cond, not, ◌||◌, ◌&&◌, List, [], ◌∷◌, zero, suc, take, drop, unwrap_or, Option, None, Some, Result, Ok, Err, length, refl}
use Rattle.std.specs.List.{list_any, list_all}
use Rattle.std.specs.Option.{option_map_or}
use Rattle.std.specs.FinMap.{FinMap, get, insert, remove, get-insert, get-remove}
use Rattle.std.specs.Ordering.{eq_by_cmp}
use Rattle.std.proofs.Common.{arith, ap, sym, subst, ◌∙◌, ◌⊎◌, inl, inr}
use mathlib.Core.Bool.{true≢false}
use Rattle.std.proofs.lemmas.Map.Views.{tells_apart, exact_unsigned_eq}
use Rattle.std.proofs.lemmas.Bool.{and_parts, or_parts, or_left, or_right, ltb-false, not-false}
use Rattle.std.proofs.lemmas.Option.{same_Some}
use Rattle.opa_model.specs.declared.ids.RelId.{RelId}
use Rattle.opa_cells.specs.declared.instance.InstanceId.{InstanceId}
use Rattle.opa_case.specs.declared.change.Refusal.{Refusal}
use Rattle.opa_case.specs.declared.change.Refusal.TheVariants.{Name, Range, Limit}
use Rattle.opa_cells.specs.Instances.{is_same, is_text, named}
use Rattle.opa_cells.specs.Keys.{cell_cmp}
use Rattle.opa_case.specs.Shapes.{Shape, IsShape}
use Rattle.opa_case.specs.Live.{Names, Population, live_of, is_live, container_of}
use Rattle.opa_case.specs.Cases.{CaseView, stored, are_names}
use Rattle.opa_case.specs.Steps.{stands_elsewhere, is_misplaced, cant_name, within, is_full, rel, with_list, list_fault, unless, without_list}
use Rattle.opa_case.specs.Fits.{Known, AreSound, Fits}
use Rattle.opa_cells.proofs.Orders.{cell_exact, cell_total, same_is, same_itself}
use Rattle.opa_case.proofs.Naming.{first_of, rest_of}
use Rattle.opa_case.proofs.Stands.{has_live, container_found, text_is, text_itself}
use Rattle.opa_case.proofs.Settled.{settled_fits}

-- A containment list names its container's instances.
pub stands : (s : Shape) (ruled : List Bool) → IsShape s → (c : CaseView) → Fits s ruled c → (r : RelId) (j : InstanceId) (ms : Names) (n : List ℕ) → s.contains r ≡ true → Known c.lists r j ms → list_any (is_text n) ms ≡ true → container_of c.live (named (s.target r) n) ≡ Some j
stands s ruled shape c fits r j ms n con known listed =
    let e = s.target r in
    let inside = shape.target_in r con in
    let rel : r ≡ s.contained e = shape.no_other r con in
    let alive : is_live (live_of s (stored c.lists)) j ≡ true = subst (λ (live : Population). is_live live j ≡ true) fits.live (fits.listed r j ms known) in
    let parent : j.entity.0 ≡ s.parent e = fits.sound.source r j ms known ∙ ap s.source rel ∙ shape.source e inside.0 inside.1 in
    let here = has_live s (stored c.lists) shape e n j ms inside.0 inside.1 alive parent (ap (λ q. stored c.lists q j) (sym rel) ∙ known) listed in
    let found = container_found s (stored c.lists) (named e n) inside.0 here in
    let one : found.0 ≡ j = fits.sound.once r found.0 j found.2.names ms n con (ap (λ q. stored c.lists q found.0) rel ∙ found.2.known) known found.2.listed listed in
    ap (λ (live : Population). container_of live (named e n)) fits.live ∙ found.1 ∙ ap Some one

listed_all : (p : List ℕ → Bool) (n : List ℕ) (ns : Names) → list_all p ns ≡ true → list_any (is_text n) ns ≡ true → p n ≡ true
listed_all p n [] all has = absurd (true≢false (sym has))
listed_all p n (m ∷ ns) all has =
    let parts = and_parts (p m) (list_all p ns) all in
    elim (is_text n m) as (λ b. is_text n m ≡ b → (b || list_any (is_text n) ns) ≡ true → p n ≡ true) [
      | true ↦ λ e _. ap p (text_is n m e) ∙ parts.0
      | false ↦ λ _ g. listed_all p n ns parts.1 g
    ] refl has

-- What a list names may stand in it.
pub kept_name : (s : Shape) (ruled : List Bool) → IsShape s → (c : CaseView) → Fits s ruled c → (r : RelId) (i : InstanceId) (names : Option Names) → get c.lists (r.0, i) ≡ names → (n : List ℕ) → list_any (is_text n) (unwrap_or names []) ≡ true
    → cant_name s c r i n ≡ false
kept_name s ruled shape c fits r i None known n listed = absurd (true≢false (sym listed))
kept_name s ruled shape c fits r i (Some names) known n listed = go (s.contains r) refl
  where
    go : (b : Bool) → s.contains r ≡ b → cond b (stands_elsewhere c.live i (named (s.target r) n)) (not (is_live c.live (named (s.target r) n))) ≡ false
    go true con = ap (λ o. option_map_or (λ d. not (is_same d i)) o false) (stands s ruled shape c fits r i names n con known listed) ∙ ap not (same_itself i)
    go false con = ap not (listed_all (λ m. is_live c.live (named (s.target r) m)) n names (fits.referred r i names known con) listed)

-- what both lists begin with needn't be tried, where it fails of what the others have
pub any_behind : (p : List ℕ → Bool) (names others : Names) (k : ℕ) → take k names ≡ take k others → ((n : List ℕ) → list_any (is_text n) others ≡ true → p n ≡ false) → list_any p (drop k names) ≡ list_any p names
any_behind p ns os zero same fails = refl
any_behind p [] os (suc k) same fails = refl
any_behind p (n ∷ ns) [] (suc k) same fails = absurd (cc same)
any_behind p (n ∷ ns) (o ∷ os) (suc k) same fails =
    let first : n ≡ o = ap first_of same in
    any_behind p ns os k (ap rest_of same) (λ q h. fails q (or_right (is_text q o) _ h))
    ∙ ap (λ b. b || list_any p ns) (sym (fails n (or_left (is_text n o) _ (ap (is_text n) (sym first) ∙ text_itself n))))

-- the test of one name
pub passes : {A : Type 0} (p : A → Bool) (q : A → Bool) (x : A) → ((y : A) → q y ≡ true → y ≡ x) → (ys : List A) → list_any p ys ≡ false → list_any q ys ≡ true → p x ≡ false
passes p q x is [] none some = absurd (true≢false (sym some))
passes p q x is (y ∷ ys) none some =
    elim (q y) as (λ b. q y ≡ b → (b || list_any q ys) ≡ true → p x ≡ false) [
      | true ↦ λ e _. subst (λ z. p z ≡ false) (is y e) (or_parts _ _ none).0
      | false ↦ λ _ g. passes p q x is ys (or_parts _ _ none).1 g
    ] refl some

pub not_elsewhere : (live : Population) (i j n : InstanceId) → container_of live n ≡ Some j → stands_elsewhere live i n ≡ false → i ≡ j
not_elsewhere live i j n at here = sym (same_is j i (double (is_same j i) (ap (λ o. option_map_or (λ c. not (is_same c i)) o false) (sym at) ∙ here)))
  where
    double : (b : Bool) → not b ≡ false → b ≡ true
    double true e = refl
    double false e = absurd (true≢false e)

-- after an insertion a known list is the new one, or was known
pub inserted : (m : FinMap cell_cmp Names) (r : RelId) (i : InstanceId) (v : Names) (q : RelId) (j : InstanceId) (ns : Names) → Known (insert m (r.0, i) v) q j ns → ((q ≡ r) × (j ≡ i) × (v ≡ ns)) ⊎ Known m q j ns
inserted m r i v q j ns h =
    elim (eq_by_cmp cell_cmp (q.0, j) (r.0, i)) as (λ b. eq_by_cmp cell_cmp (q.0, j) (r.0, i) ≡ b → cond b (Some v) (get m (q.0, j)) ≡ Some ns → ((q ≡ r) × (j ≡ i) × (v ≡ ns)) ⊎ Known m q j ns) [
      | true ↦ λ e g. let k = tells_apart cell_exact (q.0, j) (r.0, i) e in inl (ap (λ (x : ℕ × InstanceId). rel x.0) k, ap (λ (x : ℕ × InstanceId). x.1) k, same_Some v ns g)
      | false ↦ λ _ g. inr g
    ] refl (sym (get-insert cell_total m (r.0, i) v (q.0, j)) ∙ h)

pub removed : (m : FinMap cell_cmp Names) (k : ℕ × InstanceId) (q : RelId) (j : InstanceId) (ns : Names) → Known (remove m k) q j ns → Known m q j ns
removed m k q j ns h =
    elim (eq_by_cmp cell_cmp (q.0, j) k) as (λ b. cond b None (get m (q.0, j)) ≡ Some ns → Known m q j ns) [ true ↦ λ g. absurd (cc g) | false ↦ λ g. g ] (sym (get-remove cell_total m k (q.0, j)) ∙ h)

pub removed_sound : (s : Shape) (m : FinMap cell_cmp Names) (k : ℕ × InstanceId) → AreSound s m → AreSound s (remove m k)
removed_sound s m k a = record {
  declared = λ r i ns h. a.declared r i ns (removed m k r i ns h);
  source = λ r i ns h. a.source r i ns (removed m k r i ns h);
  not_every = λ r i ns h. a.not_every r i ns (removed m k r i ns h);
  names = λ r i ns h. a.names r i ns (removed m k r i ns h);
  one = λ r i ns h. a.one r i ns (removed m k r i ns h);
  once = λ r i j ns ms n con h g. a.once r i j ns ms n con (removed m k r i ns h) (removed m k r j ms g);
}

pub guard : {X : Type 0} (b : Bool) (e : Refusal) (x : Result X Refusal) (y : X) → cond b (Err e) x ≡ Ok y → (b ≡ false) × (x ≡ Ok y)
guard true e x y h = absurd (cc h)
guard false e x y h = (refl, h)

few : (one : Bool) (n : ℕ) → (one && nat_lt 1 n) ≡ false → one ≡ true → n ≤ 1
few true n e o = omega (arith, ltb-false 1 n e)
few false n e o = absurd (true≢false (sym o))

-- Lists stay sound where one is set that passes the tests.
module _ (s : Shape) (shape : IsShape s) (c : CaseView) (ruled : List Bool) (fits : Fits s ruled c) (r : RelId) (i : InstanceId) (v : Names) where
  abbrev m : FinMap cell_cmp Names
  m = insert c.lists (r.0, i) v

  alone : (q : RelId) (j k : InstanceId) (ns ms : Names) (n : List ℕ) → list_any (cant_name s c r i) v ≡ false → s.contains q ≡ true → (q ≡ r) × (j ≡ i) × (v ≡ ns) → Known c.lists q k ms → list_any (is_text n) ns ≡ true → list_any (is_text n) ms ≡ true → j ≡ k
  alone q j k ns ms n free con new old h g =
      let con_r : s.contains r ≡ true = ap s.contains (sym new.0) ∙ con in
      let at : container_of c.live (named (s.target r) n) ≡ Some k = ap (λ p. container_of c.live (named (s.target p) n)) (sym new.0) ∙ stands s ruled shape c fits q k ms n con old g in
      let test : cant_name s c r i n ≡ false = passes (cant_name s c r i) (is_text n) n (λ y t. sym (text_is n y t)) v free (ap (list_any (is_text n)) new.2 ∙ h) in
      new.1 ∙ not_elsewhere c.live i k (named (s.target r) n) at (ap (λ b. cond b (stands_elsewhere c.live i (named (s.target r) n)) (not (is_live c.live (named (s.target r) n)))) (sym con_r) ∙ test)

  pub inserted_sound : r.0 < s.relations → is_misplaced s c r i ≡ false → are_names v ≡ true → list_any (cant_name s c r i) v ≡ false → (s.one r && nat_lt 1 (length v)) ≡ false → AreSound s m
  inserted_sound there placed names free short =
      let outer = or_parts _ _ placed in
      let inner = or_parts _ _ outer.0 in
      let owner : i.entity.0 ≡ s.source r = exact_unsigned_eq i.entity.0 (s.source r) (not-false _ outer.1) in
      record {
        declared = λ q j ns h. go (q.0 < s.relations) (inserted c.lists r i v q j ns h) (λ x. subst (λ (y : RelId). y.0 < s.relations) (sym x.0) there) (λ k. fits.sound.declared q j ns k);
        source = λ q j ns h. go (j.entity.0 ≡ s.source q) (inserted c.lists r i v q j ns h) (λ x. ap (λ (y : InstanceId). y.entity.0) x.1 ∙ owner ∙ ap s.source (sym x.0)) (λ k. fits.sound.source q j ns k);
        not_every = λ q j ns h. go (s.every q ≡ false) (inserted c.lists r i v q j ns h) (λ x. ap s.every x.0 ∙ inner.0) (λ k. fits.sound.not_every q j ns k);
        names = λ q j ns h. go (are_names ns ≡ true) (inserted c.lists r i v q j ns h) (λ x. ap are_names (sym x.2) ∙ names) (λ k. fits.sound.names q j ns k);
        one = λ q j ns h o. go (length ns ≤ 1) (inserted c.lists r i v q j ns h) (λ x. subst (λ (y : Names). length y ≤ 1) x.2 (few (s.one r) (length v) short (ap s.one (sym x.0) ∙ o))) (λ k. fits.sound.one q j ns k o);
        once = λ q j k ns ms n con h g a b. go (j ≡ k) (inserted c.lists r i v q j ns h)
            (λ x. go (j ≡ k) (inserted c.lists r i v q k ms g) (λ y. x.1 ∙ sym y.1) (λ old. alone q j k ns ms n free con x old a b))
            (λ old. go (j ≡ k) (inserted c.lists r i v q k ms g) (λ y. sym (alone q k j ms ns n free con y old b a)) (λ older. fits.sound.once q j k ns ms n con old older a b));
      }
    where
      go : (Q : Type 0) {A B : Type 0} → A ⊎ B → (A → Q) → (B → Q) → Q
      go Q (inl a) f g = f a
      go Q (inr b) f g = g b

pub ok_is : {X : Type 0} (x y : X) → ◌≡◌ {A = Result X Refusal} (Ok x) (Ok y) → x ≡ y
ok_is x y e = cc e

pub within_is : (s : Shape) (ruled : List Bool) (c c' : CaseView) → within s ruled c ≡ Ok c' → c ≡ c'
within_is s ruled c c' h = ok_is c c' (guard (is_full s ruled c.live) Limit (Ok c) c' h).1

pub fault_none : (b : Bool) (e : Refusal) (x : Option Refusal) → cond b (Some e) x ≡ None → (b ≡ false) × (x ≡ None)
fault_none true e x h = absurd (cc h)
fault_none false e x h = (refl, h)

pub passed : {X : Type 0} (o : Option Refusal) (x : Result X Refusal) (y : X) → unless o x ≡ Ok y → (o ≡ None) × (x ≡ Ok y)
passed None x y h = (refl, h)
passed (Some e) x y h = absurd (cc h)

-- what passes the tests of a list
pub record Passes (s : Shape) (c : CaseView) (r : RelId) (i : InstanceId) (v : Names) : Type 0 where
  pub placed : is_misplaced s c r i ≡ false
  pub names : are_names v ≡ true
  pub free : list_any (cant_name s c r i) v ≡ false
  pub few : (s.one r && nat_lt 1 (length v)) ≡ false

pub tests_passed : (s : Shape) (c : CaseView) (r : RelId) (i : InstanceId) (v : Names) → list_fault s c r i v ≡ None → Passes s c r i v
tests_passed s c r i v h =
    let a = fault_none (is_misplaced s c r i) Name _ h in
    let b = fault_none (not (are_names v)) Name _ a.1 in
    let d = fault_none (list_any (cant_name s c r i) v) Name _ b.1 in
    let e = fault_none (s.one r && nat_lt 1 (length v)) Range _ d.1 in
    record { placed = a.0; names = not-false (are_names v) b.0; free = d.0; few = e.0 }

pub list_kept : (s : Shape) (ruled : List Bool) → IsShape s → (c : CaseView) (r : RelId) (i : InstanceId) (v : Names) → r.0 < s.relations → Fits s ruled c → list_fault s c r i v ≡ None → Fits s ruled (with_list s c r i v)
list_kept s ruled shape c r i v there fits h =
    let p = tests_passed s c r i v h in
    settled_fits s shape (insert c.lists (r.0, i) v) c.answers ruled (inserted_sound s shape c ruled fits r i v there p.placed p.names p.free p.few) fits.answers

pub forgotten_kept : (s : Shape) (ruled : List Bool) → IsShape s → (c : CaseView) (r : RelId) (i : InstanceId) → Fits s ruled c → Fits s ruled (without_list s c r i)
forgotten_kept s ruled shape c r i fits = settled_fits s shape (remove c.lists (r.0, i)) c.answers ruled (removed_sound s c.lists (r.0, i) fits.sound) fits.answers
