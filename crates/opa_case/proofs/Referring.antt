-- A change of a reference list leaves all that is live, and all that stands there.
use Rattle.std.specs.Prelude.{◌≡◌, ◌<◌, ◌-◌, ℕ, suc, Bool, true, false, cond, not, ◌||◌, List, [], ◌∷◌, Option, None, Some, Ok, Err, refl}
use Rattle.std.specs.List.{list_all, list_any}
use Rattle.std.specs.Option.{option_map_or}
use Rattle.std.specs.FinMap.{FinMap, get, insert, remove, retain_keys, same_map, get-insert, get-remove}
use Rattle.std.specs.Ordering.{eq_by_cmp}
use Rattle.std.proofs.Common.{arith, ap, sym, ◌∙◌, ◌⊎◌, inl, inr}
use mathlib.Core.Bool.{true≢false}
use Rattle.std.proofs.lemmas.Bool.{or_parts, and_from, not-false}
use Rattle.std.proofs.lemmas.Map.Views.{tells_apart}
use Rattle.opa_model.specs.declared.ids.RelId.{RelId}
use Rattle.opa_cells.specs.declared.instance.InstanceId.{InstanceId}
use Rattle.opa_cells.specs.Instances.{named}
use Rattle.opa_cells.specs.Keys.{cell_cmp}
use Rattle.opa_cells.proofs.Orders.{cell_exact, cell_total, get_kept}
use Rattle.opa_case.specs.declared.change.Refusal.TheVariants.{Limit}
use Rattle.opa_case.specs.Shapes.{Shape, IsShape}
use Rattle.opa_case.specs.Live.{Names, Population, live_of, is_live}
use Rattle.opa_case.specs.Cases.{CaseView, stored}
use Rattle.opa_case.specs.Steps.{rel, stays, settle, every_of, cant_name, stands_elsewhere, list_fault, listed, unlisted, with_list, without_list, within, is_full}
use Rattle.opa_case.specs.Fits.{Known, Fits}
use Rattle.opa_case.proofs.Lively.{same_live}
use Rattle.opa_case.proofs.Walks.{same_every}
use Rattle.opa_case.proofs.Kept.{inserted, removed, tests_passed}

all_stay : {X : Type 0} (b : Bool) (o : Option X) → ((x : X) → o ≡ Some x → b ≡ true) → o ≡ cond b o None
all_stay {X} b None h = elim b as (λ t. ◌≡◌ {A = Option X} None (cond t None None)) [ true ↦ refl | false ↦ refl ]
all_stay b (Some x) h = ap (λ t. cond t (Some x) None) (sym (h x refl))

module _ (s : Shape) (ruled : List Bool) (shape : IsShape s) (c : CaseView) (fits : Fits s ruled c) where
  -- Lists that hold the same instances, and name and stand at live ones, leave all that is live as it is.
  module _ (m : FinMap cell_cmp Names)
      (agree : (e : ℕ) (d : InstanceId) → 0 < e → e < s.count → get c.lists ((s.contained e).0, d) ≡ get m ((s.contained e).0, d))
      (stand : (q : RelId) (j : InstanceId) (ns : Names) → Known m q j ns → (is_live c.live j ≡ true) × (s.contains q ≡ false → list_all (λ n. is_live c.live (named (s.target q) n)) ns ≡ true)) where
    live_same : c.live ≡ live_of s (stored m)
    live_same = fits.live ∙ same_live s (stored c.lists) (stored m) (s.count - 1) (λ e d lt _. agree (suc e) d (omega arith) (omega (arith, lt))) 0 (s.count - 1) (omega arith)

    every_same : c.every ≡ every_of s (stored m)
    every_same = fits.every ∙ same_every s shape (stored c.lists) (stored m) (λ e d pos lt _. agree e d pos lt) shape.inside s.relations

    named_live : (n : ℕ) (ns : Names) → (s.contains (rel n) ≡ false → list_all (λ k. is_live c.live (named (s.target (rel n)) k)) ns ≡ true) → (s.contains (rel n) || list_all (λ k. is_live c.live (named (s.target (rel n)) k)) ns) ≡ true
    named_live n ns h = elim (s.contains (rel n)) as (λ b. s.contains (rel n) ≡ b → (b || list_all (λ k. is_live c.live (named (s.target (rel n)) k)) ns) ≡ true) [ true ↦ λ _. refl | false ↦ λ e. h e ] refl

    list_stays : (q : ℕ × InstanceId) (ns : Names) → get m q ≡ Some ns → stays s c.live m q ≡ true
    list_stays q ns at =
        let t = stand (rel q.0) q.1 ns at in
        and_from (is_live c.live q.1) _ t.0
        (ap (λ o. s.contains (rel q.0) || option_map_or (list_all (λ k. is_live c.live (named (s.target (rel q.0)) k))) o true) at ∙ named_live q.0 ns t.1)

    pub same_settled : ◌≡◌ {A = CaseView} (record c { lists = m }) (settle s m c.answers)
    same_settled =
        let a : m ≡ retain_keys m (stays s c.live m) = same_map cell_total cell_exact _ _ (λ q. all_stay (stays s c.live m q) (get m q) (λ ns at. list_stays q ns at) ∙ sym (get_kept cell_exact m (stays s c.live m) q)) in
        let b : c.answers ≡ retain_keys c.answers (λ k. is_live c.live k.1) = same_map cell_total cell_exact _ _ (λ q. all_stay (is_live c.live q.1) (get c.answers q) (λ v at. fits.answered (record { 0 = q.0 }) q.1 v at) ∙ sym (get_kept cell_exact c.answers (λ k. is_live c.live k.1) q)) in
        let made : Population → CaseView = λ l. record { lists = retain_keys m (stays s l m); every = every_of s (stored m); answers = retain_keys c.answers (λ k. is_live l k.1); live = l } in
        let first : ◌≡◌ {A = CaseView} (record c { lists = m }) (made c.live) = λ k. record { lists = a k; every = every_same k; answers = b k; live = c.live } in
        first ∙ ap made live_same

  module _ (r : RelId) (i : InstanceId) (refers : s.contains r ≡ false) where
    not_contained : (e : ℕ) (d : InstanceId) → 0 < e → e < s.count → eq_by_cmp cell_cmp ((s.contained e).0, d) (r.0, i) ≡ false
    not_contained e d pos lt = elim (eq_by_cmp cell_cmp ((s.contained e).0, d) (r.0, i)) as (λ b. eq_by_cmp cell_cmp ((s.contained e).0, d) (r.0, i) ≡ b → b ≡ false) [
      | true ↦ λ h. absurd (true≢false (sym (shape.contains e pos lt) ∙ ap (λ (x : ℕ × InstanceId). s.contains (rel x.0)) (tells_apart cell_exact ((s.contained e).0, d) (r.0, i) h) ∙ refers))
      | false ↦ λ _. refl
    ] refl

    standing : (q : RelId) (j : InstanceId) (ns : Names) → Known c.lists q j ns → (is_live c.live j ≡ true) × (s.contains q ≡ false → list_all (λ n. is_live c.live (named (s.target q) n)) ns ≡ true)
    standing q j ns h = (fits.listed q j ns h, fits.referred q j ns h)

    pub names_live : (v : Names) → list_any (cant_name s c r i) v ≡ false → list_all (λ n. is_live c.live (named (s.target r) n)) v ≡ true
    names_live [] h = refl
    names_live (n ∷ ns) h =
        let p = or_parts (cant_name s c r i n) _ h in
        and_from (is_live c.live (named (s.target r) n)) _
        (not-false _ (ap (λ b. cond b (stands_elsewhere c.live i (named (s.target r) n)) (not (is_live c.live (named (s.target r) n)))) (sym refers) ∙ p.0))
        (names_live ns p.1)

    pub reference_set : (v : Names) → list_fault s c r i v ≡ None → listed c r i v ≡ with_list s c r i v
    reference_set v h =
        let p = tests_passed s c r i v h in
        same_settled (insert c.lists (r.0, i) v)
        (λ e d pos lt. sym (get-insert cell_total c.lists (r.0, i) v ((s.contained e).0, d) ∙ ap (λ b. cond b (Some v) (get c.lists ((s.contained e).0, d))) (not_contained e d pos lt)))
        (λ q j ns k. go q j ns p.free (or_parts _ _ (or_parts _ _ p.placed).0).1 (inserted c.lists r i v q j ns k))
      where
        go : (q : RelId) (j : InstanceId) (ns : Names) → list_any (cant_name s c r i) v ≡ false → not (is_live c.live i) ≡ false → ((q ≡ r) × (j ≡ i) × (v ≡ ns)) ⊎ Known c.lists q j ns → (is_live c.live j ≡ true) × (s.contains q ≡ false → list_all (λ n. is_live c.live (named (s.target q) n)) ns ≡ true)
        go q j ns free alive (inl x) = (
          ap (is_live c.live) x.1 ∙ not-false _ alive,
          λ _. ap (λ (p : RelId). list_all (λ n. is_live c.live (named (s.target p) n)) ns) x.0 ∙ ap (list_all (λ n. is_live c.live (named (s.target r) n))) (sym x.2) ∙ names_live v free,
        )
        go q j ns free alive (inr k) = standing q j ns k

    pub reference_forgotten : unlisted c r i ≡ without_list s c r i
    reference_forgotten =
        same_settled (remove c.lists (r.0, i))
        (λ e d pos lt. sym (get-remove cell_total c.lists (r.0, i) ((s.contained e).0, d) ∙ ap (λ b. cond b None (get c.lists ((s.contained e).0, d))) (not_contained e d pos lt)))
        (λ q j ns k. standing q j ns (removed c.lists (r.0, i) q j ns k))

    pub reference_full : (v : Names) → list_fault s c r i v ≡ None → is_full s ruled c.live ≡ true → within s ruled (with_list s c r i v) ≡ Err Limit
    reference_full v h full = ap (within s ruled) (sym (reference_set v h)) ∙ ap (λ b. cond b (Err Limit) (Ok (listed c r i v))) full

    pub reference_fine : (v : Names) → list_fault s c r i v ≡ None → is_full s ruled c.live ≡ false → within s ruled (with_list s c r i v) ≡ Ok (listed c r i v)
    reference_fine v h fine = ap (within s ruled) (sym (reference_set v h)) ∙ ap (λ b. cond b (Err Limit) (Ok (listed c r i v))) fine
