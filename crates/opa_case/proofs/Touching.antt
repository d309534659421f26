-- Which lists may be others where one is set or forgotten.
use Rattle.std.specs.Prelude.{◌≡◌, ◌⊎◌, ◌<◌, ◌+◌, ◌==◌, ℕ, Bool, true, false, cond, not, ◌||◌, ◌&&◌, List, [], ◌∷◌, ◌++◌, Option, None, Some, is_some, length, take, get_or, map, Contains, refl}
use Rattle.std.specs.List.{list_any}
use Rattle.std.specs.Option.{option_map_or, option_or}
use Rattle.std.specs.Map.{lookup}
use Rattle.std.specs.Ordering.{nat_cmp, eq_by_cmp}
use Rattle.std.specs.BTreeMap.{BTreeMap, is_at}
use Rattle.std.specs.FinMap.{FinMap, get, entries, contains_key-keys}
use Rattle.std.proofs.Common.{ap, sym, subst, ◌∙◌, inl, inr, eq-eqb}
use Rattle.std.proofs.lemmas.Bool.{and_from, and_parts, or_left, or_right}
use Rattle.std.proofs.lemmas.List.Elements.{Contains-append_left, Contains-push}
use Rattle.std.proofs.lemmas.Map.Views.{tells_apart}
use mathlib.Core.Bool.{true≢false}
use denote.Ref.{Bor}
use Rattle.opa_io.proofs.Bools.{and_false}
use Rattle.opa_model.specs.declared.ids.RelId.{RelId}
use Rattle.opa_cells.specs.declared.instance.InstanceId.{InstanceId}
use Rattle.opa_cells.specs.Instances.{instance_cmp, is_same, is_text, named}
use Rattle.opa_cells.specs.Keys.{cell_cmp}
use Rattle.opa_cells.specs.Rows.{seen}
use Rattle.opa_cells.proofs.Orders.{cell_exact, same_is}
use Rattle.opa_cells.proofs.Rowed.{parts}
use Rattle.opa_case.specs.Shapes.{Shape}
use Rattle.opa_case.specs.Live.{Names, Population, is_live}
use Rattle.opa_case.specs.Cases.{CaseView, list_of}
use Rattle.opa_case.specs.Steps.{rel, stays}
use Rattle.opa_case.specs.Listed.{SourceEntries, IndexEntries, has_source, is_in_row, is_indexed, is_list}
use Rattle.opa_case.specs.Lost.{refers_to}
use Rattle.opa_case.specs.Turns.{Turns, is_among}
use Rattle.opa_case.specs.Relists.{lists_with, relisted, AreReferred}
use Rattle.opa_case.specs.Touched.{AreTouched, AddsKeys, may_refer}
use Rattle.opa_case.proofs.Stands.{any_map, any_weaker, text_itself}
use Rattle.opa_case.proofs.Taken.{any_next, one_number}
use Rattle.opa_case.proofs.Overlaid.{put_list, lists_then, stays_then}

abbrev pub Keys : Type 0
Keys = List (RelId × InstanceId)

abbrev pub Test : Type 0
Test = ℕ → InstanceId → Bool

abbrev KnownLists : Type 0
KnownLists = FinMap cell_cmp Names

-- What the old keys have, or the whole tells, the new ones have, or what is left tells it.
abbrev pub Leads : Keys → Keys → Test → Test → Type 0
Leads old new all left = (q : ℕ) (j : InstanceId) → Contains old (rel q, j) ⊎ (all q j ≡ true) → Contains new (rel q, j) ⊎ (left q j ≡ true)

leads_more : (old now new : Keys) (all left step rest : Test) → Leads old now all left → AddsKeys now new step → ((q : ℕ) (j : InstanceId) → left q j ≡ true → (step q j ≡ true) ⊎ (rest q j ≡ true)) → Leads old new all rest
leads_more old now new all left step rest before adds apart q j h = go (before q j h)
  where
    one : (step q j ≡ true) ⊎ (rest q j ≡ true) → Contains new (rel q, j) ⊎ (rest q j ≡ true)
    one (inl s) = inl (adds q j (inr s))
    one (inr r) = inr r

    go : Contains now (rel q, j) ⊎ (left q j ≡ true) → Contains new (rel q, j) ⊎ (rest q j ≡ true)
    go (inl k) = inl (adds q j (inl k))
    go (inr t) = one (apart q j t)

leads_end : (old new : Keys) (all left : Test) → Leads old new all left → ((q : ℕ) (j : InstanceId) → left q j ≡ false) → AddsKeys old new all
leads_end old new all left leads none q j h = go (leads q j h)
  where
    go : Contains new (rel q, j) ⊎ (left q j ≡ true) → Contains new (rel q, j)
    go (inl k) = k
    go (inr t) = absurd (true≢false (sym t ∙ none q j))

-- The rows of an index, one by one.
row_apart : (s : Shape) (i : InstanceId) (number : ℕ) (row : BTreeMap (List ℕ) (BTreeMap InstanceId (Unit {0}))) (rest : IndexEntries) (q : ℕ) (j : InstanceId)
    → (may_refer s i q && is_indexed ((number, row) ∷ rest) q i.name j) ≡ true
    → ((q == number && (may_refer s i q && is_in_row row.entries i.name j)) ≡ true) ⊎ ((may_refer s i q && is_indexed rest q i.name j) ≡ true)
row_apart s i number row rest q j h =
    elim (is_at (nat_cmp q) number) as (λ b. is_at (nat_cmp q) number ≡ b → (may_refer s i q && option_map_or (λ r. is_in_row r.entries i.name j) (cond b (Some row) (lookup (is_at (nat_cmp q)) rest)) false) ≡ true → ((q == number && (may_refer s i q && is_in_row row.entries i.name j)) ≡ true) ⊎ ((may_refer s i q && is_indexed rest q i.name j) ≡ true)) [
      | true ↦ λ at g. inl (and_from (q == number) _ (sym (one_number q number) ∙ at) g)
      | false ↦ λ _ g. inr g
    ] refl h

pub list_is : (number : ℕ) (inst : InstanceId) (q : ℕ) (j : InstanceId) → is_list number inst q j ≡ (q == number && is_same j inst)
list_is number inst q j = parts (nat_cmp q number) (instance_cmp j inst) ∙ ap (λ b. b && is_same j inst) (one_number q number)

-- The sources of a name, one by one.
source_apart : (number : ℕ) (inst : InstanceId) (u : Unit {0}) (rest : SourceEntries) (q : ℕ) (j : InstanceId) → (q == number && has_source ((inst, u) ∷ rest) j) ≡ true → (is_list number inst q j ≡ true) ⊎ ((q == number && has_source rest j) ≡ true)
source_apart number inst u rest q j h =
    elim (is_same j inst) as (λ b. is_same j inst ≡ b → (q == number && is_some (cond b (Some u) (lookup (is_at (instance_cmp j)) rest))) ≡ true → (is_list number inst q j ≡ true) ⊎ ((q == number && has_source rest j) ≡ true)) [
      | true ↦ λ at g. inl (list_is number inst q j ∙ and_from (q == number) _ (and_parts (q == number) _ g).0 at)
      | false ↦ λ _ g. inr g
    ] refl h

abbrev pub MayRefer : Shape → InstanceId → IndexEntries → Test
MayRefer s i index q j = may_refer s i q && is_indexed index q i.name j

pub rows_more : (old now new : Keys) (s : Shape) (i : InstanceId) (index all : IndexEntries) (number : ℕ) (row : BTreeMap (List ℕ) (BTreeMap InstanceId (Unit {0}))) (rest : IndexEntries) → index ≡ (number, row) ∷ rest
    → Leads old now (MayRefer s i all) (MayRefer s i index) → AddsKeys now new (λ q j. q == number && (may_refer s i q && is_in_row row.entries i.name j)) → Leads old new (MayRefer s i all) (MayRefer s i rest)
rows_more old now new s i index all number row rest is before step =
    leads_more old now new (MayRefer s i all) (MayRefer s i index) (λ q j. q == number && (may_refer s i q && is_in_row row.entries i.name j)) (MayRefer s i rest) before step
    (λ q j h. row_apart s i number row rest q j (ap (λ (es : IndexEntries). MayRefer s i es q j) (sym is) ∙ h))

pub rows_end : (old new : Keys) (s : Shape) (i : InstanceId) (index all : IndexEntries) → index ≡ [] → Leads old new (MayRefer s i all) (MayRefer s i index) → AddsKeys old new (MayRefer s i all)
rows_end old new s i index all none leads = leads_end old new (MayRefer s i all) (MayRefer s i index) leads (λ q j. ap (λ (es : IndexEntries). MayRefer s i es q j) none ∙ and_false (may_refer s i q))

abbrev pub OfSource : ℕ → SourceEntries → Test
OfSource number sources q j = q == number && has_source sources j

pub sources_more : (old now new : Keys) (number : ℕ) (sources all : SourceEntries) (inst : InstanceId) (u : Unit {0}) (rest : SourceEntries) → sources ≡ (inst, u) ∷ rest
    → Leads old now (OfSource number all) (OfSource number sources) → AddsKeys now new (is_list number inst) → Leads old new (OfSource number all) (OfSource number rest)
sources_more old now new number sources all inst u rest is before step =
    leads_more old now new (OfSource number all) (OfSource number sources) (is_list number inst) (OfSource number rest) before step
    (λ q j h. source_apart number inst u rest q j (ap (λ (es : SourceEntries). OfSource number es q j) (sym is) ∙ h))

pub sources_end : (old new : Keys) (number : ℕ) (sources all : SourceEntries) → sources ≡ [] → Leads old new (OfSource number all) (OfSource number sources) → AddsKeys old new (OfSource number all)
sources_end old new number sources all none leads = leads_end old new (OfSource number all) (OfSource number sources) leads (λ q j. ap (λ (es : SourceEntries). OfSource number es q j) none ∙ and_false (q == number))

-- A key is pushed.
pub adds_key : (old new : Keys) (number : ℕ) (copied inst : InstanceId) → copied ≡ inst → new ≡ old ++ (rel number, copied) ∷ [] → AddsKeys old new (is_list number inst)
adds_key old new number copied inst same is q j h = subst (λ (ks : Keys). Contains ks (rel q, j)) (sym is) (go h)
  where
    go : Contains old (rel q, j) ⊎ (is_list number inst q j ≡ true) → Contains (old ++ (rel number, copied) ∷ []) (rel q, j)
    go (inl k) = Contains-append_left old _ (rel q, j) k
    go (inr t) = subst (λ (x : ℕ × InstanceId). Contains (old ++ (rel number, copied) ∷ []) (rel x.0, x.1)) (sym (tells_apart cell_exact (q, j) (number, inst) t))
        (subst (λ (i : InstanceId). Contains (old ++ (rel number, copied) ∷ []) (rel number, i)) same (Contains-push old (rel number, copied)))

adds_same : (old new : Keys) (test test' : Test) → AddsKeys old new test → ((q : ℕ) (j : InstanceId) → test' q j ≡ test q j) → AddsKeys old new test'
adds_same old new test test' adds same q j (inl k) = adds q j (inl k)
adds_same old new test test' adds same q j (inr t) = adds q j (inr (sym (same q j) ∙ t))

adds_both : (old now new : Keys) (test test' : Test) → AddsKeys old now test → AddsKeys now new test' → AddsKeys old new (λ q j. test q j || test' q j)
adds_both old now new test test' first next q j (inl k) = next q j (inl (first q j (inl k)))
adds_both old now new test test' first next q j (inr t) = go (test q j) refl t
  where
    go : (b : Bool) → test q j ≡ b → (b || test' q j) ≡ true → Contains new (rel q, j)
    go true e _ = next q j (inl (first q j (inr e)))
    go false _ g = next q j (inr g)

pub adds_more : {A : Type 0} (old now new : Keys) (test : ℕ → InstanceId → A → Bool) (xs : List A) (k : ℕ) (x : A) → k < length xs → x ≡ get_or xs k x
    → AddsKeys old now (λ q j. list_any (test q j) (take k xs)) → AddsKeys now new (λ q j. test q j x) → AddsKeys old new (λ q j. list_any (test q j) (take (k + 1) xs))
adds_more old now new test xs k x lt is before step =
    adds_same old new (λ q j. list_any (test q j) (take k xs) || test q j x) (λ q j. list_any (test q j) (take (k + 1) xs))
    (adds_both old now new (λ q j. list_any (test q j) (take k xs)) (λ q j. test q j x) before step)
    (λ q j. sym (any_next (test q j) xs k x lt is))

-- The lists that are known.
pub adds_known : (old new : Keys) (m : KnownLists) (cells : List (ℕ × Bor InstanceId × Bor Names)) → map seen cells ≡ entries m → AddsKeys old new (λ q j. list_any (λ cell. is_list cell.0 cell.1.now q j) cells) → AddsKeys old new (λ q j. is_some (get m (q, j)))
adds_known old new m cells are adds = adds_same old new (λ q j. list_any (λ cell. is_list cell.0 cell.1.now q j) cells) (λ q j. is_some (get m (q, j))) adds (λ q j.
    contains_key-keys m (q, j)
    ∙ any_map (eq_by_cmp cell_cmp (q, j)) (λ (e : (ℕ × InstanceId) × Names). e.0) (entries m)
    ∙ ap (list_any (λ (e : (ℕ × InstanceId) × Names). eq_by_cmp cell_cmp (q, j) e.0)) (sym are)
    ∙ any_map (λ (e : (ℕ × InstanceId) × Names). eq_by_cmp cell_cmp (q, j) e.0) seen cells)

-- A reference list that names what goes refers to one that does.
names_go : (s : Shape) (q : RelId) (full : Names) (gone : Population) → s.contains q ≡ false → (ns : Names) → ((n : List ℕ) → list_any (is_text n) ns ≡ true → list_any (is_text n) full ≡ true)
    → list_any (λ n. is_among gone (named (s.target q) n)) ns ≡ true → list_any (λ g. refers_to s g.0 q.0 (Some full)) gone ≡ true
names_go s q full gone refers [] within h = absurd (true≢false (sym h))
names_go s q full gone refers (n ∷ ns) within h =
    elim (is_among gone (named (s.target q) n)) as (λ b. is_among gone (named (s.target q) n) ≡ b → (b || list_any (λ m. is_among gone (named (s.target q) m)) ns) ≡ true → list_any (λ g. refers_to s g.0 q.0 (Some full)) gone ≡ true) [
      | true ↦ λ e _. any_weaker (λ (g : InstanceId × InstanceId). is_same (named (s.target q) n) g.0) (λ g. refers_to s g.0 q.0 (Some full)) (λ g same. subst (λ (i : InstanceId). refers_to s i q.0 (Some full) ≡ true) (same_is (named (s.target q) n) g.0 same) here) gone e
      | false ↦ λ _ g. names_go s q full gone refers ns (λ m k. within m (or_right (is_text m n) _ k)) g
    ] refl h
  where
    here : refers_to s (named (s.target q) n) q.0 (Some full) ≡ true
    here = and_from _ _ (and_from (not (s.contains q)) _ (ap not refers) (eq-eqb (s.target q) (s.target q) refl)) (within n (or_left (is_text n n) _ (text_itself n)))

module _ (s : Shape) (c : CaseView) (r : RelId) (i : InstanceId) (o : Option Names) (went came : Population)
    (turns : Turns c.live (relisted s c r i o).live went came i) (referred : AreReferred s (lists_with c.lists r i o) c.live) where
  abbrev after : CaseView
  after = relisted s c r i o

  abbrev put : KnownLists
  put = lists_with c.lists r i o

  -- a list that isn't the one that is put, and names nothing that goes, is the same
  kept : (q : RelId) (j : InstanceId) (ns : Names) → is_live after.live j ≡ true → get c.lists (q.0, j) ≡ Some ns → get put (q.0, j) ≡ Some ns → list_any (λ n. is_among went (named (s.target q) n)) ns ≡ false ⊎ (s.contains q ≡ true) → get after.lists (q.0, j) ≡ get c.lists (q.0, j)
  kept q j ns lives at same h = lists_then s c r i o q j ∙ ap (λ b. cond b (get put (q.0, j)) None) (stay h) ∙ same ∙ sym at
    where
      stay : list_any (λ n. is_among went (named (s.target q) n)) ns ≡ false ⊎ (s.contains q ≡ true) → stays s after.live put (q.0, j) ≡ true
      stay (inr contains) = and_from (is_live after.live j) _ lives (or_left (s.contains q) _ contains)
      stay (inl none) = go (s.contains q) refl
        where
          go : (b : Bool) → s.contains q ≡ b → stays s after.live put (q.0, j) ≡ true
          go true contains = and_from (is_live after.live j) _ lives (or_left (s.contains q) _ contains)
          go false refers = sym (stays_then c.live after.live went came i turns s put q j ns referred same refers lives) ∙ ap not none

  module _ (first every new : Keys) (puts : AddsKeys [] first (is_list r.0 i)) (keeps : AddsKeys first every (λ _ _. false))
      (each : (q : ℕ) (j : InstanceId) → Contains every (rel q, j) ⊎ (get after.every (q, j) ≡ get c.every (q, j)))
      (naming : AddsKeys every new (λ q j. list_any (λ g. refers_to s g.0 q (get c.lists (q, j))) went)) where
    stored_touched : (q : RelId) (j : InstanceId) → is_live after.live j ≡ true → Contains new (q, j) ⊎ (get after.lists (q.0, j) ≡ get c.lists (q.0, j))
    stored_touched q j lives = at (is_list r.0 i q.0 j) refl
      where
        other : is_list r.0 i q.0 j ≡ false → get put (q.0, j) ≡ get c.lists (q.0, j)
        other e = put_list c.lists r i o q j ∙ ap (λ b. cond b o (get c.lists (q.0, j))) e

        nothing : (b : Bool) → ◌≡◌ {A = Option Names} (cond b None None) None
        nothing true = refl
        nothing false = refl

        refers : (ns : Names) → get c.lists (q.0, j) ≡ Some ns → get put (q.0, j) ≡ Some ns → (b : Bool) → s.contains q ≡ b → (t : Bool) → list_any (λ n. is_among went (named (s.target q) n)) ns ≡ t → Contains new (q, j) ⊎ (get after.lists (q.0, j) ≡ get c.lists (q.0, j))
        refers ns known same true contains t e = inr (kept q j ns lives known same (inr contains))
        refers ns known same false without false e = inr (kept q j ns lives known same (inl e))
        refers ns known same false without true e = inl (naming q.0 j (inr (ap (λ (p : Option Names). list_any (λ g. refers_to s g.0 q.0 p) went) known ∙ names_go s q ns went without ns (λ n k. k) e)))

        found : (p : Option Names) → get c.lists (q.0, j) ≡ p → get put (q.0, j) ≡ get c.lists (q.0, j) → Contains new (q, j) ⊎ (get after.lists (q.0, j) ≡ get c.lists (q.0, j))
        found None known same = inr (lists_then s c r i o q j ∙ ap (λ (p : Option Names). cond (stays s after.live put (q.0, j)) p None) (same ∙ known) ∙ nothing (stays s after.live put (q.0, j)) ∙ sym known)
        found (Some ns) known same = refers ns known (same ∙ known) (s.contains q) refl (list_any (λ n. is_among went (named (s.target q) n)) ns) refl

        at : (b : Bool) → is_list r.0 i q.0 j ≡ b → Contains new (q, j) ⊎ (get after.lists (q.0, j) ≡ get c.lists (q.0, j))
        at true e = inl (naming q.0 j (inl (keeps q.0 j (inl (puts q.0 j (inr e))))))
        at false e = found (get c.lists (q.0, j)) refl (other e)

    pub are_touched : AreTouched c after new
    are_touched q j live lives = go (stored_touched q j lives) (each q.0 j)
      where
        go : Contains new (q, j) ⊎ (get after.lists (q.0, j) ≡ get c.lists (q.0, j)) → Contains every (q, j) ⊎ (get after.every (q.0, j) ≡ get c.every (q.0, j)) → Contains new (q, j) ⊎ (list_of after q j ≡ list_of c q j)
        go (inl k) e = inl k
        go (inr a) (inl k) = inl (naming q.0 j (inl k))
        go (inr a) (inr e) = inr (ap (λ (p : Option Names). option_or p (get after.every (q.0, j))) a ∙ ap (option_or (get c.lists (q.0, j))) e)
