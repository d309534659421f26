-- Lists and the index of them, as lists come and go.
use Rattle.std.specs.Prelude.{◌≡◌, ℕ, Bool, true, false, cond, ◌&&◌, ◌||◌, not, List, [], ◌∷◌, ◌++◌, Option, None, Some, is_some, unwrap_or, refl}
use Rattle.std.specs.List.{list_any}
use Rattle.std.specs.Option.{option_or}
use Rattle.std.specs.Ordering.{nat_cmp, is_eq}
use Rattle.std.specs.FinMap.{FinMap, get, insert, remove, empty, get-insert, get-remove, get-empty}
use Rattle.std.specs.Map.{lookup}
use Rattle.std.specs.BTreeMap.{is_at}
use Rattle.std.proofs.Common.{ap, sym, ◌∙◌}
use Rattle.std.proofs.lemmas.Map.Lookups.{exact_unsigned, exact_bytes}
use Rattle.std.proofs.lemmas.Map.Views.{tells_apart}
use Rattle.opa_cells.specs.declared.instance.InstanceId.{InstanceId}
use Rattle.opa_cells.specs.Instances.{instance_cmp, is_same, is_text}
use Rattle.opa_cells.specs.Keys.{cell_cmp}
use Rattle.opa_cells.proofs.Orders.{cell_exact, cell_total}
use Rattle.opa_cells.proofs.Rowed.{parts}
use Rattle.opa_case.specs.Live.{Names}
use Rattle.opa_case.specs.Turns.{names_without}
use Rattle.opa_case.specs.Listed.{SourceEntries, IndexEntries, has_source, is_indexed, is_named_in, IsIndexOf, is_list, SetsNames}
use Rattle.opa_case.proofs.Parted.{any_without}
use Rattle.opa_case.proofs.Stands.{lookup_append}

abbrev KnownLists : Type 0
KnownLists = FinMap cell_cmp Names

-- the names of a list, and none of one that isn't known
abbrev pub known : KnownLists → ℕ → InstanceId → Names
known lists number inst = unwrap_or (get lists (number, inst)) []

named_known : (o : Option Names) (n : List ℕ) → list_any (is_text n) (unwrap_or o []) ≡ is_named_in o n
named_known None n = refl
named_known (Some names) n = refl

named_if : (c : Bool) (o : Option Names) (n : List ℕ) → is_named_in (cond c None o) n ≡ cond c false (is_named_in o n)
named_if true o n = refl
named_if false o n = refl

pub index_of_none : (lists : KnownLists) (index : IndexEntries) → lists ≡ empty → index ≡ [] → IsIndexOf lists index
index_of_none lists index no_lists no_index q n j =
    ap (λ x. is_indexed x q n j) no_index ∙ sym (ap (λ (m : KnownLists). is_named_in (get m (q, j)) n) no_lists ∙ ap (λ o. is_named_in o n) (get-empty cell_cmp (q, j)))

-- A list is put in.

no_second : (a b : Bool) → (a && not b) ≡ true → b ≡ false
no_second true true e = absurd (cc e)
no_second true false e = refl
no_second false b e = absurd (cc e)

here : (lists : KnownLists) (index : IndexEntries) → IsIndexOf lists index → (number : ℕ) (n : List ℕ) (inst : InstanceId) → is_indexed index number n inst ≡ list_any (is_text n) (known lists number inst)
here lists index exact number n inst = exact number n inst ∙ sym (named_known (get lists (number, inst)) n)

-- Names that a list doesn't have aren't indexed there.
pub new_names : (lists : KnownLists) (index : IndexEntries) (number : ℕ) (inst : InstanceId) (names coming : Names) → IsIndexOf lists index → coming ≡ names_without names (known lists number inst)
    → (n : List ℕ) → list_any (is_text n) coming ≡ true → is_indexed index number n inst ≡ false
new_names lists index number inst names coming exact is n h =
    here lists index exact number n inst
    ∙ no_second (list_any (is_text n) names) (list_any (is_text n) (known lists number inst)) (sym (ap (list_any (is_text n)) is ∙ any_without n names (known lists number inst)) ∙ h)

turned : (a b : Bool) → cond (b && not a) false (cond (a && not b) true b) ≡ a
turned true true = refl
turned true false = refl
turned false true = refl
turned false false = refl

pub index_put : (lists lists' : KnownLists) (index index' index'' : IndexEntries) (number : ℕ) (inst : InstanceId) (names coming leaving : Names)
    → IsIndexOf lists index → lists' ≡ insert lists (number, inst) names
    → coming ≡ names_without names (known lists number inst) → leaving ≡ names_without (known lists number inst) names
    → SetsNames true index index' number coming inst → SetsNames false index' index'' number leaving inst
    → IsIndexOf lists' index''
index_put lists lists' index index' index'' number inst names coming leaving exact is comes leaves added dropped q n j =
    dropped q n j ∙ ap (cond (is_list number inst q j && list_any (is_text n) leaving) false) (added q n j)
    ∙ elim (is_list number inst q j) as (λ k. is_list number inst q j ≡ k → cond (k && list_any (is_text n) leaving) false (cond (k && list_any (is_text n) coming) true (is_indexed index q n j)) ≡ is_named_in (cond k (Some names) (get lists (q, j))) n) [
      | true ↦ λ k.
          ap (λ a. cond a false (cond (list_any (is_text n) coming) true (is_indexed index q n j))) (ap (list_any (is_text n)) leaves ∙ any_without n old names)
          ∙ ap (λ a. cond (list_any (is_text n) old && not (list_any (is_text n) names)) false (cond a true (is_indexed index q n j))) (ap (list_any (is_text n)) comes ∙ any_without n names old)
          ∙ ap (λ x. cond (list_any (is_text n) old && not (list_any (is_text n) names)) false (cond (list_any (is_text n) names && not (list_any (is_text n) old)) true x)) (ap (λ (x : ℕ × InstanceId). is_indexed index x.0 n x.1) (tells_apart cell_exact (q, j) (number, inst) k) ∙ here lists index exact number n inst)
          ∙ turned (list_any (is_text n) names) (list_any (is_text n) old)
      | false ↦ λ _. exact q n j
    ] refl
    ∙ sym (ap (λ (m : KnownLists). is_named_in (get m (q, j)) n) is ∙ ap (λ o. is_named_in o n) (get-insert cell_total lists (number, inst) names (q, j)))
  where
    old : Names
    old = known lists number inst

-- A list is taken out.

pub known_out : (lists : KnownLists) (index index' : IndexEntries) (number : ℕ) (inst : InstanceId) (names : Names) → names ≡ known lists number inst → SetsNames false index index' number names inst
    → (q : ℕ) (n : List ℕ) (j : InstanceId) → is_indexed index' q n j ≡ cond (is_list number inst q j && is_named_in (get lists (q, j)) n) false (is_indexed index q n j)
known_out lists index index' number inst names is dropped q n j =
    dropped q n j
    ∙ elim (is_list number inst q j) as (λ k. is_list number inst q j ≡ k → cond (k && list_any (is_text n) names) false (is_indexed index q n j) ≡ cond (k && is_named_in (get lists (q, j)) n) false (is_indexed index q n j)) [
      | true ↦ λ k. ap (λ b. cond b false (is_indexed index q n j)) (ap (list_any (is_text n)) is ∙ named_known (get lists (number, inst)) n ∙ ap (λ x. is_named_in (get lists x) n) (sym (tells_apart cell_exact (q, j) (number, inst) k)))
      | false ↦ λ _. refl
    ] refl

both_gone : (b : Bool) → cond b false b ≡ false
both_gone true = refl
both_gone false = refl

pub index_out : (lists lists' : KnownLists) (index index' : IndexEntries) (number : ℕ) (inst : InstanceId) → IsIndexOf lists index → lists' ≡ remove lists (number, inst)
    → ((q : ℕ) (n : List ℕ) (j : InstanceId) → is_indexed index' q n j ≡ cond (is_list number inst q j && is_named_in (get lists (q, j)) n) false (is_indexed index q n j))
    → IsIndexOf lists' index'
index_out lists lists' index index' number inst exact is out q n j =
    out q n j ∙ ap (cond (is_list number inst q j && is_named_in (get lists (q, j)) n) false) (exact q n j)
    ∙ elim (is_list number inst q j) as (λ k. cond (k && is_named_in (get lists (q, j)) n) false (is_named_in (get lists (q, j)) n) ≡ is_named_in (cond k None (get lists (q, j))) n) [
      | true ↦ both_gone (is_named_in (get lists (q, j)) n)
      | false ↦ refl
    ]
    ∙ sym (ap (λ (m : KnownLists). is_named_in (get m (q, j)) n) is ∙ ap (λ o. is_named_in o n) (get-remove cell_total lists (number, inst) (q, j)))

-- Lists are taken out one by one.

source_more : (xs : SourceEntries) (inst : InstanceId) (u : Unit {0}) (j : InstanceId) → has_source (xs ++ (inst, u) ∷ []) j ≡ (has_source xs j || is_same j inst)
source_more xs inst u j = ap is_some (lookup_append (is_at (instance_cmp j)) xs ((inst, u) ∷ [])) ∙ either (lookup_of xs) (is_same j inst)
  where
    lookup_of : SourceEntries → Option (Unit {0})
    lookup_of es = lookup (is_at (instance_cmp j)) es

    either : (o : Option (Unit {0})) (s : Bool) → is_some (option_or o (cond s (Some u) None)) ≡ (is_some o || s)
    either None true = refl
    either None false = refl
    either (Some x) s = refl

out_more : {X : Type 0} (k s y : Bool) (none x : X) → cond (k && s) none (cond (k && y) none x) ≡ cond (k && (y || s)) none x
out_more true true true none x = refl
out_more true true false none x = refl
out_more true false true none x = refl
out_more true false false none x = refl
out_more false s y none x = refl

drop_more : (k s y m z : Bool) → cond ((k && s) && cond (k && y) false m) false (cond ((k && y) && m) false z) ≡ cond ((k && (y || s)) && m) false z
drop_more true true true true z = refl
drop_more true true true false z = refl
drop_more true true false true z = refl
drop_more true true false false z = refl
drop_more true false true true z = refl
drop_more true false true false z = refl
drop_more true false false m z = refl
drop_more false s y m z = refl

-- cells without those of a relation at some instances
abbrev pub Without : KnownLists → KnownLists → ℕ → (InstanceId → Bool) → Type 0
Without old new number gone = (q : ℕ) (j : InstanceId) → get new (q, j) ≡ cond (is_eq (nat_cmp q number) && gone j) None (get old (q, j))

-- an index without the names of those
abbrev pub Unnamed : KnownLists → IndexEntries → IndexEntries → ℕ → (InstanceId → Bool) → Type 0
Unnamed lists old new number gone = (q : ℕ) (n : List ℕ) (j : InstanceId) → is_indexed new q n j ≡ cond (is_eq (nat_cmp q number) && gone j && is_named_in (get lists (q, j)) n) false (is_indexed old q n j)

pub without_none : (lists : KnownLists) (number : ℕ) → Without lists lists number (λ _. false)
without_none lists number q j = none (is_eq (nat_cmp q number)) (get lists (q, j))
  where
    none : (k : Bool) (x : Option Names) → x ≡ cond (k && false) None x
    none true x = refl
    none false x = refl

pub unnamed_none : (lists : KnownLists) (index : IndexEntries) (number : ℕ) → Unnamed lists index index number (λ _. false)
unnamed_none lists index number q n j = none (is_eq (nat_cmp q number)) (is_indexed index q n j)
  where
    none : (k x : Bool) → x ≡ cond ((k && false) && is_named_in (get lists (q, j)) n) false x
    none true x = refl
    none false x = refl

module _ (lists lists' : KnownLists) (number : ℕ) (xs : SourceEntries) (inst : InstanceId) (u : Unit {0}) where
  pub without_more : (lists'' : KnownLists) → Without lists lists' number (has_source xs) → lists'' ≡ remove lists' (number, inst) → Without lists lists'' number (has_source (xs ++ (inst, u) ∷ []))
  without_more lists'' before is q j =
      ap (λ (m : KnownLists). get m (q, j)) is ∙ get-remove cell_total lists' (number, inst) (q, j)
      ∙ ap (cond (is_list number inst q j) None) (before q j)
      ∙ ap (λ k. cond k None (cond (is_eq (nat_cmp q number) && has_source xs j) None (get lists (q, j)))) (parts (nat_cmp q number) (instance_cmp j inst))
      ∙ out_more (is_eq (nat_cmp q number)) (is_same j inst) (has_source xs j) None (get lists (q, j))
      ∙ ap (λ y. cond (is_eq (nat_cmp q number) && y) None (get lists (q, j))) (sym (source_more xs inst u j))

  pub unnamed_more : (index index' index'' : IndexEntries) → Without lists lists' number (has_source xs) → Unnamed lists index index' number (has_source xs)
      → ((q : ℕ) (n : List ℕ) (j : InstanceId) → is_indexed index'' q n j ≡ cond (is_list number inst q j && is_named_in (get lists' (q, j)) n) false (is_indexed index' q n j))
      → Unnamed lists index index'' number (has_source (xs ++ (inst, u) ∷ []))
  unnamed_more index index' index'' cells before out q n j =
      let k = is_eq (nat_cmp q number) in
      let m = is_named_in (get lists (q, j)) n in
      out q n j
      ∙ ap (λ l. cond (l && is_named_in (get lists' (q, j)) n) false (is_indexed index' q n j)) (parts (nat_cmp q number) (instance_cmp j inst))
      ∙ ap (λ b. cond ((k && is_same j inst) && b) false (is_indexed index' q n j)) (ap (λ o. is_named_in o n) (cells q j) ∙ named_if (k && has_source xs j) (get lists (q, j)) n)
      ∙ ap (cond ((k && is_same j inst) && cond (k && has_source xs j) false m) false) (before q n j)
      ∙ drop_more k (is_same j inst) (has_source xs j) m (is_indexed index q n j)
      ∙ ap (λ y. cond ((k && y) && m) false (is_indexed index q n j)) (sym (source_more xs inst u j))

-- The lists that have a name go.

third : (b t : Bool) → cond b false (cond t false b) ≡ false
third true t = refl
third false true = refl
third false false = refl

module _ (lists : KnownLists) (index : IndexEntries) (number : ℕ) (name : List ℕ) (gone : InstanceId → Bool) (exact : IsIndexOf lists index) (found : (j : InstanceId) → gone j ≡ is_indexed index number name j) where
  gone_is : (q : ℕ) (j : InstanceId) → is_eq (nat_cmp q number) ≡ true → gone j ≡ is_named_in (get lists (q, j)) name
  gone_is q j at = found j ∙ exact number name j ∙ ap (λ m. is_named_in (get lists (m, j)) name) (sym (tells_apart exact_unsigned q number at))

  pub index_unnamed : (lists' : KnownLists) (index' index'' : IndexEntries)
      → ((q : ℕ) (n : List ℕ) (j : InstanceId) → is_indexed index' q n j ≡ cond (is_eq (nat_cmp q number) && is_text n name) false (is_indexed index q n j))
      → Without lists lists' number gone → Unnamed lists index' index'' number gone → IsIndexOf lists' index''
  index_unnamed lists' index' index'' taken cells unnamed q n j =
      unnamed q n j
      ∙ ap (cond (is_eq (nat_cmp q number) && gone j && is_named_in (get lists (q, j)) n) false) (taken q n j ∙ ap (cond (is_eq (nat_cmp q number) && is_text n name) false) (exact q n j))
      ∙ elim (is_eq (nat_cmp q number)) as (λ k. is_eq (nat_cmp q number) ≡ k → cond (k && gone j && is_named_in (get lists (q, j)) n) false (cond (k && is_text n name) false (is_named_in (get lists (q, j)) n)) ≡ is_named_in (cond (k && gone j) None (get lists (q, j))) n) [
        | true ↦ λ k. elim (gone j) as (λ g. gone j ≡ g → cond (g && is_named_in (get lists (q, j)) n) false (cond (is_text n name) false (is_named_in (get lists (q, j)) n)) ≡ is_named_in (cond g None (get lists (q, j))) n) [
          | true ↦ λ _. third (is_named_in (get lists (q, j)) n) (is_text n name)
          | false ↦ λ g. elim (is_text n name) as (λ t. is_text n name ≡ t → cond t false (is_named_in (get lists (q, j)) n) ≡ is_named_in (get lists (q, j)) n) [
            | true ↦ λ t. sym (ap (is_named_in (get lists (q, j))) (tells_apart exact_bytes n name t) ∙ sym (gone_is q j k) ∙ g)
            | false ↦ λ _. refl
          ] refl
        ] refl
        | false ↦ λ _. refl
      ] refl
      ∙ sym (ap (λ o. is_named_in o n) (cells q j))
