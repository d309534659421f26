-- What an index says after a change to one of its rows.
use Rattle.std.specs.Prelude.{◌≡◌, ℕ, Bool, true, false, cond, ◌&&◌, List, [], Option, None, Some, IsSome, IsNone, is_some, refl}
use Rattle.std.specs.Option.{option_map_or}
use Rattle.std.specs.Map.{lookup}
use Rattle.std.specs.BTreeMap.{BTreeMap, is_at}
use Rattle.std.specs.Ordering.{nat_cmp, is_eq}
use Rattle.std.specs.declared.cmp.Ordering.{Ordering}
use Rattle.std.specs.Cmp.{eq_by_cmp_equiv, nat_cmp_total}
use Rattle.std.specs.Cmp.Lexicographic.{slice_cmp, nat_list_cmp_total}
use Rattle.std.proofs.Common.{ap, sym, subst, ◌∙◌}
use Rattle.std.proofs.lemmas.Map.Lookups.{CmpEqualImpliesEq, exact_unsigned, exact_bytes}
use Rattle.std.proofs.lemmas.Map.Views.{tells_apart}
use Rattle.opa_cells.specs.declared.instance.InstanceId.{InstanceId}
use Rattle.opa_cells.specs.Instances.{instance_cmp, is_text}
use Rattle.opa_cells.proofs.Orders.{instance_total}
use Rattle.opa_cells.proofs.Rowed.{parts}
use Rattle.opa_case.specs.Listed.{RowEntries, IndexEntries, SourceEntries, has_source, is_in_row, is_indexed, is_list, SetsSource, SetsInRow, SetsName, SameRow, SameIndex}

module _ {K V A : Type 0} (cmp : K → K → Ordering) (exact : CmpEqualImpliesEq cmp) (says : V → A → Bool) where
  -- what the value at a key says, if there is one
  abbrev pub told : List (K × V) → K → A → Bool
  told es k a = option_map_or (λ v. says v a) (lookup (is_at (cmp k)) es) false

  -- one value is new, and says b where the test holds
  pub told_set : (es es' : List (K × V)) (k : K) (w : V) (test : A → Bool) (b : Bool)
      → ((q : K) → lookup (is_at (cmp q)) es' ≡ cond (is_at (cmp k) q) (Some w) (lookup (is_at (cmp q)) es))
      → ((a : A) → says w a ≡ cond (test a) b (told es k a))
      → (q : K) (a : A) → told es' q a ≡ cond (is_at (cmp k) q && test a) b (told es q a)
  told_set es es' k w test b outer inner q a =
      ap (λ o. option_map_or (λ v. says v a) o false) (outer q)
      ∙ elim (is_at (cmp k) q) as (λ c. is_at (cmp k) q ≡ c → option_map_or (λ v. says v a) (cond c (Some w) (lookup (is_at (cmp q)) es)) false ≡ cond (c && test a) b (told es q a)) [
        | true ↦ λ e. inner a ∙ ap (λ m. cond (test a) b (told es m a)) (tells_apart exact k q e)
        | false ↦ λ _. refl
      ] refl

  -- the value that stood is written back
  pub told_back : (es es' : List (K × V)) (k : K) (v w : V) (test : A → Bool) (b : Bool)
      → lookup (is_at (cmp k)) es ≡ Some v
      → (IsSome (lookup (is_at (cmp k)) es) → (q : K) → lookup (is_at (cmp q)) es' ≡ cond (is_at (cmp k) q) (Some w) (lookup (is_at (cmp q)) es))
      → ((a : A) → says w a ≡ cond (test a) b (says v a))
      → (q : K) (a : A) → told es' q a ≡ cond (is_at (cmp k) q && test a) b (told es q a)
  told_back es es' k v w test b at outer inner =
      told_set es es' k w test b (outer (subst (λ o. IsSome o) (sym at) refl)) (λ a. inner a ∙ ap (λ o. cond (test a) b (option_map_or (λ v. says v a) o false)) (sym at))

  -- the value that is written back says what it said
  pub told_same : (es es' : List (K × V)) (k : K) (v w : V)
      → lookup (is_at (cmp k)) es ≡ Some v
      → (IsSome (lookup (is_at (cmp k)) es) → (q : K) → lookup (is_at (cmp q)) es' ≡ cond (is_at (cmp k) q) (Some w) (lookup (is_at (cmp q)) es))
      → ((a : A) → says w a ≡ says v a)
      → (q : K) (a : A) → told es' q a ≡ told es q a
  told_same es es' k v w at outer inner q a =
      told_back es es' k v w (λ _. false) false at outer inner q a ∙ ap (λ c. cond c false (told es q a)) (never (is_at (cmp k) q))
    where
      never : (c : Bool) → (c && false) ≡ false
      never true = refl
      never false = refl

  -- nothing stands at the key, so that nothing says anything there
  pub told_none : (es : List (K × V)) (k : K) (test : A → Bool) → lookup (is_at (cmp k)) es ≡ None
      → (q : K) (a : A) → told es q a ≡ cond (is_at (cmp k) q && test a) false (told es q a)
  told_none es k test none q a =
      elim (is_at (cmp k) q) as (λ c. is_at (cmp k) q ≡ c → told es q a ≡ cond (c && test a) false (told es q a)) [
        | true ↦ λ e. ap (λ m. told es m a) (sym (tells_apart exact k q e)) ∙ quiet
            ∙ sym (ap (cond (test a) false) (ap (λ m. told es m a) (sym (tells_apart exact k q e)) ∙ quiet) ∙ either (test a))
        | false ↦ λ _. refl
      ] refl
    where
      quiet : told es k a ≡ false
      quiet = ap (λ o. option_map_or (λ v. says v a) o false) none

      either : (c : Bool) → cond c false false ≡ false
      either true = refl
      either false = refl

  -- what stood at the key goes, and all that it says
  pub told_gone : (es es' : List (K × V)) (k : K)
      → ((q : K) → lookup (is_at (cmp q)) es' ≡ cond (is_at (cmp k) q) None (lookup (is_at (cmp q)) es))
      → (q : K) (a : A) → told es' q a ≡ cond (is_at (cmp k) q) false (told es q a)
  told_gone es es' k outer q a =
      ap (λ o. option_map_or (λ v. says v a) o false) (outer q)
      ∙ elim (is_at (cmp k) q) as (λ c. option_map_or (λ v. says v a) (cond c None (lookup (is_at (cmp q)) es)) false ≡ cond c false (told es q a)) [ true ↦ refl | false ↦ refl ]

  -- a new value beside none
  pub told_new : (es : List (K × V)) (k : K) (a : A) → IsNone (lookup (is_at (cmp k)) es) → told es k a ≡ false
  told_new es k a none = absent (lookup (is_at (cmp k)) es) none
    where
      absent : (o : Option V) → IsNone o → option_map_or (λ v. says v a) o false ≡ false
      absent None h = refl
      absent (Some v) h = absurd (cc h)

both : (a b c : Bool) → (a && (b && c)) ≡ ((a && c) && b)
both true true true = refl
both true true false = refl
both true false true = refl
both true false false = refl
both false b c = refl

-- the test of three keys, as the index makes it, and as of a list and a name
pub key_test : (number : ℕ) (name : List ℕ) (inst : InstanceId) (q : ℕ) (n : List ℕ) (j : InstanceId)
    → (is_at (nat_cmp number) q && (is_at (slice_cmp nat_cmp name) n && is_at (instance_cmp inst) j)) ≡ (is_list number inst q j && is_text n name)
key_test number name inst q n j =
    ap (λ x. x && (is_at (slice_cmp nat_cmp name) n && is_at (instance_cmp inst) j)) ((eq_by_cmp_equiv nat_cmp_total).symm number q)
    ∙ ap (λ x. is_eq (nat_cmp q number) && (x && is_at (instance_cmp inst) j)) ((eq_by_cmp_equiv nat_list_cmp_total).symm name n)
    ∙ ap (λ x. is_eq (nat_cmp q number) && (is_text n name && x)) ((eq_by_cmp_equiv instance_total).symm inst j)
    ∙ both (is_eq (nat_cmp q number)) (is_text n name) (is_eq (instance_cmp j inst))
    ∙ ap (λ x. x && is_text n name) (sym (parts (nat_cmp q number) (instance_cmp j inst)))

abbrev pub Sources : Type 0
Sources = BTreeMap InstanceId (Unit {0})

abbrev pub Row : Type 0
Row = BTreeMap (List ℕ) Sources

abbrev source_says : Sources → InstanceId → Bool
source_says sources j = has_source sources.entries j

abbrev row_says : Row → List ℕ × InstanceId → Bool
row_says row a = is_in_row row.entries a.0 a.1

-- an instance is taken out of sources
pub source_left : (es es' : SourceEntries) (inst : InstanceId)
    → ((j : InstanceId) → lookup (is_at (instance_cmp j)) es' ≡ cond (is_at (instance_cmp inst) j) None (lookup (is_at (instance_cmp j)) es))
    → SetsSource false es es' inst
source_left es es' inst outer j =
    ap is_some (outer j)
    ∙ elim (is_at (instance_cmp inst) j) as (λ c. is_some (cond c None (lookup (is_at (instance_cmp j)) es)) ≡ cond c false (has_source es j)) [ true ↦ refl | false ↦ refl ]

-- A row in which the sources of one name are new, written back, as they were, or none.
module _ (es es' : RowEntries) (name : List ℕ) (inst : InstanceId) (b : Bool) where
  pub row_set : (w : Sources)
      → ((n : List ℕ) → lookup (is_at (slice_cmp nat_cmp n)) es' ≡ cond (is_at (slice_cmp nat_cmp name) n) (Some w) (lookup (is_at (slice_cmp nat_cmp n)) es))
      → IsNone (lookup (is_at (slice_cmp nat_cmp name)) es)
      → (before : SourceEntries) → before ≡ []
      → SetsSource b before w.entries inst
      → SetsInRow b es es' name inst
  row_set w outer none before empty inner n j =
      told_set (slice_cmp nat_cmp) exact_bytes source_says es es' name w (is_at (instance_cmp inst)) b outer
      (λ k. inner k ∙ ap (cond (is_at (instance_cmp inst) k) b) (ap (λ x. has_source x k) empty ∙ sym (told_new (slice_cmp nat_cmp) exact_bytes source_says es name k none))) n j

  pub row_back : (v w : Sources) → lookup (is_at (slice_cmp nat_cmp name)) es ≡ Some v
      → (IsSome (lookup (is_at (slice_cmp nat_cmp name)) es) → (n : List ℕ) → lookup (is_at (slice_cmp nat_cmp n)) es' ≡ cond (is_at (slice_cmp nat_cmp name) n) (Some w) (lookup (is_at (slice_cmp nat_cmp n)) es))
      → SetsSource b v.entries w.entries inst
      → SetsInRow b es es' name inst
  row_back v w at outer inner n j = told_back (slice_cmp nat_cmp) exact_bytes source_says es es' name v w (is_at (instance_cmp inst)) b at outer inner n j

pub row_same : (es es' : RowEntries) (name : List ℕ) (v w : Sources) → lookup (is_at (slice_cmp nat_cmp name)) es ≡ Some v
    → (IsSome (lookup (is_at (slice_cmp nat_cmp name)) es) → (n : List ℕ) → lookup (is_at (slice_cmp nat_cmp n)) es' ≡ cond (is_at (slice_cmp nat_cmp name) n) (Some w) (lookup (is_at (slice_cmp nat_cmp n)) es))
    → w.entries ≡ v.entries
    → SameRow es es'
row_same es es' name v w at outer same n j = told_same (slice_cmp nat_cmp) exact_bytes source_says es es' name v w at outer (λ k. ap (λ x. has_source x k) same) n j

pub row_none : (es : RowEntries) (name : List ℕ) (inst : InstanceId) → lookup (is_at (slice_cmp nat_cmp name)) es ≡ None → SetsInRow false es es name inst
row_none es name inst none n j = told_none (slice_cmp nat_cmp) exact_bytes source_says es name (is_at (instance_cmp inst)) none n j

-- A name without sources goes.
pub row_gone : (es es' : RowEntries) (name : List ℕ)
    → ((n : List ℕ) → lookup (is_at (slice_cmp nat_cmp n)) es' ≡ cond (is_at (slice_cmp nat_cmp name) n) None (lookup (is_at (slice_cmp nat_cmp n)) es))
    → ((j : InstanceId) → is_in_row es name j ≡ false)
    → SameRow es es'
row_gone es es' name outer bare n j =
    told_gone (slice_cmp nat_cmp) exact_bytes source_says es es' name outer n j
    ∙ elim (is_at (slice_cmp nat_cmp name) n) as (λ c. is_at (slice_cmp nat_cmp name) n ≡ c → cond c false (is_in_row es n j) ≡ is_in_row es n j) [
      | true ↦ λ e. sym (ap (λ m. is_in_row es m j) (sym (tells_apart exact_bytes name n e)) ∙ bare j)
      | false ↦ λ _. refl
    ] refl

-- An index in which the row of one relation is new, written back, as it was, or none.
module _ (es es' : IndexEntries) (number : ℕ) (name : List ℕ) (inst : InstanceId) (b : Bool) where
  pub index_set : (w : Row)
      → ((q : ℕ) → lookup (is_at (nat_cmp q)) es' ≡ cond (is_at (nat_cmp number) q) (Some w) (lookup (is_at (nat_cmp q)) es))
      → IsNone (lookup (is_at (nat_cmp number)) es)
      → (before : RowEntries) → before ≡ []
      → SetsInRow b before w.entries name inst
      → SetsName b es es' number name inst
  index_set w outer none before empty inner q n j =
      told_set nat_cmp exact_unsigned row_says es es' number w (λ a. is_at (slice_cmp nat_cmp name) a.0 && is_at (instance_cmp inst) a.1) b outer
      (λ a. inner a.0 a.1 ∙ ap (cond (is_at (slice_cmp nat_cmp name) a.0 && is_at (instance_cmp inst) a.1) b) (ap (λ x. is_in_row x a.0 a.1) empty ∙ sym (told_new nat_cmp exact_unsigned row_says es number a none))) q (n, j)
      ∙ ap (λ c. cond c b (is_indexed es q n j)) (key_test number name inst q n j)

  pub index_back : (v w : Row) → lookup (is_at (nat_cmp number)) es ≡ Some v
      → (IsSome (lookup (is_at (nat_cmp number)) es) → (q : ℕ) → lookup (is_at (nat_cmp q)) es' ≡ cond (is_at (nat_cmp number) q) (Some w) (lookup (is_at (nat_cmp q)) es))
      → SetsInRow b v.entries w.entries name inst
      → SetsName b es es' number name inst
  index_back v w at outer inner q n j =
      told_back nat_cmp exact_unsigned row_says es es' number v w (λ a. is_at (slice_cmp nat_cmp name) a.0 && is_at (instance_cmp inst) a.1) b at outer (λ a. inner a.0 a.1) q (n, j)
      ∙ ap (λ c. cond c b (is_indexed es q n j)) (key_test number name inst q n j)

pub index_same : (es es' : IndexEntries) (number : ℕ) (v w : Row) → lookup (is_at (nat_cmp number)) es ≡ Some v
    → (IsSome (lookup (is_at (nat_cmp number)) es) → (q : ℕ) → lookup (is_at (nat_cmp q)) es' ≡ cond (is_at (nat_cmp number) q) (Some w) (lookup (is_at (nat_cmp q)) es))
    → SameRow v.entries w.entries
    → SameIndex es es'
index_same es es' number v w at outer same q n j = told_same nat_cmp exact_unsigned row_says es es' number v w at outer (λ a. same a.0 a.1) q (n, j)

pub index_none : (es : IndexEntries) (number : ℕ) (name : List ℕ) (inst : InstanceId) → lookup (is_at (nat_cmp number)) es ≡ None → SetsName false es es number name inst
index_none es number name inst none q n j =
    told_none nat_cmp exact_unsigned row_says es number (λ a. is_at (slice_cmp nat_cmp name) a.0 && is_at (instance_cmp inst) a.1) none q (n, j)
    ∙ ap (λ c. cond c false (is_indexed es q n j)) (key_test number name inst q n j)

-- The sources of one name are taken out of a row that stood.
pub index_without : (es es' : IndexEntries) (number : ℕ) (name : List ℕ) (v w : Row) → lookup (is_at (nat_cmp number)) es ≡ Some v
    → (IsSome (lookup (is_at (nat_cmp number)) es) → (q : ℕ) → lookup (is_at (nat_cmp q)) es' ≡ cond (is_at (nat_cmp number) q) (Some w) (lookup (is_at (nat_cmp q)) es))
    → ((n : List ℕ) → lookup (is_at (slice_cmp nat_cmp n)) w.entries ≡ cond (is_at (slice_cmp nat_cmp name) n) None (lookup (is_at (slice_cmp nat_cmp n)) v.entries))
    → (q : ℕ) (n : List ℕ) (j : InstanceId) → is_indexed es' q n j ≡ cond (is_eq (nat_cmp q number) && is_text n name) false (is_indexed es q n j)
index_without es es' number name v w at outer gone q n j =
    told_back nat_cmp exact_unsigned row_says es es' number v w (λ a. is_at (slice_cmp nat_cmp name) a.0) false at outer
    (λ a. told_gone (slice_cmp nat_cmp) exact_bytes source_says v.entries w.entries name gone a.0 a.1) q (n, j)
    ∙ ap (λ x. cond (x && is_at (slice_cmp nat_cmp name) n) false (is_indexed es q n j)) ((eq_by_cmp_equiv nat_cmp_total).symm number q)
    ∙ ap (λ x. cond (is_eq (nat_cmp q number) && x) false (is_indexed es q n j)) ((eq_by_cmp_equiv nat_list_cmp_total).symm name n)

-- an index without a row for a relation
pub index_lacks : (es : IndexEntries) (number : ℕ) (name : List ℕ) → lookup (is_at (nat_cmp number)) es ≡ None
    → (q : ℕ) (n : List ℕ) (j : InstanceId) → is_indexed es q n j ≡ cond (is_eq (nat_cmp q number) && is_text n name) false (is_indexed es q n j)
index_lacks es number name none q n j =
    told_none nat_cmp exact_unsigned row_says es number (λ a. is_at (slice_cmp nat_cmp name) a.0) none q (n, j)
    ∙ ap (λ x. cond (x && is_at (slice_cmp nat_cmp name) n) false (is_indexed es q n j)) ((eq_by_cmp_equiv nat_cmp_total).symm number q)
    ∙ ap (λ x. cond (is_eq (nat_cmp q number) && x) false (is_indexed es q n j)) ((eq_by_cmp_equiv nat_list_cmp_total).symm name n)
