-- What a tree is worth and what it uses depend on the enclosing instances only by the places of the entities that it mentions.
use Rattle.std.proofs.Common.{◌≡◌, ◌⊎◌, inl, inr, ℕ, zero, suc, ◌+◌, Bool, true, false, cond, List, [], ◌∷◌, ◌++◌, map, Option, None, Some, refl, sym, ◌∙◌, ap}
use Rattle.std.specs.Prelude.{find, flat_map, Contains}
use Rattle.std.specs.List.{AllByRecursion}
use Rattle.std.specs.Option.{option_map_or}
use Rattle.std.proofs.lemmas.Bool.{eq-eqb}
use Rattle.std.proofs.Math.Path.{fun_ext}
use Rattle.opa_value.specs.declared.value.Value.{Value}
use Rattle.opa_value.specs.Truth.{is_true, is_false, all_of, any_of, not_of, strict}
use Rattle.opa_model.specs.declared.ids.AttrId.{AttrId}
use Rattle.opa_model.specs.declared.ids.RelId.{RelId}
use Rattle.opa_tree.specs.declared.kinds.OpKind.{OpKind}
use Rattle.opa_tree.specs.declared.kinds.Quant.{Quant}
use Rattle.opa_tree.specs.declared.kinds.Quant.TheVariants as quant
use Rattle.opa_tree.specs.declared.kinds.WinKind.{WinKind}
use Rattle.opa_tree.specs.declared.kinds.WinKind.TheVariants as win
use Rattle.opa_tree.specs.declared.expr.Expr.{Expr}
use Rattle.opa_tree.specs.declared.expr.Row.{Row}
use Rattle.opa_tree.specs.declared.expr.Expr.TheVariants as V
use Rattle.opa_case.specs.Shapes.{Shape}
use Rattle.opa_cells.specs.Instances.{named}
use Rattle.opa_cells.specs.declared.instance.InstanceId.{InstanceId}
use Rattle.opa_window.specs.Windows.{value_at, interval_always, interval_sometimes, interval_sum, interval_max, interval_min, interval_run, before, on_or_after, years_since}
use Rattle.opa_mean.specs.Looks.{Look}
use Rattle.opa_mean.specs.Meaning.{Meaning, value, at_place, certain_of, known_of, choose, item, quant_of, over, window, rolling, table, row_meaning}
use Rattle.opa_mean.specs.Operations.{op_of}
use Rattle.opa_mean.specs.PartUses.{rows_uses}
use Rattle.opa_mean.specs.Places.{owner_of, place, chain, climb, is_of}
use Rattle.opa_mean.specs.Uses.{Use, Used, Point, Listed, found_or, first_or_all, member_uses, list_uses, at_place_uses, on_date_uses, in_window_uses, last_days_uses, after_cond, item_uses, item_value, over_uses, window_uses, uses}
use Rattle.opa_mean.proofs.Values.{window_more, value-Const, value-Attr, value-All, value-Any, value-Not, value-Op, value-Certain, value-Known, value-Over, value-Window, value-Rolling, value-Table}
use Rattle.opa_mean.proofs.UseLaws.{uses-Const, uses-Attr, uses-All, uses-Any, uses-Not, uses-Op, uses-Certain, uses-Known, uses-Over, uses-Window, uses-Rolling, uses-Table}
use Rattle.opa_code.proofs.Enclosing.{Same, same_each}
use Rattle.opa_report.specs.Keeping.{HasOnePlace, Follows, IsAlike, IsRowAlike}

-- behind the same instances the first one is the same
find_behind : (p : InstanceId → Bool) (xs ys zs : List InstanceId) → find p ys ≡ find p zs → find p (xs ++ ys) ≡ find p (xs ++ zs)
find_behind p [] ys zs h = h
find_behind p (x ∷ xs) ys zs h = ap (λ r. cond (p x) (Some x) r) (find_behind p xs ys zs h)

-- over things that are found alike, and have the same uses
found_same : {X : Type 0} (P Q : X → Bool) (U V : X → List Use) (rest : List Use) (xs : List X) → AllByRecursion (λ x. (P x ≡ Q x) × (U x ≡ V x)) xs → found_or (find P xs) U rest ≡ found_or (find Q xs) V rest
found_same P Q U V rest [] h = refl
found_same P Q U V rest (x ∷ xs) h = ap (λ b. found_or (cond b (Some x) (find P xs)) U rest) h.0.0 ∙ go (Q x) (found_same P Q U V rest xs h.1)
  where
    go : (b : Bool) → found_or (find P xs) U rest ≡ found_or (find Q xs) V rest → found_or (cond b (Some x) (find P xs)) U rest ≡ found_or (cond b (Some x) (find Q xs)) V rest
    go true more = h.0.1
    go false more = more

flat_same : {X : Type 0} (P Q : X → Bool) (U V : X → List Use) (xs : List X) → AllByRecursion (λ x. (P x ≡ Q x) × (U x ≡ V x)) xs → flat_map U xs ≡ flat_map V xs
flat_same P Q U V [] h = refl
flat_same P Q U V (x ∷ xs) h = ap (λ us. us ++ flat_map U xs) h.0.1 ∙ ap (λ us. V x ++ us) (flat_same P Q U V xs h.1)

firsts_same : {X : Type 0} (P Q : X → Bool) (U V : X → List Use) (xs : List X) → AllByRecursion (λ x. (P x ≡ Q x) × (U x ≡ V x)) xs → first_or_all P U xs ≡ first_or_all Q V xs
firsts_same P Q U V xs h = found_same P Q U V (flat_map U xs) xs h ∙ ap (λ rest. found_or (find Q xs) V rest) (flat_same P Q U V xs h)

-- functions over time
module _ (e f : List InstanceId) where
  same_one : (k : WinKind) (a : Meaning) (d : ℕ) → a e ≡ a f → window k (a ∷ []) e d ≡ window k (a ∷ []) f d
  same_one win.Before a d h = ap (λ (g : ℕ → Value). before (g d) d) h
  same_one win.OnOrAfter a d h = ap (λ (g : ℕ → Value). on_or_after (g d) d) h
  same_one win.YearsSince a d h = ap (λ (g : ℕ → Value). years_since (g d) d) h
  same_one _ a d h = refl

  same_two : (k : WinKind) (a x : Meaning) (d : ℕ) → a e ≡ a f → x e ≡ x f → window k (a ∷ x ∷ []) e d ≡ window k (a ∷ x ∷ []) f d
  same_two win.ValueAt a x d h i = ap (λ (g : ℕ → Value). value_at (x e) (g d)) h ∙ ap (λ (g : ℕ → Value). value_at g (a f d)) i
  same_two _ a x d h i = refl

  same_span : (fold : (ℕ → Value) → Value → Value → Value) (a b x : Meaning) (d : ℕ) → a e ≡ a f → b e ≡ b f → x e ≡ x f → fold (x e) (a e d) (b e d) ≡ fold (x f) (a f d) (b f d)
  same_span fold a b x d h i j = ap (λ (g : ℕ → Value). fold (x e) (g d) (b e d)) h ∙ ap (λ (g : ℕ → Value). fold (x e) (a f d) (g d)) i ∙ ap (λ (g : ℕ → Value). fold g (a f d) (b f d)) j

  same_three : (k : WinKind) (a b x : Meaning) (d : ℕ) → a e ≡ a f → b e ≡ b f → x e ≡ x f → window k (a ∷ b ∷ x ∷ []) e d ≡ window k (a ∷ b ∷ x ∷ []) f d
  same_three win.Always a b x d h i j = same_span interval_always a b x d h i j
  same_three win.Sometimes a b x d h i j = same_span interval_sometimes a b x d h i j
  same_three win.DailySum a b x d h i j = same_span interval_sum a b x d h i j
  same_three win.Maximum a b x d h i j = same_span interval_max a b x d h i j
  same_three win.Minimum a b x d h i j = same_span interval_min a b x d h i j
  same_three win.ConsecutiveDays a b x d h i j = same_span interval_run a b x d h i j
  same_three _ a b x d h i j = refl

  same_window : (k : WinKind) (ms : List Meaning) (d : ℕ) → Same e f ms → window k ms e d ≡ window k ms f d
  same_window win.Before [] d h = refl
  same_window _ [] d h = refl
  same_window k (a ∷ []) d h = same_one k a d h.0
  same_window k (a ∷ x ∷ []) d h = same_two k a x d h.0 h.1.0
  same_window k (a ∷ b ∷ x ∷ []) d h = same_three k a b x d h.0 h.1.0 h.1.1.0
  same_window k (a ∷ b ∷ c ∷ x ∷ ms) d h = window_more k a b c x ms e d ∙ sym (window_more k a b c x ms f d)

module _ (s : Shape) (l : Look) where
  place_behind : (i : InstanceId) (e f : List InstanceId) (o : ℕ) → place l.container e o ≡ place l.container f o → place l.container (i ∷ e) o ≡ place l.container (i ∷ f) o
  place_behind i e f o h = find_behind (is_of o) (chain l.container i) (flat_map (chain l.container) e) (flat_map (chain l.container) f) h

  climb_first : (n : ℕ) (i : InstanceId) (o : ℕ) (more : List InstanceId) → is_of o i ≡ true → find (is_of o) (climb l.container n i ++ more) ≡ Some i
  climb_first zero i o more is = ap (λ b. cond b (Some i) (find (is_of o) more)) is
  climb_first (suc n) i o more is = ap (λ b. cond b (Some i) (find (is_of o) (option_map_or (climb l.container n) (l.container i) [] ++ more))) is

  place_first : (i : InstanceId) (e : List InstanceId) (o : ℕ) → is_of o i ≡ true → place l.container (i ∷ e) o ≡ Some i
  place_first i e o is = climb_first i.entity.0 i o (flat_map (chain l.container) e) is

  -- the listed instance is the place of its entity, and behind it others stay the same
  pub follows_within : (hidden inner : List ℕ) (e f x y : List InstanceId) (target : ℕ) (name : List ℕ) → ((o : ℕ) → Contains inner o → Contains hidden o ⊎ (target ≡ o)) → Follows l hidden e f x y → Follows l inner e f (named target name ∷ x) (named target name ∷ y)
  follows_within hidden inner e f x y target name cases follows o h = at h
    where
      listed : target ≡ o → place l.container (named target name ∷ x) o ≡ place l.container (named target name ∷ y) o
      listed is = let here = eq-eqb target o is in place_first (named target name) x o here ∙ sym (place_first (named target name) y o here)

      within : Contains hidden o ⊎ (target ≡ o) → place l.container (named target name ∷ x) o ≡ place l.container (named target name ∷ y) o
      within (inl has) = place_behind (named target name) x y o (follows o (inl has))
      within (inr is) = listed is

      at : HasOnePlace l inner e f o → place l.container (named target name ∷ x) o ≡ place l.container (named target name ∷ y) o
      at (inl has) = within (cases o has)
      at (inr is) = place_behind (named target name) x y o (follows o (inr is))

  module _ (x y : List InstanceId) where
    pub alike_const : (v : Value) → IsAlike s l x y (V.Const v)
    alike_const v = record { values = fun_ext (λ d. value-Const s l v x d ∙ sym (value-Const s l v y d)); used = fun_ext (λ d. uses-Const s l v x d ∙ sym (uses-Const s l v y d)) }

    pub alike_attr : (a : AttrId) → place l.container x (owner_of s a) ≡ place l.container y (owner_of s a) → IsAlike s l x y (V.Attr a)
    alike_attr a h = record {
      values = fun_ext (λ d. value-Attr s l a x d ∙ ap (λ p. at_place p (λ i. l.value a i d)) h ∙ sym (value-Attr s l a y d));
      used = fun_ext (λ d. uses-Attr s l a x d ∙ ap (λ p. at_place_uses p (λ i. Point a i d ∷ [])) h ∙ sym (uses-Attr s l a y d));
    }

    values_same : (ts : List Expr) (d : ℕ) → AllByRecursion (IsAlike s l x y) ts → map (λ t. value s l t x d) ts ≡ map (λ t. value s l t y d) ts
    values_same [] d h = refl
    values_same (t ∷ ts) d h = ap (λ (g : ℕ → Value). g d ∷ map (λ t. value s l t x d) ts) h.0.values ∙ ap (λ vs. value s l t y d ∷ vs) (values_same ts d h.1)

    pairs_same : (p : Value → Bool) (ts : List Expr) (d : ℕ) → AllByRecursion (IsAlike s l x y) ts → AllByRecursion (λ t. (p (value s l t x d) ≡ p (value s l t y d)) × (uses s l t x d ≡ uses s l t y d)) ts
    pairs_same p [] d h = tt
    pairs_same p (t ∷ ts) d h = ((ap (λ (g : ℕ → Value). p (g d)) h.0.values, ap (λ (g : ℕ → List Use). g d) h.0.used), pairs_same p ts d h.1)

    meanings_same : (ts : List Expr) → AllByRecursion (IsAlike s l x y) ts → Same x y (map (value s l) ts)
    meanings_same [] h = tt
    meanings_same (t ∷ ts) h = (h.0.values, meanings_same ts h.1)

    pub alike_all : (ts : List Expr) → AllByRecursion (IsAlike s l x y) ts → IsAlike s l x y (V.All ts)
    alike_all ts h = record {
      values = fun_ext (λ d. value-All s l ts x d ∙ ap all_of (values_same ts d h) ∙ sym (value-All s l ts y d));
      used = fun_ext (λ d. uses-All s l ts x d ∙ firsts_same (λ t. is_false (value s l t x d)) (λ t. is_false (value s l t y d)) (λ t. uses s l t x d) (λ t. uses s l t y d) ts (pairs_same is_false ts d h) ∙ sym (uses-All s l ts y d));
    }

    pub alike_any : (ts : List Expr) → AllByRecursion (IsAlike s l x y) ts → IsAlike s l x y (V.Any ts)
    alike_any ts h = record {
      values = fun_ext (λ d. value-Any s l ts x d ∙ ap any_of (values_same ts d h) ∙ sym (value-Any s l ts y d));
      used = fun_ext (λ d. uses-Any s l ts x d ∙ firsts_same (λ t. is_true (value s l t x d)) (λ t. is_true (value s l t y d)) (λ t. uses s l t x d) (λ t. uses s l t y d) ts (pairs_same is_true ts d h) ∙ sym (uses-Any s l ts y d));
    }

    pub alike_op : (k : OpKind) (ts : List Expr) → AllByRecursion (IsAlike s l x y) ts → IsAlike s l x y (V.Op k ts)
    alike_op k ts h = record {
      values = fun_ext (λ d. value-Op s l k ts x d ∙ ap (strict (op_of k)) (values_same ts d h) ∙ sym (value-Op s l k ts y d));
      used = fun_ext (λ d. uses-Op s l k ts x d ∙ flat_same (λ t. is_true (value s l t x d)) (λ t. is_true (value s l t y d)) (λ t. uses s l t x d) (λ t. uses s l t y d) ts (pairs_same is_true ts d h) ∙ sym (uses-Op s l k ts y d));
    }

    pub alike_not : (t : Expr) → IsAlike s l x y t → IsAlike s l x y (V.Not t)
    alike_not t h = record {
      values = fun_ext (λ d. value-Not s l t x d ∙ ap (λ (g : ℕ → Value). not_of (g d)) h.values ∙ sym (value-Not s l t y d));
      used = fun_ext (λ d. uses-Not s l t x d ∙ ap (λ (g : ℕ → List Use). g d) h.used ∙ sym (uses-Not s l t y d));
    }

    pub alike_certain : (t : Expr) → IsAlike s l x y t → IsAlike s l x y (V.Certain t)
    alike_certain t h = record {
      values = fun_ext (λ d. value-Certain s l t x d ∙ ap (λ (g : ℕ → Value). certain_of (g d)) h.values ∙ sym (value-Certain s l t y d));
      used = fun_ext (λ d. uses-Certain s l t x d ∙ ap (λ (g : ℕ → List Use). g d) h.used ∙ sym (uses-Certain s l t y d));
    }

    pub alike_known : (t : Expr) → IsAlike s l x y t → IsAlike s l x y (V.Known t)
    alike_known t h = record {
      values = fun_ext (λ d. value-Known s l t x d ∙ ap (λ (g : ℕ → Value). known_of (g d)) h.values ∙ sym (value-Known s l t y d));
      used = fun_ext (λ d. uses-Known s l t x d ∙ ap (λ (g : ℕ → List Use). g d) h.used ∙ sym (uses-Known s l t y d));
    }

    pub alike_rolling : (b : Bool) (n : ℕ) (t : Expr) → IsAlike s l x y t → IsAlike s l x y (V.Rolling b n t)
    alike_rolling b n t h = record {
      values = fun_ext (λ d. value-Rolling s l b n t x d ∙ ap (λ (g : ℕ → Value). rolling b n g d) h.values ∙ sym (value-Rolling s l b n t y d));
      used = fun_ext (λ d. uses-Rolling s l b n t x d ∙ ap (λ (g : ℕ → List Use). last_days_uses n g d) h.used ∙ sym (uses-Rolling s l b n t y d));
    }

    abbrev pairs : List Expr → List Used
    pairs ts = map (λ t. (t, uses s l t)) ts

    window_same : (ts : List Expr) (d : ℕ) → AllByRecursion (IsAlike s l x y) ts → window_uses s l (pairs ts) x d ≡ window_uses s l (pairs ts) y d
    window_same [] d h = refl
    window_same (a ∷ []) d h = ap (λ (g : ℕ → List Use). g d) h.0.used
    window_same (a ∷ b ∷ []) d h =
        ap (λ (g : ℕ → List Use). g d ++ on_date_uses (uses s l b x) (value s l a x d)) h.0.used
        ∙ ap (λ (g : ℕ → List Use). uses s l a y d ++ on_date_uses g (value s l a x d)) h.1.0.used
        ∙ ap (λ (g : ℕ → Value). uses s l a y d ++ on_date_uses (uses s l b y) (g d)) h.0.values
    window_same (a ∷ b ∷ c ∷ []) d h =
        ap (λ (g : ℕ → List Use). g d ++ (uses s l b x d ++ in_window_uses (uses s l c x) (value s l a x d) (value s l b x d))) h.0.used
        ∙ ap (λ (g : ℕ → List Use). uses s l a y d ++ (g d ++ in_window_uses (uses s l c x) (value s l a x d) (value s l b x d))) h.1.0.used
        ∙ ap (λ (g : ℕ → List Use). uses s l a y d ++ (uses s l b y d ++ in_window_uses g (value s l a x d) (value s l b x d))) h.1.1.0.used
        ∙ ap (λ (g : ℕ → Value). uses s l a y d ++ (uses s l b y d ++ in_window_uses (uses s l c y) (g d) (value s l b x d))) h.0.values
        ∙ ap (λ (g : ℕ → Value). uses s l a y d ++ (uses s l b y d ++ in_window_uses (uses s l c y) (value s l a y d) (g d))) h.1.0.values
    window_same (a ∷ b ∷ c ∷ t ∷ ts) d h = refl

    pub alike_window : (k : WinKind) (ts : List Expr) → AllByRecursion (IsAlike s l x y) ts → IsAlike s l x y (V.Window k ts)
    alike_window k ts h = record {
      values = fun_ext (λ d. value-Window s l k ts x d ∙ same_window x y k (map (value s l) ts) d (meanings_same ts h) ∙ sym (value-Window s l k ts y d));
      used = fun_ext (λ d. uses-Window s l k ts x d ∙ window_same ts d h ∙ sym (uses-Window s l k ts y d));
    }

    table_same : (rs : List Row) (t : Expr) (d : ℕ) → AllByRecursion (IsRowAlike s l x y) rs → IsAlike s l x y t → table (map (row_meaning s l) rs) (value s l t) x d ≡ table (map (row_meaning s l) rs) (value s l t) y d
    table_same [] t d h last = ap (λ (g : ℕ → Value). g d) last.values
    table_same (r ∷ rs) t d h last =
        ap (λ (g : ℕ → Value). choose (g d) (value s l r.value x d) (table (map (row_meaning s l) rs) (value s l t) x d)) h.0.cond.values
        ∙ ap (λ (g : ℕ → Value). choose (value s l r.cond y d) (g d) (table (map (row_meaning s l) rs) (value s l t) x d)) h.0.value.values
        ∙ ap (λ v. choose (value s l r.cond y d) (value s l r.value y d) v) (table_same rs t d h.1 last)

    rows_same : (rs : List Row) (t : Expr) (d : ℕ) → AllByRecursion (IsRowAlike s l x y) rs → IsAlike s l x y t → rows_uses s l rs (uses s l t) x d ≡ rows_uses s l rs (uses s l t) y d
    rows_same [] t d h last = ap (λ (g : ℕ → List Use). g d) last.used
    rows_same (r ∷ rs) t d h last =
        ap (λ (g : ℕ → List Use). g d ++ after_cond (value s l r.cond x d) (uses s l r.value x d) (rows_uses s l rs (uses s l t) x d)) h.0.cond.used
        ∙ ap (λ (g : ℕ → Value). uses s l r.cond y d ++ after_cond (g d) (uses s l r.value x d) (rows_uses s l rs (uses s l t) x d)) h.0.cond.values
        ∙ ap (λ (g : ℕ → List Use). uses s l r.cond y d ++ after_cond (value s l r.cond y d) (g d) (rows_uses s l rs (uses s l t) x d)) h.0.value.used
        ∙ ap (λ us. uses s l r.cond y d ++ after_cond (value s l r.cond y d) (uses s l r.value y d) us) (rows_same rs t d h.1 last)

    pub alike_table : (rs : List Row) (t : Expr) → AllByRecursion (IsRowAlike s l x y) rs → IsAlike s l x y t → IsAlike s l x y (V.Table rs t)
    alike_table rs t h last = record {
      values = fun_ext (λ d. value-Table s l rs t x d ∙ table_same rs t d h last ∙ sym (value-Table s l rs t y d));
      used = fun_ext (λ d. uses-Table s l rs t x d ∙ rows_same rs t d h last ∙ sym (uses-Table s l rs t y d));
    }

    item_values : (ts : List Expr) (d : ℕ) → AllByRecursion (IsAlike s l x y) ts → map (λ (z : Used). value s l z.0 x d) (pairs ts) ≡ map (λ (z : Used). value s l z.0 y d) (pairs ts)
    item_values [] d h = refl
    item_values (t ∷ ts) d h = ap (λ (g : ℕ → Value). g d ∷ map (λ (z : Used). value s l z.0 x d) (pairs ts)) h.0.values ∙ ap (λ vs. value s l t y d ∷ vs) (item_values ts d h.1)

    item_same : (q : Quant) (ts : List Expr) (d : ℕ) → AllByRecursion (IsAlike s l x y) ts → item_uses s l q (pairs ts) x d ≡ item_uses s l q (pairs ts) y d
    item_same quant.SumIf [] d h = refl
    item_same _ [] d h = refl
    item_same quant.SumIf (a ∷ []) d h = ap (λ (g : ℕ → List Use). g d) h.0.used
    item_same _ (a ∷ []) d h = ap (λ (g : ℕ → List Use). g d) h.0.used
    item_same quant.SumIf (a ∷ b ∷ []) d h =
        ap (λ (g : ℕ → List Use). g d ++ cond (is_true (value s l b x d)) (uses s l a x d) []) h.1.0.used
        ∙ ap (λ (g : ℕ → Value). uses s l b y d ++ cond (is_true (g d)) (uses s l a x d) []) h.1.0.values
        ∙ ap (λ (g : ℕ → List Use). uses s l b y d ++ cond (is_true (value s l b y d)) (g d) []) h.0.used
    item_same _ (a ∷ b ∷ []) d h = refl
    item_same quant.SumIf (a ∷ b ∷ c ∷ ts) d h = refl
    item_same _ (a ∷ b ∷ c ∷ ts) d h = refl

  over_same : (q : Quant) (target : ℕ) (members : Option (List (List ℕ))) (ts : List Expr) (x y : List InstanceId) (d : ℕ) → ((name : List ℕ) → AllByRecursion (IsAlike s l (named target name ∷ x) (named target name ∷ y)) ts)
      → over q target members (map (value s l) ts) x d ≡ over q target members (map (value s l) ts) y d
  over_same q target None ts x y d h = refl
  over_same q target (Some names) ts x y d h =
      ap (λ g. quant_of q (map g names)) (fun_ext (λ name. ap (item q) (same_each (named target name ∷ x) (named target name ∷ y) (map (value s l) ts) d (meanings_same (named target name ∷ x) (named target name ∷ y) ts (h name)))))

  over_used : (q : Quant) (target : ℕ) (members : Option (List (List ℕ))) (ts : List Expr) (x y : List InstanceId) (d : ℕ) → ((name : List ℕ) → AllByRecursion (IsAlike s l (named target name ∷ x) (named target name ∷ y)) ts)
      → over_uses s l q target members (map (λ t. (t, uses s l t)) ts) x d ≡ over_uses s l q target members (map (λ t. (t, uses s l t)) ts) y d
  over_used q target members ts x y d h =
      let ps = map (λ t. (t, uses s l t)) ts in
      ap (λ v. list_uses members (λ names. member_uses q v (λ n. item_uses s l q ps (named target n ∷ x) d) names)) (fun_ext (λ n. ap (item q) (item_values (named target n ∷ x) (named target n ∷ y) ts d (h n))))
      ∙ ap (λ u. list_uses members (λ names. member_uses q (λ n. item_value s l q ps (named target n ∷ y) d) u names)) (fun_ext (λ n. item_same (named target n ∷ x) (named target n ∷ y) q ts d (h n)))

  at_places : (p : Option InstanceId) (g h : InstanceId → Value) → ((i : InstanceId) → g i ≡ h i) → at_place p g ≡ at_place p h
  at_places None g h same = refl
  at_places (Some i) g h same = same i

  uses_at_places : (p : Option InstanceId) (g h : InstanceId → List Use) → ((i : InstanceId) → g i ≡ h i) → at_place_uses p g ≡ at_place_uses p h
  uses_at_places None g h same = refl
  uses_at_places (Some i) g h same = same i

  pub alike_over : (q : Quant) (r : RelId) (ts : List Expr) (x y : List InstanceId) → place l.container x (s.source r) ≡ place l.container y (s.source r) → ((name : List ℕ) → AllByRecursion (IsAlike s l (named (s.target r) name ∷ x) (named (s.target r) name ∷ y)) ts)
      → IsAlike s l x y (V.Over q r ts)
  alike_over q r ts x y same h = record {
    values = fun_ext (λ d. value-Over s l q r ts x d ∙ ap (λ p. at_place p (λ i. over q (s.target r) (l.members r i) (map (value s l) ts) x d)) same
        ∙ at_places (place l.container y (s.source r)) _ _ (λ i. over_same q (s.target r) (l.members r i) ts x y d h) ∙ sym (value-Over s l q r ts y d));
    used = fun_ext (λ d. uses-Over s l q r ts x d ∙ ap (λ p. at_place_uses p (λ i. Listed r i ∷ over_uses s l q (s.target r) (l.members r i) (map (λ t. (t, uses s l t)) ts) x d)) same
        ∙ uses_at_places (place l.container y (s.source r)) _ _ (λ i. ap (λ us. Listed r i ∷ us) (over_used q (s.target r) (l.members r i) ts x y d h)) ∙ sym (uses-Over s l q r ts y d));
  }
