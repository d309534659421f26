-- Rows, and what is found of them.
use Rattle.std.proofs.Common.{◌≡◌, ℕ, zero, suc, ◌+◌, ◌<◌, ◌≤◌, Bool, true, false, not, cond, nat_lt, List, [], ◌∷◌, ◌++◌, length, take, slice_get, position, Option, None, Some, IfSome, refl, sym, ap, ◌∙◌, subst, true≢false, ltb-true, lt-ltb, append-nil, append_assoc, arith}
use Rattle.std.specs.List.{position_or_len}
use Rattle.std.proofs.lemmas.Option.{same_Some}
use Rattle.opa_value.specs.declared.value.Value.{Value}
use Rattle.opa_model.specs.declared.ids.AttrId.{AttrId}
use Rattle.opa_model.specs.declared.ids.RelId.{RelId}
use Rattle.opa_tree.specs.declared.kinds.OpKind.{OpKind}
use Rattle.opa_tree.specs.declared.kinds.Quant.{Quant}
use Rattle.opa_tree.specs.declared.kinds.WinKind.{WinKind}
use Rattle.opa_tree.specs.declared.expr.Expr.{Expr}
use Rattle.opa_tree.specs.declared.expr.Row.{Row}
use Rattle.opa_tree.specs.declared.expr.Expr.TheOpen.{Expr-F, Const, Attr, All, Any, Not, Op, Certain, Known, Over, Window, Rolling, Table}
use Rattle.opa_tree.specs.declared.expr.Expr.TheVariants as V
use Rattle.opa_tree.specs.declared.expr.Expr.TheViews.{roll-Expr, out-Expr, out-roll-Expr}
use Rattle.opa_tree.specs.declared.rules.Rule.{Rule}
use Rattle.opa_tree.proofs.Induction.{by_parts, without}
use Rattle.opa_rules.specs.declared.reviewing.finding.Finding.{Finding}
use Rattle.opa_rules.specs.Reviewing.Rows.{covers, covering, of_option, of_place, of_rows, rows_by, rows_of}

-- ---- the first that passes

module _ {X : Type 0} (p : X → Bool) where
  -- at the place of the first that passes, where it is within the list
  first_passes : (xs : List X) → nat_lt (position_or_len p xs) (length xs) ≡ true → (x : X) × (slice_get xs (position_or_len p xs) ≡ Some x) × (p x ≡ true)
  first_passes [] e = absurd (true≢false (sym e))
  first_passes (x ∷ xs) e = go (p x) refl e (first_passes xs)
    where
      go : (b : Bool) → p x ≡ b → nat_lt (cond (not b) (1 + position_or_len p xs) 0) (suc (length xs)) ≡ true
          → (nat_lt (position_or_len p xs) (length xs) ≡ true → (y : X) × (slice_get xs (position_or_len p xs) ≡ Some y) × (p y ≡ true))
          → (y : X) × (slice_get (x ∷ xs) (cond (not b) (1 + position_or_len p xs) 0) ≡ Some y) × (p y ≡ true)
      go true is h more = (x, refl, is)
      go false is h more =
          let next : 1 + position_or_len p xs ≡ suc (position_or_len p xs) = omega arith in
          let lt : 1 + position_or_len p xs < suc (length xs) = ltb-true (1 + position_or_len p xs) (suc (length xs)) h in
          let rest = more (lt-ltb (position_or_len p xs) (length xs) (omega (arith, lt))) in
          (rest.0, ap (slice_get (x ∷ xs)) next ∙ rest.1, rest.2)

  pub position_tells : (xs : List X) (n : ℕ) → position p xs ≡ Some n → (n < length xs) × ((x : X) × (slice_get xs n ≡ Some x) × (p x ≡ true))
  position_tells xs n e = go (nat_lt (position_or_len p xs) (length xs)) refl e
    where
      go : (b : Bool) → nat_lt (position_or_len p xs) (length xs) ≡ b → cond b (Some (position_or_len p xs)) None ≡ Some n → (n < length xs) × ((x : X) × (slice_get xs n ≡ Some x) × (p x ≡ true))
      go true is h =
          let same : position_or_len p xs ≡ n = same_Some (position_or_len p xs) n h in
          let first = first_passes xs is in
          (subst (λ m. m < length xs) same (ltb-true (position_or_len p xs) (length xs) is), (first.0, ap (slice_get xs) (sym same) ∙ first.1, first.2))
      go false is h = absurd (cc h)

pub covering_within : (o : Option ℕ) (earlier : List Row) (e : Expr) → o ≡ covering earlier e → IfSome o (λ n. n < length earlier)
covering_within None earlier e is = tt
covering_within (Some n) earlier e is = (position_tells (λ (r : Row). covers r.cond e) earlier n (sym is)).0

-- ---- the rows of a tree

opened : (x : Expr-F Expr Row) (e : Expr) → roll-Expr x ≡ e → rows_of e ≡ rows_by x
opened x e is = ap rows_by (ap out-Expr (sym is) ∙ out-roll-Expr x)

pub rows-Const : (v : Value) → rows_of (V.Const v) ≡ []
rows-Const v = opened (Const v) (V.Const v) (V.rolls-Const v)

pub rows-Attr : (a : AttrId) → rows_of (V.Attr a) ≡ []
rows-Attr a = opened (Attr a) (V.Attr a) (V.rolls-Attr a)

pub rows-All : (es : List Expr) → rows_of (V.All es) ≡ []
rows-All es = opened (All es) (V.All es) (V.rolls-All es)

pub rows-Any : (es : List Expr) → rows_of (V.Any es) ≡ []
rows-Any es = opened (Any es) (V.Any es) (V.rolls-Any es)

pub rows-Not : (e : Expr) → rows_of (V.Not e) ≡ []
rows-Not e = opened (Not e) (V.Not e) (V.rolls-Not e)

pub rows-Op : (k : OpKind) (es : List Expr) → rows_of (V.Op k es) ≡ []
rows-Op k es = opened (Op k es) (V.Op k es) (V.rolls-Op k es)

pub rows-Certain : (e : Expr) → rows_of (V.Certain e) ≡ []
rows-Certain e = opened (Certain e) (V.Certain e) (V.rolls-Certain e)

pub rows-Known : (e : Expr) → rows_of (V.Known e) ≡ []
rows-Known e = opened (Known e) (V.Known e) (V.rolls-Known e)

pub rows-Over : (q : Quant) (r : RelId) (es : List Expr) → rows_of (V.Over q r es) ≡ []
rows-Over q r es = opened (Over q r es) (V.Over q r es) (V.rolls-Over q r es)

pub rows-Window : (k : WinKind) (es : List Expr) → rows_of (V.Window k es) ≡ []
rows-Window k es = opened (Window k es) (V.Window k es) (V.rolls-Window k es)

pub rows-Rolling : (b : Bool) (n : ℕ) (e : Expr) → rows_of (V.Rolling b n e) ≡ []
rows-Rolling b n e = opened (Rolling b n e) (V.Rolling b n e) (V.rolls-Rolling b n e)

pub rows-Table : (rows : List Row) (last : Expr) → rows_of (V.Table rows last) ≡ rows
rows-Table rows last = opened (Table rows last) (V.Table rows last) (V.rolls-Table rows last)

pub ruleset rows_laws = (rows-Const, rows-Attr, rows-All, rows-Any, rows-Not, rows-Op, rows-Certain, rows-Known, rows-Over, rows-Window, rows-Rolling, rows-Table)

-- a tree with rows is their table
abbrev IsTableOf : Expr → Type 0
IsTableOf e = (n : ℕ) (r : Row) → slice_get (rows_of e) n ≡ Some r → (last : Expr) × (e ≡ V.Table (rows_of e) last)

none_at : {e : Expr} (rows : List Row) (n : ℕ) (r : Row) → rows ≡ [] → slice_get rows n ≡ Some r → (last : Expr) × (e ≡ V.Table rows last)
none_at [] n r is e = absurd (cc e)
none_at (x ∷ rows) n r is e = absurd (cc is)

level_is : (x : Expr-F Expr Row) → IsTableOf (roll-Expr x)
level_is (Const v) n r h = none_at _ n r (ap rows_by (out-roll-Expr (Const v))) h
level_is (Attr a) n r h = none_at _ n r (ap rows_by (out-roll-Expr (Attr a))) h
level_is (All es) n r h = none_at _ n r (ap rows_by (out-roll-Expr (All es))) h
level_is (Any es) n r h = none_at _ n r (ap rows_by (out-roll-Expr (Any es))) h
level_is (Not e) n r h = none_at _ n r (ap rows_by (out-roll-Expr (Not e))) h
level_is (Op k es) n r h = none_at _ n r (ap rows_by (out-roll-Expr (Op k es))) h
level_is (Certain e) n r h = none_at _ n r (ap rows_by (out-roll-Expr (Certain e))) h
level_is (Known e) n r h = none_at _ n r (ap rows_by (out-roll-Expr (Known e))) h
level_is (Over q o es) n r h = none_at _ n r (ap rows_by (out-roll-Expr (Over q o es))) h
level_is (Window k es) n r h = none_at _ n r (ap rows_by (out-roll-Expr (Window k es))) h
level_is (Rolling b m e) n r h = none_at _ n r (ap rows_by (out-roll-Expr (Rolling b m e))) h
level_is (Table rows last) n r h = (last, V.rolls-Table rows last ∙ ap (λ xs. V.Table xs last) (sym (ap rows_by (out-roll-Expr (Table rows last)))))

pub table_of : (e : Expr) → IsTableOf e
table_of = by_parts IsTableOf (λ z. level_is (without IsTableOf z))

-- ---- what is found of the first so many rows

pub rows_zero : (rule : Rule) (rows : List Row) → of_rows rule rows 0 ≡ []
unfolding of_rows
rows_zero rule rows = refl

pub rows_suc : (rule : Rule) (rows : List Row) (n : ℕ) → of_rows rule rows (suc n) ≡ of_rows rule rows n ++ of_place rule rows n
unfolding of_rows
rows_suc rule rows n = refl

pub none_yet : (fs : List Finding) (rule : Rule) (rows : List Row) → fs ≡ fs ++ of_rows rule rows 0
none_yet fs rule rows = sym (ap (λ xs. fs ++ xs) (rows_zero rule rows) ∙ append-nil fs)

pub one_more : (fs old new : List Finding) (rule : Rule) (rows : List Row) (n : ℕ) → old ≡ fs ++ of_rows rule rows n → new ≡ old ++ of_place rule rows n → new ≡ fs ++ of_rows rule rows (n + 1)
one_more fs old new rule rows n before is =
    let next : suc n ≡ n + 1 = omega arith in
    is ∙ ap (λ xs. xs ++ of_place rule rows n) before ∙ append_assoc fs (of_rows rule rows n) (of_place rule rows n)
    ∙ ap (λ xs. fs ++ xs) (sym (rows_suc rule rows n) ∙ ap (of_rows rule rows) next)

-- behind the last row there is none
pub no_row : (fs : List Finding) (rule : Rule) (rows : List Row) (n : ℕ) → slice_get rows n ≡ None → fs ≡ fs ++ of_place rule rows n
no_row fs rule rows n is = sym (ap (λ o. fs ++ of_option rule (take n rows) o) is ∙ append-nil fs)

-- ---- the first so many things

module _ {X : Type 0} where
  pub short_take : (n : ℕ) (xs : List X) → n ≤ length xs → n ≡ length (take n xs)
  short_take zero xs le = refl
  short_take (suc n) [] le = absurd (omega (arith, le))
  short_take (suc n) (x ∷ xs) le = ap suc (short_take n xs (omega (arith, le)))

  pub whole_take : (n : ℕ) (xs : List X) → length xs ≤ n → xs ≡ take n xs
  whole_take zero [] le = refl
  whole_take zero (x ∷ xs) le = absurd (omega (arith, le))
  whole_take (suc n) [] le = refl
  whole_take (suc n) (x ∷ xs) le = ap (λ ys. x ∷ ys) (whole_take n xs (omega (arith, le)))
