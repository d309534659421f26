-- The constants of rules that the grammar gives can be printed.
use Rattle.std.proofs.Common.{◌≡◌, ◌⊎◌, inl, inr, ℕ, pos, Bool, List, [], ◌∷◌, ◌++◌, map, sym, subst}
use Rattle.opa_value.specs.declared.value.Value.{Value}
use Rattle.opa_value.specs.declared.value.Value.TheVariants as value
use Rattle.opa_model.specs.declared.ids.AttrId.{AttrId}
use Rattle.opa_model.specs.declared.ids.RelId.{RelId}
use Rattle.opa_model.specs.declared.lists.Lists.{Lists}
use Rattle.opa_model.specs.declared.things.Kind.TheVariants as kind
use Rattle.opa_text.specs.Laws.{CanBeWritten}
use Rattle.opa_tree.specs.declared.kinds.OpKind.{OpKind}
use Rattle.opa_tree.specs.declared.kinds.OpKind.TheVariants as op
use Rattle.opa_tree.specs.declared.kinds.Quant.{Quant}
use Rattle.opa_tree.specs.declared.kinds.WinKind.{WinKind}
use Rattle.opa_tree.specs.declared.expr.Expr.{Expr}
use Rattle.opa_tree.specs.declared.expr.Expr.TheVariants as expr
use Rattle.opa_tree.specs.declared.expr.Expr.TheFolds.{fold-Row}
use Rattle.opa_tree.specs.declared.expr.Row.{Row}
use Rattle.opa_tree.specs.declared.rules.Rule.{Rule}
use Rattle.opa_tree.proofs.Folds.{fold-Const, fold-Attr, fold-All, fold-Any, fold-Not, fold-Op, fold-Certain, fold-Known, fold-Over, fold-Window, fold-Rolling, fold-Table, fold-of_row}
use Rattle.opa_wording.specs.Given as given
use Rattle.opa_wording.specs.Given.{IsRow, AreRows, IsTree, IsRule}
use Rattle.opa_wording.specs.Grammatical as grammar
use Rattle.opa_wording.specs.Grammatical.{IsGrammatical, AreGrammatical}
use Rattle.opa_wording.specs.ReadBack.{IsBare}
use Rattle.opa_verify.specs.Verdict.Fine.{IsFine, AreFine, together, constants_step, constants_row, constants}

-- ---- the constants of each sort of tree

unfoldable row_constants : Row → List Value
row_constants = fold-Row (List Value) (List Value) constants_step constants_row

module _ where
  constants-Const : (v : Value) → constants (expr.Const v) ≡ v ∷ []
  unfolding constants
  constants-Const v = fold-Const (List Value) (List Value) constants_step constants_row v

  constants-Attr : (a : AttrId) → constants (expr.Attr a) ≡ []
  unfolding constants
  constants-Attr a = fold-Attr (List Value) (List Value) constants_step constants_row a

  constants-All : (es : List Expr) → constants (expr.All es) ≡ together (map constants es)
  unfolding constants
  constants-All es = fold-All (List Value) (List Value) constants_step constants_row es

  constants-Any : (es : List Expr) → constants (expr.Any es) ≡ together (map constants es)
  unfolding constants
  constants-Any es = fold-Any (List Value) (List Value) constants_step constants_row es

  constants-Not : (e : Expr) → constants (expr.Not e) ≡ constants e
  unfolding constants
  constants-Not e = fold-Not (List Value) (List Value) constants_step constants_row e

  constants-Op : (k : OpKind) (es : List Expr) → constants (expr.Op k es) ≡ together (map constants es)
  unfolding constants
  constants-Op k es = fold-Op (List Value) (List Value) constants_step constants_row k es

  constants-Certain : (e : Expr) → constants (expr.Certain e) ≡ constants e
  unfolding constants
  constants-Certain e = fold-Certain (List Value) (List Value) constants_step constants_row e

  constants-Known : (e : Expr) → constants (expr.Known e) ≡ constants e
  unfolding constants
  constants-Known e = fold-Known (List Value) (List Value) constants_step constants_row e

  constants-Over : (q : Quant) (r : RelId) (es : List Expr) → constants (expr.Over q r es) ≡ together (map constants es)
  unfolding constants
  constants-Over q r es = fold-Over (List Value) (List Value) constants_step constants_row q r es

  constants-Window : (k : WinKind) (es : List Expr) → constants (expr.Window k es) ≡ together (map constants es)
  unfolding constants
  constants-Window k es = fold-Window (List Value) (List Value) constants_step constants_row k es

  constants-Rolling : (b : Bool) (n : ℕ) (e : Expr) → constants (expr.Rolling b n e) ≡ constants e
  unfolding constants
  constants-Rolling b n e = fold-Rolling (List Value) (List Value) constants_step constants_row b n e

  constants-Table : (rows : List Row) (last : Expr) → constants (expr.Table rows last) ≡ together (map row_constants rows) ++ constants last
  unfolding constants row_constants
  constants-Table rows last = fold-Table (List Value) (List Value) constants_step constants_row rows last

  row_constants-is : (r : Row) → row_constants r ≡ constants r.cond ++ constants r.value
  unfolding constants row_constants
  row_constants-is r = fold-of_row (List Value) (List Value) constants_step constants_row r

-- ---- trees

both_fine : (xs ys : List Value) → AreFine xs → AreFine ys → AreFine (xs ++ ys)
both_fine [] ys h k = k
both_fine (x ∷ xs) ys h k = (h.0, both_fine xs ys h.1 k)

value_fine : (v : Value) → CanBeWritten kind.Number v → IsFine v
value_fine value.Unknown h = tt
value_fine value.Uncertain h = tt
value_fine (value.Bool b) h = tt
value_fine (value.Num n) h = h.0
value_fine (value.Words t) h = h
value_fine (value.Day d) h = tt

module _ (m : Lists) where
  mutual
    tree_fine : {e : Expr} → IsGrammatical m e → AreFine (constants e)
    tree_fine (grammar.IsGrammatical.literal v is can) = subst AreFine (sym (constants-Const v)) (value_fine v can, tt)
    tree_fine (grammar.IsGrammatical.attribute a has) = let none : AreFine [] = tt in subst AreFine (sym (constants-Attr a)) none
    tree_fine (grammar.IsGrammatical.all es n h) = subst AreFine (sym (constants-All es)) (trees_fine h)
    tree_fine (grammar.IsGrammatical.any es n h) = subst AreFine (sym (constants-Any es)) (trees_fine h)
    tree_fine (grammar.IsGrammatical.not e h) = subst AreFine (sym (constants-Not e)) (tree_fine h)
    tree_fine (grammar.IsGrammatical.operation k es r n h) = subst AreFine (sym (constants-Op k es)) (trees_fine h)
    tree_fine (grammar.IsGrammatical.round e n range h) =
        let number : Value = value.Num (pos n) in
        let last : AreFine (constants (expr.Const number)) = subst AreFine (sym (constants-Const number)) (range, tt) in
        subst AreFine (sym (constants-Op op.Round (e ∷ expr.Const number ∷ []))) (both_fine (constants e) (constants (expr.Const number) ++ []) (tree_fine h) (both_fine (constants (expr.Const number)) [] last tt))
    tree_fine (grammar.IsGrammatical.certain e h) = subst AreFine (sym (constants-Certain e)) (tree_fine h)
    tree_fine (grammar.IsGrammatical.known e h) = subst AreFine (sym (constants-Known e)) (tree_fine h)
    tree_fine (grammar.IsGrammatical.over q r es has n h) = subst AreFine (sym (constants-Over q r es)) (trees_fine h)
    tree_fine (grammar.IsGrammatical.window k es n h) = subst AreFine (sym (constants-Window k es)) (trees_fine h)
    tree_fine (grammar.IsGrammatical.rolling always n e most h) = subst AreFine (sym (constants-Rolling always n e)) (tree_fine h)

    trees_fine : {es : List Expr} → AreGrammatical m es → AreFine (together (map constants es))
    trees_fine grammar.AreGrammatical.none = tt
    trees_fine (grammar.AreGrammatical.one_more e es h k) = both_fine (constants e) (together (map constants es)) (tree_fine h) (trees_fine k)

  rows_fine : (rows : List Row) → AreRows m rows → AreFine (together (map row_constants rows))
  rows_fine [] h = tt
  rows_fine (r ∷ rows) h =
      both_fine (row_constants r) (together (map row_constants rows)) (subst AreFine (sym (row_constants-is r)) (both_fine (constants r.cond) (constants r.value) (tree_fine h.0.cond) (tree_fine h.0.value))) (rows_fine rows h.1)

  table_fine : (rows : List Row) (last : Expr) → AreRows m rows → IsGrammatical m last → AreFine (constants (expr.Table rows last))
  table_fine rows last h k = subst AreFine (sym (constants-Table rows last)) (both_fine (together (map row_constants rows)) (constants last) (rows_fine rows h) (tree_fine k))

  below_fine : {by_if : Bool} {e : Expr} → IsTree m by_if e → AreFine (constants e)
  below_fine (given.IsTree.conditions e h) = tree_fine h
  below_fine (given.IsTree.equation e h) = tree_fine h
  below_fine (given.IsTree.table rows last n h k) = table_fine rows last h k

  pub rule_fine : (r : Rule) → IsBare m r.expr ⊎ IsRule m r → AreFine (constants r.expr)
  rule_fine r (inl bare) = subst (λ (e : Expr). AreFine (constants e)) (sym bare.2) (table_fine [] bare.0 tt bare.1)
  rule_fine r (inr own) = below_fine own.tree
