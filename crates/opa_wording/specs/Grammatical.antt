-- The trees that the grammar of a line gives.
use Rattle.std.specs.Prelude.{◌≡◌, ◌≤◌, ℕ, pos, Bool, true, false, List, [], ◌∷◌, length}
use Rattle.opa_value.specs.declared.value.Value.{Value}
use Rattle.opa_value.specs.declared.value.Value.TheVariants as value
use Rattle.opa_value.specs.Numbers.{InRange}
use Rattle.opa_model.specs.declared.ids.AttrId.{AttrId}
use Rattle.opa_model.specs.declared.ids.RelId.{RelId}
use Rattle.opa_model.specs.declared.lists.Lists.{Lists}
use Rattle.opa_model.specs.declared.things.Kind.TheVariants as kind
use Rattle.opa_model.specs.Models.{HasAttribute, HasRelation}
use Rattle.opa_text.specs.Laws.{CanBeWritten}
use Rattle.opa_tree.specs.declared.kinds.OpKind.{OpKind}
use Rattle.opa_tree.specs.declared.kinds.OpKind.TheVariants as op
use Rattle.opa_tree.specs.declared.kinds.Quant.{Quant}
use Rattle.opa_tree.specs.declared.kinds.WinKind.{WinKind}
use Rattle.opa_tree.specs.declared.expr.Expr.{Expr}
use Rattle.opa_tree.specs.declared.expr.Expr.TheVariants as expr
use Rattle.opa_tree.specs.Trees.{is_literal, op_arity, quant_arity, window_arity}
use Rattle.opa_io.specs.declared.limits.TheConstants.{MOST_DAYS}

-- `Round` is written with a number, and each other operation with trees alone
abbrev pub is_round : OpKind → Bool
is_round op.Round = true
is_round k = false

module _ (m : Lists) where
  mutual
    -- a tree that the grammar of a line gives, over these declarations
    pub data IsGrammatical : Expr → Type 0 where
      literal : (v : Value) → is_literal v ≡ true → CanBeWritten kind.Number v → IsGrammatical (expr.Const v)
      attribute : (a : AttrId) → HasAttribute m a → IsGrammatical (expr.Attr a)
      all : (es : List Expr) → 2 ≤ length es → AreGrammatical es → IsGrammatical (expr.All es)
      any : (es : List Expr) → 2 ≤ length es → AreGrammatical es → IsGrammatical (expr.Any es)
      not : (e : Expr) → IsGrammatical e → IsGrammatical (expr.Not e)
      operation : (k : OpKind) (es : List Expr) → is_round k ≡ false → length es ≡ op_arity k → AreGrammatical es → IsGrammatical (expr.Op k es)
      round : (e : Expr) (n : ℕ) → InRange (pos n) → IsGrammatical e → IsGrammatical (expr.Op op.Round (e ∷ expr.Const (value.Num (pos n)) ∷ []))
      certain : (e : Expr) → IsGrammatical e → IsGrammatical (expr.Certain e)
      known : (e : Expr) → IsGrammatical e → IsGrammatical (expr.Known e)
      over : (q : Quant) (r : RelId) (es : List Expr) → HasRelation m r → length es ≡ quant_arity q → AreGrammatical es → IsGrammatical (expr.Over q r es)
      window : (k : WinKind) (es : List Expr) → length es ≡ window_arity k → AreGrammatical es → IsGrammatical (expr.Window k es)
      rolling : (always : Bool) (n : ℕ) (e : Expr) → n ≤ MOST_DAYS → IsGrammatical e → IsGrammatical (expr.Rolling always n e)

    pub data AreGrammatical : List Expr → Type 0 where
      none : AreGrammatical []
      one_more : (e : Expr) (es : List Expr) → IsGrammatical e → AreGrammatical es → AreGrammatical (e ∷ es)
