-- The digest of each sort of tree.
use Rattle.std.proofs.Common.{◌≡◌, ◌∙◌, ◌+◌, ap, ap₂, sym, refl, ℕ, Bool, List, [], ◌∷◌, map, fold}
use Rattle.opa_value.specs.declared.value.Value.{Value}
use Rattle.opa_model.specs.declared.ids.AttrId.{AttrId}
use Rattle.opa_model.specs.declared.ids.RelId.{RelId}
use Rattle.opa_tree.specs.declared.kinds.OpKind.{OpKind}
use Rattle.opa_tree.specs.declared.kinds.Quant.{Quant}
use Rattle.opa_tree.specs.declared.kinds.WinKind.{WinKind}
use Rattle.opa_tree.specs.declared.expr.Expr.{Expr}
use Rattle.opa_tree.specs.declared.expr.Row.{Row}
use Rattle.opa_tree.specs.declared.expr.Expr.TheOpen.{Const, Attr, All, Any, Not, Op, Certain, Known, Over, Window, Rolling, Table}
use Rattle.opa_tree.specs.declared.expr.Expr.TheVariants as V
use Rattle.opa_tree.specs.declared.expr.Expr.TheFolds.{fold-Row}
use Rattle.opa_tree.proofs.Folds.{fold-Const, fold-Attr, fold-All, fold-Any, fold-Not, fold-Op, fold-Certain, fold-Known, fold-Over, fold-Window, fold-Rolling, fold-Table, fold-of_row}
use Rattle.opa_rules.specs.Reviewing.Digests.{mixed, digest_step, digest_row, digest, row_digest}

pub digest-Const : (v : Value) → digest (V.Const v) ≡ digest_step (Const v)
unfolding digest
digest-Const v = fold-Const ℕ ℕ digest_step digest_row v

pub digest-Attr : (a : AttrId) → digest (V.Attr a) ≡ digest_step (Attr a)
unfolding digest
digest-Attr a = fold-Attr ℕ ℕ digest_step digest_row a

pub digest-All : (es : List Expr) → digest (V.All es) ≡ digest_step (All (map digest es))
unfolding digest
digest-All es = fold-All ℕ ℕ digest_step digest_row es

pub digest-Any : (es : List Expr) → digest (V.Any es) ≡ digest_step (Any (map digest es))
unfolding digest
digest-Any es = fold-Any ℕ ℕ digest_step digest_row es

pub digest-Not : (e : Expr) → digest (V.Not e) ≡ digest_step (Not (digest e))
unfolding digest
digest-Not e = fold-Not ℕ ℕ digest_step digest_row e

pub digest-Op : (k : OpKind) (es : List Expr) → digest (V.Op k es) ≡ digest_step (Op k (map digest es))
unfolding digest
digest-Op k es = fold-Op ℕ ℕ digest_step digest_row k es

pub digest-Certain : (e : Expr) → digest (V.Certain e) ≡ digest_step (Certain (digest e))
unfolding digest
digest-Certain e = fold-Certain ℕ ℕ digest_step digest_row e

pub digest-Known : (e : Expr) → digest (V.Known e) ≡ digest_step (Known (digest e))
unfolding digest
digest-Known e = fold-Known ℕ ℕ digest_step digest_row e

pub digest-Over : (q : Quant) (r : RelId) (es : List Expr) → digest (V.Over q r es) ≡ digest_step (Over q r (map digest es))
unfolding digest
digest-Over q r es = fold-Over ℕ ℕ digest_step digest_row q r es

pub digest-Window : (k : WinKind) (es : List Expr) → digest (V.Window k es) ≡ digest_step (Window k (map digest es))
unfolding digest
digest-Window k es = fold-Window ℕ ℕ digest_step digest_row k es

pub digest-Rolling : (b : Bool) (n : ℕ) (e : Expr) → digest (V.Rolling b n e) ≡ digest_step (Rolling b n (digest e))
unfolding digest
digest-Rolling b n e = fold-Rolling ℕ ℕ digest_step digest_row b n e

of_rows : (rows : List Row) → map (fold-Row ℕ ℕ digest_step digest_row) rows ≡ map row_digest rows
unfolding digest
of_rows [] = refl
of_rows (r ∷ rows) = ap₂ (λ n ns. n ∷ ns) (fold-of_row ℕ ℕ digest_step digest_row r) (of_rows rows)

pub digest-Table : (rows : List Row) (last : Expr) → digest (V.Table rows last) ≡ digest_step (Table (map row_digest rows) (digest last))
unfolding digest
digest-Table rows last = fold-Table ℕ ℕ digest_step digest_row rows last ∙ ap (λ ns. mixed (fold mixed 17 ns) (digest last)) (of_rows rows)

pub ruleset digest_laws = (digest-Const, digest-Attr, digest-All, digest-Any, digest-Not, digest-Op, digest-Certain, digest-Known, digest-Over, digest-Window, digest-Rolling, digest-Table)
