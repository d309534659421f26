-- A number for each tree: equal trees have equal ones, and different trees hardly ever do.
use Rattle.std.specs.Prelude.{ℕ, ◌+◌, ◌*◌, ◌%◌, ◌^◌, cond, fold}
use Rattle.std.specs.Int.{cast_unsigned, w64}
use denote.Enum.Declared.{tag_of}
use Rattle.opa_value.specs.declared.value.Value.{Value}
use Rattle.opa_value.specs.declared.value.Value.TheVariants as value
use Rattle.opa_tree.specs.contracts.kinds.OpKind as op
use Rattle.opa_tree.specs.contracts.kinds.Quant as quant
use Rattle.opa_tree.specs.contracts.kinds.WinKind as win
use Rattle.opa_tree.specs.declared.expr.Expr.{Expr}
use Rattle.opa_tree.specs.declared.expr.Row.{Row}
use Rattle.opa_tree.specs.declared.expr.Expr.TheOpen.{Expr-F, Row-F, Const, Attr, All, Any, Not, Op, Certain, Known, Over, Window, Rolling, Table}
use Rattle.opa_tree.specs.declared.expr.Expr.TheFolds.{fold-Expr}

-- one number of two, in which their order counts
unfoldable pub mixed : ℕ → ℕ → ℕ
mixed a b = (a * 11400714819323198485 % 2 ^ 64 + b) % 2 ^ 64

abbrev pub value_digest : Value → ℕ
value_digest value.Unknown = 1
value_digest value.Uncertain = 2
value_digest (value.Bool b) = mixed 3 (cond b 1 0)
value_digest (value.Num n) = mixed 4 (cast_unsigned w64 n)
value_digest (value.Words t) = fold mixed 5 t
value_digest (value.Day d) = mixed 6 d

abbrev pub digest_step : Expr-F ℕ ℕ → ℕ
digest_step (Const v) = value_digest v
digest_step (Attr a) = mixed 7 a.0
digest_step (All xs) = fold mixed 8 xs
digest_step (Any xs) = fold mixed 9 xs
digest_step (Not x) = mixed 10 x
digest_step (Op k xs) = fold mixed (mixed 11 (tag_of op.the_type k)) xs
digest_step (Certain x) = mixed 12 x
digest_step (Known x) = mixed 13 x
digest_step (Over q r xs) = fold mixed (mixed (mixed 14 (tag_of quant.the_type q)) r.0) xs
digest_step (Window k xs) = fold mixed (mixed 15 (tag_of win.the_type k)) xs
digest_step (Rolling b n x) = mixed (mixed (mixed 16 (cond b 1 0)) n) x
digest_step (Table rows last) = mixed (fold mixed 17 rows) last

abbrev pub digest_row : Row-F ℕ ℕ → ℕ
digest_row row = mixed row.cond row.value

unfoldable pub digest : Expr → ℕ
digest = fold-Expr ℕ ℕ digest_step digest_row

-- of a row of a table
abbrev pub row_digest : Row → ℕ
row_digest r = mixed (digest r.cond) (digest r.value)
