-- How long code is.
use Rattle.std.specs.Prelude.{◌≡◌, ℕ, ◌+◌, ◌*◌, ◌≤◌, List, [], ◌∷◌, Some, IfSome, find, length}
use Rattle.opa_model.specs.declared.ids.AttrId.{AttrId}
use Rattle.opa_tree.specs.declared.expr.Expr.{Expr}
use Rattle.opa_tree.specs.declared.expr.Expr.TheOpen.{Expr-F, Row-F, Const, Attr, All, Any, Not, Op, Certain, Known, Over, Window, Rolling, Table}
use Rattle.opa_tree.specs.declared.expr.Expr.TheFolds.{fold-Expr}
use Rattle.opa_tree.specs.declared.rules.Rule.{Rule}
use Rattle.opa_tree.specs.Rules.{rule_of}
use Rattle.opa_code.specs.Coding.{is_for}
use Rattle.opa_code.specs.Rulebases.{rulebase_of}
use Rattle.opa_code.specs.declared.code.Code.{Code}

abbrev pub total : List ℕ → ℕ
total [] = 0
total (n ∷ ns) = n + total ns

abbrev pub size_step : Expr-F ℕ ℕ → ℕ
size_step (Const v) = 1
size_step (Attr a) = 1
size_step (All xs) = 1 + total xs
size_step (Any xs) = 1 + total xs
size_step (Not x) = 1 + x
size_step (Op k xs) = 1 + total xs
size_step (Certain x) = 1 + x
size_step (Known x) = 1 + x
size_step (Over q r xs) = 1 + total xs
size_step (Window k xs) = 1 + total xs
size_step (Rolling b n x) = 1 + x
size_step (Table rows last) = 1 + (total rows + last)

abbrev pub size_row : Row-F ℕ ℕ → ℕ
size_row row = 1 + (row.cond + row.value)

-- how many trees and rows a tree is made of
unfoldable pub size : Expr → ℕ
size = fold-Expr ℕ ℕ size_step size_row

-- the code of a rule has at most two nodes for each tree and row that its tree is made of
abbrev pub CodeIsShort : Type 0
CodeIsShort = (code : Code) (a : AttrId) (rule : Rule) → rule_of (rulebase_of code).rules a ≡ Some rule → IfSome (find (is_for a) code.rules) (λ c. length c.nodes ≤ 2 * size rule.expr)
