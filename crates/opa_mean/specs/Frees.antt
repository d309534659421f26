-- Which attributes never rest on whether something is known.
use Rattle.std.specs.Prelude.{◌≡◌, Bool, true, false, ◌&&◌, List, Option, None, Some}
use Rattle.std.specs.List.{list_all}
use Rattle.opa_model.specs.declared.ids.AttrId.{AttrId}
use Rattle.opa_tree.specs.declared.expr.Expr.{Expr}
use Rattle.opa_tree.specs.declared.expr.Expr.TheOpen.{Expr-F, Row-F, Const, Attr, All, Any, Not, Op, Certain, Known, Over, Window, Rolling, Table}
use Rattle.opa_tree.specs.declared.expr.Expr.TheFolds.{fold-Expr}
use Rattle.opa_tree.specs.declared.rules.Rule.{Rule}
use Rattle.opa_tree.specs.Ranks.{Reaches}
use Rattle.opa_tree.specs.Rules.{rule_of}
use Rattle.opa_mean.specs.Mean.{Base}

abbrev pub all_free : List Bool → Bool
all_free xs = list_all (λ x. x) xs

abbrev pub free_step : Expr-F Bool Bool → Bool
free_step (Const v) = true
free_step (Attr a) = true
free_step (All xs) = all_free xs
free_step (Any xs) = all_free xs
free_step (Not x) = x
free_step (Op k xs) = all_free xs
free_step (Certain x) = x
free_step (Known x) = false
free_step (Over q r xs) = all_free xs
free_step (Window k xs) = all_free xs
free_step (Rolling b n x) = x
free_step (Table rows x) = all_free rows && x

abbrev pub free_row : Row-F Bool Bool → Bool
free_row row = row.cond && row.value

-- no part of the tree asks whether a value is known
unfoldable pub is_free : Expr → Bool
is_free = fold-Expr Bool Bool free_step free_row

abbrev pub rule_is_free : Option Rule → Bool
rule_is_free None = true
rule_is_free (Some rule) = is_free rule.expr

-- no rule of an attribute that it reaches asks whether a value is known
abbrev pub IsFree : Base → AttrId → Type 0
IsFree b a = (m : AttrId) → Reaches b.rules a m → rule_is_free (rule_of b.rules m) ≡ true
