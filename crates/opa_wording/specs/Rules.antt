-- How a rule is written as the lines of a block.
use Rattle.std.specs.Prelude.{ℕ, List, [], ◌∷◌, ◌++◌, map, codes, if◌then◌else◌}
use Rattle.opa_model.specs.declared.lists.Lists.{Lists}
use Rattle.opa_model.specs.Lookups.{attribute_at}
use Rattle.opa_tree.specs.declared.expr.Expr.{Expr}
use Rattle.opa_tree.specs.declared.expr.Row.{Row}
use Rattle.opa_tree.specs.declared.expr.Expr.TheOpen.{Expr-F, All, Any, Table}
use Rattle.opa_tree.specs.declared.expr.Expr.TheViews.{out-Expr}
use Rattle.opa_tree.specs.declared.rules.Rule.{Rule}
use Rattle.opa_wording.specs.Lines.{line_text}
use Rattle.opa_wording.specs.Wordings.{phrase_of_attribute}

-- a line: its indentation, what stands on it, and how it ends
abbrev pub written : List ℕ → List ℕ → List ℕ → List ℕ
written indent text ending = indent ++ (text ++ (ending ++ 10 ∷ []))

-- how an item ends that this follows: the last carries no connector
abbrev pub ending : List ℕ → List (List ℕ) → List ℕ
ending joint [] = []
ending joint (t ∷ ts) = joint

abbrev pub items : List ℕ → List ℕ → List (List ℕ) → List ℕ
items indent joint [] = []
items indent joint (t ∷ ts) = written indent t (ending joint ts) ++ items indent joint ts

module _ (m : Lists) where
  -- each part of an `All` or `Any` is an item, and another tree is one
  abbrev pub group_by : List ℕ → Expr → Expr-F Expr Row → List ℕ
  group_by indent e (All es) = items indent (codes " and") (map (line_text m) es)
  group_by indent e (Any es) = items indent (codes " or") (map (line_text m) es)
  group_by indent e x = written indent (line_text m e) []

  abbrev pub group_text : List ℕ → Expr → List ℕ
  group_text indent e = group_by indent e (out-Expr e)

  -- the rows of a table, each a value over the group that it asks for
  abbrev pub cases : List Row → List ℕ
  cases [] = []
  cases (r ∷ rs) = written (codes "  ") (line_text m r.value) (codes " if") ++ (group_text (codes "    ") r.cond ++ cases rs)

  -- a table has a line for each case, and another tree stands on the line of the phrase
  abbrev pub concluded_by : List ℕ → Expr → Expr-F Expr Row → List ℕ
  concluded_by phrase e (Table rows last) = written [] phrase (codes " =") ++ (cases rows ++ written (codes "  ") (line_text m last) (codes " otherwise"))
  concluded_by phrase e x = written phrase (codes " = ") (line_text m e)

  abbrev pub concluded : List ℕ → Expr → List ℕ
  concluded phrase e = concluded_by phrase e (out-Expr e)

  -- a rule with conditions has its group below its phrase
  abbrev pub conditioned : List ℕ → Expr → List ℕ
  conditioned phrase e = written [] phrase (codes " if") ++ group_text (codes "  ") e

  abbrev pub rule_text : Rule → List ℕ
  rule_text r = if r.by_if then conditioned (phrase_of_attribute (attribute_at m r.attr)) r.expr else concluded (phrase_of_attribute (attribute_at m r.attr)) r.expr
