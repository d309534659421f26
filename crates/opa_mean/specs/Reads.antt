-- What a rule can look at.
use Rattle.std.specs.Prelude.{ℕ, List, [], ◌∷◌, ◌++◌, Option, None, Some, flat_map}
use Rattle.opa_model.specs.declared.ids.AttrId.{AttrId}
use Rattle.opa_cells.specs.declared.instance.InstanceId.{InstanceId}
use Rattle.opa_cells.specs.Instances.{named}
use Rattle.opa_case.specs.declared.question.Question.{Question}
use Rattle.opa_case.specs.declared.question.Question.TheVariants as question
use Rattle.opa_case.specs.Live.{Lists}
use Rattle.opa_case.specs.Shapes.{Shape}
use Rattle.opa_tree.specs.declared.expr.Expr.{Expr}
use Rattle.opa_tree.specs.declared.expr.Row.{Row}
use Rattle.opa_tree.specs.declared.expr.Expr.TheOpen.{Expr-F, Row-F, Const, Attr, All, Any, Not, Op, Certain, Known, Over, Window, Rolling, Table}
use Rattle.opa_tree.specs.declared.expr.Expr.TheFolds.{fold-Expr}
use Rattle.opa_tree.specs.declared.rules.Rule.{Rule}
use Rattle.opa_tree.specs.Rules.{rule_of}
use Rattle.opa_mean.specs.Looks.{Look}
use Rattle.opa_mean.specs.Mean.{Base, Facts}
use Rattle.opa_mean.specs.Places.{owner_of, place}

-- lines and lists, for each list of enclosing instances
abbrev pub Reads : Type 0
Reads = List InstanceId → List Question

abbrev pub at_place_reads : Option InstanceId → (InstanceId → List Question) → List Question
at_place_reads None f = []
at_place_reads (Some i) f = f i

abbrev pub all_reads : List Reads → Reads
all_reads xs enclosing = flat_map (λ x. x enclosing) xs

-- at each instance of a known list
abbrev pub listed_reads : Option (List (List ℕ)) → (List ℕ → List Question) → List Question
listed_reads None f = []
listed_reads (Some names) f = flat_map f names

module _ (s : Shape) (members : Lists) (container : InstanceId → Option InstanceId) where
  abbrev pub reads_step : Expr-F Reads Reads → Reads
  reads_step (Const v) enclosing = []
  reads_step (Attr a) enclosing = at_place_reads (place container enclosing (owner_of s a)) (λ i. question.Attr a i ∷ [])
  reads_step (All xs) enclosing = all_reads xs enclosing
  reads_step (Any xs) enclosing = all_reads xs enclosing
  reads_step (Not x) enclosing = x enclosing
  reads_step (Op k xs) enclosing = all_reads xs enclosing
  reads_step (Certain x) enclosing = x enclosing
  reads_step (Known x) enclosing = x enclosing
  reads_step (Over q r xs) enclosing = at_place_reads (place container enclosing (s.source r)) (λ i.
      question.Members r i ∷ listed_reads (members r i) (λ n. all_reads xs (named (s.target r) n ∷ enclosing)))
  reads_step (Window k xs) enclosing = all_reads xs enclosing
  reads_step (Rolling b n x) enclosing = x enclosing
  reads_step (Table rows x) enclosing = all_reads rows enclosing ++ x enclosing

  -- a row's condition comes before its value
  abbrev pub reads_row : Row-F Reads Reads → Reads
  reads_row row enclosing = row.cond enclosing ++ row.value enclosing

  -- the lines and lists that a tree can look at, in written order with repeats
  unfoldable pub reads : Expr → Reads
  reads = fold-Expr Reads Reads reads_step reads_row

-- of several trees, of a row, and of several rows
abbrev pub trees_reads : Shape → Lists → (InstanceId → Option InstanceId) → List Expr → Reads
trees_reads s members container es enclosing = flat_map (λ e. reads s members container e enclosing) es

abbrev pub row_reads : Shape → Lists → (InstanceId → Option InstanceId) → Row → Reads
row_reads s members container row enclosing = reads s members container row.cond enclosing ++ reads s members container row.value enclosing

abbrev pub rows_reads : Shape → Lists → (InstanceId → Option InstanceId) → List Row → Reads
rows_reads s members container rows enclosing = flat_map (λ r. row_reads s members container r enclosing) rows

abbrev pub rule_reads : Option Rule → (Expr → List Question) → List Question
rule_reads None f = []
rule_reads (Some rule) f = f rule.expr

-- what the rule of an attribute can look at for an instance
abbrev pub reads_of : Base → Facts → AttrId → InstanceId → List Question
reads_of b c a i = rule_reads (rule_of b.rules a) (λ e. reads b.shape c.members c.container e (i ∷ []))

-- the same where lists and containers are looked up
abbrev pub reads_over : Base → Look → AttrId → InstanceId → List Question
reads_over b l a i = rule_reads (rule_of b.rules a) (λ e. reads b.shape l.members l.container e (i ∷ []))
