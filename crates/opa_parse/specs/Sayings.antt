-- What lines and groups say: trees, their measures, and the faults that lines have by themselves.
use Rattle.std.specs.Prelude.{ℕ, Bool, true, false, not, ◌||◌, nat_lt, List, [], ◌∷◌, ◌++◌, Option, Some, None, slice_get, is_some, if◌then◌else◌}
use Rattle.opa_tree.specs.declared.kinds.Quant.TheVariants as quant
use Rattle.opa_tree.specs.declared.expr.Expr.{Expr}
use Rattle.opa_tree.specs.declared.expr.Expr.TheVariants as expr
use Rattle.opa_tree.specs.declared.expr.Row.{Row}
use Rattle.opa_tree.specs.declared.faults.RbKind.{RbKind}
use Rattle.opa_tree.specs.declared.faults.RbKind.TheVariants as kind
use Rattle.opa_sentence.specs.declared.measure.Measure.{Measure}
use Rattle.opa_io.specs.declared.limits.TheConstants.{MOST_NESTING}
use Rattle.opa_sentence.specs.declared.names.Names.{Names}
use Rattle.opa_sentence.specs.declared.names.Relation.{Relation}
use Rattle.opa_sentence.specs.declared.names.Relation.TheVariants as relation
use Rattle.opa_sentence.specs.declared.reading.Reading.{Reading}
use Rattle.opa_sentence.specs.declared.reading.Parts.{Parts}
use Rattle.opa_sentence.specs.Measures.{bounded, of_none, beside, above}
use Rattle.opa_sentence.specs.Readings as says
use Rattle.opa_parse.specs.declared.line.Head.{Head}
use Rattle.opa_parse.specs.declared.line.Head.TheVariants as head
use Rattle.opa_parse.specs.declared.group.Cases.{Cases}
use Rattle.opa_parse.specs.declared.group.Group.{Group}
use Rattle.opa_parse.specs.declared.group.Joint.{Joint}
use Rattle.opa_parse.specs.declared.group.Joint.TheVariants as joint
use Rattle.opa_parse.specs.declared.group.Mark.{Mark}
use Rattle.opa_parse.specs.declared.group.Said.{Said}
use Rattle.opa_parse.specs.declared.group.Several.{Several}

-- ---- the faults of a line

abbrev pub mark : Bool → ℕ → RbKind → List Mark
mark test number kind = if test then record { line = number; kind = kind } ∷ [] else []

-- a text over its number or a nesting over its, and an operand or relation that isn't declared
abbrev pub line_marks : ℕ → Measure → List Mark
line_marks number m = mark (not m.short || nat_lt MOST_NESTING m.nesting) number kind.Limit ++ mark (not m.named) number kind.Name

-- what a line says
abbrev pub of_line : ℕ → Reading → Said
of_line number r = record { reading = r; marks = line_marks number r.measure }

-- ---- heads

abbrev pub is_named : Names → Relation → Bool
is_named ns (relation.Declared r) = true
is_named ns (relation.Inferred n) = is_some (slice_get ns.members n)
is_named ns relation.Unnamed = false

abbrev pub head_marks : Names → ℕ → Head → List Mark
head_marks ns number head.All = []
head_marks ns number head.Any = []
head_marks ns number head.Not = []
head_marks ns number (head.ForAll r) = mark (not (is_named ns r)) number kind.Name
head_marks ns number (head.Exists r) = mark (not (is_named ns r)) number kind.Name

-- what a head says over a group
abbrev pub head_reading : Names → Head → Reading → Reading
head_reading ns head.All r = r
head_reading ns head.Any r = r
head_reading ns head.Not r = says.denial bounded r
head_reading ns (head.ForAll x) r = says.over_relation bounded ns.members quant.ForAll x (r ∷ [])
head_reading ns (head.Exists x) r = says.over_relation bounded ns.members quant.Exists x (r ∷ [])

-- what a head on the line of this number says over a group
abbrev pub headed : Names → ℕ → Head → Said → Said
headed ns number h s = record { reading = head_reading ns h s.reading; marks = head_marks ns number h ++ s.marks }

-- `all` and `both` take a group that is joined by `and` or has one item; `any` and `either` take one that is joined by `or` or has one item
abbrev pub takes : Head → Option Joint → Bool
takes head.All (Some joint.Or) = false
takes head.Any (Some joint.And) = false
takes h j = true

-- ---- several items

abbrev pub one_item : Said → Several
one_item s = record { parts = says.one_part bounded s.reading; marks = s.marks }

abbrev pub with_item : Several → Said → Several
with_item x s = record { parts = says.with_part bounded x.parts s.reading; marks = x.marks ++ s.marks }

abbrev pub joined : Joint → Parts → Reading
joined joint.And p = says.all bounded p
joined joint.Or p = says.any bounded p

-- a group of one item, and one of several
abbrev pub single : Said → Group
single s = record { joint = None; said = s }

abbrev pub several : Joint → Several → Group
several j x = let s : Said = record { reading = joined j x.parts; marks = x.marks } in record { joint = Some j; said = s }

-- ---- cases

abbrev pub no_cases : Cases
no_cases = record { rows = Some []; measure = of_none; marks = [] }

abbrev pub row_of : Expr → Expr → Row
row_of cond value = record { cond = cond; value = value }

abbrev pub with_row : Option (List Row) → Option Expr → Option Expr → Option (List Row)
with_row None c v = None
with_row (Some rows) None v = None
with_row (Some rows) (Some c) None = None
with_row (Some rows) (Some c) (Some v) = Some (rows ++ row_of c v ∷ [])

abbrev pub row_measure : Measure → Measure → Measure
row_measure c v = bounded.tells (above (bounded.tells (beside c v)))

abbrev pub cases_measure : Cases → Measure → Measure → Measure
cases_measure cs c v = bounded.tells (beside cs.measure (row_measure c v))

-- another case: its value, and its group
abbrev pub with_case : Cases → Said → Said → Cases
with_case cs v c = record {
  rows = says.kept bounded (cases_measure cs c.reading.measure v.reading.measure) (with_row cs.rows c.reading.tree v.reading.tree);
  measure = cases_measure cs c.reading.measure v.reading.measure;
  marks = cs.marks ++ (v.marks ++ c.marks);
}

abbrev pub table_of : Option (List Row) → Option Expr → Option Expr
table_of None v = None
table_of (Some rows) None = None
table_of (Some rows) (Some v) = Some (expr.Table rows v)

abbrev pub table_measure : Cases → Measure → Measure
table_measure cs m = bounded.tells (above (bounded.tells (beside cs.measure m)))

-- the table of cases, with the value that stands where none is met
abbrev pub tabled : Cases → Said → Said
tabled cs v = let r : Reading = record { tree = says.kept bounded (table_measure cs v.reading.measure) (table_of cs.rows v.reading.tree); measure = table_measure cs v.reading.measure } in
    record { reading = r; marks = cs.marks ++ v.marks }
