-- The faults of rules that reading finds.
use Rattle.std.specs.Prelude.{ℕ, ◌+◌, Bool, ◌&&◌, ◌==◌, nat_le, nat_lt, is_none, List, [], ◌∷◌, ◌++◌, map, Option, Some, None, if◌then◌else◌}
use Rattle.opa_tree.specs.declared.faults.RbFault.{RbFault}
use Rattle.opa_tree.specs.declared.faults.RbKind.{RbKind}
use Rattle.opa_tree.specs.declared.faults.RbKind.TheVariants as kind
use Rattle.opa_io.specs.declared.limits.TheConstants.{MOST_DEPTH, MOST_NODES}
use Rattle.opa_sentence.specs.declared.reading.Reading.{Reading}
use Rattle.opa_parse.specs.declared.block.RuleBlock.{RuleBlock}
use Rattle.opa_parse.specs.declared.block.Statement.{Statement}
use Rattle.opa_io.specs.declared.limits.TheConstants.{MOST_RULES}
use Rattle.opa_parse.specs.declared.group.Mark.{Mark}

abbrev pub fault_at : ℕ → ℕ → RbKind → RbFault
fault_at file line kind = record { file = file; line = line; kind = kind; cycle = [] }

-- the fault, where the test holds
abbrev pub when : Bool → RbFault → List RbFault
when test fault = if test then fault ∷ [] else []

-- the faults that lines have by themselves
abbrev pub marked : ℕ → List Mark → List RbFault
marked file marks = map (λ m. fault_at file m.line m.kind) marks

-- so many more pass the most
abbrev pub passes : ℕ → ℕ → ℕ → Bool
passes most before more = nat_le before most && nat_lt most (before + more)

-- a depth over its number, and nodes over theirs, where these stand before
abbrev pub size_faults : ℕ → ℕ → ℕ → Reading → List RbFault
size_faults before file line r = when (nat_lt MOST_DEPTH r.measure.depth) (fault_at file line kind.Limit) ++ when (passes MOST_NODES before r.measure.nodes) (fault_at file line kind.Limit)

-- the faults of what a rule says, where so many rules and nodes stand before
abbrev pub statement_faults : ℕ → ℕ → ℕ → ℕ → Statement → List RbFault
statement_faults rules nodes file line s =
    (when (rules == MOST_RULES) (fault_at file line kind.Limit) ++ size_faults nodes file line s.said.reading) ++ (when (is_none s.attr) (fault_at file line kind.Name) ++ marked file s.said.marks)

abbrev pub spelled_faults : ℕ → ℕ → ℕ → ℕ → Option Statement → List RbFault
spelled_faults rules nodes file line None = fault_at file line kind.Syntax ∷ []
spelled_faults rules nodes file line (Some s) = statement_faults rules nodes file line s

abbrev pub block_faults : ℕ → ℕ → RuleBlock → List RbFault
block_faults rules nodes b = spelled_faults rules nodes b.file b.line b.statement

-- the nodes of what a rule says
abbrev pub statement_nodes : Option Statement → ℕ
statement_nodes None = 0
statement_nodes (Some s) = s.said.reading.measure.nodes

-- the faults of rules in their order, where so many rules and nodes stand before
abbrev pub faults_from : ℕ → ℕ → List RuleBlock → List RbFault
faults_from rules nodes [] = []
faults_from rules nodes (b ∷ bs) = block_faults rules nodes b ++ faults_from (rules + 1) (nodes + statement_nodes b.statement) bs
