use Rattle.std.proofs.Common.{◌≡◌, [], subst, sym, ◌∙◌, rules}
use Rattle.opa_io.proofs.Lists.{no_length}
use Rattle.opa_parse.specs.Tables.Cells.{IsHeadCell}
use Rattle.opa_parse.specs.Tables.Tables.{headings}
use Rattle.opa_parse.proofs.tables.EachLaws.{read_more}
use Rattle.opa_parse.proofs.tables.HeadLaws.{no_heads, no_conclusions, no_cell}
use Rattle.opa_parse.proofs.tables.heads.heads_of.Goals as goal

pub returns-in-None : goal.returns-in-None
returns-in-None c =
    no_cell c.args.model.now c.args.names.now c.args.cells.now c.loop-cell.rest.now c.in-Some.later.now c.in-Some.cell.now c.loop-cell.heads c.in-Some.ensures c.loop-cell.invariant
    (rw (c.in-None.is, c.as_slice.ensures) at c.in_ok-head_cell.ensures)

pub returns-in-None-2 : goal.returns-in-None-2
returns-in-None-2 c =
    let why = rw c.in-None-2.is at c.in_ok-with-in-Some-2.ensures in
    no_heads c.args.model.now c.args.names.now c.args.cells.now c.loop-cell.rest.now c.in-Some.later.now c.in-Some.cell.now c.loop-cell.heads why.1 c.in-Some.ensures c.loop-cell.invariant
    (subst (IsHeadCell c.args.model.now c.args.names.now c.in-Some.cell.now) why.2 (rw (c.in-Some-2.is, c.as_slice.ensures) at c.in_ok-head_cell.ensures)) why.0

pub loop-cell-preserved : goal.loop-cell-preserved
loop-cell-preserved c =
    read_more (IsHeadCell c.args.model.now c.args.names.now) c.args.cells.now c.loop-cell.rest.now c.in-Some.later.now c.in-Some.cell.now (headings c.loop-cell.heads) (headings c.in-Some-3.more) c.in-Some-2.heading c.in-Some.ensures c.loop-cell.invariant
    (rw (c.in-Some-2.is, c.as_slice.ensures) at c.in_ok-head_cell.ensures) (rw c.in-Some-3.is at c.in_ok-with-in-Some-2.ensures)

pub returns-then-len-eq0 : goal.returns-then-len-eq0
returns-then-len-eq0 c =
    let e : c.loop-cell.rest.now ≡ [] = search rules in
    no_conclusions c.args.model.now c.args.names.now c.args.cells.now c.loop-cell.rest.now c.loop-cell.heads e c.loop-cell.invariant (no_length c.loop-cell.heads.conclusions (sym c.len.ensures ∙ c.if-len-eq0.true))
