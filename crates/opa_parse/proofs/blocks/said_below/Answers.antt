use Rattle.std.proofs.Common.{◌≡◌, true, false, subst, sym, ◌∙◌}
use Rattle.opa_parse.specs.GroupTable.{IsReadAs}
use Rattle.opa_parse.specs.Statements.{is_over}
use Rattle.opa_parse.proofs.BlockLaws.{none_said, some_said, more_said}
use Rattle.opa_parse.proofs.blocks.said_below.Goals as goal

pub returns-in-None-2 : goal.returns-in-None-2
returns-in-None-2 c =
    none_said c.args.names.now c.args.start c.args.lines.now c.in-Some.lines (rw c.in-Some.is at c.in_ok-lines_of.ensures)
    (subst (λ o. IsReadAs c.args.names.now c.args.start c.in-Some.lines o) c.in-None-2.is c.in_ok-read-in-Some.ensures)

pub returns-then-is_over : goal.returns-then-is_over
returns-then-is_over c =
    let over : is_over c.in-Some-2.rest ≡ true = sym c.is_over.ensures ∙ c.if-is_over.true in
    some_said c.args.names.now c.args.start c.args.lines.now c.in-Some.lines c.in-Some-2.group c.in-Some-2.rest (rw c.in-Some.is at c.in_ok-lines_of.ensures)
    (subst (λ o. IsReadAs c.args.names.now c.args.start c.in-Some.lines o) c.in-Some-2.is c.in_ok-read-in-Some.ensures) over

pub returns-else-is_over : goal.returns-else-is_over
returns-else-is_over c =
    let over : is_over c.in-Some-2.rest ≡ false = sym c.is_over.ensures ∙ c.if-is_over.false in
    more_said c.args.names.now c.args.start c.args.lines.now c.in-Some.lines c.in-Some-2.group c.in-Some-2.rest (rw c.in-Some.is at c.in_ok-lines_of.ensures)
    (subst (λ o. IsReadAs c.args.names.now c.args.start c.in-Some.lines o) c.in-Some-2.is c.in_ok-read-in-Some.ensures) over
