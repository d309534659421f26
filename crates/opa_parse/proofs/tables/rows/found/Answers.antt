use Rattle.std.proofs.Common.{map, ap, sym, ◌∙◌}
use Rattle.csv.specs.Records.{fields_of}
use Rattle.opa_parse.specs.Tables.Tables as t
use Rattle.opa_parse.proofs.tables.RowLaws.{few_none, few_one, not_none, some_mapped}
use Rattle.opa_parse.proofs.tables.rows.found.Goals as goal

pub returns-in-None : goal.returns-in-None
returns-in-None c = t.IsFound.too_few (few_none fields_of c.args.records.now c.in-None.ensures)

pub returns-then-is_empty : goal.returns-then-is_empty
returns-then-is_empty c = t.IsFound.too_few (few_one fields_of c.args.records.now c.in-Some.others.now c.in-Some.first.now c.in-Some.ensures (sym c.is_empty.ensures ∙ c.if-is_empty.true))

pub returns-in-None-2 : goal.returns-in-None-2
returns-in-None-2 c = t.IsFound.no_heads (map fields_of c.in-Some.others.now) (fields_of c.in-Some.first.now) (ap (map fields_of) c.in-Some.ensures) (rw c.in-None-2.is at c.in_ok-heads_in-in-Some.ensures)

pub returns-in_ok-said-in-Some-2 : goal.returns-in_ok-said-in-Some-2
returns-in_ok-said-in-Some-2 c =
    let some = sym c.is_empty.ensures ∙ c.if-is_empty.false in
    t.IsFound.headed (map fields_of c.in-Some.others.now) (fields_of c.in-Some.first.now) c.in-Some-2.heads (ap (map fields_of) c.in-Some.ensures) (some_mapped fields_of c.in-Some.others.now some) (rw c.in-Some-2.is at c.in_ok-heads_in-in-Some.ensures)
    (c.in_ok-said-in-Some-2.ensures (not_none fields_of c.in-Some.others.now some))
