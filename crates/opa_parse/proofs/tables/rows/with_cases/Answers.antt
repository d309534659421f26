use Rattle.std.proofs.Common.{◌+◌, map, length, ap, sym}
use Rattle.std.proofs.lemmas.List.{length-map}
use Rattle.csv.specs.Records.{fields_of}
use Rattle.opa_parse.specs.Tables.Tables as t
use Rattle.opa_parse.proofs.tables.RowLaws.{last_split, ends_below}
use Rattle.opa_parse.proofs.tables.rows.with_cases.Goals as goal

pub returns-in-Unspelled : goal.returns-in-Unspelled
returns-in-Unspelled c some any =
    t.IsBelow.no_case (map fields_of c.in-Some.middle.now) (fields_of c.in-Some.last.now) some (last_split fields_of c.args.names.now c.args.heads c.args.records.now c.in-Some.middle.now c.in-Some.last.now c.in-Some.ensures)
    (rw c.in-Unspelled.is at c.in_ok-number-in-Some.ensures)

pub returns-in_ok-said-in-Cases : goal.returns-in_ok-said-in-Cases
returns-in_ok-said-in-Cases c some any =
    ends_below c.args.names.now c.args.heads (map fields_of c.args.records.now) (map fields_of c.in-Some.middle.now) (fields_of c.in-Some.last.now) c.in-Cases.cases (length c.in-Some.middle.now + 2) c.in_ok-said-in-Cases.said some
    (last_split fields_of c.args.names.now c.args.heads c.args.records.now c.in-Some.middle.now c.in-Some.last.now c.in-Some.ensures) (rw c.in-Cases.is at c.in_ok-number-in-Some.ensures)
    (ap (λ k. k + 2) (sym (length-map c.in-Some.middle.now fields_of))) c.in_ok-said-in-Cases.ensures
