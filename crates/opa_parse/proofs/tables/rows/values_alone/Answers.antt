use Rattle.std.proofs.Common.{sym, ◌∙◌, map, refl}
use Rattle.csv.specs.Records.{fields_of}
use Rattle.opa_parse.specs.Tables.Tables as t
use Rattle.opa_parse.proofs.tables.RowLaws.{alone_is, alone_more}
use Rattle.opa_parse.proofs.tables.rows.values_alone.Goals as goal

pub returns-in-None : goal.returns-in-None
returns-in-None c e = t.IsBelow.no_values (map fields_of c.args.others.now) (fields_of c.args.row.now) e refl (rw c.in-None.is at c.in_ok-last_in.ensures)

pub returns-then-is_empty : goal.returns-then-is_empty
returns-then-is_empty c e =
    alone_is fields_of c.args.names.now c.args.heads c.args.others.now (fields_of c.args.row.now) c.new.result c.in-Some.last e (sym c.is_empty.ensures ∙ c.if-is_empty.true) c.new.ensures (rw c.in-Some.is at c.in_ok-last_in.ensures)

pub returns-else-is_empty : goal.returns-else-is_empty
returns-else-is_empty c e =
    alone_more fields_of c.args.names.now c.args.heads c.args.others.now (fields_of c.args.row.now) c.in-Some.last e (sym c.is_empty.ensures ∙ c.if-is_empty.false) (rw c.in-Some.is at c.in_ok-last_in.ensures)
