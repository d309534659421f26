use Rattle.std.proofs.Common.{ap, subst, ◌∙◌, refl, map}
use Rattle.csv.specs.Records.{fields_of}
use Rattle.opa_parse.specs.Tables.Columns.{blocks_of}
use Rattle.opa_parse.specs.Tables.Tables.{IsFound}
use Rattle.opa_parse.proofs.tables.taking.take_table.Goals as goal

pub returns : goal.returns
returns c =
    let f = c.in_ok-said.said in
    let same = ap (map fields_of) c.as_slice.ensures.value ∙ c.in_ok-records.ensures in (
      blocks_of c.args.file f,
      record { found = f; is_found = subst (λ rs. IsFound c.args.model.now c.args.names.now rs f) same c.in_ok-said.ensures; blocks_are = refl },
      c.in_ok-next.ensures,
    )
