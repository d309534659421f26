use Rattle.std.proofs.Common.{◌≤◌, length, arith}
use Rattle.std.proofs.lemmas.Option.{slice_get_past}
use Rattle.opa_rules.proofs.reviewing.RowLaws.{no_row}
use Rattle.opa_rules.proofs.reviewing.rows.push_row.Goals as goal

pub returns-in-None : goal.returns-in-None
returns-in-None c =
    let past : length c.args.rows.now ≤ c.args.place = c.in-None.ensures.lookup.3 in
    record {
      found = no_row c.args.findings.now c.args.rule.now c.args.rows.now c.args.place (slice_get_past c.args.rows.now c.args.place past);
      known = λ within. absurd (omega (arith, within, past));
    }
