use Rattle.std.proofs.Common.{◌<◌, All, length, ap, ◌∙◌, sym, subst, arith}
use Rattle.opa_parse.specs.declared.tables.whole.TableFile.{TableFile}
use Rattle.opa_rulebase.specs.Loading.{table_files, with_listed}
use Rattle.opa_rulebase.proofs.LoadLaws.{tables_more, tables_placed, tables_end}
use Rattle.opa_rulebase.proofs.tables.tables_of.Goals as goal

pub loop-file-preserved : goal.loop-file-preserved
loop-file-preserved c = record {
  tables = tables_more c.loop-file.tables c.in_ok-tables.tables c.loop-file.place c.in-Some.file.now c.in-Some.later.now c.loop-file.rest.now (table_files 0 c.args.files.now) c.in-Some.ensures (c.in_ok-tables.ensures ∙ ap (with_listed c.loop-file.tables) c.in_ok-table_of.ensures) c.loop-file.invariant.tables;
  places = omega (arith, ap length c.in-Some.ensures, c.loop-file.invariant.places);
}

pub returns-clause-placed : goal.returns-clause-placed
returns-clause-placed c =
    let e = tables_end c.loop-file.tables c.loop-file.place c.loop-file.rest.now (table_files 0 c.args.files.now) c.in_default.ensures c.loop-file.invariant.tables in
    subst (All (λ (t : TableFile). t.file < length c.args.files.now)) (sym e) (tables_placed 0 (length c.args.files.now) c.args.files.now (omega arith))
