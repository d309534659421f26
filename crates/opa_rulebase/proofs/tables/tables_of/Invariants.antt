use Rattle.std.proofs.Common.{◌≡◌, ◌+◌, ◌++◌, length}
use Rattle.opa_rulebase.specs.Loading.{table_files}
use Rattle.opa_rulebase.proofs.tables.tables_of.Given as goal

abbrev pub invariant-loop-file : goal.invariant-loop-file
invariant-loop-file l = record {
  tables : l.tables ++ table_files l.place l.rest ≡ table_files 0 l.files;
  places : l.place + length l.rest ≡ length l.files;
}

abbrev pub decreases-loop-file : goal.decreases-loop-file
decreases-loop-file l = length l.rest
