use Rattle.std.proofs.Common.{◌≡◌, ◌++◌, take}
use Rattle.std.specs.HashMap.{get}
use Rattle.opa_rules.specs.Reviewing.Earlier.{AreKnown}
use Rattle.opa_rules.specs.Reviewing.Rows.{of_rows}
use Rattle.opa_rules.specs.Reviewing.Trees.{same_tree}
use Rattle.opa_rules.proofs.reviewing.rows.push_rows.Given as goal

abbrev pub invariant-loop-place : goal.invariant-loop-place
invariant-loop-place l = record {
  found : l.findings ≡ l.initial.findings ++ of_rows l.rule l.rows l.place;
  known : AreKnown (take l.place l.rows) (get same_tree l.known.places) l.known.always;
}
