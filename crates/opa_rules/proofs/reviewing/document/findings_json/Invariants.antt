use Rattle.std.proofs.Common.{◌≡◌, map, take}
use Rattle.serde_json.specs.View.{view}
use Rattle.opa_rules.specs.Reviewing.Json.{finding_data}
use Rattle.opa_rules.proofs.reviewing.document.findings_json.Given as goal

abbrev pub invariant-loop-finding : goal.invariant-loop-finding
invariant-loop-finding l = map view l.items.items ≡ map (finding_data l.base) (take l.finding-index l.findings)
