use Rattle.std.proofs.Common.{◌≡◌, ◌++◌, take}
use Rattle.std.specs.String.{string_bytes}
use Rattle.opa_rules.specs.Reviewing.Printed.{findings_text}
use Rattle.opa_rules.proofs.reviewing.printed.push_findings.Given as goal

abbrev pub invariant-loop-finding : goal.invariant-loop-finding
invariant-loop-finding l = string_bytes l.out ≡ string_bytes l.initial.out ++ findings_text l.base (take l.finding-index l.findings)
