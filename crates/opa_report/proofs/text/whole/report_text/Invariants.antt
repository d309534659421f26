use Rattle.std.proofs.Common.{◌≡◌, ◌++◌, ◌+◌, drop, string_bytes}
use Rattle.opa_report.specs.Text.Texts.{numbered}
use Rattle.opa_report.proofs.text.whole.report_text.Given as goal

abbrev pub invariant-loop-place : goal.invariant-loop-place
invariant-loop-place l = string_bytes l.text ++ numbered l.base (l.place + 1) (drop l.place l.lines) ≡ string_bytes l.initial.text ++ numbered l.base 1 l.lines
