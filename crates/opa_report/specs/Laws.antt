-- What holds of reports.
use Rattle.std.specs.Prelude.{◌≡◌, List}
use Rattle.opa_mean.specs.Mean.{Base, Facts}
use Rattle.opa_mean.specs.Uses.{Use}
use Rattle.opa_report.specs.declared.lines.ReportLine.{ReportLine}
use Rattle.opa_report.specs.ReportLines.{IsReport}

-- a point has at most one report
abbrev pub AtMostOne : Type 0
AtMostOne = (b : Base) (c : Facts) (p : Use) (lines others : List ReportLine) → IsReport b c p lines → IsReport b c p others → lines ≡ others
