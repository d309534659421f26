use Rattle.opa_code.proofs.over_lines.Tallying.{plain_peaks}
use Rattle.opa_code.proofs.over_lines.peaks.Peaks.one.Goals as goal

pub returns-in-Unknown : goal.returns-in-Unknown
returns-in-Unknown c most = plain_peaks most c.args.value.now c.none.result c.in-Unknown.is (c.none.ensures most)
