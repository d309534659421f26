use Rattle.std.proofs.Common.{ap}
use Rattle.opa_code.specs.declared.over_lines.marks.Marks.{Marks}
use Rattle.opa_code.proofs.over_lines.bests.Bests.one.Goals as goal

pub returns : goal.returns
returns c = record {
  bests = λ most. record {
    unknown = ap (λ (m : Marks). m.unknown) c.one-marks.ensures;
    uncertain = ap (λ (m : Marks). m.uncertain) c.one-marks.ensures;
    peaks = c.one.ensures most;
  };
}
