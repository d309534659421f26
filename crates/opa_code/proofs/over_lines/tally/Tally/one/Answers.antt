use Rattle.opa_code.proofs.over_lines.tally.Tally.one.Goals as goal

pub returns : goal.returns
returns c = record { tally = λ most. record { marks = c.one.ensures; sums = c.one-2.ensures; peaks = c.one-3.ensures most } }
