use Rattle.opa_code.proofs.over_lines.tally.Tally.none.Goals as goal

pub returns : goal.returns
returns c most = record { marks = c.none.ensures; sums = c.none-2.ensures; peaks = c.none-3.ensures most }
