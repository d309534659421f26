use Rattle.opa_report.proofs.kept_lines.new_line.Goals as goal

pub returns-clause-stay : goal.returns-clause-stay
returns-clause-stay g c = λ live found known.
    let s = g.S.Sight.shape c.args.sight.now in let l = g.S.Sight.look c.args.sight.now in
    (known.0, c.in_ok-put.ensures s l known.1 (c.in_ok-made.ensures s l (c.in_ok-line.ensures live)))
