use Rattle.std.proofs.Common.{sym, inl, inr, arith, pos, ◌*ℤ◌}
use Rattle.jiff_core.proofs.SignedLemmas.{signed_arith}
use Rattle.opa_date.proofs.Months.{far}
use Rattle.opa_date.proofs.moves.add_years.Goals as goal
use Rattle.opa_date.proofs.moves.add_years.Goals.{then-n-ltminus833-via-then-n-ltminus833, then-n-ltminus833-via-else-n-ltminus833+then-n-gt833}

pub returns-then-n-ltminus833-clause-value : goal.returns-then-n-ltminus833-clause-value
returns-then-n-ltminus833-clause-value c =
    elim c.then-n-ltminus833.branch [
      | then-n-ltminus833-via-then-n-ltminus833 w ↦ sym (far c.args.day (c.args.n *ℤ pos 12) c.requires (inl (omega (arith, signed_arith, w.if-n-ltminus833.true))))
      | then-n-ltminus833-via-else-n-ltminus833+then-n-gt833 w ↦ sym (far c.args.day (c.args.n *ℤ pos 12) c.requires (inr (omega (arith, signed_arith, w.if-n-gt833.true))))
    ]
