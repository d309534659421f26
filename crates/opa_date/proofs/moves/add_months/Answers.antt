use Rattle.std.proofs.Common.{sym, inl, inr, arith}
use Rattle.jiff_core.proofs.SignedLemmas.{signed_arith}
use Rattle.opa_date.proofs.Months.{far}
use Rattle.opa_date.proofs.moves.add_months.Goals as goal
use Rattle.opa_date.proofs.moves.add_months.Goals.{then-n-ltminus10000-via-then-n-ltminus10000, then-n-ltminus10000-via-else-n-ltminus10000+then-n-gt10000}

pub returns-then-n-ltminus10000-clause-value : goal.returns-then-n-ltminus10000-clause-value
returns-then-n-ltminus10000-clause-value c =
    elim c.then-n-ltminus10000.branch [
      | then-n-ltminus10000-via-then-n-ltminus10000 w ↦ sym (far c.args.day c.args.n c.requires (inl (omega (arith, signed_arith, w.if-n-ltminus10000.true))))
      | then-n-ltminus10000-via-else-n-ltminus10000+then-n-gt10000 w ↦ sym (far c.args.day c.args.n c.requires (inr (omega (arith, signed_arith, w.if-n-gt10000.true))))
    ]
