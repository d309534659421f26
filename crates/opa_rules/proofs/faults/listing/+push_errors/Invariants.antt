use Rattle.opa_rules.proofs.faults.listing.+push_errors.Given as goal

abbrev pub decreases-push_errors : goal.decreases-push_errors
decreases-push_errors l = l.most
