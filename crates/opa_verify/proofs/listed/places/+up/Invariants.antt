use Rattle.opa_verify.proofs.listed.places.+up.Given as goal

abbrev pub decreases-up : goal.decreases-up
decreases-up g l = l.most
