use Rattle.opa_verify.proofs.listed.places.+climbs.Given as goal

abbrev pub decreases-climbs : goal.decreases-climbs
decreases-climbs g l = l.most
