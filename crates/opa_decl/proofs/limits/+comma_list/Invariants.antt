use Rattle.opa_decl.proofs.limits.+comma_list.Given as goal

abbrev pub decreases-comma_list : goal.decreases-comma_list
decreases-comma_list l = l.left
