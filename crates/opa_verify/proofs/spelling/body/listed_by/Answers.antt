use Rattle.opa_verify.proofs.spelling.body.listed_by.Goals as goal

pub unlisted_by-requires-clause-none : goal.unlisted_by-requires-clause-none
unlisted_by-requires-clause-none c = c.in-None.ensures
