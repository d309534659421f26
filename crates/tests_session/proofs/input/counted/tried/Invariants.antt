use Rattle.tests_session.proofs.input.counted.tried.Given as goal

-- the steps are counted on the ledger that is opened
abbrev pub ghosts-tried_on : goal.ghosts-tried_on
ghosts-tried_on g a = record { name = a.blank.name; parts = a.blank.parts }
