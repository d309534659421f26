use Rattle.opa_session.proofs.infer.starting.begun.Goals as goal

pub invariant_of-result : goal.invariant_of-result
invariant_of-result g c = record {
  owned = c.requires.owned;
  coded = c.requires.coded;
  freed = c.requires.freed;
  nothing = c.requires.nothing;
  fits = c.requires.fits.fits;
  current = c.requires.current;
  empty = c.requires.empty;
  exact = ∣ c.requires.exact ∣₁;
}
