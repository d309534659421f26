use Rattle.std.proofs.Common.{◌≡◌, ◌<◌, ◌+◌, filter, length, take}
use Rattle.opa_mean.specs.Changes.{is_dirty}
use Rattle.opa_mean.specs.Given.{base_of, facts_of}
use Rattle.opa_session.proofs.telling.reach.count_dirty.Given as goal

abbrev pub invariant-loop-attr : goal.invariant-loop-attr
invariant-loop-attr g l = (l.count ≡ length (filter (λ s. is_dirty (base_of (g.K.Held.rules l.new)) (facts_of (g.H.Held.held l.old)) (facts_of (g.K.Held.held l.new)) s.0 s.1) (take l.attr-index l.slots))) × (l.count < l.attr-index + 1)
