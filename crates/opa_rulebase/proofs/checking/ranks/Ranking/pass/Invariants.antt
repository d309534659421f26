use Rattle.std.proofs.Common.{◌≡◌, ◌<◌, true, false}
use Rattle.opa_model.specs.declared.ids.AttrId.{AttrId}
use Rattle.opa_rulebase.specs.Checking.Found.{AreFound, IsDone}
use Rattle.opa_rulebase.proofs.checking.ranks.Ranking.pass.Given as goal

abbrev pub invariant-loop-place : goal.invariant-loop-place
invariant-loop-place l =
    AreFound l.uses l.self.ranks.items l.self.taken
    × (l.any ≡ true → l.initial.self.taken < l.self.taken)
    × (l.any ≡ false → l.self ≡ l.initial.self)
    × (l.any ≡ false → (a : AttrId) → a.0 < l.place → IsDone l.uses l.initial.self.ranks.items a)
