use Rattle.std.proofs.Common.{◌≤◌, ◌<◌, ℕ, List, length, get_or}
use Rattle.opa_words.proofs.positions.widest_of.Given as goal

abbrev pub invariant-loop-text : goal.invariant-loop-text
invariant-loop-text l = (k : ℕ) (d : List ℕ) → k < l.text-index → length (get_or l.texts k d) ≤ l.widest
