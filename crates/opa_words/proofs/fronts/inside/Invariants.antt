use Rattle.std.proofs.Common.{◌≡◌, ℕ, List, length, false}
use Rattle.std.specs.Option.{option_map, option_or}
use denote.Ref.{Bor}
use denote.Text.{Utf8}
use denote.Shadow.{shadow}
use Rattle.opa_words.specs.Scan.{inside}
use Rattle.opa_words.proofs.fronts.inside.Given as goal

abbrev pub invariant-loop-after : goal.invariant-loop-after
invariant-loop-after l = record {
  utf8 : shadow (Utf8 l.here);
  rest : option_or (inside false l.here) (option_map (λ (x : Bor (List ℕ)). x.now) l.end) ≡ inside false l.start;
}

abbrev pub decreases-loop-after : goal.decreases-loop-after
decreases-loop-after l = length l.here
