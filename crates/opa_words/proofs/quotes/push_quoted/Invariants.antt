use Rattle.std.proofs.Common.{◌≡◌, ◌++◌, ◌∷◌, [], length}
use Rattle.std.specs.String.{string_bytes}
use denote.Text.{Utf8}
use denote.Shadow.{shadow}
use Rattle.opa_words.specs.Kinds.{quoted, doubled}
use Rattle.opa_words.proofs.quotes.push_quoted.Given as goal

abbrev pub invariant-loop-front : goal.invariant-loop-front
invariant-loop-front l = record {
  utf8 : shadow (Utf8 l.rest);
  same : string_bytes l.out ++ (doubled l.rest ++ 34 ∷ []) ≡ string_bytes l.fn.out ++ quoted l.text;
}

abbrev pub decreases-loop-front : goal.decreases-loop-front
decreases-loop-front l = length l.rest
