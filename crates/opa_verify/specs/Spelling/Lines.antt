-- A text in whole lines, each with its line feed, and what is left behind the last.
use Rattle.std.specs.Prelude.{ℕ, ◌==◌, List, [], ◌∷◌, if◌then◌else◌}

pub record Lined : Type 0 where
  pub lines : List (List ℕ)
  pub left : List ℕ

abbrev pub onto_line : ℕ → List (List ℕ) → List ℕ → Lined
onto_line b [] left = record { lines = []; left = b ∷ left }
onto_line b (l ∷ ls) left = record { lines = (b ∷ l) ∷ ls; left = left }

-- a byte before such a text
abbrev pub with_byte : ℕ → Lined → Lined
with_byte b t = if b == 10 then record { lines = (b ∷ []) ∷ t.lines; left = t.left } else onto_line b t.lines t.left

abbrev pub lined : List ℕ → Lined
lined [] = record { lines = []; left = [] }
lined (b ∷ bytes) = with_byte b (lined bytes)

-- a line before such a text
abbrev pub with_line : List ℕ → Lined → Lined
with_line line t = record { lines = line ∷ t.lines; left = t.left }
