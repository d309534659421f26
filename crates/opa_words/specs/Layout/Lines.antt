-- The lines of a text file.
use Rattle.std.specs.Prelude.{ℕ, ◌+◌, List, [], ◌∷◌, take, drop, length, ◌==◌, if◌then◌else◌}
use Rattle.std.specs.List.{slice_split}
use Rattle.std.specs.Str.{bytes_eq}
use Rattle.std.specs.Str.Lines.{strip_carriage_return}

-- without the byte order mark at the start
abbrev pub without_mark : List ℕ → List ℕ
without_mark bytes = if bytes_eq (take 3 bytes) (239 ∷ 187 ∷ 191 ∷ []) then drop 3 bytes else bytes

-- A line: its number, how many bytes it has as it was read, but for the line feed, and its text.
pub record Row : Type 0 where
  pub number : ℕ
  pub size : ℕ
  pub text : List ℕ

-- A line feed ends a line, and a carriage return before it is dropped. A last line without one counts if it is not empty.
abbrev pub numbered : ℕ → List (List ℕ) → List Row
numbered n [] = []
numbered n (x ∷ []) = if length x == 0 then [] else record { number = n; size = length x; text = x } ∷ []
numbered n (x ∷ y ∷ more) = record { number = n; size = length x; text = strip_carriage_return x } ∷ numbered (n + 1) (y ∷ more)

-- the lines of what follows, from this number on
abbrev pub rows_from : ℕ → List ℕ → List Row
rows_from n bytes = numbered n (slice_split (λ b. b == 10) bytes)

-- the lines of a file, counted from 1
abbrev pub rows : List ℕ → List Row
rows bytes = rows_from 1 (without_mark bytes)
