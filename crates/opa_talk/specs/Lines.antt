-- The lines of an input: those that its line feeds end, each with its line feed, and a last one that no line feed ends, if it
-- isn't empty. A byte order mark is dropped at the start alone.
use Rattle.std.specs.Prelude.{ℕ, ◌≡◌, ◌⊎◌, ◌==◌, Bool, true, false, List, [], ◌∷◌, ◌++◌, All, drop, take, if◌then◌else◌}
use Rattle.std.specs.Str.{bytes_eq}
use Rattle.std.specs.List.{onto_first}

-- bytes, cut behind each line feed
abbrev pub lines : List ℕ → List (List ℕ)
lines [] = []
lines (b ∷ bytes) = if b == 10 then (b ∷ []) ∷ lines bytes else onto_first b (lines bytes)

-- without the byte order mark at the start
abbrev pub without_mark : List ℕ → List ℕ
without_mark bytes = if bytes_eq (take 3 bytes) (239 ∷ 187 ∷ 191 ∷ []) then drop 3 bytes else bytes

-- without the mark, where nothing stands before the bytes
abbrev pub line_at : Bool → List ℕ → List ℕ
line_at fresh bytes = if fresh then without_mark bytes else bytes

-- the lines of bytes, at the start of an input or after a line feed
abbrev pub lines_from : Bool → List ℕ → List (List ℕ)
lines_from fresh bytes = lines (line_at fresh bytes)

-- the lines of an input
abbrev pub input_lines : List ℕ → List (List ℕ)
input_lines bytes = lines_from true bytes

-- no line feed is among the bytes
abbrev pub IsPart : List ℕ → Type 0
IsPart bytes = All (λ b. (b == 10) ≡ false) bytes

-- there are no bytes, or a line feed is the last of them
abbrev pub EndsLine : List ℕ → Type 0
EndsLine bytes = (bytes ≡ []) ⊎ ((front : List ℕ) × (bytes ≡ front ++ 10 ∷ []))

-- these are the bytes up to the last line feed
pub record IsWhole (whole bytes : List ℕ) : Type 0 where
  pub rest : List ℕ
  pub cut : whole ++ rest ≡ bytes
  pub ends : EndsLine whole
  pub part : IsPart rest
