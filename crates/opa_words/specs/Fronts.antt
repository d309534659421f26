-- The text between quotes at the front of a line of bytes.
use Rattle.std.specs.Prelude.{◌≡◌, ◌≤◌, ℕ, List, ◌++◌, length, false}
use Rattle.std.specs.List.{list_any}
use Rattle.opa_words.specs.Characters.{is_control}
use Rattle.opa_words.specs.Kinds.{quoted}

-- the line begins with this text between quotes, which has no control characters, and the rest follows
pub record HasInFront (line inner rest : List ℕ) : Type 0 where
  pub split : line ≡ quoted inner ++ rest
  pub clean : list_any is_control inner ≡ false

-- and with no longer one: after each that the line begins with, no less follows
pub record BeginsWithText (line inner rest : List ℕ) : Type 0 where
  pub front : HasInFront line inner rest
  pub longest : (other left : List ℕ) → HasInFront line other left → length rest ≤ length left

-- the line begins with no text between quotes
abbrev pub BeginsWithNoText : List ℕ → Type 0
BeginsWithNoText line = (inner rest : List ℕ) → HasInFront line inner rest → ⊥
