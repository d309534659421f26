-- The name of a case in front of a text, and the text of a line.
use Rattle.std.specs.Prelude.{◌≡◌, ◌≤◌, ℕ, Bool, true, List, length, nat_le, ◌&&◌}
use Rattle.std.specs.Str.{IsUtf8}
use Rattle.opa_words.specs.Fronts.{BeginsWithText}
use Rattle.opa_script.specs.Lines.{past_blanks}
use Rattle.opa_reply.specs.Lines.{bytes_of, text_of, LONGEST}
use Rattle.opa_io.specs.declared.limits.TheConstants.{MOST_CASE_NAME}

-- a name has 1 to 100 bytes
abbrev pub is_short : List ℕ → Bool
is_short name = nat_le 1 (length name) && nat_le (length name) MOST_CASE_NAME

-- the text begins with the name, and the rest follows
pub record IsFront (text name rest : List ℕ) : Type 0 where
  pub begins : BeginsWithText text name rest
  pub short : is_short name ≡ true

abbrev pub IsNoFront : List ℕ → Type 0
IsNoFront text = (name rest : List ℕ) → IsFront text name rest → ⊥

-- the text of a line that isn't too long, behind its blanks
pub record IsText (read text : List ℕ) : Type 0 where
  pub same : text ≡ past_blanks (text_of read)
  pub short : length (bytes_of read) ≤ LONGEST
  pub utf8 : IsUtf8 (past_blanks (text_of read))

abbrev pub IsNoText : List ℕ → Type 0
IsNoText read = length (bytes_of read) ≤ LONGEST → IsUtf8 (past_blanks (text_of read)) → ⊥
