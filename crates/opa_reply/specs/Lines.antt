-- A line of the input, as it is read: its bytes, its text, and whether it is too long.
use Rattle.std.specs.Prelude.{ℕ, ◌-◌, Bool, ◌&&◌, ◌==◌, not, nat_lt, List, length, take, slice_index, if◌then◌else◌}
use Rattle.std.specs.Str.Lines.{strip_carriage_return}
use Rattle.opa_script.specs.Lines.{is_idle}
use Rattle.opa_io.specs.declared.limits.TheConstants.{MOST_LINE}

-- how many bytes a line may have
abbrev pub LONGEST : ℕ
LONGEST = MOST_LINE

-- a line feed ends the line
abbrev pub has_feed : List ℕ → Bool
has_feed line = slice_index line (length line - 1) == 10

-- the bytes of a line: all but its line feed
abbrev pub bytes_of : List ℕ → List ℕ
bytes_of line = if has_feed line then take (length line - 1) line else line

-- the text of a line: its bytes, but for a carriage return before its line feed
abbrev pub text_of : List ℕ → List ℕ
text_of line = if has_feed line then strip_carriage_return (bytes_of line) else line

-- It is neither blank nor a comment, and has more bytes than a line may have.
abbrev pub is_too_long : List ℕ → Bool
is_too_long line = nat_lt LONGEST (length (bytes_of line)) && not (is_idle (text_of line))
