-- How the name of a file is printed.
use Rattle.std.specs.Prelude.{ℕ, List, [], ◌∷◌, ◌++◌, encode_utf8, if◌then◌else◌}
use Rattle.std.specs.Str.{chars}
use Rattle.opa_words.specs.Characters.{is_control}

-- a control character stands as a question mark
abbrev pub printed_character : ℕ → ℕ
printed_character c = if is_control c then 63 else c

abbrev pub printed_characters : List ℕ → List ℕ
printed_characters [] = []
printed_characters (c ∷ cs) = encode_utf8 (printed_character c) ++ printed_characters cs

abbrev pub printed_name : List ℕ → List ℕ
printed_name name = printed_characters (chars name)
