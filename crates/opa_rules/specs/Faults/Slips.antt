-- The first place of a block that can't be read, whatever the rest of the block says.
use Rattle.std.specs.Prelude.{ℕ, ◌==◌, Bool, false, not, ◌&&◌, ◌||◌, List, [], ◌∷◌, codes, drop, Option, None, if◌then◌else◌}
use Rattle.std.specs.List.{list_any}
use Rattle.std.specs.Option.{option_or}
use Rattle.opa_words.specs.declared.kinds.Token.{Token}
use Rattle.opa_words.specs.declared.layout.block.BlockLine.{BlockLine}
use Rattle.opa_sentence.specs.Lexemes.{Lexeme, lexemes}
use Rattle.opa_parse.specs.Lines.{ending_of}
use Rattle.opa_parse.specs.Openings.{is_declaring, is_if}
use Rattle.opa_rules.specs.Faults.Brackets.{found, bracket_slip}
use Rattle.opa_rules.specs.Faults.Joints.{end_slip}
use Rattle.opa_rules.specs.Faults.Signs.{is_declaration, is_first, is_equals, wrong_sign}
use Rattle.opa_rules.specs.declared.faults.slip.Part.{Part}
use Rattle.opa_rules.specs.declared.faults.slip.Part.TheVariants as part
use Rattle.opa_rules.specs.declared.faults.slip.Slip.{Slip}
use Rattle.opa_rules.specs.declared.faults.slip.Slip.TheVariants as slip

-- ---- which part of a block a line is

abbrev pub begins_declaration : List Lexeme → Bool
begins_declaration [] = false
begins_declaration (t ∷ ts) = is_declaring t.text

-- the first line, which has these tokens
abbrev pub first_part : List Lexeme → Part
first_part ts = if begins_declaration ts then part.Declaration else part.First

abbrev pub ends_with_if : List Lexeme → Bool
ends_with_if ts = is_if (ending_of ts)

-- the lines right below it
abbrev pub next_part : List Lexeme → Part
next_part ts = if begins_declaration ts then part.Declaration else if ends_with_if ts then part.Item else part.Case

-- a line of this level, if those right below the first one are this part: below cases there are groups
abbrev pub part_at : Part → ℕ → Part
part_at part.Case level = if level == 1 then part.Case else part.Item
part_at p level = p

-- ---- within a line

-- the first line of a rule has an equals sign, or ends with `if`
abbrev pub is_headed : List Lexeme → Bool
is_headed ts = list_any (λ t. is_equals t.class) ts || ends_with_if ts

abbrev pub head_slip : Part → List ℕ → List Token → Option (Slip × ℕ)
head_slip p text ts = if is_first p && not (is_headed (lexemes text ts)) then found slip.Head ts else None

-- declarations have brackets around the words of a verb
abbrev pub bracket_at : Part → List ℕ → List Token → Option (Slip × ℕ)
bracket_at p text ts = if is_declaration p then bracket_slip text (codes "[") (codes "]") ts else bracket_slip text (codes "(") (codes ")") ts

-- the first place of a line by itself
abbrev pub line_slip : Part → List ℕ → List Token → Option (Slip × ℕ)
line_slip p text ts = option_or (head_slip p text ts) (option_or (bracket_at p text ts) (wrong_sign p text ts))

-- the same of a line below the first one, before these lines
abbrev pub below_slip : Part → ℕ → List ℕ → List Token → List BlockLine → Option (Slip × ℕ)
below_slip p level text ts later = option_or (line_slip p text ts) (end_slip p level text ts later)

-- ---- where no token begins

abbrev pub is_quote : ℕ → Bool
is_quote c = c == 34

-- a sign that no line has, or a text that isn't closed, or that has a control character
abbrev pub stuck_by : List ℕ → Slip
stuck_by [] = slip.Sign
stuck_by (c ∷ cs) = if not (is_quote c) then slip.Sign else if list_any is_quote cs then slip.Control else slip.Text

abbrev pub stuck_slip : List ℕ → ℕ → Slip
stuck_slip text place = stuck_by (drop place text)
