-- What is read at the front of tokens. A text stays between its quotes.
use Rattle.std.specs.Prelude.{ℕ, ℤ, neg_ℤ, List, [], ◌∷◌, Bool, true, false, Option, Some, None, codes, if◌then◌else◌}
use Rattle.std.specs.Option.{option_map, option_and_then}
use Rattle.std.specs.Prelude.{Result, Ok, Err}
use Rattle.std.specs.Str.{bytes_eq}
use Rattle.opa_value.specs.declared.value.Value.{Value}
use Rattle.opa_value.specs.declared.value.Value.TheVariants as value
use Rattle.opa_value.specs.declared.number.NumFault.{NumFault}
use Rattle.opa_value.specs.NumberText.{read_number}
use Rattle.opa_value.specs.Numbers.{kept}
use Rattle.opa_date.specs.declared.fault.DayFault.{DayFault}
use Rattle.opa_date.specs.Texts.{read_day}
use Rattle.opa_words.specs.declared.kinds.TokenKind.{TokenKind}
use Rattle.opa_words.specs.declared.kinds.TokenKind.TheVariants as kind
use Rattle.opa_words.specs.Kinds.{quoted}
use Rattle.opa_words.specs.Pieces.{Piece, is_nothing}

-- the value with its text between quotes
abbrev pub as_written : Value → Value
as_written (value.Words t) = value.Words (quoted t)
as_written v = v

abbrev pub word_value : List ℕ → Option Value
word_value w =
    if bytes_eq w (codes "unknown") then Some value.Unknown else
    if bytes_eq w (codes "uncertain") then Some value.Uncertain else
    if bytes_eq w (codes "true") then Some (value.Bool true) else
    if bytes_eq w (codes "false") then Some (value.Bool false) else None

abbrev pub number_read : Result ℤ NumFault → Option ℤ
number_read (Ok n) = Some n
number_read (Err f) = None

abbrev pub number_of : List ℕ → Option ℤ
number_of t = number_read (read_number t)

-- the number with the other sign, which is one as well
abbrev pub negative : ℤ → Option ℤ
negative n = kept (neg_ℤ n)

abbrev pub day_read : Result ℕ DayFault → Option ℕ
day_read (Ok d) = Some d
day_read (Err f) = None

abbrev pub day_of : List ℕ → Option ℕ
day_of t = day_read (read_day t)

-- what one token says
abbrev pub token_value : TokenKind → List ℕ → Option Value
token_value kind.Word t = word_value t
token_value kind.Number t = option_map (λ n. value.Num n) (number_of t)
token_value kind.Date t = option_map (λ d. value.Day d) (day_of t)
token_value kind.Text t = Some (value.Words t)
token_value kind.Symbol t = None

abbrev pub with_rest : {A : Type 0} → List Piece → Option A → Option (A × List Piece)
with_rest rest o = option_map (λ x. (x, rest)) o

abbrev pub is_symbol : List ℕ → TokenKind → List ℕ → Bool
is_symbol s kind.Symbol t = bytes_eq t s
is_symbol s k t = false

abbrev pub is_word : List ℕ → TokenKind → List ℕ → Bool
is_word w kind.Word t = bytes_eq t w
is_word w k t = false

-- the number behind a minus
abbrev pub negative_token : TokenKind → List ℕ → Option Value
negative_token kind.Number t = option_map (λ n. value.Num n) (option_and_then negative (number_of t))
negative_token k t = None

abbrev pub after_minus : List Piece → Option (Value × List Piece)
after_minus [] = None
after_minus (p ∷ ps) = with_rest ps (negative_token p.kind p.text)

abbrev pub value_at : List Piece → Option (Value × List Piece)
value_at [] = None
value_at (p ∷ ps) = if is_symbol (codes "-") p.kind p.text then after_minus ps else with_rest ps (token_value p.kind p.text)

abbrev pub day_token : TokenKind → List ℕ → Option ℕ
day_token kind.Date t = day_of t
day_token k t = None

abbrev pub day_at : List Piece → Option (ℕ × List Piece)
day_at [] = None
day_at (p ∷ ps) = with_rest ps (day_token p.kind p.text)

-- what follows a token that is there
abbrev pub past_symbol : List ℕ → List Piece → Option (List Piece)
past_symbol s [] = None
past_symbol s (p ∷ ps) = if is_symbol s p.kind p.text then Some ps else None

abbrev pub past_word : List ℕ → List Piece → Option (List Piece)
past_word w [] = None
past_word w (p ∷ ps) = if is_word w p.kind p.text then Some ps else None

-- what follows `; from`
abbrev pub past_from : List Piece → Option (List Piece)
past_from ps = option_and_then (past_word (codes "from")) (past_symbol (codes ";") ps)

-- the value from that day on
abbrev pub value_from : ℕ × List Piece → Option ((ℕ × Value) × List Piece)
value_from x = option_map (λ y. ((x.0, y.0), y.1)) (value_at x.1)

-- the day behind `; from`
abbrev pub changed_day : List Piece → Option (ℕ × List Piece)
changed_day ps = option_and_then day_at (past_from ps)

abbrev pub change_at : List Piece → Option ((ℕ × Value) × List Piece)
change_at ps = option_and_then value_from (changed_day ps)

abbrev pub text_token : TokenKind → List ℕ → Option (List ℕ)
text_token kind.Text t = Some t
text_token k t = None

-- a name between its quotes
abbrev pub name_at : List Piece → Option (List ℕ × List Piece)
name_at [] = None
name_at (p ∷ ps) = with_rest ps (text_token p.kind p.text)

abbrev pub next_name : List Piece → Option (List ℕ × List Piece)
next_name ps = option_and_then name_at (past_symbol (codes ",") ps)

abbrev pub is_end : Option (List Piece) → Bool
is_end None = false
is_end (Some ps) = is_nothing ps

-- nothing but this word
abbrev pub is_only : List ℕ → List Piece → Bool
is_only w ps = is_end (past_word w ps)
