-- Signs of a line that can't be where they are.
use Rattle.std.specs.Prelude.{ℕ, Bool, true, false, not, ◌&&◌, ◌||◌, List, [], ◌∷◌, codes, Option, Some, None, if◌then◌else◌}
use Rattle.std.specs.Option.{option_or, option_map}
use Rattle.std.specs.Str.{bytes_eq}
use Rattle.opa_words.specs.declared.kinds.Token.{Token}
use Rattle.opa_words.specs.Reserved.{is_ending}
use Rattle.opa_tree.specs.declared.kinds.OpKind.TheVariants as op
use Rattle.opa_sentence.specs.declared.class.Class.{Class}
use Rattle.opa_sentence.specs.declared.class.Class.TheVariants as class
use Rattle.opa_sentence.specs.Lexemes.{Lexeme, lexemes}
use Rattle.opa_rules.specs.declared.faults.slip.Part.{Part}
use Rattle.opa_rules.specs.declared.faults.slip.Part.TheVariants as part
use Rattle.opa_rules.specs.declared.faults.slip.Slip.{Slip}
use Rattle.opa_rules.specs.declared.faults.slip.Slip.TheVariants as slip

abbrev pub is_other : Class → Bool
is_other class.Other = true
is_other c = false

-- a sign of calculations, which no declaration has
abbrev pub is_of_values : Class → Bool
is_of_values class.Open = true
is_of_values class.Close = true
is_of_values class.Plus = true
is_of_values class.Times = true
is_of_values (class.Compare k) = true
is_of_values c = false

abbrev pub is_declaration : Part → Bool
is_declaration part.Declaration = true
is_declaration p = false

-- a sign that no line of such a part has
abbrev pub is_strange : Part → Lexeme → Bool
is_strange p t = if is_declaration p then is_of_values t.class || bytes_eq t.text (codes ";") else is_other t.class

-- a sign that asks for a value behind it
abbrev pub asks : Class → Bool
asks class.Open = true
asks class.Comma = true
asks class.Plus = true
asks class.Minus = true
asks class.Times = true
asks class.Slash = true
asks (class.Compare k) = true
asks c = false

-- with which no value begins
abbrev pub begins_none : Class → Bool
begins_none class.Close = true
begins_none class.Comma = true
begins_none class.Plus = true
begins_none class.Times = true
begins_none class.Slash = true
begins_none (class.Compare k) = true
begins_none c = false

abbrev pub is_over : List Lexeme → Bool
is_over [] = true
is_over (t ∷ ts) = false

-- no value begins here: the line ends, but for its last word, or another sign follows
abbrev pub lacks_value : List Lexeme → Bool
lacks_value [] = true
lacks_value (t ∷ ts) = begins_none t.class || (is_over ts && is_ending t.text)

abbrev pub is_equals : Class → Bool
is_equals (class.Compare op.Eq) = true
is_equals c = false

abbrev pub is_first : Part → Bool
is_first part.First = true
is_first p = false

-- the sign at the end of a first line, behind which cases are in the lines below
abbrev pub opens_cases : Part → Class → List Lexeme → Bool
opens_cases p c ts = is_first p && is_equals c && is_over ts

-- something is missing behind a sign of a rule
abbrev pub is_lacking : Part → Class → List Lexeme → Bool
is_lacking p c ts = if is_declaration p || not (asks c) then false else lacks_value ts && not (opens_cases p c ts)

-- what is wrong with the first token, by itself and by what follows it
abbrev pub sign_slip : Part → List Lexeme → Option Slip
sign_slip p [] = None
sign_slip p (t ∷ ts) = if is_strange p t then Some slip.Sign else if is_lacking p t.class ts then Some slip.Missing else None

-- the first token of a text with which something is wrong
abbrev pub wrong_sign : Part → List ℕ → List Token → Option (Slip × ℕ)
wrong_sign p text [] = None
wrong_sign p text (t ∷ ts) = option_or (option_map (λ s. (s, t.start)) (sign_slip p (lexemes text (t ∷ ts)))) (wrong_sign p text ts)
