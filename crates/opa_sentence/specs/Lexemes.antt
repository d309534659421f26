-- What the tokens of a line are to the grammar.
use Rattle.std.specs.Prelude.{ℕ, List, Option, Some, None, codes, map, if◌then◌else◌}
use Rattle.std.specs.Str.{bytes_eq}
use Rattle.opa_words.specs.declared.kinds.TokenKind.{TokenKind}
use Rattle.opa_words.specs.declared.kinds.TokenKind.TheVariants as kind
use Rattle.opa_words.specs.declared.kinds.Token.{Token}
use Rattle.opa_words.specs.Places.{token_text}
use Rattle.opa_tree.specs.declared.kinds.OpKind.TheVariants as op
use Rattle.opa_sentence.specs.declared.functions.Function.{Function}
use Rattle.opa_sentence.specs.declared.class.Class.{Class}
use Rattle.opa_sentence.specs.declared.class.Class.TheVariants as class
use Rattle.opa_sentence.specs.Functions.{function_named}

abbrev pub function_class : Option Function → Class
function_class None = class.Word
function_class (Some f) = class.Function f

abbrev pub word_class : List ℕ → Class
word_class w =
    if bytes_eq w (codes "not") then class.Not else
    if bytes_eq w (codes "and") then class.And else
    if bytes_eq w (codes "or") then class.Or else
    if bytes_eq w (codes "true") then class.True else
    if bytes_eq w (codes "false") then class.False else
    if bytes_eq w (codes "uncertain") then class.Uncertain else
    function_class (function_named w)

abbrev pub symbol_class : List ℕ → Class
symbol_class s =
    if bytes_eq s (codes "(") then class.Open else
    if bytes_eq s (codes ")") then class.Close else
    if bytes_eq s (codes ",") then class.Comma else
    if bytes_eq s (codes "+") then class.Plus else
    if bytes_eq s (codes "-") then class.Minus else
    if bytes_eq s (codes "*") then class.Times else
    if bytes_eq s (codes "/") then class.Slash else
    if bytes_eq s (codes "=") then class.Compare op.Eq else
    if bytes_eq s (codes "<>") then class.Compare op.Ne else
    if bytes_eq s (codes "<") then class.Compare op.Lt else
    if bytes_eq s (codes "<=") then class.Compare op.Le else
    if bytes_eq s (codes ">") then class.Compare op.Gt else
    if bytes_eq s (codes ">=") then class.Compare op.Ge else
    class.Other

-- the class of a token
abbrev pub class_of : TokenKind → List ℕ → Class
class_of kind.Word w = word_class w
class_of kind.Number w = class.Number
class_of kind.Date w = class.Date
class_of kind.Text w = class.Text
class_of kind.Symbol w = symbol_class w

-- A token as the grammar sees it: its class and its text.
pub record Lexeme : Type 0 where
  pub class : Class
  pub text : List ℕ

abbrev pub lexeme : List ℕ → Token → Lexeme
lexeme bytes t = record { class = class_of t.kind (token_text bytes t); text = token_text bytes t }

-- the tokens of a text as the grammar sees them
abbrev pub lexemes : List ℕ → List Token → List Lexeme
lexemes bytes ts = map (lexeme bytes) ts
