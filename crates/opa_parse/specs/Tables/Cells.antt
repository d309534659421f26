-- What the cells of a table say.
use Rattle.std.specs.Prelude.{◌≡◌, ℕ, Bool, true, false, ◌&&◌, List, [], ◌∷◌, Option, Some, None, length, codes}
use Rattle.std.specs.Str.{IsUtf8, bytes_eq, chars}
use Rattle.opa_model.specs.declared.lists.Lists.{Lists}
use Rattle.opa_tree.specs.declared.kinds.OpKind.{OpKind}
use Rattle.opa_tree.specs.declared.kinds.OpKind.TheVariants as op
use Rattle.opa_words.specs.declared.kinds.Token.{Token}
use Rattle.opa_words.specs.Cuts.{Cuts}
use Rattle.opa_sentence.specs.declared.class.Class.{Class}
use Rattle.opa_sentence.specs.declared.class.Class.TheVariants as class
use Rattle.opa_sentence.specs.declared.names.Names.{Names}
use Rattle.opa_sentence.specs.declared.reading.Reading.{Reading}
use Rattle.opa_sentence.specs.Lexemes.{Lexeme, lexemes}
use Rattle.opa_sentence.specs.Phrases.{past_words}
use Rattle.opa_sentence.specs.Grammar.{LINE, OPERAND}
use Rattle.opa_sentence.specs.Spelling.{IsSpelling}
use Rattle.opa_parse.specs.declared.line.Ending.TheVariants as ending
use Rattle.opa_parse.specs.Lines.{ending_of, is_none}
use Rattle.opa_parse.specs.Openings.{begins_with_word, concluded}
use Rattle.opa_parse.specs.declared.tables.cells.Heading.{Heading}
use Rattle.opa_parse.specs.declared.tables.cells.Heading.TheVariants as heading
use Rattle.opa_parse.specs.declared.tables.cells.Test.{Test}
use Rattle.opa_parse.specs.declared.tables.cells.Test.TheVariants as test

-- what there is, or none where there is none
abbrev pub Says : {A : Type 0} → (A → Type 0) → Option A → Type 0
Says {A} P None = (x : A) → P x → ⊥
Says P (Some x) = P x

-- the cell is text that is cut into these words
pub record IsCell (cell : List ℕ) (words : List Lexeme) : Type 0 where
  pub text : IsUtf8 cell
  pub tokens : List Token
  pub cut : Cuts (length cell) (chars cell) tokens
  pub words_are : words ≡ lexemes cell tokens

-- ---- the first record

abbrev pub is_equals : Class → Bool
is_equals (class.Compare op.Eq) = true
is_equals c = false

abbrev pub begins_with_equals : List Lexeme → Bool
begins_with_equals [] = false
begins_with_equals (t ∷ ts) = is_equals t.class

-- a Word followed by Word and Number tokens alone
abbrev pub are_words : List Lexeme → Bool
are_words ws = begins_with_word ws && is_none (past_words ws)

-- what the words say as an operand
abbrev pub IsOperand : Names → List Lexeme → Reading → Type 0
IsOperand ns ws x = IsSpelling ns OPERAND ws (Some x)

-- an operand that no connector and no ending stands after
abbrev pub IsCondition : Names → List Lexeme → Reading → Type 0
IsCondition ns ws x = (ending_of ws ≡ ending.Nothing) × IsOperand ns ws x

-- A condition head is an operand. A conclusion head is an equals sign and words, which conclude the attribute whose phrase they are.
pub data SpellsHead (m : Lists) (ns : Names) : List Lexeme → Heading → Type 0 where
  condition : {ws : List Lexeme} {x : Reading} → begins_with_equals ws ≡ false → IsCondition ns ws x → SpellsHead m ns ws (heading.Condition x)
  conclusion : {t : Lexeme} {ws : List Lexeme} → is_equals t.class ≡ true → are_words ws ≡ true → SpellsHead m ns (t ∷ ws) (heading.Conclusion (concluded m ws))

abbrev pub IsHeadCell : Lists → Names → List ℕ → Heading → Type 0
IsHeadCell m ns cell h = (ws : List Lexeme) × IsCell cell ws × SpellsHead m ns ws h

-- ---- condition cells

abbrev pub is_literal_class : Class → Bool
is_literal_class class.Number = true
is_literal_class class.Date = true
is_literal_class class.Text = true
is_literal_class class.True = true
is_literal_class class.False = true
is_literal_class class.Uncertain = true
is_literal_class c = false

abbrev pub is_minus : Class → Bool
is_minus class.Minus = true
is_minus c = false

abbrev pub is_number : Class → Bool
is_number class.Number = true
is_number c = false

-- one literal, or a minus and a Number
abbrev pub are_literal : List Lexeme → Bool
are_literal [] = false
are_literal (t ∷ []) = is_literal_class t.class
are_literal (s ∷ t ∷ ts) = (is_minus s.class && is_number t.class) && is_none ts

-- a literal says what it says as an operand
abbrev pub IsLiteral : Names → List Lexeme → Reading → Type 0
IsLiteral ns ws x = (are_literal ws ≡ true) × IsOperand ns ws x

abbrev pub sign_of : Class → Option OpKind
sign_of (class.Compare k) = Some k
sign_of c = None

-- A literal is compared by the sign before it, or by the equals sign if there is none.
pub data SpellsTest (ns : Names) : List Lexeme → Test → Type 0 where
  equals : {ws : List Lexeme} {x : Reading} → IsLiteral ns ws x → SpellsTest ns ws (test.Compares op.Eq x)
  compares : {t : Lexeme} {ws : List Lexeme} {x : Reading} (k : OpKind) → sign_of t.class ≡ Some k → IsLiteral ns ws x → SpellsTest ns (t ∷ ws) (test.Compares k x)

-- a cell without bytes asks for nothing
pub data IsConditionCell (ns : Names) : List ℕ → Test → Type 0 where
  empty : IsConditionCell ns [] test.Nothing
  filled : {cell : List ℕ} {ws : List Lexeme} {t : Test} → IsCell cell ws → SpellsTest ns ws t → IsConditionCell ns cell t

-- ---- value cells, and the word of the last record

-- a line that no connector and no ending stands after
abbrev pub IsLine : Names → List Lexeme → Reading → Type 0
IsLine ns ws x = (ending_of ws ≡ ending.Nothing) × IsSpelling ns LINE ws (Some x)

abbrev pub IsValueCell : Names → List ℕ → Reading → Type 0
IsValueCell ns cell x = (ws : List Lexeme) × IsCell cell ws × IsLine ns ws x

abbrev pub is_otherwise : List Lexeme → Bool
is_otherwise [] = false
is_otherwise (t ∷ []) = bytes_eq t.text (codes "otherwise")
is_otherwise (t ∷ u ∷ ts) = false

abbrev pub IsOtherwiseCell : List ℕ → Type 0
IsOtherwiseCell cell = (ws : List Lexeme) × IsCell cell ws × (is_otherwise ws ≡ true)
