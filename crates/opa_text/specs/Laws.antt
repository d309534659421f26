-- Laws of texts and their readers.
use Rattle.std.specs.Prelude.{◌≡◌, ◌<◌, ◌%◌, ℕ, List, false}
use Rattle.std.specs.List.{list_any, AllByRecursion}
use Rattle.std.specs.Int.RustNames.{unsigned_abs}
use Rattle.std.specs.Str.{chars, IsUtf8}
use Rattle.opa_value.specs.declared.value.Value.{Value}
use Rattle.opa_value.specs.declared.value.Value.TheVariants as value
use Rattle.opa_value.specs.Numbers.{InRange}
use Rattle.opa_date.specs.declared.TheConstants.{DAYS}
use Rattle.opa_line.specs.Lines.{IsLine}
use Rattle.opa_words.specs.Characters.{is_control}
use Rattle.opa_model.specs.declared.things.Kind.{Kind}
use Rattle.opa_model.specs.declared.things.Kind.TheVariants as kind
use Rattle.opa_words.specs.Pieces.{Piece}
use Rattle.opa_text.specs.Texts.{line_text}
use Rattle.opa_text.specs.Points.{known_names}
use Rattle.opa_text.specs.Spelled.{SpellsValue, HasPairs, IsLineOf, IsNamesOf}

-- ---- at most one

-- tokens begin with at most one value
abbrev pub OneValue : Type 0
OneValue = (ps : List Piece) (v w : Value) (rest left : List Piece) → SpellsValue v ps rest → SpellsValue w ps left → (v ≡ w) × (rest ≡ left)

-- a text says at most one list of pairs, and so at most one line
abbrev pub OneLine : Type 0
OneLine = (bytes : List ℕ) (pairs others : List (ℕ × Value)) → HasPairs bytes pairs → HasPairs bytes others → pairs ≡ others

abbrev pub OneLineOf : Type 0
OneLineOf = (bytes : List ℕ) (l m : List (ℕ × Value)) → IsLine DAYS l → IsLine DAYS m → IsLineOf bytes l → IsLineOf bytes m → l ≡ m

abbrev pub OneNames : Type 0
OneNames = (bytes : List ℕ) (ns ms : List (List ℕ)) → IsNamesOf bytes ns → IsNamesOf bytes ms → ns ≡ ms

-- ---- round trips

-- a text that can be written between quotes
pub record CanBeQuoted (t : List ℕ) : Type 0 where
  pub utf8 : IsUtf8 t
  pub plain : list_any is_control (chars t) ≡ false

-- a currency's number has no more than two decimals
abbrev pub HasDecimals : Kind → ℕ → Type 0
HasDecimals kind.Currency size = size % 100 ≡ 0
HasDecimals k size = Unit {0}

-- a value that can be written as one of the kind
abbrev pub CanBeWritten : Kind → Value → Type 0
CanBeWritten k (value.Num n) = InRange n × HasDecimals k (unsigned_abs n)
CanBeWritten k (value.Words t) = CanBeQuoted t
CanBeWritten k (value.Day d) = d < DAYS
CanBeWritten k v = Unit {0}

-- the text of a line says that line
abbrev pub LinesReadBack : Type 0
LinesReadBack = (k : Kind) (l : List (ℕ × Value)) → IsLine DAYS l → AllByRecursion (λ (p : ℕ × Value). CanBeWritten k p.1) l → HasPairs (line_text k l) l

-- the text of names says those names
abbrev pub NamesReadBack : Type 0
NamesReadBack = (ns : List (List ℕ)) → AllByRecursion CanBeQuoted ns → IsNamesOf (known_names ns) ns
