-- The grammar of a line, in its own words.
use Rattle.std.specs.Prelude.{◌≡◌, ℕ, ℤ, ◌+◌, List, [], ◌∷◌, ◌++◌, drop, Bool, true, false, Some, None, slice_get}
use Rattle.opa_value.specs.declared.value.Value.TheVariants as value
use Rattle.opa_tree.specs.declared.kinds.OpKind.{OpKind}
use Rattle.opa_tree.specs.declared.kinds.OpKind.TheVariants as op
use Rattle.opa_sentence.specs.declared.functions.Function.{Function}
use Rattle.opa_sentence.specs.declared.functions.Argument.TheVariants as argument
use Rattle.opa_sentence.specs.declared.class.Class.{Class}
use Rattle.opa_sentence.specs.declared.class.Class.TheVariants as class
use Rattle.opa_sentence.specs.declared.names.Names.{Names}
use Rattle.opa_sentence.specs.declared.names.Relation.{Relation}
use Rattle.opa_sentence.specs.declared.reading.Reading.{Reading}
use Rattle.opa_sentence.specs.declared.reading.Parts.{Parts}
use Rattle.opa_sentence.specs.declared.reading.Arguments.{Arguments}
use Rattle.opa_sentence.specs.Functions.{argument_at}
use Rattle.opa_sentence.specs.Lexemes.{Lexeme}
use Rattle.opa_sentence.specs.Literals.{number_in, negative_in, day_in}
use Rattle.opa_sentence.specs.Measures.{Bounds}
use Rattle.opa_sentence.specs.Phrases.{longest, past_words}
use Rattle.opa_words.specs.Quoted.{unquoted}
use Rattle.opa_sentence.specs.Readings as says
use Rattle.opa_sentence.specs.Table.{relation_at}

pub data Part : Type 0 where
  LINE : Part
  OPERAND : Part
  TERM : Part
  FACTOR : Part

-- a token of this class stands first
abbrev pub Begins : Class → List Lexeme → Type 0
Begins c [] = ⊥
Begins c (t ∷ ts) = t.class ≡ c

-- a Word that begins none of the other forms
pub data BeginsPhrase (t : Lexeme) (ts : List Lexeme) : Type 0 where
  word : t.class ≡ class.Word → BeginsPhrase t ts
  and : t.class ≡ class.And → BeginsPhrase t ts
  or : t.class ≡ class.Or → BeginsPhrase t ts
  function : (f : Function) → t.class ≡ class.Function f → (Begins class.Open ts → ⊥) → BeginsPhrase t ts

-- `and`, or else `or`
abbrev pub joint : Bool → Class
joint true = class.And
joint false = class.Or

module _ (b : Bounds) (ns : Names) where
  mutual
    -- The front of the tokens is spelled as that part of a line and says this, and the rest follows.
    pub data Spells : Part → List Lexeme → Reading → List Lexeme → Type 0 where
      one : {ts : List Lexeme} {x : Reading} {rest : List Lexeme} → Spells OPERAND ts x rest → Spells LINE ts x rest
      compared : {ts : List Lexeme} {x y : Reading} {t : Lexeme} {mid rest : List Lexeme} (k : OpKind) → t.class ≡ class.Compare k → Spells OPERAND ts x (t ∷ mid) → Spells OPERAND mid y rest → Spells LINE ts (says.between b k x y) rest
      term : {ts : List Lexeme} {x : Reading} {rest : List Lexeme} → Spells TERM ts x rest → Spells OPERAND ts x rest
      plus : {ts : List Lexeme} {x y : Reading} {t : Lexeme} {mid rest : List Lexeme} → t.class ≡ class.Plus → Spells OPERAND ts x (t ∷ mid) → Spells TERM mid y rest → Spells OPERAND ts (says.between b op.Add x y) rest
      less : {ts : List Lexeme} {x y : Reading} {t : Lexeme} {mid rest : List Lexeme} → t.class ≡ class.Minus → Spells OPERAND ts x (t ∷ mid) → Spells TERM mid y rest → Spells OPERAND ts (says.between b op.Sub x y) rest
      factor : {ts : List Lexeme} {x : Reading} {rest : List Lexeme} → Spells FACTOR ts x rest → Spells TERM ts x rest
      times : {ts : List Lexeme} {x y : Reading} {t : Lexeme} {mid rest : List Lexeme} → t.class ≡ class.Times → Spells TERM ts x (t ∷ mid) → Spells FACTOR mid y rest → Spells TERM ts (says.between b op.Mul x y) rest
      over : {ts : List Lexeme} {x y : Reading} {t : Lexeme} {mid rest : List Lexeme} → t.class ≡ class.Slash → Spells TERM ts x (t ∷ mid) → Spells FACTOR mid y rest → Spells TERM ts (says.between b op.Div x y) rest
      number : {t : Lexeme} {rest : List Lexeme} → t.class ≡ class.Number → (n : ℤ) → number_in t.text ≡ Some n → Spells FACTOR (t ∷ rest) (says.literal b (value.Num n)) rest
      negative : {s t : Lexeme} {rest : List Lexeme} → s.class ≡ class.Minus → t.class ≡ class.Number → (n : ℤ) → negative_in t.text ≡ Some n → Spells FACTOR (s ∷ t ∷ rest) (says.literal b (value.Num n)) rest
      date : {t : Lexeme} {rest : List Lexeme} → t.class ≡ class.Date → (d : ℕ) → day_in t.text ≡ Some d → Spells FACTOR (t ∷ rest) (says.literal b (value.Day d)) rest
      text : {t : Lexeme} {rest : List Lexeme} → t.class ≡ class.Text → Spells FACTOR (t ∷ rest) (says.literal b (value.Words (unquoted t.text))) rest
      yes : {t : Lexeme} {rest : List Lexeme} → t.class ≡ class.True → Spells FACTOR (t ∷ rest) (says.literal b (value.Bool true)) rest
      no : {t : Lexeme} {rest : List Lexeme} → t.class ≡ class.False → Spells FACTOR (t ∷ rest) (says.literal b (value.Bool false)) rest
      uncertain : {t : Lexeme} {rest : List Lexeme} → t.class ≡ class.Uncertain → Spells FACTOR (t ∷ rest) (says.literal b value.Uncertain) rest
      negate : {s : Lexeme} {ts : List Lexeme} {x : Reading} {rest : List Lexeme} → s.class ≡ class.Minus → (Begins class.Number ts → ⊥) → Spells FACTOR ts x rest
          → Spells FACTOR (s ∷ ts) (says.nested b (says.operation b op.Neg (says.one_part b x))) rest
      deny : {s : Lexeme} {ts : List Lexeme} {x : Reading} {rest : List Lexeme} → s.class ≡ class.Not → Spells FACTOR ts x rest → Spells FACTOR (s ∷ ts) (says.nested b (says.denial b x)) rest
      call : {t o c : Lexeme} {ts : List Lexeme} {a : Arguments} {rest : List Lexeme} (f : Function) → t.class ≡ class.Function f → o.class ≡ class.Open → SpellsArguments f 0 ts says.no_arguments a (c ∷ rest) → c.class ≡ class.Close
          → Spells FACTOR (t ∷ o ∷ ts) (says.call_of b ns.members f a) rest
      brackets : {o c : Lexeme} {ts : List Lexeme} {x : Reading} {rest : List Lexeme} → o.class ≡ class.Open → Spells LINE ts x (c ∷ rest) → c.class ≡ class.Close → Spells FACTOR (o ∷ ts) (says.nested b x) rest
      all : {o c : Lexeme} {ts : List Lexeme} {x : Reading} {p : Parts} {mid rest : List Lexeme} → o.class ≡ class.Open → Spells LINE ts x mid → SpellsMore true mid (says.one_part b x) p (c ∷ rest) → c.class ≡ class.Close
          → Spells FACTOR (o ∷ ts) (says.nested b (says.all b p)) rest
      any : {o c : Lexeme} {ts : List Lexeme} {x : Reading} {p : Parts} {mid rest : List Lexeme} → o.class ≡ class.Open → Spells LINE ts x mid → SpellsMore false mid (says.one_part b x) p (c ∷ rest) → c.class ≡ class.Close
          → Spells FACTOR (o ∷ ts) (says.nested b (says.any b p)) rest
      phrase : {t : Lexeme} {ts : List Lexeme} → BeginsPhrase t ts → (i n : ℕ) → longest ns.operands (t ∷ ts) ≡ Some (i, n) → Spells FACTOR (t ∷ ts) (says.operand b (slice_get ns.meanings i)) (drop n (t ∷ ts))
      unnamed : {t : Lexeme} {ts : List Lexeme} → BeginsPhrase t ts → longest ns.operands (t ∷ ts) ≡ None → Spells FACTOR (t ∷ ts) (says.unnamed b) (past_words (t ∷ ts))

    -- One or more lines, each after `and`, or each after `or`, go on from some parts to others.
    pub data SpellsMore : Bool → List Lexeme → Parts → Parts → List Lexeme → Type 0 where
      last : {j : Bool} {t : Lexeme} {ts : List Lexeme} {p : Parts} {x : Reading} {rest : List Lexeme} → t.class ≡ joint j → Spells LINE ts x rest → SpellsMore j (t ∷ ts) p (says.with_part b p x) rest
      more : {j : Bool} {t : Lexeme} {ts : List Lexeme} {p q : Parts} {x : Reading} {mid rest : List Lexeme} → t.class ≡ joint j → Spells LINE ts x mid → SpellsMore j mid (says.with_part b p x) q rest → SpellsMore j (t ∷ ts) p q rest

    -- The argument in place n goes on from some arguments to others.
    pub data SpellsArgument : Function → ℕ → List Lexeme → Arguments → Arguments → List Lexeme → Type 0 where
      as_line : {f : Function} {n : ℕ} {ts : List Lexeme} {a : Arguments} {x : Reading} {rest : List Lexeme} → argument_at f n ≡ Some argument.Line → Spells LINE ts x rest → SpellsArgument f n ts a (record a { lines = a.lines ++ x ∷ [] }) rest
      as_relation : {f : Function} {n : ℕ} {ts : List Lexeme} {a : Arguments} → argument_at f n ≡ Some argument.Relation → (x : Relation × List Lexeme) → relation_at ns ts ≡ Some x → SpellsArgument f n ts a (record a { relation = x.0 }) x.1
      as_number : {f : Function} {n : ℕ} {t : Lexeme} {a : Arguments} {rest : List Lexeme} → argument_at f n ≡ Some argument.Number → t.class ≡ class.Number → (z : ℤ) → number_in t.text ≡ Some z → SpellsArgument f n (t ∷ rest) a (record a { number = Some z }) rest

    -- the arguments from place n on, with commas between them, up to the last
    pub data SpellsArguments : Function → ℕ → List Lexeme → Arguments → Arguments → List Lexeme → Type 0 where
      last_argument : {f : Function} {n : ℕ} {ts : List Lexeme} {a z : Arguments} {rest : List Lexeme} → SpellsArgument f n ts a z rest → argument_at f (n + 1) ≡ None → SpellsArguments f n ts a z rest
      more_arguments : {f : Function} {n : ℕ} {ts : List Lexeme} {a y z : Arguments} {c : Lexeme} {mid rest : List Lexeme} → SpellsArgument f n ts a y (c ∷ mid) → c.class ≡ class.Comma → SpellsArguments f (n + 1) mid y z rest → SpellsArguments f n ts a z rest
