-- The grammar of a line as a table: what is read next, by the token that stands there.
use Rattle.std.specs.Prelude.{ℕ, ℤ, ◌+◌, List, [], ◌∷◌, ◌++◌, drop, true, false, Option, Some, None, slice_get, if◌then◌else◌}
use Rattle.opa_value.specs.declared.value.Value.TheVariants as value
use Rattle.opa_tree.specs.declared.kinds.OpKind.TheVariants as op
use Rattle.opa_sentence.specs.declared.functions.Function.{Function}
use Rattle.opa_sentence.specs.declared.functions.Argument.{Argument}
use Rattle.opa_sentence.specs.declared.functions.Argument.TheVariants as argument
use Rattle.opa_sentence.specs.declared.class.Class.{Class}
use Rattle.opa_sentence.specs.declared.class.Class.TheVariants as class
use Rattle.opa_sentence.specs.declared.names.Names.{Names}
use Rattle.opa_sentence.specs.declared.names.Relation.{Relation}
use Rattle.opa_sentence.specs.declared.names.Relation.TheVariants as relation
use Rattle.opa_sentence.specs.declared.reading.Reading.{Reading}
use Rattle.opa_sentence.specs.declared.reading.Parts.{Parts}
use Rattle.opa_sentence.specs.declared.reading.Arguments.{Arguments}
use Rattle.opa_sentence.specs.declared.sorts.Sort.{Sort}
use Rattle.opa_sentence.specs.declared.sorts.Sort.TheVariants as sort
use Rattle.opa_sentence.specs.declared.sorts.Frame.{Frame}
use Rattle.opa_sentence.specs.declared.sorts.Frame.TheVariants as frame
use Rattle.opa_sentence.specs.Functions.{argument_at}
use Rattle.opa_sentence.specs.Lexemes.{Lexeme}
use Rattle.opa_sentence.specs.Literals.{number_in, number_literal, negative_literal, date_literal}
use Rattle.opa_sentence.specs.Measures.{Bounds}
use Rattle.opa_sentence.specs.Moves.{Move, fail, done, next, call}
use Rattle.opa_sentence.specs.Phrases.{longest, past_words, is_word}
use Rattle.opa_words.specs.Quoted.{unquoted}
use Rattle.opa_sentence.specs.Readings.{literal, unnamed, operand, denial, nested, operation, one_part, with_part, all, any, between, call_of, no_arguments}

abbrev pub Step : Type 0
Step = Move Sort Lexeme Frame Reading

abbrev pub finished : Option Reading → List Lexeme → Step
finished None ts = fail
finished (Some r) ts = done r ts

-- ---- phrases

abbrev pub phrase_found : Bounds → Names → List Lexeme → Option (ℕ × ℕ) → Step
phrase_found b ns ts None = done (unnamed b) (past_words ts)
phrase_found b ns ts (Some x) = done (operand b (slice_get ns.meanings x.0)) (drop x.1 ts)

-- an operand that begins with a word: the longest phrase, or else the words and numbers unnamed
abbrev pub phrase : Bounds → Names → List Lexeme → Step
phrase b ns ts = phrase_found b ns ts (longest ns.operands ts)

abbrev pub related_or_none : Option Relation → Relation
related_or_none None = relation.Unnamed
related_or_none (Some r) = r

abbrev pub relation_found : Names → Option (ℕ × ℕ) → Relation
relation_found ns None = relation.Unnamed
relation_found ns (Some x) = related_or_none (slice_get ns.related x.0)

abbrev pub past_found : List Lexeme → Option (ℕ × ℕ) → List Lexeme
past_found ts None = past_words ts
past_found ts (Some x) = drop x.1 ts

-- the relation whose phrase stands at the front, and what follows it
abbrev pub relation_at : Names → List Lexeme → Option (Relation × List Lexeme)
relation_at ns [] = None
relation_at ns (t ∷ ts) = if is_word t.class then Some (relation_found ns (longest ns.relations (t ∷ ts)), past_found (t ∷ ts) (longest ns.relations (t ∷ ts))) else None

-- ---- factors

-- after a minus
abbrev pub minus_at : Bounds → Class → Lexeme → List Lexeme → Step
minus_at b class.Number t ts = finished (negative_literal b t.text) ts
minus_at b c t ts = call sort.Factor frame.Negate (t ∷ ts)

abbrev pub minus : Bounds → List Lexeme → Step
minus b [] = call sort.Factor frame.Negate []
minus b (t ∷ ts) = minus_at b t.class t ts

-- what follows an opening bracket
abbrev pub past_open_at : Class → List Lexeme → Option (List Lexeme)
past_open_at class.Open ts = Some ts
past_open_at c ts = None

abbrev pub past_open : List Lexeme → Option (List Lexeme)
past_open [] = None
past_open (t ∷ ts) = past_open_at t.class ts

-- a function's name with its bracket begins a call; without one it is a word
abbrev pub function : Bounds → Names → Function → List Lexeme → Option (List Lexeme) → Step
function b ns f ts None = phrase b ns ts
function b ns f ts (Some rest) = next (sort.Argument f 0 no_arguments) rest

abbrev pub factor_at : Bounds → Names → Class → Lexeme → List Lexeme → Step
factor_at b ns class.Number t ts = finished (number_literal b t.text) ts
factor_at b ns class.Date t ts = finished (date_literal b t.text) ts
factor_at b ns class.Text t ts = done (literal b (value.Words (unquoted t.text))) ts
factor_at b ns class.True t ts = done (literal b (value.Bool true)) ts
factor_at b ns class.False t ts = done (literal b (value.Bool false)) ts
factor_at b ns class.Uncertain t ts = done (literal b value.Uncertain) ts
factor_at b ns class.Minus t ts = minus b ts
factor_at b ns class.Not t ts = call sort.Factor frame.Deny ts
factor_at b ns class.Open t ts = call sort.Line frame.Bracket ts
factor_at b ns (class.Function f) t ts = function b ns f (t ∷ ts) (past_open ts)
factor_at b ns class.Word t ts = phrase b ns (t ∷ ts)
factor_at b ns class.And t ts = phrase b ns (t ∷ ts)
factor_at b ns class.Or t ts = phrase b ns (t ∷ ts)
factor_at b ns c t ts = fail

abbrev pub factor : Bounds → Names → List Lexeme → Step
factor b ns [] = fail
factor b ns (t ∷ ts) = factor_at b ns t.class t ts

-- ---- after a part

-- after the first operand of a line
abbrev pub line_at : Reading → Class → Lexeme → List Lexeme → Step
line_at a (class.Compare k) t ts = call sort.Operand (frame.Compare k a) ts
line_at a c t ts = done a (t ∷ ts)

abbrev pub line_after : Reading → List Lexeme → Step
line_after a [] = done a []
line_after a (t ∷ ts) = line_at a t.class t ts

-- after the terms so far
abbrev pub operand_at : Reading → Class → Lexeme → List Lexeme → Step
operand_at a class.Plus t ts = call sort.Term (frame.Join op.Add a) ts
operand_at a class.Minus t ts = call sort.Term (frame.Join op.Sub a) ts
operand_at a c t ts = done a (t ∷ ts)

abbrev pub operand_after : Reading → List Lexeme → Step
operand_after a [] = done a []
operand_after a (t ∷ ts) = operand_at a t.class t ts

-- after the factors so far
abbrev pub term_at : Reading → Class → Lexeme → List Lexeme → Step
term_at a class.Times t ts = call sort.Factor (frame.Scale op.Mul a) ts
term_at a class.Slash t ts = call sort.Factor (frame.Scale op.Div a) ts
term_at a c t ts = done a (t ∷ ts)

abbrev pub term_after : Reading → List Lexeme → Step
term_after a [] = done a []
term_after a (t ∷ ts) = term_at a t.class t ts

-- after the first line in brackets
abbrev pub bracket_at : Bounds → Reading → Class → List Lexeme → Step
bracket_at b a class.Close ts = done (nested b a) ts
bracket_at b a class.And ts = call sort.Line (frame.All (one_part b a)) ts
bracket_at b a class.Or ts = call sort.Line (frame.Any (one_part b a)) ts
bracket_at b a c ts = fail

abbrev pub bracket_after : Bounds → Reading → List Lexeme → Step
bracket_after b a [] = fail
bracket_after b a (t ∷ ts) = bracket_at b a t.class ts

abbrev pub all_at : Bounds → Parts → Class → List Lexeme → Step
all_at b p class.Close ts = done (nested b (all b p)) ts
all_at b p class.And ts = call sort.Line (frame.All p) ts
all_at b p c ts = fail

abbrev pub all_after : Bounds → Parts → List Lexeme → Step
all_after b p [] = fail
all_after b p (t ∷ ts) = all_at b p t.class ts

abbrev pub any_at : Bounds → Parts → Class → List Lexeme → Step
any_at b p class.Close ts = done (nested b (any b p)) ts
any_at b p class.Or ts = call sort.Line (frame.Any p) ts
any_at b p c ts = fail

abbrev pub any_after : Bounds → Parts → List Lexeme → Step
any_after b p [] = fail
any_after b p (t ∷ ts) = any_at b p t.class ts

-- ---- arguments

abbrev pub relation_taken : Function → ℕ → Arguments → Option (Relation × List Lexeme) → Step
relation_taken f n a None = fail
relation_taken f n a (Some x) = next (sort.ArgumentAfter f (n + 1) (record a { relation = x.0 })) x.1

abbrev pub number_taken : Function → ℕ → Arguments → Option ℤ → List Lexeme → Step
number_taken f n a None ts = fail
number_taken f n a (Some z) ts = next (sort.ArgumentAfter f (n + 1) (record a { number = Some z })) ts

abbrev pub number_at : Function → ℕ → Arguments → Class → Lexeme → List Lexeme → Step
number_at f n a class.Number t ts = number_taken f n a (number_in t.text) ts
number_at f n a c t ts = fail

abbrev pub number_first : Function → ℕ → Arguments → List Lexeme → Step
number_first f n a [] = fail
number_first f n a (t ∷ ts) = number_at f n a t.class t ts

-- the argument in this place
abbrev pub argument_in : Names → Function → ℕ → Arguments → Option Argument → List Lexeme → Step
argument_in ns f n a None ts = fail
argument_in ns f n a (Some argument.Line) ts = call sort.Line (frame.Argument f (n + 1) a) ts
argument_in ns f n a (Some argument.Relation) ts = relation_taken f n a (relation_at ns ts)
argument_in ns f n a (Some argument.Number) ts = number_first f n a ts

-- the last bracket of a call stands where no argument is left
abbrev pub closed : Bounds → Names → Function → Arguments → Option Argument → List Lexeme → Step
closed b ns f a None ts = done (call_of b ns.members f a) ts
closed b ns f a (Some x) ts = fail

abbrev pub comma_at : Bounds → Names → Function → ℕ → Arguments → Class → List Lexeme → Step
comma_at b ns f n a class.Comma ts = next (sort.Argument f n a) ts
comma_at b ns f n a class.Close ts = closed b ns f a (argument_at f n) ts
comma_at b ns f n a c ts = fail

abbrev pub argument_after : Bounds → Names → Function → ℕ → Arguments → List Lexeme → Step
argument_after b ns f n a [] = fail
argument_after b ns f n a (t ∷ ts) = comma_at b ns f n a t.class ts

-- ---- the table

-- what is read next
abbrev pub production : Bounds → Names → Sort → List Lexeme → Step
production b ns sort.Line ts = call sort.Operand frame.Line ts
production b ns sort.Operand ts = call sort.Term frame.Operand ts
production b ns sort.Term ts = call sort.Factor frame.Term ts
production b ns sort.Factor ts = factor b ns ts
production b ns (sort.LineAfter a) ts = line_after a ts
production b ns (sort.OperandAfter a) ts = operand_after a ts
production b ns (sort.TermAfter a) ts = term_after a ts
production b ns (sort.Whole a) ts = done a ts
production b ns (sort.BracketAfter a) ts = bracket_after b a ts
production b ns (sort.AllAfter p) ts = all_after b p ts
production b ns (sort.AnyAfter p) ts = any_after b p ts
production b ns (sort.Argument f n a) ts = argument_in ns f n a (argument_at f n) ts
production b ns (sort.ArgumentAfter f n a) ts = argument_after b ns f n a ts

-- what is read next, once the part of a frame was read
abbrev pub resume : Bounds → Frame → Reading → Sort
resume b frame.Line e = sort.LineAfter e
resume b frame.Operand e = sort.OperandAfter e
resume b frame.Term e = sort.TermAfter e
resume b (frame.Compare k a) e = sort.Whole (between b k a e)
resume b (frame.Join k a) e = sort.OperandAfter (between b k a e)
resume b (frame.Scale k a) e = sort.TermAfter (between b k a e)
resume b frame.Deny e = sort.Whole (nested b (denial b e))
resume b frame.Negate e = sort.Whole (nested b (operation b op.Neg (one_part b e)))
resume b frame.Bracket e = sort.BracketAfter e
resume b (frame.All p) e = sort.AllAfter (with_part b p e)
resume b (frame.Any p) e = sort.AnyAfter (with_part b p e)
resume b (frame.Argument f n a) e = sort.ArgumentAfter f n (record a { lines = a.lines ++ e ∷ [] })
