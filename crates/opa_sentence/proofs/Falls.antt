-- Each move makes what is left smaller.
use Rattle.std.proofs.Common.{◌≡◌, ℕ, ◌+◌, ◌-◌, ◌*◌, ◌<◌, ◌≤◌, ℤ, List, [], ◌∷◌, length, drop, Bool, true, false, cond, Option, Some, None, refl, subst, arith, length-drop}
use Rattle.opa_sentence.specs.declared.functions.Function.{Function}
use Rattle.opa_sentence.specs.declared.functions.Argument.{Argument}
use Rattle.opa_sentence.specs.declared.functions.Argument.TheVariants as argument
use Rattle.opa_sentence.specs.declared.class.Class.{Class}
use Rattle.opa_sentence.specs.declared.class.Class.TheVariants as class
use Rattle.opa_sentence.specs.declared.names.Names.{Names}
use Rattle.opa_sentence.specs.declared.names.Relation.{Relation}
use Rattle.opa_sentence.specs.declared.reading.Reading.{Reading}
use Rattle.opa_sentence.specs.declared.reading.Parts.{Parts}
use Rattle.opa_sentence.specs.declared.reading.Arguments.{Arguments}
use Rattle.opa_sentence.specs.declared.sorts.Sort.{Sort}
use Rattle.opa_sentence.specs.declared.sorts.Sort.TheVariants as sort
use Rattle.opa_sentence.specs.declared.sorts.Frame.{Frame}
use Rattle.opa_sentence.specs.declared.sorts.Frame.TheVariants as frame
use Rattle.opa_sentence.specs.Functions.{argument_at}
use Rattle.opa_sentence.specs.Lexemes.{Lexeme}
use Rattle.opa_sentence.specs.Literals.{number_in, number_literal, negative_literal, date_literal}
use Rattle.opa_sentence.specs.Measures.{Bounds}
use Rattle.opa_sentence.specs.Moves.{fail, done, next, call}
use Rattle.opa_sentence.specs.Phrases.{longest, past_words, is_word, is_wordlike}
use Rattle.opa_sentence.specs.Table.{Step, finished, phrase_found, past_found, relation_found, relation_at, minus_at, minus, past_open_at, past_open, function, factor_at, factor, line_at, line_after, operand_at, operand_after, term_at, term_after, bracket_at, bracket_after, all_at, all_after, any_at, any_after, relation_taken, number_taken, number_at, number_first, argument_in, closed, comma_at, argument_after, production, resume}
use Rattle.opa_sentence.specs.Spelled.{weight, rank}

module _ (b : Bounds) where
  -- a move leaves less than w
  abbrev pub Less : ℕ → Step → Type 0
  Less w fail = Unit {0}
  Less w (done e rest) = 10 * length rest < w
  Less w (next s rest) = weight s rest < w
  Less w (call s k mid) = weight s mid + 1 < w

  finished_less : (o : Option Reading) (ts : List Lexeme) (w : ℕ) → 10 * length ts < w → Less w (finished o ts)
  finished_less None ts w h = tt
  finished_less (Some r) ts w h = h

  pub past_shorter : (ts : List Lexeme) → length (past_words ts) ≤ length ts
  past_shorter [] = omega arith
  past_shorter (t ∷ ts) = go (is_wordlike t.class) (past_shorter ts)
    where
      go : (b : Bool) → length (past_words ts) ≤ length ts → length (cond b (past_words ts) (t ∷ ts)) ≤ length (t ∷ ts)
      go true h = omega (arith, h)
      go false h = omega arith

  drop_shorter : (n : ℕ) (ts : List Lexeme) → length (drop n ts) ≤ length ts
  drop_shorter n ts = omega (arith, length-drop n ts)

  pub found_shorter : (ts : List Lexeme) (o : Option (ℕ × ℕ)) → length (past_found ts o) ≤ length ts
  found_shorter ts None = past_shorter ts
  found_shorter ts (Some x) = drop_shorter x.1 ts

  phrase_less : (ns : Names) (ts : List Lexeme) (o : Option (ℕ × ℕ)) → Less (10 * length ts + 1) (phrase_found b ns ts o)
  phrase_less ns ts None = omega (arith, past_shorter ts)
  phrase_less ns ts (Some x) = omega (arith, drop_shorter x.1 ts)

  minus_at_less : (c : Class) (t : Lexeme) (ts us : List Lexeme) → length us ≡ length ts + 2 → Less (10 * length us + 1) (minus_at b c t ts)
  minus_at_less class.Number t ts us e = finished_less (negative_literal b t.text) ts (10 * length us + 1) (omega (arith, e))
  minus_at_less c t ts us e = omega (arith, e)

  minus_less : (ts us : List Lexeme) → length us ≡ length ts + 1 → Less (10 * length us + 1) (minus b ts)
  minus_less [] us e = omega (arith, e)
  minus_less (t ∷ ts) us e = minus_at_less t.class t ts us (omega (arith, e))

  abbrev Within : ℕ → Option (List Lexeme) → Type 0
  Within n None = Unit {0}
  Within n (Some ts) = length ts ≤ n

  open_at_within : (c : Class) (ts : List Lexeme) → Within (length ts) (past_open_at c ts)
  open_at_within class.Open ts = omega arith
  open_at_within c ts = tt

  wider : (m n : ℕ) (o : Option (List Lexeme)) → m ≤ n → Within m o → Within n o
  wider m n None l h = tt
  wider m n (Some ts) l h = omega (arith, l, h)

  open_within : (ts : List Lexeme) → Within (length ts - 1) (past_open ts)
  open_within [] = tt
  open_within (t ∷ ts) = wider (length ts) (length (t ∷ ts) - 1) (past_open_at t.class ts) (omega arith) (open_at_within t.class ts)

  function_less : (ns : Names) (f : Function) (t : Lexeme) (ts : List Lexeme) (o : Option (List Lexeme)) → Within (length ts) o → Less (10 * length (t ∷ ts) + 1) (function b ns f (t ∷ ts) o)
  function_less ns f t ts None h = phrase_less ns (t ∷ ts) (longest ns.operands (t ∷ ts))
  function_less ns f t ts (Some rest) h = omega (arith, h)

  factor_at_less : (ns : Names) (c : Class) (t : Lexeme) (ts : List Lexeme) → Less (10 * length (t ∷ ts) + 1) (factor_at b ns c t ts)
  factor_at_less ns class.Number t ts = finished_less (number_literal b t.text) ts (10 * length (t ∷ ts) + 1) (omega arith)
  factor_at_less ns class.Date t ts = finished_less (date_literal b t.text) ts (10 * length (t ∷ ts) + 1) (omega arith)
  factor_at_less ns class.Text t ts = omega arith
  factor_at_less ns class.True t ts = omega arith
  factor_at_less ns class.False t ts = omega arith
  factor_at_less ns class.Uncertain t ts = omega arith
  factor_at_less ns class.Minus t ts = minus_less ts (t ∷ ts) (omega arith)
  factor_at_less ns class.Not t ts = omega arith
  factor_at_less ns class.Open t ts = omega arith
  factor_at_less ns (class.Function f) t ts = function_less ns f t ts (past_open ts) (wider (length ts - 1) (length ts) (past_open ts) (omega arith) (open_within ts))
  factor_at_less ns class.Word t ts = phrase_less ns (t ∷ ts) (longest ns.operands (t ∷ ts))
  factor_at_less ns class.And t ts = phrase_less ns (t ∷ ts) (longest ns.operands (t ∷ ts))
  factor_at_less ns class.Or t ts = phrase_less ns (t ∷ ts) (longest ns.operands (t ∷ ts))
  factor_at_less ns c t ts = tt

  factor_less : (ns : Names) (ts : List Lexeme) → Less (10 * length ts + 1) (factor b ns ts)
  factor_less ns [] = tt
  factor_less ns (t ∷ ts) = factor_at_less ns t.class t ts

  line_at_less : (a : Reading) (c : Class) (t : Lexeme) (ts : List Lexeme) → Less (10 * length (t ∷ ts) + 1) (line_at a c t ts)
  line_at_less a (class.Compare k) t ts = omega arith
  line_at_less a c t ts = omega arith

  line_less : (a : Reading) (ts : List Lexeme) → Less (10 * length ts + 1) (line_after a ts)
  line_less a [] = omega arith
  line_less a (t ∷ ts) = line_at_less a t.class t ts

  operand_at_less : (a : Reading) (c : Class) (t : Lexeme) (ts : List Lexeme) → Less (10 * length (t ∷ ts) + 1) (operand_at a c t ts)
  operand_at_less a class.Plus t ts = omega arith
  operand_at_less a class.Minus t ts = omega arith
  operand_at_less a c t ts = omega arith

  operand_less : (a : Reading) (ts : List Lexeme) → Less (10 * length ts + 1) (operand_after a ts)
  operand_less a [] = omega arith
  operand_less a (t ∷ ts) = operand_at_less a t.class t ts

  term_at_less : (a : Reading) (c : Class) (t : Lexeme) (ts : List Lexeme) → Less (10 * length (t ∷ ts) + 1) (term_at a c t ts)
  term_at_less a class.Times t ts = omega arith
  term_at_less a class.Slash t ts = omega arith
  term_at_less a c t ts = omega arith

  term_less : (a : Reading) (ts : List Lexeme) → Less (10 * length ts + 1) (term_after a ts)
  term_less a [] = omega arith
  term_less a (t ∷ ts) = term_at_less a t.class t ts

  bracket_at_less : (a : Reading) (c : Class) (t : Lexeme) (ts : List Lexeme) → Less (10 * length (t ∷ ts) + 1) (bracket_at b a c ts)
  bracket_at_less a class.Close t ts = omega arith
  bracket_at_less a class.And t ts = omega arith
  bracket_at_less a class.Or t ts = omega arith
  bracket_at_less a c t ts = tt

  bracket_less : (a : Reading) (ts : List Lexeme) → Less (10 * length ts + 1) (bracket_after b a ts)
  bracket_less a [] = tt
  bracket_less a (t ∷ ts) = bracket_at_less a t.class t ts

  all_at_less : (p : Parts) (c : Class) (t : Lexeme) (ts : List Lexeme) → Less (10 * length (t ∷ ts) + 1) (all_at b p c ts)
  all_at_less p class.Close t ts = omega arith
  all_at_less p class.And t ts = omega arith
  all_at_less p c t ts = tt

  all_less : (p : Parts) (ts : List Lexeme) → Less (10 * length ts + 1) (all_after b p ts)
  all_less p [] = tt
  all_less p (t ∷ ts) = all_at_less p t.class t ts

  any_at_less : (p : Parts) (c : Class) (t : Lexeme) (ts : List Lexeme) → Less (10 * length (t ∷ ts) + 1) (any_at b p c ts)
  any_at_less p class.Close t ts = omega arith
  any_at_less p class.Or t ts = omega arith
  any_at_less p c t ts = tt

  any_less : (p : Parts) (ts : List Lexeme) → Less (10 * length ts + 1) (any_after b p ts)
  any_less p [] = tt
  any_less p (t ∷ ts) = any_at_less p t.class t ts

  abbrev RestWithin : ℕ → Option (Relation × List Lexeme) → Type 0
  RestWithin n None = Unit {0}
  RestWithin n (Some x) = length x.1 ≤ n

  relation_within : (ns : Names) (ts : List Lexeme) → RestWithin (length ts) (relation_at ns ts)
  relation_within ns [] = tt
  relation_within ns (t ∷ ts) = go (is_word t.class)
    where
      go : (b : Bool) → RestWithin (length (t ∷ ts)) (cond b (Some (relation_found ns (longest ns.relations (t ∷ ts)), past_found (t ∷ ts) (longest ns.relations (t ∷ ts)))) None)
      go true = found_shorter (t ∷ ts) (longest ns.relations (t ∷ ts))
      go false = tt

  relation_less : (f : Function) (n : ℕ) (a : Arguments) (ts : List Lexeme) (o : Option (Relation × List Lexeme)) → RestWithin (length ts) o → Less (10 * length ts + 9) (relation_taken f n a o)
  relation_less f n a ts None h = tt
  relation_less f n a ts (Some x) h = omega (arith, h)

  number_taken_less : (f : Function) (n : ℕ) (a : Arguments) (z : Option ℤ) (t : Lexeme) (ts : List Lexeme) → Less (10 * length (t ∷ ts) + 9) (number_taken f n a z ts)
  number_taken_less f n a None t ts = tt
  number_taken_less f n a (Some z) t ts = omega arith

  number_at_less : (f : Function) (n : ℕ) (a : Arguments) (c : Class) (t : Lexeme) (ts : List Lexeme) → Less (10 * length (t ∷ ts) + 9) (number_at f n a c t ts)
  number_at_less f n a class.Number t ts = number_taken_less f n a (number_in t.text) t ts
  number_at_less f n a c t ts = tt

  number_less : (f : Function) (n : ℕ) (a : Arguments) (ts : List Lexeme) → Less (10 * length ts + 9) (number_first f n a ts)
  number_less f n a [] = tt
  number_less f n a (t ∷ ts) = number_at_less f n a t.class t ts

  argument_less : (ns : Names) (f : Function) (n : ℕ) (a : Arguments) (o : Option Argument) (ts : List Lexeme) → Less (10 * length ts + 9) (argument_in ns f n a o ts)
  argument_less ns f n a None ts = tt
  argument_less ns f n a (Some argument.Line) ts = omega arith
  argument_less ns f n a (Some argument.Relation) ts = relation_less f n a ts (relation_at ns ts) (relation_within ns ts)
  argument_less ns f n a (Some argument.Number) ts = number_less f n a ts

  closed_less : (ns : Names) (f : Function) (a : Arguments) (o : Option Argument) (t : Lexeme) (ts : List Lexeme) → Less (10 * length (t ∷ ts) + 1) (closed b ns f a o ts)
  closed_less ns f a None t ts = omega arith
  closed_less ns f a (Some x) t ts = tt

  comma_less : (ns : Names) (f : Function) (n : ℕ) (a : Arguments) (c : Class) (t : Lexeme) (ts : List Lexeme) → Less (10 * length (t ∷ ts) + 1) (comma_at b ns f n a c ts)
  comma_less ns f n a class.Comma t ts = omega arith
  comma_less ns f n a class.Close t ts = closed_less ns f a (argument_at f n) t ts
  comma_less ns f n a c t ts = tt

  argument_after_less : (ns : Names) (f : Function) (n : ℕ) (a : Arguments) (ts : List Lexeme) → Less (10 * length ts + 1) (argument_after b ns f n a ts)
  argument_after_less ns f n a [] = tt
  argument_after_less ns f n a (t ∷ ts) = comma_less ns f n a t.class t ts

  pub falls : (ns : Names) (s : Sort) (ts : List Lexeme) → Less (weight s ts) (production b ns s ts)
  falls ns sort.Line ts = omega arith
  falls ns sort.Operand ts = omega arith
  falls ns sort.Term ts = omega arith
  falls ns sort.Factor ts = factor_less ns ts
  falls ns (sort.LineAfter a) ts = line_less a ts
  falls ns (sort.OperandAfter a) ts = operand_less a ts
  falls ns (sort.TermAfter a) ts = term_less a ts
  falls ns (sort.Whole a) ts = omega arith
  falls ns (sort.BracketAfter a) ts = bracket_less a ts
  falls ns (sort.AllAfter p) ts = all_less p ts
  falls ns (sort.AnyAfter p) ts = any_less p ts
  falls ns (sort.Argument f n a) ts = argument_less ns f n a (argument_at f n) ts
  falls ns (sort.ArgumentAfter f n a) ts = argument_after_less ns f n a ts

  -- what a frame goes on with has rank 1
  pub resumed : (k : Frame) (e : Reading) → rank (resume b k e) ≡ 1
  resumed frame.Line e = refl
  resumed frame.Operand e = refl
  resumed frame.Term e = refl
  resumed (frame.Compare k a) e = refl
  resumed (frame.Join k a) e = refl
  resumed (frame.Scale k a) e = refl
  resumed frame.Deny e = refl
  resumed frame.Negate e = refl
  resumed frame.Bracket e = refl
  resumed (frame.All p) e = refl
  resumed (frame.Any p) e = refl
  resumed (frame.Argument f n a) e = refl

  -- each turn makes less
  pub call_less : (ns : Names) (s : Sort) (ts : List Lexeme) (part : Sort) (k : Frame) (mid : List Lexeme) → production b ns s ts ≡ call part k mid → weight part mid + 1 < weight s ts
  call_less ns s ts part k mid p = subst (Less (weight s ts)) p (falls ns s ts)

  pub next_less : (ns : Names) (s : Sort) (ts : List Lexeme) (s' : Sort) (ts' : List Lexeme) → production b ns s ts ≡ next s' ts' → weight s' ts' < weight s ts
  next_less ns s ts s' ts' p = subst (Less (weight s ts)) p (falls ns s ts)

  pub done_less : (ns : Names) (s : Sort) (ts : List Lexeme) (x : Reading) (after : List Lexeme) (k : Frame) → production b ns s ts ≡ done x after → weight (resume b k x) after < weight s ts + 1
  done_less ns s ts x after k p = let less : 10 * length after < weight s ts = subst (Less (weight s ts)) p (falls ns s ts) in omega (arith, less, resumed k x)
