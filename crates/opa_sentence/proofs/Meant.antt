-- What the table reads is spelled by the grammar.
use Rattle.std.proofs.Common.{◌≡◌, ◌⊎◌, inl, inr, ℕ, ℤ, ◌+◌, List, [], ◌∷◌, ◌++◌, Bool, true, false, Option, Some, None, refl, sym, subst, ◌∙◌, option_map}
use Rattle.opa_value.specs.declared.value.Value.TheVariants as value
use Rattle.opa_tree.specs.declared.kinds.OpKind.TheVariants as op
use Rattle.opa_sentence.specs.declared.functions.Function.{Function}
use Rattle.opa_sentence.specs.declared.functions.Argument.{Argument}
use Rattle.opa_sentence.specs.declared.functions.Argument.TheVariants as argument
use Rattle.opa_sentence.specs.declared.class.Class.{Class}
use Rattle.opa_sentence.specs.declared.class.Class.TheVariants as class
use Rattle.opa_sentence.specs.declared.names.Names.{Names}
use Rattle.opa_sentence.specs.declared.names.Relation.{Relation}
use Rattle.opa_sentence.specs.declared.reading.Reading.{Reading}
use Rattle.opa_sentence.specs.declared.reading.Parts.{Parts}
use Rattle.opa_sentence.specs.declared.reading.Arguments.{Arguments}
use Rattle.opa_sentence.specs.declared.sorts.Sort.{Sort}
use Rattle.opa_sentence.specs.declared.sorts.Sort.TheVariants as sort
use Rattle.opa_sentence.specs.declared.sorts.Frame.TheVariants as frame
use Rattle.opa_sentence.specs.Functions.{argument_at}
use Rattle.opa_sentence.specs.Lexemes.{Lexeme}
use Rattle.opa_sentence.specs.Literals.{number_in, negative_in, day_in}
use Rattle.opa_sentence.specs.Measures.{Bounds}
use Rattle.opa_sentence.specs.Moves.{fail, done, next, call, stops, moves, goes}
use Rattle.opa_sentence.specs.Phrases.{longest}
use Rattle.opa_sentence.specs.Readings as says
use Rattle.opa_sentence.specs.Table.{Step, finished, phrase_found, relation_at, minus_at, minus, past_open_at, past_open, function, factor_at, factor, line_at, line_after, operand_at, operand_after, term_at, term_after, bracket_at, bracket_after, all_at, all_after, any_at, any_after, relation_taken, number_taken, number_at, number_first, argument_in, closed, comma_at, argument_after, production, resume}
use Rattle.opa_sentence.specs.Spelled.{Reads}
use Rattle.opa_sentence.specs.Grammar.{Part, LINE, OPERAND, TERM, FACTOR, Begins, BeginsPhrase, joint, Spells, SpellsMore, SpellsArgument, SpellsArguments}
use Rattle.opa_sentence.specs.Grammar as g
use Rattle.opa_sentence.specs.Laws.{IsGrammatical}

module _ (b : Bounds) (ns : Names) where
  abbrev Spell : Part → List Lexeme → Reading → List Lexeme → Type 0
  Spell = Spells b ns

  -- the rest of a joined group: nothing but the bracket, or more lines
  abbrev Rest : Bool → List Lexeme → Parts → Parts → List Lexeme → Type 0
  Rest j mid p q rest = (c : Lexeme) × (c.class ≡ class.Close) × (((p ≡ q) × (mid ≡ c ∷ rest)) ⊎ SpellsMore b ns j mid p q (c ∷ rest))

  -- after an argument: the last bracket, or a comma and more arguments
  abbrev After : Function → ℕ → List Lexeme → Arguments → Arguments → List Lexeme → Type 0
  After f n mid a z rest = ((argument_at f n ≡ None) × (a ≡ z) × (mid ≡ rest)) ⊎ ((k : Lexeme) × (ts : List Lexeme) × (mid ≡ k ∷ ts) × (k.class ≡ class.Comma) × SpellsArguments b ns f n ts a z rest)

  abbrev pub Means : Sort → List Lexeme → Reading → List Lexeme → Type 0
  Means sort.Line ts x rest = Spell LINE ts x rest
  Means sort.Operand ts x rest = Spell OPERAND ts x rest
  Means sort.Term ts x rest = Spell TERM ts x rest
  Means sort.Factor ts x rest = Spell FACTOR ts x rest
  Means (sort.LineAfter a) mid x rest = (ts : List Lexeme) → Spell OPERAND ts a mid → Spell LINE ts x rest
  Means (sort.OperandAfter a) mid x rest = (ts : List Lexeme) → Spell OPERAND ts a mid → Spell OPERAND ts x rest
  Means (sort.TermAfter a) mid x rest = (ts : List Lexeme) → Spell TERM ts a mid → Spell TERM ts x rest
  Means (sort.Whole a) mid x rest = (a ≡ x) × (mid ≡ rest)
  Means (sort.BracketAfter a) mid x rest = (o : Lexeme) (ts : List Lexeme) → o.class ≡ class.Open → Spell LINE ts a mid → Spell FACTOR (o ∷ ts) x rest
  Means (sort.AllAfter p) mid x rest = (q : Parts) × (says.nested b (says.all b q) ≡ x) × Rest true mid p q rest
  Means (sort.AnyAfter p) mid x rest = (q : Parts) × (says.nested b (says.any b q) ≡ x) × Rest false mid p q rest
  Means (sort.Argument f n a) mid x rest = (z : Arguments) × (c : Lexeme) × (c.class ≡ class.Close) × (says.call_of b ns.members f z ≡ x) × SpellsArguments b ns f n mid a z (c ∷ rest)
  Means (sort.ArgumentAfter f n a) mid x rest = (z : Arguments) × (c : Lexeme) × (c.class ≡ class.Close) × (says.call_of b ns.members f z ≡ x) × After f n mid a z (c ∷ rest)

  -- the move says what the sort means
  abbrev Explains : Sort → List Lexeme → Step → Type 0
  Explains s ts fail = Unit {0}
  Explains s ts (done x rest) = Means s ts x rest
  Explains s ts (next s' ts') = (x : Reading) (rest : List Lexeme) → Means s' ts' x rest → Means s ts x rest
  Explains s ts (call part k mid) = (y : Reading) (after : List Lexeme) (x : Reading) (rest : List Lexeme) → Means part mid y after → Means (resume b k y) after x rest → Means s ts x rest

  -- ---- factors

  phrase_explains : (t : Lexeme) (ts : List Lexeme) (o : Option (ℕ × ℕ)) → BeginsPhrase t ts → longest ns.operands (t ∷ ts) ≡ o → Explains sort.Factor (t ∷ ts) (phrase_found b ns (t ∷ ts) o)
  phrase_explains t ts None h is = g.Spells.unnamed h is
  phrase_explains t ts (Some x) h is = g.Spells.phrase h x.0 x.1 is

  number_explains : (t : Lexeme) (ts : List Lexeme) (o : Option ℤ) → t.class ≡ class.Number → number_in t.text ≡ o → Explains sort.Factor (t ∷ ts) (finished (option_map (λ n. says.literal b (value.Num n)) o) ts)
  number_explains t ts None h is = tt
  number_explains t ts (Some n) h is = g.Spells.number h n is

  negative_explains : (s t : Lexeme) (ts : List Lexeme) (o : Option ℤ) → s.class ≡ class.Minus → t.class ≡ class.Number → negative_in t.text ≡ o → Explains sort.Factor (s ∷ t ∷ ts) (finished (option_map (λ n. says.literal b (value.Num n)) o) ts)
  negative_explains s t ts None h k is = tt
  negative_explains s t ts (Some n) h k is = g.Spells.negative h k n is

  date_explains : (t : Lexeme) (ts : List Lexeme) (o : Option ℕ) → t.class ≡ class.Date → day_in t.text ≡ o → Explains sort.Factor (t ∷ ts) (finished (option_map (λ d. says.literal b (value.Day d)) o) ts)
  date_explains t ts None h is = tt
  date_explains t ts (Some d) h is = g.Spells.date h d is

  both_to : (P : Reading → List Lexeme → Type 0) (a x : Reading) (after rest : List Lexeme) → (a ≡ x) × (after ≡ rest) → P a after → P x rest
  both_to P a x after rest q d = subst (λ y. P y rest) q.0 (subst (P a) q.1 d)

  negated : (s : Lexeme) (ts : List Lexeme) → s.class ≡ class.Minus → (Begins class.Number ts → ⊥) → Explains sort.Factor (s ∷ ts) (call sort.Factor frame.Negate ts)
  negated s ts h none y after x rest m q = both_to (Spell FACTOR (s ∷ ts)) (says.nested b (says.operation b op.Neg (says.one_part b y))) x after rest q (g.Spells.negate h none m)

  minus_at_explains : (s t : Lexeme) (ts : List Lexeme) (c : Class) → s.class ≡ class.Minus → t.class ≡ c → Explains sort.Factor (s ∷ t ∷ ts) (minus_at b c t ts)
  minus_at_explains s t ts class.Number h k = negative_explains s t ts (negative_in t.text) h k refl
  minus_at_explains s t ts c h k = negated s (t ∷ ts) h (λ e. let f : c ≡ class.Number = sym k ∙ e in cc f)

  minus_explains : (s : Lexeme) (ts : List Lexeme) → s.class ≡ class.Minus → Explains sort.Factor (s ∷ ts) (minus b ts)
  minus_explains s [] h = negated s [] h (λ e. e)
  minus_explains s (t ∷ ts) h = minus_at_explains s t ts t.class h refl

  -- what follows an opening bracket, and that none stands there
  abbrev Opened : List Lexeme → Option (List Lexeme) → Type 0
  Opened ts None = Begins class.Open ts → ⊥
  Opened ts (Some us) = (o : Lexeme) × (o.class ≡ class.Open) × (ts ≡ o ∷ us)

  opened_at : (t : Lexeme) (ts : List Lexeme) (c : Class) → t.class ≡ c → Opened (t ∷ ts) (past_open_at c ts)
  opened_at t ts class.Open h = (t, h, refl)
  opened_at t ts c h = λ e. let f : c ≡ class.Open = sym h ∙ e in cc f

  pub opened : (ts : List Lexeme) → Opened ts (past_open ts)
  opened [] = λ e. e
  opened (t ∷ ts) = opened_at t ts t.class refl

  function_explains : (f : Function) (t : Lexeme) (ts : List Lexeme) (o : Option (List Lexeme)) → t.class ≡ class.Function f → Opened ts o → Explains sort.Factor (t ∷ ts) (function b ns f (t ∷ ts) o)
  function_explains f t ts None h none = phrase_explains t ts (longest ns.operands (t ∷ ts)) (BeginsPhrase.function f h none) refl
  function_explains f t ts (Some us) h some = λ x rest m.
      subst (λ vs. Spell FACTOR (t ∷ vs) x rest) (sym some.2) (subst (λ y. Spell FACTOR (t ∷ some.0 ∷ us) y rest) m.3 (g.Spells.call f h some.1 m.4 m.2))

  factor_at_explains : (t : Lexeme) (ts : List Lexeme) (c : Class) → t.class ≡ c → Explains sort.Factor (t ∷ ts) (factor_at b ns c t ts)
  factor_at_explains t ts class.Number h = number_explains t ts (number_in t.text) h refl
  factor_at_explains t ts class.Date h = date_explains t ts (day_in t.text) h refl
  factor_at_explains t ts class.Text h = g.Spells.text h
  factor_at_explains t ts class.True h = g.Spells.yes h
  factor_at_explains t ts class.False h = g.Spells.no h
  factor_at_explains t ts class.Uncertain h = g.Spells.uncertain h
  factor_at_explains t ts class.Minus h = minus_explains t ts h
  factor_at_explains t ts class.Not h = λ y after x rest m q. both_to (Spell FACTOR (t ∷ ts)) (says.nested b (says.denial b y)) x after rest q (g.Spells.deny h m)
  factor_at_explains t ts class.Open h = λ y after x rest m q. q t ts h m
  factor_at_explains t ts (class.Function f) h = function_explains f t ts (past_open ts) h (opened ts)
  factor_at_explains t ts class.Word h = phrase_explains t ts (longest ns.operands (t ∷ ts)) (BeginsPhrase.word h) refl
  factor_at_explains t ts class.And h = phrase_explains t ts (longest ns.operands (t ∷ ts)) (BeginsPhrase.and h) refl
  factor_at_explains t ts class.Or h = phrase_explains t ts (longest ns.operands (t ∷ ts)) (BeginsPhrase.or h) refl
  factor_at_explains t ts c h = tt

  factor_explains : (ts : List Lexeme) → Explains sort.Factor ts (factor b ns ts)
  factor_explains [] = tt
  factor_explains (t ∷ ts) = factor_at_explains t ts t.class refl

  -- ---- after a part

  line_at_explains : (a : Reading) (t : Lexeme) (ts : List Lexeme) (c : Class) → t.class ≡ c → Explains (sort.LineAfter a) (t ∷ ts) (line_at a c t ts)
  line_at_explains a t ts (class.Compare k) h = λ y after x rest m q us d. both_to (Spell LINE us) (says.between b k a y) x after rest q (g.Spells.compared k h d m)
  line_at_explains a t ts c h = λ us d. g.Spells.one d

  line_explains : (a : Reading) (ts : List Lexeme) → Explains (sort.LineAfter a) ts (line_after a ts)
  line_explains a [] = λ us d. g.Spells.one d
  line_explains a (t ∷ ts) = line_at_explains a t ts t.class refl

  operand_at_explains : (a : Reading) (t : Lexeme) (ts : List Lexeme) (c : Class) → t.class ≡ c → Explains (sort.OperandAfter a) (t ∷ ts) (operand_at a c t ts)
  operand_at_explains a t ts class.Plus h = λ y after x rest m q us d. q us (g.Spells.plus h d m)
  operand_at_explains a t ts class.Minus h = λ y after x rest m q us d. q us (g.Spells.less h d m)
  operand_at_explains a t ts c h = λ us d. d

  operand_explains : (a : Reading) (ts : List Lexeme) → Explains (sort.OperandAfter a) ts (operand_after a ts)
  operand_explains a [] = λ us d. d
  operand_explains a (t ∷ ts) = operand_at_explains a t ts t.class refl

  term_at_explains : (a : Reading) (t : Lexeme) (ts : List Lexeme) (c : Class) → t.class ≡ c → Explains (sort.TermAfter a) (t ∷ ts) (term_at a c t ts)
  term_at_explains a t ts class.Times h = λ y after x rest m q us d. q us (g.Spells.times h d m)
  term_at_explains a t ts class.Slash h = λ y after x rest m q us d. q us (g.Spells.over h d m)
  term_at_explains a t ts c h = λ us d. d

  term_explains : (a : Reading) (ts : List Lexeme) → Explains (sort.TermAfter a) ts (term_after a ts)
  term_explains a [] = λ us d. d
  term_explains a (t ∷ ts) = term_at_explains a t ts t.class refl

  -- one more line of a group, and the rest of it
  rest_more : (j : Bool) (t : Lexeme) (ts : List Lexeme) (p q : Parts) (y : Reading) (after rest : List Lexeme) → t.class ≡ joint j → Spell LINE ts y after → Rest j after (says.with_part b p y) q rest
      → (c : Lexeme) × (c.class ≡ class.Close) × SpellsMore b ns j (t ∷ ts) p q (c ∷ rest)
  rest_more j t ts p q y after rest h m (c, k, inl e) =
      (c, k, subst (λ r. SpellsMore b ns j (t ∷ ts) p r (c ∷ rest)) e.0 (g.SpellsMore.last h (subst (Spell LINE ts y) e.1 m)))
  rest_more j t ts p q y after rest h m (c, k, inr d) = (c, k, g.SpellsMore.more h m d)

  bracket_at_explains : (a : Reading) (t : Lexeme) (ts : List Lexeme) (c : Class) → t.class ≡ c → Explains (sort.BracketAfter a) (t ∷ ts) (bracket_at b a c ts)
  bracket_at_explains a t ts class.Close h = λ o us k d. g.Spells.brackets k d h
  bracket_at_explains a t ts class.And h = λ y after x rest m q o us k d.
      let r = rest_more true t ts (says.one_part b a) q.0 y after rest h m q.2 in
      subst (λ z. Spell FACTOR (o ∷ us) z rest) q.1 (g.Spells.all k d r.2 r.1)
  bracket_at_explains a t ts class.Or h = λ y after x rest m q o us k d.
      let r = rest_more false t ts (says.one_part b a) q.0 y after rest h m q.2 in
      subst (λ z. Spell FACTOR (o ∷ us) z rest) q.1 (g.Spells.any k d r.2 r.1)
  bracket_at_explains a t ts c h = tt

  bracket_explains : (a : Reading) (ts : List Lexeme) → Explains (sort.BracketAfter a) ts (bracket_after b a ts)
  bracket_explains a [] = tt
  bracket_explains a (t ∷ ts) = bracket_at_explains a t ts t.class refl

  all_at_explains : (p : Parts) (t : Lexeme) (ts : List Lexeme) (c : Class) → t.class ≡ c → Explains (sort.AllAfter p) (t ∷ ts) (all_at b p c ts)
  all_at_explains p t ts class.Close h = (p, refl, (t, h, inl (refl, refl)))
  all_at_explains p t ts class.And h = λ y after x rest m q.
      let r = rest_more true t ts p q.0 y after rest h m q.2 in (q.0, q.1, (r.0, r.1, inr r.2))
  all_at_explains p t ts c h = tt

  all_explains : (p : Parts) (ts : List Lexeme) → Explains (sort.AllAfter p) ts (all_after b p ts)
  all_explains p [] = tt
  all_explains p (t ∷ ts) = all_at_explains p t ts t.class refl

  any_at_explains : (p : Parts) (t : Lexeme) (ts : List Lexeme) (c : Class) → t.class ≡ c → Explains (sort.AnyAfter p) (t ∷ ts) (any_at b p c ts)
  any_at_explains p t ts class.Close h = (p, refl, (t, h, inl (refl, refl)))
  any_at_explains p t ts class.Or h = λ y after x rest m q.
      let r = rest_more false t ts p q.0 y after rest h m q.2 in (q.0, q.1, (r.0, r.1, inr r.2))
  any_at_explains p t ts c h = tt

  any_explains : (p : Parts) (ts : List Lexeme) → Explains (sort.AnyAfter p) ts (any_after b p ts)
  any_explains p [] = tt
  any_explains p (t ∷ ts) = any_at_explains p t ts t.class refl

  -- ---- arguments

  -- an argument, and what follows it
  with_argument : (f : Function) (n : ℕ) (ts : List Lexeme) (a y z : Arguments) (after rest : List Lexeme) → SpellsArgument b ns f n ts a y after → After f (n + 1) after y z rest → SpellsArguments b ns f n ts a z rest
  with_argument f n ts a y z after rest d (inl e) = g.SpellsArguments.last_argument (subst (λ w. SpellsArgument b ns f n ts a w rest) e.1 (subst (SpellsArgument b ns f n ts a y) e.2 d)) e.0
  with_argument f n ts a y z after rest d (inr e) = g.SpellsArguments.more_arguments (subst (SpellsArgument b ns f n ts a y) e.2 d) e.3 e.4

  relation_explains : (f : Function) (n : ℕ) (a : Arguments) (ts : List Lexeme) (o : Option (Relation × List Lexeme)) → argument_at f n ≡ Some argument.Relation → relation_at ns ts ≡ o → Explains (sort.Argument f n a) ts (relation_taken f n a o)
  relation_explains f n a ts None h is = tt
  relation_explains f n a ts (Some r) h is = λ x rest m. (m.0, m.1, m.2, m.3, with_argument f n ts a (record a { relation = r.0 }) m.0 r.1 (m.1 ∷ rest) (g.SpellsArgument.as_relation h r is) m.4)

  number_taken_explains : (f : Function) (n : ℕ) (a : Arguments) (t : Lexeme) (ts : List Lexeme) (o : Option ℤ) → argument_at f n ≡ Some argument.Number → t.class ≡ class.Number → number_in t.text ≡ o → Explains (sort.Argument f n a) (t ∷ ts) (number_taken f n a o ts)
  number_taken_explains f n a t ts None h k is = tt
  number_taken_explains f n a t ts (Some i) h k is = λ x rest m. (m.0, m.1, m.2, m.3, with_argument f n (t ∷ ts) a (record a { number = Some i }) m.0 ts (m.1 ∷ rest) (g.SpellsArgument.as_number h k i is) m.4)

  number_at_explains : (f : Function) (n : ℕ) (a : Arguments) (t : Lexeme) (ts : List Lexeme) (c : Class) → argument_at f n ≡ Some argument.Number → t.class ≡ c → Explains (sort.Argument f n a) (t ∷ ts) (number_at f n a c t ts)
  number_at_explains f n a t ts class.Number h k = number_taken_explains f n a t ts (number_in t.text) h k refl
  number_at_explains f n a t ts c h k = tt

  number_first_explains : (f : Function) (n : ℕ) (a : Arguments) (ts : List Lexeme) → argument_at f n ≡ Some argument.Number → Explains (sort.Argument f n a) ts (number_first f n a ts)
  number_first_explains f n a [] h = tt
  number_first_explains f n a (t ∷ ts) h = number_at_explains f n a t ts t.class h refl

  argument_explains : (f : Function) (n : ℕ) (a : Arguments) (ts : List Lexeme) (o : Option Argument) → argument_at f n ≡ o → Explains (sort.Argument f n a) ts (argument_in ns f n a o ts)
  argument_explains f n a ts None h = tt
  argument_explains f n a ts (Some argument.Line) h = λ y after x rest m q.
      (q.0, q.1, q.2, q.3, with_argument f n ts a (record a { lines = a.lines ++ y ∷ [] }) q.0 after (q.1 ∷ rest) (g.SpellsArgument.as_line h m) q.4)
  argument_explains f n a ts (Some argument.Relation) h = relation_explains f n a ts (relation_at ns ts) h refl
  argument_explains f n a ts (Some argument.Number) h = number_first_explains f n a ts h

  closed_explains : (f : Function) (n : ℕ) (a : Arguments) (t : Lexeme) (ts : List Lexeme) (o : Option Argument) → argument_at f n ≡ o → t.class ≡ class.Close → Explains (sort.ArgumentAfter f n a) (t ∷ ts) (closed b ns f a o ts)
  closed_explains f n a t ts None h k = (a, t, k, refl, inl (h, refl, refl))
  closed_explains f n a t ts (Some x) h k = tt

  comma_explains : (f : Function) (n : ℕ) (a : Arguments) (t : Lexeme) (ts : List Lexeme) (c : Class) → t.class ≡ c → Explains (sort.ArgumentAfter f n a) (t ∷ ts) (comma_at b ns f n a c ts)
  comma_explains f n a t ts class.Comma h = λ x rest m. (m.0, m.1, m.2, m.3, inr (t, ts, refl, h, m.4))
  comma_explains f n a t ts class.Close h = closed_explains f n a t ts (argument_at f n) refl h
  comma_explains f n a t ts c h = tt

  argument_after_explains : (f : Function) (n : ℕ) (a : Arguments) (ts : List Lexeme) → Explains (sort.ArgumentAfter f n a) ts (argument_after b ns f n a ts)
  argument_after_explains f n a [] = tt
  argument_after_explains f n a (t ∷ ts) = comma_explains f n a t ts t.class refl

  -- ---- the table

  explains : (s : Sort) (ts : List Lexeme) → Explains s ts (production b ns s ts)
  explains sort.Line ts = λ y after x rest m q. q ts m
  explains sort.Operand ts = λ y after x rest m q. q ts (g.Spells.term m)
  explains sort.Term ts = λ y after x rest m q. q ts (g.Spells.factor m)
  explains sort.Factor ts = factor_explains ts
  explains (sort.LineAfter a) ts = line_explains a ts
  explains (sort.OperandAfter a) ts = operand_explains a ts
  explains (sort.TermAfter a) ts = term_explains a ts
  explains (sort.Whole a) ts = (refl, refl)
  explains (sort.BracketAfter a) ts = bracket_explains a ts
  explains (sort.AllAfter p) ts = all_explains p ts
  explains (sort.AnyAfter p) ts = any_explains p ts
  explains (sort.Argument f n a) ts = argument_explains f n a ts (argument_at f n) refl
  explains (sort.ArgumentAfter f n a) ts = argument_after_explains f n a ts

  pub means : {s : Sort} {ts : List Lexeme} {x : Reading} {rest : List Lexeme} → Reads b ns s ts x rest → Means s ts x rest
  means {s = s} {ts = ts} {x = x} {rest = rest} (stops p) = subst (Explains s ts) p (explains s ts)
  means {s = s} {ts = ts} {x = x} {rest = rest} (moves s' ts' p a) = subst (Explains s ts) p (explains s ts) x rest (means a)
  means {s = s} {ts = ts} {x = x} {rest = rest} (goes part k mid y after p a b) = subst (Explains s ts) p (explains s ts) y after x rest (means a) (means b)

pub is_grammatical_holds : IsGrammatical
is_grammatical_holds b ns Part.LINE ts x rest r = means b ns r
is_grammatical_holds b ns Part.OPERAND ts x rest r = means b ns r
is_grammatical_holds b ns Part.TERM ts x rest r = means b ns r
is_grammatical_holds b ns Part.FACTOR ts x rest r = means b ns r
