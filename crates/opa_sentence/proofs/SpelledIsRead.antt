-- What the grammar spells is read by the table.
use Rattle.std.proofs.Common.{◌≡◌, ℕ, ◌+◌, List, [], ◌∷◌, Bool, true, false, Some, None, refl, sym, ap, subst, ◌∙◌, option_map}
use Rattle.opa_value.specs.declared.value.Value.TheVariants as value
use Rattle.opa_tree.specs.declared.kinds.OpKind.{OpKind}
use Rattle.opa_tree.specs.declared.kinds.OpKind.TheVariants as op
use Rattle.opa_sentence.specs.declared.functions.Function.{Function}
use Rattle.opa_sentence.specs.declared.class.Class.{Class}
use Rattle.opa_sentence.specs.declared.class.Class.TheVariants as class
use Rattle.opa_sentence.specs.declared.names.Names.{Names}
use Rattle.opa_sentence.specs.declared.reading.Reading.{Reading}
use Rattle.opa_sentence.specs.declared.reading.Parts.{Parts}
use Rattle.opa_sentence.specs.declared.reading.Arguments.{Arguments}
use Rattle.opa_sentence.specs.declared.sorts.Sort.{Sort}
use Rattle.opa_sentence.specs.declared.sorts.Sort.TheVariants as sort
use Rattle.opa_sentence.specs.declared.sorts.Frame.{Frame}
use Rattle.opa_sentence.specs.declared.sorts.Frame.TheVariants as frame
use Rattle.opa_sentence.specs.Functions.{argument_at}
use Rattle.opa_sentence.specs.Lexemes.{Lexeme}
use Rattle.opa_sentence.specs.Measures.{Bounds}
use Rattle.opa_sentence.specs.Moves.{done, call, stops, moves, goes}
use Rattle.opa_sentence.specs.Readings as says
use Rattle.opa_sentence.specs.Table.{finished, phrase, phrase_found, minus_at, minus, past_open_at, past_open, function, factor_at, line_at, line_after, operand_at, operand_after, term_at, term_after, bracket_at, all_at, any_at, relation_taken, number_taken, number_at, argument_in, closed, comma_at, production, resume}
use Rattle.opa_sentence.specs.Spelled.{Reads}
use Rattle.opa_sentence.specs.Grammar.{Part, LINE, OPERAND, TERM, FACTOR, Begins, BeginsPhrase, joint, Spells, SpellsMore, SpellsArgument, SpellsArguments}
use Rattle.opa_sentence.specs.Grammar as g
use Rattle.opa_sentence.specs.Laws.{IsRead}

-- what may follow a line
abbrev EndsAt : Class → Type 0
EndsAt class.Close = Unit {0}
EndsAt class.Comma = Unit {0}
EndsAt class.And = Unit {0}
EndsAt class.Or = Unit {0}
EndsAt c = ⊥

abbrev pub Ends : List Lexeme → Type 0
Ends [] = Unit {0}
Ends (t ∷ ts) = EndsAt t.class

-- neither `*` nor `/` stands first
abbrev NoScaleAt : Class → Type 0
NoScaleAt class.Times = ⊥
NoScaleAt class.Slash = ⊥
NoScaleAt c = Unit {0}

abbrev NoScale : List Lexeme → Type 0
NoScale [] = Unit {0}
NoScale (t ∷ ts) = NoScaleAt t.class

no_scale_at : (a : Reading) (t : Lexeme) (ts : List Lexeme) (c : Class) → NoScaleAt c → term_at a c t ts ≡ done a (t ∷ ts)
no_scale_at a t ts class.Times h = absurd h
no_scale_at a t ts class.Slash h = absurd h
no_scale_at a t ts c h = refl

no_scale : (a : Reading) (ts : List Lexeme) → NoScale ts → term_after a ts ≡ done a ts
no_scale a [] h = refl
no_scale a (t ∷ ts) h = no_scale_at a t ts t.class h

no_number_at : (b : Bounds) (t : Lexeme) (ts : List Lexeme) (c : Class) → (c ≡ class.Number → ⊥) → minus_at b c t ts ≡ call sort.Factor frame.Negate (t ∷ ts)
no_number_at b t ts class.Number h = absurd (h refl)
no_number_at b t ts c h = refl

no_number : (b : Bounds) (ts : List Lexeme) → (Begins class.Number ts → ⊥) → minus b ts ≡ call sort.Factor frame.Negate ts
no_number b [] h = refl
no_number b (t ∷ ts) h = no_number_at b t ts t.class h

no_open_at : (t : Lexeme) (ts : List Lexeme) (c : Class) → (c ≡ class.Open → ⊥) → past_open_at c ts ≡ None
no_open_at t ts class.Open h = absurd (h refl)
no_open_at t ts c h = refl

no_open : (ts : List Lexeme) → (Begins class.Open ts → ⊥) → past_open ts ≡ None
no_open [] h = refl
no_open (t ∷ ts) h = no_open_at t ts t.class h

record FollowAt (a : Reading) (t : Lexeme) (ts : List Lexeme) (c : Class) : Type 0 where
  pub line : line_at a c t ts ≡ done a (t ∷ ts)
  pub operand : operand_at a c t ts ≡ done a (t ∷ ts)
  pub scale : NoScaleAt c

follow_at : (a : Reading) (t : Lexeme) (ts : List Lexeme) (c : Class) → EndsAt c → FollowAt a t ts c
follow_at a t ts class.Close h = record { line = refl; operand = refl; scale = tt }
follow_at a t ts class.Comma h = record { line = refl; operand = refl; scale = tt }
follow_at a t ts class.And h = record { line = refl; operand = refl; scale = tt }
follow_at a t ts class.Or h = record { line = refl; operand = refl; scale = tt }
follow_at a t ts c h = absurd h

record Follow (a : Reading) (ts : List Lexeme) : Type 0 where
  pub line : line_after a ts ≡ done a ts
  pub operand : operand_after a ts ≡ done a ts
  pub scale : NoScale ts

follow : (a : Reading) (ts : List Lexeme) → Ends ts → Follow a ts
follow a [] h = record { line = refl; operand = refl; scale = tt }
follow a (t ∷ ts) h = let f = follow_at a t ts t.class h in record { line = f.line; operand = f.operand; scale = f.scale }

-- the sort, the frame and the reading of a joined group
abbrev group_after : Bool → Parts → Sort
group_after true p = sort.AllAfter p
group_after false p = sort.AnyAfter p

abbrev group_frame : Bool → Parts → Frame
group_frame true p = frame.All p
group_frame false p = frame.Any p

abbrev group_says : Bounds → Bool → Parts → Reading
group_says b true p = says.nested b (says.all b p)
group_says b false p = says.nested b (says.any b p)

joint_ends : (j : Bool) (c : Class) → c ≡ joint j → EndsAt c
joint_ends true c h = subst EndsAt (sym h) tt
joint_ends false c h = subst EndsAt (sym h) tt

close_ends : (c : Class) → c ≡ class.Close → EndsAt c
close_ends c h = subst EndsAt (sym h) tt

module _ (b : Bounds) (ns : Names) where
  abbrev Read : Sort → List Lexeme → Reading → List Lexeme → Type 0
  Read = Reads b ns

  group_goes : (j : Bool) (p : Parts) (t : Lexeme) (ts : List Lexeme) → t.class ≡ joint j → production b ns (group_after j p) (t ∷ ts) ≡ call sort.Line (group_frame j p) ts
  group_goes true p t ts h = ap (λ c. all_at b p c ts) h
  group_goes false p t ts h = ap (λ c. any_at b p c ts) h

  group_resumes : (j : Bool) (p : Parts) (x : Reading) → resume b (group_frame j p) x ≡ group_after j (says.with_part b p x)
  group_resumes true p x = refl
  group_resumes false p x = refl

  group_stops : (j : Bool) (p : Parts) (t : Lexeme) (ts : List Lexeme) → t.class ≡ class.Close → production b ns (group_after j p) (t ∷ ts) ≡ done (group_says b j p) ts
  group_stops true p t ts h = ap (λ c. all_at b p c ts) h
  group_stops false p t ts h = ap (λ c. any_at b p c ts) h

  bracket_goes : (j : Bool) (a : Reading) (t : Lexeme) (ts : List Lexeme) → t.class ≡ joint j → production b ns (sort.BracketAfter a) (t ∷ ts) ≡ production b ns (group_after j (says.one_part b a)) (t ∷ ts)
  bracket_goes true a t ts h = ap (λ c. bracket_at b a c ts) h ∙ sym (ap (λ c. all_at b (says.one_part b a) c ts) h)
  bracket_goes false a t ts h = ap (λ c. bracket_at b a c ts) h ∙ sym (ap (λ c. any_at b (says.one_part b a) c ts) h)

  same_move : {s : Sort} {ts : List Lexeme} {x : Reading} {rest : List Lexeme} (r : Sort) → production b ns r ts ≡ production b ns s ts → Read s ts x rest → Read r ts x rest
  same_move r p (stops q) = stops (p ∙ q)
  same_move r p (moves s' ts' q a) = moves s' ts' (p ∙ q) a
  same_move r p (goes part k mid x after q a b) = goes part k mid x after (p ∙ q) a b

  begins : {t : Lexeme} (ts : List Lexeme) → BeginsPhrase t ts → production b ns sort.Factor (t ∷ ts) ≡ phrase b ns (t ∷ ts)
  begins {t = t} ts (BeginsPhrase.word h) = ap (λ c. factor_at b ns c t ts) h
  begins {t = t} ts (BeginsPhrase.and h) = ap (λ c. factor_at b ns c t ts) h
  begins {t = t} ts (BeginsPhrase.or h) = ap (λ c. factor_at b ns c t ts) h
  begins {t = t} ts (BeginsPhrase.function f h none) = ap (λ c. factor_at b ns c t ts) h ∙ ap (function b ns f (t ∷ ts)) (no_open ts none)

  abbrev pub Meaning : Part → List Lexeme → Reading → List Lexeme → Type 0
  Meaning LINE ts x rest = Ends rest → Read sort.Line ts x rest
  Meaning OPERAND ts a mid = NoScale mid → (x : Reading) (after : List Lexeme) → Read (sort.OperandAfter a) mid x after → Read sort.Operand ts x after
  Meaning TERM ts a mid = (x : Reading) (after : List Lexeme) → Read (sort.TermAfter a) mid x after → Read sort.Term ts x after
  Meaning FACTOR ts x rest = Read sort.Factor ts x rest

  abbrev Closes : List Lexeme → List Lexeme → Type 0
  Closes rest left = (c : Lexeme) × (c.class ≡ class.Close) × (rest ≡ c ∷ left)

  abbrev MeaningMore : Bool → List Lexeme → Parts → Parts → List Lexeme → Type 0
  MeaningMore j ts p q rest = (left : List Lexeme) → Closes rest left → Read (group_after j p) ts (group_says b j q) left

  abbrev MeaningArgument : Function → ℕ → List Lexeme → Arguments → Arguments → List Lexeme → Type 0
  MeaningArgument f n ts a z rest = Ends rest → (x : Reading) (after : List Lexeme) → Read (sort.ArgumentAfter f (n + 1) z) rest x after → Read (sort.Argument f n a) ts x after

  abbrev MeaningArguments : Function → ℕ → List Lexeme → Arguments → Arguments → List Lexeme → Type 0
  MeaningArguments f n ts a z rest = (left : List Lexeme) → Closes rest left → Read (sort.Argument f n a) ts (says.call_of b ns.members f z) left

  ends_closed : (rest left : List Lexeme) → Closes rest left → Ends rest
  ends_closed rest left h = subst Ends (sym h.2) (close_ends h.0.class h.1)

  -- each more line goes on
  more_reads : (j : Bool) (t : Lexeme) (ts : List Lexeme) (p q : Parts) (x : Reading) (mid left : List Lexeme) → t.class ≡ joint j → Read sort.Line ts x mid → Read (group_after j (says.with_part b p x)) mid (group_says b j q) left
      → Read (group_after j p) (t ∷ ts) (group_says b j q) left
  more_reads j t ts p q x mid left h first later = goes sort.Line (group_frame j p) ts x mid (group_goes j p t ts h) first (subst (λ s. Read s mid (group_says b j q) left) (sym (group_resumes j p x)) later)

  abbrev Starts : Bool → List Lexeme → Type 0
  Starts j ts = (t : Lexeme) × (us : List Lexeme) × (t.class ≡ joint j) × (t ∷ us ≡ ts)

  starts : {j : Bool} {ts : List Lexeme} {p q : Parts} {rest : List Lexeme} → SpellsMore b ns j ts p q rest → Starts j ts
  starts (g.SpellsMore.last {t = t} {ts = ts} h d) = (t, ts, h, refl)
  starts (g.SpellsMore.more {t = t} {ts = ts} h d f) = (t, ts, h, refl)

  starts_end : (j : Bool) (ts : List Lexeme) → Starts j ts → Ends ts
  starts_end j ts s = subst Ends s.3 (joint_ends j s.0.class s.2)

  line_of : (ts : List Lexeme) (a : Reading) (rest : List Lexeme) → Meaning OPERAND ts a rest → Meaning LINE ts a rest
  line_of ts a rest m ends = let f = follow a rest ends in goes sort.Operand frame.Line ts a rest refl (m f.scale a rest (stops f.operand)) (stops f.line)

  compared_of : (k : OpKind) (ts : List Lexeme) (a e : Reading) (t : Lexeme) (mid rest : List Lexeme) → t.class ≡ class.Compare k → Meaning OPERAND ts a (t ∷ mid) → Meaning OPERAND mid e rest → Meaning LINE ts (says.between b k a e) rest
  compared_of k ts a e t mid rest h m n ends =
      let f = follow e rest ends in
      goes sort.Operand frame.Line ts a (t ∷ mid) refl (m (subst NoScaleAt (sym h) tt) a (t ∷ mid) (stops (ap (λ c. operand_at a c t mid) h)))
      (goes sort.Operand (frame.Compare k a) mid e rest (ap (λ c. line_at a c t mid) h) (n f.scale e rest (stops f.operand)) (stops refl))

  bracket_of : (j : Bool) (o : Lexeme) (ts : List Lexeme) (a : Reading) (q : Parts) (mid rest left : List Lexeme) → o.class ≡ class.Open → Meaning LINE ts a mid → Starts j mid → MeaningMore j mid (says.one_part b a) q rest → Closes rest left
      → Read sort.Factor (o ∷ ts) (group_says b j q) left
  bracket_of j o ts a q mid rest left h m s n c = goes sort.Line frame.Bracket ts a mid (ap (λ d. factor_at b ns d o ts) h) (m (starts_end j mid s))
      (same_move (sort.BracketAfter a) (subst (λ u. production b ns (sort.BracketAfter a) u ≡ production b ns (group_after j (says.one_part b a)) u) s.3 (bracket_goes j a s.0 s.1 s.2)) (n left c))

  closing : {c : Lexeme} (rest : List Lexeme) → c.class ≡ class.Close → Closes (c ∷ rest) rest
  closing {c = c} rest h = (c, h, refl)

  -- the last bracket of a call
  call_ends : (f : Function) (n : ℕ) (a : Arguments) (rest left : List Lexeme) → argument_at f n ≡ None → Closes rest left → Read (sort.ArgumentAfter f n a) rest (says.call_of b ns.members f a) left
  call_ends f n a rest left h c =
      subst (λ u. Read (sort.ArgumentAfter f n a) u (says.call_of b ns.members f a) left) (sym c.2) (stops (ap (λ d. comma_at b ns f n a d left) c.1 ∙ ap (λ o. closed b ns f a o left) h))

  comma_next : (f : Function) (n : ℕ) (a : Arguments) (t : Lexeme) (ts : List Lexeme) (x : Reading) (left : List Lexeme) → t.class ≡ class.Comma → Read (sort.Argument f n a) ts x left → Read (sort.ArgumentAfter f n a) (t ∷ ts) x left
  comma_next f n a t ts x left h r = moves (sort.Argument f n a) ts (ap (λ d. comma_at b ns f n a d ts) h) r

  comma_ends : (c : Class) → c ≡ class.Comma → EndsAt c
  comma_ends c h = subst EndsAt (sym h) tt

  mutual
    pub reads : {p : Part} {ts : List Lexeme} {x : Reading} {rest : List Lexeme} → Spells b ns p ts x rest → Meaning p ts x rest
    reads (g.Spells.one {ts = ts} {x = a} {rest = rest} d) = line_of ts a rest (reads d)
    reads (g.Spells.compared {ts = ts} {x = a} {y = e} {t = t} {mid = mid} {rest = rest} k h d f) = compared_of k ts a e t mid rest h (reads d) (reads f)
    reads (g.Spells.term {ts = ts} {x = a} {rest = rest} d) = λ h x after r. goes sort.Term frame.Operand ts a rest refl (reads d a rest (stops (no_scale a rest h))) r
    reads (g.Spells.plus {ts = ts} {x = a} {y = e} {t = t} {mid = mid} {rest = rest} k d f) = λ h x after r. reads d (subst NoScaleAt (sym k) tt) x after (goes sort.Term (frame.Join op.Add a) mid e rest (ap (λ c. operand_at a c t mid) k) (reads f e rest (stops (no_scale e rest h))) r)
    reads (g.Spells.less {ts = ts} {x = a} {y = e} {t = t} {mid = mid} {rest = rest} k d f) = λ h x after r. reads d (subst NoScaleAt (sym k) tt) x after (goes sort.Term (frame.Join op.Sub a) mid e rest (ap (λ c. operand_at a c t mid) k) (reads f e rest (stops (no_scale e rest h))) r)
    reads (g.Spells.factor {ts = ts} {x = a} {rest = rest} d) = λ x after r. goes sort.Factor frame.Term ts a rest refl (reads d) r
    reads (g.Spells.times {ts = ts} {x = a} {y = e} {t = t} {mid = mid} {rest = rest} k d f) = λ x after r. reads d x after (goes sort.Factor (frame.Scale op.Mul a) mid e rest (ap (λ c. term_at a c t mid) k) (reads f) r)
    reads (g.Spells.over {ts = ts} {x = a} {y = e} {t = t} {mid = mid} {rest = rest} k d f) = λ x after r. reads d x after (goes sort.Factor (frame.Scale op.Div a) mid e rest (ap (λ c. term_at a c t mid) k) (reads f) r)
    reads (g.Spells.number {t = t} {rest = rest} h n is) = stops (ap (λ c. factor_at b ns c t rest) h ∙ ap (λ o. finished (option_map (λ m. says.literal b (value.Num m)) o) rest) is)
    reads (g.Spells.negative {s = s} {t = t} {rest = rest} h k n is) = stops (ap (λ c. factor_at b ns c s (t ∷ rest)) h ∙ ap (λ c. minus_at b c t rest) k ∙ ap (λ o. finished (option_map (λ m. says.literal b (value.Num m)) o) rest) is)
    reads (g.Spells.date {t = t} {rest = rest} h d is) = stops (ap (λ c. factor_at b ns c t rest) h ∙ ap (λ o. finished (option_map (λ m. says.literal b (value.Day m)) o) rest) is)
    reads (g.Spells.text {t = t} {rest = rest} h) = stops (ap (λ c. factor_at b ns c t rest) h)
    reads (g.Spells.yes {t = t} {rest = rest} h) = stops (ap (λ c. factor_at b ns c t rest) h)
    reads (g.Spells.no {t = t} {rest = rest} h) = stops (ap (λ c. factor_at b ns c t rest) h)
    reads (g.Spells.uncertain {t = t} {rest = rest} h) = stops (ap (λ c. factor_at b ns c t rest) h)
    reads (g.Spells.negate {s = s} {ts = ts} {x = a} {rest = rest} h none d) = goes sort.Factor frame.Negate ts a rest (ap (λ c. factor_at b ns c s ts) h ∙ no_number b ts none) (reads d) (stops refl)
    reads (g.Spells.deny {s = s} {ts = ts} {x = a} {rest = rest} h d) = goes sort.Factor frame.Deny ts a rest (ap (λ c. factor_at b ns c s ts) h) (reads d) (stops refl)
    reads (g.Spells.call {t = t} {o = o} {c = c} {ts = ts} {a = a} {rest = rest} f h k d l) =
        moves (sort.Argument f 0 says.no_arguments) ts (ap (λ e. factor_at b ns e t (o ∷ ts)) h ∙ ap (λ e. function b ns f (t ∷ o ∷ ts) (past_open_at e ts)) k) (reads_arguments d rest (closing rest l))
    reads (g.Spells.brackets {o = o} {c = c} {ts = ts} {x = a} {rest = rest} h d l) =
        goes sort.Line frame.Bracket ts a (c ∷ rest) (ap (λ e. factor_at b ns e o ts) h) (reads d (close_ends c.class l)) (stops (ap (λ e. bracket_at b a e rest) l))
    reads (g.Spells.all {o = o} {c = c} {ts = ts} {x = a} {p = q} {mid = mid} {rest = rest} h d f l) = bracket_of true o ts a q mid (c ∷ rest) rest h (reads d) (starts f) (reads_more f) (closing rest l)
    reads (g.Spells.any {o = o} {c = c} {ts = ts} {x = a} {p = q} {mid = mid} {rest = rest} h d f l) = bracket_of false o ts a q mid (c ∷ rest) rest h (reads d) (starts f) (reads_more f) (closing rest l)
    reads (g.Spells.phrase {t = t} {ts = ts} h i n is) = stops (begins ts h ∙ ap (phrase_found b ns (t ∷ ts)) is)
    reads (g.Spells.unnamed {t = t} {ts = ts} h is) = stops (begins ts h ∙ ap (phrase_found b ns (t ∷ ts)) is)

    pub reads_more : {j : Bool} {ts : List Lexeme} {p q : Parts} {rest : List Lexeme} → SpellsMore b ns j ts p q rest → MeaningMore j ts p q rest
    reads_more (g.SpellsMore.last {j = j} {t = t} {ts = ts} {p = p} {x = x} {rest = rest} h d) = λ left c.
        more_reads j t ts p (says.with_part b p x) x rest left h (reads d (ends_closed rest left c))
        (subst (λ u. Read (group_after j (says.with_part b p x)) u (group_says b j (says.with_part b p x)) left) (sym c.2) (stops (group_stops j (says.with_part b p x) c.0 left c.1)))
    reads_more (g.SpellsMore.more {j = j} {t = t} {ts = ts} {p = p} {q = q} {x = x} {mid = mid} {rest = rest} h d f) = λ left c.
        more_reads j t ts p q x mid left h (reads d (starts_end j mid (starts f))) (reads_more f left c)

    pub reads_argument : {f : Function} {n : ℕ} {ts : List Lexeme} {a z : Arguments} {rest : List Lexeme} → SpellsArgument b ns f n ts a z rest → MeaningArgument f n ts a z rest
    reads_argument (g.SpellsArgument.as_line {f = f} {n = n} {ts = ts} {a = a} {x = y} {rest = rest} h d) = λ ends x after r.
        goes sort.Line (frame.Argument f (n + 1) a) ts y rest (ap (λ o. argument_in ns f n a o ts) h) (reads d ends) r
    reads_argument (g.SpellsArgument.as_relation {f = f} {n = n} {ts = ts} {a = a} h y is) = λ ends x after r.
        moves (sort.ArgumentAfter f (n + 1) (record a { relation = y.0 })) y.1 (ap (λ o. argument_in ns f n a o ts) h ∙ ap (relation_taken f n a) is) r
    reads_argument (g.SpellsArgument.as_number {f = f} {n = n} {t = t} {a = a} {rest = rest} h k i is) = λ ends x after r.
        moves (sort.ArgumentAfter f (n + 1) (record a { number = Some i })) rest (ap (λ o. argument_in ns f n a o (t ∷ rest)) h ∙ ap (λ c. number_at f n a c t rest) k ∙ ap (λ o. number_taken f n a o rest) is) r

    pub reads_arguments : {f : Function} {n : ℕ} {ts : List Lexeme} {a z : Arguments} {rest : List Lexeme} → SpellsArguments b ns f n ts a z rest → MeaningArguments f n ts a z rest
    reads_arguments (g.SpellsArguments.last_argument {f = f} {n = n} {ts = ts} {a = a} {z = z} {rest = rest} d h) = λ left c.
        reads_argument d (ends_closed rest left c) (says.call_of b ns.members f z) left (call_ends f (n + 1) z rest left h c)
    reads_arguments (g.SpellsArguments.more_arguments {f = f} {n = n} {ts = ts} {a = a} {y = y} {z = z} {c = k} {mid = mid} {rest = rest} d h e) = λ left c.
        reads_argument d (comma_ends k.class h) (says.call_of b ns.members f z) left (comma_next f (n + 1) y k mid (says.call_of b ns.members f z) left h (reads_arguments e left c))

pub is_read_holds : IsRead
is_read_holds b ns Part.LINE ts x d = reads b ns d tt
is_read_holds b ns Part.OPERAND ts x d = reads b ns d tt x [] (stops refl)
is_read_holds b ns Part.TERM ts x d = reads b ns d x [] (stops refl)
is_read_holds b ns Part.FACTOR ts x d = reads b ns d
