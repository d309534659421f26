-- Calls whose arguments are spelled as trees.
use Rattle.std.proofs.Common.{◌≡◌, ◌≤◌, ℕ, zero, suc, ℤ, ◌+◌, List, [], ◌∷◌, ◌++◌, length, Bool, true, false, Option, Some, None, refl, sym, ap, subst, ◌∙◌, arith, append_assoc, append-nil, option_map}
use Rattle.opa_model.specs.declared.ids.RelId.{RelId}
use Rattle.opa_tree.specs.declared.kinds.OpKind.{OpKind}
use Rattle.opa_tree.specs.declared.kinds.OpKind.TheVariants as op
use Rattle.opa_tree.specs.declared.kinds.Quant.{Quant}
use Rattle.opa_tree.specs.declared.kinds.Quant.TheVariants as quant
use Rattle.opa_tree.specs.declared.kinds.WinKind.{WinKind}
use Rattle.opa_tree.specs.declared.kinds.WinKind.TheVariants as win
use Rattle.opa_tree.specs.declared.expr.Expr.{Expr}
use Rattle.opa_tree.specs.declared.expr.Expr.TheVariants as V
use Rattle.opa_tree.specs.Trees.{op_arity, quant_arity, window_arity}
use Rattle.opa_words.specs.Pieces.{Piece, word}
use Rattle.opa_words.specs.Written.{Written}
use Rattle.opa_sentence.specs.declared.class.Class.TheVariants as class
use Rattle.opa_sentence.specs.declared.functions.Function.{Function}
use Rattle.opa_sentence.specs.declared.functions.Function.TheVariants as function
use Rattle.opa_sentence.specs.declared.functions.Argument.TheVariants as argument
use Rattle.opa_sentence.specs.declared.names.Names.{Names}
use Rattle.opa_sentence.specs.declared.names.Relation.{Relation}
use Rattle.opa_sentence.specs.declared.names.Relation.TheVariants as relation
use Rattle.opa_sentence.specs.declared.reading.Reading.{Reading}
use Rattle.opa_sentence.specs.declared.reading.Parts.{Parts}
use Rattle.opa_sentence.specs.declared.reading.Arguments.{Arguments}
use Rattle.opa_sentence.specs.Functions.{argument_at}
use Rattle.opa_sentence.specs.Lexemes.{Lexeme, class_of}
use Rattle.opa_sentence.specs.Measures.{unbounded}
use Rattle.opa_sentence.specs.Readings as says
use Rattle.opa_sentence.specs.Grammar.{Part, LINE, OPERAND, TERM, FACTOR, Spells, SpellsArgument, SpellsArguments}
use Rattle.opa_sentence.specs.Grammar as g
use Rattle.opa_wording.specs.declared.joint.Joint.TheVariants as between
use Rattle.opa_wording.specs.Signs.{is_infix, op_piece, quant_text, window_text, rolling_text}
use Rattle.opa_wording.specs.Wordings.{Wording, token, together, call, call_after}
use Rattle.opa_wording.specs.Grammatical.{is_round}
use Rattle.opa_wording.specs.Told.{told, all_told, ends}
use Rattle.opa_wording.proofs.Parts.{told_append, told_brackets, opening, closing, Says, IsSpelled, AreSpelled, AreParts, no_parts, one_more_part}

-- so many lines are written from this place on, and nothing more
abbrev pub TakesLines : Function → ℕ → ℕ → Type 0
TakesLines f n zero = argument_at f n ≡ None
TakesLines f n (suc k) = (argument_at f n ≡ Some argument.Line) × TakesLines f (n + 1) k

abbrev pub args : Relation → Option ℤ → List Reading → Arguments
args r o ls = record { relation = r; number = o; lines = ls }

-- what lines say
abbrev pub AreLines : List Reading → List Expr → ℕ → Type 0
AreLines [] [] n = Unit {0}
AreLines [] (e ∷ es) n = ⊥
AreLines (x ∷ xs) [] n = ⊥
AreLines (x ∷ xs) (e ∷ es) n = (x.tree ≡ Some e) × (x.measure.nesting ≤ n) × AreLines xs es n

module _ (ns : Names) where
  gathered_are : (rs : List Reading) (es : List Expr) (n : ℕ) → AreLines rs es n → (p : Parts) (before : List Expr) → AreParts ns p before n → AreParts ns (says.gathered unbounded p rs) (before ++ es) n
  gathered_are [] [] n h p before a = subst (λ fs. AreParts ns p fs n) (sym (append-nil before)) a
  gathered_are [] (e ∷ es) n h p before a = absurd h
  gathered_are (x ∷ xs) [] n h p before a = absurd h
  gathered_are (x ∷ xs) (e ∷ es) n h p before a =
      subst (λ fs. AreParts ns (says.gathered unbounded (says.with_part unbounded p x) xs) fs n) (append_assoc before (e ∷ []) es)
      (gathered_are xs es n h.2 (says.with_part unbounded p x) (before ++ e ∷ []) (one_more_part ns p before x e n a h.0 h.1))

  lines_are : (rs : List Reading) (es : List Expr) (n : ℕ) → AreLines rs es n → AreParts ns (says.lines unbounded rs) es n
  lines_are rs es n h = gathered_are rs es n h (says.no_parts unbounded) [] (no_parts ns n)

  -- The arguments are spelled from this place on.
  record SaysLater (f : Function) (k : ℕ) (ts : List Lexeme) (a : Arguments) (r : Relation) (o : Option ℤ) (before : List Reading) (rest : List Lexeme) (es : List Expr) (n : ℕ) : Type 0 where
    pub rs : List Reading
    pub are : AreLines rs es n
    pub spelled : SpellsArguments unbounded ns f k ts a (args r o (before ++ rs)) rest

  pub later_ends : (ws : List Wording) (rest : List Lexeme) → ends (all_told (together between.Comma true false ws) ++ (closing ∷ rest)) ≡ true
  later_ends [] rest = refl
  later_ends (w ∷ ws) rest = refl

  later : (f : Function) (k : ℕ) (ws : List Wording) (es : List Expr) (n : ℕ) → AreSpelled ns ws es n → TakesLines f (k + 1) (length es) → (ts : List Lexeme) (a : Arguments) (r : Relation) (o : Option ℤ) (before : List Reading) (s : Bool) (rest : List Lexeme)
      → SpellsArgument unbounded ns f k ts a (args r o before) (all_told (together between.Comma s false ws) ++ (closing ∷ rest)) → SaysLater f k ts a r o before (closing ∷ rest) es n
  later f k [] [] n xs takes ts a r o before s rest d = record {
    rs = [];
    are = tt;
    spelled = subst (λ ls. SpellsArguments unbounded ns f k ts a (args r o ls) (closing ∷ rest)) (sym (append-nil before)) (g.SpellsArguments.last_argument d takes);
  }
  later f k [] (e ∷ es) n xs takes ts a r o before s rest d = absurd xs
  later f k (w ∷ ws) [] n xs takes ts a r o before s rest d = absurd xs
  later f k (w ∷ ws) (e ∷ es) n xs takes ts a r o before s rest d =
      let after : List Lexeme = all_told (together between.Comma s false ws) ++ (closing ∷ rest) in
      let mid : List Lexeme = all_told (w.as_line true ++ together between.Comma s false ws) ++ (closing ∷ rest) in
      let line = subst (λ us. Says ns LINE us e after n) (sym (told_append (w.as_line true) (together between.Comma s false ws) (closing ∷ rest))) (xs.0.line true after (comma_ends s ws rest)) in
      let more = later f (k + 1) ws es n xs.1 takes.1 mid (args r o before) r o (before ++ line.reading ∷ []) s rest (g.SpellsArgument.as_line takes.0 line.spelled) in record {
        rs = line.reading ∷ more.rs;
        are = (line.tree_is, line.nested, more.are);
        spelled = subst (λ ls. SpellsArguments unbounded ns f k ts a (args r o ls) (closing ∷ rest)) (append_assoc before (line.reading ∷ []) more.rs) (g.SpellsArguments.more_arguments d refl more.spelled);
      }
    where
      comma_ends : (s : Bool) (vs : List Wording) (rest : List Lexeme) → ends (all_told (together between.Comma s false vs) ++ (closing ∷ rest)) ≡ true
      comma_ends s [] rest = refl
      comma_ends s (v ∷ vs) rest = refl

  -- A call is spelled, over lines that are these trees.
  pub record SaysCall (f : Function) (ts : List Lexeme) (r : Relation) (o : Option ℤ) (es : List Expr) (rest : List Lexeme) (n : ℕ) : Type 0 where
    pub rs : List Reading
    pub are : AreLines rs es n
    pub spelled : Spells unbounded ns FACTOR ts (says.call_of unbounded ns.members f (args r o rs)) rest

  -- with lines alone
  pub lines_called : (f : Function) (p : Piece) → class_of p.kind p.text ≡ class.Function f → (w : Wording) (ws : List Wording) (e : Expr) (es : List Expr) (n : ℕ) → IsSpelled ns w e n → AreSpelled ns ws es n → TakesLines f 0 (length (e ∷ es)) → (s : Bool) (rest : List Lexeme)
      → SaysCall f (all_told (call s p (w ∷ ws)) ++ rest) relation.Unnamed None (e ∷ es) rest n
  lines_called f p is w ws e es n x xs takes s rest =
      let after : List Lexeme = all_told (together between.Comma false false ws) ++ (closing ∷ rest) in
      let line = x.line false after (comma_ends ws) in
      let more = later f 0 ws es n xs takes.1 (all_told (w.as_line false) ++ after) says.no_arguments relation.Unnamed None (line.reading ∷ []) false rest (g.SpellsArgument.as_line takes.0 line.spelled) in record {
        rs = line.reading ∷ more.rs;
        are = (line.tree_is, line.nested, more.are);
        spelled = subst (λ us. Spells unbounded ns FACTOR us (says.call_of unbounded ns.members f (args relation.Unnamed None (line.reading ∷ more.rs))) rest)
            (sym (ap (λ us. told (token s p) ∷ us) (told_brackets false (together between.Comma false true (w ∷ ws)) rest ∙ ap (λ us. opening false ∷ us) (told_append (w.as_line false) (together between.Comma false false ws) (closing ∷ rest)))))
            (g.Spells.call f is refl more.spelled refl);
      }
    where
      comma_ends : (vs : List Wording) → ends (all_told (together between.Comma false false vs) ++ (closing ∷ rest)) ≡ true
      comma_ends [] = refl
      comma_ends (v ∷ vs) = refl

  -- with something else first
  pub after_called : (f : Function) (p : Piece) → class_of p.kind p.text ≡ class.Function f → (first : List Written) (r : Relation) (o : Option ℤ) (ws : List Wording) (es : List Expr) (n : ℕ) → AreSpelled ns ws es n → TakesLines f 1 (length es) → (s : Bool) (rest : List Lexeme)
      → SpellsArgument unbounded ns f 0 (all_told first ++ (all_told (together between.Comma true false ws) ++ (closing ∷ rest))) says.no_arguments (args r o []) (all_told (together between.Comma true false ws) ++ (closing ∷ rest))
      → SaysCall f (all_told (call_after s p first ws) ++ rest) r o es rest n
  after_called f p is first r o ws es n xs takes s rest d =
      let more = later f 0 ws es n xs takes (all_told first ++ (all_told (together between.Comma true false ws) ++ (closing ∷ rest))) says.no_arguments r o [] true rest d in record {
        rs = more.rs;
        are = more.are;
        spelled = subst (λ us. Spells unbounded ns FACTOR us (says.call_of unbounded ns.members f (args r o more.rs)) rest)
            (sym (ap (λ us. told (token s p) ∷ us) (told_brackets false (first ++ together between.Comma true false ws) rest ∙ ap (λ us. opening false ∷ us) (told_append first (together between.Comma true false ws) (closing ∷ rest)))))
            (g.Spells.call f is refl more.spelled refl);
      }

  -- ---- what calls say

  op_says : (k : OpKind) (o : Option ℤ) (rs : List Reading) → is_round k ≡ false → says.operation_call unbounded k o rs ≡ says.operation unbounded k (says.lines unbounded rs)
  op_says op.Round o rs h = absurd (cc h)
  op_says k o rs h = refl

  pub op_called : (k : OpKind) → is_round k ≡ false → {ts rest : List Lexeme} {es : List Expr} {n : ℕ} → SaysCall (function.Op k) ts relation.Unnamed None es rest n → Says ns FACTOR ts (V.Op k es) rest (1 + n)
  op_called k h {es = es} {n = n} c =
      let parts = lines_are c.rs es n c.are in
      let nesting = ap (λ (x : Reading). x.measure.nesting) (op_says k None c.rs h) in record {
        reading = says.call_of unbounded ns.members (function.Op k) (args relation.Unnamed None c.rs);
        spelled = c.spelled;
        tree_is = ap (λ (x : Reading). x.tree) (op_says k None c.rs h) ∙ ap (option_map (λ fs. V.Op k fs)) parts.trees_are;
        nested = omega (arith, nesting, parts.nested);
      }

  pub over_called : (q : Quant) (r : RelId) {ts rest : List Lexeme} {es : List Expr} {n : ℕ} → SaysCall (function.Over q) ts (relation.Declared r) None es rest n → Says ns FACTOR ts (V.Over q r es) rest (1 + n)
  over_called q r {es = es} {n = n} c =
      let parts = lines_are c.rs es n c.are in record {
        reading = says.call_of unbounded ns.members (function.Over q) (args (relation.Declared r) None c.rs);
        spelled = c.spelled;
        tree_is = ap (option_map (λ fs. V.Over q r fs)) parts.trees_are;
        nested = omega (arith, parts.nested);
      }

  pub window_called : (k : WinKind) {ts rest : List Lexeme} {es : List Expr} {n : ℕ} → SaysCall (function.Window k) ts relation.Unnamed None es rest n → Says ns FACTOR ts (V.Window k es) rest (1 + n)
  window_called k {es = es} {n = n} c =
      let parts = lines_are c.rs es n c.are in record {
        reading = says.call_of unbounded ns.members (function.Window k) (args relation.Unnamed None c.rs);
        spelled = c.spelled;
        tree_is = ap (option_map (λ fs. V.Window k fs)) parts.trees_are;
        nested = omega (arith, parts.nested);
      }

  record IsLast (x : Reading) (e : Expr) (n : ℕ) : Type 0 where
    pub tree_is : x.tree ≡ Some e
    pub nested : x.measure.nesting ≤ n

  last_is : (rs : List Reading) (e : Expr) (n : ℕ) → AreLines rs (e ∷ []) n → IsLast (says.last_line unbounded rs) e n
  last_is [] e n h = absurd h
  last_is (x ∷ []) e n h = record { tree_is = h.0; nested = h.1 }
  last_is (x ∷ y ∷ rs) e n h = absurd h.2

  pub certain_called : {ts rest : List Lexeme} {e : Expr} {n : ℕ} → SaysCall function.Certain ts relation.Unnamed None (e ∷ []) rest n → Says ns FACTOR ts (V.Certain e) rest (1 + n)
  certain_called {e = e} {n = n} c =
      let one = last_is c.rs e n c.are in record {
        reading = says.call_of unbounded ns.members function.Certain (args relation.Unnamed None c.rs);
        spelled = c.spelled;
        tree_is = ap (option_map (λ f. V.Certain f)) one.tree_is;
        nested = omega (arith, one.nested);
      }

  pub known_called : {ts rest : List Lexeme} {e : Expr} {n : ℕ} → SaysCall function.Known ts relation.Unnamed None (e ∷ []) rest n → Says ns FACTOR ts (V.Known e) rest (1 + n)
  known_called {e = e} {n = n} c =
      let one = last_is c.rs e n c.are in record {
        reading = says.call_of unbounded ns.members function.Known (args relation.Unnamed None c.rs);
        spelled = c.spelled;
        tree_is = ap (option_map (λ f. V.Known f)) one.tree_is;
        nested = omega (arith, one.nested);
      }

  pub rolling_called : (always : Bool) (z : ℤ) (k : ℕ) → says.days (Some z) ≡ k → {ts rest : List Lexeme} {e : Expr} {n : ℕ} → SaysCall (function.Rolling always) ts relation.Unnamed (Some z) (e ∷ []) rest n → Says ns FACTOR ts (V.Rolling always k e) rest (1 + n)
  rolling_called always z k is {e = e} {n = n} c =
      let one = last_is c.rs e n c.are in record {
        reading = says.call_of unbounded ns.members (function.Rolling always) (args relation.Unnamed (Some z) c.rs);
        spelled = c.spelled;
        tree_is = ap (option_map (λ f. V.Rolling always (says.days (Some z)) f)) one.tree_is ∙ ap (λ d. Some (V.Rolling always d e)) is;
        nested = omega (arith, one.nested);
      }

-- ---- which lines each function takes

pub op_takes : (k : OpKind) → is_round k ≡ false → is_infix k ≡ false → TakesLines (function.Op k) 0 (op_arity k)
op_takes op.Round h i = absurd (cc h)
op_takes op.Neg h i = (refl, refl)
op_takes op.Min h i = (refl, (refl, refl))
op_takes op.Max h i = (refl, (refl, refl))
op_takes op.AddDays h i = (refl, (refl, refl))
op_takes op.AddMonths h i = (refl, (refl, refl))
op_takes op.AddYears h i = (refl, (refl, refl))
op_takes op.DaysBetween h i = (refl, (refl, refl))
op_takes op.YearsBetween h i = (refl, (refl, refl))
op_takes op.YearOf h i = (refl, refl)
op_takes op.MonthOf h i = (refl, refl)
op_takes op.DayOf h i = (refl, refl)
op_takes op.Concatenate h i = (refl, (refl, refl))
op_takes k h i = absurd (cc i)

pub quant_takes : (q : Quant) → TakesLines (function.Over q) 1 (quant_arity q)
quant_takes quant.Count = refl
quant_takes quant.ForAll = (refl, refl)
quant_takes quant.Exists = (refl, refl)
quant_takes quant.For = (refl, refl)
quant_takes quant.CountIf = (refl, refl)
quant_takes quant.Sum = (refl, refl)
quant_takes quant.Maximum = (refl, refl)
quant_takes quant.Minimum = (refl, refl)
quant_takes quant.SumIf = (refl, (refl, refl))

pub window_takes : (k : WinKind) → TakesLines (function.Window k) 0 (window_arity k)
window_takes win.Before = (refl, refl)
window_takes win.OnOrAfter = (refl, refl)
window_takes win.YearsSince = (refl, refl)
window_takes win.ValueAt = (refl, (refl, refl))
window_takes win.Always = (refl, (refl, (refl, refl)))
window_takes win.Sometimes = (refl, (refl, (refl, refl)))
window_takes win.DailySum = (refl, (refl, (refl, refl)))
window_takes win.Maximum = (refl, (refl, (refl, refl)))
window_takes win.Minimum = (refl, (refl, (refl, refl)))
window_takes win.ConsecutiveDays = (refl, (refl, (refl, refl)))

-- ---- the class of each name

pub op_class : (k : OpKind) → is_infix k ≡ false → (k ≡ op.Neg → ⊥) → class_of (op_piece k).kind (op_piece k).text ≡ class.Function (function.Op k)
op_class op.Neg i other = absurd (other refl)
op_class op.Round i other = refl
op_class op.Min i other = refl
op_class op.Max i other = refl
op_class op.AddDays i other = refl
op_class op.AddMonths i other = refl
op_class op.AddYears i other = refl
op_class op.DaysBetween i other = refl
op_class op.YearsBetween i other = refl
op_class op.YearOf i other = refl
op_class op.MonthOf i other = refl
op_class op.DayOf i other = refl
op_class op.Concatenate i other = refl
op_class k i other = absurd (cc i)

pub quant_class : (q : Quant) → class_of (word (quant_text q)).kind (word (quant_text q)).text ≡ class.Function (function.Over q)
quant_class quant.Count = refl
quant_class quant.ForAll = refl
quant_class quant.Exists = refl
quant_class quant.For = refl
quant_class quant.CountIf = refl
quant_class quant.Sum = refl
quant_class quant.Maximum = refl
quant_class quant.Minimum = refl
quant_class quant.SumIf = refl

pub window_class : (k : WinKind) → class_of (word (window_text k)).kind (word (window_text k)).text ≡ class.Function (function.Window k)
window_class win.Before = refl
window_class win.OnOrAfter = refl
window_class win.YearsSince = refl
window_class win.ValueAt = refl
window_class win.Always = refl
window_class win.Sometimes = refl
window_class win.DailySum = refl
window_class win.Maximum = refl
window_class win.Minimum = refl
window_class win.ConsecutiveDays = refl

pub rolling_class : (always : Bool) → class_of (word (rolling_text always)).kind (word (rolling_text always)).text ≡ class.Function (function.Rolling always)
rolling_class true = refl
rolling_class false = refl
