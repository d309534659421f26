-- What a tree is written as spells that tree.
use Rattle.std.proofs.Common.{◌≡◌, ◌≤◌, ℕ, pos, ◌+◌, ◌*◌, max, List, [], ◌∷◌, ◌++◌, length, map, Bool, true, false, Some, None, refl, sym, ap, subst, ◌∙◌, arith, option_map}
use Rattle.std.specs.Prelude.{codes, decimal, if◌then◌else◌}
use Rattle.opa_value.specs.declared.value.Value.TheVariants as value
use Rattle.opa_value.specs.Numbers.{InRange}
use Rattle.opa_value.specs.NumberText.{plain_text}
use Rattle.opa_model.specs.declared.ids.RelId.{RelId}
use Rattle.opa_model.specs.declared.lists.Lists.{Lists}
use Rattle.opa_model.specs.Lookups.{attribute_at, relation_at}
use Rattle.opa_model.specs.Models.{HasRelation}
use Rattle.opa_tree.specs.declared.kinds.OpKind.{OpKind}
use Rattle.opa_tree.specs.declared.kinds.OpKind.TheVariants as op
use Rattle.opa_tree.specs.declared.kinds.Quant.{Quant}
use Rattle.opa_tree.specs.declared.kinds.WinKind.{WinKind}
use Rattle.opa_tree.specs.declared.kinds.WinKind.TheVariants as win
use Rattle.opa_tree.specs.declared.expr.Expr.{Expr}
use Rattle.opa_tree.specs.declared.expr.Expr.TheVariants as V
use Rattle.opa_tree.specs.Trees.{op_arity, quant_arity, window_arity, depth, highest}
use Rattle.opa_tree.proofs.DepthLaws.{depth-All, depth-Any, depth-Not, depth-Op, depth-Certain, depth-Known, depth-Over, depth-Window, depth-Rolling}
use Rattle.opa_words.specs.Pieces.{symbol, word, number}
use Rattle.opa_words.specs.Written.{joined}
use Rattle.opa_sentence.specs.declared.functions.Function.TheVariants as function
use Rattle.opa_sentence.specs.declared.names.Names.{Names}
use Rattle.opa_sentence.specs.declared.names.Relation.TheVariants as relation
use Rattle.opa_sentence.specs.Lexemes.{Lexeme}
use Rattle.opa_sentence.specs.Measures.{unbounded}
use Rattle.opa_sentence.specs.Readings as says
use Rattle.opa_sentence.specs.Grammar.{FACTOR, LINE, Spells}
use Rattle.opa_sentence.specs.Grammar as g
use Rattle.opa_wording.specs.declared.joint.Joint.TheVariants as between
use Rattle.opa_wording.specs.Signs.{is_infix, op_piece, quant_text, window_text, rolling_text}
use Rattle.opa_wording.specs.Wordings.{Wording, token, phrase, phrase_of_attribute, phrase_of_relation, literal, bracketed, together, alike, apart, operation, call, listed, over_days, wording}
use Rattle.opa_wording.specs.Grammatical.{is_round, IsGrammatical, AreGrammatical}
use Rattle.opa_wording.specs.Grammatical as tree
use Rattle.opa_wording.specs.Told.{told, all_told, SpellsTree, PhrasesAreRead}
use Rattle.opa_wording.specs.Laws.{LinesSpellTrees, FactorsSpellTrees}
use Rattle.opa_wording.proofs.WordingLaws.{wording-Const, wording-Attr, wording-All, wording-Any, wording-Not, wording-Op, wording-Certain, wording-Known, wording-Over, wording-Window, wording-Rolling}
use Rattle.opa_wording.proofs.Parts.{told_append, told_brackets, opening, closing, Says, IsSpelled, AreSpelled, alike_spelled, apart_spelled, denied, negated, weaker, infix_line, all_spelled, any_spelled}
use Rattle.opa_wording.proofs.Calls.{TakesLines, later_ends, lines_called, after_called, op_called, over_called, window_called, certain_called, known_called, rolling_called, op_takes, quant_takes, window_takes, op_class, quant_class, window_class, rolling_class}
use Rattle.opa_wording.proofs.Leaves.{literal_spelled, number_read, whole_read, whole_days}

module _ (m : Lists) (ns : Names) (names : PhrasesAreRead m ns) where
  weaker_spelled : (w : Wording) (e : Expr) (k n : ℕ) → k ≤ n → IsSpelled ns w e k → IsSpelled ns w e n
  weaker_spelled w e k n h x = record { factor = λ s rest p. weaker ns k n h (x.factor s rest p); line = λ s rest p. weaker ns k n h (x.line s rest p) }

  -- a tree is spelled, as deep as it is
  abbrev IsTold : Expr → Type 0
  IsTold e = IsSpelled ns (wording m e) e (2 * depth e)

  as_written : (e : Expr) (w : Wording) (k : ℕ) → wording m e ≡ w → k ≤ 2 * depth e → IsSpelled ns w e k → IsTold e
  as_written e w k is h x = weaker_spelled (wording m e) e k (2 * depth e) h (subst (λ v. IsSpelled ns v e k) (sym is) x)

  -- ---- operations

  -- over lists of lengths that are told by a number
  infix_level : (k : OpKind) → is_infix k ≡ true → (ws : List Wording) (es : List Expr) (n : ℕ) → length es ≡ 2 → AreSpelled ns ws es n → IsSpelled ns (apart (λ s. together (between.Sign k) s true ws)) (V.Op k es) (1 + n)
  infix_level k h (v ∷ w ∷ []) (a ∷ b ∷ []) n l xs = apart_spelled ns (λ s. together (between.Sign k) s true (v ∷ w ∷ [])) (V.Op k (a ∷ b ∷ [])) n (infix_line ns k h v w a b n xs.0 xs.1.0)
  infix_level k h ws [] n l xs = absurd (cc l)
  infix_level k h ws (a ∷ []) n l xs = absurd (cc l)
  infix_level k h ws (a ∷ b ∷ c ∷ es) n l xs = absurd (cc l)
  infix_level k h [] (a ∷ b ∷ []) n l xs = absurd xs
  infix_level k h (v ∷ []) (a ∷ b ∷ []) n l xs = absurd xs.1
  infix_level k h (v ∷ w ∷ u ∷ ws) (a ∷ b ∷ []) n l xs = absurd xs.1.1

  infix_arity : (k : OpKind) → is_infix k ≡ true → op_arity k ≡ 2
  infix_arity op.Neg h = absurd (cc h)
  infix_arity op.YearOf h = absurd (cc h)
  infix_arity op.MonthOf h = absurd (cc h)
  infix_arity op.DayOf h = absurd (cc h)
  infix_arity k h = refl

  call_arity : (k : OpKind) → (op_arity k ≡ 0) → ⊥
  call_arity op.Neg h = absurd (cc h)
  call_arity op.YearOf h = absurd (cc h)
  call_arity op.MonthOf h = absurd (cc h)
  call_arity op.DayOf h = absurd (cc h)
  call_arity k h = absurd (cc h)

  named_level : (k : OpKind) → is_round k ≡ false → is_infix k ≡ false → (k ≡ op.Neg → ⊥) → (ws : List Wording) (es : List Expr) (n : ℕ) → length es ≡ op_arity k → AreSpelled ns ws es n → IsSpelled ns (alike (λ s. call s (op_piece k) ws)) (V.Op k es) (1 + n)
  named_level k r i other (w ∷ ws) (e ∷ es) n l xs = alike_spelled ns (λ s. call s (op_piece k) (w ∷ ws)) (V.Op k (e ∷ es)) (1 + n) (λ s rest p.
      op_called ns k r (lines_called ns (function.Op k) (op_piece k) (op_class k i other) w ws e es n xs.0 xs.1 (subst (λ c. TakesLines (function.Op k) 0 c) (sym l) (op_takes k r i)) s rest))
  named_level k r i other [] [] n l xs = absurd (call_arity k (sym l))
  named_level k r i other (w ∷ ws) [] n l xs = absurd xs
  named_level k r i other [] (e ∷ es) n l xs = absurd xs

  negation_level : (ws : List Wording) (es : List Expr) (n : ℕ) → length es ≡ 1 → AreSpelled ns ws es n → IsSpelled ns (alike (λ s. call s (symbol (codes "-")) ws)) (V.Op op.Neg es) (2 + n)
  negation_level (w ∷ []) (e ∷ []) n l xs = alike_spelled ns (λ s. call s (symbol (codes "-")) (w ∷ [])) (V.Op op.Neg (e ∷ [])) (2 + n) (λ s rest p.
      subst (λ ts. Says ns FACTOR ts (V.Op op.Neg (e ∷ [])) rest (2 + n))
      (sym (ap (λ ts. told (token s (symbol (codes "-"))) ∷ ts) (told_brackets false (w.as_line false ++ []) rest ∙ ap (λ ts. opening false ∷ ts) (told_append (w.as_line false) [] (closing ∷ rest)))))
      (negated ns s (xs.0.line false (closing ∷ rest) refl)))
  negation_level ws [] n l xs = absurd (cc l)
  negation_level ws (a ∷ b ∷ es) n l xs = absurd (cc l)
  negation_level [] (a ∷ []) n l xs = absurd xs
  negation_level (v ∷ w ∷ ws) (a ∷ []) n l xs = absurd xs.1

  prefix_or_name : (k : OpKind) → is_round k ≡ false → is_infix k ≡ false → (ws : List Wording) (es : List Expr) (n : ℕ) → length es ≡ op_arity k → AreSpelled ns ws es n → IsSpelled ns (alike (λ s. call s (op_piece k) ws)) (V.Op k es) (2 + n)
  prefix_or_name op.Neg r i ws es n l xs = negation_level ws es n l xs
  prefix_or_name op.Min r i ws es n l xs = weaker_spelled _ _ (1 + n) (2 + n) (omega arith) (named_level op.Min r i (λ h. absurd (cc h)) ws es n l xs)
  prefix_or_name op.Max r i ws es n l xs = weaker_spelled _ _ (1 + n) (2 + n) (omega arith) (named_level op.Max r i (λ h. absurd (cc h)) ws es n l xs)
  prefix_or_name op.AddDays r i ws es n l xs = weaker_spelled _ _ (1 + n) (2 + n) (omega arith) (named_level op.AddDays r i (λ h. absurd (cc h)) ws es n l xs)
  prefix_or_name op.AddMonths r i ws es n l xs = weaker_spelled _ _ (1 + n) (2 + n) (omega arith) (named_level op.AddMonths r i (λ h. absurd (cc h)) ws es n l xs)
  prefix_or_name op.AddYears r i ws es n l xs = weaker_spelled _ _ (1 + n) (2 + n) (omega arith) (named_level op.AddYears r i (λ h. absurd (cc h)) ws es n l xs)
  prefix_or_name op.DaysBetween r i ws es n l xs = weaker_spelled _ _ (1 + n) (2 + n) (omega arith) (named_level op.DaysBetween r i (λ h. absurd (cc h)) ws es n l xs)
  prefix_or_name op.YearsBetween r i ws es n l xs = weaker_spelled _ _ (1 + n) (2 + n) (omega arith) (named_level op.YearsBetween r i (λ h. absurd (cc h)) ws es n l xs)
  prefix_or_name op.YearOf r i ws es n l xs = weaker_spelled _ _ (1 + n) (2 + n) (omega arith) (named_level op.YearOf r i (λ h. absurd (cc h)) ws es n l xs)
  prefix_or_name op.MonthOf r i ws es n l xs = weaker_spelled _ _ (1 + n) (2 + n) (omega arith) (named_level op.MonthOf r i (λ h. absurd (cc h)) ws es n l xs)
  prefix_or_name op.DayOf r i ws es n l xs = weaker_spelled _ _ (1 + n) (2 + n) (omega arith) (named_level op.DayOf r i (λ h. absurd (cc h)) ws es n l xs)
  prefix_or_name op.Concatenate r i ws es n l xs = weaker_spelled _ _ (1 + n) (2 + n) (omega arith) (named_level op.Concatenate r i (λ h. absurd (cc h)) ws es n l xs)
  prefix_or_name op.Round r i ws es n l xs = absurd (cc r)
  prefix_or_name k r i ws es n l xs = absurd (cc i)

  operation_level : (k : OpKind) → is_round k ≡ false → (ws : List Wording) (es : List Expr) (n : ℕ) → length es ≡ op_arity k → AreSpelled ns ws es n → IsSpelled ns (operation k ws) (V.Op k es) (2 + n)
  operation_level k r ws es n l xs = go (is_infix k) refl
    where
      go : (b : Bool) → is_infix k ≡ b → IsSpelled ns (operation k ws) (V.Op k es) (2 + n)
      go true i = subst (λ b. IsSpelled ns (if b then apart (λ s. together (between.Sign k) s true ws) else alike (λ s. call s (op_piece k) ws)) (V.Op k es) (2 + n)) (sym i)
          (weaker_spelled _ _ (1 + n) (2 + n) (omega arith) (infix_level k i ws es n (l ∙ infix_arity k i) xs))
      go false i = subst (λ b. IsSpelled ns (if b then apart (λ s. together (between.Sign k) s true ws) else alike (λ s. call s (op_piece k) ws)) (V.Op k es) (2 + n)) (sym i) (prefix_or_name k r i ws es n l xs)

  -- ---- calls with something else first, and with a number last

  over_level : (q : Quant) (r : RelId) → HasRelation m r → (ws : List Wording) (es : List Expr) (n : ℕ) → length es ≡ quant_arity q → AreSpelled ns ws es n → IsSpelled ns (alike (λ s. token s (word (quant_text q)) ∷ bracketed false (listed m r ws))) (V.Over q r es) (1 + n)
  over_level q r has ws es n l xs = alike_spelled ns (λ s. token s (word (quant_text q)) ∷ bracketed false (listed m r ws)) (V.Over q r es) (1 + n) (λ s rest p.
      let after : List Lexeme = all_told (together between.Comma true false ws) ++ (closing ∷ rest) in
      over_called ns q r (after_called ns (function.Over q) (word (quant_text q)) (quant_class q) (phrase false (phrase_of_relation (relation_at m r))) (relation.Declared r) None ws es n xs (subst (λ c. TakesLines (function.Over q) 1 c) (sym l) (quant_takes q)) s rest
      (g.SpellsArgument.as_relation refl (relation.Declared r, after) (names.relations r has false after (later_ends ns ws rest)))))

  rolling_level : (always : Bool) (k : ℕ) → k ≤ 36600 → (w : Wording) (e : Expr) (n : ℕ) → IsSpelled ns w e n → IsSpelled ns (alike (λ s. token s (word (rolling_text always)) ∷ bracketed false (over_days k w))) (V.Rolling always k e) (1 + n)
  rolling_level always k h w e n x = alike_spelled ns (λ s. token s (word (rolling_text always)) ∷ bracketed false (over_days k w)) (V.Rolling always k e) (1 + n) (λ s rest p.
      rolling_called ns always (pos (k * 10000)) k (whole_days k h) (after_called ns (function.Rolling always) (word (rolling_text always)) (rolling_class always) (joined (number (decimal k)) ∷ []) relation.Unnamed (Some (pos (k * 10000))) (w ∷ []) (e ∷ []) n (x, tt) (refl, refl) s rest
      (g.SpellsArgument.as_number refl refl (pos (k * 10000)) (whole_read k h))))

  rounded : (z : ℕ) {ts rest : List Lexeme} {e : Expr} {n : ℕ} (d : Says ns LINE ts e (told (joined (symbol (codes ","))) ∷ told (token true (number (plain_text (pos z)))) ∷ closing ∷ rest) n) → InRange (pos z) → (s : Bool)
      → Says ns FACTOR (told (token s (op_piece op.Round)) ∷ opening false ∷ ts) (V.Op op.Round (e ∷ V.Const (value.Num (pos z)) ∷ [])) rest (1 + n)
  rounded z {e = e} {n = n} d h s = record {
    reading = says.call_of unbounded ns.members (function.Op op.Round) (record { relation = relation.Unnamed; number = Some (pos z); lines = d.reading ∷ [] });
    spelled = g.Spells.call (function.Op op.Round) refl refl (g.SpellsArguments.more_arguments (g.SpellsArgument.as_line refl d.spelled) refl (g.SpellsArguments.last_argument (g.SpellsArgument.as_number refl refl (pos z) (number_read z h)) refl)) refl;
    tree_is = ap (λ t. option_map (λ es. V.Op op.Round es) (says.with_tree (says.with_tree (Some []) t) (Some (V.Const (value.Num (pos z)))))) d.tree_is;
    nested = omega (arith, d.nested);
  }

  round_level : (z : ℕ) → InRange (pos z) → (w : Wording) (e : Expr) (n : ℕ) → IsSpelled ns w e n → IsSpelled ns (alike (λ s. call s (op_piece op.Round) (w ∷ alike (λ s. literal s (value.Num (pos z))) ∷ []))) (V.Op op.Round (e ∷ V.Const (value.Num (pos z)) ∷ [])) (1 + n)
  round_level z h w e n x = alike_spelled ns (λ s. call s (op_piece op.Round) (w ∷ alike (λ s. literal s (value.Num (pos z))) ∷ [])) (V.Op op.Round (e ∷ V.Const (value.Num (pos z)) ∷ [])) (1 + n) (λ s rest p.
      subst (λ ts. Says ns FACTOR (told (token s (op_piece op.Round)) ∷ ts) (V.Op op.Round (e ∷ V.Const (value.Num (pos z)) ∷ [])) rest (1 + n))
      (sym (told_brackets false (together between.Comma false true (w ∷ alike (λ s. literal s (value.Num (pos z))) ∷ [])) rest ∙ ap (λ ts. opening false ∷ ts) (told_append (w.as_line false) (together between.Comma false false (alike (λ s. literal s (value.Num (pos z))) ∷ [])) (closing ∷ rest))))
      (rounded z (x.line false (told (joined (symbol (codes ","))) ∷ told (token true (number (plain_text (pos z)))) ∷ closing ∷ rest) refl) h s))

  window_level : (k : WinKind) (ws : List Wording) (es : List Expr) (n : ℕ) → length es ≡ window_arity k → AreSpelled ns ws es n → IsSpelled ns (alike (λ s. call s (word (window_text k)) ws)) (V.Window k es) (1 + n)
  window_level k (w ∷ ws) (e ∷ es) n l xs = alike_spelled ns (λ s. call s (word (window_text k)) (w ∷ ws)) (V.Window k (e ∷ es)) (1 + n) (λ s rest p.
      window_called ns k (lines_called ns (function.Window k) (word (window_text k)) (window_class k) w ws e es n xs.0 xs.1 (subst (λ c. TakesLines (function.Window k) 0 c) (sym l) (window_takes k)) s rest))
  window_level k [] [] n l xs = absurd (some_arity k (sym l))
    where
      some_arity : (k : WinKind) → (window_arity k ≡ 0) → ⊥
      some_arity win.Before h = absurd (cc h)
      some_arity win.OnOrAfter h = absurd (cc h)
      some_arity win.YearsSince h = absurd (cc h)
      some_arity win.ValueAt h = absurd (cc h)
      some_arity k h = absurd (cc h)
  window_level k (w ∷ ws) [] n l xs = absurd xs
  window_level k [] (e ∷ es) n l xs = absurd xs

  certain_level : (w : Wording) (e : Expr) (n : ℕ) → IsSpelled ns w e n → IsSpelled ns (alike (λ s. call s (word (codes "Certain")) (w ∷ []))) (V.Certain e) (1 + n)
  certain_level w e n x = alike_spelled ns (λ s. call s (word (codes "Certain")) (w ∷ [])) (V.Certain e) (1 + n) (λ s rest p.
      certain_called ns (lines_called ns function.Certain (word (codes "Certain")) refl w [] e [] n x tt (refl, refl) s rest))

  known_level : (w : Wording) (e : Expr) (n : ℕ) → IsSpelled ns w e n → IsSpelled ns (alike (λ s. call s (word (codes "CurrentlyKnown")) (w ∷ []))) (V.Known e) (1 + n)
  known_level w e n x = alike_spelled ns (λ s. call s (word (codes "CurrentlyKnown")) (w ∷ [])) (V.Known e) (1 + n) (λ s rest p.
      known_called ns (lines_called ns function.Known (word (codes "CurrentlyKnown")) refl w [] e [] n x tt (refl, refl) s rest))

  not_level : (w : Wording) (e : Expr) (n : ℕ) → IsSpelled ns w e n → IsSpelled ns (alike (λ s. token s (word (codes "not")) ∷ w.as_factor true)) (V.Not e) (1 + n)
  not_level w e n x = alike_spelled ns (λ s. token s (word (codes "not")) ∷ w.as_factor true) (V.Not e) (1 + n) (λ s rest p. denied ns s (x.factor true rest p))

  -- ---- all trees

  above_one : (k n d : ℕ) → d ≡ 1 + n → k ≤ 2 * n → 2 + k ≤ 2 * d
  above_one k n d e h = omega (arith, e, h)

  above_none : (k n d : ℕ) → d ≡ 1 + n → k ≤ 2 * n → 1 + k ≤ 2 * d
  above_none k n d e h = omega (arith, e, h)

  same_bound : (n : ℕ) → n ≤ n
  same_bound n = omega arith

  first_bound : (a b n : ℕ) → 2 * max a b ≤ n → 2 * a ≤ n
  first_bound a b n h = omega (arith, h)

  later_bound : (a b n : ℕ) → 2 * max a b ≤ n → 2 * b ≤ n
  later_bound a b n h = omega (arith, h)

  round_bound : (a d : ℕ) (c : ℕ) → d ≡ 1 + max a (max c 0) → 1 + 2 * a ≤ 2 * d
  round_bound a d c e = omega (arith, e)

  mutual
    pub tree_told : {e : Expr} → IsGrammatical m e → IsTold e
    tree_told (tree.IsGrammatical.literal v i c) = as_written (V.Const v) _ 0 (wording-Const m v) (omega arith) (literal_spelled ns v i c)
    tree_told (tree.IsGrammatical.attribute a has) = as_written (V.Attr a) _ 0 (wording-Attr m a) (omega arith) (alike_spelled ns (λ s. phrase s (phrase_of_attribute (attribute_at m a))) (V.Attr a) 0 (λ s rest p. names.attributes a has s rest p))
    tree_told (tree.IsGrammatical.all es l hs) =
        let n : ℕ = 2 * highest (map depth es) in
        as_written (V.All es) _ (2 + n) (wording-All m es) (above_one n (highest (map depth es)) (depth (V.All es)) (depth-All es) (same_bound n)) (all_spelled ns (map (wording m) es) es n (trees_told hs n (same_bound n)) l)
    tree_told (tree.IsGrammatical.any es l hs) =
        let n : ℕ = 2 * highest (map depth es) in
        as_written (V.Any es) _ (2 + n) (wording-Any m es) (above_one n (highest (map depth es)) (depth (V.Any es)) (depth-Any es) (same_bound n)) (any_spelled ns (map (wording m) es) es n (trees_told hs n (same_bound n)) l)
    tree_told (tree.IsGrammatical.not e h) =
        let n : ℕ = 2 * depth e in
        as_written (V.Not e) _ (1 + n) (wording-Not m e) (above_none n (depth e) (depth (V.Not e)) (depth-Not e) (same_bound n)) (not_level (wording m e) e n (tree_told h))
    tree_told (tree.IsGrammatical.operation k es r l hs) =
        let n : ℕ = 2 * highest (map depth es) in
        as_written (V.Op k es) _ (2 + n) (wording-Op m k es) (above_one n (highest (map depth es)) (depth (V.Op k es)) (depth-Op k es) (same_bound n)) (operation_level k r (map (wording m) es) es n l (trees_told hs n (same_bound n)))
    tree_told (tree.IsGrammatical.round e z range h) =
        let n : ℕ = 2 * depth e in
        as_written (V.Op op.Round (e ∷ V.Const (value.Num (pos z)) ∷ [])) _ (1 + n)
        (wording-Op m op.Round (e ∷ V.Const (value.Num (pos z)) ∷ []) ∙ ap (λ v. operation op.Round (wording m e ∷ v ∷ [])) (wording-Const m (value.Num (pos z))))
        (round_bound (depth e) (depth (V.Op op.Round (e ∷ V.Const (value.Num (pos z)) ∷ []))) (depth (V.Const (value.Num (pos z)))) (depth-Op op.Round (e ∷ V.Const (value.Num (pos z)) ∷ [])))
        (round_level z range (wording m e) e n (tree_told h))
    tree_told (tree.IsGrammatical.certain e h) =
        let n : ℕ = 2 * depth e in
        as_written (V.Certain e) _ (1 + n) (wording-Certain m e) (above_none n (depth e) (depth (V.Certain e)) (depth-Certain e) (same_bound n)) (certain_level (wording m e) e n (tree_told h))
    tree_told (tree.IsGrammatical.known e h) =
        let n : ℕ = 2 * depth e in
        as_written (V.Known e) _ (1 + n) (wording-Known m e) (above_none n (depth e) (depth (V.Known e)) (depth-Known e) (same_bound n)) (known_level (wording m e) e n (tree_told h))
    tree_told (tree.IsGrammatical.over q r es has l hs) =
        let n : ℕ = 2 * highest (map depth es) in
        as_written (V.Over q r es) _ (1 + n) (wording-Over m q r es) (above_none n (highest (map depth es)) (depth (V.Over q r es)) (depth-Over q r es) (same_bound n)) (over_level q r has (map (wording m) es) es n l (trees_told hs n (same_bound n)))
    tree_told (tree.IsGrammatical.window k es l hs) =
        let n : ℕ = 2 * highest (map depth es) in
        as_written (V.Window k es) _ (1 + n) (wording-Window m k es) (above_none n (highest (map depth es)) (depth (V.Window k es)) (depth-Window k es) (same_bound n)) (window_level k (map (wording m) es) es n l (trees_told hs n (same_bound n)))
    tree_told (tree.IsGrammatical.rolling always k e few h) =
        let n : ℕ = 2 * depth e in
        as_written (V.Rolling always k e) _ (1 + n) (wording-Rolling m always k e) (above_none n (depth e) (depth (V.Rolling always k e)) (depth-Rolling always k e) (same_bound n)) (rolling_level always k few (wording m e) e n (tree_told h))

    pub trees_told : {es : List Expr} → AreGrammatical m es → (n : ℕ) → 2 * highest (map depth es) ≤ n → AreSpelled ns (map (wording m) es) es n
    trees_told tree.AreGrammatical.none n h = tt
    trees_told (tree.AreGrammatical.one_more e es x xs) n h =
        (weaker_spelled (wording m e) e (2 * depth e) n (first_bound (depth e) (highest (map depth es)) n h) (tree_told x), trees_told xs n (later_bound (depth e) (highest (map depth es)) n h))

pub lines_spell_trees_holds : LinesSpellTrees
lines_spell_trees_holds m ns names e h =
    let x = tree_told m ns names h in
    subst (λ ts. SpellsTree ns LINE ts e [] (2 * depth e)) (nothing (all_told ((wording m e).as_line false))) (x.line false [] refl)
  where
    nothing : (ts : List Lexeme) → ts ++ [] ≡ ts
    nothing [] = refl
    nothing (t ∷ ts) = ap (λ us. t ∷ us) (nothing ts)

pub factors_spell_trees_holds : FactorsSpellTrees
factors_spell_trees_holds m ns names e h s rest p = (tree_told m ns names h).factor s rest p
