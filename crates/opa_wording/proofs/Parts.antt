-- Parts of a line that are spelled as trees, and what is made of them.
use Rattle.std.proofs.Common.{◌≡◌, ◌≤◌, ℕ, ◌+◌, List, [], ◌∷◌, ◌++◌, length, Bool, true, false, Some, refl, sym, ap, ap₂, subst, ◌∙◌, arith, append_assoc, option_map}
use Rattle.std.specs.Prelude.{codes}
use Rattle.opa_tree.specs.declared.kinds.OpKind.{OpKind}
use Rattle.opa_tree.specs.declared.kinds.OpKind.TheVariants as op
use Rattle.opa_tree.specs.declared.expr.Expr.{Expr}
use Rattle.opa_tree.specs.declared.expr.Expr.TheVariants as V
use Rattle.opa_words.specs.Pieces.{symbol, word}
use Rattle.opa_words.specs.Written.{Written, joined}
use Rattle.opa_sentence.specs.declared.names.Names.{Names}
use Rattle.opa_sentence.specs.declared.reading.Reading.{Reading}
use Rattle.opa_sentence.specs.declared.reading.Parts.{Parts}
use Rattle.opa_sentence.specs.Lexemes.{Lexeme}
use Rattle.opa_sentence.specs.Measures.{unbounded}
use Rattle.opa_sentence.specs.Readings as says
use Rattle.opa_sentence.specs.Grammar.{Part, LINE, OPERAND, TERM, FACTOR, Begins, joint, Spells, SpellsMore}
use Rattle.opa_sentence.specs.Grammar as g
use Rattle.opa_wording.specs.declared.joint.Joint.{Joint}
use Rattle.opa_wording.specs.declared.joint.Joint.TheVariants as between
use Rattle.opa_wording.specs.Signs.{is_infix}
use Rattle.opa_wording.specs.Wordings.{Wording, token, bracketed, separator, placed, part, together, alike, apart, in_brackets}
use Rattle.opa_wording.specs.Told.{told, all_told, ends, SpellsTree}

-- ---- lists of tokens

pub told_append : (ws vs : List Written) (rest : List Lexeme) → all_told (ws ++ vs) ++ rest ≡ all_told ws ++ (all_told vs ++ rest)
told_append [] vs rest = refl
told_append (w ∷ ws) vs rest = ap (λ ts. told w ∷ ts) (told_append ws vs rest)

abbrev pub opening : Bool → Lexeme
opening s = told (token s (symbol (codes "(")))

abbrev pub closing : Lexeme
closing = told (joined (symbol (codes ")")))

pub told_brackets : (s : Bool) (ws : List Written) (rest : List Lexeme) → all_told (bracketed s ws) ++ rest ≡ opening s ∷ (all_told ws ++ (closing ∷ rest))
told_brackets s ws rest = ap (λ ts. opening s ∷ ts) (told_append ws (joined (symbol (codes ")")) ∷ []) rest)

module _ (ns : Names) where
  abbrev pub Says : Part → List Lexeme → Expr → List Lexeme → ℕ → Type 0
  Says = SpellsTree ns

  pub weaker : {p : Part} {ts : List Lexeme} {e : Expr} {rest : List Lexeme} (m n : ℕ) → m ≤ n → Says p ts e rest m → Says p ts e rest n
  weaker m n h d = record { reading = d.reading; spelled = d.spelled; tree_is = d.tree_is; nested = omega (arith, d.nested, h) }

  pub as_line : {ts : List Lexeme} {e : Expr} {rest : List Lexeme} {n : ℕ} → Says FACTOR ts e rest n → Says LINE ts e rest n
  as_line d = record { reading = d.reading; spelled = g.Spells.one (g.Spells.term (g.Spells.factor d.spelled)); tree_is = d.tree_is; nested = d.nested }

  -- a line in brackets
  pub in_one : {ts : List Lexeme} {e : Expr} {rest : List Lexeme} {n : ℕ} (s : Bool) → Says LINE ts e (closing ∷ rest) n → Says FACTOR (opening s ∷ ts) e rest (1 + n)
  in_one s d = record { reading = says.nested unbounded d.reading; spelled = g.Spells.brackets refl d.spelled refl; tree_is = d.tree_is; nested = omega (arith, d.nested) }

  pub denied : {ts : List Lexeme} {e : Expr} {rest : List Lexeme} {n : ℕ} (s : Bool) → Says FACTOR ts e rest n → Says FACTOR (told (token s (word (codes "not"))) ∷ ts) (V.Not e) rest (1 + n)
  denied s d = record { reading = says.nested unbounded (says.denial unbounded d.reading); spelled = g.Spells.deny refl d.spelled; tree_is = ap (option_map (λ e. V.Not e)) d.tree_is; nested = omega (arith, d.nested) }

  pub negated : {ts : List Lexeme} {e : Expr} {rest : List Lexeme} {n : ℕ} (s : Bool) → Says LINE ts e (closing ∷ rest) n → Says FACTOR (told (token s (symbol (codes "-"))) ∷ opening false ∷ ts) (V.Op op.Neg (e ∷ [])) rest (2 + n)
  negated s d = record {
    reading = says.nested unbounded (says.operation unbounded op.Neg (says.one_part unbounded (says.nested unbounded d.reading)));
    spelled = g.Spells.negate refl (λ h. cc h) (g.Spells.brackets refl d.spelled refl);
    tree_is = ap (λ t. option_map (λ es. V.Op op.Neg es) (says.with_tree (Some []) t)) d.tree_is;
    nested = omega (arith, d.nested);
  }

  -- ---- an operation between two operands

  two_trees : (k : OpKind) (q r : Reading) (a b : Expr) → q.tree ≡ Some a → r.tree ≡ Some b → (says.between unbounded k q r).tree ≡ Some (V.Op k (a ∷ b ∷ []))
  two_trees k q r a b h i = ap₂ (λ s t. option_map (λ es. V.Op k es) (says.with_tree (says.with_tree (Some []) s) t)) h i

  abbrev sign : OpKind → Lexeme
  sign k = told (separator (between.Sign k))

  spelled_infix : (k : OpKind) → is_infix k ≡ true → {ts mid rest : List Lexeme} {x y : Reading} → Spells unbounded ns FACTOR ts x (sign k ∷ mid) → Spells unbounded ns FACTOR mid y rest → Spells unbounded ns LINE ts (says.between unbounded k x y) rest
  spelled_infix op.Add h a b = g.Spells.one (g.Spells.plus refl (g.Spells.term (g.Spells.factor a)) (g.Spells.factor b))
  spelled_infix op.Sub h a b = g.Spells.one (g.Spells.less refl (g.Spells.term (g.Spells.factor a)) (g.Spells.factor b))
  spelled_infix op.Mul h a b = g.Spells.one (g.Spells.term (g.Spells.times refl (g.Spells.factor a) b))
  spelled_infix op.Div h a b = g.Spells.one (g.Spells.term (g.Spells.over refl (g.Spells.factor a) b))
  spelled_infix op.Eq h a b = g.Spells.compared op.Eq refl (g.Spells.term (g.Spells.factor a)) (g.Spells.term (g.Spells.factor b))
  spelled_infix op.Ne h a b = g.Spells.compared op.Ne refl (g.Spells.term (g.Spells.factor a)) (g.Spells.term (g.Spells.factor b))
  spelled_infix op.Lt h a b = g.Spells.compared op.Lt refl (g.Spells.term (g.Spells.factor a)) (g.Spells.term (g.Spells.factor b))
  spelled_infix op.Le h a b = g.Spells.compared op.Le refl (g.Spells.term (g.Spells.factor a)) (g.Spells.term (g.Spells.factor b))
  spelled_infix op.Gt h a b = g.Spells.compared op.Gt refl (g.Spells.term (g.Spells.factor a)) (g.Spells.term (g.Spells.factor b))
  spelled_infix op.Ge h a b = g.Spells.compared op.Ge refl (g.Spells.term (g.Spells.factor a)) (g.Spells.term (g.Spells.factor b))
  spelled_infix k h a b = absurd (cc h)

  pub two_operands : (k : OpKind) → is_infix k ≡ true → {ts mid rest : List Lexeme} {a b : Expr} {n : ℕ} → Says FACTOR ts a (sign k ∷ mid) n → Says FACTOR mid b rest n → Says LINE ts (V.Op k (a ∷ b ∷ [])) rest n
  two_operands k h {a = a} {b = b} d f = record {
    reading = says.between unbounded k d.reading f.reading;
    spelled = spelled_infix k h d.spelled f.spelled;
    tree_is = two_trees k d.reading f.reading a b d.tree_is f.tree_is;
    nested = omega (arith, d.nested, f.nested);
  }

  -- ---- lines that are joined by a word

  -- These parts are trees, in their order.
  pub record AreParts (p : Parts) (es : List Expr) (n : ℕ) : Type 0 where
    pub trees_are : p.trees ≡ Some es
    pub nested : p.measure.nesting ≤ n

  pub no_parts : (n : ℕ) → AreParts (says.no_parts unbounded) [] n
  no_parts n = record { trees_are = refl; nested = omega arith }

  pub one_more_part : (p : Parts) (es : List Expr) (x : Reading) (e : Expr) (n : ℕ) → AreParts p es n → x.tree ≡ Some e → x.measure.nesting ≤ n → AreParts (says.with_part unbounded p x) (es ++ e ∷ []) n
  one_more_part p es x e n h t m = record { trees_are = ap₂ (λ s t. says.with_tree s t) h.trees_are t; nested = omega (arith, h.nested, m) }

  -- they are all of them, between brackets
  pub record SaysMore (j : Bool) (ts : List Lexeme) (p : Parts) (es : List Expr) (rest : List Lexeme) (n : ℕ) : Type 0 where
    pub parts : Parts
    pub spelled : SpellsMore unbounded ns j ts p parts rest
    pub are : AreParts parts es n

  -- ---- parts that are written, and spelled wherever they end

  -- A wording is spelled as this tree, wherever it ends, as a factor and as a line.
  pub record IsSpelled (w : Wording) (e : Expr) (n : ℕ) : Type 0 where
    pub factor : (s : Bool) (rest : List Lexeme) → ends rest ≡ true → Says FACTOR (all_told (w.as_factor s) ++ rest) e rest n
    pub line : (s : Bool) (rest : List Lexeme) → ends rest ≡ true → Says LINE (all_told (w.as_line s) ++ rest) e rest n

  pub alike_spelled : (f : Bool → List Written) (e : Expr) (n : ℕ) → ((s : Bool) (rest : List Lexeme) → ends rest ≡ true → Says FACTOR (all_told (f s) ++ rest) e rest n) → IsSpelled (alike f) e n
  alike_spelled f e n h = record { factor = h; line = λ s rest p. as_line (h s rest p) }

  pub in_written_brackets : (s : Bool) (ws : List Written) (rest : List Lexeme) {e : Expr} {n : ℕ} → Says LINE (all_told ws ++ (closing ∷ rest)) e (closing ∷ rest) n → Says FACTOR (all_told (bracketed s ws) ++ rest) e rest (1 + n)
  in_written_brackets s ws rest {e = e} {n = n} d = subst (λ ts. Says FACTOR ts e rest (1 + n)) (sym (told_brackets s ws rest)) (in_one s d)

  pub apart_spelled : (f : Bool → List Written) (e : Expr) (n : ℕ) → ((s : Bool) (rest : List Lexeme) → ends rest ≡ true → Says LINE (all_told (f s) ++ rest) e rest n) → IsSpelled (apart f) e (1 + n)
  apart_spelled f e n h = record {
    factor = λ s rest p. in_written_brackets s (f false) rest (h false (closing ∷ rest) refl);
    line = λ s rest p. weaker n (1 + n) (omega arith) (h s rest p);
  }

  -- each wording is spelled as the tree in its place
  abbrev pub AreSpelled : List Wording → List Expr → ℕ → Type 0
  AreSpelled [] [] n = Unit {0}
  AreSpelled [] (e ∷ es) n = ⊥
  AreSpelled (w ∷ ws) [] n = ⊥
  AreSpelled (w ∷ ws) (e ∷ es) n = IsSpelled w e n × AreSpelled ws es n

  sign_ends : (k : OpKind) (rest : List Lexeme) → is_infix k ≡ true → ends (sign k ∷ rest) ≡ true
  sign_ends op.Add rest h = refl
  sign_ends op.Sub rest h = refl
  sign_ends op.Mul rest h = refl
  sign_ends op.Div rest h = refl
  sign_ends op.Eq rest h = refl
  sign_ends op.Ne rest h = refl
  sign_ends op.Lt rest h = refl
  sign_ends op.Le rest h = refl
  sign_ends op.Gt rest h = refl
  sign_ends op.Ge rest h = refl
  sign_ends k rest h = absurd (cc h)

  -- operands with a sign between them
  pub infix_line : (k : OpKind) → is_infix k ≡ true → (v w : Wording) (a b : Expr) (n : ℕ) → IsSpelled v a n → IsSpelled w b n → (s : Bool) (rest : List Lexeme) → ends rest ≡ true
      → Says LINE (all_told (together (between.Sign k) s true (v ∷ w ∷ [])) ++ rest) (V.Op k (a ∷ b ∷ [])) rest n
  infix_line k h v w a b n x y s rest p =
      subst (λ ts. Says LINE ts (V.Op k (a ∷ b ∷ [])) rest n)
      (sym (told_append (v.as_factor s) (part (between.Sign k) s false w ++ []) rest ∙ ap (λ ts. all_told (v.as_factor s) ++ (sign k ∷ ts)) (told_append (w.as_factor true) [] rest)))
      (two_operands k h (x.factor s (sign k ∷ (all_told (w.as_factor true) ++ rest)) (sign_ends k (all_told (w.as_factor true) ++ rest) h)) (y.factor true rest p))

  -- lines in brackets, with a word before each
  abbrev pub word_joint : Bool → Joint
  word_joint true = between.And
  word_joint false = between.Or

  placed_line : (j s : Bool) (w : Wording) (e : Expr) (n : ℕ) → IsSpelled w e n → (rest : List Lexeme) → Says LINE (all_told (placed (word_joint j) s w) ++ rest) e rest (1 + n)
  placed_line true s w e n x rest = as_line (in_written_brackets s (w.as_line false) rest (x.line false (closing ∷ rest) refl))
  placed_line false s w e n x rest = as_line (in_written_brackets s (w.as_line false) rest (x.line false (closing ∷ rest) refl))

  word_class : (j : Bool) → (told (separator (word_joint j))).class ≡ joint j
  word_class true = refl
  word_class false = refl

  more_words : (j : Bool) (w : Wording) (ws : List Wording) (e : Expr) (es : List Expr) (n : ℕ) → IsSpelled w e n → AreSpelled ws es n → (p : Parts) (before : List Expr) → AreParts p before (1 + n) → (s : Bool) (rest : List Lexeme)
      → SaysMore j (all_told (together (word_joint j) s false (w ∷ ws)) ++ (closing ∷ rest)) p (before ++ (e ∷ es)) (closing ∷ rest) (1 + n)
  more_words j w [] e [] n x xs p before h s rest =
      let d = placed_line j true w e n x (closing ∷ rest) in record {
        parts = says.with_part unbounded p d.reading;
        spelled = subst (λ ts. SpellsMore unbounded ns j (told (separator (word_joint j)) ∷ ts) p (says.with_part unbounded p d.reading) (closing ∷ rest)) (sym (told_append (placed (word_joint j) true w) [] (closing ∷ rest))) (g.SpellsMore.last (word_class j) d.spelled);
        are = one_more_part p before d.reading e (1 + n) h d.tree_is d.nested;
      }
  more_words j w [] e (f ∷ es) n x xs p before h s rest = absurd xs
  more_words j w (v ∷ ws) e [] n x xs p before h s rest = absurd xs
  more_words j w (v ∷ ws) e (f ∷ es) n x xs p before h s rest =
      let later : List Lexeme = all_told (together (word_joint j) s false (v ∷ ws)) ++ (closing ∷ rest) in
      let d = placed_line j true w e n x later in
      let more = more_words j v ws f es n xs.0 xs.1 (says.with_part unbounded p d.reading) (before ++ e ∷ []) (one_more_part p before d.reading e (1 + n) h d.tree_is d.nested) s rest in record {
        parts = more.parts;
        spelled = subst (λ ts. SpellsMore unbounded ns j (told (separator (word_joint j)) ∷ ts) p more.parts (closing ∷ rest)) (sym (told_append (placed (word_joint j) true w) (together (word_joint j) s false (v ∷ ws)) (closing ∷ rest))) (g.SpellsMore.more (word_class j) d.spelled more.spelled);
        are = subst (λ fs. AreParts more.parts fs (1 + n)) (append_assoc before (e ∷ []) (f ∷ es)) more.are;
      }

  joined_all : (ws : List Wording) (es : List Expr) (n : ℕ) → AreSpelled ws es n → 2 ≤ length es → (s : Bool) (rest : List Lexeme) → Says FACTOR (all_told (in_brackets between.And s ws) ++ rest) (V.All es) rest (2 + n)
  joined_all [] [] n xs h s rest = absurd (omega (arith, h))
  joined_all [] (e ∷ es) n xs h s rest = absurd xs
  joined_all (w ∷ ws) [] n xs h s rest = absurd xs
  joined_all (w ∷ []) (e ∷ []) n xs h s rest = absurd (omega (arith, h))
  joined_all (w ∷ []) (e ∷ f ∷ es) n xs h s rest = absurd xs.1
  joined_all (w ∷ v ∷ ws) (e ∷ []) n xs h s rest = absurd xs.1
  joined_all (w ∷ v ∷ ws) (e ∷ f ∷ es) n xs h s rest =
      let later : List Lexeme = all_told (together between.And false false (v ∷ ws)) ++ (closing ∷ rest) in
      let d = placed_line true false w e n xs.0 later in
      let more = more_words true v ws f es n xs.1.0 xs.1.1 (says.one_part unbounded d.reading) (e ∷ []) (one_more_part (says.no_parts unbounded) [] d.reading e (1 + n) (no_parts (1 + n)) d.tree_is d.nested) false rest in
      subst (λ ts. Says FACTOR ts (V.All (e ∷ f ∷ es)) rest (2 + n))
      (sym (told_brackets s (together between.And false true (w ∷ v ∷ ws)) rest ∙ ap (λ ts. opening s ∷ ts) (told_append (placed between.And false w) (together between.And false false (v ∷ ws)) (closing ∷ rest))))
      (record {
        reading = says.nested unbounded (says.all unbounded more.parts);
        spelled = g.Spells.all refl d.spelled more.spelled refl;
        tree_is = ap (option_map (λ fs. V.All fs)) more.are.trees_are;
        nested = omega (arith, more.are.nested);
      })

  joined_any : (ws : List Wording) (es : List Expr) (n : ℕ) → AreSpelled ws es n → 2 ≤ length es → (s : Bool) (rest : List Lexeme) → Says FACTOR (all_told (in_brackets between.Or s ws) ++ rest) (V.Any es) rest (2 + n)
  joined_any [] [] n xs h s rest = absurd (omega (arith, h))
  joined_any [] (e ∷ es) n xs h s rest = absurd xs
  joined_any (w ∷ ws) [] n xs h s rest = absurd xs
  joined_any (w ∷ []) (e ∷ []) n xs h s rest = absurd (omega (arith, h))
  joined_any (w ∷ []) (e ∷ f ∷ es) n xs h s rest = absurd xs.1
  joined_any (w ∷ v ∷ ws) (e ∷ []) n xs h s rest = absurd xs.1
  joined_any (w ∷ v ∷ ws) (e ∷ f ∷ es) n xs h s rest =
      let later : List Lexeme = all_told (together between.Or false false (v ∷ ws)) ++ (closing ∷ rest) in
      let d = placed_line false false w e n xs.0 later in
      let more = more_words false v ws f es n xs.1.0 xs.1.1 (says.one_part unbounded d.reading) (e ∷ []) (one_more_part (says.no_parts unbounded) [] d.reading e (1 + n) (no_parts (1 + n)) d.tree_is d.nested) false rest in
      subst (λ ts. Says FACTOR ts (V.Any (e ∷ f ∷ es)) rest (2 + n))
      (sym (told_brackets s (together between.Or false true (w ∷ v ∷ ws)) rest ∙ ap (λ ts. opening s ∷ ts) (told_append (placed between.Or false w) (together between.Or false false (v ∷ ws)) (closing ∷ rest))))
      (record {
        reading = says.nested unbounded (says.any unbounded more.parts);
        spelled = g.Spells.any refl d.spelled more.spelled refl;
        tree_is = ap (option_map (λ fs. V.Any fs)) more.are.trees_are;
        nested = omega (arith, more.are.nested);
      })

  pub all_spelled : (ws : List Wording) (es : List Expr) (n : ℕ) → AreSpelled ws es n → 2 ≤ length es → IsSpelled (alike (λ s. in_brackets between.And s ws)) (V.All es) (2 + n)
  all_spelled ws es n xs h = alike_spelled (λ s. in_brackets between.And s ws) (V.All es) (2 + n) (λ s rest p. joined_all ws es n xs h s rest)

  pub any_spelled : (ws : List Wording) (es : List Expr) (n : ℕ) → AreSpelled ws es n → 2 ≤ length es → IsSpelled (alike (λ s. in_brackets between.Or s ws)) (V.Any es) (2 + n)
  any_spelled ws es n xs h = alike_spelled (λ s. in_brackets between.Or s ws) (V.Any es) (2 + n) (λ s rest p. joined_any ws es n xs h s rest)
