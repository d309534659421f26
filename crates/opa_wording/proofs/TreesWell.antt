-- The line of a tree is cut into the tokens that it is written as.
use Rattle.std.proofs.Common.{◌≡◌, ◌≤◌, ℕ, suc, pos, negsuc, List, [], ◌∷◌, ◌++◌, length, map, Bool, true, false, cond, refl, sym, ap, subst, ◌∙◌, append_assoc, append-nil, decimal, lt-ltb}
use Rattle.std.specs.Prelude.{codes, ◌==◌, if◌then◌else◌}
use Rattle.opa_io.proofs.Lists.{length_map}
use Rattle.opa_value.specs.declared.value.Value.{Value}
use Rattle.opa_value.specs.declared.value.Value.TheVariants as value
use Rattle.opa_value.specs.NumberText.{plain_text}
use Rattle.opa_date.specs.declared.TheConstants.{DAYS}
use Rattle.opa_date.specs.Texts.{day_text}
use Rattle.opa_model.specs.declared.lists.Lists.{Lists}
use Rattle.opa_model.specs.Lookups.{attribute_at, relation_at}
use Rattle.opa_model.specs.declared.things.Kind.TheVariants as kinds
use Rattle.opa_words.specs.Pieces.{Piece, IsPiece, word, number, date}
use Rattle.opa_words.specs.Written.{Written, AreWritten, joined, ends_before}
use Rattle.opa_words.proofs.LawsHold.{written_is_cut_holds}
use Rattle.opa_text.specs.Laws.{CanBeWritten}
use Rattle.opa_text.proofs.WrittenValues.{Apart, apart_ends, value_written, named_piece, comma_apart}
use Rattle.opa_tree.specs.declared.kinds.OpKind.{OpKind}
use Rattle.opa_tree.specs.declared.kinds.OpKind.TheVariants as op
use Rattle.opa_tree.specs.declared.expr.Expr.{Expr}
use Rattle.opa_tree.specs.declared.expr.Expr.TheVariants as V
use Rattle.opa_tree.specs.Trees.{op_arity}
use Rattle.opa_wording.specs.declared.joint.Joint.TheVariants as between
use Rattle.opa_wording.specs.Signs.{is_infix, op_piece, quant_text, window_text, rolling_text}
use Rattle.opa_wording.specs.Wordings.{Wording, token, bracketed, together, alike, apart, in_brackets, call, denial, operation, literal, phrase, phrase_word, words_from, phrase_of_attribute, phrase_of_relation, listed, over_days, wording}
use Rattle.opa_wording.specs.Grammatical.{IsGrammatical, AreGrammatical}
use Rattle.opa_wording.specs.Grammatical as tree
use Rattle.opa_wording.specs.Told.{PhrasesAreWritten}
use Rattle.opa_wording.specs.Laws.{LinesAreCut}
use Rattle.opa_wording.proofs.Numbers.{number_piece, whole_piece}
use Rattle.opa_wording.proofs.WordingLaws.{wording-Const, wording-Attr, wording-All, wording-Any, wording-Not, wording-Op, wording-Certain, wording-Known, wording-Over, wording-Window, wording-Rolling}
use Rattle.opa_wording.proofs.TreesWritten.{Well, IsWell, AreWell, alike_well, apart_well, brackets_well, named_well, together_well, together_leads, more_well, sign_piece, not_word, certain_word, known_word, quant_word, quant_ascii, window_word, window_ascii, rolling_word, rolling_ascii, call_piece, alone_ends}

-- ---- phrases

-- what is written stays so before what is apart from it
pub before_well : (ws : List Written) → AreWritten ws → Well ws
before_well [] h rest a r = r
before_well (w ∷ []) h rest a r = (h.0, apart_ends w.piece rest a, r)
before_well (w ∷ v ∷ ws) h rest a r = (h.0, h.1, before_well (v ∷ ws) h.2 rest a r)

-- a blank before the first matters to nothing
words_moved : (s : Bool) (w cs : List ℕ) → AreWritten (words_from false w cs) → AreWritten (words_from s w cs)
words_moved s w [] h = (h.0, h.1, h.2)
words_moved s w (c ∷ cs) h = go (c == 32) h (words_moved s (w ++ c ∷ []) cs)
  where
    go : (b : Bool) → AreWritten (cond b (token false (phrase_word w) ∷ words_from true [] cs) (words_from false (w ++ c ∷ []) cs)) → (AreWritten (words_from false (w ++ c ∷ []) cs) → AreWritten (words_from s (w ++ c ∷ []) cs))
        → AreWritten (cond b (token s (phrase_word w) ∷ words_from true [] cs) (words_from s (w ++ c ∷ []) cs))
    go true h f = (h.0, h.1, h.2)
    go false h f = f h

words_lead : (w cs : List ℕ) (p : Piece) (rest : List Written) → ends_before p (words_from true w cs ++ rest) ≡ true
words_lead w [] p rest = refl
words_lead w (c ∷ cs) p rest = go (c == 32) (words_lead (w ++ c ∷ []) cs p rest)
  where
    go : (b : Bool) → ends_before p (words_from true (w ++ c ∷ []) cs ++ rest) ≡ true → ends_before p (cond b (token true (phrase_word w) ∷ words_from true [] cs) (words_from true (w ++ c ∷ []) cs) ++ rest) ≡ true
    go true h = refl
    go false h = h

pub phrase_well : (t : List ℕ) → AreWritten (phrase false t) → (s : Bool) → Well (phrase s t)
phrase_well t h s = before_well (phrase s t) (words_moved s [] t h)

-- ---- literals

digits_well : (s : Bool) (n : ℕ) → CanBeWritten kinds.Number (value.Num (pos n)) → Well (token s (number (plain_text (pos n))) ∷ [])
digits_well s n c rest a r = (number_piece n c.0, apart_ends (number (plain_text (pos n))) rest a, r)

pub literal_well : (v : Value) → CanBeWritten kinds.Number v → (s : Bool) → Well (literal s v)
literal_well value.Unknown c s rest a r = value_written s kinds.Number value.Unknown rest c a r
literal_well value.Uncertain c s rest a r = value_written s kinds.Number value.Uncertain rest c a r
literal_well (value.Bool b) c s rest a r = value_written s kinds.Number (value.Bool b) rest c a r
literal_well (value.Num (pos n)) c s rest a r = digits_well s n c rest a r
literal_well (value.Num (negsuc n)) c s rest a r = (sign_piece (codes "-") refl refl, alone_ends 45 refl refl (joined (number (plain_text (pos (suc n)))) ∷ rest), digits_well false (suc n) c rest a r)
literal_well (value.Words t) c s rest a r = value_written s kinds.Number (value.Words t) rest c a r
literal_well (value.Day d) c s rest a r =
    subst (λ t. AreWritten (token s (date t) ∷ rest)) (sym (ap (λ b. cond b (day_text d) []) (lt-ltb d DAYS c))) (value_written s kinds.Number (value.Day d) rest c a r)

literal_leads : (v : Value) (p : Piece) (rest : List Written) → ends_before p (literal true v ++ rest) ≡ true
literal_leads value.Unknown p rest = refl
literal_leads value.Uncertain p rest = refl
literal_leads (value.Bool b) p rest = refl
literal_leads (value.Num (pos n)) p rest = refl
literal_leads (value.Num (negsuc n)) p rest = refl
literal_leads (value.Words t) p rest = refl
literal_leads (value.Day d) p rest = refl

-- ---- all trees

call_well : (p : Piece) → IsPiece p → (ws : List Wording) → AreWell ws → IsWell (alike (λ s. call s p ws))
call_well p is ws h = alike_well (λ s. call s p ws) (λ s. named_well s p (together between.Comma false true ws) is (together_well between.Comma tt false ws h)) (λ q rest. refl)

infix_well : (k : OpKind) → is_infix k ≡ true → (ws : List Wording) (n : ℕ) → length ws ≡ suc n → AreWell ws → IsWell (apart (λ s. together (between.Sign k) s true ws))
infix_well k i [] n l h = absurd (cc l)
infix_well k i (w ∷ ws) n l h = apart_well (λ s. together (between.Sign k) s true (w ∷ ws)) (λ s. together_well (between.Sign k) i s (w ∷ ws) h) (together_leads (between.Sign k) w ws h.0)

operation_well : (k : OpKind) (ws : List Wording) (n : ℕ) → length ws ≡ suc n → AreWell ws → IsWell (operation k ws)
operation_well k ws n l h = go (is_infix k) refl
  where
    go : (b : Bool) → is_infix k ≡ b → IsWell (operation k ws)
    go true i = subst (λ b. IsWell (if b then apart (λ s. together (between.Sign k) s true ws) else alike (λ s. call s (op_piece k) ws))) (sym i) (infix_well k i ws n l h)
    go false i = subst (λ b. IsWell (if b then apart (λ s. together (between.Sign k) s true ws) else alike (λ s. call s (op_piece k) ws))) (sym i) (call_well (op_piece k) (call_piece k i) ws h)

abbrev pub IsMore : ℕ → Type 0
IsMore c = (n : ℕ) × (c ≡ suc n)

pub some_operands : (k : OpKind) → IsMore (op_arity k)
some_operands op.Neg = (0, refl)
some_operands op.YearOf = (0, refl)
some_operands op.MonthOf = (0, refl)
some_operands op.DayOf = (0, refl)
some_operands op.Add = (1, refl)
some_operands op.Sub = (1, refl)
some_operands op.Mul = (1, refl)
some_operands op.Div = (1, refl)
some_operands op.Eq = (1, refl)
some_operands op.Ne = (1, refl)
some_operands op.Lt = (1, refl)
some_operands op.Le = (1, refl)
some_operands op.Gt = (1, refl)
some_operands op.Ge = (1, refl)
some_operands op.Round = (1, refl)
some_operands op.Min = (1, refl)
some_operands op.Max = (1, refl)
some_operands op.AddDays = (1, refl)
some_operands op.AddMonths = (1, refl)
some_operands op.AddYears = (1, refl)
some_operands op.DaysBetween = (1, refl)
some_operands op.YearsBetween = (1, refl)
some_operands op.Concatenate = (1, refl)

denial_well : (w : Wording) → IsWell w → (s : Bool) → Well (denial s w)
denial_well w h s rest a r = (named_piece (codes "not") refl not_word, h.factor_leads (word (codes "not")) rest, h.factor true rest a r)

days_well : (n : ℕ) → n ≤ 36600 → (w : Wording) → IsWell w → Well (over_days n w)
days_well n few w h rest a r =
    (whole_piece n few, apart_ends (number (decimal n)) (together between.Comma true false (w ∷ []) ++ rest) (comma_apart ((w.as_line true ++ []) ++ rest)), more_well between.Comma tt true (w ∷ []) (h, tt) rest a r)

module _ (m : Lists) (phrases : PhrasesAreWritten m) where
  abbrev TreeWell : Expr → Type 0
  TreeWell e = IsWell (wording m e)

  listed_well : (t : List ℕ) → AreWritten (phrase false t) → (ws : List Wording) → AreWell ws → Well (phrase false t ++ together between.Comma true false ws)
  listed_well t p ws h rest a r =
      subst AreWritten (sym (append_assoc (phrase false t) (together between.Comma true false ws) rest)) (phrase_well t p false (together between.Comma true false ws ++ rest) (later_apart ws) (more_well between.Comma tt true ws h rest a r))
    where
      later_apart : (ws : List Wording) → Apart (together between.Comma true false ws ++ rest)
      later_apart [] = a
      later_apart (w ∷ vs) = comma_apart ((w.as_line true ++ together between.Comma true false vs) ++ rest)

  mutual
    pub tree_well : {e : Expr} → IsGrammatical m e → TreeWell e
    tree_well (tree.IsGrammatical.literal v i c) = subst IsWell (sym (wording-Const m v)) (alike_well (λ s. literal s v) (literal_well v c) (literal_leads v))
    tree_well (tree.IsGrammatical.attribute a has) =
        let t : List ℕ = phrase_of_attribute (attribute_at m a) in
        subst IsWell (sym (wording-Attr m a)) (alike_well (λ s. phrase s t) (phrase_well t (phrases.attributes a has)) (words_lead [] t))
    tree_well (tree.IsGrammatical.all es l hs) =
        let ws : List Wording = map (wording m) es in
        subst IsWell (sym (wording-All m es)) (alike_well (λ s. in_brackets between.And s ws) (λ s. brackets_well s (together between.And false true ws) (together_well between.And tt false ws (trees_well hs))) (λ p rest. refl))
    tree_well (tree.IsGrammatical.any es l hs) =
        let ws : List Wording = map (wording m) es in
        subst IsWell (sym (wording-Any m es)) (alike_well (λ s. in_brackets between.Or s ws) (λ s. brackets_well s (together between.Or false true ws) (together_well between.Or tt false ws (trees_well hs))) (λ p rest. refl))
    tree_well (tree.IsGrammatical.not e h) = subst IsWell (sym (wording-Not m e)) (alike_well (λ s. denial s (wording m e)) (denial_well (wording m e) (tree_well h)) (λ p rest. refl))
    tree_well (tree.IsGrammatical.operation k es r l hs) =
        let some = some_operands k in
        subst IsWell (sym (wording-Op m k es)) (operation_well k (map (wording m) es) some.0 (length_map (wording m) es ∙ l ∙ some.1) (trees_well hs))
    tree_well (tree.IsGrammatical.round e z range h) =
        subst IsWell (sym (wording-Op m op.Round (e ∷ V.Const (value.Num (pos z)) ∷ [])))
        (operation_well op.Round (map (wording m) (e ∷ V.Const (value.Num (pos z)) ∷ [])) 1 refl
        (tree_well h, (subst IsWell (sym (wording-Const m (value.Num (pos z)))) (alike_well (λ s. literal s (value.Num (pos z))) (literal_well (value.Num (pos z)) (range, tt)) (literal_leads (value.Num (pos z)))), tt)))
    tree_well (tree.IsGrammatical.certain e h) = subst IsWell (sym (wording-Certain m e)) (call_well (word (codes "Certain")) (named_piece (codes "Certain") refl certain_word) (wording m e ∷ []) (tree_well h, tt))
    tree_well (tree.IsGrammatical.known e h) = subst IsWell (sym (wording-Known m e)) (call_well (word (codes "CurrentlyKnown")) (named_piece (codes "CurrentlyKnown") refl known_word) (wording m e ∷ []) (tree_well h, tt))
    tree_well (tree.IsGrammatical.over q r es has l hs) =
        let ws : List Wording = map (wording m) es in
        subst IsWell (sym (wording-Over m q r es))
        (alike_well (λ s. token s (word (quant_text q)) ∷ bracketed false (listed m r ws))
        (λ s. named_well s (word (quant_text q)) (listed m r ws) (named_piece (quant_text q) (quant_ascii q) (quant_word q)) (listed_well (phrase_of_relation (relation_at m r)) (phrases.relations r has) ws (trees_well hs)))
        (λ p rest. refl))
    tree_well (tree.IsGrammatical.window k es l hs) = subst IsWell (sym (wording-Window m k es)) (call_well (word (window_text k)) (named_piece (window_text k) (window_ascii k) (window_word k)) (map (wording m) es) (trees_well hs))
    tree_well (tree.IsGrammatical.rolling always k e few h) =
        subst IsWell (sym (wording-Rolling m always k e))
        (alike_well (λ s. token s (word (rolling_text always)) ∷ bracketed false (over_days k (wording m e)))
        (λ s. named_well s (word (rolling_text always)) (over_days k (wording m e)) (named_piece (rolling_text always) (rolling_ascii always) (rolling_word always)) (days_well k few (wording m e) (tree_well h)))
        (λ p rest. refl))

    pub trees_well : {es : List Expr} → AreGrammatical m es → AreWell (map (wording m) es)
    trees_well tree.AreGrammatical.none = tt
    trees_well (tree.AreGrammatical.one_more e es x xs) = (tree_well x, trees_well xs)

pub lines_are_cut_holds : LinesAreCut
lines_are_cut_holds m phrases e h =
    written_is_cut_holds ((wording m e).as_line false) (subst AreWritten (append-nil ((wording m e).as_line false)) ((tree_well m phrases h).line false [] tt tt))
