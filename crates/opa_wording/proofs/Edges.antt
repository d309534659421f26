-- How the line of a tree begins and ends.
use Rattle.std.proofs.Common.{◌≡◌, ℕ, suc, pos, negsuc, List, [], ◌∷◌, ◌++◌, length, map, Bool, true, false, cond, refl, sym, ap, subst, ◌∙◌, append_assoc, append-nil}
use Rattle.std.specs.Prelude.{codes, not, ◌||◌, ◌==◌, if◌then◌else◌}
use Rattle.std.specs.List.{list_any, list_all}
use Rattle.std.specs.Str.{chars, bytes_eq}
use Rattle.std.proofs.lemmas.Slice.Eq.{bytes_eq-Decides}
use Rattle.opa_io.proofs.Lists.{length_map}
use Rattle.opa_value.specs.declared.value.Value.{Value}
use Rattle.opa_value.specs.declared.value.Value.TheVariants as value
use Rattle.opa_value.specs.NumberText.{plain_text}
use Rattle.opa_model.specs.declared.ids.AttrId.{AttrId}
use Rattle.opa_model.specs.declared.lists.Lists.{Lists}
use Rattle.opa_model.specs.declared.things.Kind.TheVariants as kinds
use Rattle.opa_model.specs.Lookups.{attribute_at}
use Rattle.opa_model.specs.Models.{HasAttribute}
use Rattle.opa_words.specs.declared.kinds.TokenKind.{TokenKind}
use Rattle.opa_words.specs.declared.kinds.TokenKind.TheVariants as kind
use Rattle.opa_words.specs.Kinds.{IsToken}
use Rattle.opa_words.specs.Reserved.{is_ending, is_word_kind}
use Rattle.opa_words.proofs.Letters.{starts, Starts, token_starts, none_of}
use Rattle.opa_words.specs.Pieces.{Piece, IsPiece, word, symbol, number, date, text}
use Rattle.opa_words.specs.Written.{Written, AreWritten, joined}
use Rattle.opa_words.proofs.Ascii.{ascii_chars}
use Rattle.opa_text.specs.Laws.{CanBeWritten}
use Rattle.opa_text.specs.Texts.{bool_text}
use Rattle.opa_tree.specs.declared.kinds.OpKind.{OpKind}
use Rattle.opa_tree.specs.declared.kinds.OpKind.TheVariants as op
use Rattle.opa_tree.specs.declared.expr.Expr.{Expr}
use Rattle.opa_tree.specs.declared.expr.Expr.TheVariants as V
use Rattle.opa_wording.specs.declared.joint.Joint.{Joint}
use Rattle.opa_wording.specs.declared.joint.Joint.TheVariants as between
use Rattle.opa_wording.specs.Signs.{is_infix, op_piece, quant_text, window_text, rolling_text}
use Rattle.opa_wording.specs.Wordings.{Wording, token, bracketed, together, placed, part, separator, alike, apart, call, denial, operation, literal, signed, phrase, phrase_word, words_from, phrase_of_attribute, listed, over_days, date_text, wording}
use Rattle.opa_wording.specs.Grammatical.{IsGrammatical, AreGrammatical}
use Rattle.opa_wording.specs.Grammatical as tree
use Rattle.opa_wording.proofs.TreesWell.{literal_well, some_operands}
use Rattle.opa_wording.proofs.WordingLaws.{wording-Const, wording-Attr, wording-All, wording-Any, wording-Not, wording-Op, wording-Certain, wording-Known, wording-Over, wording-Window, wording-Rolling}

-- ---- the first token

-- a blank before the whole is one before the first token
pub record Leads (f : Bool → List Written) : Type 0 where
  pub first : Piece
  pub later : List Written
  pub is : (s : Bool) → f s ≡ token s first ∷ later

words_lead : (w cs : List ℕ) → Leads (λ s. words_from s w cs)
words_lead w [] = record { first = phrase_word w; later = []; is = λ s. refl }
words_lead w (c ∷ cs) = go (c == 32) (words_lead (w ++ c ∷ []) cs)
  where
    go : (b : Bool) → Leads (λ s. words_from s (w ++ c ∷ []) cs) → Leads (λ s. cond b (token s (phrase_word w) ∷ words_from true [] cs) (words_from s (w ++ c ∷ []) cs))
    go true h = record { first = phrase_word w; later = words_from true [] cs; is = λ s. refl }
    go false h = h

signed_lead : (b : Bool) (digits : List ℕ) → Leads (λ s. signed s b digits)
signed_lead true digits = record { first = symbol (codes "-"); later = joined (number digits) ∷ []; is = λ s. refl }
signed_lead false digits = record { first = number digits; later = []; is = λ s. refl }

literal_lead : (v : Value) → Leads (λ s. literal s v)
literal_lead value.Unknown = record { first = word (codes "unknown"); later = []; is = λ s. refl }
literal_lead value.Uncertain = record { first = word (codes "uncertain"); later = []; is = λ s. refl }
literal_lead (value.Bool b) = record { first = word (bool_text b); later = []; is = λ s. refl }
literal_lead (value.Num (pos n)) = signed_lead false (plain_text (pos n))
literal_lead (value.Num (negsuc n)) = signed_lead true (plain_text (pos (suc n)))
literal_lead (value.Words t) = record { first = text t; later = []; is = λ s. refl }
literal_lead (value.Day d) = record { first = date (date_text d); later = []; is = λ s. refl }

token_lead : (p : Piece) (ws : List Written) → Leads (λ s. token s p ∷ ws)
token_lead p ws = record { first = p; later = ws; is = λ s. refl }

-- ---- the last token

-- the last token is no word with which no phrase ends
pub record EndsPlainly (ws : List Written) : Type 0 where
  pub before : List Written
  pub last : Written
  pub is : ws ≡ before ++ last ∷ []
  pub plain : is_ending last.piece.text ≡ false

pub plainly_after : (ws vs : List Written) → EndsPlainly vs → EndsPlainly (ws ++ vs)
plainly_after ws vs h = record { before = ws ++ h.before; last = h.last; is = ap (λ us. ws ++ us) h.is ∙ sym (append_assoc ws h.before (h.last ∷ [])); plain = h.plain }

-- a word that is an ending begins with one of three letters
abbrev BeginsEnding : List ℕ → Type 0
BeginsEnding t = (c : ℕ) × (cs : List ℕ) × (chars t ≡ c ∷ cs) × (list_any (λ d. c == d) (codes "aoi") ≡ true)

ending_letter : (t : List ℕ) → is_ending t ≡ true → BeginsEnding t
ending_letter t h = go (bytes_eq t (codes "and")) (bytes_eq t (codes "or")) (bytes_eq t (codes "if")) (bytes_eq t (codes "otherwise")) refl refl refl refl h
  where
    go : (a b c d : Bool) → bytes_eq t (codes "and") ≡ a → bytes_eq t (codes "or") ≡ b → bytes_eq t (codes "if") ≡ c → bytes_eq t (codes "otherwise") ≡ d → (a || (b || (c || (d || false)))) ≡ true → BeginsEnding t
    go true b c d p q r s h = (97, codes "nd", ap chars ((bytes_eq-Decides t (codes "and")).0 p) ∙ ascii_chars (codes "and") refl, refl)
    go false true c d p q r s h = (111, codes "r", ap chars ((bytes_eq-Decides t (codes "or")).0 q) ∙ ascii_chars (codes "or") refl, refl)
    go false false true d p q r s h = (105, codes "f", ap chars ((bytes_eq-Decides t (codes "if")).0 r) ∙ ascii_chars (codes "if") refl, refl)
    go false false false true p q r s h = (111, codes "therwise", ap chars ((bytes_eq-Decides t (codes "otherwise")).0 s) ∙ ascii_chars (codes "otherwise") refl, refl)
    go false false false false p q r s h = absurd (cc h)

no_letter : (k : TokenKind) → is_word_kind k ≡ false → list_all (λ d. not (starts k d)) (codes "aoi") ≡ true
no_letter kind.Word h = absurd (cc h)
no_letter kind.Number h = refl
no_letter kind.Date h = refl
no_letter kind.Text h = refl
no_letter kind.Symbol h = refl

pub no_ending : (k : TokenKind) → is_word_kind k ≡ false → (t : List ℕ) → IsToken k (chars t) → is_ending t ≡ false
no_ending k n t h = go (is_ending t) refl
  where
    go : (b : Bool) → is_ending t ≡ b → b ≡ false
    go false e = refl
    go true e = let l = ending_letter t e in absurd (none_of (starts k) l.0 (codes "aoi") (no_letter k n) l.3 (subst (Starts k) l.2 (token_starts k (chars t) h)))

pub token_plain : (s : Bool) (p : Piece) → is_ending p.text ≡ false → EndsPlainly (token s p ∷ [])
token_plain s p h = record { before = []; last = token s p; is = refl; plain = h }

piece_plain : (s : Bool) (p : Piece) → is_word_kind p.kind ≡ false → IsPiece p → EndsPlainly (token s p ∷ [])
piece_plain s p n is = token_plain s p (no_ending p.kind n p.text is.token)

literal_plain : (s : Bool) (v : Value) → AreWritten (literal s v) → EndsPlainly (literal s v)
literal_plain s value.Unknown h = token_plain s (word (codes "unknown")) refl
literal_plain s value.Uncertain h = token_plain s (word (codes "uncertain")) refl
literal_plain s (value.Bool true) h = token_plain s (word (codes "true")) refl
literal_plain s (value.Bool false) h = token_plain s (word (codes "false")) refl
literal_plain s (value.Num (pos n)) h = piece_plain s (number (plain_text (pos n))) refl h.0
literal_plain s (value.Num (negsuc n)) h = plainly_after (token s (symbol (codes "-")) ∷ []) (joined (number (plain_text (pos (suc n)))) ∷ []) (piece_plain false (number (plain_text (pos (suc n)))) refl h.2.0)
literal_plain s (value.Words t) h = piece_plain s (text t) refl h.0
literal_plain s (value.Day d) h = piece_plain s (date (date_text d)) refl h.0

closing : EndsPlainly (joined (symbol (codes ")")) ∷ [])
closing = token_plain false (symbol (codes ")")) refl

pub brackets_plain : (s : Bool) (ws : List Written) → EndsPlainly (bracketed s ws)
brackets_plain s ws = plainly_after (token s (symbol (codes "(")) ∷ ws) (joined (symbol (codes ")")) ∷ []) closing

pub named_plain : (s : Bool) (p : Piece) (t : Bool) (ws : List Written) → EndsPlainly (token s p ∷ bracketed t ws)
named_plain s p t ws = plainly_after (token s p ∷ []) (bracketed t ws) (brackets_plain t ws)

-- ---- wordings

pub record HasEdges (w : Wording) : Type 0 where
  pub factor : Leads w.as_factor
  pub line : Leads w.as_line
  pub factor_ends : (s : Bool) → EndsPlainly (w.as_factor s)
  pub line_ends : (s : Bool) → EndsPlainly (w.as_line s)

abbrev pub HaveEdges : List Wording → Type 0
HaveEdges [] = Unit {0}
HaveEdges (w ∷ ws) = HasEdges w × HaveEdges ws

alike_edges : (f : Bool → List Written) → Leads f → ((s : Bool) → EndsPlainly (f s)) → HasEdges (alike f)
alike_edges f l e = record { factor = l; line = l; factor_ends = e; line_ends = e }

named_edges : (p : Piece) (t : Bool) (ws : List Written) → HasEdges (alike (λ s. token s p ∷ bracketed t ws))
named_edges p t ws = alike_edges (λ s. token s p ∷ bracketed t ws) (token_lead p (bracketed t ws)) (λ s. named_plain s p t ws)

brackets_edges : (ws : List Written) → HasEdges (alike (λ s. bracketed s ws))
brackets_edges ws = alike_edges (λ s. bracketed s ws) (token_lead (symbol (codes "(")) (ws ++ joined (symbol (codes ")")) ∷ [])) (λ s. brackets_plain s ws)

denial_edges : (w : Wording) → HasEdges w → HasEdges (alike (λ s. denial s w))
denial_edges w h = alike_edges (λ s. denial s w) (token_lead (word (codes "not")) (w.as_factor true)) (λ s. plainly_after (token s (word (codes "not")) ∷ []) (w.as_factor true) (h.factor_ends true))

-- what follows the first part doesn't tell what stood before it
later_alike : (j : Joint) (s : Bool) (ws : List Wording) → together j s false ws ≡ together j true false ws
later_alike j s [] = refl
later_alike j s (w ∷ ws) = ap (λ vs. (separator j ∷ placed j true w) ++ vs) (later_alike j s ws)

last_operand : (k : OpKind) (s : Bool) (w : Wording) (ws : List Wording) → HasEdges w → HaveEdges ws → (b : Bool) → EndsPlainly (together (between.Sign k) s b (w ∷ ws))
last_operand k s w [] h hs true = subst EndsPlainly (sym (append-nil (w.as_factor s))) (h.factor_ends s)
last_operand k s w [] h hs false = plainly_after (separator (between.Sign k) ∷ []) (w.as_factor true ++ []) (subst EndsPlainly (sym (append-nil (w.as_factor true))) (h.factor_ends true))
last_operand k s w (v ∷ ws) h hs b = plainly_after (part (between.Sign k) s b w) (together (between.Sign k) s false (v ∷ ws)) (last_operand k s v ws hs.0 hs.1 false)

infix_edges : (k : OpKind) (ws : List Wording) (n : ℕ) → length ws ≡ suc n → HaveEdges ws → HasEdges (apart (λ s. together (between.Sign k) s true ws))
infix_edges k [] n l h = absurd (cc l)
infix_edges k (w ∷ ws) n l h =
    let f : Bool → List Written = λ s. together (between.Sign k) s true (w ∷ ws) in record {
      factor = token_lead (symbol (codes "(")) (f false ++ joined (symbol (codes ")")) ∷ []);
      line = record {
        first = h.0.factor.first;
        later = h.0.factor.later ++ together (between.Sign k) true false ws;
        is = λ s. ap (λ vs. vs ++ together (between.Sign k) s false ws) (h.0.factor.is s) ∙ ap (λ vs. token s h.0.factor.first ∷ (h.0.factor.later ++ vs)) (later_alike (between.Sign k) s ws);
      };
      factor_ends = λ s. brackets_plain s (f false);
      line_ends = λ s. last_operand k s w ws h.0 h.1 true;
    }

operation_edges : (k : OpKind) (ws : List Wording) (n : ℕ) → length ws ≡ suc n → HaveEdges ws → HasEdges (operation k ws)
operation_edges k ws n l h = go (is_infix k)
  where
    go : (b : Bool) → HasEdges (if b then apart (λ s. together (between.Sign k) s true ws) else alike (λ s. call s (op_piece k) ws))
    go true = infix_edges k ws n l h
    go false = named_edges (op_piece k) false (together between.Comma false true ws)

-- ---- all trees

-- each phrase of an attribute ends with no ending
abbrev pub PhrasesEnd : Lists → Type 0
PhrasesEnd m = (a : AttrId) → HasAttribute m a → (s : Bool) → EndsPlainly (phrase s (phrase_of_attribute (attribute_at m a)))

module _ (m : Lists) (phrases : PhrasesEnd m) where
  abbrev IsEdged : Expr → Type 0
  IsEdged e = HasEdges (wording m e)

  literal_edged : (v : Value) → CanBeWritten kinds.Number v → IsEdged (V.Const v)
  literal_edged v c = subst HasEdges (sym (wording-Const m v)) (alike_edges (λ s. literal s v) (literal_lead v) (λ s. literal_plain s v (subst AreWritten (append-nil (literal s v)) (literal_well v c s [] tt tt))))

  mutual
    pub tree_edged : {e : Expr} → IsGrammatical m e → IsEdged e
    tree_edged (tree.IsGrammatical.literal v i c) = literal_edged v c
    tree_edged (tree.IsGrammatical.attribute a has) =
        let t : List ℕ = phrase_of_attribute (attribute_at m a) in
        subst HasEdges (sym (wording-Attr m a)) (alike_edges (λ s. phrase s t) (words_lead [] t) (phrases a has))
    tree_edged (tree.IsGrammatical.all es l hs) = subst HasEdges (sym (wording-All m es)) (brackets_edges (together between.And false true (map (wording m) es)))
    tree_edged (tree.IsGrammatical.any es l hs) = subst HasEdges (sym (wording-Any m es)) (brackets_edges (together between.Or false true (map (wording m) es)))
    tree_edged (tree.IsGrammatical.not e h) = subst HasEdges (sym (wording-Not m e)) (denial_edges (wording m e) (tree_edged h))
    tree_edged (tree.IsGrammatical.operation k es r l hs) =
        let some = some_operands k in
        subst HasEdges (sym (wording-Op m k es)) (operation_edges k (map (wording m) es) some.0 (length_map (wording m) es ∙ l ∙ some.1) (trees_edged hs))
    tree_edged (tree.IsGrammatical.round e z range h) =
        let es : List Expr = e ∷ V.Const (value.Num (pos z)) ∷ [] in
        subst HasEdges (sym (wording-Op m op.Round es)) (operation_edges op.Round (map (wording m) es) 1 refl (tree_edged h, (literal_edged (value.Num (pos z)) (range, tt), tt)))
    tree_edged (tree.IsGrammatical.certain e h) = subst HasEdges (sym (wording-Certain m e)) (named_edges (word (codes "Certain")) false (together between.Comma false true (wording m e ∷ [])))
    tree_edged (tree.IsGrammatical.known e h) = subst HasEdges (sym (wording-Known m e)) (named_edges (word (codes "CurrentlyKnown")) false (together between.Comma false true (wording m e ∷ [])))
    tree_edged (tree.IsGrammatical.over q r es has l hs) = subst HasEdges (sym (wording-Over m q r es)) (named_edges (word (quant_text q)) false (listed m r (map (wording m) es)))
    tree_edged (tree.IsGrammatical.window k es l hs) = subst HasEdges (sym (wording-Window m k es)) (named_edges (word (window_text k)) false (together between.Comma false true (map (wording m) es)))
    tree_edged (tree.IsGrammatical.rolling always k e few h) = subst HasEdges (sym (wording-Rolling m always k e)) (named_edges (word (rolling_text always)) false (over_days k (wording m e)))

    trees_edged : {es : List Expr} → AreGrammatical m es → HaveEdges (map (wording m) es)
    trees_edged tree.AreGrammatical.none = tt
    trees_edged (tree.AreGrammatical.one_more e es x xs) = (tree_edged x, trees_edged xs)
