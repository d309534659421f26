-- What the words of written lines are to the grammar of blocks.
use Rattle.std.proofs.Common.{◌≡◌, ◌+◌, ◌*◌, ℕ, suc, List, [], ◌∷◌, ◌++◌, length, map, Bool, true, false, cond, Some, refl, sym, ap, subst, ◌∙◌, arith}
use Rattle.std.specs.Prelude.{codes, ◌||◌, if◌then◌else◌}
use Rattle.std.specs.Str.{chars, IsUtf8, bytes_eq}
use Rattle.opa_model.specs.declared.lists.Lists.{Lists}
use Rattle.opa_tree.specs.declared.expr.Expr.{Expr}
use Rattle.opa_tree.specs.Trees.{depth}
use Rattle.opa_words.specs.declared.kinds.Token.{Token}
use Rattle.opa_words.specs.Cuts.{Cuts}
use Rattle.opa_words.specs.Reserved.{is_ending}
use Rattle.opa_words.specs.declared.layout.block.BlockLine.{BlockLine}
use Rattle.opa_words.specs.Pieces.{Piece, pieces, word}
use Rattle.opa_words.specs.Written.{Written, AreWritten, pieces_of, text_of, spaced}
use Rattle.opa_words.proofs.LawsHold.{written_is_cut_holds}
use Rattle.opa_sentence.specs.declared.names.Names.{Names}
use Rattle.opa_sentence.specs.declared.reading.Reading.{Reading}
use Rattle.opa_sentence.specs.Bounding.{bound}
use Rattle.opa_sentence.specs.Grammar.{LINE, Spells}
use Rattle.opa_sentence.specs.Lexemes.{Lexeme, lexemes, class_of}
use Rattle.opa_sentence.specs.Measures.{unbounded}
use Rattle.opa_parse.specs.declared.line.Ending.{Ending}
use Rattle.opa_parse.specs.declared.line.Ending.TheVariants as ending
use Rattle.opa_parse.specs.declared.line.Line.{Line}
use Rattle.opa_parse.specs.Lines.{IsCut, IsLine, AreLines, ending_of, ending_word, body, is_none, head_of}
use Rattle.opa_parse.proofs.WordLaws.{ending_at}
use Rattle.opa_wording.specs.Laid.{Laid, at, ended, tree_words, block_line, block_from}
use Rattle.opa_wording.specs.Limits.{LineFits}
use Rattle.opa_wording.specs.Told.{told, all_told, SpellsTree}
use Rattle.opa_wording.proofs.Edges.{EndsPlainly}
use Rattle.opa_wording.proofs.Fitting.{SaysTree, IsSmallTree, line_says}

-- ---- what is written is cut into the words that it is told as

abbrev of_piece : Piece → Lexeme
of_piece p = record { class = class_of p.kind p.text; text = p.text }

seen_pieces : (bytes : List ℕ) (ts : List Token) → lexemes bytes ts ≡ map of_piece (pieces bytes ts)
seen_pieces bytes [] = refl
seen_pieces bytes (t ∷ ts) = ap (λ ls. (lexemes bytes (t ∷ [])) ++ ls) (seen_pieces bytes ts)

told_pieces : (ws : List Written) → map of_piece (pieces_of ws) ≡ all_told ws
told_pieces [] = refl
told_pieces (w ∷ ws) = ap (λ ls. told w ∷ ls) (told_pieces ws)

-- tokens that a text is cut into are those words
pub record IsCutAs (text : List ℕ) (ws : List Lexeme) : Type 0 where
  pub utf8 : IsUtf8 text
  pub tokens : List Token
  pub cut : Cuts (length text) (chars text) tokens
  pub words : lexemes text tokens ≡ ws

pub written_cut : (ws : List Written) → AreWritten ws → IsCutAs (text_of ws) (all_told ws)
written_cut ws h =
    let c = written_is_cut_holds ws h in
    let d = c.1 in
    record { utf8 = c.0; tokens = d.0; cut = d.1; words = seen_pieces (text_of ws) d.0 ∙ ap (map of_piece) d.2 ∙ told_pieces ws }

pub words_cut : (n k : ℕ) (ws : List Written) → AreWritten ws → IsCut (block_line n (at k ws)) (all_told ws)
words_cut n k ws h = let c = written_cut ws h in record { tokens = c.tokens; cut = c.cut; words_are = sym c.words }

-- ---- the last word

pub told_append : (ws vs : List Written) → all_told (ws ++ vs) ≡ all_told ws ++ all_told vs
told_append [] vs = refl
told_append (w ∷ ws) vs = ap (λ ls. told w ∷ ls) (told_append ws vs)

pub body_last : (ts : List Lexeme) (t : Lexeme) → body (ts ++ t ∷ []) ≡ (if is_ending t.text then ts else ts ++ t ∷ [])
body_last [] t = refl
body_last (u ∷ []) t = after (is_ending t.text)
  where
    after : (b : Bool) → u ∷ cond b [] (t ∷ []) ≡ cond b (u ∷ []) (u ∷ t ∷ [])
    after true = refl
    after false = refl
body_last (u ∷ v ∷ ts) t = ap (λ ls. u ∷ ls) (body_last (v ∷ ts) t) ∙ moved (is_ending t.text)
  where
    moved : (b : Bool) → u ∷ cond b (v ∷ ts) (v ∷ (ts ++ t ∷ [])) ≡ cond b (u ∷ v ∷ ts) (u ∷ v ∷ (ts ++ t ∷ []))
    moved true = refl
    moved false = refl

-- a word that is no ending ends a line as nothing
no_ending_word : (w : List ℕ) → is_ending w ≡ false → ending_word w ≡ ending.Nothing
no_ending_word w h = go (bytes_eq w (codes "and")) (bytes_eq w (codes "or")) (bytes_eq w (codes "if")) (bytes_eq w (codes "otherwise")) h
  where
    go : (a b c d : Bool) → (a || (b || (c || (d || false)))) ≡ false → (if a then ending.And else if b then ending.Or else if c then ending.If else if d then ending.Otherwise else ending.Nothing) ≡ ending.Nothing
    go true b c d h = absurd (cc h)
    go false true c d h = absurd (cc h)
    go false false true d h = absurd (cc h)
    go false false false true h = absurd (cc h)
    go false false false false h = refl

-- how written words end: the last word is the ending, and these stand before it
pub record EndsWith (ws before : List Written) (e : Ending) : Type 0 where
  pub ending_is : ending_of (all_told ws) ≡ e
  pub body_is : body (all_told ws) ≡ all_told before

pub plain_ending : (ws : List Written) → EndsPlainly ws → EndsWith ws ws ending.Nothing
plain_ending ws h =
    let words : all_told ws ≡ all_told h.before ++ told h.last ∷ [] = ap all_told h.is ∙ told_append h.before (h.last ∷ []) in record {
      ending_is = ap ending_of words ∙ ending_at (all_told h.before) (told h.last) ∙ no_ending_word h.last.piece.text h.plain;
      body_is = ap body words ∙ body_last (all_told h.before) (told h.last) ∙ ap (λ b. if b then all_told h.before else all_told h.before ++ told h.last ∷ []) h.plain ∙ sym words;
    }

pub word_ending : (ws : List Written) (w : List ℕ) → is_ending w ≡ true → EndsWith (ended ws w) ws (ending_word w)
word_ending ws w h =
    let last : Lexeme = told (spaced (word w)) in
    let words : all_told (ended ws w) ≡ all_told ws ++ last ∷ [] = told_append ws (spaced (word w) ∷ []) in record {
      ending_is = ap ending_of words ∙ ending_at (all_told ws) last;
      body_is = ap body words ∙ body_last (all_told ws) last ∙ ap (λ b. if b then all_told ws else all_told ws ++ last ∷ []) h;
    }

-- ---- lines

-- A line of a block that is written as these words: at its level, with this ending, it says this tree.
pub record IsItem (ns : Names) (n k : ℕ) (ws : List Written) (end : Ending) (e : Expr) : Type 0 where
  pub line : Line
  pub is : IsLine ns (block_line n (at k ws)) line
  pub level_is : line.level ≡ k
  pub ending_is : line.ending ≡ end
  pub reading : Reading
  pub says_is : line.says ≡ Some reading
  pub says : SaysTree reading e

pub item_line : (ns : Names) (n k : ℕ) (ws before : List Written) (end : Ending) (e : Expr) (x : Reading) → AreWritten ws → EndsWith ws before end → Spells unbounded ns LINE (all_told before) x [] → SaysTree (bound x) e → IsItem ns n k ws end e
item_line ns n k ws before end e x written h d says =
    let l : Line = record { level = k; number = n; ending = end; is_bare = is_none (body (all_told ws)); head = head_of ns (body (all_told ws)); says = Some (bound x) } in record {
      line = l;
      is = record {
        words = all_told ws;
        cut = words_cut n k ws written;
        words_say = record { level_is = refl; number_is = refl; ending_is = sym h.ending_is; bare_is = refl; head_is = refl; says_is = (x, subst (λ ts. Spells unbounded ns LINE ts x []) (sym h.body_is) d, refl) };
      };
      level_is = refl;
      ending_is = refl;
      reading = bound x;
      says_is = refl;
      says = says;
    }

-- what the tree's line spells, where it is within the limits
pub record IsTreeLine (ns : Names) (ws : List Written) (e : Expr) : Type 0 where
  pub reading : Reading
  pub spelled : Spells unbounded ns LINE (all_told ws) reading []
  pub says : SaysTree (bound reading) e

pub tree_line : (m : Lists) (ns : Names) (e : Expr) → SpellsTree ns LINE (all_told (tree_words m e)) e [] (2 * depth e) → LineFits m ns e → IsSmallTree e → IsTreeLine ns (tree_words m e) e
tree_line m ns e s fit small =
    let f = fit s.reading s.spelled in
    record { reading = s.reading; spelled = s.spelled; says = line_says ns (all_told (tree_words m e)) s.reading e s.spelled s.tree_is f.0 f.1 small }

-- ---- lines one after another

pub lines_append : (ns : Names) (bs cs : List BlockLine) (ls ks : List Line) → AreLines ns bs ls → AreLines ns cs ks → AreLines ns (bs ++ cs) (ls ++ ks)
lines_append ns [] cs [] ks h g = g
lines_append ns [] cs (l ∷ ls) ks h g = absurd h
lines_append ns (b ∷ bs) cs [] ks h g = absurd h
lines_append ns (b ∷ bs) cs (l ∷ ls) ks h g = (h.0, lines_append ns bs cs ls ks h.1 g)

pub block_append : (n : ℕ) (ls ks : List Laid) → block_from n (ls ++ ks) ≡ block_from n ls ++ block_from (n + length ls) ks
block_append n [] ks = ap (λ k. block_from k ks) (let e : n ≡ n + 0 = omega arith in e)
block_append n (l ∷ ls) ks = ap (λ bs. block_line n l ∷ bs) (block_append (n + 1) ls ks ∙ ap (λ k. block_from (n + 1) ls ++ block_from k ks) (let e : n + 1 + length ls ≡ n + suc (length ls) = omega arith in e))
