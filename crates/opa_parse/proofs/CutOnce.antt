-- A text is cut in one way, and a line of a block is one line.
use Rattle.std.proofs.Common.{◌≡◌, ℕ, ◌-◌, List, [], ◌∷◌, ◌++◌, length, true, false, Option, Some, None, refl, sym, ap, subst, ◌∙◌}
use Rattle.std.specs.Str.{chars}
use Rattle.opa_io.proofs.Bools.{never_both}
use Rattle.opa_words.specs.declared.kinds.TokenKind.{TokenKind}
use Rattle.opa_words.specs.Characters.{width, is_blank}
use Rattle.opa_words.specs.Kinds.{IsLongest, BeginsNone}
use Rattle.opa_words.specs.Cuts as c
use Rattle.opa_words.specs.Cuts.{Cuts, Stuck}
use Rattle.opa_words.proofs.OneCut.{one_cut_holds, cut_or_stuck_holds, one_longest_holds}
use Rattle.opa_words.specs.declared.layout.block.BlockLine.{BlockLine}
use Rattle.opa_sentence.specs.declared.names.Names.{Names}
use Rattle.opa_sentence.specs.declared.reading.Reading.{Reading}
use Rattle.opa_sentence.specs.Lexemes.{Lexeme, lexemes}
use Rattle.opa_sentence.specs.Bounding.{bound}
use Rattle.opa_sentence.specs.Measures.{unbounded}
use Rattle.opa_sentence.specs.Grammar.{LINE}
use Rattle.opa_sentence.specs.Spelling.{IsSpelling}
use Rattle.opa_sentence.proofs.LawsHold.{one_meaning_holds}
use Rattle.opa_parse.specs.declared.line.Line.{Line}
use Rattle.opa_parse.specs.Lines.{IsCut, AreLine, IsLine, AreLines}

pub ruleset cut_laws = (one_cut_holds, cut_or_stuck_holds)

-- ---- one place at which no token begins

module _ (total : ℕ) where
  abbrev At : List ℕ → ℕ → Type 0
  At cs p = (q : ℕ) → Stuck total cs q → p ≡ q

  here_at : (x : ℕ) (cs : List ℕ) → is_blank x ≡ false → BeginsNone (x ∷ cs) → At (x ∷ cs) (total - width (x ∷ cs))
  here_at x cs b none q (c.Stuck.here b' is) = refl
  here_at x cs b none q (c.Stuck.blank b' d) = absurd (never_both (is_blank x) b' b)
  here_at x cs b none q (c.Stuck.cut k rest b' is d) = absurd (none k is.front rest is.split is.token)

  blank_at : (x : ℕ) (cs : List ℕ) (p : ℕ) → is_blank x ≡ true → At cs p → At (x ∷ cs) p
  blank_at x cs p b at q (c.Stuck.here b' is) = absurd (never_both (is_blank x) b b')
  blank_at x cs p b at q (c.Stuck.blank b' d) = at q d
  blank_at x cs p b at q (c.Stuck.cut k rest b' is d) = absurd (never_both (is_blank x) b b')

  cut_at : (x : ℕ) (cs : List ℕ) (p : ℕ) (k : TokenKind) (rest : List ℕ) → is_blank x ≡ false → IsLongest (x ∷ cs) k rest → At rest p → At (x ∷ cs) p
  cut_at x cs p k rest b is at q (c.Stuck.here b' none) = absurd (none k is.front rest is.split is.token)
  cut_at x cs p k rest b is at q (c.Stuck.blank b' d) = absurd (never_both (is_blank x) b' b)
  cut_at x cs p k rest b is at q (c.Stuck.cut l left b' is' d) = at q (subst (λ r. Stuck total r q) (sym (one_longest_holds (x ∷ cs) k l rest left is is').1) d)

  pub one_place : {cs : List ℕ} {p : ℕ} → Stuck total cs p → At cs p
  one_place (c.Stuck.here {c = x} {cs = cs} b none) = here_at x cs b none
  one_place (c.Stuck.blank {c = x} {cs = cs} {p = p} b d) = blank_at x cs p b (one_place d)
  one_place (c.Stuck.cut {c = x} {cs = cs} {p = p} k rest b is d) = cut_at x cs p k rest b is (one_place d)

-- ---- one line

pub one_words : (line : BlockLine) (ws vs : List Lexeme) → IsCut line ws → IsCut line vs → ws ≡ vs
one_words line ws vs a b = a.words_are ∙ ap (lexemes line.text) (one_cut_holds (length line.text) (chars line.text) a.tokens b.tokens a.cut b.cut) ∙ sym b.words_are

pub one_spelling : (ns : Names) (ts : List Lexeme) (x y : Option Reading) → IsSpelling ns LINE ts x → IsSpelling ns LINE ts y → x ≡ y
one_spelling ns ts None None p q = refl
one_spelling ns ts None (Some y) p q = absurd (p q.0 q.1)
one_spelling ns ts (Some x) None p q = absurd (q p.0 p.1)
one_spelling ns ts (Some x) (Some y) p q = ap (λ r. Some r) (p.2 ∙ ap bound (one_meaning_holds unbounded ns LINE ts p.0 q.0 p.1 q.1) ∙ sym q.2)

abbrev line_by : ℕ → ℕ → Line → Line
line_by level number l = record l { level = level; number = number }

same_line : (ns : Names) (level number : ℕ) (ws : List Lexeme) (l m : Line) → AreLine ns level number ws l → AreLine ns level number ws m → l ≡ m
same_line ns level number ws l m a b =
    let p : l.level ≡ m.level = a.level_is ∙ sym b.level_is in
    let q : l.number ≡ m.number = a.number_is ∙ sym b.number_is in
    let r : l.ending ≡ m.ending = a.ending_is ∙ sym b.ending_is in
    let s : l.is_bare ≡ m.is_bare = a.bare_is ∙ sym b.bare_is in
    let t : l.head ≡ m.head = a.head_is ∙ sym b.head_is in
    let u : l.says ≡ m.says = one_spelling ns _ l.says m.says a.says_is b.says_is in
    ap (λ x. let z : Line = record l { level = x } in z) p ∙ ap (λ x. let z : Line = record l { level = m.level; number = x } in z) q
    ∙ ap (λ x. let z : Line = record l { level = m.level; number = m.number; ending = x } in z) r
    ∙ ap (λ x. let z : Line = record l { level = m.level; number = m.number; ending = m.ending; is_bare = x } in z) s
    ∙ ap (λ x. let z : Line = record l { level = m.level; number = m.number; ending = m.ending; is_bare = m.is_bare; head = x } in z) t
    ∙ ap (λ x. let z : Line = record m { says = x } in z) u

pub one_line : (ns : Names) (line : BlockLine) (l m : Line) → IsLine ns line l → IsLine ns line m → l ≡ m
one_line ns line l m a b =
    same_line ns line.level line.line a.words l m a.words_say
    (subst (λ ws. AreLine ns line.level line.line ws m) (sym (one_words line a.words b.words a.cut b.cut)) b.words_say)

pub same_lines : (ns : Names) (bs : List BlockLine) (ls ms : List Line) → AreLines ns bs ls → AreLines ns bs ms → ls ≡ ms
same_lines ns [] [] [] a b = refl
same_lines ns [] [] (m ∷ ms) a b = absurd b
same_lines ns [] (l ∷ ls) ms a b = absurd a
same_lines ns (x ∷ bs) [] ms a b = absurd a
same_lines ns (x ∷ bs) (l ∷ ls) [] a b = absurd b
same_lines ns (x ∷ bs) (l ∷ ls) (m ∷ ms) a b = ap (λ y. y ∷ ls) (one_line ns x l m a.0 b.0) ∙ ap (λ ys. m ∷ ys) (same_lines ns bs ls ms a.1 b.1)

-- ---- lines from the last on

-- the lines that are read are the last ones
pub record AreLast (ns : Names) (all rest : List BlockLine) (ls : List Line) : Type 0 where
  pub after : List BlockLine
  pub split : all ≡ rest ++ after
  pub lines : AreLines ns after ls

pub cut_at_line : (ns : Names) (front : List BlockLine) (b : BlockLine) (after : List BlockLine) (ls : List Line) → AreLines ns (front ++ b ∷ after) ls → (l : Line) × IsLine ns b l
cut_at_line ns [] b after [] a = absurd a
cut_at_line ns [] b after (l ∷ ls) a = (l, a.0)
cut_at_line ns (x ∷ front) b after [] a = absurd a
cut_at_line ns (x ∷ front) b after (l ∷ ls) a = cut_at_line ns front b after ls a.1
