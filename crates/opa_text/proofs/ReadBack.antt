-- Reading what was written.
use Rattle.std.proofs.Common.{◌≡◌, ℕ, List, [], ◌∷◌, ◌++◌, true, false, refl, sym, ap, subst, ◌∙◌, append_assoc}
use Rattle.std.specs.Prelude.{codes}
use Rattle.std.specs.List.{AllByRecursion}
use Rattle.opa_value.specs.declared.value.Value.{Value}
use Rattle.opa_date.specs.declared.TheConstants.{DAYS}
use Rattle.opa_date.specs.Texts.{day_text}
use Rattle.opa_date.proofs.ReadTexts.{texts_are_read}
use Rattle.opa_line.specs.Lines.{Follows}
use Rattle.opa_words.specs.Kinds.{quoted}
use Rattle.opa_model.specs.declared.things.Kind.{Kind}
use Rattle.opa_words.specs.Pieces.{word, date, symbol, text, IsCutInto}
use Rattle.opa_words.specs.Written.{Written, AreWritten, text_of, pieces_of, spaced, joined}
use Rattle.opa_words.proofs.LawsHold.{written_is_cut_holds, quoted_is_token_holds}
use Rattle.opa_text.specs.Texts.{value_text, changes_text, line_text}
use Rattle.opa_text.specs.Points.{known_names, more_names}
use Rattle.opa_text.specs.Spelled.{SpellsChanges, SpellsMore}
use Rattle.opa_text.specs.Laws.{CanBeQuoted, CanBeWritten, LinesReadBack, NamesReadBack}
use Rattle.opa_text.proofs.WrittenValues.{written, Apart, value_written, value_says, value_spells, date_piece, from_piece, semicolon_piece, comma_piece, none_piece, semicolon_apart, comma_apart, spaced_ends, apart_ends}

abbrev Writable : Kind → ℕ × Value → Type 0
Writable k p = CanBeWritten k p.1

-- ---- lines

changes_written : Kind → List (ℕ × Value) → List Written
changes_written k [] = []
changes_written k (p ∷ ps) = joined (symbol (codes ";")) ∷ spaced (word (codes "from")) ∷ spaced (date (day_text p.0)) ∷ written true k p.1 (changes_written k ps)

changes_apart : (k : Kind) (ps : List (ℕ × Value)) → Apart (changes_written k ps)
unfolding changes_written
changes_apart k [] = tt
changes_apart k (p ∷ ps) = semicolon_apart (spaced (word (codes "from")) ∷ spaced (date (day_text p.0)) ∷ written true k p.1 (changes_written k ps))

changes_are : (k : Kind) (d : ℕ) (v : Value) (ps : List (ℕ × Value)) → Follows DAYS d v ps → AllByRecursion (Writable k) ps → AreWritten (changes_written k ps)
unfolding changes_written
changes_are k d v [] f h = tt
changes_are k d v (p ∷ ps) f h =
    (semicolon_piece, refl, (from_piece, refl, (date_piece p.0 f.1, spaced_ends (date (day_text p.0)) k p.1 (changes_written k ps), value_written true k p.1 (changes_written k ps) h.0 (changes_apart k ps) (changes_are k p.0 p.1 ps f.3 h.1))))

changes_say : (k : Kind) (ps : List (ℕ × Value)) → text_of (changes_written k ps) ≡ changes_text k ps
unfolding changes_written
changes_say k [] = refl
changes_say k (p ∷ ps) =
    ap (λ t. codes "; from " ++ (day_text p.0 ++ t)) (value_says true k p.1 (changes_written k ps) ∙ ap (λ t. 32 ∷ (value_text k p.1 ++ t)) (changes_say k ps))
    ∙ ap (λ t. codes "; from " ++ t) (sym (append_assoc (day_text p.0) (32 ∷ value_text k p.1) (changes_text k ps)))

changes_spell : (k : Kind) (d : ℕ) (v : Value) (ps : List (ℕ × Value)) → Follows DAYS d v ps → AllByRecursion (Writable k) ps → SpellsChanges d ps (pieces_of (changes_written k ps))
unfolding changes_written
changes_spell k d v [] f h = refl
changes_spell k d v (p ∷ ps) f h =
    let rest = changes_written k ps in (
      pieces_of rest,
      ((pieces_of (spaced (date (day_text p.0)) ∷ written true k p.1 rest), pieces_of (written true k p.1 rest), refl, (day_text p.0, refl, texts_are_read p.0 f.1), value_spells true k p.1 rest h.0), f.0),
      changes_spell k p.0 p.1 ps f.3 h.1,
    )

-- what is written is what its text says
cut_as : (ws : List Written) (bytes : List ℕ) → AreWritten ws → text_of ws ≡ bytes → IsCutInto bytes (pieces_of ws)
cut_as ws bytes h e = subst (λ bs. IsCutInto bs (pieces_of ws)) e (written_is_cut_holds ws h).1

pub lines_read_back_holds : LinesReadBack
lines_read_back_holds k [] is h = absurd is
lines_read_back_holds k (p ∷ ps) is h =
    let rest = changes_written k ps in
    let ws = written false k p.1 rest in
    let are = value_written false k p.1 rest h.0 (changes_apart k ps) (changes_are k 0 p.1 ps is.1 h.1) in
    let says = value_says false k p.1 rest ∙ ap (λ t. value_text k p.1 ++ t) (changes_say k ps) in
    (pieces_of ws, cut_as ws (line_text k (p ∷ ps)) are says, (pieces_of rest, is.0, value_spells false k p.1 rest h.0, changes_spell k 0 p.1 ps is.1 h.1))

-- ---- names

more_written : List (List ℕ) → List Written
more_written [] = []
more_written (n ∷ ns) = joined (symbol (codes ",")) ∷ spaced (text n) ∷ more_written ns

more_apart : (ns : List (List ℕ)) → Apart (more_written ns)
unfolding more_written
more_apart [] = tt
more_apart (n ∷ ns) = comma_apart (spaced (text n) ∷ more_written ns)

more_are : (ns : List (List ℕ)) → AllByRecursion CanBeQuoted ns → AreWritten (more_written ns)
unfolding more_written
more_are [] h = tt
more_are (n ∷ ns) h = (comma_piece, refl, (quoted_is_token_holds n h.0.utf8 h.0.plain, apart_ends (text n) (more_written ns) (more_apart ns), more_are ns h.1))

more_say : (ns : List (List ℕ)) → text_of (more_written ns) ≡ more_names ns
unfolding more_written
more_say [] = refl
more_say (n ∷ ns) = ap (λ t. codes ", " ++ (quoted n ++ t)) (more_say ns)

more_spell : (ns : List (List ℕ)) → SpellsMore ns (pieces_of (more_written ns))
unfolding more_written
more_spell [] = refl
more_spell (n ∷ ns) = (pieces_of (more_written ns), refl, more_spell ns)

pub names_read_back_holds : NamesReadBack
names_read_back_holds [] h = (pieces_of (joined (word (codes "none")) ∷ []), cut_as (joined (word (codes "none")) ∷ []) (known_names []) (none_piece, refl, tt) refl, refl)
names_read_back_holds (n ∷ ns) h =
    let ws = joined (text n) ∷ more_written ns in
    let are : AreWritten ws = (quoted_is_token_holds n h.0.utf8 h.0.plain, apart_ends (text n) (more_written ns) (more_apart ns), more_are ns h.1) in
    (pieces_of ws, cut_as ws (known_names (n ∷ ns)) are (ap (λ t. quoted n ++ t) (more_say ns)), (pieces_of (more_written ns), refl, more_spell ns))
