-- Lines that name files.
use Rattle.std.proofs.Common.{◌≡◌, ℕ, List, [], ◌∷◌, ◌++◌, length, Bool, Option, Some, None, MatchOption, IfSome, IfOk, Result, Ok, Err, sym, ap, ◌∙◌, append_assoc, append-nil, subst}
use Rattle.std.specs.Str.{chars}
use Rattle.opa_words.specs.declared.kinds.Token.{Token}
use Rattle.opa_words.specs.Cuts.{Cuts, Stuck}
use Rattle.opa_words.proofs.OneCut.{cut_or_stuck_holds}
use Rattle.opa_words.specs.Layout.Lines.{Row}
use Rattle.opa_words.specs.Layout.Indents.{level}
use Rattle.opa_words.specs.Pieces.{Piece, pieces, word, text}
use Rattle.opa_words.proofs.LawsHold.{one_cutting_holds}
use Rattle.opa_rulebase.specs.declared.files.source.FileLine.{FileLine}
use Rattle.opa_rulebase.specs.Files.FileLines.{NamesFile, NamesNone, AreFileLines, first_word, listed}

-- a line in which at some place no token begins names none
pub stuck_names_none : (number : ℕ) (line : List ℕ) (p : ℕ) → Stuck (length line) (chars line) p → NamesNone number line
stuck_names_none number line p s f h = cut_or_stuck_holds (length line) (chars line) h.tokens.0 p h.tokens.1 s

pub named_as : (number : ℕ) (line : List ℕ) (ts : List Token) (ps : List Piece) (o : Option FileLine) → level line ≡ 0 → Cuts (length line) (chars line) ts → ps ≡ pieces line ts
    → MatchOption o ((t : Bool) (name : List ℕ) → ps ≡ word (first_word t) ∷ text name ∷ [] → ⊥) (λ f. ps ≡ word (first_word f.is_table) ∷ text f.name ∷ []) → IfSome o (λ f. f.line ≡ number)
    → MatchOption o (NamesNone number line) (NamesFile number line)
named_as number line ts ps None l cut e none at = λ f h. none f.is_table f.name (one_cutting_holds line ps (word (first_word f.is_table) ∷ text f.name ∷ []) (ts, cut, sym e) h.tokens)
named_as number line ts ps (Some f) l cut e named at = record { stands_at = at; at_level_0 = l; tokens = (ts, cut, sym e ∙ named) }

-- the lines after one more
pub lines_more : (all : List Row) (done new : List FileLine) (o : Option FileLine) (r : Row) (rs left : List Row) → left ≡ r ∷ rs → ((fs : List FileLine) → AreFileLines left fs → AreFileLines all (done ++ fs))
    → MatchOption o (NamesNone r.number r.text) (NamesFile r.number r.text) → new ≡ done ++ listed o → (fs : List FileLine) → AreFileLines rs fs → AreFileLines all (new ++ fs)
lines_more all done new None r rs left e h none n fs k =
    subst (AreFileLines all) (sym (ap (λ x. x ++ fs) (n ∙ append-nil done))) (h fs (subst (λ x. AreFileLines x fs) (sym e) (AreFileLines.passed none k)))
lines_more all done new (Some f) r rs left e h named n fs k =
    subst (AreFileLines all) (sym (ap (λ x. x ++ fs) n ∙ append_assoc done (f ∷ []) fs)) (h (f ∷ fs) (subst (λ x. AreFileLines x (f ∷ fs)) (sym e) (AreFileLines.named named k)))

pub lines_end : (all left : List Row) (done : List FileLine) → left ≡ [] → ((fs : List FileLine) → AreFileLines left fs → AreFileLines all (done ++ fs)) → AreFileLines all done
lines_end all left done e h = subst (AreFileLines all) (append-nil done) (h [] (subst (λ x. AreFileLines x []) (sym e) AreFileLines.none))

pub read_as : {E : Type 0} (number : ℕ) (line : List ℕ) (ts : List Token) (ps : List Piece) (r : Result (Option FileLine) E) → level line ≡ 0 → Cuts (length line) (chars line) ts → ps ≡ pieces line ts
    → IfOk r (λ o. MatchOption o ((t : Bool) (name : List ℕ) → ps ≡ word (first_word t) ∷ text name ∷ [] → ⊥) (λ f. ps ≡ word (first_word f.is_table) ∷ text f.name ∷ [])) → IfOk r (λ o. IfSome o (λ f. f.line ≡ number))
    → IfOk r (λ o. MatchOption o (NamesNone number line) (NamesFile number line))
read_as number line ts ps (Ok o) l cut e named at = named_as number line ts ps o l cut e named at
read_as number line ts ps (Err f) l cut e named at = tt
