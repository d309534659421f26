-- What is said of the lines of a block, one after another.
use Rattle.std.proofs.Common.{◌≡◌, ℕ, List, [], ◌∷◌, length, Option, Some, None, MatchOption, sym, ap, ◌∙◌, subst}
use Rattle.std.specs.Option.{option_map}
use Rattle.std.specs.Str.{chars}
use Rattle.opa_words.specs.Cuts.{Cuts, Stuck}
use Rattle.opa_words.specs.declared.kinds.Token.{Token}
use Rattle.opa_words.specs.declared.layout.block.BlockLine.{BlockLine}
use Rattle.opa_sentence.specs.Lexemes.{Lexeme, lexemes}
use Rattle.opa_rules.specs.declared.faults.marks.Told.{Told}
use Rattle.opa_rules.specs.declared.faults.slip.Part.{Part}
use Rattle.opa_rules.specs.declared.faults.slip.Slip.{Slip}
use Rattle.opa_rules.specs.Faults.Slips.{first_part, next_part, part_at, line_slip, below_slip, stuck_slip}
use Rattle.opa_rules.specs.Faults.Unread.{told_slip, IsLineTold, AreLinesTold, IsFirstTold, IsBlockTold}

-- what is said of the rest of lines is said of all
abbrev pub Back : Part → List BlockLine → List BlockLine → Type 0
Back p rest lines = (o : Option Told) → AreLinesTold p rest o → AreLinesTold p lines o

module _ (p : Part) (rest lines : List BlockLine) where
  pub at_end : rest ≡ [] → Back p rest lines → AreLinesTold p lines None
  at_end e back = back None (subst (λ ls. AreLinesTold p ls None) (sym e) AreLinesTold.none)

  pub at_here : (l : BlockLine) (ls : List BlockLine) (t : Told) → rest ≡ l ∷ ls → IsLineTold p l ls (Some t) → Back p rest lines → AreLinesTold p lines (Some t)
  at_here l ls t e is back = back (Some t) (subst (λ xs. AreLinesTold p xs (Some t)) (sym e) (AreLinesTold.here t is))

  pub one_on : (l : BlockLine) (ls : List BlockLine) → rest ≡ l ∷ ls → IsLineTold p l ls None → Back p rest lines → Back p ls lines
  one_on l ls e is back o more = back o (subst (λ xs. AreLinesTold p xs o) (sym e) (AreLinesTold.later o is more))

module _ (l : BlockLine) (text : List ℕ) (same : text ≡ l.text) where
  cut_as : (ts : List Token) → Cuts (length text) (chars text) ts → Cuts (length l.text) (chars l.text) ts
  cut_as ts is_cut = subst (λ s. Cuts (length s) (chars s) ts) same is_cut

  stuck_as : (place : ℕ) → Stuck (length text) (chars text) place → Stuck (length l.text) (chars l.text) place
  stuck_as place stuck = subst (λ s. Stuck (length s) (chars s) place) same stuck

  told_as : (place : ℕ) (s : Slip) (t : Told) → s ≡ stuck_slip text place → t ≡ told_slip l (s, place) → t ≡ told_slip l (stuck_slip l.text place, place)
  told_as place s t e f = f ∙ ap (λ (q : Slip). told_slip l (q, place)) (e ∙ ap (λ x. stuck_slip x place) same)

  pub cut_line : (p part : Part) (later : List BlockLine) (ts : List Token) (x : Option (Slip × ℕ)) (o : Option Told) → Cuts (length text) (chars text) ts
      → part ≡ part_at p l.level → x ≡ below_slip part l.level text ts later → o ≡ option_map (told_slip l) x → IsLineTold p l later o
  cut_line p part later ts x o is_cut is_part is_slip is_told =
      subst (IsLineTold p l later)
      (sym (is_told ∙ ap (λ y. option_map (told_slip l) y) (is_slip ∙ ap (λ q. below_slip q l.level text ts later) is_part ∙ ap (λ s. below_slip (part_at p l.level) l.level s ts later) same)))
      (IsLineTold.cut ts (cut_as ts is_cut))

  pub uncut_line : (p : Part) (later : List BlockLine) (place : ℕ) (s : Slip) (t : Told) → Stuck (length text) (chars text) place → s ≡ stuck_slip text place → t ≡ told_slip l (s, place) → IsLineTold p l later (Some t)
  uncut_line p later place s t stuck e f = subst (λ u. IsLineTold p l later (Some u)) (sym (told_as place s t e f)) (IsLineTold.uncut place (stuck_as place stuck))

  pub cut_block : (below : List BlockLine) (ts : List Token) (o : Option Told) → Cuts (length text) (chars text) ts → IsFirstTold l ts below o → IsBlockTold (l ∷ below) o
  cut_block below ts o is_cut first = IsBlockTold.cut o ts (cut_as ts is_cut) first

  pub uncut_block : (below : List BlockLine) (place : ℕ) (s : Slip) (t : Told) → Stuck (length text) (chars text) place → s ≡ stuck_slip text place → t ≡ told_slip l (s, place) → IsBlockTold (l ∷ below) (Some t)
  uncut_block below place s t stuck e f = subst (λ u. IsBlockTold (l ∷ below) (Some u)) (sym (told_as place s t e f)) (IsBlockTold.uncut place (stuck_as place stuck))

  module _ (ts : List Token) (words : List Lexeme) (part : Part) (x : Option (Slip × ℕ)) (below : List BlockLine) (w : words ≡ lexemes text ts) (h : part ≡ first_part words) (s : x ≡ line_slip part text ts) where
    slip_at : x ≡ line_slip (first_part (lexemes l.text ts)) l.text ts
    slip_at = s ∙ ap (λ q. line_slip q text ts) (h ∙ ap first_part w) ∙ ap (λ y. line_slip (first_part (lexemes y ts)) y ts) same

    pub first_below : (next : Part) (o : Option Told) → x ≡ None → next ≡ next_part words → AreLinesTold next below o → IsFirstTold l ts below o
    first_below next o none is_next lines =
        subst (λ (y : Option (Slip × ℕ)). MatchOption y (AreLinesTold (next_part (lexemes l.text ts)) below o) (λ z. o ≡ Some (told_slip l z))) (sym none ∙ slip_at)
        (subst (λ p. AreLinesTold p below o) (is_next ∙ ap next_part (w ∙ ap (λ y. lexemes y ts) same)) lines)

    pub first_here : (y : Slip × ℕ) (t : Told) → x ≡ Some y → t ≡ told_slip l y → IsFirstTold l ts below (Some t)
    first_here y t some e =
        subst (λ (u : Option (Slip × ℕ)). MatchOption u (AreLinesTold (next_part (lexemes l.text ts)) below (Some t)) (λ z. Some t ≡ Some (told_slip l z))) (sym some ∙ slip_at) (ap Some e)
