-- What is said of a block that can't be read: of the first place that is found.
use Rattle.std.specs.Prelude.{◌≡◌, ℕ, List, [], ◌∷◌, length, Option, Some, None, MatchOption}
use Rattle.std.specs.Option.{option_map}
use Rattle.std.specs.Str.{chars}
use Rattle.opa_words.specs.declared.kinds.Token.{Token}
use Rattle.opa_words.specs.declared.layout.block.BlockLine.{BlockLine}
use Rattle.opa_words.specs.Cuts.{Cuts, Stuck}
use Rattle.opa_sentence.specs.Lexemes.{lexemes}
use Rattle.opa_rules.specs.declared.faults.marks.Told.{Told}
use Rattle.opa_rules.specs.declared.faults.slip.Part.{Part}
use Rattle.opa_rules.specs.declared.faults.slip.Slip.{Slip}
use Rattle.opa_rules.specs.Faults.Marks.{marked, characters_before}
use Rattle.opa_rules.specs.Faults.Slips.{first_part, next_part, part_at, line_slip, below_slip, stuck_slip}
use Rattle.opa_rules.specs.Faults.Words.{slip_words}

-- of a place in a line
abbrev pub told_slip : BlockLine → Slip × ℕ → Told
told_slip l x = marked l (characters_before l.text x.1) (slip_words x.0)

-- of a line below the first one, before these lines, if anything is
pub data IsLineTold (p : Part) (l : BlockLine) (later : List BlockLine) : Option Told → Type 0 where
  cut : (ts : List Token) → Cuts (length l.text) (chars l.text) ts → IsLineTold p l later (option_map (told_slip l) (below_slip (part_at p l.level) l.level l.text ts later))
  uncut : (place : ℕ) → Stuck (length l.text) (chars l.text) place → IsLineTold p l later (Some (told_slip l (stuck_slip l.text place, place)))

-- of the first of such lines of which anything is
pub data AreLinesTold (p : Part) : List BlockLine → Option Told → Type 0 where
  none : AreLinesTold p [] None
  here : {l : BlockLine} {ls : List BlockLine} (t : Told) → IsLineTold p l ls (Some t) → AreLinesTold p (l ∷ ls) (Some t)
  later : {l : BlockLine} {ls : List BlockLine} (o : Option Told) → IsLineTold p l ls None → AreLinesTold p ls o → AreLinesTold p (l ∷ ls) o

-- of a first line with these tokens, or else of the lines below it
abbrev pub IsFirstTold : BlockLine → List Token → List BlockLine → Option Told → Type 0
IsFirstTold l ts below o =
    MatchOption (line_slip (first_part (lexemes l.text ts)) l.text ts) (AreLinesTold (next_part (lexemes l.text ts)) below o) (λ x. o ≡ Some (told_slip l x))

-- of a block with these lines
pub data IsBlockTold : List BlockLine → Option Told → Type 0 where
  none : IsBlockTold [] None
  cut : {l : BlockLine} {below : List BlockLine} (o : Option Told) (ts : List Token) → Cuts (length l.text) (chars l.text) ts → IsFirstTold l ts below o → IsBlockTold (l ∷ below) o
  uncut : {l : BlockLine} {below : List BlockLine} (place : ℕ) → Stuck (length l.text) (chars l.text) place → IsBlockTold (l ∷ below) (Some (told_slip l (stuck_slip l.text place, place)))
