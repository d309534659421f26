-- Which lines of the main file name further ones.
use Rattle.std.specs.Prelude.{ℕ, ◌≡◌, List, [], ◌∷◌, Bool, Option, Some, None, codes, if◌then◌else◌}
use Rattle.opa_words.specs.Layout.Lines.{Row}
use Rattle.opa_words.specs.Layout.Indents.{level}
use Rattle.opa_words.specs.Pieces.{IsCutInto, word, text}
use Rattle.opa_rulebase.specs.declared.files.source.FileLine.{FileLine}

abbrev pub first_word : Bool → List ℕ
first_word is_table = if is_table then codes "table" else codes "include"

-- The line has level 0, and its tokens are `include` or `table` and one Text, which is the name. An odd space doesn't matter.
pub record NamesFile (number : ℕ) (line : List ℕ) (f : FileLine) : Type 0 where
  pub stands_at : f.line ≡ number
  pub at_level_0 : level line ≡ 0
  pub tokens : IsCutInto line (word (first_word f.is_table) ∷ text f.name ∷ [])

abbrev pub NamesNone : ℕ → List ℕ → Type 0
NamesNone number line = (f : FileLine) → NamesFile number line f → ⊥

abbrev pub listed : Option FileLine → List FileLine
listed None = []
listed (Some f) = f ∷ []

-- the lines among these that name files, in order
pub data AreFileLines : List Row → List FileLine → Type 0 where
  none : AreFileLines [] []
  passed : {r : Row} {rs : List Row} {fs : List FileLine} → NamesNone r.number r.text → AreFileLines rs fs → AreFileLines (r ∷ rs) fs
  named : {r : Row} {rs : List Row} {f : FileLine} {fs : List FileLine} → NamesFile r.number r.text f → AreFileLines rs fs → AreFileLines (r ∷ rs) (f ∷ fs)
