-- What the head of a column is about, read once, and what a cell says of it by its own tokens.
use Rattle.std.specs.Prelude.{◌≡◌, ◌≤◌, ℕ, List, length, false, Option, IfSome}
use Rattle.std.specs.List.{AllZip}
use Rattle.opa_value.specs.declared.value.Value.{Value}
use Rattle.opa_model.specs.declared.lists.Lists.{Lists}
use Rattle.opa_case.specs.declared.change.ChangeCommand.TheVariants as change
use Rattle.opa_words.specs.Pieces.{Piece, is_nothing}
use Rattle.opa_text.specs.Pointed.{SpellsPoint}
use Rattle.opa_text.specs.Spelled.{SpellsLine, SpellsNames}
use Rattle.opa_text.specs.declared.pointed.Point.{Point}
use Rattle.opa_script.specs.Commands.{NamesAttribute, NamesRelation}
use Rattle.opa_script.specs.Lines.{HasTokens}
use Rattle.opa_script.specs.declared.command.Command.{Command}
use Rattle.opa_script.specs.declared.command.Command.TheVariants as command
use Rattle.opa_batch.specs.declared.aim.Aim.{Aim}
use Rattle.opa_batch.specs.declared.aim.Aim.TheVariants as aim
use Rattle.opa_batch.specs.declared.head.Head.{Head}
use Rattle.opa_batch.specs.declared.head.Sort.{Sort}
use Rattle.opa_batch.specs.declared.head.Sort.TheVariants as sort
use Rattle.opa_batch.specs.Heads.{HasPoint}
use Rattle.opa_io.specs.declared.limits.TheConstants.{MOST_TEXT}

-- the point names this attribute, or this relation, and the instance; the column is of that sort
abbrev pub NamesAim : Lists → Sort → Point → Aim → Type 0
NamesAim m s p (aim.Answer a i) = (s ≡ sort.Answer) × NamesAttribute m p a i
NamesAim m s p (aim.Names r i) = (s ≡ sort.Names) × NamesRelation m p r i

-- the tokens are a point that does so
abbrev pub SpellsAim : Lists → Sort → List Piece → Aim → Type 0
SpellsAim m s ps k = (p : Point) × SpellsPoint p ps × NamesAim m s p k

-- the head, which isn't longer than a text may be, is such a point
pub record IsAimed (m : Lists) (h : Head) (k : Aim) : Type 0 where
  pub few : length h.text ≤ MOST_TEXT
  pub point : Point
  pub has : HasPoint h.text point
  pub names : NamesAim m h.sort point k

-- each head that has an aim is about it
abbrev pub AreAimed : Lists → List Head → List (Option Aim) → Type 0
AreAimed m heads aims = AllZip (λ h o. IfSome o (IsAimed m h)) heads aims

-- the change of what is aimed at that these tokens say
abbrev pub SaysAt : Aim → List Piece → Command → Type 0
SaysAt (aim.Answer a i) ps c = (l : List (ℕ × Value)) × SpellsLine l ps × (c ≡ command.Change (change.Answer a i l))
SaysAt (aim.Names r i) ps c = (ns : List (List ℕ)) × SpellsNames ns ps × (c ≡ command.Change (change.SetList r i ns))

-- and there is a token
abbrev pub SaysSome : Aim → List Piece → Command → Type 0
SaysSome k ps c = (is_nothing ps ≡ false) × SaysAt k ps c

-- the cell, which isn't longer than a text may be, says this change
pub record IsSaid (k : Aim) (cell : List ℕ) (c : Command) : Type 0 where
  pub few : length cell ≤ MOST_TEXT
  pub tokens : List Piece
  pub has : HasTokens cell tokens
  pub says : SaysSome k tokens c
