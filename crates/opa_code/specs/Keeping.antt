-- Lines that are kept while the members of a list are gone through.
use Rattle.std.specs.Prelude.{◌≡◌, ℕ, suc, ◌-◌, ◌==◌, false, List, ◌∷◌, length, take, drop, map, Some}
use Rattle.std.specs.List.{All}
use Rattle.opa_date.specs.declared.TheConstants.{DAYS}
use Rattle.opa_value.specs.declared.value.Value.{Value}
use Rattle.opa_line.specs.Lines.{StandsFor}
use Rattle.opa_model.specs.declared.ids.RelId.{RelId}
use Rattle.opa_tree.specs.declared.kinds.Quant.{Quant}
use Rattle.opa_window.specs.Days.{day_value}
use Rattle.opa_cells.specs.declared.instance.InstanceId.{InstanceId}
use Rattle.opa_mean.specs.Looks.{Look}
use Rattle.opa_mean.specs.Places.{place}
use Rattle.opa_code.specs.Mentions.{Mentions}
use Rattle.opa_code.specs.Steps.{IsOver}
use Rattle.opa_code.specs.declared.kept.KeptLine.{KeptLine}
use Rattle.opa_code.specs.declared.kept.Spot.{Spot}
use Rattle.opa_code.specs.declared.node.Node.{Node}
use Rattle.opa_code.specs.declared.node.Node.TheVariants as node

-- the nodes behind which so many stand, and these
abbrev pub from_position : ℕ → List Node → List Node
from_position position nodes = drop (length nodes - suc position) nodes

-- nodes end with others
abbrev pub IsEnd : List Node → List Node → Type 0
IsEnd nodes rest = drop (length nodes - length rest) nodes ≡ rest

abbrev pub IsSpot : Look → List InstanceId → Spot → Type 0
IsSpot l enclosing s = place l.container enclosing s.owner ≡ Some s.inst

-- among these enclosing instances each entity has the place that was noted
abbrev pub AreSpots : Look → List InstanceId → List Spot → Type 0
AreSpots l enclosing spots = All (IsSpot l enclosing) spots

-- the places of these entities are noted
pub record AreNoted (l : Look) (enclosing : List InstanceId) (owners : List ℕ) (spots : List Spot) : Type 0 where
  pub right : AreSpots l enclosing spots
  pub whole : map (λ s. s.owner) spots ≡ owners

-- the line is that of the quantifier with which the nodes begin
abbrev pub IsFirstLine : Look → List InstanceId → List Node → List (ℕ × Value) → Type 0
IsFirstLine l enclosing (node.Over q r source target count ∷ after) line = IsOver l enclosing (take count after) q r source target line
IsFirstLine l enclosing _ line = Unit {0}

-- wherever the entities have their places, the line is that of the quantifier at its position among the nodes
abbrev pub IsRight : Look → List Node → KeptLine → Type 0
IsRight l nodes k = (enclosing : List InstanceId) → AreSpots l enclosing k.spots → IsFirstLine l enclosing (from_position k.position nodes) k.line

abbrev pub AreRight : Look → List Node → List KeptLine → Type 0
AreRight l nodes ks = All (IsRight l nodes) ks

-- where the lines that are kept are right, this one is
abbrev pub IsKept : Look → List InstanceId → List KeptLine → ℕ → List (ℕ × Value) → Type 0
IsKept l enclosing ks position line = (nodes : List Node) → AreRight l nodes ks → IsFirstLine l enclosing (from_position position nodes) line

-- at two lists of enclosing instances a quantifier's source has one place, and so has each entity that its operand mentions
pub record Agrees (l : Look) (source target : ℕ) (operand : List Node) (e f : List InstanceId) : Type 0 where
  pub source_same : place l.container e source ≡ place l.container f source
  pub others_same : (o : ℕ) → Mentions o operand → (o == target) ≡ false → place l.container e o ≡ place l.container f o

-- a line that was determined at these enclosing instances, and the places on which it depends
pub record IsNew (l : Look) (enclosing : List InstanceId) (source target : ℕ) (operand : List Node) (position : ℕ) (line : List (ℕ × Value)) (k : KeptLine) : Type 0 where
  pub at : k.position ≡ position
  pub copied : StandsFor DAYS (day_value line) k.line
  pub depends : (f : List InstanceId) → AreSpots l f k.spots → Agrees l source target operand enclosing f

-- what is kept stays right once the line of this quantifier, which was determined at these enclosing instances, is kept
abbrev pub StayRight : Look → List InstanceId → ℕ → ℕ → List Node → ℕ → List (ℕ × Value) → List KeptLine → List KeptLine → Type 0
StayRight l enclosing source target operand position line old new = (nodes : List Node) (q : Quant) (r : RelId) (count : ℕ) (after : List Node) → from_position position nodes ≡ node.Over q r source target count ∷ after → operand ≡ take count after
    → IsOver l enclosing operand q r source target line → AreRight l nodes old → AreRight l nodes new

-- the line is the quantifier's, and what is kept stays right
pub record IsLineAmong (l : Look) (enclosing : List InstanceId) (q : Quant) (r : RelId) (source target count : ℕ) (after nodes : List Node) (line : List (ℕ × Value)) (new : List KeptLine) : Type 0 where
  pub is : IsOver l enclosing (take count after) q r source target line
  pub right : AreRight l nodes new
