-- What a part of a run leads to.
use Rattle.std.specs.Prelude.{◌≡◌, ℕ, ◌<◌, ◌-◌, Bool, true, false, List, [], ◌∷◌, ◌++◌, map, length, take, drop, Option, None, Some}
use Rattle.opa_date.specs.declared.TheConstants.{DAYS}
use Rattle.opa_value.specs.declared.value.Value.{Value}
use Rattle.opa_value.specs.declared.value.Value.TheVariants.{Bool as Truth}
use Rattle.opa_line.specs.Lines.{StandsFor}
use Rattle.opa_model.specs.declared.ids.AttrId.{AttrId}
use Rattle.opa_model.specs.declared.ids.RelId.{RelId}
use Rattle.opa_tree.specs.declared.kinds.Quant.{Quant}
use Rattle.opa_tree.specs.declared.kinds.Quant.TheVariants as quant
use Rattle.opa_window.specs.Days.{day_value}
use Rattle.opa_cells.specs.Instances.{named}
use Rattle.opa_cells.specs.declared.instance.InstanceId.{InstanceId}
use Rattle.opa_mean.specs.Looks.{Look}
use Rattle.opa_mean.specs.Meaning.{Meaning, choose, each, first_value, item, over}
use Rattle.opa_code.specs.OverLines.Additions.{Gathered, IsAdded}
use Rattle.opa_code.specs.OverLines.Lines.{Has, Stand, values_at}
use Rattle.opa_code.specs.OverLines.Tallies.{gather_of}
use Rattle.opa_code.specs.declared.over_lines.gathering.Gathering.{Gathering}
use Rattle.opa_code.specs.declared.over_lines.items.Items.{Items}
use Rattle.opa_code.specs.Running.{Run, over_meaning, IsDecided}
use Rattle.opa_code.specs.declared.node.Decider.{Decider}
use Rattle.opa_code.specs.declared.node.Node.{Node}
use Rattle.opa_code.specs.declared.node.Node.TheVariants as node

-- lines stand for a stack from which the nodes lead to the end
pub record Stands (l : Look) (enclosing : List InstanceId) (lines : List (List (ℕ × Value))) (nodes : List Node) (end : List Meaning) : Type 0 where
  pub stack : List Meaning
  pub stand : Stand enclosing lines stack
  pub goes : Run l nodes stack end

-- wherever the nodes lead, those that are left lead there too
abbrev pub Keeps : Look → List InstanceId → List (List (ℕ × Value)) → List Node → List (List (ℕ × Value)) → List Node → Type 0
Keeps l enclosing old nodes new rest = (end : List Meaning) → Stands l enclosing old nodes end → Stands l enclosing new rest end

-- the lines stand for what the nodes leave
abbrev pub Leaves : Look → List InstanceId → List Node → List (List (ℕ × Value)) → Type 0
Leaves l enclosing nodes lines = (end : List Meaning) → Run l nodes [] end → Stand enclosing lines end

-- what a quantifier's node says: what it makes of which relation's members, their entities, and how many nodes follow
abbrev pub over_at : Node → Option (Quant × (RelId × (ℕ × (ℕ × ℕ))))
over_at (node.Over q r source target count) = Some (q, (r, (source, (target, count))))
over_at _ = None

-- what decides, how many results are dropped, and how many nodes are passed over
abbrev pub leave_at : Node → Option (Decider × (ℕ × ℕ))
leave_at (node.Leave how dropped count) = Some (how, (dropped, count))
leave_at _ = None

-- how many nodes are passed over
abbrev pub pass_at : Node → Option ℕ
pass_at (node.Pass count) = Some count
pass_at _ = None

-- the newest line decides, or the first one before it
abbrev pub AreDecided : Decider → List (List (ℕ × Value)) → List (ℕ × Value) → Type 0
AreDecided how before newest = (d : ℕ) → d < DAYS → IsDecided how (values_at before d) (day_value newest d)

-- the newest line is put back, in place of those that decide
abbrev pub IsPutBack : Decider → ℕ → Bool → List (List (ℕ × Value)) → List (ℕ × Value) → List (List (ℕ × Value)) → Type 0
IsPutBack how dropped true old newest new = AreDecided how (drop (length old - dropped) old) newest × (new ≡ take (length old - dropped) old ++ newest ∷ [])
IsPutBack how dropped false old newest new = new ≡ old ++ newest ∷ []

-- the newest line is false on every day
pub record IsRefuted (lines : List (List (ℕ × Value))) : Type 0 where
  pub before : List (List (ℕ × Value))
  pub newest : List (ℕ × Value)
  pub is : lines ≡ before ++ newest ∷ []
  pub false_always : (d : ℕ) → day_value newest d ≡ Truth false

-- a condition, a value and what stands behind them are taken from the end, and what is chosen is put there
pub record IsChosen (old new : List (List (ℕ × Value))) : Type 0 where
  pub below : List (List (ℕ × Value))
  pub test : List (ℕ × Value)
  pub value : List (ℕ × Value)
  pub rest : List (ℕ × Value)
  pub line : List (ℕ × Value)
  pub is : old ≡ ((below ++ test ∷ []) ++ value ∷ []) ++ rest ∷ []
  pub new_is : new ≡ below ++ line ∷ []
  pub has : Has (λ d. choose (day_value test d) (day_value value d) (day_value rest d)) line

abbrev pub IsOver : Look → List InstanceId → List Node → Quant → RelId → ℕ → ℕ → List (ℕ × Value) → Type 0
IsOver l enclosing operand q r source target line = (ms : List Meaning) → Run l operand [] ms → StandsFor DAYS (over_meaning l q r source target ms enclosing) line

-- over these names
abbrev pub IsListed : Look → List InstanceId → List Node → Quant → ℕ → List (List ℕ) → List (ℕ × Value) → Type 0
IsListed l enclosing operand q target names line = (ms : List Meaning) → Run l operand [] ms → StandsFor DAYS (over q target (Some names) ms enclosing) line

-- over these names, as a list of what the quantifier makes of the operands at each of them
abbrev pub items_at : Quant → ℕ → List Meaning → List InstanceId → List (List ℕ) → ℕ → List Value
items_at q target ms enclosing names d = map (λ name. item q (each ms (named target name ∷ enclosing) d)) names

-- the line is that of the first name
abbrev pub IsFirst : Look → List InstanceId → List Node → Quant → ℕ → List (List ℕ) → List (ℕ × Value) → Type 0
IsFirst l enclosing operand q target names line = (ms : List Meaning) → Run l operand [] ms → StandsFor DAYS (λ d. first_value (items_at q target ms enclosing names d)) line

-- the line says what is gathered from all names
abbrev pub IsGathered : Look → List InstanceId → List Node → Quant → Gathering → ℕ → List (List ℕ) → List (ℕ × Value) → Type 0
IsGathered l enclosing operand q how target names line = (ms : List Meaning) → Run l operand [] ms → StandsFor DAYS (λ d. gather_of how (items_at q target ms enclosing names d)) line

-- what the quantifier makes of the operands at these enclosing instances is added
pub record IsItem (l : Look) (enclosing : List InstanceId) (operand : List Node) (q : Quant) (old new : Items) : Type 0 where
  pub value : ℕ → Value
  pub added : IsAdded value old new
  pub right : (ms : List Meaning) → Run l operand [] ms → (d : ℕ) → d < DAYS → value d ≡ item q (each ms enclosing d)

-- what the quantifier makes of the operands at each name was added
pub record Collected (l : Look) (enclosing : List InstanceId) (operand : List Node) (q : Quant) (how : Gathering) (target : ℕ) (names : List (List ℕ)) (held : Items) : Type 0 where
  pub values : ℕ → List Value
  pub gathering : held.gathering ≡ how
  pub gathered : Gathered values held
  pub size : length (values 0) ≡ length names
  pub right : (ms : List Meaning) → Run l operand [] ms → (d : ℕ) → d < DAYS → values d ≡ items_at q target ms enclosing names d

-- the enclosing instances behind a first place
pub record HasPlace (enclosing all : List InstanceId) : Type 0 where
  pub some : 0 < length all
  pub behind : drop 1 all ≡ enclosing

-- the attribute that a node reads
abbrev pub attribute_in : Node → Option (AttrId × ℕ)
attribute_in (node.Attr a owner) = Some (a, owner)
attribute_in _ = None

-- the attribute that the only node reads
abbrev pub attribute_at : List Node → Option (AttrId × ℕ)
attribute_at (n ∷ []) = attribute_in n
attribute_at _ = None

-- whether the quantifier says how many there are, whatever holds of them
abbrev pub is_count : Quant → Bool
is_count quant.Count = true
is_count _ = false
