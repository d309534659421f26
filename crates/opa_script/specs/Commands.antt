-- Which command a line is, given what a model declares, and why it is none.
use Rattle.std.specs.Prelude.{◌≡◌, ◌≤◌, ◌<◌, ◌⊎◌, ◌*◌, ◌^◌, ℕ, pos, List, [], ◌∷◌, length, true, false, Option, None, Some, IsSome, Ok}
use Rattle.opa_value.specs.declared.value.Value.{Value}
use Rattle.opa_value.specs.NumberText.{read_number}
use Rattle.opa_date.specs.Texts.{read_day}
use Rattle.opa_model.specs.declared.ids.AttrId.{AttrId}
use Rattle.opa_model.specs.declared.ids.EntityId.{EntityId}
use Rattle.opa_model.specs.declared.ids.RelId.{RelId}
use Rattle.opa_model.specs.declared.things.Attribute.{Attribute}
use Rattle.opa_model.specs.declared.things.Relation.{Relation}
use Rattle.opa_model.specs.declared.lists.Lists.{Lists}
use Rattle.opa_model.specs.Lookups.{attribute_at, relation_at, attribute_named, relation_named}
use Rattle.opa_cells.specs.declared.instance.InstanceId.{InstanceId}
use Rattle.opa_cells.specs.Instances.{global}
use Rattle.opa_case.specs.declared.change.ChangeCommand.TheVariants as change
use Rattle.opa_words.specs.Pieces.{Piece, number, text}
use Rattle.opa_text.specs.Spelled.{SpellsLine, SpellsNames}
use Rattle.opa_script.specs.declared.command.Command.{Command}
use Rattle.opa_script.specs.declared.command.Command.TheVariants as command
use Rattle.opa_script.specs.declared.fault.CmdFault.{CmdFault}
use Rattle.opa_script.specs.declared.fault.CmdFault.TheVariants as fault
use Rattle.opa_text.specs.declared.pointed.Point.{Point}
use Rattle.opa_script.specs.declared.verbs.Verb.{Verb}
use Rattle.opa_script.specs.declared.verbs.Verb.TheVariants as verb
use Rattle.opa_script.specs.Lines.{is_idle, HasTokens}
use Rattle.opa_text.specs.Pointed.{SpellsPoint, SpellsDated}
use Rattle.opa_script.specs.Shapes.{Begins, SpellsGiven, HasShape, AreShort}
use Rattle.opa_io.specs.declared.limits.TheConstants.{MOST_FILE_NAME}

-- ---- what a phrase names

-- the instance of an entity that is named, and the global one where none is
abbrev pub instance_of : EntityId → Option (List ℕ) → InstanceId
instance_of e None = global
instance_of e (Some n) = record { entity = e; name = n }

-- the entity of an attribute, and the source of a relation
abbrev pub HasEntityOf : Lists → AttrId → EntityId → Type 0
HasEntityOf m a e = (x : Attribute) × (attribute_at m a ≡ Some x) × (e ≡ x.entity)

abbrev pub HasSourceOf : Lists → RelId → EntityId → Type 0
HasSourceOf m r e = (x : Relation) × (relation_at m r ≡ Some x) × (e ≡ x.source)

-- the attribute with the point's phrase, and the instance of its entity
abbrev pub NamesAttribute : Lists → Point → AttrId → InstanceId → Type 0
NamesAttribute m p a i = (attribute_named m p.phrase ≡ Some a) × ((e : EntityId) × HasEntityOf m a e × (i ≡ instance_of e p.name))

-- the relation with the point's phrase, and the instance of its source
abbrev pub NamesRelation : Lists → Point → RelId → InstanceId → Type 0
NamesRelation m p r i = (relation_named m p.phrase ≡ Some r) × ((e : EntityId) × HasSourceOf m r e × (i ≡ instance_of e p.name))

abbrev pub IsAttribute : Lists → Point → Type 0
IsAttribute m p = IsSome (attribute_named m p.phrase)

abbrev pub IsRelation : Lists → Point → Type 0
IsRelation m p = IsSome (relation_named m p.phrase)

-- The shape is met, and the phrase is of the right sort.
abbrev pub HasSort : Lists → Verb → List Piece → Type 0
HasSort m verb.Answer ps = (p : Point) × (after : List Piece) × SpellsGiven p after ps × IsAttribute m p
HasSort m verb.Withdraw ps = (p : Point) × SpellsPoint p ps × IsAttribute m p
HasSort m verb.SetList ps = (p : Point) × (after : List Piece) × SpellsGiven p after ps × IsRelation m p
HasSort m verb.Forget ps = (p : Point) × SpellsPoint p ps × IsRelation m p
HasSort m verb.Show ps = (p : Point) × SpellsPoint p ps × (IsAttribute m p ⊎ IsRelation m p)
HasSort m verb.Report ps = (p : Point) × (t : List ℕ) × SpellsDated p t ps × IsAttribute m p
HasSort m verb.Save ps = HasShape verb.Save ps
HasSort m verb.Load ps = HasShape verb.Load ps
HasSort m verb.Dismiss ps = HasShape verb.Dismiss ps
HasSort m verb.Goals ps = HasShape verb.Goals ps
HasSort m verb.Next ps = HasShape verb.Next ps
HasSort m verb.Screen ps = HasShape verb.Screen ps
HasSort m verb.Stats ps = HasShape verb.Stats ps

-- ---- what is read

-- a name of a file has 1 to 100 bytes
abbrev pub IsFileName : List ℕ → Type 0
IsFileName t = (1 ≤ length t) × (length t ≤ MOST_FILE_NAME)

-- a whole number below 2^32
abbrev pub SaysCount : ℕ → List ℕ → Type 0
SaysCount n t = (read_number t ≡ Ok (pos (n * 10000))) × (n < 2 ^ 32)

-- an attribute's phrase shows its value, a relation's its members
abbrev pub Shows : Lists → Point → Command → Type 0
Shows m p c = ((a : AttrId) × (i : InstanceId) × NamesAttribute m p a i × (c ≡ command.ShowAttr a i)) ⊎ ((r : RelId) × (i : InstanceId) × NamesRelation m p r i × (c ≡ command.ShowMembers r i))

-- what stands behind the word of a command says this one, whatever the length of its texts
abbrev pub Says : Lists → Verb → List Piece → Command → Type 0
Says m verb.Answer ps c = (p : Point) × (after : List Piece) × (a : AttrId) × (i : InstanceId) × (l : List (ℕ × Value)) × SpellsGiven p after ps × NamesAttribute m p a i × SpellsLine l after × (c ≡ command.Change (change.Answer a i l))
Says m verb.Withdraw ps c = (p : Point) × (a : AttrId) × (i : InstanceId) × SpellsPoint p ps × NamesAttribute m p a i × (c ≡ command.Change (change.Withdraw a i))
Says m verb.SetList ps c = (p : Point) × (after : List Piece) × (r : RelId) × (i : InstanceId) × (ns : List (List ℕ)) × SpellsGiven p after ps × NamesRelation m p r i × SpellsNames ns after × (c ≡ command.Change (change.SetList r i ns))
Says m verb.Forget ps c = (p : Point) × (r : RelId) × (i : InstanceId) × SpellsPoint p ps × NamesRelation m p r i × (c ≡ command.Change (change.Forget r i))
Says m verb.Show ps c = (p : Point) × SpellsPoint p ps × Shows m p c
Says m verb.Report ps c = (p : Point) × (t : List ℕ) × (a : AttrId) × (i : InstanceId) × (d : ℕ) × SpellsDated p t ps × NamesAttribute m p a i × (read_day t ≡ Ok d) × (c ≡ command.Report a i d)
Says m verb.Save ps c = (t : List ℕ) × (ps ≡ text t ∷ []) × IsFileName t × (c ≡ command.Save t)
Says m verb.Load ps c = (t : List ℕ) × (ps ≡ text t ∷ []) × IsFileName t × (c ≡ command.Load t)
Says m verb.Dismiss ps c = (t : List ℕ) × (n : ℕ) × (ps ≡ number t ∷ []) × SaysCount n t × (c ≡ command.Dismiss n)
Says m verb.Goals ps c = (ps ≡ []) × (c ≡ command.Goals)
Says m verb.Next ps c = (ps ≡ []) × (c ≡ command.Next)
Says m verb.Screen ps c = (ps ≡ []) × (c ≡ command.Screen)
Says m verb.Stats ps c = (ps ≡ []) × (c ≡ command.Stats)

-- and no text is over 1,000 bytes
abbrev pub IsRead : Lists → Verb → List Piece → Command → Type 0
IsRead m v ps c = AreShort ps × Says m v ps c

-- why it is none: it hasn't the shape; it has, and the phrase isn't of the right sort; it is, and no command is read
abbrev pub IsRefused : Lists → Verb → List Piece → CmdFault → Type 0
IsRefused m v ps fault.NotACommand = HasShape v ps → ⊥
IsRefused m v ps fault.Name = HasShape v ps × (HasSort m v ps → ⊥)
IsRefused m v ps fault.Value = HasSort m v ps × ((c : Command) → IsRead m v ps c → ⊥)
IsRefused m v ps fault.NoMemory = Unit {0}

-- ---- tokens

-- the tokens are this command
abbrev pub AreCommand : Lists → List Piece → Command → Type 0
AreCommand m ps c = (v : Verb) × (rest : List Piece) × Begins v ps rest × IsRead m v rest c

-- the tokens are none, for this reason
abbrev pub AreNone : Lists → List Piece → CmdFault → Type 0
AreNone m ps fault.NotACommand = (v : Verb) (rest : List Piece) → Begins v ps rest → HasShape v rest → ⊥
AreNone m ps fault.Name = (v : Verb) × (rest : List Piece) × Begins v ps rest × IsRefused m v rest fault.Name
AreNone m ps fault.Value = (v : Verb) × (rest : List Piece) × Begins v ps rest × IsRefused m v rest fault.Value
AreNone m ps fault.NoMemory = Unit {0}

-- ---- lines

-- a blank line and a comment are nothing; another line is the command that its tokens are
abbrev pub IsCommand : Lists → List ℕ → Command → Type 0
IsCommand m bytes c = ((is_idle bytes ≡ true) × (c ≡ command.Nothing)) ⊎ ((is_idle bytes ≡ false) × ((ps : List Piece) × HasTokens bytes ps × AreCommand m ps c))

-- The line is no command, for this reason. A blank line and a comment have none.
abbrev pub IsNoCommand : Lists → List ℕ → CmdFault → Type 0
IsNoCommand m bytes fault.NotACommand = (is_idle bytes ≡ false) × ((ps : List Piece) → HasTokens bytes ps → AreNone m ps fault.NotACommand)
IsNoCommand m bytes fault.Name = (is_idle bytes ≡ false) × ((ps : List Piece) × HasTokens bytes ps × AreNone m ps fault.Name)
IsNoCommand m bytes fault.Value = (is_idle bytes ≡ false) × ((ps : List Piece) × HasTokens bytes ps × AreNone m ps fault.Value)
IsNoCommand m bytes fault.NoMemory = Unit {0}

-- ---- on the way there

abbrev pub NamesNothing : Lists → Point → Type 0
NamesNothing m p = (attribute_named m p.phrase ≡ None) × (relation_named m p.phrase ≡ None)

-- the tokens are the name of a file, or why they are none
abbrev pub IsFile : List Piece → List ℕ → Type 0
IsFile ps t = (ps ≡ text t ∷ []) × IsFileName t

abbrev pub IsNoFile : List Piece → CmdFault → Type 0
IsNoFile ps fault.NotACommand = (t : List ℕ) → ps ≡ text t ∷ [] → ⊥
IsNoFile ps fault.Name = ⊥
IsNoFile ps fault.Value = ((t : List ℕ) × (ps ≡ text t ∷ [])) × ((t : List ℕ) → ps ≡ text t ∷ [] → IsFileName t → ⊥)
IsNoFile ps fault.NoMemory = Unit {0}
