-- The faults of declarations.
use Rattle.std.specs.Prelude.{ℕ, ◌+◌, List, [], ◌∷◌, ◌++◌, flat_map, length, Bool, false, not, ◌&&◌, ◌||◌, ◌==◌, nat_lt, nat_le, Option, Some, None, slice_get, if◌then◌else◌}
use Rattle.std.specs.List.{list_any}
use Rattle.std.specs.Str.{bytes_eq}
use Rattle.opa_model.specs.declared.things.Attribute.{Attribute}
use Rattle.opa_tree.specs.declared.faults.RbFault.{RbFault}
use Rattle.opa_tree.specs.declared.faults.RbKind.{RbKind}
use Rattle.opa_tree.specs.declared.faults.RbKind.TheVariants.{Limit, Name as Unnamed, Scope, Twice}
use Rattle.opa_decl.specs.declared.items.Item.{Item}
use Rattle.opa_decl.specs.declared.items.Item.TheVariants as item
use Rattle.opa_decl.specs.declared.items.Name.{Name}
use Rattle.opa_decl.specs.declared.items.Place.{Place}
use Rattle.opa_decl.specs.declared.items.Sort.{Sort}
use Rattle.opa_decl.specs.declared.items.Sort.TheVariants as sort
use Rattle.opa_decl.specs.declared.numbered.Counts.{Counts}
use Rattle.opa_decl.specs.declared.numbered.Numbered.{Numbered}
use Rattle.opa_decl.specs.Names.{Tables, place, is_declared, verb_name, entity_name, goal_name, screen_name, file_name, verb_in, forms}
use Rattle.opa_decl.specs.Numbering.{is_every}
use Rattle.opa_decl.specs.Lists.{attribute_in}
use Rattle.opa_io.specs.declared.limits.TheConstants.{MOST_PHRASE, MOST_FILE_NAME, MOST_ATTRIBUTES, MOST_EVERY}

abbrev pub fault_at : RbKind → Place → RbFault
fault_at kind at = record { file = at.file; line = at.line; kind = kind; cycle = [] }

-- the fault, where the test holds
abbrev pub when : Bool → RbKind → Place → List RbFault
when test kind at = if test then fault_at kind at ∷ [] else []

-- ---- what is over its number

abbrev pub over : ℕ → Name → List RbFault
over most n = when (nat_lt most (length n.text)) Limit n.place

abbrev pub over_parent : Option Name → List RbFault
over_parent None = []
over_parent (Some p) = over MOST_PHRASE p

-- a phrase or title of more than 1,000 bytes, and a file name of more than 100
abbrev pub long_names : Item → List RbFault
long_names (item.Verb v) = []
long_names (item.Entity e) = over MOST_PHRASE e.phrase ++ (over_parent e.parent ++ over MOST_PHRASE e.inside)
long_names (item.Attribute a) = over MOST_PHRASE a.phrase
long_names (item.Relation r) = over MOST_PHRASE r.phrase ++ over MOST_PHRASE r.target
long_names (item.Goal g) = over MOST_PHRASE g
long_names (item.Screen s) = over MOST_PHRASE s.title ++ flat_map (over MOST_PHRASE) s.items
long_names (item.File f) = over MOST_FILE_NAME f

-- an attribute behind 4,000 others, and an `every` line behind sixteen others
abbrev pub too_many : Counts → Item → List RbFault
too_many c (item.Attribute a) = when (nat_le MOST_ATTRIBUTES c.attributes) Limit a.phrase.place
too_many c (item.Relation r) = when (is_every r.reach && nat_le MOST_EVERY c.every) Limit r.phrase.place
too_many c i = []

abbrev pub limit_faults : Numbered → List RbFault
limit_faults n = long_names n.item ++ too_many n.before n.item

-- ---- names that are not declared

abbrev pub unknown : List (List ℕ) → Name → List RbFault
unknown names n = when (not (is_declared names n.text)) Unnamed n.place

abbrev pub is_of_another : Option Attribute → Bool
is_of_another None = false
is_of_another (Some a) = not (a.entity.0 == 0)

module _ (t : Tables) where
  -- a parent is declared earlier
  abbrev pub unknown_parent : Counts → Option Name → List RbFault
  unknown_parent c None = []
  unknown_parent c (Some p) = when (not (nat_lt (1 + place t.entities p.text) c.entities)) Unnamed p.place

  -- a verb is declared earlier
  abbrev pub unknown_verb : Counts → Place → Sort → List RbFault
  unknown_verb c at (sort.Bool said) = when (not (nat_lt (place t.verbs said.positive) c.verbs)) Unnamed at
  unknown_verb c at (sort.Number b) = []
  unknown_verb c at (sort.Currency b) = []
  unknown_verb c at sort.Words = []
  unknown_verb c at sort.Date = []

  -- an attribute or a relation
  abbrev pub unknown_item : Name → List RbFault
  unknown_item n = when (not (is_declared t.attributes n.text || is_declared t.relations n.text)) Unnamed n.place

  abbrev pub unknown_names : Counts → Item → List RbFault
  unknown_names c (item.Verb v) = []
  unknown_names c (item.Entity e) = unknown_parent c e.parent
  unknown_names c (item.Attribute a) = unknown_verb c a.phrase.place a.sort
  unknown_names c (item.Relation r) = unknown t.entities r.target
  unknown_names c (item.Goal g) = unknown t.attributes g
  unknown_names c (item.Screen s) = flat_map unknown_item s.items
  unknown_names c (item.File f) = []

  abbrev pub name_faults : Numbered → List RbFault
  name_faults n = unknown_names n.before n.item

  -- ---- goals that are not of the global entity

  abbrev pub scope_faults : List Attribute → Name → List RbFault
  scope_faults attributes g = when (is_of_another (slice_get attributes (place t.attributes g.text))) Scope g.place

-- ---- what stands a second time

-- one of these texts is this one
abbrev pub stands : List (List ℕ) → List ℕ → Bool
stands seen text = list_any (bytes_eq text) seen

-- each name whose text is among those that were seen before
abbrev pub repeated : List (List ℕ) → List Name → List RbFault
repeated seen [] = []
repeated seen (n ∷ ns) = if stands seen n.text then fault_at Twice n.place ∷ repeated seen ns else repeated (seen ++ n.text ∷ []) ns

-- verbs, entities, phrases and negative forms, goals, what stands on screens, and files
unfoldable pub twice_faults : Tables → List Item → List RbFault
twice_faults t items =
    repeated [] (flat_map verb_name items)
    ++ (repeated [] (flat_map entity_name items)
    ++ (repeated [] (flat_map (forms t.verbs (flat_map verb_in items)) items)
    ++ (repeated [] (flat_map goal_name items)
    ++ (repeated [] (flat_map screen_name items)
    ++ repeated [] (flat_map file_name items)))))

-- all faults of declarations that are spelled
unfoldable pub faults_by : Tables → List Item → List Numbered → List RbFault
faults_by t items ns =
    flat_map limit_faults ns ++ (flat_map (name_faults t) ns ++ (flat_map (scope_faults t (flat_map (attribute_in t) ns)) (flat_map goal_name items) ++ twice_faults t items))
