-- The parts of the document that says what a rulebase declares.
use Rattle.std.specs.Prelude.{ℕ, zero, suc, ◌==◌, nat_lt, ℤ, Bool, true, false, List, [], ◌∷◌, ◌++◌, map, Option, None, Some, option_map, codes, slice_index_or, if◌then◌else◌}
use Rattle.std.specs.Int.RustNames.{unsigned_abs}
use Rattle.std.specs.Option.{option_and_then}
use Rattle.serde_json.specs.Data.{Data, null, boolean, number, unsigned, string, array, object, member, no_members}
use Rattle.serde_json.specs.View.{items_of}
use Rattle.opa_io.specs.declared.limits.TheConstants as limit
use Rattle.opa_value.specs.Numbers.{kept, most}
use Rattle.opa_value.specs.NumberText.{plain_text}
use Rattle.opa_model.specs.declared.ids.AttrId.{AttrId}
use Rattle.opa_model.specs.declared.ids.EntityId.{EntityId}
use Rattle.opa_model.specs.declared.ids.RelId.{RelId}
use Rattle.opa_model.specs.declared.lists.Lists.{Lists}
use Rattle.opa_model.specs.declared.things.Attribute.{Attribute}
use Rattle.opa_model.specs.declared.things.Entity.{Entity}
use Rattle.opa_model.specs.declared.things.Item.{Item}
use Rattle.opa_model.specs.declared.things.Item.TheVariants as item
use Rattle.opa_model.specs.declared.things.Kind.{Kind}
use Rattle.opa_model.specs.declared.things.Kind.TheVariants as kind
use Rattle.opa_model.specs.declared.things.Relation.{Relation}
use Rattle.opa_model.specs.declared.things.Screen.{Screen}
use Rattle.opa_model.specs.declared.things.Sentence.{Sentence}
use Rattle.opa_model.specs.declared.things.Verb.{Verb}
use Rattle.opa_model.specs.Lookups.{entity_at, attribute_at, relation_at, verb_at, screen_at, goal_at}
use Rattle.opa_verbs.specs.declared.sentence.Form.TheVariants as form
use Rattle.opa_verbs.specs.Forms.{said}
use Rattle.opa_tree.specs.declared.rules.Rule.{Rule}
use Rattle.opa_tree.specs.Mentions.{mentions}
use Rattle.opa_rules.specs.Describing.Ranges.{ranges}

-- ---- parts

abbrev pub list_data : List Data → Data
list_data ds = array (items_of ds)

-- a text, where there is one
abbrev pub text_or_null : Option (List ℕ) → Data
text_or_null None = null
text_or_null (Some t) = string t

-- what the first n places say
unfoldable pub upto : (ℕ → Data) → ℕ → List Data
upto f zero = []
upto f (suc n) = upto f n ++ f n ∷ []

abbrev pub attr : ℕ → AttrId
attr n = record { 0 = n }

abbrev pub rel : ℕ → RelId
rel n = record { 0 = n }

abbrev pub entity : ℕ → EntityId
entity n = record { 0 = n }

-- ---- phrases

-- the phrase of an entity; the global one is the case itself, and has none
abbrev pub entity_phrase : Lists → EntityId → Option (List ℕ)
entity_phrase m e = if e.0 == 0 then None else option_map (λ x. x.phrase) (entity_at m e)

abbrev pub attribute_phrase : Lists → AttrId → Option (List ℕ)
attribute_phrase m a = option_map (λ x. x.phrase) (attribute_at m a)

abbrev pub relation_phrase : Lists → RelId → Option (List ℕ)
relation_phrase m r = option_map (λ x. x.phrase) (relation_at m r)

abbrev pub entity_name : Lists → EntityId → Data
entity_name m e = text_or_null (entity_phrase m e)

abbrev pub attribute_name : Lists → AttrId → Data
attribute_name m a = text_or_null (attribute_phrase m a)

abbrev pub relation_name : Lists → RelId → Data
relation_name m r = text_or_null (relation_phrase m r)

-- ---- attributes

abbrev pub kind_text : Kind → List ℕ
kind_text kind.Bool = codes "bool"
kind_text kind.Number = codes "number"
kind_text kind.Currency = codes "currency"
kind_text kind.Words = codes "text"
kind_text kind.Date = codes "date"

abbrev pub is_counted : Kind → Bool
is_counted kind.Bool = false
is_counted kind.Number = true
is_counted kind.Currency = true
is_counted kind.Words = false
is_counted kind.Date = false

abbrev pub decimals_data : Kind → ℕ → Data
decimals_data k n = if is_counted k then number (unsigned n) else null

abbrev pub plain_of : ℤ → Option (List ℕ)
plain_of z = option_map plain_text (kept z)

-- a bound, where it is narrower than that of all numbers
abbrev pub bound_text : ℤ → Option (List ℕ)
bound_text z = if nat_lt (unsigned_abs z) most then plain_of z else None

abbrev pub bound_data : Kind → ℤ → Data
bound_data k z = if is_counted k then text_or_null (bound_text z) else null

-- the denied sentence
abbrev pub denied_data : Lists → Option Sentence → Data
denied_data m s = text_or_null (option_and_then (λ x. said m x form.Negative) s)

-- a sentence's parts, with the forms of its verb
abbrev pub spoken_data : Sentence → Verb → Data
spoken_data s v =
    object
    (member (codes "ask") (string v.ask)
    (member (codes "denied") (string v.negative)
    (member (codes "rest") (string s.rest)
    (member (codes "said") (string v.positive)
    (member (codes "subject") (string s.subject)
    (member (codes "tail") (string v.rest) no_members))))))

abbrev pub spoken_by : Sentence → Option Verb → Data
spoken_by s None = null
spoken_by s (Some v) = spoken_data s v

abbrev pub sentence_data : Lists → Option Sentence → Data
sentence_data m None = null
sentence_data m (Some s) = spoken_by s (verb_at m s.verb)

-- ---- rules

abbrev pub mentions_data : Lists → List AttrId → List RelId → Data
mentions_data m attrs rels =
    object (member (codes "attributes") (list_data (map (attribute_name m) attrs)) (member (codes "lists") (list_data (map (relation_name m) rels)) no_members))

abbrev pub rule_with : Lists → List (List ℕ) → Rule → Data
rule_with m files r =
    object
    (member (codes "file") (string (slice_index_or files r.file []))
    (member (codes "line") (number (unsigned r.line))
    (member (codes "mentions") (mentions_data m (mentions r.expr) (ranges r.expr)) no_members)))

-- where the rule stands, and what it mentions; what has none is asked
abbrev pub rule_data : Lists → List (List ℕ) → Option Rule → Data
rule_data m files None = null
rule_data m files (Some r) = rule_with m files r

-- ---- things

-- an attribute, with what is said of it elsewhere
abbrev pub attribute_with : Data → Data → Data → Data → Lists → Attribute → Data
attribute_with denied asked rule screen m a =
    object
    (member (codes "decimals") (decimals_data a.kind a.decimals)
    (member (codes "denied") denied
    (member (codes "entity") (entity_name m a.entity)
    (member (codes "kind") (string (kind_text a.kind))
    (member (codes "least") (bound_data a.kind a.least)
    (member (codes "most") (bound_data a.kind a.most)
    (member (codes "phrase") (string a.phrase)
    (member (codes "question") asked
    (member (codes "rule") rule
    (member (codes "screen") screen
    (member (codes "sentence") (sentence_data m a.sentence) no_members)))))))))))

abbrev pub sort_text : Relation → List ℕ
sort_text r =
    if r.contains then codes "contains" else
    if r.every then codes "every" else
    if r.one then codes "one" else codes "many"

abbrev pub relation_with : Data → Data → Lists → Relation → Data
relation_with asked screen m r =
    object
    (member (codes "of") (entity_name m r.source)
    (member (codes "phrase") (string r.phrase)
    (member (codes "question") asked
    (member (codes "rule") null
    (member (codes "screen") screen
    (member (codes "sort") (string (sort_text r)) (member (codes "to") (entity_name m r.target) no_members)))))))

abbrev pub entity_with : Lists → Entity → Data
entity_with m e = object (member (codes "in") (entity_name m e.parent) (member (codes "list") (relation_name m e.contained) (member (codes "phrase") (string e.phrase) no_members)))

abbrev pub entity_by : Lists → Option Entity → Data
entity_by m None = null
entity_by m (Some e) = entity_with m e

-- those behind the global one
abbrev pub entity_data : Lists → ℕ → Data
entity_data m n = entity_by m (entity_at m (entity (suc n)))

abbrev pub item_name : Lists → Item → Data
item_name m (item.Attr a) = attribute_name m a
item_name m (item.Members r) = relation_name m r

abbrev pub screen_with : Lists → Screen → Data
screen_with m s = object (member (codes "shows") (list_data (map (item_name m) s.items)) (member (codes "title") (string s.title) no_members))

abbrev pub screen_by : Lists → Option Screen → Data
screen_by m None = null
screen_by m (Some s) = screen_with m s

abbrev pub screen_data : Lists → ℕ → Data
screen_data m n = screen_by m (screen_at m n)

abbrev pub goal_by : Lists → Option AttrId → Data
goal_by m None = null
goal_by m (Some a) = attribute_name m a

abbrev pub goal_data : Lists → ℕ → Data
goal_data m n = goal_by m (goal_at m n)

abbrev pub file_data : List ℕ → Data
file_data name = object (member (codes "name") (string name) no_members)

-- ---- the whole

abbrev pub limits_data : Data
limits_data =
    object
    (member (codes "answers") (number (unsigned limit.MOST_ANSWERS))
    (member (codes "case_name") (number (unsigned limit.MOST_CASE_NAME))
    (member (codes "decimals") (number (unsigned 4))
    (member (codes "first_day") (string (codes "1600-01-01"))
    (member (codes "instances") (number (unsigned limit.MOST_INSTANCES))
    (member (codes "last_day") (string (codes "2399-12-31"))
    (member (codes "line") (number (unsigned limit.MOST_LINE))
    (member (codes "name") (number (unsigned limit.MOST_INSTANCE_NAME))
    (member (codes "number") (string (codes "10000000000000"))
    (member (codes "phrase") (number (unsigned limit.MOST_PHRASE))
    (member (codes "points") (number (unsigned limit.MOST_POINTS)) (member (codes "text") (number (unsigned limit.MOST_TEXT)) no_members))))))))))))

abbrev pub format_data : Data
format_data = object (member (codes "name") (string (codes "sennabasket description")) (member (codes "version") (number (unsigned 1)) no_members))

abbrev pub whole_data : Data → Data → Data → Data → Data → Data → List ℕ → Data
whole_data attributes entities files goals lists screens rulebase =
    object
    (member (codes "attributes") attributes
    (member (codes "entities") entities
    (member (codes "files") files
    (member (codes "format") format_data
    (member (codes "goals") goals
    (member (codes "limits") limits_data
    (member (codes "lists") lists
    (member (codes "proved") (boolean true) (member (codes "rulebase") (string rulebase) (member (codes "screens") screens no_members))))))))))
