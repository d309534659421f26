-- Rulebases that declare the same, whatever the places of their verbs.
use Rattle.std.specs.Prelude.{ℕ, suc, ◌≡◌, ◌-◌, true, [], length, map, is_none, Some, slice_index_or}
use Rattle.opa_model.specs.declared.ids.AttrId.{AttrId}
use Rattle.opa_model.specs.declared.things.Attribute.{Attribute}
use Rattle.opa_model.specs.declared.things.Entity.{Entity}
use Rattle.opa_model.specs.declared.things.Relation.{Relation}
use Rattle.opa_model.specs.declared.things.Screen.{Screen}
use Rattle.opa_model.specs.declared.things.Sentence.{Sentence}
use Rattle.opa_model.specs.declared.things.Verb.{Verb}
use Rattle.opa_model.specs.Lookups.{entity_at, attribute_at, relation_at, verb_at, screen_at, goal_at}
use Rattle.opa_tree.specs.declared.rulebase.Rulebase.{Rulebase}
use Rattle.opa_tree.specs.declared.rules.Rule.{Rule}
use Rattle.opa_tree.specs.Mentions.{mentions}
use Rattle.opa_tree.specs.Rules.{rule_of}
use Rattle.opa_rules.specs.Describing.Ranges.{ranges}
use Rattle.opa_rules.specs.Describing.Description.{description}
use Rattle.opa_rules.specs.Describing.Parts.{attr, rel, entity, entity_phrase, attribute_phrase, relation_phrase, item_name, is_counted, bound_text, sort_text}

-- one subject and rest, and one verb in all of its forms
pub record SameSentence (s t : Sentence) (v w : Verb) : Type 0 where
  pub subject : s.subject ≡ t.subject
  pub rest : s.rest ≡ t.rest
  pub positive : v.positive ≡ w.positive
  pub negative : v.negative ≡ w.negative
  pub ask : v.ask ≡ w.ask
  pub tail : v.rest ≡ w.rest

module _ (b c : Rulebase) where
  -- rules of one place that mention the same
  pub record SameRule (r s : Rule) : Type 0 where
    pub file : slice_index_or b.files r.file [] ≡ slice_index_or c.files s.file []
    pub line : r.line ≡ s.line
    pub attributes : map (attribute_phrase b.model) (mentions r.expr) ≡ map (attribute_phrase c.model) (mentions s.expr)
    pub lists : map (relation_phrase b.model) (ranges r.expr) ≡ map (relation_phrase c.model) (ranges s.expr)

  pub record SameAttribute (n : AttrId) (a o : Attribute) : Type 0 where
    pub phrase : a.phrase ≡ o.phrase
    pub kind : a.kind ≡ o.kind
    pub owner : entity_phrase b.model a.entity ≡ entity_phrase c.model o.entity
    pub decimals : is_counted a.kind ≡ true → a.decimals ≡ o.decimals
    pub least : is_counted a.kind ≡ true → bound_text a.least ≡ bound_text o.least
    pub most : is_counted a.kind ≡ true → bound_text a.most ≡ bound_text o.most
    pub sentence : (s t : Sentence) (v w : Verb) → a.sentence ≡ Some s → o.sentence ≡ Some t → verb_at b.model s.verb ≡ Some v → verb_at c.model t.verb ≡ Some w → SameSentence s t v w
    pub asked : is_none (rule_of b.rules n) ≡ is_none (rule_of c.rules n)
    pub rule : (r s : Rule) → rule_of b.rules n ≡ Some r → rule_of c.rules n ≡ Some s → SameRule r s

  pub record SameRelation (r s : Relation) : Type 0 where
    pub phrase : r.phrase ≡ s.phrase
    pub source : entity_phrase b.model r.source ≡ entity_phrase c.model s.source
    pub target : entity_phrase b.model r.target ≡ entity_phrase c.model s.target
    pub sort : sort_text r ≡ sort_text s

  pub record SameEntity (e f : Entity) : Type 0 where
    pub phrase : e.phrase ≡ f.phrase
    pub parent : entity_phrase b.model e.parent ≡ entity_phrase c.model f.parent
    pub contained : relation_phrase b.model e.contained ≡ relation_phrase c.model f.contained

  pub record SameScreen (s t : Screen) : Type 0 where
    pub title : s.title ≡ t.title
    pub items : map (item_name b.model) s.items ≡ map (item_name c.model) t.items

  -- as many things of each sort, each like the other's of its place
  pub record DeclareAlike : Type 0 where
    pub files : b.files ≡ c.files
    pub attribute_count : length b.model.attributes ≡ length c.model.attributes
    pub attributes : (n : ℕ) (a o : Attribute) → attribute_at b.model (attr n) ≡ Some a → attribute_at c.model (attr n) ≡ Some o → SameAttribute (attr n) a o
    pub relation_count : length b.model.relations ≡ length c.model.relations
    pub relations : (n : ℕ) (r s : Relation) → relation_at b.model (rel n) ≡ Some r → relation_at c.model (rel n) ≡ Some s → SameRelation r s
    pub entity_count : length b.model.entities - 1 ≡ length c.model.entities - 1
    pub entities : (n : ℕ) (e f : Entity) → entity_at b.model (entity (suc n)) ≡ Some e → entity_at c.model (entity (suc n)) ≡ Some f → SameEntity e f
    pub screen_count : length b.model.screens ≡ length c.model.screens
    pub screens : (n : ℕ) (s t : Screen) → screen_at b.model n ≡ Some s → screen_at c.model n ≡ Some t → SameScreen s t
    pub goal_count : length b.model.goals ≡ length c.model.goals
    pub goals : (n : ℕ) (a o : AttrId) → goal_at b.model n ≡ Some a → goal_at c.model n ≡ Some o → attribute_phrase b.model a ≡ attribute_phrase c.model o

-- Two rulebases with one description declare the same.
abbrev pub OneDescription : Type 0
OneDescription = (b c : Rulebase) → description b ≡ description c → DeclareAlike b c
