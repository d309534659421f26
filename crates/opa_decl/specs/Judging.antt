-- What is known of items before they have numbers, and when they are judged.
use Rattle.std.specs.Prelude.{◌≡◌, List, ◌∷◌, map, Option, flat_map}
use Rattle.opa_model.specs.declared.lists.Lists.{Lists}
use Rattle.opa_tree.specs.declared.faults.RbFault.{RbFault}
use Rattle.opa_tree.specs.FirstFaults.{first_of, first_fault}
use Rattle.opa_decl.specs.declared.items.Item.{Item}
use Rattle.opa_decl.specs.declared.drafts.Draft.{Draft}
use Rattle.opa_decl.specs.declared.numbered.Numbered.{Numbered}
use Rattle.opa_decl.specs.Declarations.{model_of, item_faults}
use Rattle.opa_decl.specs.Faults.{twice_faults, limit_faults, name_faults, scope_faults}
use Rattle.opa_decl.specs.Lists.{screen_by, global_entity, entity_in, attribute_in, relation_in, goal_by}
use Rattle.opa_decl.specs.Names.{tables_of, verb_in, goal_name}
use Rattle.opa_decl.specs.Seen.{seen}

pub record IsDraft (d : Draft) (items : List Item) : Type 0 where
  pub tables : seen d.tables ≡ tables_of items
  pub verbs : d.verbs ≡ flat_map verb_in items
  pub screens : d.screens ≡ flat_map (screen_by (seen d.tables)) items
  pub goals : d.goals ≡ flat_map goal_name items
  pub twice : d.twice ≡ first_fault (twice_faults (seen d.tables) items)

-- The lists and the fault are made of the draft and the items with their numbers.
pub record IsFinished (d : Draft) (ns : List Numbered) (lists : Lists) (fault : Option RbFault) : Type 0 where
  pub entities : lists.entities ≡ global_entity ∷ flat_map (entity_in (seen d.tables)) ns
  pub attributes : lists.attributes ≡ flat_map (attribute_in (seen d.tables)) ns
  pub relations : lists.relations ≡ flat_map (relation_in (seen d.tables)) ns
  pub verbs : lists.verbs ≡ d.verbs
  pub screens : lists.screens ≡ d.screens
  pub goals : lists.goals ≡ map (goal_by (seen d.tables)) d.goals
  pub fault_is : fault ≡ first_of (first_fault (flat_map limit_faults ns)) (first_of (first_fault (flat_map (name_faults (seen d.tables)) ns)) (first_of (first_fault (flat_map (scope_faults (seen d.tables) lists.attributes) d.goals)) d.twice))

-- the lists are the model of the items, and the fault is their first
pub record AreJudged (lists : Lists) (fault : Option RbFault) (items : List Item) : Type 0 where
  pub model_is : lists ≡ model_of items
  pub fault_is : fault ≡ first_fault (item_faults items)
