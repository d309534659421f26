-- Lists that are made one after another.
use Rattle.std.proofs.Common.{◌≡◌, ◌∙◌, List, [], ◌∷◌, ◌++◌, map, refl, ap, ap₂}
use Rattle.std.specs.Prelude.{Option, flat_map}
use Rattle.opa_model.specs.declared.ids.AttrId.{AttrId}
use Rattle.opa_model.specs.declared.lists.Lists.{Lists}
use Rattle.opa_model.specs.declared.things.Attribute.{Attribute}
use Rattle.opa_model.specs.declared.things.Entity.{Entity}
use Rattle.opa_model.specs.declared.things.Relation.{Relation}
use Rattle.opa_model.specs.declared.things.Screen.{Screen}
use Rattle.opa_model.specs.declared.things.Verb.{Verb}
use Rattle.opa_tree.specs.declared.faults.RbFault.{RbFault}
use Rattle.opa_tree.specs.FirstFaults.{first_of, first_fault}
use Rattle.opa_decl.specs.declared.items.Item.{Item}
use Rattle.opa_decl.specs.declared.numbered.Numbered.{Numbered}
use Rattle.opa_decl.specs.Declarations.{model_of, item_faults}
use Rattle.opa_decl.specs.Faults.{faults_by, twice_faults, limit_faults, name_faults, scope_faults, repeated}
use Rattle.opa_decl.specs.Lists.{lists_of, global_entity, entity_in, attribute_in, relation_in, screen_by, goal_by}
use Rattle.opa_decl.specs.declared.drafts.Draft.{Draft}
use Rattle.opa_decl.specs.declared.items.Name.{Name}
use Rattle.opa_decl.specs.Judging.{IsDraft, IsFinished, AreJudged}
use Rattle.opa_decl.specs.Seen.{seen}
use Rattle.opa_decl.specs.Names.{Tables, tables_of, verb_in, verb_name, entity_name, goal_name, screen_name, file_name, forms}
use Rattle.opa_decl.specs.Numbering.{numbered, no_counts}
use Rattle.opa_decl.proofs.FoldLaws.{joined}

same_lists : (l : Lists) (e : List Entity) (a : List Attribute) (r : List Relation) (v : List Verb) (s : List Screen) (g : List AttrId)
    → l.entities ≡ e → l.attributes ≡ a → l.relations ≡ r → l.verbs ≡ v → l.screens ≡ s → l.goals ≡ g → l ≡ record { entities = e; attributes = a; relations = r; verbs = v; screens = s; goals = g }
same_lists l e a r v s g pe pa pr pv ps pg =
    ap₂ (λ (x : List Entity) (y : List Attribute). let m : Lists = record { entities = x; attributes = y; relations = l.relations; verbs = l.verbs; screens = l.screens; goals = l.goals } in m) pe pa
    ∙ ap₂ (λ (x : List Relation) (y : List Verb). let m : Lists = record { entities = e; attributes = a; relations = x; verbs = y; screens = l.screens; goals = l.goals } in m) pr pv
    ∙ ap₂ (λ (x : List Screen) (y : List AttrId). let m : Lists = record { entities = e; attributes = a; relations = r; verbs = v; screens = x; goals = y } in m) ps pg

four : (a b c d : List RbFault) (w x y z : Option RbFault) → w ≡ first_fault a → x ≡ first_fault b → y ≡ first_fault c → z ≡ first_fault d → first_of w (first_of x (first_of y z)) ≡ first_fault (a ++ (b ++ (c ++ d)))
four a b c d w x y z pw px py pz = joined a (b ++ (c ++ d)) w (first_of x (first_of y z)) pw (joined b (c ++ d) x (first_of y z) px (joined c d y z py pz))

pub lists_are : (l : Lists) (t : Tables) (items : List Item) (ns : List Numbered) → t ≡ tables_of items → ns ≡ numbered no_counts items
    → l.entities ≡ global_entity ∷ flat_map (entity_in t) ns → l.attributes ≡ flat_map (attribute_in t) ns → l.relations ≡ flat_map (relation_in t) ns
    → l.verbs ≡ flat_map verb_in items → l.screens ≡ flat_map (screen_by t) items → l.goals ≡ map (goal_by t) (flat_map goal_name items) → l ≡ model_of items
unfolding lists_of model_of
lists_are l t items ns pt pn pe pa pr pv ps pg =
    same_lists l _ _ _ _ _ _ pe pa pr pv ps pg ∙ ap₂ (λ (u : Tables) (ms : List Numbered). lists_of u items ms) pt pn

pub faults_are : (t : Tables) (items : List Item) (ns : List Numbered) (over unknown astray twice : Option RbFault) → t ≡ tables_of items → ns ≡ numbered no_counts items
    → over ≡ first_fault (flat_map limit_faults ns) → unknown ≡ first_fault (flat_map (name_faults t) ns) → astray ≡ first_fault (flat_map (scope_faults t (flat_map (attribute_in t) ns)) (flat_map goal_name items))
    → twice ≡ first_fault (twice_faults t items) → first_of over (first_of unknown (first_of astray twice)) ≡ first_fault (item_faults items)
unfolding faults_by item_faults
faults_are t items ns over unknown astray twice pt pn po pu pa pw =
    four (flat_map limit_faults ns) (flat_map (name_faults t) ns) (flat_map (scope_faults t (flat_map (attribute_in t) ns)) (flat_map goal_name items)) (twice_faults t items) over unknown astray twice po pu pa pw ∙ ap₂ (λ (u : Tables) (ms : List Numbered). first_fault (faults_by u items ms)) pt pn

pub twice_are : (t : Tables) (items : List Item) (verb entity form goal screen file : Option RbFault) → verb ≡ first_fault (repeated [] (flat_map verb_name items)) → entity ≡ first_fault (repeated [] (flat_map entity_name items))
    → form ≡ first_fault (repeated [] (flat_map (forms t.verbs (flat_map verb_in items)) items)) → goal ≡ first_fault (repeated [] (flat_map goal_name items)) → screen ≡ first_fault (repeated [] (flat_map screen_name items))
    → file ≡ first_fault (repeated [] (flat_map file_name items)) → first_of verb (first_of entity (first_of form (first_of goal (first_of screen file)))) ≡ first_fault (twice_faults t items)
unfolding twice_faults
twice_are t items verb entity form goal screen file pv pe pf pg ps pl =
    joined (repeated [] (flat_map verb_name items)) (repeated [] (flat_map entity_name items) ++ (repeated [] (flat_map (forms t.verbs (flat_map verb_in items)) items) ++ (repeated [] (flat_map goal_name items) ++ (repeated [] (flat_map screen_name items) ++ repeated [] (flat_map file_name items)))))
    verb _ pv (joined (repeated [] (flat_map entity_name items)) (repeated [] (flat_map (forms t.verbs (flat_map verb_in items)) items) ++ (repeated [] (flat_map goal_name items) ++ (repeated [] (flat_map screen_name items) ++ repeated [] (flat_map file_name items))))
    entity _ pe (four (repeated [] (flat_map (forms t.verbs (flat_map verb_in items)) items)) (repeated [] (flat_map goal_name items)) (repeated [] (flat_map screen_name items)) (repeated [] (flat_map file_name items)) form goal screen file pf pg ps pl))

pub judged_are : (d : Draft) (items : List Item) (ns : List Numbered) (l : Lists) (fault : Option RbFault) → IsDraft d items → ns ≡ numbered no_counts items → IsFinished d ns l fault → AreJudged l fault items
judged_are d items ns l fault is pn f =
    let t = seen d.tables in
    record {
      model_is = lists_are l t items ns is.tables pn f.entities f.attributes f.relations (f.verbs ∙ is.verbs) (f.screens ∙ is.screens) (f.goals ∙ ap (map (goal_by t)) is.goals);
      fault_is = f.fault_is ∙ faults_are t items ns (first_fault (flat_map limit_faults ns)) (first_fault (flat_map (name_faults t) ns)) (first_fault (flat_map (scope_faults t l.attributes) d.goals)) d.twice is.tables pn refl refl
          (ap₂ (λ (x : List Attribute) (y : List Name). first_fault (flat_map (scope_faults t x) y)) f.attributes is.goals) is.twice;
    }
