-- How many things are declared.
use Rattle.std.proofs.Common.{◌≤◌, List, [], ◌∷◌, length, arith}
use Rattle.std.specs.Prelude.{flat_map}
use Rattle.std.proofs.lemmas.List.{length-append}
use Rattle.opa_decl.specs.declared.items.Item.{Item}
use Rattle.opa_decl.specs.declared.items.Item.TheVariants as item
use Rattle.opa_decl.specs.Names.{verb_name, entity_name, attribute_name, relation_name, goal_name, verb_in}

pub flat_map_short : {A B : Type 0} (f : A → List B) → ((x : A) → length (f x) ≤ 1) → (xs : List A) → length (flat_map f xs) ≤ length xs
flat_map_short f one [] = omega arith
flat_map_short f one (x ∷ xs) = omega (arith, one x, flat_map_short f one xs, length-append (f x) (flat_map f xs))

pub verb_name-short : (i : Item) → length (verb_name i) ≤ 1
verb_name-short (item.Verb v) = omega arith
verb_name-short (item.Entity e) = omega arith
verb_name-short (item.Attribute a) = omega arith
verb_name-short (item.Relation r) = omega arith
verb_name-short (item.Goal g) = omega arith
verb_name-short (item.Screen s) = omega arith
verb_name-short (item.File f) = omega arith

pub entity_name-short : (i : Item) → length (entity_name i) ≤ 1
entity_name-short (item.Verb v) = omega arith
entity_name-short (item.Entity e) = omega arith
entity_name-short (item.Attribute a) = omega arith
entity_name-short (item.Relation r) = omega arith
entity_name-short (item.Goal g) = omega arith
entity_name-short (item.Screen s) = omega arith
entity_name-short (item.File f) = omega arith

pub attribute_name-short : (i : Item) → length (attribute_name i) ≤ 1
attribute_name-short (item.Verb v) = omega arith
attribute_name-short (item.Entity e) = omega arith
attribute_name-short (item.Attribute a) = omega arith
attribute_name-short (item.Relation r) = omega arith
attribute_name-short (item.Goal g) = omega arith
attribute_name-short (item.Screen s) = omega arith
attribute_name-short (item.File f) = omega arith

pub relation_name-short : (i : Item) → length (relation_name i) ≤ 1
relation_name-short (item.Verb v) = omega arith
relation_name-short (item.Entity e) = omega arith
relation_name-short (item.Attribute a) = omega arith
relation_name-short (item.Relation r) = omega arith
relation_name-short (item.Goal g) = omega arith
relation_name-short (item.Screen s) = omega arith
relation_name-short (item.File f) = omega arith

pub goal_name-short : (i : Item) → length (goal_name i) ≤ 1
goal_name-short (item.Verb v) = omega arith
goal_name-short (item.Entity e) = omega arith
goal_name-short (item.Attribute a) = omega arith
goal_name-short (item.Relation r) = omega arith
goal_name-short (item.Goal g) = omega arith
goal_name-short (item.Screen s) = omega arith
goal_name-short (item.File f) = omega arith

pub verb_in-short : (i : Item) → length (verb_in i) ≤ 1
verb_in-short (item.Verb v) = omega arith
verb_in-short (item.Entity e) = omega arith
verb_in-short (item.Attribute a) = omega arith
verb_in-short (item.Relation r) = omega arith
verb_in-short (item.Goal g) = omega arith
verb_in-short (item.Screen s) = omega arith
verb_in-short (item.File f) = omega arith
