-- Declarations have one first fault.
use Rattle.std.proofs.Common.{ℕ, List, [], ◌∷◌, ◌++◌, Bool, true, false, refl, subst}
use Rattle.std.specs.Prelude.{Option, Some, None, flat_map, if◌then◌else◌}
use Rattle.opa_model.specs.declared.things.Attribute.{Attribute}
use Rattle.opa_tree.specs.declared.faults.RbFault.{RbFault}
use Rattle.opa_tree.specs.declared.faults.RbKind.{RbKind}
use Rattle.opa_tree.specs.declared.faults.RbKind.TheVariants.{Twice}
use Rattle.opa_tree.specs.FirstFaults.{IsFirst}
use Rattle.opa_decl.specs.declared.cut.CutBlock.{CutBlock}
use Rattle.opa_decl.specs.declared.items.Item.{Item}
use Rattle.opa_decl.specs.declared.items.Item.TheVariants as item
use Rattle.opa_decl.specs.declared.items.Name.{Name}
use Rattle.opa_decl.specs.declared.items.Place.{Place}
use Rattle.opa_decl.specs.declared.items.Sort.{Sort}
use Rattle.opa_decl.specs.declared.items.Sort.TheVariants as sort
use Rattle.opa_decl.specs.declared.numbered.Counts.{Counts}
use Rattle.opa_decl.specs.declared.numbered.Numbered.{Numbered}
use Rattle.opa_decl.specs.Declarations.{first_place, unspelled, syntax_faults, items_of, item_faults, faults_of}
use Rattle.opa_decl.specs.Faults.{fault_at, when, over, over_parent, long_names, too_many, limit_faults, unknown_parent}
use Rattle.opa_decl.specs.Faults.{unknown_verb, unknown_item, unknown_names, name_faults, scope_faults, stands, repeated, twice_faults, faults_by}
use Rattle.opa_decl.specs.Lists.{attribute_in}
use Rattle.opa_decl.specs.Names.{Tables, tables_of, verb_name, verb_in, entity_name, goal_name, screen_name, file_name, forms}
use Rattle.opa_decl.specs.Numbering.{numbered, no_counts}
use Rattle.opa_decl.specs.Spelling.{spelled}
use Rattle.opa_decl.proofs.OneReading.{one_cutting_holds}
use Rattle.opa_laws.specs.Decided.Reading.{OneDeclarationFault}
use Rattle.opa_laws.proofs.decided.FirstOfFaults.{ArePlain, plain_append, plain_flat, one_first}

-- ---- no fault of a declaration has a circle

plain_when : (t : Bool) (k : RbKind) (at : Place) → ArePlain (when t k at)
plain_when true k at = (refl, tt)
plain_when false k at = tt

plain_over : (most : ℕ) (n : Name) → ArePlain (over most n)
plain_over most n = plain_when _ _ n.place

plain_parent : (o : Option Name) → ArePlain (over_parent o)
plain_parent None = tt
plain_parent (Some p) = plain_over 1000 p

plain_long : (i : Item) → ArePlain (long_names i)
plain_long (item.Verb v) = tt
plain_long (item.Entity e) = plain_append (over 1000 e.phrase) _ (plain_over 1000 e.phrase) (plain_append (over_parent e.parent) _ (plain_parent e.parent) (plain_over 1000 e.inside))
plain_long (item.Attribute a) = plain_over 1000 a.phrase
plain_long (item.Relation r) = plain_append (over 1000 r.phrase) _ (plain_over 1000 r.phrase) (plain_over 1000 r.target)
plain_long (item.Goal g) = plain_over 1000 g
plain_long (item.Screen s) = plain_append (over 1000 s.title) _ (plain_over 1000 s.title) (plain_flat (over 1000) (plain_over 1000) s.items)
plain_long (item.File f) = plain_over 100 f

plain_many : (c : Counts) (i : Item) → ArePlain (too_many c i)
plain_many c (item.Verb v) = tt
plain_many c (item.Entity e) = tt
plain_many c (item.Attribute a) = plain_when _ _ a.phrase.place
plain_many c (item.Relation r) = plain_when _ _ r.phrase.place
plain_many c (item.Goal g) = tt
plain_many c (item.Screen s) = tt
plain_many c (item.File f) = tt

plain_limits : (n : Numbered) → ArePlain (limit_faults n)
plain_limits n = plain_append (long_names n.item) (too_many n.before n.item) (plain_long n.item) (plain_many n.before n.item)

module _ (t : Tables) where
  plain_unknown_parent : (c : Counts) (o : Option Name) → ArePlain (unknown_parent t c o)
  plain_unknown_parent c None = tt
  plain_unknown_parent c (Some p) = plain_when _ _ p.place

  plain_verb : (c : Counts) (at : Place) (s : Sort) → ArePlain (unknown_verb t c at s)
  plain_verb c at (sort.Bool said) = plain_when _ _ at
  plain_verb c at (sort.Number b) = tt
  plain_verb c at (sort.Currency b) = tt
  plain_verb c at sort.Words = tt
  plain_verb c at sort.Date = tt

  plain_names : (c : Counts) (i : Item) → ArePlain (unknown_names t c i)
  plain_names c (item.Verb v) = tt
  plain_names c (item.Entity e) = plain_unknown_parent c e.parent
  plain_names c (item.Attribute a) = plain_verb c a.phrase.place a.sort
  plain_names c (item.Relation r) = plain_when _ _ r.target.place
  plain_names c (item.Goal g) = plain_when _ _ g.place
  plain_names c (item.Screen s) = plain_flat (unknown_item t) (λ n. plain_when _ _ n.place) s.items
  plain_names c (item.File f) = tt

  plain_named : (n : Numbered) → ArePlain (name_faults t n)
  plain_named n = plain_names n.before n.item

  plain_scopes : (attributes : List Attribute) (g : Name) → ArePlain (scope_faults t attributes g)
  plain_scopes attributes g = plain_when _ _ g.place

plain_repeated : (seen : List (List ℕ)) (ns : List Name) → ArePlain (repeated seen ns)
plain_repeated seen [] = tt
plain_repeated seen (n ∷ ns) = go (stands seen n.text) (plain_repeated seen ns) (plain_repeated (seen ++ n.text ∷ []) ns)
  where
    go : (b : Bool) → ArePlain (repeated seen ns) → ArePlain (repeated (seen ++ n.text ∷ []) ns) → ArePlain (if b then fault_at Twice n.place ∷ repeated seen ns else repeated (seen ++ n.text ∷ []) ns)
    go true h k = (refl, h)
    go false h k = k

plain_twice : (t : Tables) (items : List Item) → ArePlain (twice_faults t items)
unfolding twice_faults
plain_twice t items =
    let all : (ns : List Name) → ArePlain (repeated [] ns) = plain_repeated [] in
    plain_append (repeated [] (flat_map verb_name items)) _ (all (flat_map verb_name items))
    (plain_append (repeated [] (flat_map entity_name items)) _ (all (flat_map entity_name items))
    (plain_append (repeated [] (flat_map (forms t.verbs (flat_map verb_in items)) items)) _ (all (flat_map (forms t.verbs (flat_map verb_in items)) items))
    (plain_append (repeated [] (flat_map goal_name items)) _ (all (flat_map goal_name items))
    (plain_append (repeated [] (flat_map screen_name items)) _ (all (flat_map screen_name items)) (all (flat_map file_name items))))))

plain_by : (t : Tables) (items : List Item) (ns : List Numbered) → ArePlain (faults_by t items ns)
unfolding faults_by
plain_by t items ns =
    let scoped : Name → List RbFault = scope_faults t (flat_map (attribute_in t) ns) in
    plain_append (flat_map limit_faults ns) _ (plain_flat limit_faults plain_limits ns)
    (plain_append (flat_map (name_faults t) ns) _ (plain_flat (name_faults t) (plain_named t) ns)
    (plain_append (flat_map scoped (flat_map goal_name items)) _ (plain_flat scoped (plain_scopes t (flat_map (attribute_in t) ns)) (flat_map goal_name items))
    (plain_twice t items)))

plain_items : (items : List Item) → ArePlain (item_faults items)
unfolding item_faults
plain_items items = plain_by (tables_of items) items (numbered no_counts items)

plain_spelled : (at : Place) (o : Option (List Item)) → ArePlain (unspelled at o)
plain_spelled at None = (refl, tt)
plain_spelled at (Some items) = tt

plain_syntax : (b : CutBlock) → ArePlain (syntax_faults b)
plain_syntax b = plain_spelled (first_place b.file b.lines) (spelled b)

plain_faults : (read : List CutBlock) → ArePlain (faults_of read)
plain_faults read = plain_append (flat_map syntax_faults read) (item_faults (items_of read)) (plain_flat syntax_faults plain_syntax read) (plain_items (items_of read))

-- ---- one first fault

pub one_declaration_fault_holds : OneDeclarationFault
one_declaration_fault_holds blocks f g h k =
    one_first (faults_of k.read) f g (plain_faults k.read) (subst (λ (x : List CutBlock). IsFirst (faults_of x) (Some f)) (one_cutting_holds blocks h.read k.read h.cut k.cut) h.first) k.first
