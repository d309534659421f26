-- Declared things have numbers in written order.
use Rattle.std.specs.Prelude.{ℕ, ◌+◌, ◌≤◌, List, [], ◌∷◌, Bool, true, false, if◌then◌else◌}
use Rattle.opa_decl.specs.declared.items.Item.{Item}
use Rattle.opa_decl.specs.declared.items.Item.TheVariants as item
use Rattle.opa_decl.specs.declared.items.Reach.{Reach}
use Rattle.opa_decl.specs.declared.items.Reach.TheVariants as reach
use Rattle.opa_decl.specs.declared.numbered.Counts.{Counts}
use Rattle.opa_decl.specs.declared.numbered.Numbered.{Numbered}

abbrev pub is_every : Reach → Bool
is_every reach.Every = true
is_every reach.One = false
is_every reach.Many = false

abbrev pub is_one : Reach → Bool
is_one reach.One = true
is_one reach.Many = false
is_one reach.Every = false

-- the global entity alone
abbrev pub no_counts : Counts
no_counts = record { verbs = 0; entities = 1; attributes = 0; relations = 0; every = 0 }

-- what is declared with one more item: an entity with the relation that contains it
abbrev pub counts_after : Counts → Item → Counts
counts_after c (item.Verb v) = record { verbs = c.verbs + 1; entities = c.entities; attributes = c.attributes; relations = c.relations; every = c.every }
counts_after c (item.Entity e) = record { verbs = c.verbs; entities = c.entities + 1; attributes = c.attributes; relations = c.relations + 1; every = c.every }
counts_after c (item.Attribute a) = record { verbs = c.verbs; entities = c.entities; attributes = c.attributes + 1; relations = c.relations; every = c.every }
counts_after c (item.Relation r) = record { verbs = c.verbs; entities = c.entities; attributes = c.attributes; relations = c.relations + 1; every = if is_every r.reach then c.every + 1 else c.every }
counts_after c (item.Goal g) = c
counts_after c (item.Screen s) = c
counts_after c (item.File f) = c

-- each item with what is declared before it
abbrev pub numbered : Counts → List Item → List Numbered
numbered c [] = []
numbered c (i ∷ is) = record { before = c; item = i } ∷ numbered (counts_after c i) is

-- at most so many of each, but for the global entity
pub record AreFew (most : ℕ) (c : Counts) : Type 0 where
  pub verbs : c.verbs ≤ most
  pub entities : c.entities ≤ most + 1
  pub attributes : c.attributes ≤ most
  pub relations : c.relations ≤ most
  pub every : c.every ≤ most
