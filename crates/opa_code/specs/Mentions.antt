-- Of which entities' places nodes make use.
use Rattle.std.specs.Prelude.{◌≡◌, ◌⊎◌, ℕ, ◌==◌, false, List, ◌∷◌, take, drop, None, Some}
use Rattle.std.specs.List.{Contains}
use Rattle.opa_model.specs.declared.ids.AttrId.{AttrId}
use Rattle.opa_model.specs.declared.ids.RelId.{RelId}
use Rattle.opa_tree.specs.declared.kinds.Quant.{Quant}
use Rattle.opa_code.specs.Steps.{attribute_in, over_at}
use Rattle.opa_code.specs.declared.node.Node.{Node}
use Rattle.opa_code.specs.declared.node.Node.TheVariants as node

-- The owner of an attribute, and the source of a relation. In a quantifier's operand the listed instance is the place of
-- its entity.
pub data Mentions (o : ℕ) : List Node → Type 0 where
  of_attribute : (ns : List Node) (a : AttrId) (rest : List Node) → ns ≡ node.Attr a o ∷ rest → Mentions o ns
  of_source : (ns : List Node) (q : Quant) (r : RelId) (target count : ℕ) (rest : List Node) → ns ≡ node.Over q r o target count ∷ rest → Mentions o ns
  within : (ns : List Node) (q : Quant) (r : RelId) (source target count : ℕ) (rest : List Node) → ns ≡ node.Over q r source target count ∷ rest → (o == target) ≡ false → Mentions o (take count rest) → Mentions o ns
  behind : (ns : List Node) (q : Quant) (r : RelId) (source target count : ℕ) (rest : List Node) → ns ≡ node.Over q r source target count ∷ rest → Mentions o (drop count rest) → Mentions o ns
  later : (ns : List Node) (n : Node) (rest : List Node) → ns ≡ n ∷ rest → over_at n ≡ None → Mentions o rest → Mentions o ns

-- all of them are there
abbrev pub HasOwners : List Node → List ℕ → Type 0
HasOwners nodes owners = (o : ℕ) → Mentions o nodes → Contains owners o

-- those that were there stay
abbrev pub Stay : List ℕ → List ℕ → Type 0
Stay old new = (o : ℕ) → Contains old o → Contains new o

pub record Adds (owner : ℕ) (old new : List ℕ) : Type 0 where
  pub stay : Stay old new
  pub there : Contains new owner

pub record AddsOthers (target : ℕ) (inner old new : List ℕ) : Type 0 where
  pub stay : Stay old new
  pub there : (o : ℕ) → Contains inner o → (o == target) ≡ false → Contains new o

-- the source of a quantifier, and what its operand mentions besides the listed instance
pub record AddsOver (source target : ℕ) (operand : List Node) (old new : List ℕ) : Type 0 where
  pub stay : Stay old new
  pub source_there : Contains new source
  pub there : (o : ℕ) → Mentions o operand → (o == target) ≡ false → Contains new o

pub record AddsOwn (n : Node) (old new : List ℕ) : Type 0 where
  pub stay : Stay old new
  pub there : (a : AttrId) (o : ℕ) → attribute_in n ≡ Some (a, o) → Contains new o

-- what a node mentions is there, and what is left may mention others
pub record AddsBehind (n : Node) (after : List Node) (old : List ℕ) (rest : List Node) (new : List ℕ) : Type 0 where
  pub stay : Stay old new
  pub there : (o : ℕ) → Mentions o (n ∷ after) → Contains new o ⊎ Mentions o rest

-- what nodes mention is there, or may be mentioned by those that are left
abbrev pub AreFound : List Node → List ℕ → List Node → Type 0
AreFound nodes owners rest = (o : ℕ) → Mentions o nodes → Contains owners o ⊎ Mentions o rest
