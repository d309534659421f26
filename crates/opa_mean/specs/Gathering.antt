-- What trees can look at, each of it at least once.
use Rattle.std.specs.Prelude.{◌≡◌, ◌⊎◌, ◌↔◌, ℕ, List, ◌∷◌, length, flat_map, Option}
use Rattle.std.specs.List.{Contains}
use Rattle.opa_model.specs.declared.ids.RelId.{RelId}
use Rattle.opa_cells.specs.declared.instance.InstanceId.{InstanceId}
use Rattle.opa_cells.specs.Instances.{named}
use Rattle.opa_case.specs.declared.question.Question.{Question}
use Rattle.opa_case.specs.declared.question.Question.TheVariants as question
use Rattle.opa_case.specs.Live.{Lists}
use Rattle.opa_case.specs.Shapes.{Shape}
use Rattle.opa_tree.specs.declared.expr.Expr.{Expr}
use Rattle.opa_mean.specs.Places.{place}
use Rattle.opa_mean.specs.Reads.{Reads, at_place_reads, listed_reads, trees_reads}

-- the same questions, in whatever number
abbrev pub AreThose : List Question → List Question → Type 0
AreThose found those = (q : Question) → Contains found q ↔ Contains those q

-- of a quantifier: for these members, at an instance of its source, and at the place of its source
abbrev pub names_reads : Shape → Lists → (InstanceId → Option InstanceId) → ℕ → List Expr → List (List ℕ) → Reads
names_reads s members container t es names enclosing = flat_map (λ n. trees_reads s members container es (named t n ∷ enclosing)) names

abbrev pub inst_reads : Shape → Lists → (InstanceId → Option InstanceId) → RelId → List Expr → InstanceId → Reads
inst_reads s members container r es i enclosing = question.Members r i ∷ listed_reads (members r i) (λ n. trees_reads s members container es (named (s.target r) n ∷ enclosing))

abbrev pub over_reads : Shape → Lists → (InstanceId → Option InstanceId) → RelId → List Expr → Reads
over_reads s members container r es enclosing = at_place_reads (place container enclosing (s.source r)) (λ i. inst_reads s members container r es i enclosing)

-- It was gathered among these enclosing instances already; among none, it wasn't.
abbrev pub WasGathered : Reads → List InstanceId → List Question → Type 0
WasGathered reads passed found = (length passed ≡ 0) ⊎ ((q : Question) → Contains (reads passed) q → Contains found q)

-- What was found stays. If what is looked at among the instances that were passed was found, then so is afterwards what is
-- looked at among the enclosing ones, and nothing else is added.
pub record Gathers (reads : Reads) (enclosing passed : List InstanceId) (old new : List Question) : Type 0 where
  pub stay : (q : Question) → Contains old q → Contains new q
  pub there : WasGathered reads passed old → (q : Question) → Contains (reads enclosing) q → Contains new q
  pub only : (q : Question) → Contains new q → Contains old q ⊎ Contains (reads enclosing) q

-- Two other lists of enclosing instances give these entities one place each, and so each that has one place among two.
abbrev pub Follows : (InstanceId → Option InstanceId) → List ℕ → List InstanceId → List InstanceId → List InstanceId → List InstanceId → Type 0
Follows container bound e f e' f' = (o : ℕ) → Contains bound o ⊎ (place container e o ≡ place container f o) → place container e' o ≡ place container f' o

-- among all such the same is looked at
abbrev pub AreAlike : (InstanceId → Option InstanceId) → Reads → List ℕ → List InstanceId → List InstanceId → Type 0
AreAlike container reads bound e f = (e' f' : List InstanceId) → Follows container bound e f e' f' → reads e' ≡ reads f'

-- What was gathered among the instances that were passed is what is looked at among the enclosing ones.
pub record IsGathered (reads : Reads) (enclosing passed : List InstanceId) : Type 0 where
  pub some : length passed ≡ 0 → ⊥
  pub same : reads enclosing ≡ reads passed
