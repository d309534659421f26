-- A set of phrases, as the list of their bytes.
use Rattle.std.specs.Prelude.{ℕ, List, Vec, map}
use Rattle.std.specs.declared.alloc.Global.{Global}
use Rattle.std.specs.declared.hash.FoldHasher.{FoldHasher}
use Rattle.std.specs.declared.hash.BuildHasherDefault.{BuildHasherDefault}
use Rattle.indexmap.specs.IndexSet.{IndexSet}

abbrev pub phrases_of : IndexSet (Vec ℕ Global) (BuildHasherDefault FoldHasher) → List (List ℕ)
phrases_of names = map (λ k. k.items) names.keys
