-- The files of a shelf open at most one thing.
use Rattle.std.specs.Prelude.{ℕ, ◌≡◌, List, Result}
use Rattle.opa_io.specs.Outside.{Files}
use Rattle.opa_tree.specs.declared.faults.RbFault.{RbFault}
use Rattle.opa_tree.specs.declared.rulebase.Rulebase.{Rulebase}
use Rattle.opa_rulebase.specs.declared.files.source.SourceFile.{SourceFile}
use Rattle.opa_rulebase.specs.Loading.{IsAccepted, IsRefused, Opens}

-- files are refused for at most one fault, with at most one circle
abbrev pub OneRefusal : Type 0
OneRefusal = (files : List SourceFile) (f g : RbFault) (circle other : List (List ℕ)) → IsRefused files f circle → IsRefused files g other → (f ≡ g) × (circle ≡ other)

-- files that spell a rulebase aren't refused
abbrev pub AcceptedOrRefused : Type 0
AcceptedOrRefused = (files : List SourceFile) (base : Rulebase) (fault : RbFault) (circle : List (List ℕ)) → IsAccepted files base → IsRefused files fault circle → ⊥

-- files spell at most one rulebase, and all that it holds is one
abbrev pub OneBase : Type 0
OneBase = (files : List SourceFile) (a b : Rulebase) → IsAccepted files a → IsAccepted files b → a ≡ b

-- the files of a shelf open at most one thing under a name: an accepted rulebase, or a refusal as it is printed
abbrev pub OneOpening : Type 0
OneOpening = (files : Files) (name : List ℕ) (a b : Result Rulebase (List ℕ)) → Opens files name a → Opens files name b → a ≡ b
