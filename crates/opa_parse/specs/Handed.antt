-- What is handed on of the rules and of the inferred relations that are read.
use Rattle.std.specs.Prelude.{ℕ, ◌<◌, Bool, List, IsTrue, All}
use Rattle.opa_model.specs.declared.lists.Lists.{Lists}
use Rattle.opa_model.specs.Models.{HasAttribute}
use Rattle.opa_words.specs.declared.layout.block.Block.{Block}
use Rattle.opa_tree.specs.declared.expr.Expr.{Expr}
use Rattle.opa_tree.specs.declared.rules.Inferred.{Inferred}
use Rattle.opa_tree.specs.declared.rules.Rule.{Rule}
use Rattle.opa_tree.specs.Accepted.{AreFiled}
use Rattle.opa_tree.specs.Trees.{has_form, IsShallow}

-- the tree has its form at the top of a rule and below
abbrev pub IsFormed : Expr → Type 0
IsFormed e = (at_top : Bool) → IsTrue (has_form e at_top)

abbrev pub AreFormed : List Inferred → Type 0
AreFormed inferences = All (λ i. IsFormed i.expr) inferences

-- no inferred relation's tree is too deep
abbrev pub AreFlat : List Inferred → Type 0
AreFlat inferences = All (λ i. IsShallow i.expr) inferences

-- each rule concludes a declared attribute
abbrev pub AreDeclared : Lists → List Rule → Type 0
AreDeclared m rules = All (λ r. HasAttribute m r.attr) rules

-- each rule stands in one of so many files, where the blocks do
abbrev pub AreFiledAs : List Block → List Rule → Type 0
AreFiledAs blocks rules = (files : ℕ) → All (λ b. b.file < files) blocks → AreFiled files rules
