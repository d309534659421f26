-- Questions of what is declared.
use Rattle.std.specs.Prelude.{◌≡◌, Some}
use Rattle.std.specs.List.{AllByRecursion}
use Rattle.opa_model.specs.declared.ids.AttrId.{AttrId}
use Rattle.opa_model.specs.declared.lists.Lists.{Lists}
use Rattle.opa_model.specs.Models.{HasAttribute, HasRelation}
use Rattle.opa_case.specs.Cases.{CaseView}
use Rattle.opa_case.specs.declared.question.Question.{Question}
use Rattle.opa_case.specs.declared.question.Question.TheVariants as question
use Rattle.opa_tree.specs.declared.rulebase.Rulebase.{Rulebase}
use Rattle.opa_mean.specs.Given.{base_of, facts_of}
use Rattle.opa_mean.specs.Next.{relevant, next}
use Rattle.opa_mean.specs.Rulebases.{IsOf}

-- what is asked is declared
abbrev pub IsDeclared : Lists → Question → Type 0
IsDeclared m (question.Attr a i) = HasAttribute m a
IsDeclared m (question.Members r i) = HasRelation m r

-- What is asked of a declared goal is declared.
abbrev pub AskedIsDeclared : Type 0
AskedIsDeclared = (r : Rulebase) (c : CaseView) → IsOf r c → (a : AttrId) → HasAttribute r.model a → AllByRecursion (IsDeclared r.model) (relevant (base_of r) (facts_of c) a)

-- What is asked next is declared.
abbrev pub NextIsDeclared : Type 0
NextIsDeclared = (r : Rulebase) (c : CaseView) → IsOf r c → (q : Question) → next (base_of r) (facts_of c) r.model.goals ≡ Some q → IsDeclared r.model q
