-- Questions of what is declared.
use Rattle.std.proofs.Common.{◌≡◌, ℕ, List, Option, None, Some, refl, sym, subst}
use Rattle.std.specs.List.{AllByRecursion}
use Rattle.opa_model.specs.declared.ids.AttrId.{AttrId}
use Rattle.opa_model.specs.Lookups.{goal_at}
use Rattle.opa_case.specs.Cases.{CaseView}
use Rattle.opa_case.specs.declared.question.Question.{Question}
use Rattle.opa_tree.specs.declared.rulebase.Rulebase.{Rulebase}
use Rattle.opa_mean.specs.Rulebases.{IsOf}
use Rattle.opa_text.specs.Points.{HasAsked}
use Rattle.opa_mean.specs.Goals.Asked.{AskedIsDeclared}
use Rattle.opa_need.specs.Goals.{relevant_or, relevant_to}
use Rattle.opa_reply.proofs.reporting.Goals.{goal_declared}

pub relevant_declared : AskedIsDeclared → (r : Rulebase) (c : CaseView) → IsOf r c → (n : ℕ) (qs : List Question) → qs ≡ relevant_to r c n → AllByRecursion (HasAsked r.model) qs
relevant_declared law r c is n qs e = subst (AllByRecursion (HasAsked r.model)) (sym e) (go (goal_at r.model n) refl)
  where
    go : (o : Option AttrId) → goal_at r.model n ≡ o → AllByRecursion (HasAsked r.model) (relevant_or r c o)
    go None at = tt
    go (Some a) at = law r c is a (goal_declared r.model is.is_model n a at)
