-- Which answers can be set, or taken away.
use Rattle.std.specs.Prelude.{◌≡◌, false, IfSome, Option}
use Rattle.opa_model.specs.declared.ids.AttrId.{AttrId}
use Rattle.opa_model.specs.Models.{HasAttribute}
use Rattle.opa_cells.specs.declared.instance.InstanceId.{InstanceId}
use Rattle.opa_case.specs.Cases.{CaseView, Answer}
use Rattle.opa_case.specs.Shapes.{shape_of}
use Rattle.opa_case.specs.Steps.{is_unanswerable, is_unknown_answer}
use Rattle.opa_mean.specs.Rulebases.{IsOf}
use Rattle.opa_session.specs.Store.Nexts.{answered}
use Rattle.opa_tree.specs.declared.rulebase.Rulebase.{Rulebase}

-- The answer can be set, or taken away, and says something on some day.
pub record IsAnswerable (r : Rulebase) (c : CaseView) (a : AttrId) (i : InstanceId) (line : Option Answer) : Type 0 where
  pub declared : HasAttribute r.model a
  pub free : is_unanswerable (shape_of r.model) r.ruled c a i ≡ false
  pub tells : IfSome line (λ l. is_unknown_answer l ≡ false)
  pub fits : IsOf r (answered c a i line)
