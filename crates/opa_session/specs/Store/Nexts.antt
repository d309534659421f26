-- The case that comes with one answer.
use Rattle.std.specs.Prelude.{Option, None, Some}
use Rattle.std.specs.FinMap.{FinMap, insert, remove}
use Rattle.std.specs.Option.{option_copied}
use Rattle.opa_model.specs.declared.ids.AttrId.{AttrId}
use Rattle.opa_cells.specs.Keys.{cell_cmp}
use Rattle.opa_cells.specs.declared.instance.InstanceId.{InstanceId}
use Rattle.opa_case.specs.Cases.{CaseView, Answer}
use Rattle.opa_session.specs.declared.store.next.Answered.{Answered}

abbrev pub answers_with : FinMap cell_cmp Answer → AttrId → InstanceId → Option Answer → FinMap cell_cmp Answer
answers_with answers a i None = remove answers (a.0, i)
answers_with answers a i (Some line) = insert answers (a.0, i) line

-- one answer is set, or taken away; all else stays
abbrev pub answered : CaseView → AttrId → InstanceId → Option Answer → CaseView
answered c a i o = record c { answers = answers_with c.answers a i o }

-- the case that comes with an answer
abbrev pub case_with : Answered → CaseView
case_with n = answered n.case.now n.attr n.inst.now (option_copied n.line)
