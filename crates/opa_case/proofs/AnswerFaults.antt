-- Which refusal the tests of an answer give.
use Rattle.std.specs.Prelude.{◌≡◌, Bool, true, false, nat_lt, cond, not, ◌||◌, List, Option, None, Some, length}
use Rattle.std.specs.List.{list_all}
use Rattle.std.specs.FinMap.{len}
use Rattle.std.proofs.Common.{ap, sym, ◌∙◌}
use Rattle.opa_cells.specs.declared.instance.InstanceId.{InstanceId}
use Rattle.opa_model.specs.declared.ids.AttrId.{AttrId}
use Rattle.opa_case.specs.declared.change.Refusal.{Refusal}
use Rattle.opa_case.specs.declared.change.Refusal.TheVariants.{Name, Kind as WrongKind, Range, Limit}
use Rattle.opa_case.specs.Shapes.{Shape}
use Rattle.opa_case.specs.Cases.{CaseView, Answer}
use Rattle.opa_case.specs.Steps.{is_unanswerable, has_kind, in_bounds, with_answer, answer_fault}

abbrev pub chosen : Bool → Bool → Bool → Bool → Bool → Option Refusal
chosen u k b l o = cond u (Some Name) (cond (not k) (Some WrongKind) (cond (not b) (Some Range) (cond (l || o) (Some Limit) None)))

module _ (s : Shape) (ruled : List Bool) (c : CaseView) (a : AttrId) (i : InstanceId) (line : Answer) where
  abbrev pub kinds : Bool
  kinds = list_all (λ p. has_kind (s.attribute a).kind p.1) line

  abbrev pub bounds : Bool
  bounds = list_all (λ p. in_bounds (s.attribute a) p.1) line

  abbrev pub long : Bool
  long = nat_lt 1000 (length line)

  abbrev pub over : Bool
  over = nat_lt 100000 (len (with_answer c a i line).answers)

  pub kind_fault : is_unanswerable s ruled c a i ≡ false → kinds ≡ false → Some WrongKind ≡ answer_fault s ruled c a i line
  kind_fault free kind = sym (ap (λ x. chosen x kinds bounds long over) free ∙ ap (λ x. chosen false x bounds long over) kind)

  range_step : is_unanswerable s ruled c a i ≡ false → kinds ≡ true → answer_fault s ruled c a i line ≡ chosen false true bounds long over
  range_step free kind = ap (λ x. chosen x kinds bounds long over) free ∙ ap (λ x. chosen false x bounds long over) kind

  pub range_fault : is_unanswerable s ruled c a i ≡ false → kinds ≡ true → bounds ≡ false → Some Range ≡ answer_fault s ruled c a i line
  range_fault free kind out = sym (range_step free kind ∙ ap (λ x. chosen false true x long over) out)

  limit_step : is_unanswerable s ruled c a i ≡ false → kinds ≡ true → bounds ≡ true → answer_fault s ruled c a i line ≡ chosen false true true long over
  limit_step free kind within = range_step free kind ∙ ap (λ x. chosen false true x long over) within

  pub long_fault : is_unanswerable s ruled c a i ≡ false → kinds ≡ true → bounds ≡ true → long ≡ true → Some Limit ≡ answer_fault s ruled c a i line
  long_fault free kind within size = sym (limit_step free kind within ∙ ap (λ x. chosen false true true x over) size)

  pub last_fault : (full : Bool) → is_unanswerable s ruled c a i ≡ false → kinds ≡ true → bounds ≡ true → long ≡ false → over ≡ full → cond full (Some Limit) None ≡ answer_fault s ruled c a i line
  last_fault full free kind within size many = sym (limit_step free kind within ∙ ap (λ x. chosen false true true x over) size ∙ ap (λ x. chosen false true true false x) many)
