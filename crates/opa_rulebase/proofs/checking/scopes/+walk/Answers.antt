use Rattle.std.proofs.Common.{◌≡◌, ◌∙◌, ◌&&◌, ◌∷◌, map, ap, ap₂, sym, Bool, false, List}
use Rattle.std.specs.Prelude.{Option}
use Rattle.std.specs.List.{list_all}
use Rattle.std.specs.Option.{option_map_or}
use Rattle.opa_model.specs.declared.ids.EntityId.{EntityId}
use Rattle.opa_model.specs.declared.things.Relation.{Relation}
use Rattle.opa_tree.specs.Scopes.{Scope, is_reached, all_reached, encloses}
use Rattle.opa_tree.proofs.ScopeLaws.{scope-All, scope-Any, scope-Op, scope-Window, scope-Rolling, scope-Over, scope-Table}
use Rattle.opa_rulebase.specs.Checking.RowScopes.{row_reached}
use Rattle.opa_rulebase.proofs.checking.ScopeSteps.{all_scopes, row_scopes}
use Rattle.opa_rulebase.proofs.checking.scopes.+walk.Goals as goal

pub is_reached-returns-in_ok-all-in-All : goal.is_reached-returns-in_ok-all-in-All
is_reached-returns-in_ok-all-in-All t c =
    let m = c.args.model.now in let at = c.args.enclosing.now in
    c.in_ok-all-in-All.ensures ∙ ap (list_all (λ e. is_reached m e at)) c.as_slice.ensures ∙ all_scopes m at c.in-All.parts
    ∙ ap (λ (s : Scope). s at) (sym (scope-All m c.in-All.parts) ∙ ap (is_reached m) (sym c.in-All.is))

pub is_reached-returns-in_ok-all-in-Any : goal.is_reached-returns-in_ok-all-in-Any
is_reached-returns-in_ok-all-in-Any t c =
    let m = c.args.model.now in let at = c.args.enclosing.now in
    c.in_ok-all-in-Any.ensures ∙ ap (list_all (λ e. is_reached m e at)) c.as_slice-in-Any.ensures ∙ all_scopes m at c.in-Any.parts
    ∙ ap (λ (s : Scope). s at) (sym (scope-Any m c.in-Any.parts) ∙ ap (is_reached m) (sym c.in-Any.is))

pub is_reached-returns-in_ok-all-in-Op : goal.is_reached-returns-in_ok-all-in-Op
is_reached-returns-in_ok-all-in-Op t c =
    let m = c.args.model.now in let at = c.args.enclosing.now in
    c.in_ok-all-in-Op.ensures ∙ ap (list_all (λ e. is_reached m e at)) c.as_slice-in-Op.ensures ∙ all_scopes m at c.in-Op.parts
    ∙ ap (λ (s : Scope). s at) (sym (scope-Op m c.in-Op.field-0 c.in-Op.parts) ∙ ap (is_reached m) (sym c.in-Op.is))

pub is_reached-returns-in_ok-all-in-Window : goal.is_reached-returns-in_ok-all-in-Window
is_reached-returns-in_ok-all-in-Window t c =
    let m = c.args.model.now in let at = c.args.enclosing.now in
    c.in_ok-all-in-Window.ensures ∙ ap (list_all (λ e. is_reached m e at)) c.as_slice-in-Window.ensures ∙ all_scopes m at c.in-Window.parts
    ∙ ap (λ (s : Scope). s at) (sym (scope-Window m c.in-Window.field-0 c.in-Window.parts) ∙ ap (is_reached m) (sym c.in-Window.is))

pub is_reached-returns-in_ok-is-in-Rolling : goal.is_reached-returns-in_ok-is-in-Rolling
is_reached-returns-in_ok-is-in-Rolling t c =
    let m = c.args.model.now in let at = c.args.enclosing.now in
    c.in_ok-is-in-Rolling.ensures ∙ ap (λ e. is_reached m e at) c.get-in-Rolling.ensures
    ∙ ap (λ (s : Scope). s at) (sym (scope-Rolling m c.in-Rolling.field-0 c.in-Rolling.field-1 c.in-Rolling.part) ∙ ap (is_reached m) (sym c.in-Rolling.is))

pub is_reached-returns-in_ok-rest-in-Table : goal.is_reached-returns-in_ok-rest-in-Table
is_reached-returns-in_ok-rest-in-Table t c =
    let m = c.args.model.now in let at = c.args.enclosing.now in
    c.both-in-Table.ensures ∙ ap₂ (λ (a b : Bool). a && b)
    (c.in_ok-all-in-Table.ensures ∙ ap (list_all (row_reached m at)) c.as_slice-in-Table.ensures ∙ row_scopes m at c.in-Table.rows)
    (c.in_ok-rest-in-Table.ensures ∙ ap (λ e. is_reached m e at) c.get-in-Table.ensures)
    ∙ ap (λ (s : Scope). s at) (sym (scope-Table m c.in-Table.rows c.in-Table.last) ∙ ap (is_reached m) (sym c.in-Table.is))

pub is_reached-returns-in_ok-all-in-Some : goal.is_reached-returns-in_ok-all-in-Some
is_reached-returns-in_ok-all-in-Some t c =
    let m = c.args.model.now in let at = c.args.enclosing.now in
    let inner : List EntityId = c.in-Some.relation.now.target ∷ at in
    c.both.ensures ∙ ap₂ (λ (a b : Bool). a && b) c.encloses.ensures
    (c.in_ok-all-in-Some.ensures ∙ ap₂ (λ (here : List EntityId) es. list_all (λ e. is_reached m e here) es) (c.deref.ensures.value ∙ c.in_ok-inner-in-Some.ensures) c.as_slice-in-Some.ensures ∙ all_scopes m inner c.in-Over.parts)
    ∙ ap (λ (o : Option Relation). option_map_or (λ x. encloses m at x.source && all_reached (map (is_reached m) c.in-Over.parts) (x.target ∷ at)) o false) c.in-Some.ensures
    ∙ ap (λ (s : Scope). s at) (sym (scope-Over m c.in-Over.field-0 c.in-Over.rel c.in-Over.parts) ∙ ap (is_reached m) (sym c.in-Over.is))
