use Rattle.std.specs.Prelude.{is_some, not}
use Rattle.std.proofs.Common.{ap, sym, ◌∙◌}
use Rattle.std.specs.FinMap as map
use Rattle.opa_cells.specs.Rows.{with_one}
use Rattle.opa_cells.proofs.Rowed.{if_ok, on_ok}
use Rattle.opa_cells.proofs.Ones.{got_other, held_some, none_held, put_again, put_held, put_other}
use Rattle.opa_cells.proofs.row.Row.insert.Goals as goal

pub returns-then-is_held-clause-new : goal.returns-then-is_held-clause-new
returns-then-is_held-clause-new g c =
    ap not (sym (held_some c.self.inside.one c.self.inside.others c.args.inst (sym c.is_held.ensures ∙ c.if-is_held.true))) ∙ ap (λ m. not (is_some (map.get m c.args.inst))) c.self.view_is

pub returns-then-is_held-clause-ok : goal.returns-then-is_held-clause-ok
returns-then-is_held-clause-ok g c =
    put_held c.self.inside.one c.self.inside.others c.args.inst c.args.value (sym c.is_held.ensures ∙ c.if-is_held.true) ∙ ap (λ m. map.insert m c.args.inst c.args.value) c.self.view_is

pub returns-clause-new : goal.returns-clause-new
returns-clause-new g c =
    if_ok c.insert.result (λ new told. told ∙ ap (λ o. not (is_some o)) (got_other c.self.inside.one c.self.inside.others c.args.inst (sym c.is_held.ensures ∙ c.if-is_held.false) ∙ ap (λ m. map.get m c.args.inst) c.self.view_is)) c.insert.ensures.new

pub returns-clause-ok : goal.returns-clause-ok
returns-clause-ok g c =
    on_ok c.insert.result (λ is. ap (with_one c.self.inside.one) is ∙ put_other c.self.inside.one c.self.inside.others c.args.inst c.args.value (sym c.is_held.ensures ∙ c.if-is_held.false)
    ∙ ap (λ m. map.insert m c.args.inst c.args.value) c.self.view_is) c.insert.ensures.ok

pub returns-then-is_none-clause-new : goal.returns-then-is_none-clause-new
returns-then-is_none-clause-new g c =
    ap not (c.remove-was.ensures.was ∙ ap is_some (got_other c.self.inside.one c.self.inside.others c.args.inst (sym c.is_held.ensures ∙ c.if-is_held.false))) ∙ ap (λ m. not (is_some (map.get m c.args.inst))) c.self.view_is

pub returns-then-is_none-clause-ok : goal.returns-then-is_none-clause-ok
returns-then-is_none-clause-ok g c =
    ap (λ m. map.insert m c.args.inst c.args.value) (c.remove-was.ensures.removed) ∙ put_again c.self.inside.others c.args.inst c.args.value
    ∙ ap (λ o. map.insert (with_one o c.self.inside.others) c.args.inst c.args.value) (none_held c.self.inside.one (c.is_none.ensures) c.if-is_none.true) ∙ ap (λ m. map.insert m c.args.inst c.args.value) c.self.view_is
