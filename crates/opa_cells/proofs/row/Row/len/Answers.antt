use Rattle.std.specs.Prelude.{is_some}
use Rattle.std.proofs.Common.{ap, sym, ◌∙◌, ◌+◌}
use Rattle.std.specs.FinMap as map
use Rattle.opa_cells.specs.Rows.{with_one}
use Rattle.opa_cells.proofs.Ones.{some_copied, len_there, len_new}
use Rattle.opa_cells.proofs.row.Row.len.Goals as goal

pub returns-then-is_some : goal.returns-then-is_some
returns-then-is_some g c =
    c.len-then-is_some.ensures.len ∙ len_there _ c.self.inside.others (sym (c.is_some.ensures ∙ some_copied c.get.result ∙ ap is_some c.get.ensures) ∙ c.if-is_some.true)
    ∙ ap (λ o. map.len (with_one o c.self.inside.others)) (sym c.in-Some.is) ∙ ap map.len c.self.view_is

pub returns-else-is_some : goal.returns-else-is_some
returns-else-is_some g c =
    ap (λ n. n + 1) c.len-else-is_some.ensures.len ∙ len_new _ c.self.inside.others (sym (c.is_some.ensures ∙ some_copied c.get.result ∙ ap is_some c.get.ensures) ∙ c.if-is_some.false)
    ∙ ap (λ o. map.len (with_one o c.self.inside.others)) (sym c.in-Some.is) ∙ ap map.len c.self.view_is
