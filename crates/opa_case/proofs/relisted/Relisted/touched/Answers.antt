use Rattle.std.proofs.Common.{subst}
use Rattle.std.specs.FinMap.{FinMap, get}
use Rattle.std.specs.List.{list_any}
use Rattle.std.specs.Option.{option_copied}
use Rattle.opa_cells.specs.Keys.{cell_cmp}
use Rattle.opa_case.specs.Listed.{is_list}
use Rattle.opa_case.specs.Live.{Names, Population}
use Rattle.opa_case.specs.Lost.{refers_to}
use Rattle.opa_case.specs.Shapes.{shape_of}
use Rattle.opa_case.specs.Touched.{AddsKeys}
use Rattle.opa_case.proofs.Touching.{Keys, are_touched}
use Rattle.opa_case.proofs.relisted.Relisted.touched.Goals as goal

pub returns : goal.returns
returns c =
    let n = c.args.self.now in
    let s = shape_of n.model.now in
    are_touched s n.case.now n.rel n.inst.now (option_copied n.names) n.went.items n.came.items n.turns n.referred
    c.add_key.new.keys c.add_every.new.keys c.add_naming_each.new.keys
    (subst (λ (ks : Keys). AddsKeys ks c.add_key.new.keys (is_list n.rel.0 n.inst.now)) c.new-keys.ensures c.in_ok-add_key.ensures)
    c.in_ok-add_every.ensures.keeps c.in_ok-add_every.ensures.every
    (subst (λ (m : FinMap cell_cmp Names). AddsKeys c.add_every.new.keys c.add_naming_each.new.keys (λ q j. list_any (λ g. refers_to s g.0 q (get m (q, j))) n.went.items)) c.stored.ensures
    (subst (λ (p : Population). AddsKeys c.add_every.new.keys c.add_naming_each.new.keys (λ q j. list_any (λ g. refers_to s g.0 q (get c.stored.result.now (q, j))) p)) c.deref.ensures.value c.in_ok-add_naming_each.ensures))
