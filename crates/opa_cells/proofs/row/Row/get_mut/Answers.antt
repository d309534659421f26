use Rattle.std.proofs.Common.{ap, sym, ◌∙◌}
use Rattle.std.specs.Option.{option_copied_mut, option_map}
use Rattle.std.specs.FinMap as map
use Rattle.opa_cells.proofs.Lends.{lent, lent_some}
use Rattle.opa_cells.proofs.Ones.{got_held, got_other, put_other, lent_held}
use Rattle.opa_cells.proofs.row.Row.get_mut.Goals as goal

pub returns-in-Some : goal.returns-in-Some
returns-in-Some g c =
    let one = c.self.inside.one in
    let m = c.self.inside.others in
    let i = c.args.inst.now in
    let h = sym c.is_held.ensures ∙ c.if-is_held.true in
    let is = sym (ap option_copied_mut c.in-Some.is) ∙ c.as_mut.ensures.value in (
      lent_some (λ w. lent_held c.in-Some.field-0.now one m i w is h ∙ ap (λ x. map.insert x i w) c.self.view_is),
      record { writes_back = tt; value = ap (option_map (λ e. e.1)) is ∙ got_held one m i h ∙ ap (λ x. map.get x i) c.self.view_is },
    )

pub returns : goal.returns
returns g c =
    let one = c.self.inside.one in
    let m = c.self.inside.others in
    let i = c.args.inst.now in
    let h = sym c.is_held.ensures ∙ c.if-is_held.false in (
      lent c.get_mut.result _ (λ w. map.insert c.args.self.now i w) _ _ (λ some w. put_other one m i w h ∙ ap (λ x. map.insert x i w) c.self.view_is) (λ none. c.self.view_is),
      record { writes_back = tt; value = c.get_mut.ensures.value ∙ got_other one m i h ∙ ap (λ x. map.get x i) c.self.view_is },
    )
