use Rattle.std.proofs.Common.{sym, ap, subst, ◌∙◌}
use Rattle.std.specs.Option.{option_copied}
use Rattle.opa_model.specs.declared.ids.RelId.{RelId}
use Rattle.opa_case.specs.Shapes.{shape_of}
use Rattle.opa_case.proofs.Shaped.{shape_is}
use Rattle.opa_saved.specs.Building.{Agrees}
use Rattle.opa_saved.proofs.PutLaws.{one_contained_takes, one_contained_left}
use Rattle.opa_saved.proofs.build.put_one_contained.Goals as goal

pub set_one-requires-clause-takes : goal.set_one-requires-clause-takes
set_one-requires-clause-takes c =
    let m = c.args.model.now in
    one_contained_takes (shape_of m) c.args.ruled.now (shape_is m c.entity_count-count.ensures.form) c.args.lists.now c.requires.taken c.args.case.now c.requires.some c.place_of.result.1 c.args.inst.now c.in-Some.names.now c.in_ok-names.names
    (sym c.get.ensures ∙ ap option_copied c.in-Some.is) (c.in_ok-names.ensures ∙ c.as_slice.ensures) c.args.entity c.requires.positive c.requires.declared c.requires.only c.requires.before c.place_of.ensures.contained

pub returns : goal.returns
returns c =
    let m = c.args.model.now in
    let own = c.place_of.ensures.contained in
    let l = one_contained_left (shape_of m) c.args.ruled.now (shape_is m c.entity_count-count.ensures.form) c.args.lists.now c.requires.taken c.args.case.now c.requires.some c.place_of.result.1 c.args.inst.now c.in-Some.names.now c.in_ok-names.names
    (sym c.get.ensures ∙ ap option_copied c.in-Some.is) (c.in_ok-names.ensures ∙ c.as_slice.ensures) c.args.entity c.requires.positive c.requires.declared c.requires.only c.requires.before own
    c.set_one.new.case c.in_ok-set_one.ensures.set c.in_ok-set_one.ensures.fits in
    record {
      some = l.0.some;
      only = l.1;
      keeps = l.0.keeps;
      here = λ e. subst (λ n. Agrees c.args.lists.now c.set_one.new.case n c.args.inst.now) (ap (λ (r : RelId). r.0) own ∙ sym e) l.0.here;
    }
