use Rattle.std.proofs.Common.{sym, ap, ◌∙◌}
use Rattle.std.specs.Option.{option_copied}
use Rattle.opa_model.specs.declared.things.Relation.{Relation}
use Rattle.opa_case.specs.Shapes.{shape_of}
use Rattle.opa_case.specs.Steps.{rel}
use Rattle.opa_case.proofs.Shaped.{shape_is}
use Rattle.opa_saved.proofs.PutLaws.{agrees_none, contained_there, one_reference_takes, one_reference_left}
use Rattle.opa_saved.proofs.build.put_one_reference.Goals as goal

pub returns-in_default-clause-here : goal.returns-in_default-clause-here
returns-in_default-clause-here c =
    let m = c.args.model.now in
    agrees_none (shape_of m) c.args.ruled.now (shape_is m c.entity_count-count.ensures.form) c.args.lists.now c.requires.taken c.args.case.now c.requires.some c.args.number c.args.inst.now (sym c.get.ensures ∙ ap option_copied c.in_default.is)

pub relation_of-requires : goal.relation_of-requires
relation_of-requires c = c.requires.taken.declared (rel c.args.number) c.args.inst.now c.in-Some.names.now (sym c.get.ensures ∙ ap option_copied c.in-Some.is)

pub returns-then-relation_of-clause-here : goal.returns-then-relation_of-clause-here
returns-then-relation_of-clause-here c =
    let m = c.args.model.now in
    contained_there (shape_of m) c.args.ruled.now (shape_is m c.entity_count-count.ensures.form) c.args.lists.now c.requires.taken c.args.case.now c.requires.some c.requires.before (rel c.args.number) c.args.inst.now c.in-Some.names.now
    (sym c.get.ensures ∙ ap option_copied c.in-Some.is) (sym (ap (λ (r : Relation). r.contains) c.relation_of.ensures) ∙ c.if-relation_of.true)

pub set_one-requires-clause-declared : goal.set_one-requires-clause-declared
set_one-requires-clause-declared c = c.requires.taken.declared (rel c.args.number) c.args.inst.now c.in-Some.names.now (sym c.get.ensures ∙ ap option_copied c.in-Some.is)

pub set_one-requires-clause-takes : goal.set_one-requires-clause-takes
set_one-requires-clause-takes c =
    let m = c.args.model.now in
    one_reference_takes (shape_of m) c.args.ruled.now (shape_is m c.entity_count-count.ensures.form) c.args.lists.now c.requires.taken c.args.case.now c.requires.some (rel c.args.number) c.args.inst.now c.in-Some.names.now c.in_ok-names.names
    (sym c.get.ensures ∙ ap option_copied c.in-Some.is) (c.in_ok-names.ensures ∙ c.as_slice.ensures) c.requires.before (sym (ap (λ (r : Relation). r.contains) c.relation_of.ensures) ∙ c.if-relation_of.false)

pub returns : goal.returns
returns c =
    let m = c.args.model.now in
    let l = one_reference_left (shape_of m) c.args.ruled.now (shape_is m c.entity_count-count.ensures.form) c.args.lists.now c.requires.taken c.args.case.now c.requires.some (rel c.args.number) c.args.inst.now c.in-Some.names.now c.in_ok-names.names
    (sym c.get.ensures ∙ ap option_copied c.in-Some.is) (c.in_ok-names.ensures ∙ c.as_slice.ensures) c.requires.before (sym (ap (λ (r : Relation). r.contains) c.relation_of.ensures) ∙ c.if-relation_of.false)
    c.set_one.new.case c.in_ok-set_one.ensures.set c.in_ok-set_one.ensures.fits in
    record { some = l.some; keeps = l.keeps; here = l.here }
