use Rattle.std.proofs.Common.{ap, subst, ◌∙◌, [], Option, false}
use Rattle.std.specs.Prelude.{unwrap_or}
use Rattle.opa_cells.specs.declared.instance.InstanceId.{InstanceId}
use Rattle.opa_case.specs.Live.{Names}
use Rattle.opa_case.specs.Turns.{names_without}
use Rattle.opa_case.specs.Listed.{SetsNames}
use Rattle.opa_case.proofs.Listing.{new_names, index_put}
use Rattle.opa_case.proofs.listed.Listed.insert.Goals as goal

pub put_in-requires : goal.put_in-requires
put_in-requires c =
    let lists = c.self.inside.cells in
    let old = c.known_names-known.ensures ∙ ap (λ (o : Option Names). unwrap_or o []) c.get.ensures in
    record {
      new = new_names lists c.self.inside.index.entries c.args.number c.args.inst c.args.names c.as_slice-3.result.now c.self.invariant
          (c.as_slice-3.ensures ∙ c.in_ok-coming.ensures ∙ ap (λ (x : Names). names_without x c.known_names-known.result.now) c.as_slice.ensures ∙ ap (names_without c.args.names) old);
    }

pub invariant_of-self-2 : goal.invariant_of-self-2
invariant_of-self-2 c =
    let lists = c.self.inside.cells in
    let old = c.known_names-known.ensures ∙ ap (λ (o : Option Names). unwrap_or o []) c.get.ensures in
    index_put lists c.put_in.new.cells c.self.inside.index.entries c.put_in.new.index.entries c.drop_names.new.index.entries c.args.number c.args.inst c.args.names c.as_slice-3.result.now c.as_slice-4.result.now c.self.invariant
    c.in_ok-put_in.ensures.ok_cells
    (c.as_slice-3.ensures ∙ c.in_ok-coming.ensures ∙ ap (λ (x : Names). names_without x c.known_names-known.result.now) c.as_slice.ensures ∙ ap (names_without c.args.names) old)
    (c.as_slice-4.ensures ∙ c.in_ok-leaving.ensures ∙ ap (names_without c.known_names-known.result.now) c.as_slice-2.ensures ∙ ap (λ (x : Names). names_without x c.args.names) old)
    c.in_ok-put_in.ensures.ok_index
    (subst (λ (i : InstanceId). SetsNames false c.put_in.new.index.entries c.drop_names.new.index.entries c.args.number c.as_slice-4.result.now i) c.in_ok-key.ensures c.drop_names.ensures)
