use Rattle.std.proofs.Common.{ap, ◌∙◌, [], Option}
use Rattle.std.specs.Prelude.{unwrap_or}
use Rattle.opa_case.specs.Live.{Names}
use Rattle.opa_case.proofs.Listing.{known_out}
use Rattle.opa_case.proofs.listed.take_out.Goals as goal

pub returns-clause-index : goal.returns-clause-index
returns-clause-index c =
    known_out c.args.cells.now c.args.index.now.entries c.drop_names.new.index.entries c.args.number c.args.inst.now c.known_names.result.now
    (c.known_names.ensures ∙ ap (λ (o : Option Names). unwrap_or o []) c.get.ensures) c.drop_names.ensures
