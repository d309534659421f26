use Rattle.opa_case.proofs.Listing.{index_out}
use Rattle.opa_case.proofs.listed.Listed.remove.Goals as goal

pub invariant_of-self : goal.invariant_of-self
invariant_of-self c =
    index_out c.self.inside.cells c.take_out.new.cells c.self.inside.index.entries c.take_out.new.index.entries c.args.number c.args.inst.now c.self.invariant c.take_out.ensures.cells c.take_out.ensures.index
