use Rattle.std.proofs.Common.{ap, arith}
use Rattle.std.specs.FinMap as map
use Rattle.opa_cells.proofs.Walked.{fewer_kept}
use Rattle.opa_cells.proofs.cells.Cells.retain.Goals as goal

pub invariant_of-self : goal.invariant_of-self
invariant_of-self g c =
    let fewer = fewer_kept c.self.inside.rows c.retain.new.self (g.K.Keeps.keeps c.args.keeper.now) c.retain.ensures in
    c.counted-self-inside.ensures (omega (arith, fewer, c.self.invariant, c.len-before.type_inv, c.len-before.ensures, ap map.len c.self.view_is))
