use Rattle.opa_code.proofs.Placed.{placed_codes}
use Rattle.opa_code.proofs.code.Code.of.Goals as goal

pub code_by-requires : goal.code_by-requires
code_by-requires c = placed_codes _ _ _ _ _ _ c.as_slice-codes.ensures c.as_slice-places.ensures c.args.self.now.compiled c.args.self.now.placed
