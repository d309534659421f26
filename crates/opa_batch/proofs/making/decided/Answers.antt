use Rattle.std.proofs.Common.{refl}
use Rattle.opa_batch.specs.Cutting.{below}
use Rattle.opa_batch.proofs.CountLaws.{unchanged}
use Rattle.opa_batch.proofs.making.decided.Goals as goal

pub returns-clause-rows : goal.returns-clause-rows
returns-clause-rows g c = c.filled.ensures.rows

pub returns-in_default-clause-counts : goal.returns-in_default-clause-counts
returns-in_default-clause-counts g c = unchanged c.args.base c.args.heads.now (below c.args.bytes.now) c.args.steps.now c.args.steps.now refl
