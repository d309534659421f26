use Rattle.opa_io.proofs.Gathers.{written_through}
use Rattle.opa_io.proofs.gathered.GatheredSink.write.Goals as goal

pub returns-clause-bytes : goal.returns-clause-bytes
returns-clause-bytes g c = written_through _ _ _ c.pass_all.new.self.passed c.pass_all.new.self.bytes.items c.args.piece.now c.write.result c.in_ok-pass_all.ensures.all (rw c.if-gather.ensures at c.in_ok-pass_all.ensures.bytes) c.write.ensures.bytes
