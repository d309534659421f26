use Rattle.std.proofs.Common.{◌∙◌, inr}
use Rattle.opa_batch.proofs.CutLaws.{begins}
use Rattle.opa_batch.proofs.records.plain_reader.Goals as goal

pub returns : goal.returns
returns c =
    let fr = c.from_reader.ensures in
    let e = c.flexible.ensures in
    let h = c.has_headers.ensures in
    begins c.args.bytes.now _ (rw (e, h) at fr.trim ∙ c.new.ensures.trim) (inr (inr (rw (e, h) at fr.has_headers, fr.headers))) (rw (e, h) at fr.config ∙ c.new.ensures.config) fr.source fr.state
