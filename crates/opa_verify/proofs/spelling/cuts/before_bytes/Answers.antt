use Rattle.std.proofs.Common.{sym, arith}
use Rattle.opa_verify.proofs.spelling.Cutting.{end_isnt}
use Rattle.opa_verify.proofs.spelling.cuts.before_bytes.Goals as goal

pub returns-in-None : goal.returns-in-None
returns-in-None c =
    end_isnt c.args.text.now c.split_at.result.0.now c.split_at.result.1.now c.args.last.now (sym c.split_at.ensures.by_index.0) (omega (arith, c.split_at.ensures.back_len, c.if-text-last.false)) c.in-None.ensures
