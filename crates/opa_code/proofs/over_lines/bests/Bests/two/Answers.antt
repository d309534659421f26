use Rattle.std.proofs.Common.{◌∷◌, []}
use Rattle.opa_code.proofs.over_lines.Besting.{bests_both}
use Rattle.opa_code.proofs.over_lines.bests.Bests.two.Goals as goal

pub returns : goal.returns
returns c = bests_both c.args.most (c.args.first.now ∷ []) (c.args.second.now ∷ []) c.one-one.result c.one-other.result c.both.result (c.one-one.ensures.bests c.args.most) (c.one-other.ensures.bests c.args.most) c.both.ensures
