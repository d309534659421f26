use Rattle.std.proofs.Common.{◌≡◌, rules}
use Rattle.opa_line.specs.Growth.{last_value}
use Rattle.opa_line.proofs.MoreDays.{last_at}
use Rattle.opa_line.proofs.builder.ends_with.Goals as goal

pub returns : goal.returns
returns g c =
    let e : c.index-pairs-last.result.1 ≡ last_value c.args.value.now c.args.pairs.now = last_at c.args.pairs.now c.index-pairs-last.result c.args.value.now c.requires c.index-pairs-last.is in
    search rules
