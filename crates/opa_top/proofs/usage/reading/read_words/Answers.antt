use Rattle.std.proofs.Common.{map, string_bytes, ◌∙◌}
use Rattle.opa_top.proofs.usage.AskedLaws.{asks_nothing, other_error}
use Rattle.opa_top.proofs.usage.reading.read_words.Goals as goal

pub returns-in-Err-clause-usage : goal.returns-in-Err-clause-usage
returns-in-Err-clause-usage c =
    λ is. asks_nothing (map string_bytes c.args.words.now) (c.read_positionals.ensures.usage (c.in-Err.is ∙ other_error _ _ is))
