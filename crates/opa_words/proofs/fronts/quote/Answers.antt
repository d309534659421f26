use Rattle.std.proofs.Common.{lit<}
use Rattle.std.proofs.lemmas.Str.Pattern.{strip_prefix_char}
use Rattle.opa_words.proofs.FrontLaws.{one_quote}
use Rattle.opa_words.proofs.fronts.quote.Goals as goal

pub returns-clause-rest : goal.returns-clause-rest
returns-clause-rest c = one_quote c.args.line.now c.strip_prefix.result (strip_prefix_char 34 c.args.line.now c.strip_prefix.result c.strip_prefix.ensures.cases (lit< tt))
