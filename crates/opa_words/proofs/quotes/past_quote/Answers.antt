use Rattle.std.proofs.Common.{lit<}
use Rattle.std.specs.Prelude.{None}
use Rattle.std.proofs.lemmas.Str.Pattern.{strip_prefix_char}
use Rattle.opa_words.proofs.QuotedLaws.{no_second, no_first}
use Rattle.opa_words.proofs.quotes.past_quote.Goals as goal

pub returns-in-None-clause-none : goal.returns-in-None-clause-none
returns-in-None-clause-none c = no_second c.args.text.now (strip_prefix_char 34 c.args.text.now None c.in-None.ensures.cases (lit< tt))

pub returns-in-None-clause-same : goal.returns-in-None-clause-same
returns-in-None-clause-same c = no_first c.args.text.now (strip_prefix_char 34 c.args.text.now None c.in-None.ensures.cases (lit< tt))
