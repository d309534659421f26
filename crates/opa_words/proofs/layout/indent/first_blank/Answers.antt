use Rattle.std.proofs.Common.{lit<}
use Rattle.std.proofs.lemmas.Str.Pattern.{strip_prefix_char}
use Rattle.std.specs.Prelude.{None}
use Rattle.opa_words.proofs.layout.IndentLaws.{no_blank}
use Rattle.opa_words.proofs.layout.indent.first_blank.Goals as goal

pub returns-in-None : goal.returns-in-None
returns-in-None c = no_blank c.args.text.now (strip_prefix_char 9 c.args.text.now None c.in_default.ensures.cases (lit< tt)) (strip_prefix_char 32 c.args.text.now None c.in-None.ensures.cases (lit< tt))
