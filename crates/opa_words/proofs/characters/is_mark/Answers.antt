use Rattle.std.proofs.Common.{sym, ◌∙◌}
use Rattle.opa_words.proofs.AsciiLetters.{ascii_no_mark}
use Rattle.opa_words.proofs.characters.is_mark.Goals as goal

pub returns-then-is_ascii : goal.returns-then-is_ascii
returns-then-is_ascii c = ascii_no_mark c.args.c (sym c.is_ascii.ensures ∙ c.if-is_ascii.true)
