use Rattle.std.proofs.Common.{sym, ◌∙◌}
use Rattle.opa_words.proofs.AsciiLetters.{ascii_letter}
use Rattle.opa_words.proofs.characters.is_letter.Goals as goal

pub returns-then-is_ascii : goal.returns-then-is_ascii
returns-then-is_ascii c = c.is_ascii_alphabetic.ensures.value ∙ ascii_letter c.args.c (sym c.is_ascii.ensures ∙ c.if-is_ascii.true)
