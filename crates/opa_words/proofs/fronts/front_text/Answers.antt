use Rattle.std.proofs.Common.{sym}
use Rattle.opa_words.proofs.FrontLaws.{text_is_longest, text_is_none, text_before, scanned_is_quoted}
use Rattle.opa_words.proofs.fronts.front_text.Goals as goal

pub before-requires : goal.before-requires
before-requires c = text_before c.args.line.now c.in-Some.rest.now (sym c.in-Some.ensures)

pub text_of_quoted-requires : goal.text_of_quoted-requires
text_of_quoted-requires c = scanned_is_quoted c.args.line.now c.in-Some.rest.now c.before-in-Some.result.now (sym c.in-Some.ensures) c.before-in-Some.ensures

pub returns-in-None : goal.returns-in-None
returns-in-None c = text_is_none c.args.line.now (sym c.in-None.ensures)

pub returns-in_ok-text-in-Some : goal.returns-in_ok-text-in-Some
returns-in_ok-text-in-Some c =
    text_is_longest c.args.line.now c.in-Some.rest.now c.in_ok-text-in-Some.text c.before-in-Some.result.now (sym c.in-Some.ensures) c.before-in-Some.ensures c.in_ok-text-in-Some.ensures
