use Rattle.std.proofs.Common.{MatchOption, subst, ap, ◌∙◌, sym, length}
use Rattle.std.proofs.lemmas.Bool.{eqb-false}
use Rattle.opa_text.specs.Laws.{CanBeQuoted}
use Rattle.opa_words.specs.Fronts.{BeginsWithText, BeginsWithNoText}
use Rattle.opa_verify.proofs.spelling.Oks.{isnt}
use Rattle.opa_verify.proofs.spelling.Valued.{no_text, text_goes_on, text_unclean}
use Rattle.opa_verify.proofs.spelling.values.text_in.Goals as goal

pub returns-in-None : goal.returns-in-None
returns-in-None c = no_text c.args.text.now (subst (λ o. MatchOption o (BeginsWithNoText c.args.text.now) (λ x. BeginsWithText c.args.text.now x.0 x.1.now)) c.in-None.is c.in_ok-front_text.ensures)

pub returns-then-not-is_empty : goal.returns-then-not-is_empty
returns-then-not-is_empty c =
    text_goes_on c.args.text.now c.in-Some.inner c.in-Some.rest.now (subst (λ o. MatchOption o (BeginsWithNoText c.args.text.now) (λ x. BeginsWithText c.args.text.now x.0 x.1.now)) c.in-Some.is c.in_ok-front_text.ensures)
    (λ e. eqb-false (length c.in-Some.rest.now) 0 (sym c.is_empty.ensures ∙ c.if-not-is_empty.true) (ap length e))

pub returns-then-not-can_be_quoted : goal.returns-then-not-can_be_quoted
returns-then-not-can_be_quoted c =
    text_unclean c.args.text.now c.in-Some.inner c.in-Some.rest.now (subst (λ o. MatchOption o (BeginsWithNoText c.args.text.now) (λ x. BeginsWithText c.args.text.now x.0 x.1.now)) c.in-Some.is c.in_ok-front_text.ensures)
    (λ can. isnt c.can_be_quoted.result c.can_be_quoted.ensures c.if-not-can_be_quoted.true (subst CanBeQuoted (sym c.as_str.ensures) can))
