use Rattle.std.proofs.Common.{sym, ◌∙◌}
use Rattle.opa_verify.proofs.spelling.Oks.{isnt}
use Rattle.opa_verify.proofs.spelling.Phrased.{unphrased_isnt, unspaced_isnt}
use Rattle.opa_verify.proofs.spelling.spots.phrase_of.Goals as goal

pub returns-then-not-is_phrase : goal.returns-then-not-is_phrase
returns-then-not-is_phrase c = unphrased_isnt c.args.text.now c.args.found.now c.requires.cut (sym c.is_phrase.ensures ∙ c.if-not-is_phrase.true)

pub returns-then-not-is_same : goal.returns-then-not-is_same
returns-then-not-is_same c = unspaced_isnt c.args.text.now c.in_ok-phrase.phrase c.args.found.now c.requires.cut c.in_ok-phrase.ensures (λ e. isnt c.is_same.result c.is_same.ensures c.if-not-is_same.true (c.as_str.ensures ∙ e))
