use Rattle.std.proofs.Common.{◌∙◌}
use Rattle.opa_verify.proofs.spelling.Oks.{isnt}
use Rattle.opa_verify.proofs.spelling.Valued.{neither_number}
use Rattle.opa_verify.proofs.spelling.values.number_as.Goals as goal

pub returns-then-not-is_same : goal.returns-then-not-is_same
returns-then-not-is_same c = neither_number c.args.text.now c.in_ok-plain.plain c.args.number c.requires c.in_ok-plain.ensures (λ e. isnt c.is_same.result c.is_same.ensures c.if-is_same.false (c.as_str.ensures ∙ e)) (λ d e. isnt c.is_same-2.result c.is_same-2.ensures c.if-not-is_same.true (c.as_str-2.ensures ∙ c.in_ok-money.ensures ∙ e))

pub returns-then-not-has_cents : goal.returns-then-not-has_cents
returns-then-not-has_cents c = neither_number c.args.text.now c.in_ok-plain.plain c.args.number c.requires c.in_ok-plain.ensures (λ e. isnt c.is_same.result c.is_same.ensures c.if-is_same.false (c.as_str.ensures ∙ e)) (λ d e. isnt c.has_cents.result c.has_cents.ensures c.if-not-has_cents.true d)
