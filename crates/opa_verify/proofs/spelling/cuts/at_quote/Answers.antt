use Rattle.std.proofs.Common.{[], ◌∷◌, ◌++◌}
use Rattle.std.proofs.lemmas.Bool.{ne_eqb}
use Rattle.opa_verify.proofs.spelling.Spotted.{unquoted_none, unquoted_more, quote_here, never_quoted}
use Rattle.opa_verify.proofs.spelling.cuts.at_quote.Goals as goal

pub loop-byte-init : goal.loop-byte-init
loop-byte-init c = ([], unquoted_none c.args.text.now)

pub loop-byte-preserved : goal.loop-byte-preserved
loop-byte-preserved c = (
  c.loop-byte.invariant.0 ++ c.in-Some.byte.now ∷ [],
  unquoted_more c.args.text.now c.loop-byte.invariant.0 c.loop-byte.rest.now c.in-Some.later.now c.loop-byte.count c.in-Some.byte.now c.loop-byte.invariant.1 c.in-Some.ensures (ne_eqb c.in-Some.byte.now 34 c.if-byte-eq34.false),
)

pub returns-then-byte-eq34 : goal.returns-then-byte-eq34
returns-then-byte-eq34 c =
    quote_here c.args.text.now c.loop-byte.invariant.0 c.loop-byte.rest.now c.in-Some.later.now c.split_at.result.0.now c.split_at.result.1.now c.loop-byte.count c.in-Some.byte.now c.loop-byte.invariant.1 c.in-Some.ensures c.if-byte-eq34.true
    c.split_at.ensures.front c.split_at.ensures.by_index.0

pub returns : goal.returns
returns c = never_quoted c.args.text.now c.loop-byte.invariant.0 c.loop-byte.rest.now c.loop-byte.count c.loop-byte.invariant.1 c.in_default.ensures
