use Rattle.std.proofs.Common.{All, length, arith, sym, ap, subst, ◌∙◌}
use Rattle.std.proofs.lemmas.List.Elements.{All-tail}
use Rattle.opa_words.specs.Places.{IsWithin}
use Rattle.opa_rules.proofs.SlipLaws.{stray_on}
use Rattle.opa_rules.proofs.faults.brackets.stray.Goals as goal

pub loop-token-preserved : goal.loop-token-preserved
loop-token-preserved c = record {
  same = stray_on c.args.text.now c.args.signs.opening.now c.args.signs.closing.now c.loop-token.count c.open_behind-count.result c.loop-token.rest.now c.in-Some.token.now c.in-Some.later.now
      c.in-Some.ensures (sym c.closes_none.ensures ∙ c.if-closes_none.false) c.open_behind-count.ensures.is ∙ c.loop-token.invariant.same;
  within = All-tail (IsWithin c.args.text.now) c.in-Some.token.now c.in-Some.later.now (subst (All (IsWithin c.args.text.now)) c.in-Some.ensures c.loop-token.invariant.within);
  room = omega (arith, c.open_behind-count.ensures.few, c.loop-token.invariant.room, ap length c.in-Some.ensures);
}
