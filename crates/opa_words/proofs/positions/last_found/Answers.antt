use Rattle.std.proofs.Common.{◌<◌, ◌+◌, ◌∙◌, ap, sym, subst, length, arith}
use Rattle.std.specs.HashMap.{get_by_text}
use Rattle.opa_words.specs.Phrases.{IsLastFound}
use Rattle.opa_words.proofs.JoinedLaws.{joined_is}
use Rattle.opa_words.proofs.FoundLaws.{found_more, found_all}
use Rattle.opa_words.proofs.positions.last_found.Goals as goal

pub returns-then-not-add_word : goal.returns-then-not-add_word
returns-then-not-add_word c =
    let below : c.loop-before.before < length c.args.tokens.now = omega (arith, c.loop-before-test.true) in
    let joined = joined_is c.args.text.now c.loop-before.before c.args.tokens.now _ c.loop-before.joined.bytes c.token_text.result.now below c.loop-before.invariant.joined c.token_text.ensures in
    let wide = subst (λ x. c.args.widest < length x) joined c.if-not-add_word.ensures in
    found_all (get_by_text c.args.positions.now) c.args.text.now c.args.tokens.now c.args.widest c.loop-before.before (length c.args.tokens.now) c.loop-before.best c.requires.widest wide (omega (arith, below)) c.loop-before.invariant.best

pub loop-before-preserved : goal.loop-before-preserved
loop-before-preserved c =
    let below : c.loop-before.before < length c.args.tokens.now = omega (arith, c.loop-before-test.true) in
    let joined = c.if-not-add_word.ensures ∙ joined_is c.args.text.now c.loop-before.before c.args.tokens.now _ c.loop-before.joined.bytes c.token_text.result.now below c.loop-before.invariant.joined c.token_text.ensures in
    let found = c.copied.ensures ∙ c.get.ensures.value ∙ ap (get_by_text c.args.positions.now) (c.as_str.ensures.value ∙ joined) in
    record {
      joined = joined;
      best = subst (IsLastFound (get_by_text c.args.positions.now) c.args.text.now c.args.tokens.now (c.loop-before.before + 1)) (sym c.found_or-best.ensures)
          (found_more (get_by_text c.args.positions.now) c.args.text.now c.args.tokens.now c.loop-before.before c.loop-before.best c.copied.result c.loop-before.invariant.best found);
    }
