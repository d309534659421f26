use Rattle.std.proofs.Common.{◌<◌, ◌∙◌, length, nat_eq, arith}
use Rattle.std.specs.String.{string_bytes}
use Rattle.opa_words.proofs.JoinedLaws.{joined_is, spaced}
use Rattle.opa_words.proofs.reserved.phrase_text.Goals as goal

pub loop-before-preserved : goal.loop-before-preserved
loop-before-preserved c =
    let below : c.loop-before.before < length c.args.tokens.now = omega (arith, c.loop-before-test.true) in
    spaced (nat_eq c.loop-before.before 0) (string_bytes c.loop-before.out) c.space_before.result.now c.token_text.result.now (string_bytes c.push_str.new.self) (string_bytes c.push_str-in-loop-before.new.self) c.space_before.ensures c.in_ok-push_str.ensures.bytes
    c.in_ok-push_str-2.ensures.bytes
    ∙ joined_is c.args.text.now c.loop-before.before c.args.tokens.now _ (string_bytes c.loop-before.out) c.token_text.result.now below c.loop-before.invariant c.token_text.ensures
