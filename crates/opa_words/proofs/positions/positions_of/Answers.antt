use Rattle.std.proofs.Common.{◌<◌, ◌∙◌, length, arith}
use Rattle.std.specs.HashMap.{get_by_text}
use Rattle.opa_words.proofs.FoundLaws.{positions_more}
use Rattle.opa_words.proofs.positions.positions_of.Goals as goal

pub loop-position-preserved : goal.loop-position-preserved
loop-position-preserved c =
    let below : c.loop-position.position < length c.args.texts.now = omega (arith, c.loop-position-test.true) in
    positions_more (get_by_text c.loop-position.positions) (get_by_text c.note.new.positions) c.args.texts.now c.loop-position.position _ c.as_str.result.now below (c.as_str.ensures ∙ c.index-texts-position.is) c.loop-position.invariant c.in_ok-note.ensures
