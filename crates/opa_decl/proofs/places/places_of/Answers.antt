use Rattle.std.proofs.Common.{◌<◌, ◌∙◌, length, arith}
use Rattle.std.specs.HashMap.{get_by_text}
use Rattle.opa_words.proofs.FoundLaws.{positions_more}
use Rattle.opa_decl.proofs.places.places_of.Goals as goal

pub loop-place-preserved : goal.loop-place-preserved
loop-place-preserved c =
    let below : c.loop-place.place < length c.args.texts.now = omega (arith, c.loop-place-test.true) in
    positions_more (get_by_text c.loop-place.places) (get_by_text c.note.new.places) c.args.texts.now c.loop-place.place _ c.as_str.result.now below (c.as_str.ensures ∙ c.index-texts-place.is) c.loop-place.invariant c.in_ok-note.ensures
