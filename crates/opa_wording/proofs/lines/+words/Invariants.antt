use Rattle.std.proofs.Common.{◌≡◌, ◌++◌, map, take}
use Rattle.std.specs.Prelude.{◌&&◌}
use Rattle.std.specs.String.{string_bytes}
use Rattle.opa_words.specs.Written.{text_of}
use Rattle.opa_wording.specs.Wordings.{together, wording}
use Rattle.opa_wording.proofs.TextLaws.{is_nil}
use Rattle.opa_wording.proofs.lines.+words.Given as goal

abbrev pub invariant-push_together-loop-part : goal.invariant-push_together-loop-part
invariant-push_together-loop-part l = record {
  text : string_bytes l.out ≡ string_bytes l.initial.out ++ text_of (together l.joint l.is_spaced l.is_first (map (wording l.model) (take l.part-index l.parts)));
  first : l.first ≡ (l.is_first && is_nil (map (wording l.model) (take l.part-index l.parts)));
}
