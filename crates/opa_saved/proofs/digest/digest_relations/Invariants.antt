use Rattle.std.proofs.Common.{◌≡◌, ◌<◌, take}
use Rattle.std.specs.Prelude.{flat_map}
use Rattle.opa_model.specs.Lookups.{relation_phrases}
use Rattle.opa_saved.specs.Digests.{digest_on, phrase_line}
use Rattle.opa_saved.proofs.digest.digest_relations.Given as goal

abbrev pub invariant-loop-n : goal.invariant-loop-n
invariant-loop-n l = record {
  same : l.digest ≡ digest_on l.fn.start (flat_map phrase_line (take l.n (relation_phrases l.model)));
  bound : l.digest < 4294967296;
}
