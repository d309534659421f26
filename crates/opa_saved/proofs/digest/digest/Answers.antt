use Rattle.std.proofs.Common.{ap, ◌∙◌}
use Rattle.opa_saved.specs.Digests.{relations_digest}
use Rattle.opa_saved.proofs.DigestLaws.{digest_parts}
use Rattle.opa_saved.proofs.digest.digest.Goals as goal

pub returns : goal.returns
returns c = c.digest_relations.ensures.value ∙ ap (λ d. relations_digest d c.args.model.now) c.digest_attributes-attributes.ensures.value ∙ digest_parts c.args.model.now
