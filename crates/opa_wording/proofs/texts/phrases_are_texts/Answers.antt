use Rattle.std.proofs.Common.{All, subst}
use Rattle.std.specs.Str.{IsUtf8}
use Rattle.opa_parse.specs.Naming.{inferred_phrases}
use Rattle.opa_wording.proofs.texts.phrases_are_texts.Goals as goal

pub returns-clause-others : goal.returns-clause-others
returns-clause-others c = record { denied = c.attributes_are_texts.ensures.denials; inferred = subst (λ xs. All IsUtf8 (inferred_phrases xs)) c.as_slice.ensures c.inferences_are_texts.ensures }
