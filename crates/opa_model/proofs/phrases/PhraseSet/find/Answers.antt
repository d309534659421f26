use Rattle.std.proofs.Common.{◌∙◌, ap, position}
use Rattle.std.specs.Str.{bytes_eq}
use Rattle.opa_model.proofs.PhrasesLaws.{position-map, position-found, position-none}
use Rattle.opa_model.proofs.phrases.PhraseSet.find.Goals as goal

pub returns-clause-value : goal.returns-clause-value
returns-clause-value c = c.get_index_of.ensures.index ∙ position-map (bytes_eq c.args.phrase.now) (λ k. k.items) c.self.inside.set.keys ∙ ap (position (bytes_eq c.args.phrase.now)) c.self.view_is

pub returns-clause-found : goal.returns-clause-found
returns-clause-found c = position-found _ _ c.get_index_of.result (c.get_index_of.ensures.index ∙ position-map (bytes_eq c.args.phrase.now) (λ k. k.items) c.self.inside.set.keys ∙ ap (position (bytes_eq c.args.phrase.now)) c.self.view_is)

pub returns-clause-none : goal.returns-clause-none
returns-clause-none c = position-none _ _ c.get_index_of.result (c.get_index_of.ensures.index ∙ position-map (bytes_eq c.args.phrase.now) (λ k. k.items) c.self.inside.set.keys ∙ ap (position (bytes_eq c.args.phrase.now)) c.self.view_is)
