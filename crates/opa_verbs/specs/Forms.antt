-- What a sentence says in each form.
use Rattle.std.specs.Prelude.{ℕ, List, [], ◌∷◌, ◌++◌, Option}
use Rattle.std.specs.Option.{option_map}
use Rattle.opa_model.specs.declared.things.Sentence.{Sentence}
use Rattle.opa_model.specs.declared.things.Verb.{Verb}
use Rattle.opa_model.specs.declared.lists.Lists.{Lists}
use Rattle.opa_model.specs.Lookups.{verb_at}
use Rattle.opa_verbs.specs.declared.sentence.Form.{Form}
use Rattle.opa_verbs.specs.declared.sentence.Form.TheVariants.{Positive, Negative, Question}

-- two texts, with a space between them where neither is empty
abbrev pub beside : List ℕ → List ℕ → List ℕ
beside [] right = right
beside (b ∷ bs) [] = b ∷ bs
beside (b ∷ bs) (c ∷ cs) = (b ∷ bs) ++ 32 ∷ c ∷ cs

-- the sentence with this verb: `the claimant is an adult`, `the claimant is not an adult`, `is the claimant an adult`
abbrev pub spoken : Verb → Sentence → Form → List ℕ
spoken verb sentence Positive = beside sentence.subject (beside verb.positive sentence.rest)
spoken verb sentence Negative = beside sentence.subject (beside verb.negative sentence.rest)
spoken verb sentence Question = beside verb.ask (beside sentence.subject (beside verb.rest sentence.rest))

-- the sentence with its verb
abbrev pub said : Lists → Sentence → Form → Option (List ℕ)
said m sentence form = option_map (λ verb. spoken verb sentence form) (verb_at m sentence.verb)
