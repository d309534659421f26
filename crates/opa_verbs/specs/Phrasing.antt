-- Which texts of a model rules can read.
use Rattle.std.specs.Prelude.{◌≡◌, ◌≢◌, ℕ, ◌<◌, List, [], ◌∷◌, ◌++◌, length, true, flat_map, Option, None, Some, All, AllPairs}
use Rattle.std.specs.List.{list_all}
use Rattle.std.specs.Str.{chars}
use Rattle.opa_model.specs.declared.lists.Lists.{Lists}
use Rattle.opa_model.specs.declared.things.Attribute.{Attribute}
use Rattle.opa_model.specs.declared.things.Sentence.{Sentence}
use Rattle.opa_model.specs.Lookups.{attribute_phrases, relation_phrases}
use Rattle.opa_verbs.specs.declared.sentence.Form.TheVariants.{Negative}
use Rattle.opa_verbs.specs.Forms.{said}
use Rattle.opa_words.specs.declared.kinds.Token.{Token}
use Rattle.opa_words.specs.Cuts.{Cuts}
use Rattle.opa_words.specs.Reserved.{are_phrase, is_phrase_kind, phrase_text}

-- Words and Numbers, one at least, joined by one space
pub record IsWorded (text : List ℕ) : Type 0 where
  pub tokens : List Token
  pub cut : Cuts (length text) (chars text) tokens
  pub some : 0 < length tokens
  pub words : list_all (λ t. is_phrase_kind t.kind) tokens ≡ true
  pub spaced : phrase_text text tokens ≡ text

-- a phrase
pub record IsPhrase (text : List ℕ) : Type 0 where
  pub tokens : List Token
  pub cut : Cuts (length text) (chars text) tokens
  pub phrase : are_phrase text tokens ≡ true
  pub spaced : phrase_text text tokens ≡ text

abbrev pub listed : Option (List ℕ) → List (List ℕ)
listed None = []
listed (Some text) = text ∷ []

abbrev pub denials_by : Lists → Option Sentence → List (List ℕ)
denials_by m None = []
denials_by m (Some sentence) = listed (said m sentence Negative)

-- the negative form of an attribute, if it is a bool
abbrev pub denials : Lists → Attribute → List (List ℕ)
denials m a = denials_by m a.sentence

-- the texts that stand for an attribute, or deny it
abbrev pub texts_of : Lists → Attribute → List (List ℕ)
texts_of m a = a.phrase ∷ denials m a

abbrev pub operand_phrases : Lists → List (List ℕ)
operand_phrases m = flat_map (texts_of m) m.attributes

-- The phrases of attributes and relations, and these of inferred relations, are phrases, what denies an attribute is worded, and all of these differ.
pub record IsReadableWith (inferred : List (List ℕ)) (m : Lists) : Type 0 where
  pub attributes : All IsPhrase (attribute_phrases m)
  pub relations : All IsPhrase (relation_phrases m)
  pub others : All IsPhrase inferred
  pub denied : All IsWorded (flat_map (denials m) m.attributes)
  pub differ : AllPairs (λ p q. p ≢ q) (operand_phrases m ++ (relation_phrases m ++ inferred))

-- rules can read the model
abbrev pub IsReadable : Lists → Type 0
IsReadable m = IsReadableWith [] m
