-- The digest of what a model declares.
use Rattle.std.specs.Prelude.{ℕ, ◌+◌, ◌*◌, ◌%◌, List, [], ◌∷◌, ◌++◌, flat_map}
use Rattle.opa_model.specs.declared.lists.Lists.{Lists}
use Rattle.opa_model.specs.Lookups.{attribute_phrases, relation_phrases}

-- each byte in turn: 31 times the digest plus the byte, in 32 bits
abbrev pub digest_on : ℕ → List ℕ → ℕ
digest_on d [] = d
digest_on d (b ∷ bs) = digest_on ((31 * d + b) % 4294967296) bs

-- a phrase and a line feed
abbrev pub phrase_line : List ℕ → List ℕ
phrase_line p = p ++ 10 ∷ []

-- the phrases of the attributes and then of the relations
abbrev pub digest_text : Lists → List ℕ
digest_text m = flat_map phrase_line (attribute_phrases m) ++ flat_map phrase_line (relation_phrases m)

unfoldable pub digest : Lists → ℕ
digest m = digest_on 0 (digest_text m)

-- ---- on the way there

abbrev pub attributes_digest : Lists → ℕ
attributes_digest m = digest_on 0 (flat_map phrase_line (attribute_phrases m))

abbrev pub relations_digest : ℕ → Lists → ℕ
relations_digest d m = digest_on d (flat_map phrase_line (relation_phrases m))
