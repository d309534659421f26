-- Reserved words, and which tokens are a phrase.
use Rattle.std.specs.Prelude.{ℕ, List, [], ◌∷◌, ◌++◌, Bool, true, false, not, ◌&&◌, map, codes}
use Rattle.std.specs.List.{list_all, list_any}
use Rattle.std.specs.Str.{bytes_eq}
use Rattle.opa_words.specs.declared.kinds.TokenKind.{TokenKind}
use Rattle.opa_words.specs.declared.kinds.TokenKind.TheVariants as kind
use Rattle.opa_words.specs.declared.kinds.Token.{Token}
use Rattle.opa_words.specs.Places.{token_text}

abbrev pub reserved : List (List ℕ)
reserved =
    codes "verb" ∷ codes "entity" ∷ codes "global" ∷ codes "goal" ∷ codes "screen" ∷ codes "include" ∷ codes "table" ∷ codes "members" ∷ codes "all" ∷ codes "both" ∷ codes "any" ∷ codes "either" ∷ codes "for" ∷ codes "not"
    ∷ codes "true" ∷ codes "false" ∷ codes "uncertain" ∷ codes "and" ∷ codes "or" ∷ codes "if" ∷ codes "otherwise" ∷ []

abbrev pub is_reserved : List ℕ → Bool
is_reserved word = list_any (λ w. bytes_eq word w) reserved

-- with which no phrase ends
abbrev pub endings : List (List ℕ)
endings = codes "and" ∷ codes "or" ∷ codes "if" ∷ codes "otherwise" ∷ []

abbrev pub is_ending : List ℕ → Bool
is_ending word = list_any (λ w. bytes_eq word w) endings

abbrev pub is_word_kind : TokenKind → Bool
is_word_kind kind.Word = true
is_word_kind k = false

-- a Word or a Number
abbrev pub is_phrase_kind : TokenKind → Bool
is_phrase_kind kind.Word = true
is_phrase_kind kind.Number = true
is_phrase_kind k = false

-- the last token is a Word with which no phrase ends
abbrev pub ends_badly : List ℕ → List Token → Bool
ends_badly bytes [] = false
ends_badly bytes (t ∷ []) = is_word_kind t.kind && is_ending (token_text bytes t)
ends_badly bytes (t ∷ u ∷ ts) = ends_badly bytes (u ∷ ts)

abbrev pub begins_well : List ℕ → List Token → Bool
begins_well bytes [] = false
begins_well bytes (t ∷ ts) = is_word_kind t.kind && not (is_reserved (token_text bytes t))

-- These tokens of a text are a phrase: Words and Numbers, first a Word that is not reserved, and last no ending.
abbrev pub are_phrase : List ℕ → List Token → Bool
are_phrase bytes ts = begins_well bytes ts && list_all (λ t. is_phrase_kind t.kind) ts && not (ends_badly bytes ts)

-- texts joined by one space
abbrev pub joined : List (List ℕ) → List ℕ
joined [] = []
joined (x ∷ []) = x
joined (x ∷ y ∷ more) = x ++ 32 ∷ joined (y ∷ more)

-- the text of a phrase
abbrev pub phrase_text : List ℕ → List Token → List ℕ
phrase_text bytes ts = joined (map (token_text bytes) ts)
