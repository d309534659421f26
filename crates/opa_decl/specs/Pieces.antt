-- Pieces of a line that is cut into tokens.
use Rattle.std.specs.Prelude.{ℕ, ◌+◌, List, [], ◌∷◌, length, take, drop, position, Bool, true, false, not, ◌&&◌, ◌==◌, Option, Some, None, if◌then◌else◌}
use Rattle.std.specs.List.{list_all}
use Rattle.std.specs.Option.{option_map}
use Rattle.std.specs.Str.{bytes_eq}
use Rattle.opa_words.specs.declared.kinds.Token.{Token}
use Rattle.opa_words.specs.declared.kinds.TokenKind.{TokenKind}
use Rattle.opa_words.specs.declared.kinds.TokenKind.TheVariants as kind
use Rattle.opa_words.specs.Places.{token_text}
use Rattle.opa_words.specs.Reserved.{is_word_kind, are_phrase, phrase_text}
use Rattle.opa_words.specs.Quoted.{unquoted}

abbrev pub is_text_kind : TokenKind → Bool
is_text_kind kind.Text = true
is_text_kind k = false

abbrev pub is_number_kind : TokenKind → Bool
is_number_kind kind.Number = true
is_number_kind k = false

-- Words, one at least
abbrev pub are_words : List Token → Bool
are_words ts = not (length ts == 0) && list_all (λ t. is_word_kind t.kind) ts

-- the one token, if it is a Text
abbrev pub one_text : List Token → Option Token
one_text [] = None
one_text (t ∷ []) = if is_text_kind t.kind then Some t else None
one_text (t ∷ u ∷ ts) = None

module _ (bytes : List ℕ) where
  -- the token is this word or symbol
  abbrev pub has_text : List ℕ → Token → Bool
  has_text text t = bytes_eq (token_text bytes t) text

  -- the tokens before the first one of this text, and those after it
  unfoldable pub split_at : List ℕ → List Token → Option (List Token × List Token)
  split_at mark ts = option_map (λ i. (take i ts, drop (i + 1) ts)) (position (has_text mark) ts)

  -- the phrase that the tokens are
  unfoldable pub phrase : List Token → Option (List ℕ)
  phrase ts = if are_phrase bytes ts then Some (phrase_text bytes ts) else None

  -- the words that the tokens are
  unfoldable pub words : List Token → Option (List ℕ)
  words ts = if are_words ts then Some (phrase_text bytes ts) else None

  -- what the one Text stands for
  abbrev pub quoted_text : List Token → Option (List ℕ)
  quoted_text ts = option_map (λ t. unquoted (token_text bytes t)) (one_text ts)
