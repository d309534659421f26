-- What a line of a block is to the grammar.
use Rattle.std.specs.Prelude.{◌≡◌, ℕ, Bool, true, false, List, [], ◌∷◌, Option, Some, None, length, codes, if◌then◌else◌}
use Rattle.std.specs.Option.{option_map, option_and_then, option_or}
use Rattle.std.specs.Str.{bytes_eq, chars}
use Rattle.opa_words.specs.declared.kinds.Token.{Token}
use Rattle.opa_words.specs.Cuts.{Cuts}
use Rattle.opa_words.specs.Reserved.{is_ending}
use Rattle.opa_words.specs.declared.layout.block.BlockLine.{BlockLine}
use Rattle.opa_sentence.specs.declared.names.Names.{Names}
use Rattle.opa_sentence.specs.declared.names.Relation.{Relation}
use Rattle.opa_sentence.specs.Lexemes.{Lexeme, lexemes}
use Rattle.opa_sentence.specs.Table.{relation_at}
use Rattle.opa_sentence.specs.Grammar.{LINE}
use Rattle.opa_sentence.specs.Spelling.{IsSpelling}
use Rattle.opa_parse.specs.declared.line.Ending.{Ending}
use Rattle.opa_parse.specs.declared.line.Ending.TheVariants as ending
use Rattle.opa_parse.specs.declared.line.Head.{Head}
use Rattle.opa_parse.specs.declared.line.Head.TheVariants as head
use Rattle.opa_parse.specs.declared.line.Line.{Line}

-- ---- the last word

abbrev pub ending_word : List ℕ → Ending
ending_word w =
    if bytes_eq w (codes "and") then ending.And else
    if bytes_eq w (codes "or") then ending.Or else
    if bytes_eq w (codes "if") then ending.If else
    if bytes_eq w (codes "otherwise") then ending.Otherwise else
    ending.Nothing

-- the last word of a line, where it is a connector or an ending
abbrev pub ending_of : List Lexeme → Ending
ending_of [] = ending.Nothing
ending_of (t ∷ []) = ending_word t.text
ending_of (t ∷ u ∷ ts) = ending_of (u ∷ ts)

-- what stands before it
abbrev pub body : List Lexeme → List Lexeme
body [] = []
body (t ∷ []) = if is_ending t.text then [] else t ∷ []
body (t ∷ u ∷ ts) = t ∷ body (u ∷ ts)

abbrev pub is_none : List Lexeme → Bool
is_none [] = true
is_none (t ∷ ts) = false

-- ---- heads

-- what follows this word
abbrev pub past_word : List ℕ → List Lexeme → Option (List Lexeme)
past_word w [] = None
past_word w (t ∷ ts) = if bytes_eq t.text w then Some ts else None

infixl 10 ◌>>=◌
abbrev pub ◌>>=◌ : Option (List Lexeme) → (List Lexeme → Option (List Lexeme)) → Option (List Lexeme)
o >>= f = option_and_then f o

abbrev pub past_denial : List Lexeme → Option (List Lexeme)
past_denial ts = past_word (codes "it") ts >>= past_word (codes "is") >>= past_word (codes "not") >>= past_word (codes "true") >>= past_word (codes "that")

abbrev pub past_for_all : List Lexeme → Option (List Lexeme)
past_for_all ts = past_word (codes "for") ts >>= past_word (codes "all") >>= past_word (codes "of")

abbrev pub past_for_some : List Lexeme → Option (List Lexeme)
past_for_some ts = past_word (codes "for") ts >>= past_word (codes "at") >>= past_word (codes "least") >>= past_word (codes "one") >>= past_word (codes "of")

-- the head, where nothing follows its words
abbrev pub whole : Head → Option (List Lexeme) → Option Head
whole h None = None
whole h (Some []) = Some h
whole h (Some (t ∷ ts)) = None

-- a relation, where nothing follows its phrase
abbrev pub whole_relation : Option (Relation × List Lexeme) → Option Relation
whole_relation None = None
whole_relation (Some x) = if is_none x.1 then Some x.0 else None

abbrev pub relation_of : Names → List Lexeme → Option Relation
relation_of ns ts = whole_relation (relation_at ns ts)

abbrev pub over : Names → (Relation → Head) → Option (List Lexeme) → Option Head
over ns f None = None
over ns f (Some ts) = option_map f (relation_of ns ts)

-- `all` or `both`, and `any` or `either`
abbrev pub all_head : List Lexeme → Option Head
all_head ts = option_or (whole head.All (past_word (codes "all") ts)) (whole head.All (past_word (codes "both") ts))

abbrev pub any_head : List Lexeme → Option Head
any_head ts = option_or (whole head.Any (past_word (codes "any") ts)) (whole head.Any (past_word (codes "either") ts))

abbrev pub plain_head : List Lexeme → Option Head
plain_head ts = option_or (all_head ts) (option_or (any_head ts) (whole head.Not (past_denial ts)))

-- `for all of` and `for at least one of` a relation
abbrev pub for_all_head : Names → List Lexeme → Option Head
for_all_head ns ts = over ns (λ r. head.ForAll r) (past_for_all ts)

abbrev pub for_some_head : Names → List Lexeme → Option Head
for_some_head ns ts = over ns (λ r. head.Exists r) (past_for_some ts)

-- the head that these words are
abbrev pub head_of : Names → List Lexeme → Option Head
head_of ns ts = option_or (plain_head ts) (option_or (for_all_head ns ts) (for_some_head ns ts))

-- ---- lines

-- a line of a block is cut into these words
pub record IsCut (line : BlockLine) (words : List Lexeme) : Type 0 where
  pub tokens : List Token
  pub cut : Cuts (length line.text) (chars line.text) tokens
  pub words_are : words ≡ lexemes line.text tokens

-- what words are to the grammar, on a line of this level and number
pub record AreLine (ns : Names) (level number : ℕ) (words : List Lexeme) (l : Line) : Type 0 where
  pub level_is : l.level ≡ level
  pub number_is : l.number ≡ number
  pub ending_is : l.ending ≡ ending_of words
  pub bare_is : l.is_bare ≡ is_none (body words)
  pub head_is : l.head ≡ head_of ns (body words)
  pub says_is : IsSpelling ns LINE (body words) l.says

-- what a line of a block is to the grammar
pub record IsLine (ns : Names) (line : BlockLine) (l : Line) : Type 0 where
  pub words : List Lexeme
  pub cut : IsCut line words
  pub words_say : AreLine ns line.level line.line words l

abbrev pub AreLines : Names → List BlockLine → List Line → Type 0
AreLines ns [] [] = Unit {0}
AreLines ns [] (l ∷ ls) = ⊥
AreLines ns (b ∷ bs) [] = ⊥
AreLines ns (b ∷ bs) (l ∷ ls) = IsLine ns b l × AreLines ns bs ls
