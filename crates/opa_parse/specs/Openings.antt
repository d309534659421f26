-- How blocks begin.
use Rattle.std.specs.Prelude.{◌≡◌, ℕ, ◌+◌, Bool, true, false, ◌&&◌, ◌||◌, List, [], ◌∷◌, Option, Some, None, map, take, drop, codes, if◌then◌else◌}
use Rattle.std.specs.Option.{option_map}
use Rattle.std.specs.Str.{bytes_eq}
use Rattle.opa_model.specs.declared.ids.AttrId.{AttrId}
use Rattle.opa_model.specs.declared.lists.Lists.{Lists}
use Rattle.opa_model.specs.Lookups.{attribute_named}
use Rattle.opa_tree.specs.declared.kinds.OpKind.TheVariants as op
use Rattle.opa_words.specs.declared.kinds.Token.{Token}
use Rattle.opa_words.specs.Places.{token_text}
use Rattle.opa_words.specs.Reserved.{joined, are_phrase, phrase_text}
use Rattle.opa_words.specs.declared.layout.block.BlockLine.{BlockLine}
use Rattle.opa_sentence.specs.declared.class.Class.{Class}
use Rattle.opa_sentence.specs.declared.class.Class.TheVariants as class
use Rattle.opa_sentence.specs.declared.names.Names.{Names}
use Rattle.opa_sentence.specs.declared.names.Relation.{Relation}
use Rattle.opa_sentence.specs.Lexemes.{Lexeme, lexemes}
use Rattle.opa_sentence.specs.Phrases.{is_word, is_wordlike, past_words}
use Rattle.opa_parse.specs.declared.block.BlockSort.{BlockSort}
use Rattle.opa_parse.specs.declared.block.BlockSort.TheVariants as block_sort
use Rattle.opa_parse.specs.declared.block.Opening.{Opening}
use Rattle.opa_parse.specs.declared.block.Opening.TheVariants as opens
use Rattle.opa_parse.specs.declared.line.Ending.{Ending}
use Rattle.opa_parse.specs.declared.line.Ending.TheVariants as ending
use Rattle.opa_parse.specs.Fronts.{IsFront}
use Rattle.opa_parse.specs.Lines.{ending_of, body, relation_of}

-- ---- the first word of a block

-- the first word or other token of a text, if it begins with one
abbrev pub IsFirst : List ℕ → Option (List ℕ) → Type 0
IsFirst text (Some w) = (front : List ℕ) × (t : Token) × (ts : List Token) × IsFront text front (t ∷ ts) × (token_text front t ≡ w)
IsFirst text None = (front : List ℕ) (t : Token) (ts : List Token) → IsFront text front (t ∷ ts) → ⊥

-- with which a declaration begins
abbrev pub is_declaring : List ℕ → Bool
is_declaring w =
    if bytes_eq w (codes "verb") || bytes_eq w (codes "entity") || bytes_eq w (codes "global") || bytes_eq w (codes "goal") then true else
    bytes_eq w (codes "screen") || bytes_eq w (codes "include") || bytes_eq w (codes "table")

-- a declaration or a membership block begins with its word; every other block is a rule
abbrev pub sort_of_word : List ℕ → BlockSort
sort_of_word w =
    if is_declaring w then block_sort.Declaration else
    if bytes_eq w (codes "members") then block_sort.Members else
    block_sort.Rule

abbrev pub sort_of : Option (List ℕ) → BlockSort
sort_of None = block_sort.Rule
sort_of (Some w) = sort_of_word w

-- what a block is whose first line has this text
abbrev pub IsSortOf : List ℕ → BlockSort → Type 0
IsSortOf text s = (w : Option (List ℕ)) × IsFirst text w × (s ≡ sort_of w)

-- what a block with these lines is; one without lines is passed over as a declaration is
abbrev pub IsSort : List BlockLine → BlockSort → Type 0
IsSort [] s = s ≡ block_sort.Declaration
IsSort (l ∷ ls) s = IsSortOf l.text s

-- ---- the first line of a rule

abbrev pub begins_with_word : List Lexeme → Bool
begins_with_word [] = false
begins_with_word (t ∷ ts) = is_word t.class

-- the Word and Number tokens at the front
abbrev pub front_words : List Lexeme → List Lexeme
front_words [] = []
front_words (t ∷ ts) = if is_wordlike t.class then t ∷ front_words ts else []

-- the attribute whose phrase these words are
abbrev pub concluded : Lists → List Lexeme → Option AttrId
concluded m ts = attribute_named m (joined (map (λ t. t.text) ts))

-- words alone: a rule by `if`, if that is the last of several
abbrev pub by_words : Lists → Ending → List Lexeme → Opening
by_words m ending.If ts = if begins_with_word ts then opens.If (concluded m ts) else opens.Nothing
by_words m e ts = opens.Nothing

-- words and an equals sign: a line follows, or cases do
abbrev pub by_equals : Option AttrId → Class → List Lexeme → Opening
by_equals a (class.Compare op.Eq) [] = opens.Cases a
by_equals a (class.Compare op.Eq) (t ∷ ts) = opens.Is a
by_equals a c ts = opens.Nothing

abbrev pub opening_at : Lists → List Lexeme → List Lexeme → Opening
opening_at m ts [] = by_words m (ending_of ts) (body ts)
opening_at m ts (t ∷ rest) = by_equals (concluded m (front_words ts)) t.class rest

-- how a rule begins: `PHRASE if`, `PHRASE = LINE` or `PHRASE =`, where PHRASE is a Word followed by Word and Number tokens
abbrev pub opening : Lists → List Lexeme → Opening
opening m ts = if begins_with_word ts then opening_at m ts (past_words ts) else opens.Nothing

abbrev pub past_one : List Lexeme → List Lexeme
past_one [] = []
past_one (t ∷ ts) = ts

-- what follows the equals sign
abbrev pub past_equals : List Lexeme → List Lexeme
past_equals ts = past_one (past_words ts)

-- ---- the first line of a membership block

-- how many tokens stand before the first word `from`
abbrev pub from_place : List ℕ → List Token → ℕ
from_place text [] = 0
from_place text (t ∷ ts) = if bytes_eq (token_text text t) (codes "from") then 0 else from_place text ts + 1

abbrev pub before_from : List ℕ → List Token → List Token
before_from text ts = take (from_place text ts) ts

-- what follows the first word `from`
abbrev pub past_from : List ℕ → List Token → List Token
past_from text ts = drop (from_place text ts + 1) ts

abbrev pub is_if : Ending → Bool
is_if ending.If = true
is_if e = false

-- the phrase and the relation of `PHRASE from REL if`
abbrev pub named_from : Names → List ℕ → List Token → Option (List ℕ × Relation)
named_from ns text ts =
    if is_if (ending_of (lexemes text ts)) && are_phrase text (before_from text ts)
    then option_map (λ r. (phrase_text text (before_from text ts), r)) (relation_of ns (body (lexemes text (past_from text ts))))
    else None

-- the phrase and the relation of `members PHRASE from REL if`
abbrev pub heading : Names → List ℕ → List Token → Option (List ℕ × Relation)
heading ns text [] = None
heading ns text (t ∷ ts) = if bytes_eq (token_text text t) (codes "members") then named_from ns text ts else None
