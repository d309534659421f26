-- What a block declares by its first word. The word counts even where a later character of its line begins no token.
use Rattle.std.specs.Prelude.{ℕ, List, [], ◌∷◌, Bool, false, not, ◌||◌, Option, Some, None, codes, is_some, if◌then◌else◌}
use Rattle.std.specs.Str.{chars}
use Rattle.opa_words.specs.Characters.{continues_word}
use Rattle.opa_words.specs.Phrases.{after_front}
use Rattle.opa_words.specs.declared.layout.block.Block.{Block}
use Rattle.opa_words.specs.declared.layout.block.BlockLine.{BlockLine}
use Rattle.opa_decl.specs.declared.head.Head.{Head}
use Rattle.opa_decl.specs.declared.head.Head.TheVariants as head

-- a word goes on with these characters
abbrev pub goes_on : List ℕ → Bool
goes_on [] = false
goes_on (c ∷ cs) = continues_word c

-- what follows ends a word
abbrev pub ends_word : Option (List ℕ) → Bool
ends_word None = false
ends_word (Some rest) = not (goes_on (chars rest))

-- the first word of the text is this one
unfoldable pub begins_with : List ℕ → List ℕ → Bool
begins_with word text = ends_word (after_front word text)

abbrev pub head_of : List ℕ → Option Head
head_of text =
    if begins_with (codes "verb") text then Some head.Verb else
    if begins_with (codes "global") text then Some head.Global else
    if begins_with (codes "entity") text then Some head.Entity else
    if begins_with (codes "goal") text then Some head.Goal else
    if begins_with (codes "screen") text then Some head.Screen else
    if begins_with (codes "include") text || begins_with (codes "table") text then Some head.File else
    None

abbrev pub head_in : List BlockLine → Option Head
head_in [] = None
head_in (first ∷ deeper) = head_of first.text

-- a declaration: every block that is neither a rule nor a membership block
abbrev pub is_declaration : Block → Bool
is_declaration b = is_some (head_in b.lines)
