-- What a declaration block spells.
use Rattle.std.specs.Prelude.{ℕ, List, [], ◌∷◌, length, Bool, true, false, ◌==◌, Option, Some, None, if◌then◌else◌}
use Rattle.std.specs.Option.{option_map, option_and_then}
use Rattle.opa_words.specs.declared.kinds.Token.{Token}
use Rattle.opa_model.specs.declared.things.Verb.{Verb}
use Rattle.opa_decl.specs.declared.cut.CutBlock.{CutBlock}
use Rattle.opa_decl.specs.declared.cut.CutLine.{CutLine}
use Rattle.opa_decl.specs.declared.head.Head.{Head}
use Rattle.opa_decl.specs.declared.head.Head.TheVariants as head
use Rattle.opa_decl.specs.declared.items.Place.{Place}
use Rattle.opa_decl.specs.declared.items.Name.{Name}
use Rattle.opa_decl.specs.declared.items.Item.{Item}
use Rattle.opa_decl.specs.declared.items.Item.TheVariants as item
use Rattle.opa_decl.specs.Heads.{head_of}
use Rattle.opa_decl.specs.Lines.{name, verb_line, inside_line, member}
use Rattle.opa_decl.specs.Pieces.{phrase, quoted_text}
use Rattle.opa_decl.specs.Steps.{◌>>=◌, each}

abbrev pub place_in : ℕ → CutLine → Place
place_in file line = record { file = file; line = line.line }

-- what follows the first word of a line
abbrev pub behind_first : List Token → Option (List Token)
behind_first [] = None
behind_first (t ∷ ts) = Some ts

abbrev pub behind_head : CutLine → Option (List Token)
behind_head line = option_and_then behind_first line.tokens

-- the tokens of a line of level 1
abbrev pub inner : CutLine → Option (List Token)
inner line = if line.level == 1 then line.tokens else None

-- the verb behind the first word
unfoldable pub headed_verb : CutLine → Option Verb
headed_verb line = behind_head line >>= verb_line line.text

module _ (file : ℕ) where
  -- a level-1 line of a `global` block, or of an `entity` block
  unfoldable pub member_in : Bool → CutLine → Option Item
  member_in of_global line = inner line >>= member line.text (place_in file line) of_global

  -- a level-1 line of one phrase
  unfoldable pub screen_item : CutLine → Option Name
  screen_item line = option_map (name (place_in file line)) (inner line >>= phrase line.text)

  unfoldable pub inside_in : CutLine → Option (Option Name × Name)
  inside_in line = inner line >>= inside_line line.text (place_in file line)

  -- the phrase, and the text, behind the first word
  unfoldable pub headed_phrase : CutLine → Option Name
  headed_phrase line = option_map (name (place_in file line)) (behind_head line >>= phrase line.text)

  unfoldable pub headed_text : CutLine → Option Name
  headed_text line = option_map (name (place_in file line)) (behind_head line >>= quoted_text line.text)

  abbrev pub verb_item : CutLine → Verb → List Item
  verb_item line verb = item.Verb (record { place = place_in file line; verb = verb }) ∷ []

  -- `verb POS / NEG / ASK / REST`
  abbrev pub verb_block : CutLine → List CutLine → Option (List Item)
  verb_block first [] = option_map (verb_item first) (headed_verb first)
  verb_block first (line ∷ lines) = None

  -- `global` with level-1 lines
  abbrev pub global_block : CutLine → List CutLine → Option (List Item)
  global_block first [] = None
  global_block first (line ∷ lines) = do
    more ← behind_head first
    members ← each (member_in true) (line ∷ lines)
    if length more == 0 then Some members else None

  -- `entity PHRASE` with level-1 lines, of which the first is `in PARENT: PHRASE`
  abbrev pub entity_block : CutLine → List CutLine → Option (List Item)
  entity_block first [] = None
  entity_block first (second ∷ lines) = do
    entity ← headed_phrase first
    above ← inside_in second
    members ← each (member_in false) lines
    Some (item.Entity (record { phrase = entity; parent = above.0; inside = above.1 }) ∷ members)

  -- `goal PHRASE`
  abbrev pub goal_block : CutLine → List CutLine → Option (List Item)
  goal_block first [] = option_map (λ goal. item.Goal goal ∷ []) (headed_phrase first)
  goal_block first (line ∷ lines) = None

  -- `screen TEXT` with level-1 lines of one phrase
  abbrev pub screen_block : CutLine → List CutLine → Option (List Item)
  screen_block first [] = None
  screen_block first (line ∷ lines) = do
    title ← headed_text first
    items ← each screen_item (line ∷ lines)
    Some (item.Screen (record { title = title; items = items }) ∷ [])

  -- `include TEXT` or `table TEXT`, in the main file only
  abbrev pub file_block : CutLine → List CutLine → Option (List Item)
  file_block first [] = if file == 0 then option_map (λ named. item.File named ∷ []) (headed_text first) else None
  file_block first (line ∷ lines) = None

  unfoldable pub block_by : Head → CutLine → List CutLine → Option (List Item)
  block_by head.Verb = verb_block
  block_by head.Global = global_block
  block_by head.Entity = entity_block
  block_by head.Goal = goal_block
  block_by head.Screen = screen_block
  block_by head.File = file_block

-- what the lines of a block spell, where their first word says what they declare
abbrev pub spelled_in : ℕ → List CutLine → Option (List Item)
spelled_in file [] = None
spelled_in file (first ∷ deeper) = head_of first.text >>= λ h. block_by file h first deeper

-- What the lines of a declaration block say, one after another.
unfoldable pub spelled : CutBlock → Option (List Item)
spelled block = spelled_in block.file block.lines
