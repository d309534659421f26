-- What the lines of declaration blocks say, in the words of the table of declarations.
use Rattle.std.specs.Prelude.{ℕ, List, [], ◌∷◌, ◌++◌, length, Bool, false, ◌&&◌, ◌==◌, Option, Some, None, codes, if◌then◌else◌}
use Rattle.std.specs.Option.{option_map}
use Rattle.opa_words.specs.declared.kinds.Token.{Token}
use Rattle.opa_words.specs.Reserved.{are_phrase, phrase_text}
use Rattle.opa_model.specs.declared.things.Verb.{Verb}
use Rattle.opa_decl.specs.declared.items.Place.{Place}
use Rattle.opa_decl.specs.declared.items.Name.{Name}
use Rattle.opa_decl.specs.declared.items.Said.{Said}
use Rattle.opa_decl.specs.declared.items.Bounds.{Bounds}
use Rattle.opa_decl.specs.declared.items.Sort.{Sort}
use Rattle.opa_decl.specs.declared.items.Sort.TheVariants as sort
use Rattle.opa_decl.specs.declared.items.Reach.{Reach}
use Rattle.opa_decl.specs.declared.items.Reach.TheVariants as reach
use Rattle.opa_decl.specs.declared.items.RelationLine.{RelationLine}
use Rattle.opa_decl.specs.declared.items.Item.{Item}
use Rattle.opa_decl.specs.declared.items.Item.TheVariants.{Attribute, Relation}
use Rattle.opa_decl.specs.Steps.{◌>>=◌}
use Rattle.opa_decl.specs.Pieces.{has_text, split_at, phrase, words}
use Rattle.opa_decl.specs.Limits.{bounds_of, limits, no_limits}

-- a name on its line
abbrev pub name : Place → List ℕ → Name
name place text = record { place = place; text = text }

-- an attribute
abbrev pub attribute : Place → Bool → Sort → List ℕ → Item
attribute place of_global s text = Attribute (record { of_global = of_global; phrase = name place text; sort = s })

abbrev pub bool_attribute : Place → Bool → List ℕ × Said → Item
bool_attribute place of_global x = attribute place of_global (sort.Bool x.1) x.0

abbrev pub number_attribute : Place → Bool → (Bounds → Sort) → List ℕ × Bounds → Item
number_attribute place of_global s x = attribute place of_global (s x.1) x.0

module _ (bytes : List ℕ) where
  -- The words of POS, NEG, ASK and REST, of which the last may be empty.
  abbrev pub words_or_none : List Token → Option (List ℕ)
  words_or_none ts = if length ts == 0 then Some [] else words bytes ts

  -- `verb POS / NEG / ASK / REST`, behind its first word
  unfoldable pub verb_line : List Token → Option Verb
  verb_line ts = do
    positive ← split_at bytes (codes "/") ts
    negative ← split_at bytes (codes "/") positive.1
    ask ← split_at bytes (codes "/") negative.1
    pos ← words bytes positive.0
    neg ← words bytes negative.0
    asked ← words bytes ask.0
    rest ← words_or_none ask.1
    Some (record { positive = pos; negative = neg; ask = asked; rest = rest })

  -- The whole is a phrase; SUBJECT has one token at least, and POS is Words.
  abbrev pub said_by : List Token → List Token → List Token → Option (List ℕ × Said)
  said_by subject positive rest = do
    whole ← phrase bytes (subject ++ (positive ++ rest))
    pos ← words bytes positive
    if length subject == 0 then None else Some (whole, record { subject = phrase_text bytes subject; positive = pos; rest = phrase_text bytes rest })

  -- `bool SUBJECT [POS] REST`
  unfoldable pub bool_line : List Token → Option (List ℕ × Said)
  bool_line ts = do
    subject ← split_at bytes (codes "[") ts
    positive ← split_at bytes (codes "]") subject.1
    said_by subject.0 positive.0 positive.1

  -- `number PHRASE` or `currency PHRASE`, where it may have so many decimals, with `:` and bounds or without
  unfoldable pub number_line : ℕ → List Token → Option (List ℕ × Bounds)
  number_line decimals ts =
      if are_phrase bytes ts then Some (phrase_text bytes ts, bounds_of decimals no_limits) else
      (do
        parts ← split_at bytes (codes ":") ts
        text ← phrase bytes parts.0
        found ← limits bytes 3 decimals no_limits parts.1
        Some (text, bounds_of decimals found))

  -- `one` or `many`
  abbrev pub reach_of : Token → Option Reach
  reach_of t = if has_text bytes (codes "one") t then Some reach.One else (if has_text bytes (codes "many") t then Some reach.Many else None)

  -- `one ENTITY` or `many ENTITY`
  abbrev pub target : List Token → Option (Reach × List ℕ)
  target [] = None
  target (t ∷ ts) = do
    how ← reach_of t
    entity ← phrase bytes ts
    Some (how, entity)

  -- the word `global` alone
  abbrev pub is_global : List Token → Bool
  is_global [] = false
  is_global (t ∷ ts) = (length ts == 0) && has_text bytes (codes "global") t

  module _ (place : Place) where
    -- `reference PHRASE: one ENTITY` or `reference PHRASE: many ENTITY`
    unfoldable pub reference_line : Bool → List Token → Option RelationLine
    reference_line of_global ts = do
      parts ← split_at bytes (codes ":") ts
      text ← phrase bytes parts.0
      entity ← target parts.1
      Some (record { of_global = of_global; phrase = name place text; target = name place entity.1; reach = entity.0 })

    -- `every PHRASE: ENTITY`, in `global` blocks alone
    unfoldable pub every_line : Bool → List Token → Option RelationLine
    every_line of_global ts = do
      parts ← split_at bytes (codes ":") ts
      text ← phrase bytes parts.0
      entity ← phrase bytes parts.1
      if of_global then Some (record { of_global = of_global; phrase = name place text; target = name place entity; reach = reach.Every }) else None

    -- `global`, or the phrase of an entity
    abbrev pub parent : List Token → Option (Option Name)
    parent ts = if is_global ts then Some None else option_map (λ text. Some (name place text)) (phrase bytes ts)

    -- `in PARENT: PHRASE`
    unfoldable pub inside_line : List Token → Option (Option Name × Name)
    inside_line [] = None
    inside_line (t ∷ ts) = do
      parts ← split_at bytes (codes ":") ts
      above ← parent parts.0
      text ← phrase bytes parts.1
      if has_text bytes (codes "in") t then Some (above, name place text) else None

    -- a level-1 line of `global` or `entity`, but for `in PARENT: PHRASE`
    abbrev pub member_of : Bool → Token → List Token → Option Item
    member_of of_global t ts =
        if has_text bytes (codes "bool") t then option_map (bool_attribute place of_global) (bool_line ts) else
        if has_text bytes (codes "number") t then option_map (number_attribute place of_global sort.Number) (number_line 4 ts) else
        if has_text bytes (codes "currency") t then option_map (number_attribute place of_global sort.Currency) (number_line 2 ts) else
        if has_text bytes (codes "text") t then option_map (attribute place of_global sort.Words) (phrase bytes ts) else
        if has_text bytes (codes "date") t then option_map (attribute place of_global sort.Date) (phrase bytes ts) else
        if has_text bytes (codes "reference") t then option_map Relation (reference_line of_global ts) else
        if has_text bytes (codes "every") t then option_map Relation (every_line of_global ts) else
        None

    unfoldable pub member : Bool → List Token → Option Item
    member of_global [] = None
    member of_global (t ∷ ts) = member_of of_global t ts
