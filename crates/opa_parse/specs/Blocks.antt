-- What the lines of a rule, and those of a membership block, spell.
use Rattle.std.specs.Prelude.{◌≡◌, ℕ, Bool, true, false, List, [], ◌∷◌, Option, Some, None, length, if◌then◌else◌}
use Rattle.std.specs.Str.{chars}
use Rattle.opa_model.specs.declared.ids.AttrId.{AttrId}
use Rattle.opa_model.specs.declared.ids.RelId.{RelId}
use Rattle.opa_model.specs.declared.lists.Lists.{Lists}
use Rattle.opa_model.specs.declared.things.Relation.{Relation as Declared}
use Rattle.opa_model.specs.Lookups.{relation_at}
use Rattle.opa_words.specs.declared.kinds.Token.{Token}
use Rattle.opa_words.specs.Cuts.{Cuts}
use Rattle.opa_words.specs.declared.layout.block.BlockLine.{BlockLine}
use Rattle.opa_sentence.specs.declared.names.Names.{Names}
use Rattle.opa_sentence.specs.declared.names.Relation.{Relation}
use Rattle.opa_sentence.specs.declared.names.Relation.TheVariants as relation
use Rattle.opa_sentence.specs.declared.reading.Reading.{Reading}
use Rattle.opa_sentence.specs.Lexemes.{Lexeme}
use Rattle.opa_sentence.specs.Grammar.{LINE}
use Rattle.opa_sentence.specs.Spelling.{IsSpelling}
use Rattle.opa_parse.specs.declared.block.Membership.{Membership}
use Rattle.opa_parse.specs.declared.block.Opening.TheVariants as opens
use Rattle.opa_parse.specs.declared.block.Statement.{Statement}
use Rattle.opa_parse.specs.declared.group.Group.{Group}
use Rattle.opa_parse.specs.declared.group.Said.{Said}
use Rattle.opa_parse.specs.declared.line.Ending.TheVariants as ending
use Rattle.opa_parse.specs.declared.line.Line.{Line}
use Rattle.opa_parse.specs.Groups.{Grouped, AllCases}
use Rattle.opa_parse.specs.Lines.{IsCut, AreLines, ending_of}
use Rattle.opa_parse.specs.Openings.{opening, past_equals, heading}
use Rattle.opa_parse.specs.Sayings.{of_line}

-- ---- rules

abbrev pub statement : Option AttrId → Bool → Said → Statement
statement a by_if s = record { attr = a; by_if = by_if; said = s }

-- The lines of a block are a rule: `PHRASE if` over a group, `PHRASE = LINE` alone, or `PHRASE =` over cases.
pub data SpellsRule (m : Lists) (ns : Names) : List BlockLine → Statement → Type 0 where
  by_if : {first : BlockLine} {lines : List BlockLine} {words : List Lexeme} {ls : List Line} {a : Option AttrId} {g : Group}
      → first.level ≡ 0 → IsCut first words → opening m words ≡ opens.If a → AreLines ns lines ls → Grouped ns 1 ls g [] → SpellsRule m ns (first ∷ lines) (statement a true g.said)
  by_line : {first : BlockLine} {words : List Lexeme} {a : Option AttrId} {x : Reading}
      → first.level ≡ 0 → IsCut first words → opening m words ≡ opens.Is a → ending_of (past_equals words) ≡ ending.Nothing → IsSpelling ns LINE (past_equals words) (Some x) → SpellsRule m ns (first ∷ []) (statement a false (of_line first.line x))
  by_cases : {first : BlockLine} {lines : List BlockLine} {words : List Lexeme} {ls : List Line} {a : Option AttrId} {s : Said}
      → first.level ≡ 0 → IsCut first words → opening m words ≡ opens.Cases a → AreLines ns lines ls → AllCases ns ls s [] → SpellsRule m ns (first ∷ lines) (statement a false s)

-- what the lines of a rule spell, or none where they spell none
abbrev pub IsStatement : Lists → Names → List BlockLine → Option Statement → Type 0
IsStatement m ns lines None = (s : Statement) → SpellsRule m ns lines s → ⊥
IsStatement m ns lines (Some s) = SpellsRule m ns lines s

-- ---- membership blocks

abbrev pub if_every : RelId → Option Declared → Option RelId
if_every r None = None
if_every r (Some x) = if x.every then Some r else None

-- the relation, if it is declared with `every`
abbrev pub every_of : Lists → Relation → Option RelId
every_of m (relation.Declared r) = if_every r (relation_at m r)
every_of m (relation.Inferred n) = None
every_of m relation.Unnamed = None

abbrev pub membership : Lists → List ℕ × Relation → Said → Membership
membership m h s = record { phrase = h.0; every = every_of m h.1; said = s }

-- The lines of a block are a membership block: `members PHRASE from REL if` over a group.
pub data SpellsMembers (m : Lists) (ns : Names) : List BlockLine → Membership → Type 0 where
  members : {first : BlockLine} {lines : List BlockLine} {tokens : List Token} {ls : List Line} {h : List ℕ × Relation} {g : Group}
      → first.level ≡ 0 → Cuts (length first.text) (chars first.text) tokens → heading ns first.text tokens ≡ Some h → AreLines ns lines ls → Grouped ns 1 ls g [] → SpellsMembers m ns (first ∷ lines) (membership m h g.said)

-- what the lines of a membership block spell, or none where they spell none
abbrev pub IsMembership : Lists → Names → List BlockLine → Option Membership → Type 0
IsMembership m ns lines None = (s : Membership) → SpellsMembers m ns lines s → ⊥
IsMembership m ns lines (Some s) = SpellsMembers m ns lines s
