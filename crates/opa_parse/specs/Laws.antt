-- Laws of what is read.
use Rattle.std.specs.Prelude.{◌≡◌, ℕ, List}
use Rattle.opa_model.specs.declared.lists.Lists.{Lists}
use Rattle.opa_words.specs.declared.layout.block.BlockLine.{BlockLine}
use Rattle.opa_sentence.specs.declared.names.Names.{Names}
use Rattle.opa_parse.specs.declared.block.Membership.{Membership}
use Rattle.opa_parse.specs.declared.block.Statement.{Statement}
use Rattle.opa_parse.specs.declared.group.Front.TheVariants as front
use Rattle.opa_parse.specs.declared.group.Group.{Group}
use Rattle.opa_parse.specs.declared.group.Said.{Said}
use Rattle.opa_parse.specs.declared.group.Sort.TheVariants as sort
use Rattle.opa_parse.specs.declared.line.Line.{Line}
use Rattle.opa_parse.specs.Blocks.{SpellsRule, SpellsMembers}
use Rattle.opa_parse.specs.Groups.{Grouped, AllCases}
use Rattle.opa_parse.specs.GroupTable.{Reads, items}
use Rattle.opa_parse.specs.Sayings.{single}

-- the lines of a block spell at most one rule, and at most one membership block
abbrev pub OneRule : Type 0
OneRule = (m : Lists) (ns : Names) (lines : List BlockLine) (s t : Statement) → SpellsRule m ns lines s → SpellsRule m ns lines t → s ≡ t

abbrev pub OneMembership : Type 0
OneMembership = (m : Lists) (ns : Names) (lines : List BlockLine) (s t : Membership) → SpellsMembers m ns lines s → SpellsMembers m ns lines t → s ≡ t

-- what the grammar of groups spells is read by the table
abbrev pub GroupsAreRead : Type 0
GroupsAreRead = (ns : Names) (k : ℕ) (ls : List Line) (g : Group) (rest : List Line) → Grouped ns k ls g rest → Reads ns (sort.Item (items k front.Nothing)) ls g rest

abbrev pub CasesAreRead : Type 0
CasesAreRead = (ns : Names) (ls : List Line) (s : Said) (rest : List Line) → AllCases ns ls s rest → Reads ns sort.FirstCase ls (single s) rest

-- and what is read by the table the grammar spells
abbrev pub GroupsAreGrammatical : Type 0
GroupsAreGrammatical = (ns : Names) (k : ℕ) (ls : List Line) (g : Group) (rest : List Line) → Reads ns (sort.Item (items k front.Nothing)) ls g rest → Grouped ns k ls g rest
