-- The inferred relations of membership blocks.
use Rattle.std.specs.Prelude.{◌≡◌, ℕ, List, [], ◌∷◌, ◌++◌, Option, Some, None}
use Rattle.opa_model.specs.declared.ids.RelId.{RelId}
use Rattle.opa_model.specs.declared.lists.Lists.{Lists}
use Rattle.opa_model.specs.Lookups.{relation_phrases}
use Rattle.opa_words.specs.declared.layout.block.Block.{Block}
use Rattle.opa_tree.specs.declared.expr.Expr.{Expr}
use Rattle.opa_tree.specs.declared.faults.RbFault.{RbFault}
use Rattle.opa_tree.specs.declared.rules.Inferred.{Inferred}
use Rattle.opa_tree.specs.FirstFaults.{first_fault}
use Rattle.opa_sentence.specs.declared.names.Names.{Names}
use Rattle.opa_parse.specs.declared.block.BlockSort.TheVariants as block_sort
use Rattle.opa_parse.specs.declared.block.MemberBlock.{MemberBlock}
use Rattle.opa_parse.specs.declared.block.Membership.{Membership}
use Rattle.opa_parse.specs.Blocks.{IsMembership}
use Rattle.opa_parse.specs.MemberFaults.{faults_from}
use Rattle.opa_parse.specs.Naming.{names_in}
use Rattle.opa_verbs.specs.Phrasing.{operand_phrases}
use Rattle.opa_parse.specs.Openings.{IsSort}
use Rattle.opa_parse.specs.Rules.{IsPassed, first_number}

-- the block is a membership block, which says this
pub record IsMemberBlock (m : Lists) (ns : Names) (b : Block) (r : MemberBlock) : Type 0 where
  pub sort : IsSort b.lines block_sort.Members
  pub file_is : r.file ≡ b.file
  pub line_is : r.line ≡ first_number b.lines
  pub says : IsMembership m ns b.lines r.membership

-- the membership blocks among blocks, in their order
pub data AreMemberBlocks (m : Lists) (ns : Names) : List Block → List MemberBlock → Type 0 where
  none : AreMemberBlocks m ns [] []
  passed : {b : Block} {bs : List Block} {rs : List MemberBlock} → IsPassed block_sort.Members b → AreMemberBlocks m ns bs rs → AreMemberBlocks m ns (b ∷ bs) rs
  members : {b : Block} {r : MemberBlock} {bs : List Block} {rs : List MemberBlock} → IsMemberBlock m ns b r → AreMemberBlocks m ns bs rs → AreMemberBlocks m ns (b ∷ bs) (r ∷ rs)

-- ---- what is read

abbrev pub listed_inferred : Option Inferred → List Inferred
listed_inferred None = []
listed_inferred (Some i) = i ∷ []

abbrev pub inferred_from : List ℕ → Option RelId → Option Expr → List Inferred
inferred_from phrase None e = []
inferred_from phrase (Some r) None = []
inferred_from phrase (Some r) (Some e) = record { phrase = phrase; every = r; expr = e } ∷ []

abbrev pub inferred_by : Option Membership → List Inferred
inferred_by None = []
inferred_by (Some s) = inferred_from s.phrase s.every s.said.reading.tree

-- the inferred relation of a block: one, where it is spelled, its relation is declared with `every`, and its tree is named and within its numbers
abbrev pub inferred_in : List MemberBlock → List Inferred
inferred_in [] = []
inferred_in (b ∷ bs) = inferred_by b.membership ++ inferred_in bs

-- the texts that no inferred relation may have as its phrase
abbrev pub declared_texts : Lists → List (List ℕ)
declared_texts m = operand_phrases m ++ relation_phrases m

-- the faults of membership blocks
abbrev pub member_faults : Lists → List MemberBlock → List RbFault
member_faults m found = faults_from (declared_texts m) 0 found

-- In the group of a membership block no inferred phrase is known.
abbrev pub names_alone : Lists → Names
names_alone m = names_in m []

-- These are the inferred relations of blocks, which have no fault.
pub record AreInferences (m : Lists) (blocks : List Block) (inferences : List Inferred) : Type 0 where
  pub found : List MemberBlock
  pub are_found : AreMemberBlocks m (names_alone m) blocks found
  pub sound : member_faults m found ≡ []
  pub inferences_are : inferences ≡ inferred_in found

-- This is the first fault of the membership blocks.
pub record AreRefused (m : Lists) (blocks : List Block) (fault : RbFault) : Type 0 where
  pub found : List MemberBlock
  pub are_found : AreMemberBlocks m (names_alone m) blocks found
  pub first : first_fault (member_faults m found) ≡ Some fault
