-- What was read of membership blocks so far.
use Rattle.std.specs.Prelude.{◌≡◌, ℕ, ◌+◌, min, List, [], ◌∷◌, ◌++◌, None}
use Rattle.opa_model.specs.declared.lists.Lists.{Lists}
use Rattle.opa_words.specs.declared.layout.block.Block.{Block}
use Rattle.opa_tree.specs.FirstFaults.{first_fault}
use Rattle.opa_io.specs.declared.limits.TheConstants.{MOST_NODES}
use Rattle.opa_sentence.specs.declared.names.Names.{Names}
use Rattle.opa_parse.specs.declared.block.MemberBlock.{MemberBlock}
use Rattle.opa_parse.specs.declared.members.Gathered.{Gathered}
use Rattle.opa_parse.specs.MemberFaults.{is_taken, faults_from, membership_nodes, phrase_by}
use Rattle.opa_parse.specs.Memberships.{AreMemberBlocks, inferred_in}

-- the nodes of membership blocks, and their phrases
abbrev pub nodes_in : List MemberBlock → ℕ
nodes_in [] = 0
nodes_in (b ∷ bs) = membership_nodes b.membership + nodes_in bs

abbrev pub phrases_in : List MemberBlock → List (List ℕ)
phrases_in [] = []
phrases_in (b ∷ bs) = phrase_by b.membership ++ phrases_in bs

-- the same texts are among both
abbrev pub AreSame : List (List ℕ) → List (List ℕ) → Type 0
AreSame texts others = (t : List ℕ) → is_taken texts t ≡ is_taken others t

-- What is kept of these membership blocks, where these texts are declared: their first fault, and else the inferred relations;
-- the texts that are taken, and how many nodes there are, or one more than the most.
pub record IsGathered (declared : List (List ℕ)) (found : List MemberBlock) (t : Gathered) : Type 0 where
  pub first_is : t.first ≡ first_fault (faults_from declared 0 found)
  pub inferences_are : t.first ≡ None → t.inferences ≡ inferred_in found
  pub texts_are : AreSame t.texts (declared ++ phrases_in found)
  pub nodes_are : t.nodes ≡ min (nodes_in found) (MOST_NODES + 1)

-- one more block is taken
abbrev pub Gathers : MemberBlock → Gathered → Gathered → Type 0
Gathers b t u = (declared : List (List ℕ)) (found : List MemberBlock) → IsGathered declared found t → IsGathered declared (found ++ b ∷ []) u

-- after a block: no membership block more, or one
abbrev pub Goes : Lists → Names → Block → Gathered → Gathered → Type 0
Goes m ns b t u = (declared : List (List ℕ)) (found : List MemberBlock) → IsGathered declared found t
    → (more : List MemberBlock) × IsGathered declared (found ++ more) u × ((bs : List Block) (rs : List MemberBlock) → AreMemberBlocks m ns bs rs → AreMemberBlocks m ns (b ∷ bs) (more ++ rs))

-- these membership blocks of all blocks are taken, and the rest is still to be read
pub record IsRun (m : Lists) (ns : Names) (declared : List (List ℕ)) (all rest : List Block) (t : Gathered) : Type 0 where
  pub found : List MemberBlock
  pub gathered : IsGathered declared found t
  pub left : (rs : List MemberBlock) → AreMemberBlocks m ns rest rs → AreMemberBlocks m ns all (found ++ rs)

-- the membership blocks of all blocks are taken
abbrev pub GathersAll : Lists → Names → List Block → Gathered → Gathered → Type 0
GathersAll m ns blocks t u = (declared : List (List ℕ)) → IsGathered declared [] t → (found : List MemberBlock) × IsGathered declared found u × AreMemberBlocks m ns blocks found
