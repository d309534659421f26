-- What was read of blocks so far.
use Rattle.std.specs.Prelude.{◌≡◌, ℕ, ◌+◌, min, List, [], ◌∷◌, ◌++◌, length, None}
use Rattle.opa_model.specs.declared.lists.Lists.{Lists}
use Rattle.opa_words.specs.declared.layout.block.Block.{Block}
use Rattle.opa_tree.specs.FirstFaults.{first_fault}
use Rattle.opa_io.specs.declared.limits.TheConstants.{MOST_NODES}
use Rattle.opa_sentence.specs.declared.names.Names.{Names}
use Rattle.opa_parse.specs.declared.block.RuleBlock.{RuleBlock}
use Rattle.opa_io.specs.declared.limits.TheConstants.{MOST_RULES}
use Rattle.opa_parse.specs.declared.rules.Taken.{Taken}
use Rattle.opa_parse.specs.RuleFaults.{faults_from, statement_nodes}
use Rattle.opa_parse.specs.Rules.{AreRuleBlocks, rules_in}

-- the nodes of rules
abbrev pub nodes_in : List RuleBlock → ℕ
nodes_in [] = 0
nodes_in (b ∷ bs) = statement_nodes b.statement + nodes_in bs

-- What is kept of these rules, where so many nodes stand before them: their first fault, and else the rules; how many rules
-- and nodes there are, or one more than the most.
pub record IsTaken (start : ℕ) (found : List RuleBlock) (t : Taken) : Type 0 where
  pub first_is : t.first ≡ first_fault (faults_from 0 start found)
  pub rules_are : t.first ≡ None → t.rules ≡ rules_in found
  pub count_is : t.count ≡ min (length found) (MOST_RULES + 1)
  pub nodes_are : t.nodes ≡ min (start + nodes_in found) (MOST_NODES + 1)

-- one more rule is taken
abbrev pub Takes : RuleBlock → Taken → Taken → Type 0
Takes b t u = (start : ℕ) (found : List RuleBlock) → IsTaken start found t → IsTaken start (found ++ b ∷ []) u

-- after a block: no rule more, or one
abbrev pub Goes : Lists → Names → Block → Taken → Taken → Type 0
Goes m ns b t u = (start : ℕ) (found : List RuleBlock) → IsTaken start found t
    → (more : List RuleBlock) × IsTaken start (found ++ more) u × ((bs : List Block) (rs : List RuleBlock) → AreRuleBlocks m ns bs rs → AreRuleBlocks m ns (b ∷ bs) (more ++ rs))

-- these rules of all blocks are taken, and the rest is still to be read
pub record IsRun (m : Lists) (ns : Names) (start : ℕ) (all rest : List Block) (t : Taken) : Type 0 where
  pub found : List RuleBlock
  pub taken : IsTaken start found t
  pub left : (rs : List RuleBlock) → AreRuleBlocks m ns rest rs → AreRuleBlocks m ns all (found ++ rs)

-- the rules of all blocks are taken
abbrev pub TakesAll : Lists → Names → List Block → Taken → Taken → Type 0
TakesAll m ns blocks t u = (start : ℕ) → IsTaken start [] t → (found : List RuleBlock) × IsTaken start found u × AreRuleBlocks m ns blocks found
