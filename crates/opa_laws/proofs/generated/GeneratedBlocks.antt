-- The blocks of the generated rulebase.
use Rattle.std.proofs.Common.{ℕ, List, [], ◌∷◌, refl, arith}
use Rattle.std.specs.Prelude.{codes}
use Rattle.opa_words.specs.declared.layout.block.Block.{Block}
use Rattle.opa_words.specs.declared.layout.block.BlockLine.{BlockLine}
use Rattle.opa_rulebase.specs.Files.Layouts as layouts
use Rattle.opa_rulebase.specs.Loading.{AreBlocks}
use Rattle.opa_laws.proofs.generated.GeneratedFiles.{sources}

abbrev pub line_at : ℕ → ℕ → List ℕ → BlockLine
line_at level number text = record { level = level; line = number; text = text }

abbrev pub block : List BlockLine → Block
block lines = record { file = 0; lines = lines }

abbrev pub global_block : Block
global_block = block (line_at 0 1 (codes "global") ∷ line_at 1 2 (codes "currency the total") ∷ line_at 1 3 (codes "number the number above") ∷ [])

abbrev pub person_block : Block
person_block = block (line_at 0 4 (codes "entity the person") ∷ line_at 1 5 (codes "in global: the people") ∷ line_at 1 6 (codes "currency the person's income") ∷ [])

abbrev pub total_goal : Block
total_goal = block (line_at 0 7 (codes "goal the total") ∷ [])

abbrev pub number_goal : Block
number_goal = block (line_at 0 8 (codes "goal the number above") ∷ [])

abbrev pub total_line : BlockLine
total_line = line_at 0 9 (codes "the total = InstanceSum(the people, the person's income)")

abbrev pub number_line : BlockLine
number_line = line_at 0 10 (codes "the number above = InstanceCountIf(the people, the person's income > 300)")

abbrev pub declaring : List Block
declaring = global_block ∷ person_block ∷ total_goal ∷ number_goal ∷ []

abbrev pub blocks : List Block
blocks = global_block ∷ person_block ∷ total_goal ∷ number_goal ∷ block (total_line ∷ []) ∷ block (number_line ∷ []) ∷ []

pub blocks_are : (name : List ℕ) → AreBlocks (sources name) blocks
blocks_are name = record {
  laid = layouts.AreLaid.file {bs = blocks} {more = []}
      (record {
        of_table = λ e. absurd (cc e);
        of_rules = λ e. (
          (refl, (refl, (omega arith, (omega arith, tt))), (refl, (refl, (omega arith, (omega arith, tt))), (refl, (refl, tt), (refl, (refl, tt), (refl, (refl, tt), (refl, (refl, tt), tt)))))),
          refl,
        );
      })
      layouts.AreLaid.none;
  sound = refl;
}
