-- Laws of tables.
use Rattle.std.specs.Prelude.{◌≡◌, ℕ, List}
use Rattle.opa_model.specs.declared.lists.Lists.{Lists}
use Rattle.opa_sentence.specs.declared.names.Names.{Names}
use Rattle.opa_parse.specs.declared.block.RuleBlock.{RuleBlock}
use Rattle.opa_parse.specs.Tables.Reading.{AreTableBlocks}

-- the bytes of a table give one list of rules at most
abbrev pub OneTable : Type 0
OneTable = (m : Lists) (ns : Names) (file : ℕ) (bytes : List ℕ) (blocks others : List RuleBlock) → AreTableBlocks m ns file bytes blocks → AreTableBlocks m ns file bytes others → blocks ≡ others
