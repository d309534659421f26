-- Declaration blocks with the tokens of their lines.
use Rattle.std.specs.Prelude.{◌≡◌, ◌<◌, ◌^◌, ℕ, List, length, map, filter, Option, Some, None}
use Rattle.std.specs.List.{All}
use Rattle.std.specs.Str.{chars, IsUtf8}
use Rattle.opa_words.specs.declared.kinds.Token.{Token}
use Rattle.opa_words.specs.Cuts.{Cuts, Stuck}
use Rattle.opa_words.specs.Places.{IsWithin, IsOfKind}
use Rattle.opa_words.specs.declared.layout.block.Block.{Block}
use Rattle.opa_words.specs.declared.layout.block.BlockLine.{BlockLine}
use Rattle.opa_decl.specs.declared.cut.CutBlock.{CutBlock}
use Rattle.opa_decl.specs.declared.cut.CutLine.{CutLine}
use Rattle.opa_decl.specs.Heads.{is_declaration}

-- The text is cut into these tokens, which are what their kinds say.
pub record AreTokens (text : List ℕ) (ts : List Token) : Type 0 where
  pub utf8 : IsUtf8 text
  pub cut : Cuts (length text) (chars text) ts
  pub within : All (IsWithin text) ts
  pub kinds : All (IsOfKind text) ts

-- the tokens of a text, or none where at some place no token begins
abbrev pub HasTokens : List ℕ → Option (List Token) → Type 0
HasTokens text (Some ts) = AreTokens text ts
HasTokens text None = (p : ℕ) × Stuck (length text) (chars text) p

-- a line, and a block, without the tokens
abbrev pub line_of : CutLine → BlockLine
line_of cut = record { level = cut.level; line = cut.line; text = cut.text }

abbrev pub block_of : CutBlock → Block
block_of cut = record { file = cut.file; lines = map line_of cut.lines }

abbrev pub IsShort : BlockLine → Type 0
IsShort line = length line.text < 2 ^ 32

-- the tokens are those of the lines
abbrev pub HaveTokens : CutBlock → Type 0
HaveTokens block = All (λ cut. HasTokens cut.text cut.tokens) block.lines

-- the declarations among the blocks, with the tokens of their lines
pub record AreCut (blocks : List Block) (cuts : List CutBlock) : Type 0 where
  pub same : map block_of cuts ≡ filter is_declaration blocks
  pub tokens : All HaveTokens cuts
