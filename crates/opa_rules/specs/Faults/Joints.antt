-- Lines of a group and the words that join them.
use Rattle.std.specs.Prelude.{ℕ, ◌==◌, Bool, true, false, not, ◌&&◌, List, [], ◌∷◌, Option, Some, None, if◌then◌else◌}
use Rattle.opa_words.specs.declared.kinds.Token.{Token}
use Rattle.opa_words.specs.declared.layout.block.BlockLine.{BlockLine}
use Rattle.opa_sentence.specs.Lexemes.{lexemes}
use Rattle.opa_parse.specs.declared.line.Ending.{Ending}
use Rattle.opa_parse.specs.declared.line.Ending.TheVariants as ending
use Rattle.opa_parse.specs.Lines.{ending_of}
use Rattle.opa_rules.specs.declared.faults.slip.Part.{Part}
use Rattle.opa_rules.specs.declared.faults.slip.Part.TheVariants as part
use Rattle.opa_rules.specs.declared.faults.slip.Slip.{Slip}
use Rattle.opa_rules.specs.declared.faults.slip.Slip.TheVariants as slip

-- the next line is of this level
abbrev pub goes_on_at : ℕ → List BlockLine → Bool
goes_on_at level [] = false
goes_on_at level (l ∷ ls) = l.level == level

-- `and` or `or`
abbrev pub joins : Ending → Bool
joins ending.And = true
joins ending.Or = true
joins e = false

abbrev pub is_nothing : Ending → Bool
is_nothing ending.Nothing = true
is_nothing e = false

-- a line of a rule below its first line
abbrev pub is_below : Part → Bool
is_below part.Case = true
is_below part.Item = true
is_below p = false

abbrev pub is_item : Part → Bool
is_item part.Item = true
is_item p = false

-- `and` and `or` are at the end of a line if the next one is of its level: neither only the one nor only the other
abbrev pub joint_slip : Part → Ending → Bool → Option Slip
joint_slip p e more =
    if is_below p && joins e && not more then Some slip.Dangling else
    if is_item p && is_nothing e && more then Some slip.Unjoined else
    None

-- where the mark is: below the last word, or behind it
abbrev pub at_word : Slip → Token → ℕ
at_word slip.Unjoined t = t.end
at_word s t = t.start

abbrev pub at_last : Slip → List Token → Option (Slip × ℕ)
at_last s [] = None
at_last s (t ∷ []) = Some (s, at_word s t)
at_last s (t ∷ u ∷ ts) = at_last s (u ∷ ts)

abbrev pub at_end : Option Slip → List Token → Option (Slip × ℕ)
at_end None ts = None
at_end (Some s) ts = at_last s ts

-- what is wrong at the end of a line of this level, before these lines
abbrev pub end_slip : Part → ℕ → List ℕ → List Token → List BlockLine → Option (Slip × ℕ)
end_slip p level text ts later = at_end (joint_slip p (ending_of (lexemes text ts)) (goes_on_at level later)) ts
