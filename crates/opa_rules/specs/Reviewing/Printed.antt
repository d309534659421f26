-- How findings are printed.
use Rattle.std.specs.Prelude.{ℕ, Bool, true, false, List, [], ◌∷◌, ◌++◌, codes, flat_map, slice_index_or}
use Rattle.std.specs.Fmt.{decimal}
use Rattle.opa_model.specs.declared.lists.Lists.{Lists}
use Rattle.opa_words.specs.Names.{printed_name}
use Rattle.opa_tree.specs.declared.rulebase.Rulebase.{Rulebase}
use Rattle.opa_rules.specs.declared.reviewing.finding.Finding.{Finding}
use Rattle.opa_rules.specs.declared.reviewing.finding.Finding.TheVariants as finding
use Rattle.opa_rules.specs.declared.reviewing.finding.Level.{Level}
use Rattle.opa_rules.specs.declared.reviewing.finding.Level.TheVariants as level
use Rattle.opa_rules.specs.declared.reviewing.finding.AlikeAttributes.{AlikeAttributes}
use Rattle.opa_rules.specs.declared.reviewing.finding.AlikeLists.{AlikeLists}
use Rattle.opa_rules.specs.declared.reviewing.finding.RoundedCurrency.{RoundedCurrency}
use Rattle.opa_rules.specs.declared.reviewing.finding.UncertainEnding.{UncertainEnding}
use Rattle.opa_rules.specs.declared.reviewing.finding.SettledGoal.{SettledGoal}
use Rattle.opa_rules.specs.declared.reviewing.finding.UnreachedRow.{UnreachedRow}
use Rattle.opa_rules.specs.declared.reviewing.finding.UnusedAttribute.{UnusedAttribute}
use Rattle.opa_rules.specs.Reviewing.Alike.{differ_in_case}
use Rattle.opa_rules.specs.Reviewing.ComparedWords.{compared_words}
use Rattle.opa_rules.specs.Reviewing.Phrases.{phrase_of, list_phrase_of}

-- ---- the words of each sort

-- what the earlier row has
abbrev pub reason : Bool → Bool → List ℕ
reason true differs = codes "is always true"
reason false true = codes "has the same condition and another value"
reason false false = codes "has the same condition"

-- `in the rule for 'PHRASE' row ROW is never reached: row EARLIER has the same condition`
abbrev pub row_words : Lists → UnreachedRow → List ℕ
row_words m r =
    codes "in the rule for '" ++ (phrase_of m r.attr ++ (codes "' row " ++ (decimal r.row ++ (codes " is never reached: row " ++ (decimal r.earlier ++ (codes " " ++ reason r.always r.differs))))))

-- `no goal looks at 'PHRASE'`
abbrev pub unused_words : Lists → UnusedAttribute → List ℕ
unused_words m u = codes "no goal looks at '" ++ (phrase_of m u.attr ++ codes "'")

-- `no answer changes 'PHRASE'`
abbrev pub settled_words : Lists → SettledGoal → List ℕ
settled_words m g = codes "no answer changes '" ++ (phrase_of m g.attr ++ codes "'")

-- how two phrases differ
abbrev pub how : Bool → List ℕ
how true = codes "differ only in capital letters"
how false = codes "differ by one letter"

-- `'PHRASE' and 'PHRASE' differ by one letter`
abbrev pub pair_words : List ℕ → List ℕ → List ℕ
pair_words first second = codes "'" ++ (first ++ (codes "' and '" ++ (second ++ (codes "' " ++ how (differ_in_case first second)))))

abbrev pub attributes_words : Lists → AlikeAttributes → List ℕ
attributes_words m f = pair_words (phrase_of m f.first) (phrase_of m f.second)

abbrev pub lists_words : Lists → AlikeLists → List ℕ
lists_words m f = pair_words (list_phrase_of m f.first) (list_phrase_of m f.second)

-- `'PHRASE' is rounded to two decimals, and another currency is concluded from it`
abbrev pub rounding_words : Lists → RoundedCurrency → List ℕ
rounding_words m f = codes "'" ++ (phrase_of m f.attr ++ codes "' is rounded to two decimals, and another currency is concluded from it")

-- `in the rule for 'PHRASE' the value is uncertain where no row holds`
abbrev pub ending_words : Lists → UncertainEnding → List ℕ
ending_words m f = codes "in the rule for '" ++ (phrase_of m f.attr ++ codes "' the value is uncertain where no row holds")

-- ---- what is said of each finding

-- the place of its file; the main file and line 0, where the place isn't known
abbrev pub file_of : Finding → ℕ
file_of (finding.Row r) = r.file
file_of (finding.Compared f) = f.file
file_of (finding.Unused u) = u.file
file_of (finding.Settled g) = g.file
file_of (finding.Attributes f) = 0
file_of (finding.Lists f) = 0
file_of (finding.Rounding f) = f.file
file_of (finding.Ending f) = f.file

abbrev pub line_of : Finding → ℕ
line_of (finding.Row r) = r.line
line_of (finding.Compared f) = f.line
line_of (finding.Unused u) = u.line
line_of (finding.Settled g) = g.line
line_of (finding.Attributes f) = 0
line_of (finding.Lists f) = 0
line_of (finding.Rounding f) = f.line
line_of (finding.Ending f) = f.line

abbrev pub level_of : Finding → Level
level_of (finding.Row r) = level.Warning
level_of (finding.Compared f) = level.Warning
level_of (finding.Unused u) = level.Warning
level_of (finding.Settled g) = level.Warning
level_of (finding.Attributes f) = level.Note
level_of (finding.Lists f) = level.Note
level_of (finding.Rounding f) = level.Note
level_of (finding.Ending f) = level.Note

abbrev pub words_of : Rulebase → Finding → List ℕ
words_of base (finding.Row r) = row_words base.model r
words_of base (finding.Compared f) = compared_words base f
words_of base (finding.Unused u) = unused_words base.model u
words_of base (finding.Settled g) = settled_words base.model g
words_of base (finding.Attributes f) = attributes_words base.model f
words_of base (finding.Lists f) = lists_words base.model f
words_of base (finding.Rounding f) = rounding_words base.model f
words_of base (finding.Ending f) = ending_words base.model f

-- ---- lines

abbrev pub file_name : Rulebase → Finding → List ℕ
file_name base f = slice_index_or base.files (file_of f) []

abbrev pub level_text : Level → List ℕ
level_text level.Warning = codes "warning"
level_text level.Note = codes "note"

-- `FILE:LINE: LEVEL: WORDS`
abbrev pub finding_text : Rulebase → Finding → List ℕ
finding_text base f = printed_name (file_name base f) ++ (codes ":" ++ (decimal (line_of f) ++ (codes ": " ++ (level_text (level_of f) ++ (codes ": " ++ (words_of base f ++ 10 ∷ []))))))

abbrev pub findings_text : Rulebase → List Finding → List ℕ
findings_text base fs = flat_map (finding_text base) fs
