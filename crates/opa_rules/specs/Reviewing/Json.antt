-- Findings as one JSON document.
use Rattle.std.specs.Prelude.{List, [], map, codes, slice_index_or}
use Rattle.serde_json.specs.Data.{Data, number, unsigned, string, object, member, no_members}
use Rattle.opa_tree.specs.declared.rulebase.Rulebase.{Rulebase}
use Rattle.opa_rules.specs.Describing.Parts.{list_data}
use Rattle.opa_rules.specs.declared.reviewing.finding.Finding.{Finding}
use Rattle.opa_rules.specs.Reviewing.Printed.{file_name, line_of, level_of, level_text, words_of}

abbrev pub finding_data : Rulebase → Finding → Data
finding_data base f =
    object
    (member (codes "file") (string (file_name base f))
    (member (codes "level") (string (level_text (level_of f)))
    (member (codes "line") (number (unsigned (line_of f))) (member (codes "words") (string (words_of base f)) no_members))))

abbrev pub format_data : Data
format_data = object (member (codes "name") (string (codes "sennabasket review")) (member (codes "version") (number (unsigned 1)) no_members))

-- the main file is the rulebase's name
abbrev pub review_with : Data → Data → Data
review_with found rulebase = object (member (codes "findings") found (member (codes "format") format_data (member (codes "rulebase") rulebase no_members)))

unfoldable pub review_data : Rulebase → List Finding → Data
review_data base fs = review_with (list_data (map (finding_data base) fs)) (string (slice_index_or base.files 0 []))
