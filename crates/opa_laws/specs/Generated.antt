-- The rulebase that is generated.
use Rattle.std.specs.Prelude.{◌≡◌, ℕ, List, [], ◌∷◌, Ok, Err, Some}
use Rattle.std.specs.FinMap as map
use Rattle.opa_io.specs.Outside.{Files}
use Rattle.opa_tree.specs.declared.rulebase.Rulebase.{Rulebase}
use Rattle.opa_rulebase.specs.Loading.{Opens}
use Rattle.opa_script.specs.Examples.{rules_text}

-- the file of this name is the text of the generated rulebase
abbrev pub HasRules : Files → List ℕ → Type 0
HasRules files name = map.get files name ≡ Some rules_text

-- Under such a name a rulebase is opened: the text is accepted.
abbrev pub GeneratedIsAccepted : Type 0
GeneratedIsAccepted = (files : Files) (name : List ℕ) → HasRules files name → (base : Rulebase) × Opens files name (Ok base)

-- and nothing is refused
abbrev pub GeneratedIsNotRefused : Type 0
GeneratedIsNotRefused = (files : Files) (name text : List ℕ) → HasRules files name → Opens files name (Err text) → ⊥

-- the files of a shelf that has nothing else
abbrev pub only_rules : List ℕ → Files
only_rules name = map.from_entries ((name, rules_text) ∷ [])

-- So it is with a shelf that has nothing else, as the mode `generate` makes one.
abbrev pub OnlyRulesAreRules : Type 0
OnlyRulesAreRules = (name : List ℕ) → HasRules (only_rules name) name

abbrev pub OnlyRulesAreAccepted : Type 0
OnlyRulesAreAccepted = (name : List ℕ) → (base : Rulebase) × Opens (only_rules name) name (Ok base)
