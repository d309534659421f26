use Rattle.opa_text.proofs.WholeLaws as law
use Rattle.opa_text.proofs.laws.one_reading.Goals as goal

pub returns-clause-value : goal.returns-clause-value
returns-clause-value c = law.one_value_holds

pub returns-clause-pairs : goal.returns-clause-pairs
returns-clause-pairs c = law.one_line_holds

pub returns-clause-line : goal.returns-clause-line
returns-clause-line c = law.one_line_of_holds

pub returns-clause-names : goal.returns-clause-names
returns-clause-names c = law.one_names_holds
