use Rattle.std.proofs.Common.{Option, Ok, IfSome, subst}
use Rattle.opa_tree.specs.declared.rulebase.Rulebase.{Rulebase}
use Rattle.opa_rulebase.specs.Loading.{Opens}
use Rattle.opa_rules.specs.Printing.Shelves.{one_file}
use Rattle.opa_rules.proofs.PrintLaws.{is_print}
use Rattle.opa_rules.proofs.printing.reading_back.reads_back.Goals as goal

pub returns-in-Some : goal.returns-in-Some
returns-in-Some c =
    let name = c.args.name.now in
    λ same. is_print name c.args.base.now c.in-Some.other c.args.text.now
    (subst (λ (r : Option Rulebase). IfSome r (λ base. Opens (one_file name c.args.text.now) name (Ok base))) c.in-Some.is c.in_ok-other.ensures) (c.is_same.ensures same)
