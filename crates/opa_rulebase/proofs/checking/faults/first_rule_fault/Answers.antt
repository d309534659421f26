use Rattle.std.proofs.Common.{◌≡◌, ◌∙◌, ap₂, sym, []}
use Rattle.std.specs.Prelude.{flat_map}
use Rattle.opa_tree.specs.FirstFaults.{first_of}
use Rattle.opa_tree.proofs.FirstFaultLaws.{first_fault-append}
use Rattle.opa_rulebase.specs.Checking.Faults.{own_faults, second_faults}
use Rattle.opa_rulebase.proofs.checking.faults.first_rule_fault.Goals as goal

pub returns : goal.returns
returns c =
    c.first_of.ensures ∙ ap₂ first_of c.in_ok-own.ensures c.in_ok-second.ensures
    ∙ sym (first_fault-append (flat_map (own_faults c.args.model.now) c.args.rules.now) (second_faults [] c.args.rules.now))
