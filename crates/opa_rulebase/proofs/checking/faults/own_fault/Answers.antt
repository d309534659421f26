use Rattle.std.proofs.Common.{◌≡◌, ◌∙◌, ◌&&◌, ap, ap₂, sym, Bool}
use Rattle.opa_tree.specs.declared.faults.RbKind.TheVariants.{Scope, Kind}
use Rattle.opa_tree.specs.FirstFaults.{first_of, first_fault}
use Rattle.opa_tree.proofs.FirstFaultLaws.{first_fault-append}
use Rattle.opa_tree.specs.Accepted.{concludes_bool}
use Rattle.opa_tree.specs.Kinds.{rule_has_kind}
use Rattle.opa_tree.specs.Scopes.{rule_is_reached}
use Rattle.opa_rulebase.specs.Checking.Faults.{fault_at, unless}
use Rattle.opa_rulebase.proofs.checking.faults.own_fault.Goals as goal

pub returns : goal.returns
returns c =
    let scope = fault_at Scope c.args.rule.now in let kind = fault_at Kind c.args.rule.now in
    c.first_of.ensures ∙ ap₂ first_of
    (c.unless.ensures ∙ ap (λ (b : Bool). first_fault (unless b scope)) c.in_ok-is_reached.ensures)
    (c.unless-2.ensures ∙ ap (λ (b : Bool). first_fault (unless b kind)) c.in_ok-has_its_kind.ensures)
    ∙ sym (first_fault-append (unless (rule_is_reached c.args.model.now c.args.rule.now) scope) (unless (rule_has_kind c.args.model.now c.args.rule.now && concludes_bool c.args.model.now c.args.rule.now) kind))
