use Rattle.std.proofs.Common.{rules, ap, ap₂, codes, true, ◌≡◌, ◌∙◌}
use Rattle.std.proofs.lemmas.Result.{IfOk-weaker}
use Rattle.clap.specs.declared.builder.command.Command.{Command}
use Rattle.clap.specs.declared.builder.command.Command.TheOpen.{Command-F}
use Rattle.clap.specs.Simple.{app_of_fields}
use Rattle.clap.specs.Words.{App, app_of, rule_of, with_rule}
use Rattle.opa_top.specs.Usage.Words.{bare_app, set_rule, opa_app}
use Rattle.opa_top.proofs.usage.clapped.opa.Goals as goal

pub returns : goal.returns
unfolding opa_app
returns c =
    let mode : rule_of c.action-mode.result ≡ set_rule (codes "mode") = search rules in
    let rulebase : rule_of c.action-rulebase.result ≡ set_rule (codes "rulebase") = search rules in
    let name : rule_of c.action-name.result ≡ set_rule (codes "name") = search rules in
    let bare : app_of c.disable_version_flag.result ≡ bare_app =
    ap app_of_fields (c.disable_version_flag.ensures ∙ ap (λ (f : Command-F Command). record f { disable_version_flag = true }) c.disable_help_flag.ensures)
    ∙ ap (λ (a : App). record a { top = record a.top { disable_help_flag = true; disable_version_flag = true } }) c.new-4.ensures.app in
    let one : app_of c.in_ok-arg.field-0 ≡ with_rule bare_app (set_rule (codes "mode")) =
    c.in_ok-arg.ensures.shape (search rules) ∙ ap₂ with_rule bare mode in
    let two : app_of c.in_ok-arg-2.field-0 ≡ with_rule (with_rule bare_app (set_rule (codes "mode"))) (set_rule (codes "rulebase")) =
    c.in_ok-arg-2.ensures.shape (search rules) ∙ ap₂ with_rule one rulebase in
    record { app = IfOk-weaker c.arg-3.result _ _ (λ r added. added.shape (search rules) ∙ ap₂ with_rule two name) c.arg-3.ensures }
