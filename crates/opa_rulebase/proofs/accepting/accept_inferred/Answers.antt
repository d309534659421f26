use Rattle.std.proofs.Common.{◌<◌, length, All, ap, sym, subst, ◌∙◌}
use Rattle.std.proofs.lemmas.List.{length-map}
use Rattle.opa_tree.specs.Accepted.{AreFiled}
use Rattle.opa_verbs.specs.Phrasing.{IsReadable}
use Rattle.opa_rulebase.specs.declared.files.source.SourceFile.{SourceFile}
use Rattle.opa_parse.specs.declared.tables.whole.TableFile.{TableFile}
use Rattle.opa_parse.specs.Tables.Whole.{AreAllRules, AreAllRefused}
use Rattle.opa_rulebase.specs.Loading.{IsRefused}
use Rattle.opa_rulebase.proofs.LoadLaws.{plain_refusal, accepted_by, refused_by, model_has}
use Rattle.opa_rulebase.proofs.accepting.accept_inferred.Goals as goal

pub accept_rules-requires-clause-filed : goal.accept_rules-requires-clause-filed
accept_rules-requires-clause-filed c =
    let placed = subst (All (λ (t : TableFile). t.file < length c.args.files.now)) (sym c.as_slice.ensures) c.in_ok-tables.ensures.placed in
    let same = ap length c.in_ok-names.ensures ∙ length-map c.args.files.now (λ (f : SourceFile). f.name) in
    subst (λ n. AreFiled n c.in-Ok.rules) (sym same) (c.in-Ok.ensures.filed (length c.args.files.now) c.requires.placed placed)

pub returns-in-Ok-clause-accepted : goal.returns-in-Ok-clause-accepted
returns-in-Ok-clause-accepted c =
    accepted_by c.args.files.now c.args.blocks.now c.args.model c.args.inferences.now c.in-Ok.rules c.requires.inferred (subst (λ t. AreAllRules c.args.model c.args.inferences.now c.args.blocks.now t c.in-Ok.rules) (c.as_slice.ensures ∙ c.in_ok-tables.ensures.tables) c.in-Ok.ensures.rules)
    c.in_ok-names.names c.accept_rules.result c.in_ok-names.ensures c.accept_rules.ensures.model c.accept_rules.ensures.rules c.accept_rules.ensures.files

pub returns-in-Ok-clause-readable : goal.returns-in-Ok-clause-readable
returns-in-Ok-clause-readable c = model_has IsReadable c.args.model c.accept_rules.result c.requires.readable c.accept_rules.ensures.model

pub returns-in-Ok-clause-refused : goal.returns-in-Ok-clause-refused
returns-in-Ok-clause-refused c =
    refused_by c.args.files.now c.args.blocks.now c.args.model c.args.inferences.now c.in-Ok.rules c.requires.inferred (subst (λ t. AreAllRules c.args.model c.args.inferences.now c.args.blocks.now t c.in-Ok.rules) (c.as_slice.ensures ∙ c.in_ok-tables.ensures.tables) c.in-Ok.ensures.rules)
    c.accept_rules.result c.accept_rules.ensures.refused

pub returns-in-Err-clause-refused : goal.returns-in-Err-clause-refused
returns-in-Err-clause-refused c =
    plain_refusal c.args.files.now c.in-Err.error c.without_circle.result c.without_circle.ensures
    (λ f e. IsRefused.at_rules c.args.blocks.now c.args.model c.args.inferences.now c.requires.inferred (subst (λ t. AreAllRefused c.args.model c.args.inferences.now c.args.blocks.now t f) (c.as_slice.ensures ∙ c.in_ok-tables.ensures.tables) (c.in-Err.ensures.refused f e)))
