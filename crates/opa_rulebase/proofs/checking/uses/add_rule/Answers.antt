use Rattle.std.proofs.Common.{◌≡◌, ◌∙◌, ap, sym, subst, Bool, true, false, not, ◌++◌, ◌∷◌, []}
use Rattle.std.specs.Prelude.{Option, None, Some, slice_get, slice_set}
use Rattle.std.proofs.lemmas.Option.{slice_get-get_or}
use Rattle.opa_io.proofs.Options.{none_is}
use Rattle.opa_tree.specs.Mentions.{mentions}
use Rattle.opa_rulebase.specs.Checking.Found.{AreUses}
use Rattle.opa_rulebase.proofs.checking.UseLaws.{uses_again, uses_first, known_again}
use Rattle.opa_rulebase.proofs.checking.uses.add_rule.Goals as goal

pub returns-in_ok-mentions : goal.returns-in_ok-mentions
returns-in_ok-mentions c count before are =
    let old = c.args.uses.now.items in let rule = c.args.rule.now in
    let none = none_is c.index.result.now (c.is_none.ensures ∙ ap not c.if-is_none.true) in
    let at : slice_get old rule.attr.0 ≡ Some None = slice_get-get_or old rule.attr.0 c.index.result.now c.requires.declared ∙ ap Some (sym c.index.ensures ∙ none) in
    subst (λ ms. AreUses count (before ++ rule ∷ []) (slice_set old rule.attr.0 (Some ms))) (sym c.in_ok-mentions.ensures) (uses_first count before rule old are at)

pub returns-else-is_none : goal.returns-else-is_none
returns-else-is_none c count before are =
    let old = c.args.uses.now.items in let rule = c.args.rule.now in
    known_again count before rule old are c.index.result.now (slice_get-get_or old rule.attr.0 c.index.result.now c.requires.declared ∙ ap Some (sym c.index.ensures)) c.if-is_none.ensures
