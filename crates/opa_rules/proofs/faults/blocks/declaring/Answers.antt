use Rattle.std.proofs.Common.{rules, ◌∙◌, ap, filter}
use Rattle.std.proofs.lemmas.Fn.{filter_same}
use Rattle.opa_rules.specs.Faults.Blocks.{declares}
use Rattle.opa_rules.proofs.faults.blocks.declaring.Goals as goal

pub returns : goal.returns
returns c = c.from_vec.ensures ∙ filter_same _ _ _ (λ x b f' k. search rules) _ _ c.retain.ensures.filtered ∙ ap (filter declares) c.into_vec-left.ensures
