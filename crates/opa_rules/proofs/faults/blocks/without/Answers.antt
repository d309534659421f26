use Rattle.std.proofs.Common.{rules, ◌∙◌, ap, not, filter}
use Rattle.std.proofs.lemmas.Fn.{filter_same}
use Rattle.opa_rules.specs.Faults.Blocks.{has_line}
use Rattle.opa_rules.proofs.faults.blocks.without.Goals as goal

pub returns : goal.returns
returns c = c.from_vec.ensures ∙ filter_same _ _ _ (λ x b f' k. search rules) _ _ c.retain.ensures.filtered ∙ ap (filter (λ b. not (has_line c.args.file c.args.line b))) c.into_vec-left.ensures
