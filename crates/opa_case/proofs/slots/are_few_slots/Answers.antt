use Rattle.std.specs.Prelude.{◌*◌, min, length}
use Rattle.std.proofs.Common.{ap, ◌∙◌, ◌+◌}
use Rattle.opa_case.proofs.Counting.{small_product}
use Rattle.opa_case.proofs.slots.are_few_slots.Goals as goal

pub returns : goal.returns
returns g c live is few =
    small_product (length c.args.model.now.attributes) (length live) c.saturating_add-each.result c.saturating_mul-most.result
    (c.saturating_add-each.ensures ∙ ap (λ n. min (n + 1) 18446744073709551615) (c.total.ensures live is))
    (c.saturating_mul-most.ensures ∙ ap (λ n. min (n * c.saturating_add-each.result) 18446744073709551615) (c.from.ensures ∙ c.attribute_count.ensures.count)) few
