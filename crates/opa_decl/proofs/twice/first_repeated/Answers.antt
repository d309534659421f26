use Rattle.std.proofs.Common.{◌≡◌, ◌∙◌, rules, ap, subst, List, ℕ}
use Rattle.opa_model.specs.Phrases.{Declares}
use Rattle.opa_tree.specs.FirstFaults.{first_of}
use Rattle.opa_decl.proofs.TwiceLaws.{repeated_step}
use Rattle.opa_decl.proofs.twice.first_repeated.Goals as goal

pub loop-name-preserved : goal.loop-name-preserved
loop-name-preserved c =
    let same : c.in_ok-to_vec.field-0.items ≡ c.in-Some.name.now.text = search rules in
    repeated_step c.loop-name.first c.first_of-first.result c.loop-name.seen c.add.new.self c.in-Some.name.now c.loop-name.rest.now c.in-Some.later.now c.in_ok-is_new.is_new _ c.loop-name.invariant c.in-Some.ensures (subst (λ (t : List ℕ). Declares c.loop-name.seen c.add.new.self t c.in_ok-is_new.is_new) same c.in_ok-is_new.ensures)
    (c.first_of-first.ensures ∙ ap (first_of c.loop-name.first) c.when.ensures)
