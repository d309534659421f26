use Rattle.std.proofs.Common.{sym, ap, subst, ◌∙◌, ◌++◌}
use Rattle.opa_rules.specs.Faults.Listing.{AreErrors, AreLater}
use Rattle.opa_rules.specs.Faults.Printed.{error_in}
use Rattle.opa_rules.proofs.faults.telling.errors_of_blocks.Goals as goal

pub returns : goal.returns
returns c =
    let files = c.args.files.now in let known = c.in_ok-known.known.texts in let w = c.args.wrong.now in let k = c.in_ok-push_from.ensures in
    subst (AreErrors files) (sym (k.3 ∙ ap (λ s. (s ++ error_in files c.args.blocks w k.0) ++ k.1) c.new-out.ensures.bytes))
    (AreErrors.of_blocks c.args.blocks known w k.0 k.1 c.requires.blocks c.in_ok-known.ensures c.requires.first k.2 (subst (λ m. AreLater files known m c.args.blocks w k.1) c.most_listed-most.ensures.most k.4))
