use Rattle.std.proofs.Common.{ap, ◌∙◌}
use Rattle.std.specs.FinMap.{insert}
use Rattle.opa_mean.specs.Given.{base_of}
use Rattle.opa_verify.specs.Support.Ledgers.{told_listing}
use Rattle.opa_verify.proofs.support.Concluding.{one_kept}
use Rattle.opa_verify.proofs.support.faults.keep_line.Goals as goal

pub returns-in_ok-insert : goal.returns-in_ok-insert
returns-in_ok-insert c =
    one_kept (base_of c.args.base.now) (told_listing c.args.told.now) c.args.kept.now c.insert.new.self c.args.attr c.args.inst.now c.args.rule.now c.in_ok-line.line c.requires.rule c.in_ok-line.ensures c.requires.kept
    (c.in_ok-insert.ensures.ok ∙ ap (λ k. insert c.args.kept.now (c.args.attr.0, k) c.in_ok-line.line) c.in_ok-key.ensures)
