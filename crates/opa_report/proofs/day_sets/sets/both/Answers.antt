use Rattle.std.proofs.Common.{rules, of_calls, ◌&&◌, false}
use Rattle.opa_date.specs.declared.TheConstants.{DAYS}
use Rattle.opa_line.proofs.Zipping.{ok_weaker, joined_stands}
use Rattle.opa_report.proofs.day_sets.sets.both.Goals as goal

pub returns : goal.returns
returns c = ok_weaker c.zip.result _ _ (λ l h. joined_stands _ _ (λ x y. x && y) false false DAYS c.args.a.now c.args.b.now l (λ p q z says. search (rules, of_calls, says)) h) c.zip.ensures
