use Rattle.std.proofs.Common.{rules, of_calls}
use Rattle.opa_date.specs.declared.TheConstants.{DAYS}
use Rattle.opa_line.proofs.Zipping.{ok_weaker, joined_stands}
use Rattle.opa_code.proofs.over_lines.Halving.{halves_join}
use Rattle.opa_verify.specs.Listed.Shades.{gone}
use Rattle.opa_verify.specs.Listed.ShadeLines.{first_there}
use Rattle.opa_verify.proofs.listed.Halving.{halved}
use Rattle.opa_verify.proofs.listed.runs.+halves.Goals as goal

pub returns-in_ok-second-in_default : goal.returns-in_ok-second-in_default
returns-in_ok-second-in_default t c =
    let parts = halves_join c.args.runs.now c.split_at.result.0.now c.split_at.result.1.now _ c.split_at.ensures.front c.split_at.ensures.back in
    ok_weaker c.zip.result _ _ (λ l h. halved c.args.runs.now c.split_at.result.0.now c.split_at.result.1.now c.in_ok-first-in_default.first c.in_ok-second-in_default.second l parts c.in_ok-first-in_default.ensures c.in_ok-second-in_default.ensures
    (joined_stands _ _ first_there gone gone DAYS c.in_ok-first-in_default.first c.in_ok-second-in_default.second l (λ p q z says. search (rules, of_calls, says)) h)) c.zip.ensures
