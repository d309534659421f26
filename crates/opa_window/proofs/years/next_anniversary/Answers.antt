use Rattle.std.proofs.Common.{rules, ◌≡◌, ◌∙◌, ◌+◌, pos}
use Rattle.opa_date.specs.Moves.{add_years}
use Rattle.opa_window.proofs.Anniversaries.{capped_later}
use Rattle.opa_window.proofs.years.next_anniversary.Goals as goal

pub returns : goal.returns
returns c =
    let later : c.add_years.result ≡ add_years c.args.day (pos (c.args.years + 1)) = search rules in
    c.unwrap_or.ensures ∙ capped_later c.args.day (c.args.years + 1) c.add_years.result c.requires.in_calendar later
