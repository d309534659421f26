use Rattle.std.proofs.Common.{◌≡◌, ◌∙◌, List, true, false, sym, ap}
use Rattle.std.specs.List.{list_all}
use Rattle.opa_line.proofs.Zipping.{ok_weaker}
use Rattle.opa_case.specs.Cases.{CaseView}
use Rattle.opa_case.specs.Live.{is_live}
use Rattle.opa_report.proofs.Seeing.{all_live_so, so_all_live}
use Rattle.opa_report.proofs.held.HeldSightSight.line_at.Goals as goal

pub at-requires-clause-live : goal.at-requires-clause-live
at-requires-clause-live g c =
    let k = g.H.Held.held c.args.self.now.held.now in let es = c.args.enclosing.now in
    so_all_live k.live es (ap (λ (q : CaseView). list_all (is_live q.live) es) (sym c.case-case.ensures.case) ∙ (sym c.are_live.ensures ∙ c.if-are_live.true))

pub returns-then-are_live-clause-line : goal.returns-then-are_live-clause-line
returns-then-are_live-clause-line g c = ok_weaker c.at.result _ _ (λ line h lives. h) c.at.ensures.line

pub returns-else-are_live-clause-line : goal.returns-else-are_live-clause-line
returns-else-are_live-clause-line g c =
    let k = g.H.Held.held c.args.self.now.held.now in let es = c.args.enclosing.now in
    let none : list_all (is_live k.live) es ≡ false = ap (λ (q : CaseView). list_all (is_live q.live) es) (sym c.case-case.ensures.case) ∙ (sym c.are_live.ensures ∙ c.if-are_live.false) in
    ok_weaker c.constant.result _ _ (λ line h lives. absurd (cc (all_live_so k.live es lives, none))) c.constant.ensures.everywhere
