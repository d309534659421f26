use Rattle.std.proofs.Common.{◌≡◌, ◌∙◌, List, true, false, sym, ap, subst}
use Rattle.std.specs.List.{AllByRecursion, list_all}
use Rattle.opa_date.specs.declared.TheConstants.{DAYS}
use Rattle.opa_line.specs.Lines.{StandsFor}
use Rattle.opa_line.proofs.Zipping.{ok_weaker}
use Rattle.opa_case.specs.Cases.{CaseView, IsLive}
use Rattle.opa_case.specs.Live.{is_live}
use Rattle.opa_cells.specs.declared.instance.InstanceId.{InstanceId}
use Rattle.opa_code.specs.Fresh.{fresh_value}
use Rattle.opa_report.proofs.Seeing.{all_live_so, so_all_live}
use Rattle.opa_report.proofs.held.HeldSightSight.tree_line.Goals as goal

pub tree_line-requires : goal.tree_line-requires
tree_line-requires g c =
    let k = g.H.Held.held c.args.self.now.held.now in let es = c.args.enclosing.now in
    let all : list_all (is_live k.live) es ≡ true = ap (λ (q : CaseView). list_all (is_live q.live) es) (sym c.case-case.ensures.case) ∙ (sym c.are_live.ensures ∙ c.if-are_live.true) in
    subst (λ (xs : List InstanceId). AllByRecursion (IsLive k) xs) (sym c.in_ok-inside.ensures) (so_all_live k.live es all)

pub returns-in_ok-inside : goal.returns-in_ok-inside
returns-in_ok-inside g c =
    let r = g.H.Held.rules c.args.self.now.held.now in let k = g.H.Held.held c.args.self.now.held.now in
    ok_weaker c.tree_line.result _ _ (λ line h lives. subst (λ (xs : List InstanceId). StandsFor DAYS (fresh_value r k c.args.tree.now xs) line) c.in_ok-inside.ensures h) c.tree_line.ensures

pub returns-else-are_live : goal.returns-else-are_live
returns-else-are_live g c =
    let k = g.H.Held.held c.args.self.now.held.now in let es = c.args.enclosing.now in
    let none : list_all (is_live k.live) es ≡ false = ap (λ (q : CaseView). list_all (is_live q.live) es) (sym c.case-case.ensures.case) ∙ (sym c.are_live.ensures ∙ c.if-are_live.false) in
    ok_weaker c.constant.result _ _ (λ line h lives. absurd (cc (all_live_so k.live es lives, none))) c.constant.ensures.everywhere
