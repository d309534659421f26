use Rattle.std.proofs.Common.{List, sym, subst}
use Rattle.std.specs.List.{AllByRecursion}
use Rattle.opa_date.specs.declared.TheConstants.{DAYS}
use Rattle.opa_line.specs.Lines.{StandsFor}
use Rattle.opa_line.proofs.Zipping.{ok_weaker}
use Rattle.opa_cells.specs.declared.instance.InstanceId.{InstanceId}
use Rattle.opa_case.specs.Cases.{IsLive}
use Rattle.opa_code.specs.Fresh.{fresh_value}
use Rattle.opa_code.proofs.lines_of_members.by_days.Goals as goal

pub day_by_day-requires : goal.day_by_day-requires
day_by_day-requires g c = subst (AllByRecursion (IsLive (g.H.Held.held c.args.held.now))) (sym c.in_ok-all.ensures) c.requires

pub returns : goal.returns
returns g c =
    let r = g.H.Held.rules c.args.held.now in let held = g.H.Held.held c.args.held.now in
    ok_weaker c.day_by_day.result _ _ (λ line h. subst (λ (es : List InstanceId). StandsFor DAYS (fresh_value r held c.args.tree.now es) line) c.in_ok-all.ensures h) c.day_by_day.ensures
