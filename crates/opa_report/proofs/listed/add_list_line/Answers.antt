use Rattle.std.proofs.Common.{◌∙◌, ◌++◌, ◌∷◌, [], cond, sym, ap}
use Rattle.std.proofs.lemmas.List.{append-nil}
use Rattle.std.proofs.lemmas.Result.{on_ok_weaker}
use Rattle.opa_cells.specs.declared.instance.InstanceId.{InstanceId}
use Rattle.opa_mean.specs.Looks.{Look}
use Rattle.opa_report.specs.declared.lines.ReportLine.TheVariants as line
use Rattle.opa_report.proofs.listed.add_list_line.Goals as goal

pub returns-in_ok-copy : goal.returns-in_ok-copy
returns-in_ok-copy g c = λ b facts sees.
    on_ok_weaker c.push.result (λ e. e ∙ ap (λ ls. c.args.lines.now ++ ls)
    (ap (λ (i : InstanceId). line.Members c.args.rel i c.in_ok-names.names ∷ []) c.in_ok-copy.ensures
    ∙ ap (λ o. line.Members c.args.rel c.args.inst.now o ∷ []) (c.in_ok-names.ensures ∙ ap (λ (m : Look). m.members c.args.rel c.args.inst.now) sees.look)
    ∙ ap (λ t. cond t (line.Members c.args.rel c.args.inst.now (facts.members c.args.rel c.args.inst.now) ∷ []) []) (sym c.if-is_found.true ∙ c.is_found.ensures))) c.push.ensures.ok

pub returns-else-is_found : goal.returns-else-is_found
returns-else-is_found g c = λ b facts sees. sym (append-nil c.args.lines.now) ∙ ap (λ t. c.args.lines.now ++ cond t (line.Members c.args.rel c.args.inst.now (facts.members c.args.rel c.args.inst.now) ∷ []) []) (sym c.if-is_found.false ∙ c.is_found.ensures)
