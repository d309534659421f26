use Rattle.std.proofs.Common.{◌≡◌, ◌∙◌, find, map, None, Some, sym, ap, subst}
use Rattle.std.specs.Option.{option_copied}
use Rattle.opa_line.proofs.Zipping.{ok_weaker}
use Rattle.opa_case.specs.Shapes.{shape_of}
use Rattle.opa_code.specs.Coding.{coded, is_for}
use Rattle.opa_code.specs.Rulebases.{rulebase_of}
use Rattle.opa_code.specs.Steps.{Leaves}
use Rattle.opa_code.proofs.Concluding.{code_none, code_found, none_derived, code_derived}
use Rattle.opa_code.proofs.derive.CodeDerive.evaluate.Goals as goal

pub returns-in-None : goal.returns-in-None
returns-in-None g c =
    let base = rulebase_of c.args.self.now in
    let s = shape_of base.model in
    let none : find (is_for c.args.attr) (map (coded s) base.rules) ≡ None = ap (find (is_for c.args.attr)) (sym c.args.self.now.compiled) ∙ (sym c.of.ensures ∙ ap option_copied c.in-None.is) in
    ok_weaker c.constant.result _ _ (λ line h. none_derived s (g.K.Look.looks c.args.look.now) c.args.attr c.args.inst.now base.rules line (code_none s c.args.attr base.rules none) h) c.constant.ensures.everywhere

pub returns-in_ok-lines-in-Some : goal.returns-in_ok-lines-in-Some
returns-in_ok-lines-in-Some g c =
    let base = rulebase_of c.args.self.now in
    let s = shape_of base.model in
    let l = g.K.Look.looks c.args.look.now in
    let code = c.in-Some.code.now in
    let some : find (is_for c.args.attr) (map (coded s) base.rules) ≡ Some code = ap (find (is_for c.args.attr)) (sym c.args.self.now.compiled) ∙ (sym c.of.ensures ∙ ap option_copied c.in-Some.is) in
    let found = code_found s c.args.attr base.rules code some in
    let at_inst = c.from_ref-enclosing.ensures.value in
    let left = subst (λ e. Leaves l e code.nodes c.in_ok-lines-in-Some.lines.items) at_inst (subst (λ ns. Leaves l c.from_ref-enclosing.result.now ns c.in_ok-lines-in-Some.lines.items) c.as_slice.ensures c.in_ok-lines-in-Some.ensures) in
    ok_weaker c.concluded_line.result _ _ (λ line h. code_derived s l c.args.attr c.args.inst.now base.rules code c.in_ok-lines-in-Some.lines.items line base.formed found left h) c.concluded_line.ensures
