use Rattle.std.proofs.Common.{subst}
use Rattle.std.specs.Prelude.{MatchOption, ⊤}
use Rattle.std.proofs.lemmas.Result.{on_ok_weaker}
use Rattle.opa_code.specs.Keeping.{IsNew}
use Rattle.opa_code.proofs.Keeping.{new_right}
use Rattle.opa_code.proofs.kept.keep.Goals as goal

pub returns-in-Some-made : goal.returns-in-Some-made
returns-in-Some-made g c =
    let l = g.K.Look.looks c.args.look.now in let e = c.args.enclosing.now in let operand = c.args.operand.now in let line = c.args.line.now in
    let new : IsNew l e c.args.source c.args.target operand c.args.position line c.in-Some-made.new = subst (λ o. MatchOption o ⊤ (IsNew l e c.args.source c.args.target operand c.args.position line)) c.in-Some-made.is c.in_ok-made-in-Some.ensures in
    on_ok_weaker c.put.result (λ h nodes q r count after at operand_is over right. h l nodes right (new_right l e c.args.source c.args.target operand c.args.position line c.in-Some-made.new new nodes q r count after at operand_is over)) c.put.ensures
