use Rattle.std.proofs.Common.{refl, subst}
use Rattle.std.specs.Prelude.{MatchOption, ⊤}
use Rattle.opa_code.specs.Keeping.{AreNoted}
use Rattle.opa_code.proofs.Keeping.{noted_new}
use Rattle.opa_code.proofs.kept.new_line.Goals as goal

pub returns : goal.returns
returns g c =
    let l = g.K.Look.looks c.args.look.now in let enclosing = c.args.enclosing.now in
    noted_new l enclosing c.args.source c.args.target c.args.operand.now c.args.position c.args.line.now c.new-owners.result c.add_over.new.owners
    (record { position = c.args.position; spots = c.in-Some.spots; line = c.in_ok-copied-in-Some.copied }) refl c.in_ok-copied-in-Some.ensures c.in_ok-add_over.ensures
    (subst (λ os. AreNoted l enclosing os c.in-Some.spots) c.as_slice-2.ensures (subst (λ o. MatchOption o ⊤ (AreNoted l enclosing c.as_slice-2.result.now)) c.in-Some.is c.in_ok-spots_of.ensures))
