use Rattle.std.proofs.Common.{◌↔◌, ◌∷◌, [], IsTrue, Contains, sym, subst}
use Rattle.opa_line.proofs.Zipping.{ok_weaker}
use Rattle.opa_tree.proofs.Members.{contains_head}
use Rattle.opa_mean.specs.Given.{base_of}
use Rattle.opa_report.specs.declared.lines.ReportLine.TheVariants as line
use Rattle.opa_verify.specs.Support.Ledgers.{told_listing}
use Rattle.opa_verify.specs.Support.Proofs.{IsHeldUp}
use Rattle.opa_verify.proofs.support.faults.is_held_up.Goals as goal

pub returns-in-Point-clause-held : goal.returns-in-Point-clause-held
returns-in-Point-clause-held c =
    ok_weaker c.is_point_held_up.result _ _ (λ x h. subst (λ l. IsTrue x ↔ IsHeldUp (base_of c.args.base.now) (told_listing c.args.told.now) l) (sym c.in-Point.is) h) c.is_point_held_up.ensures.held

pub is_point_held_up-requires-clause-order : goal.is_point_held_up-requires-clause-order
is_point_held_up-requires-clause-order c =
    let p = line.Point c.in-Point.attr c.in-Point.inst c.in-Point.first c.in-Point.last c.in-Point.value in
    (c.requires.days c.in-Point.attr c.in-Point.inst c.in-Point.first c.in-Point.last c.in-Point.value (subst (λ l. Contains (l ∷ []) p) (sym c.in-Point.is) (contains_head p []))).0

pub is_point_held_up-requires-clause-within : goal.is_point_held_up-requires-clause-within
is_point_held_up-requires-clause-within c =
    let p = line.Point c.in-Point.attr c.in-Point.inst c.in-Point.first c.in-Point.last c.in-Point.value in
    (c.requires.days c.in-Point.attr c.in-Point.inst c.in-Point.first c.in-Point.last c.in-Point.value (subst (λ l. Contains (l ∷ []) p) (sym c.in-Point.is) (contains_head p []))).1
