use Rattle.std.proofs.Common.{sym, ap, ◌∙◌, arith, ◌||◌}
use Rattle.std.specs.List.{list_any}
use Rattle.opa_cells.specs.Instances.{is_text}
use Rattle.opa_case.specs.Homes.{has_name}
use Rattle.opa_case.proofs.Naming.{from_place, bad_at, good_at}
use Rattle.opa_case.proofs.list_faults.are_many_names.Goals as goal

pub returns-then-not-is_new : goal.returns-then-not-is_new
returns-then-not-is_new c =
    let x = c.index-names-at.result in
    let names = c.args.names.now in
    let at = c.loop-at.at in
    let split = from_place names at x c.loop-at-test.true (omega (arith, c.loop-at-test.true, c.loop-at.invariant.within)) c.index-names-at.is in
    bad_at names at x (has_name c.loop-at.later x) split (c.loop-at.invariant.later x) (sym c.is_new.ensures ∙ c.if-not-is_new.true)

pub loop-at-preserved : goal.loop-at-preserved
loop-at-preserved c =
    let x = c.index-names-at.result in
    let names = c.args.names.now in
    let at = c.loop-at.at in
    let split = from_place names at x c.loop-at-test.true (omega (arith, c.loop-at-test.true, c.loop-at.invariant.within)) c.index-names-at.is in
    record {
      later = λ q. c.in_ok-add_name.ensures q ∙ ap (λ b. is_text q x || b) (c.loop-at.invariant.later q) ∙ ap (list_any (is_text q)) (sym split);
      are = good_at names at x (has_name c.loop-at.later x) split (c.loop-at.invariant.later x) (sym c.is_new.ensures ∙ c.if-not-is_new.false) c.loop-at.invariant.are;
      within = omega (arith, c.loop-at.invariant.within);
    }
