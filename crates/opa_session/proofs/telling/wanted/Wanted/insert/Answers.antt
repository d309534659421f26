use Rattle.std.proofs.Common.{ap, ◌∙◌, Some, cond}
use Rattle.std.specs.Prelude.{is_some}
use Rattle.std.specs.BTreeMap as tree
use Rattle.std.specs.Ordering.{nat_cmp, is_eq}
use Rattle.std.specs.Cmp.Lexicographic.{slice_cmp}
use Rattle.opa_case.proofs.Naming.{added}
use Rattle.opa_session.proofs.telling.Upward.{inserted}
use Rattle.opa_session.proofs.telling.wanted.Wanted.insert.Goals as goal

pub returns : goal.returns
returns c i =
    let x = c.args.inst.now in
    inserted x c.args.self.now c.take_names-names.new.self (record { names = c.insert-2.new.self }) c.take_names-names.result c.insert.new.self c.take_names-names.ensures.taken c.take_names-names.ensures.others
    (λ n.
    let o = tree.get (slice_cmp nat_cmp) c.take_names-names.result n in
    ap is_some (c.in_ok-insert.ensures.updates.0 n) ∙ ap (λ k. is_some (cond (is_eq (slice_cmp nat_cmp k n)) (Some tt) o)) c.in_ok-name.ensures ∙ added x.name n tt o)
    (λ q. c.in_ok-insert-2.ensures.updates.0 q) i
