use Rattle.std.proofs.Common.{length, refl, ap, ◌+◌, ℕ}
use Rattle.opa_mean.specs.Reached.Settling.{shift, left, reached}
use Rattle.opa_mean.proofs.reached.Beginning.{begins}
use Rattle.opa_mean.proofs.reached.Counting.{all_left}
use Rattle.opa_mean.proofs.reached.Ending.{laid_are_current}
use Rattle.opa_session.specs.Settlement.Tasks.{slots_of}
use Rattle.opa_session.proofs.settlement.Settles.{all_settled, current_still, stand_first, all_counted, some_counted, some_left, first_listed, all_listed}
use Rattle.opa_session.specs.Store.Stores.{kept_of, staged_of}
use Rattle.opa_session.proofs.settlement.settling.settle.Goals as goal

pub loop-task-init : goal.loop-task-init
loop-task-init g c =
    let s = shift c.args.base.now c.args.held.now (g.N.Next.next c.args.next.now) in
    record {
      kept = λ a i. refl;
      ranked = c.requires.ranked;
      settling = begins s (slots_of c.args.tasks) c.requires.begun (staged_of c.args.store.now) c.nothing_staged.ensures;
      before = stand_first c.args.base.now c.args.store.now.slots c.requires.empty (slots_of c.args.tasks);
      listed = first_listed c.args.store.now.slots c.requires.empty (left s (staged_of c.args.store.now)) (reached s) (all_left s (staged_of c.args.store.now) c.nothing_staged.ensures);
      counted = ap (λ (n : ℕ). c.args.steps.now + n) (all_left s (staged_of c.args.store.now) c.nothing_staged.ensures);
    }

pub returns-in_err-settle_one-clause-bound : goal.returns-in_err-settle_one-clause-bound
returns-in_err-settle_one-clause-bound g c =
    let s = shift c.args.base.now c.args.held.now (g.N.Next.next c.args.next.now) in
    some_left c.settle_one.new.steps (left s (staged_of c.settle_one.new.store)) c.loop-task.steps (left s (staged_of c.loop-task.store)) c.args.steps.now (reached s) c.in_err-settle_one.ensures.counted c.loop-task.invariant.counted

pub returns-clause-settled : goal.returns-clause-settled
returns-clause-settled g c =
    let s = shift c.args.base.now c.args.held.now (g.N.Next.next c.args.next.now) in
    (all_settled s (kept_of c.args.store.now) (g.R.Readers.readers c.args.readers.now) c.requires.can (staged_of c.loop-task.store) c.loop-task.tasks c.in_default.ensures.taken.0 c.loop-task.invariant.settling).0

pub returns-clause-current : goal.returns-clause-current
returns-clause-current g c =
    let s = shift c.args.base.now c.args.held.now (g.N.Next.next c.args.next.now) in
    laid_are_current s c.requires.can.is (kept_of c.loop-task.store) (staged_of c.loop-task.store)
    (current_still c.args.base.now c.args.held.now (kept_of c.args.store.now) (kept_of c.loop-task.store) c.loop-task.invariant.kept c.requires.can.current)
    (all_settled s (kept_of c.args.store.now) (g.R.Readers.readers c.args.readers.now) c.requires.can (staged_of c.loop-task.store) c.loop-task.tasks c.in_default.ensures.taken.0 c.loop-task.invariant.settling).0

pub returns-clause-counted : goal.returns-clause-counted
returns-clause-counted g c =
    let s = shift c.args.base.now c.args.held.now (g.N.Next.next c.args.next.now) in
    all_counted c.loop-task.steps (left s (staged_of c.loop-task.store)) c.args.steps.now (reached s) (reached s) c.loop-task.invariant.counted
    (all_settled s (kept_of c.args.store.now) (g.R.Readers.readers c.args.readers.now) c.requires.can (staged_of c.loop-task.store) c.loop-task.tasks c.in_default.ensures.taken.0 c.loop-task.invariant.settling).1 refl

pub returns-clause-bound : goal.returns-clause-bound
returns-clause-bound g c =
    let s = shift c.args.base.now c.args.held.now (g.N.Next.next c.args.next.now) in
    some_counted c.loop-task.steps (left s (staged_of c.loop-task.store)) c.args.steps.now (reached s) (reached s) c.loop-task.invariant.counted refl

pub returns-clause-dirty : goal.returns-clause-dirty
returns-clause-dirty g c =
    let s = shift c.args.base.now c.args.held.now (g.N.Next.next c.args.next.now) in
    all_listed (length c.loop-task.store.slots) (left s (staged_of c.loop-task.store)) (reached s) c.loop-task.invariant.listed
    (all_settled s (kept_of c.args.store.now) (g.R.Readers.readers c.args.readers.now) c.requires.can (staged_of c.loop-task.store) c.loop-task.tasks c.in_default.ensures.taken.0 c.loop-task.invariant.settling).1
