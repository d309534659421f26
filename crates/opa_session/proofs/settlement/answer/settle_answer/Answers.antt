use Rattle.std.proofs.Common.{refl}
use Rattle.std.specs.Option.{option_copied}
use Rattle.opa_mean.specs.Reached.Settling.{IsShift, shift}
use Rattle.opa_mean.proofs.reached.Ending.{laid_stay_current}
use Rattle.opa_mean.proofs.reached.ListsBegin.{new_can_tell}
use Rattle.opa_session.proofs.settlement.Answered.{still_readers}
use Rattle.opa_session.proofs.settlement.Settles.{current_still}
use Rattle.opa_session.specs.Store.Nexts.{case_with}
use Rattle.opa_session.specs.Store.Stores.{kept_of, staged_of}
use Rattle.opa_session.proofs.settlement.answer.settle_answer.Goals as goal

pub settle-requires-clause-can : goal.settle-requires-clause-can
settle-requires-clause-can g c =
    let next = c.args.next.now in
    let is : IsShift (shift c.args.base.now next.case.now (case_with next)) = record { before = c.requires.before; after = c.requires.after } in
    let then = still_readers c.args.base.now next.case.now next.attr next.inst.now (option_copied next.line) (g.R.Readers.readers c.args.readers.now) c.requires.readers in
    record {
      is = is;
      kinds = c.requires.kinds;
      current = c.requires.current;
      tell = new_can_tell (shift c.args.base.now next.case.now (case_with next)) is (g.R.Readers.readers c.args.readers.now) then;
    }

pub returns-clause-current : goal.returns-clause-current
returns-clause-current g c =
    laid_stay_current (shift c.args.base.now c.args.next.now.case.now (case_with c.args.next.now)) (record { before = c.requires.before; after = c.requires.after }) refl (kept_of c.settle.new.store) (staged_of c.settle.new.store)
    (current_still c.args.base.now c.args.next.now.case.now (kept_of c.args.store.now) (kept_of c.settle.new.store) c.in_ok-settle.ensures.kept c.requires.current) c.in_ok-settle.ensures.settled
