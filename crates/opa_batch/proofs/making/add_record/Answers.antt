use Rattle.std.proofs.Common.{arith, subst}
use Rattle.std.specs.Prelude.{◌+◌, Some}
use Rattle.csv.specs.Records.{Row, fields_of}
use Rattle.opa_session.specs.Infer.Sessions.{rules_of}
use Rattle.opa_batch.specs.Counting.{CountsAtMost, RecordReaches, due}
use Rattle.opa_batch.specs.Gathered.{AddsRow}
use Rattle.opa_batch.proofs.CountLaws.{not_determined}
use Rattle.opa_batch.proofs.KeptLaws.{row_stays, was_known, writer_stays}
use Rattle.opa_batch.proofs.making.add_record.Goals as goal

pub add_known-requires : goal.add_known-requires
add_known-requires g c = rw c.as_slice.ensures.value (omega (arith, c.slot_of-slot.ensures, c.requires.slots))

pub add_decided-requires-clause-slot : goal.add_decided-requires-clause-slot
add_decided-requires-clause-slot g c = omega (arith, c.slot_of-slot.ensures, c.requires.slots)

pub returns-in_err-found-clause-counts : goal.returns-in_err-found-clause-counts
returns-in_err-found-clause-counts g c = let r = rules_of c.args.session.now in not_determined r c.args.heads.now (fields_of c.args.row.now) c.args.steps.now (due r c.args.place)

pub returns-then-found-clause-counts : goal.returns-then-found-clause-counts
returns-then-found-clause-counts g c = let r = rules_of c.args.session.now in not_determined r c.args.heads.now (fields_of c.args.row.now) c.args.steps.now (due r c.args.place)

pub returns-then-found-clause-ok : goal.returns-then-found-clause-ok
returns-then-found-clause-ok g c =
    was_known (λ v. Some v.items) c.args.kept.now.items c.args.out.now c.add_known.new.out c.args.row.now c.add_known.new.row (c.args.place + 1) c.in_ok-found.found c.if-found.true (rw c.as_slice.ensures.value at c.in_ok-found.ensures)
    (rules_of c.args.session.now) c.args.heads.now c.requires.kept

pub returns-clause-ok : goal.returns-clause-ok
returns-clause-ok g c =
    let r = rules_of c.args.session.now in
    let row = row_stays (λ v. Some v.items) c.as_slice.result.now c.args.out.now c.add_known.new.out c.args.row.now c.add_known.new.row (c.args.place + 1) c.in_ok-found.found c.if-found.false c.in_ok-found.ensures in
    let out = writer_stays (λ v. Some v.items) c.as_slice.result.now c.args.out.now c.add_known.new.out c.args.row.now c.add_known.new.row (c.args.place + 1) c.in_ok-found.found c.if-found.false c.in_ok-found.ensures in
    subst (λ w. AddsRow (λ v. Some v.items) w c.add_decided.new.out r c.args.heads.now (c.args.place + 1) (fields_of c.args.row.now)) out
    (subst (λ (k : Row). AddsRow (λ v. Some v.items) c.add_known.new.out c.add_decided.new.out r c.args.heads.now (c.args.place + 1) (fields_of k)) row c.in_ok-add_decided.ensures.ok)

pub returns-clause-kept : goal.returns-clause-kept
returns-clause-kept g c = c.in_ok-add_decided.ensures.kept c.requires.kept

pub returns-clause-slots : goal.returns-clause-slots
returns-clause-slots g c = omega (arith, c.in_ok-add_decided.ensures.slots, c.requires.slots)

pub returns-in_err-add_decided-clause-counts : goal.returns-in_err-add_decided-clause-counts
returns-in_err-add_decided-clause-counts g c =
    let r = rules_of c.args.session.now in
    let row = row_stays (λ v. Some v.items) c.as_slice.result.now c.args.out.now c.add_known.new.out c.args.row.now c.add_known.new.row (c.args.place + 1) c.in_ok-found.found c.if-found.false c.in_ok-found.ensures in
    subst (λ (k : Row). CountsAtMost (RecordReaches r c.args.heads.now (fields_of k)) (c.args.steps.now + due r c.args.place) c.add_decided.new.steps) row c.in_err-add_decided.ensures.counts

pub returns-clause-counts : goal.returns-clause-counts
returns-clause-counts g c =
    let r = rules_of c.args.session.now in
    let row = row_stays (λ v. Some v.items) c.as_slice.result.now c.args.out.now c.add_known.new.out c.args.row.now c.add_known.new.row (c.args.place + 1) c.in_ok-found.found c.if-found.false c.in_ok-found.ensures in
    subst (λ (k : Row). CountsAtMost (RecordReaches r c.args.heads.now (fields_of k)) (c.args.steps.now + due r c.args.place) c.add_decided.new.steps) row c.in_ok-add_decided.ensures.counts
