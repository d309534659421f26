use Rattle.std.proofs.Common.{refl}
use Rattle.std.specs.Prelude.{◌+◌, Some}
use Rattle.csv.specs.Records.{fields_of}
use Rattle.opa_session.specs.Infer.Sessions.{rules_of, held_of}
use Rattle.opa_batch.specs.Numbered.{left_by}
use Rattle.opa_batch.specs.Rows.{row_of}
use Rattle.opa_batch.proofs.CountLaws.{record_is_due}
use Rattle.opa_batch.proofs.KeptLaws.{row_of_record}
use Rattle.opa_batch.proofs.MakingLaws.{row_is_added}
use Rattle.opa_batch.proofs.making.add_decided.Goals as goal

pub returns-clause-ok : goal.returns-clause-ok
returns-clause-ok g c =
    let r = rules_of c.args.session.now in
    let taken = c.take_record.new.session in
    let x = left_by c.in_ok-fault.fault (held_of taken) in
    row_is_added (λ v. Some v.items) c.args.out.now c.add_kept.new.out r r (rules_of taken) c.args.heads.now (c.args.place + 1) (fields_of c.args.row.now) (row_of (rules_of taken) (c.args.place + 1) x) x
    refl c.in_ok-fault.ensures.base c.in_ok-fault.ensures.ok refl c.in_ok-add_kept.ensures.adds

pub returns-clause-kept : goal.returns-clause-kept
returns-clause-kept g c =
    let r = rules_of c.args.session.now in
    let taken = c.take_record.new.session in
    let x = left_by c.in_ok-fault.fault (held_of taken) in
    let is = row_of_record r r (rules_of taken) c.args.heads.now (c.args.place + 1) (fields_of c.args.row.now) (row_of (rules_of taken) (c.args.place + 1) x) x refl c.in_ok-fault.ensures.base
    c.in_ok-fault.ensures.ok refl in
    λ are. c.in_ok-add_kept.ensures.keeps.of r c.args.heads.now are is

pub returns-in_err-fault-clause-counts : goal.returns-in_err-fault-clause-counts
returns-in_err-fault-clause-counts g c =
    record_is_due (rules_of c.args.session.now) c.args.heads.now (fields_of c.args.row.now) (held_of c.args.session.now) c.args.place c.args.steps.now c.take_record.new.steps c.requires.first c.in_err-fault.ensures.counts

pub returns-in_err-add_kept-clause-counts : goal.returns-in_err-add_kept-clause-counts
returns-in_err-add_kept-clause-counts g c =
    record_is_due (rules_of c.args.session.now) c.args.heads.now (fields_of c.args.row.now) (held_of c.args.session.now) c.args.place c.args.steps.now c.take_record.new.steps c.requires.first c.in_ok-fault.ensures.counts

pub returns-clause-counts : goal.returns-clause-counts
returns-clause-counts g c =
    record_is_due (rules_of c.args.session.now) c.args.heads.now (fields_of c.args.row.now) (held_of c.args.session.now) c.args.place c.args.steps.now c.take_record.new.steps c.requires.first c.in_ok-fault.ensures.counts
