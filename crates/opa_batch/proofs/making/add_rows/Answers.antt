use Rattle.std.proofs.Common.{◌≤◌, ◌+◌, length, refl, sym, ◌∙◌, subst, arith}
use Rattle.std.specs.Prelude.{Some}
use Rattle.csv.specs.Records.{fields_of}
use Rattle.opa_tree.specs.declared.rulebase.Rulebase.{Rulebase}
use Rattle.opa_session.specs.Infer.Sessions.{first_slots, rules_of}
use Rattle.opa_batch.specs.Aims.{AreAimed}
use Rattle.opa_batch.specs.Counting.{CountsAtMost, RecordReaches, due}
use Rattle.opa_batch.specs.Cutting.{below}
use Rattle.opa_batch.specs.Gathered.{AddsRow}
use Rattle.opa_batch.specs.Known.{AreKept}
use Rattle.opa_batch.proofs.CountLaws.{records_begin, records_go_on, records_stop, started}
use Rattle.opa_batch.proofs.CutLaws.{at_end, at_next, not_past, some_below}
use Rattle.opa_batch.proofs.MakingLaws.{no_row_yet, row_on_top, rows_are_whole}
use Rattle.opa_batch.proofs.making.add_rows.Goals as goal

pub loop-place-init : goal.loop-place-init
loop-place-init g c = record {
  base = refl;
  first = λ _. c.requires.first;
  at = c.requires.at;
  kept = c.in_ok-kept.ensures.none.of (rules_of c.args.session.now) c.args.heads.now;
  slots = c.in_ok-kept.ensures.slots;
  rows = no_row_yet (λ v. Some v.items) c.args.out.now (rules_of c.args.session.now) c.args.heads.now (below c.args.bytes.now);
  counts = records_begin (rules_of c.args.session.now) c.args.heads.now (below c.args.bytes.now) c.args.steps.now;
}

pub loop-place-preserved : goal.loop-place-preserved
loop-place-preserved g c =
    let r = rules_of c.args.session.now in
    let records = below c.args.bytes.now in
    let place = c.loop-place.place in
    let fields = fields_of c.loop-place.row in
    record {
      base = c.in_ok-add_record.ensures.base ∙ c.loop-place.invariant.base;
      first = λ e. absurd (omega (arith, e));
      at = at_next c.args.bytes.now c.loop-place.reader c.cut_next.new.reader (fields_of c.cut_next.new.row) (place + 1) c.loop-place.invariant.at.has_left c.in_ok-found.found c.if-not-found.false c.in_ok-found.ensures;
      kept = subst (λ (b : Rulebase). AreKept b c.args.heads.now c.add_record.new.kept.items) (sym c.in_ok-add_record.ensures.base) c.in_ok-add_record.ensures.kept;
      slots = c.in_ok-add_record.ensures.slots;
      rows = row_on_top (λ v. Some v.items) c.args.out.now r c.args.heads.now records place fields c.loop-place.out c.add_record.new.out c.loop-place.invariant.at.here c.loop-place.invariant.rows
          (subst (λ (b : Rulebase). AddsRow (λ v. Some v.items) c.loop-place.out c.add_record.new.out b c.args.heads.now (place + 1) fields) c.loop-place.invariant.base c.in_ok-add_record.ensures.ok);
      counts = records_go_on r c.args.heads.now records c.args.steps.now place c.loop-place.steps c.loop-place.invariant.counts fields c.add_record.new.steps c.loop-place.invariant.at.here
          (subst (λ (b : Rulebase). CountsAtMost (RecordReaches b c.args.heads.now fields) (c.loop-place.steps + due b place) c.add_record.new.steps) c.loop-place.invariant.base c.in_ok-add_record.ensures.counts);
    }

pub returns-then-not-found-clause-rows : goal.returns-then-not-found-clause-rows
returns-then-not-found-clause-rows g c =
    let r = rules_of c.args.session.now in
    let records = below c.args.bytes.now in
    let place = c.loop-place.place in
    let fields = fields_of c.loop-place.row in
    rows_are_whole (λ v. Some v.items) c.args.out.now r c.args.heads.now records (place + 1) c.add_record.new.out (at_end c.args.bytes.now c.loop-place.reader c.cut_next.new.reader (fields_of c.cut_next.new.row) (place + 1) c.loop-place.invariant.at.has_left c.in_ok-found.found c.if-not-found.true c.in_ok-found.ensures)
    (row_on_top (λ v. Some v.items) c.args.out.now r c.args.heads.now records place fields c.loop-place.out c.add_record.new.out c.loop-place.invariant.at.here c.loop-place.invariant.rows
    (subst (λ (b : Rulebase). AddsRow (λ v. Some v.items) c.loop-place.out c.add_record.new.out b c.args.heads.now (place + 1) fields) c.loop-place.invariant.base c.in_ok-add_record.ensures.ok))

pub returns-clause-rows : goal.returns-clause-rows
returns-clause-rows g c =
    let past : length c.args.bytes.now ≤ c.loop-place.place = c.loop-place-test.false in
    absurd (not_past c.args.bytes.now c.loop-place.place (fields_of c.loop-place.row) c.loop-place.reader c.loop-place.invariant.at past)

pub returns-in_err-add_record-clause-counts : goal.returns-in_err-add_record-clause-counts
returns-in_err-add_record-clause-counts g c =
    let r = rules_of c.args.session.now in
    let records = below c.args.bytes.now in
    let place = c.loop-place.place in
    let fields = fields_of c.loop-place.row in
    records_stop r c.args.heads.now records c.args.steps.now place c.loop-place.steps c.loop-place.invariant.counts fields c.add_record.new.steps c.loop-place.invariant.at.here
    (subst (λ (b : Rulebase). CountsAtMost (RecordReaches b c.args.heads.now fields) (c.loop-place.steps + due b place) c.add_record.new.steps) c.loop-place.invariant.base c.in_err-add_record.ensures.counts)

pub returns-in_err-found-clause-counts : goal.returns-in_err-found-clause-counts
returns-in_err-found-clause-counts g c =
    let r = rules_of c.args.session.now in
    let records = below c.args.bytes.now in
    let place = c.loop-place.place in
    let fields = fields_of c.loop-place.row in
    records_stop r c.args.heads.now records c.args.steps.now place c.loop-place.steps c.loop-place.invariant.counts fields c.add_record.new.steps c.loop-place.invariant.at.here
    (subst (λ (b : Rulebase). CountsAtMost (RecordReaches b c.args.heads.now fields) (c.loop-place.steps + due b place) c.add_record.new.steps) c.loop-place.invariant.base c.in_ok-add_record.ensures.counts)

pub returns-then-not-found-clause-counts : goal.returns-then-not-found-clause-counts
returns-then-not-found-clause-counts g c =
    let r = rules_of c.args.session.now in
    let records = below c.args.bytes.now in
    let place = c.loop-place.place in
    let fields = fields_of c.loop-place.row in
    records_stop r c.args.heads.now records c.args.steps.now place c.loop-place.steps c.loop-place.invariant.counts fields c.add_record.new.steps c.loop-place.invariant.at.here
    (subst (λ (b : Rulebase). CountsAtMost (RecordReaches b c.args.heads.now fields) (c.loop-place.steps + due b place) c.add_record.new.steps) c.loop-place.invariant.base c.in_ok-add_record.ensures.counts)

pub returns-clause-counts : goal.returns-clause-counts
returns-clause-counts g c =
    let past : length c.args.bytes.now ≤ c.loop-place.place = c.loop-place-test.false in
    absurd (not_past c.args.bytes.now c.loop-place.place (fields_of c.loop-place.row) c.loop-place.reader c.loop-place.invariant.at past)

pub returns-in_err-kept-clause-counts : goal.returns-in_err-kept-clause-counts
returns-in_err-kept-clause-counts g c =
    let r = rules_of c.args.session.now in
    let some = some_below c.args.bytes.now (fields_of c.args.row.now) c.args.reader.now c.requires.at in
    started r c.args.heads.now (below c.args.bytes.now) c.args.steps.now (c.args.steps.now + first_slots r) some (omega arith)

pub add_record-requires-clause-aimed : goal.add_record-requires-clause-aimed
add_record-requires-clause-aimed g c = subst (λ (b : Rulebase). AreAimed b.model c.args.heads.now c.args.aims.now) (sym c.loop-place.invariant.base) c.requires.aimed
