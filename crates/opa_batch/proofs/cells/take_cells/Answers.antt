use Rattle.std.proofs.Common.{◌<◌, ◌≤◌, ◌≡◌, ◌∙◌, true, false, is_some, length, sym, arith}
use Rattle.std.proofs.lemmas.List.{drop_all}
use Rattle.csv.specs.Records.{fields_of}
use Rattle.opa_io.proofs.Places.{drop_from}
use Rattle.opa_batch.proofs.AimLaws.{aim_at, aims_long}
use Rattle.opa_batch.proofs.CellLaws.{missing, way_begins, way_is_short, way_stops, way_goes_on}
use Rattle.opa_batch.proofs.CountLaws.{cells_begin, cells_are_done, cells_are_short, cells_stop, cells_go_on}
use Rattle.opa_batch.proofs.cells.take_cells.Goals as goal

pub loop-place-init : goal.loop-place-init
loop-place-init c = record {
  fits = c.requires.fits;
  way = way_begins c.args.base.now c.args.heads.now (fields_of c.args.row.now) c.args.case.now;
  counts = cells_begin c.args.base.now c.args.heads.now (fields_of c.args.row.now) c.args.case.now;
}

pub loop-place-preserved : goal.loop-place-preserved
loop-place-preserved c =
    let base = c.args.base.now in
    let cells = fields_of c.args.row.now in
    let place = c.loop-place.place in
    let held = c.loop-place.case in
    let lt : place < length c.args.heads.now = omega arith in
    let none : is_some c.in_ok-fault.fault ≡ false = sym c.is_some.ensures ∙ c.if-is_some.false in
    let there = drop_from c.args.heads.now place c.index-heads-place.result lt c.index-heads-place.is in
    record {
      fits = c.in_ok-fault.ensures.fits;
      way = way_goes_on base c.args.heads.now cells c.args.case.now place held c.loop-place.invariant.way c.index-heads-place.result c.in-Some.cell.now
          there c.in-Some.ensures.value c.take_cell.new.case c.in_ok-fault.fault none c.in_ok-fault.ensures.ok;
      counts = cells_go_on base c.args.heads.now cells c.args.case.now place held c.loop-place.invariant.counts c.index-heads-place.result c.in-Some.cell.now
          there c.in-Some.ensures.value c.take_cell.new.case c.loop-place.invariant.fits c.in_ok-fault.ensures.fits c.in_ok-fault.ensures.reaches c.in_ok-fault.fault none c.in_ok-fault.ensures.ok;
    }

pub returns-in_default-clause-ok : goal.returns-in_default-clause-ok
returns-in_default-clause-ok c =
    let cells = fields_of c.args.row.now in
    way_is_short c.args.base.now c.args.heads.now cells c.args.case.now c.loop-place.place c.loop-place.case c.loop-place.invariant.way
    (missing c.get.result cells c.loop-place.place c.in_default.is c.get.ensures.value)

pub returns-in_default-clause-reaches : goal.returns-in_default-clause-reaches
returns-in_default-clause-reaches c =
    let cells = fields_of c.args.row.now in
    cells_are_short c.args.base.now c.args.heads.now cells c.args.case.now c.loop-place.place c.loop-place.case c.loop-place.invariant.counts
    (missing c.get.result cells c.loop-place.place c.in_default.is c.get.ensures.value)

pub returns-then-is_some-clause-ok : goal.returns-then-is_some-clause-ok
returns-then-is_some-clause-ok c =
    let place = c.loop-place.place in
    let lt : place < length c.args.heads.now = omega arith in
    let some : is_some c.in_ok-fault.fault ≡ true = sym c.is_some.ensures ∙ c.if-is_some.true in
    way_stops c.args.base.now c.args.heads.now (fields_of c.args.row.now) c.args.case.now place c.loop-place.case c.loop-place.invariant.way c.index-heads-place.result c.in-Some.cell.now
    (drop_from c.args.heads.now place c.index-heads-place.result lt c.index-heads-place.is) c.in-Some.ensures.value c.take_cell.new.case c.in_ok-fault.fault some c.in_ok-fault.ensures.ok

pub returns-then-is_some-clause-reaches : goal.returns-then-is_some-clause-reaches
returns-then-is_some-clause-reaches c =
    let place = c.loop-place.place in
    let lt : place < length c.args.heads.now = omega arith in
    cells_stop c.args.base.now c.args.heads.now (fields_of c.args.row.now) c.args.case.now place c.loop-place.case c.loop-place.invariant.counts c.index-heads-place.result c.in-Some.cell.now
    (drop_from c.args.heads.now place c.index-heads-place.result lt c.index-heads-place.is) c.in-Some.ensures.value c.take_cell.new.case c.loop-place.invariant.fits c.in_ok-fault.ensures.fits c.in_ok-fault.ensures.reaches

pub returns-clause-reaches : goal.returns-clause-reaches
returns-clause-reaches c =
    let after : length c.args.heads.now ≤ c.loop-place.place = c.loop-place-test.false in
    cells_are_done c.args.base.now c.args.heads.now (fields_of c.args.row.now) c.args.case.now c.loop-place.place c.loop-place.case c.loop-place.invariant.counts
    (drop_all c.loop-place.place c.args.heads.now after)

pub take_cell-requires-clause-aimed : goal.take_cell-requires-clause-aimed
take_cell-requires-clause-aimed c =
    let m = c.args.base.now.model in
    let heads = c.args.heads.now in
    let aims = c.args.aims.now in
    let place = c.loop-place.place in
    let head = c.index-heads-place.result in
    let aim = c.index-aims-place.result in
    let lt : place < length heads = omega arith in
    aim_at m heads aims place head aim c.requires.aimed lt c.index-heads-place.is c.index-aims-place.is

pub bounds-aims-place : goal.bounds-aims-place
bounds-aims-place c =
    let lt : c.loop-place.place < length c.args.heads.now = omega arith in
    let long = aims_long c.args.base.now.model c.args.heads.now c.args.aims.now c.requires.aimed in
    omega (arith, lt, long)
