use Rattle.std.proofs.Common.{refl}
use Rattle.std.specs.Prelude.{Some}
use Rattle.csv.specs.Records.{fields_of}
use Rattle.opa_batch.specs.Cutting.{below}
use Rattle.opa_batch.proofs.CountLaws.{unchanged}
use Rattle.opa_batch.proofs.CutLaws.{at_end, at_next}
use Rattle.opa_batch.proofs.MakingLaws.{without_rows}
use Rattle.opa_batch.proofs.making.with_rows.Goals as goal

pub returns-in_default-clause-counts : goal.returns-in_default-clause-counts
returns-in_default-clause-counts g c = unchanged c.args.base c.args.heads.now (below c.args.bytes.now) c.args.steps.now c.args.steps.now refl

pub returns-then-not-found-clause-rows : goal.returns-then-not-found-clause-rows
returns-then-not-found-clause-rows g c =
    let none = at_end c.args.bytes.now c.args.reader.now c.cut_next.new.reader (fields_of c.cut_next.new.row) 0 c.requires.left c.in-Ok.found c.if-not-found.true c.in-Ok.ensures in
    without_rows (λ v. Some v.items) c.args.out.now c.args.base c.args.heads.now (below c.args.bytes.now) none

pub returns-then-not-found-clause-counts : goal.returns-then-not-found-clause-counts
returns-then-not-found-clause-counts g c = unchanged c.args.base c.args.heads.now (below c.args.bytes.now) c.args.steps.now c.args.steps.now refl

pub determined-requires : goal.determined-requires
determined-requires g c = record {
  at = at_next c.args.bytes.now c.args.reader.now c.cut_next.new.reader (fields_of c.cut_next.new.row) 0 c.requires.left c.in-Ok.found c.if-not-found.false c.in-Ok.ensures;
}
