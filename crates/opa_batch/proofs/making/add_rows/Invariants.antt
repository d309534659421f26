use Rattle.std.proofs.Common.{◌≡◌, ◌<◌, length}
use Rattle.std.specs.Prelude.{Some}
use Rattle.csv.specs.Records.{fields_of}
use Rattle.opa_case.specs.Cases.{no_case}
use Rattle.opa_session.specs.Infer.Sessions.{rules_of, held_of}
use Rattle.opa_batch.specs.Cutting.{IsAt, below}
use Rattle.opa_batch.specs.Gathered.{AddsRowsTo}
use Rattle.opa_batch.specs.Known.{AreKept}
use Rattle.opa_batch.specs.Numbered.{CountsRecords}
use Rattle.opa_batch.proofs.making.add_rows.Given as goal

-- the rows of the records before were added, and the record at this place was cut
abbrev pub invariant-loop-place : goal.invariant-loop-place
invariant-loop-place g l = record {
  base : rules_of l.session ≡ rules_of l.fn.session;
  first : l.place ≡ 0 → held_of l.session ≡ no_case;
  at : IsAt l.bytes l.place (fields_of l.row) l.reader;
  kept : AreKept (rules_of l.session) l.heads l.kept.items;
  slots : 0 < length l.kept.items;
  rows : AddsRowsTo (λ v. Some v.items) l.fn.out l.out (rules_of l.fn.session) l.heads (below l.bytes) l.place;
  counts : CountsRecords (rules_of l.fn.session) l.heads (below l.bytes) l.place l.fn.steps l.steps;
}
