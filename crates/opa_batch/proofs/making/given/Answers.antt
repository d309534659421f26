use Rattle.std.proofs.Common.{List, ℕ, refl, sym, subst}
use Rattle.csv.specs.Records.{fields_of}
use Rattle.opa_parse.specs.Tables.Records.{table_records}
use Rattle.opa_batch.specs.Batches.{GivesOf}
use Rattle.opa_batch.specs.Counting.{MayCount}
use Rattle.opa_batch.proofs.CountLaws.{uncounted}
use Rattle.opa_batch.proofs.CutLaws.{with_heading, without_records}
use Rattle.opa_batch.proofs.making.given.Goals as goal

pub returns-in_default-clause-counts : goal.returns-in_default-clause-counts
returns-in_default-clause-counts g c = uncounted c.args.base (table_records c.args.bytes.now) c.args.steps.now c.args.steps.now refl

pub returns-in_err-made-clause-counts : goal.returns-in_err-made-clause-counts
returns-in_err-made-clause-counts g c = uncounted c.args.base (table_records c.args.bytes.now) c.args.steps.now c.args.steps.now refl

pub returns-then-not-found-clause-counts : goal.returns-then-not-found-clause-counts
returns-then-not-found-clause-counts g c = uncounted c.args.base (table_records c.args.bytes.now) c.args.steps.now c.args.steps.now refl

pub returns-then-not-found-clause-gives : goal.returns-then-not-found-clause-gives
returns-then-not-found-clause-gives g c =
    let none = without_records c.args.bytes.now c.args.reader.now c.cut_next.new.reader (fields_of c.cut_next.new.row) c.requires.left c.in-Ok.found c.if-not-found.true c.in-Ok.ensures in
    subst (λ (rs : List (List (List ℕ))). GivesOf c.args.base rs c.in_ok-made.made.good c.in_ok-made.made.text.items) (sym none) (c.in_ok-made.ensures.good, c.in_ok-made.ensures.text)

pub returns-clause-gives : goal.returns-clause-gives
returns-clause-gives g c =
    let all = with_heading c.args.bytes.now c.args.reader.now c.cut_next.new.reader (fields_of c.cut_next.new.row) c.requires.left c.in-Ok.found c.if-not-found.false c.in-Ok.ensures in
    subst (λ (rs : List (List (List ℕ))). GivesOf c.args.base rs c.in_ok-made-2.made.good c.in_ok-made-2.made.text.items) (sym all) c.in_ok-made-2.ensures.gives

pub returns-in_err-made-2-clause-counts : goal.returns-in_err-made-2-clause-counts
returns-in_err-made-2-clause-counts g c =
    let all = with_heading c.args.bytes.now c.args.reader.now c.cut_next.new.reader (fields_of c.cut_next.new.row) c.requires.left c.in-Ok.found c.if-not-found.false c.in-Ok.ensures in
    subst (λ (rs : List (List (List ℕ))). MayCount c.args.base rs c.args.steps.now c.headed.new.steps) (sym all) c.in_err-made-2.ensures.counts

pub returns-clause-counts : goal.returns-clause-counts
returns-clause-counts g c =
    let all = with_heading c.args.bytes.now c.args.reader.now c.cut_next.new.reader (fields_of c.cut_next.new.row) c.requires.left c.in-Ok.found c.if-not-found.false c.in-Ok.ensures in
    subst (λ (rs : List (List (List ℕ))). MayCount c.args.base rs c.args.steps.now c.headed.new.steps) (sym all) c.in_ok-made-2.ensures.counts
