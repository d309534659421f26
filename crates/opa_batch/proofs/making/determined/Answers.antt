use Rattle.std.proofs.Common.{subst, sym, arith}
use Rattle.std.proofs.lemmas.Result.{on_ok_weaker}
use Rattle.std.specs.Prelude.{Some}
use Rattle.csv.specs.Records.{fields_of}
use Rattle.opa_tree.specs.declared.rulebase.Rulebase.{Rulebase}
use Rattle.opa_session.specs.Infer.Sessions.{rules_of}
use Rattle.opa_batch.specs.Aims.{AreAimed}
use Rattle.opa_batch.specs.Cutting.{below}
use Rattle.opa_batch.proofs.CountLaws.{started, determined_counts}
use Rattle.opa_batch.proofs.CutLaws.{some_below}
use Rattle.opa_batch.proofs.MakingLaws.{rows_of_base}
use Rattle.opa_batch.proofs.making.determined.Goals as goal

pub returns-clause-rows : goal.returns-clause-rows
returns-clause-rows g c =
    on_ok_weaker c.add_rows-added.result
    (rows_of_base (λ v. Some v.items) c.args.out.now c.add_rows-added.new.out c.args.base (rules_of c.in_ok-session.session) c.args.heads.now (below c.args.bytes.now) c.in_ok-session.ensures.base) c.add_rows-added.ensures.rows

pub returns-in_err-session-clause-counts : goal.returns-in_err-session-clause-counts
returns-in_err-session-clause-counts g c =
    started c.args.base c.args.heads.now (below c.args.bytes.now) c.args.steps.now c.start.new.steps (some_below c.args.bytes.now (fields_of c.args.row.now) c.args.reader.now c.requires.at) c.in_err-session.ensures.bound

pub returns-clause-counts : goal.returns-clause-counts
returns-clause-counts g c =
    determined_counts c.args.base (rules_of c.in_ok-session.session) c.args.heads.now (below c.args.bytes.now) c.args.steps.now c.start.new.steps c.add_rows-added.new.steps c.in_ok-session.ensures.base c.in_ok-session.ensures.bound
    c.add_rows-added.ensures.counts

pub returns-in_default-clause-counts : goal.returns-in_default-clause-counts
returns-in_default-clause-counts g c =
    started c.args.base c.args.heads.now (below c.args.bytes.now) c.args.steps.now c.args.steps.now (some_below c.args.bytes.now (fields_of c.args.row.now) c.args.reader.now c.requires.at) (omega arith)

pub add_rows-added-requires-clause-aimed : goal.add_rows-added-requires-clause-aimed
add_rows-added-requires-clause-aimed g c =
    subst (λ (b : Rulebase). AreAimed b.model c.args.heads.now c.deref.result.now) (sym c.in_ok-session.ensures.base) (subst (AreAimed c.args.base.model c.args.heads.now) (sym c.deref.ensures.value) c.in-Ok.ensures)
