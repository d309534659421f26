use Rattle.std.proofs.Common.{subst, sym}
use Rattle.csv.specs.Records.{fields_of}
use Rattle.opa_case.specs.Cases.{no_case}
use Rattle.opa_tree.specs.declared.rulebase.Rulebase.{Rulebase}
use Rattle.opa_session.specs.Infer.Sessions.{rules_of, held_of, reached}
use Rattle.opa_batch.specs.Aims.{AreAimed}
use Rattle.opa_batch.proofs.CountLaws.{not_determined, record_counts}
use Rattle.opa_batch.proofs.cells.take_record.Goals as goal

pub returns-in_err-made-clause-counts : goal.returns-in_err-made-clause-counts
returns-in_err-made-clause-counts g c =
    let r = rules_of c.args.session.now in
    not_determined r c.args.heads.now (fields_of c.args.row.now) c.args.steps.now (reached r (held_of c.args.session.now) no_case)

pub returns-in-Err-clause-counts : goal.returns-in-Err-clause-counts
returns-in-Err-clause-counts g c =
    let r = rules_of c.args.session.now in
    not_determined r c.args.heads.now (fields_of c.args.row.now) c.args.steps.now (reached r (held_of c.args.session.now) no_case)

pub returns-in_err-hold_case-in-Ok-clause-counts : goal.returns-in_err-hold_case-in-Ok-clause-counts
returns-in_err-hold_case-in-Ok-clause-counts g c =
    record_counts (rules_of c.args.session.now) c.args.heads.now (fields_of c.args.row.now) c.base.result.now c.in_ok-made.made (held_of c.args.session.now) c.in-Ok.case c.args.steps.now c.hold_case.new.steps
    c.base.ensures c.in-Ok.is c.in_ok-made.ensures.reaches c.in_err-hold_case-in-Ok.ensures.counts

pub returns-in_ok-hold_case-in-Ok-clause-counts : goal.returns-in_ok-hold_case-in-Ok-clause-counts
returns-in_ok-hold_case-in-Ok-clause-counts g c =
    record_counts (rules_of c.args.session.now) c.args.heads.now (fields_of c.args.row.now) c.base.result.now c.in_ok-made.made (held_of c.args.session.now) c.in-Ok.case c.args.steps.now c.hold_case.new.steps
    c.base.ensures c.in-Ok.is c.in_ok-made.ensures.reaches c.in_ok-hold_case-in-Ok.ensures.counts

pub case_of-requires : goal.case_of-requires
case_of-requires g c = record { aimed = subst (λ (b : Rulebase). AreAimed b.model c.args.heads.now c.args.aims.now) (sym c.base.ensures) c.requires.aimed }
