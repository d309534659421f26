use Rattle.std.proofs.Common.{sym, true, ◌∙◌}
use Rattle.opa_case.proofs.Indexing.{sets_more, sets_first_back, by_ok, by_err}
use Rattle.opa_case.proofs.index.add_names.Goals as goal

pub returns-then-is_err-clause-err : goal.returns-then-is_err-clause-err
returns-then-is_err-clause-err c =
    sets_first_back c.args.index.now.entries c.loop-at.index.entries c.add_name.new.index.entries c.drop_names.new.index.entries c.args.number c.args.names.now c.args.inst.now c.loop-at.at
    c.requires.new c.loop-at.invariant (by_err c.add_name.result (sym c.is_err.ensures.value ∙ c.if-is_err.true) c.add_name.ensures.err) c.drop_names.ensures

pub loop-at-preserved : goal.loop-at-preserved
loop-at-preserved c =
    sets_more true c.args.index.now.entries c.loop-at.index.entries c.add_name.new.index.entries c.args.number c.args.names.now c.args.inst.now c.loop-at.at c.index-names-at.result c.loop-at-test.true c.index-names-at.is c.loop-at.invariant
    (by_ok c.add_name.result (sym c.is_err.ensures.value ∙ c.if-is_err.false) c.add_name.ensures.ok)
