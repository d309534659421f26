use Rattle.std.proofs.Common.{sym, subst, false, ◌≡◌}
use Rattle.opa_cells.specs.declared.instance.InstanceId.{InstanceId}
use Rattle.opa_case.specs.Listed.{is_indexed}
use Rattle.opa_case.proofs.Indexing.{sets_back}
use Rattle.opa_case.proofs.listed.put_in.Goals as goal

pub returns-then-is_err-clause-err_index : goal.returns-then-is_err-clause-err_index
returns-then-is_err-clause-err_index c =
    sets_back c.args.index.now.entries c.add_names.new.index.entries c.drop_names.new.index.entries c.args.number c.args.coming.now c.in_ok-key.key
    (λ n h. subst (λ (i : InstanceId). is_indexed c.args.index.now.entries c.args.number n i ≡ false) (sym c.in_ok-key.ensures) (c.requires.new n h))
    c.in_ok-add_names.ensures.ok c.drop_names.ensures
