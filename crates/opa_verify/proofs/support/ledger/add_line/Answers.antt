use Rattle.std.proofs.Common.{◌∷◌, ◌++◌, [], sym, subst}
use Rattle.opa_io.proofs.Results.{on_ok_then as on_ok}
use Rattle.opa_verify.specs.Support.Ledgers.{Holds}
use Rattle.opa_verify.proofs.support.Ledging.{more_run, more_list, more_container}
use Rattle.opa_verify.proofs.support.ledger.add_line.Goals as goal

pub returns-in-Point : goal.returns-in-Point
returns-in-Point c = λ lines h.
    on_ok c.add_run.result _ _ (λ e. subst (λ l. Holds (record { runs = c.add_run.new.runs; lists = c.args.told.now.lists; containers = c.args.told.now.containers }) (lines ++ l ∷ [])) (sym c.in-Point.is)
    (more_run c.args.told.now lines h c.in-Point.attr c.in-Point.inst c.in-Point.first c.in-Point.last c.in-Point.value c.add_run.new.runs e)) c.add_run.ensures

pub returns-in-Members : goal.returns-in-Members
returns-in-Members c = λ lines h.
    on_ok c.add_list.result _ _ (λ e. subst (λ l. Holds (record { runs = c.args.told.now.runs; lists = c.add_list.new.lists; containers = c.args.told.now.containers }) (lines ++ l ∷ [])) (sym c.in-Members.is)
    (more_list c.args.told.now lines h c.in-Members.rel c.in-Members.inst c.in-Members.names c.add_list.new.lists e)) c.add_list.ensures

pub returns-in-Member : goal.returns-in-Member
returns-in-Member c = λ lines h.
    on_ok c.add_container.result _ _ (λ e. subst (λ l. Holds (record { runs = c.args.told.now.runs; lists = c.args.told.now.lists; containers = c.add_container.new.containers }) (lines ++ l ∷ [])) (sym c.in-Member.is)
    (more_container c.args.told.now lines h c.in-Member.rel c.in-Member.container c.in-Member.inst c.add_container.new.containers e)) c.add_container.ensures
