use Rattle.std.proofs.Common.{subst}
use Rattle.std.proofs.lemmas.Result.{err_from_is_err_and}
use Rattle.opa_tree.specs.declared.rulebase.Rulebase.{Rulebase}
use Rattle.opa_reply.specs.Loads.{Loads}
use Rattle.opa_reply.proofs.Settling.{loads_file, load_short}
use Rattle.opa_reply.proofs.loading.load_file.Goals as goal

pub returns-in_err-settle-clause-err : goal.returns-in_err-settle-clause-err
returns-in_err-settle-clause-err g c =
    let p = err_from_is_err_and c.from_residual-in_err-settle.result c.from_residual-in_err-settle.ensures.1 in
    let e = c.in_err-settle.ensures in
    let l = c.in_ok-loading.loading in
    let loads = subst (λ (r : Rulebase). Loads r (g.F.Shelf.files c.args.shelf.now) c.args.name.now l.text.items l.case) c.base.ensures c.in_ok-loading.ensures.ok in
    rw p.1 (load_short _ _ _ _ _ _ _ _ _ _ _ _ _ c.in_ok-loading.ensures.files _ _ l.text.items l.case loads e.base e.case e.still e.quiet e.few)

pub returns-clause-ok : goal.returns-clause-ok
returns-clause-ok g c =
    let l = c.in_ok-loading.loading in
    let loads = subst (λ (r : Rulebase). Loads r (g.F.Shelf.files c.args.shelf.now) c.args.name.now l.text.items l.case) c.base.ensures c.in_ok-loading.ensures.ok in
    loads_file _ _ _ _ _ _ _ _ _ _ _ _ _ c.in_ok-loading.ensures.files l.text.items l.case loads c.in_ok-settle.ensures.ok
