use Rattle.std.proofs.Common.{IfOk, IfErr, subst}
use Rattle.opa_rulebase.specs.Loading.{IsAccepted, IsRefusedAs}
use Rattle.opa_rulebase.proofs.LoadLaws.{load_untaken, load_opens, load_fails, ok_has}
use Rattle.opa_rulebase.proofs.loading.load_rulebase.Goals as goal

pub returns-in-Ok-clause-accepted : goal.returns-in-Ok-clause-accepted
returns-in-Ok-clause-accepted g c =
    load_opens (g.F.Shelf.files c.args.shelf.now) c.args.name.now 0 0 c.in-Ok.files c.in-Ok.ensures.taken c.load_files.result (subst (λ files. IfOk c.load_files.result (IsAccepted files)) c.as_slice.ensures c.load_files.ensures.accepted)

pub returns-in-Ok-clause-refused : goal.returns-in-Ok-clause-refused
returns-in-Ok-clause-refused g c =
    load_fails (g.F.Shelf.files c.args.shelf.now) c.args.name.now _ _ c.in-Ok.files c.in-Ok.ensures.taken c.load_files.result (subst (λ files. IfErr c.load_files.result (IsRefusedAs files)) c.as_slice.ensures c.load_files.ensures.refused)

pub returns-in-Err-clause-refused : goal.returns-in-Err-clause-refused
returns-in-Err-clause-refused g c = load_untaken (g.F.Shelf.files c.args.shelf.now) c.args.name.now _ _ c.in-Err.error c.untaken.result c.in-Err.ensures.fault c.untaken.ensures

pub returns-in-Ok-clause-memberships : goal.returns-in-Ok-clause-memberships
returns-in-Ok-clause-memberships g c = ok_has c.load_files.result c.memberships_count.ensures
