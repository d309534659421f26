use Rattle.std.proofs.Common.{◌≡◌, ◌≤◌, [], ◌∷◌, length, IfOk, Ok, Some, IfSome, slice_get, ap, ◌∙◌, subst, false}
use Rattle.std.proofs.lemmas.Result.{err_from_is_err_and}
use Rattle.opa_words.specs.Layout.Lines.{rows}
use Rattle.opa_tree.specs.declared.faults.RbKind.TheVariants.{Limit}
use Rattle.opa_rulebase.specs.Files.FileLines.{AreFileLines}
use Rattle.opa_rulebase.specs.Files.Files.{files_from, with_more, source, unread}
use Rattle.opa_rulebase.proofs.files.FileLaws.{main_fails, lines_over, failed_after, named_taken}
use Rattle.opa_rulebase.proofs.files.taking.take_files.Goals as goal

pub returns-in_err-text-clause-fault : goal.returns-in_err-text-clause-fault
returns-in_err-text-clause-fault g c =
    let p = err_from_is_err_and c.from_residual.result c.from_residual.ensures.1 in
    rw (p.1, p.2) (main_fails (g.F.Shelf.files c.args.shelf.now) c.args.name.now _ _ _ c.in_err-text.ensures.fault)

pub returns-in-Some-clause-fault : goal.returns-in-Some-clause-fault
returns-in-Some-clause-fault g c =
    lines_over (g.F.Shelf.files c.args.shelf.now) c.args.name.now c.in_ok-text.text c.in_ok-lines.lines c.in_ok-text.ensures.text (subst (λ t. AreFileLines (rows t) c.in_ok-lines.lines) c.as_str.ensures c.in_ok-lines.ensures)
    c.in-Some.ensures.0 c.in_ok-unread.field-0 (subst (λ ls. slice_get ls 100 ≡ Some c.in-Some.ensures.0) c.as_slice.ensures c.in-Some.ensures.1) (c.in_ok-unread.ensures ∙ ap (λ n. unread 0 n Limit c.args.name.now) c.in-Some.ensures.2)

pub returns-clause-taken : goal.returns-clause-taken
returns-clause-taken g c =
    let few : length c.in_ok-lines.lines ≤ 100 = subst (λ ls. length ls ≤ 100) c.as_slice.ensures c.in_default.ensures in
    let told = subst (λ o. IfSome o (λ files. IfOk c.take_all.result (λ all. with_more (source c.in_ok-from_str.field-0 false c.in_ok-text.text ∷ []) (files_from files 1 c.as_slice-2.result.now) ≡ Ok all))) c.in_ok-text.ensures.files c.take_all.ensures.taken in
    named_taken (g.F.Shelf.files c.args.shelf.now) c.args.name.now c.in_ok-text.text c.in_ok-lines.lines c.in_ok-text.ensures.text (subst (λ t. AreFileLines (rows t) c.in_ok-lines.lines) c.as_str.ensures c.in_ok-lines.ensures) few
    c.take_all.result (source c.in_ok-from_str.field-0 false c.in_ok-text.text) (ap (λ n. source n false c.in_ok-text.text) c.in_ok-from_str.ensures)
    (subst (λ ls. IfSome (g.F.Shelf.files c.args.shelf.now) (λ files. IfOk c.take_all.result (λ all. with_more (source c.in_ok-from_str.field-0 false c.in_ok-text.text ∷ []) (files_from files 1 ls) ≡ Ok all))) c.as_slice-2.ensures told)

pub returns-clause-fault : goal.returns-clause-fault
returns-clause-fault g c =
    let few : length c.in_ok-lines.lines ≤ 100 = subst (λ ls. length ls ≤ 100) c.as_slice.ensures c.in_default.ensures in
    failed_after (g.F.Shelf.files c.args.shelf.now) (g.F.Shelf.files c.take_text.new.shelf) c.args.name.now c.in_ok-text.text c.in_ok-lines.lines c.as_slice-2.result.now c.take_all.result c.in_ok-text.ensures.text (subst (λ t. AreFileLines (rows t) c.in_ok-lines.lines) c.as_str.ensures c.in_ok-lines.ensures) few
    _ _ _ c.in_ok-text.ensures.later c.in_ok-text.ensures.files c.as_slice-2.ensures c.take_all.ensures.fault
