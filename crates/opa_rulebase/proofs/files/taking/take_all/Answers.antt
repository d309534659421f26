use Rattle.std.proofs.Common.{◌≡◌, ◌+◌, ◌≤◌, [], ◌∷◌, length, All, Ok, IfSome, sym, ap, ◌∙◌, subst, arith}
use Rattle.std.proofs.lemmas.List.{length-append}
use Rattle.std.proofs.lemmas.List.Elements.{All-nil, All-cons, All-append}
use Rattle.opa_rulebase.specs.declared.files.source.SourceFile.{SourceFile}
use Rattle.opa_rulebase.specs.Files.Files.{with_more, files_from, text_under, source}
use Rattle.opa_rulebase.proofs.files.FileLaws.{told_both, files_more}
use Rattle.opa_rulebase.proofs.files.taking.take_all.Goals as goal

pub loop-line-preserved : goal.loop-line-preserved
loop-line-preserved g c =
    let f = c.in_ok-file.file in
    let line = c.in-Some.line.now in
    let old = c.loop-line.taken in
    record {
      taken = told_both (g.F.Shelf.files c.args.shelf.now) (λ files. with_more old (files_from files c.loop-line.place c.loop-line.rest.now) ≡ with_more (c.args.main ∷ []) (files_from files 1 c.args.lines.now)) (λ files. (text_under files line.name ≡ Ok f.text) × (f ≡ source line.name line.is_table f.text)) _ c.loop-line.invariant.taken
          (subst (λ o. IfSome o (λ files. (text_under files line.name ≡ Ok f.text) × (f ≡ source line.name line.is_table f.text))) c.loop-line.invariant.files c.in_ok-file.ensures.taken)
          (λ files h t. files_more files old _ c.loop-line.place line c.in-Some.later.now c.loop-line.rest.now f (with_more (c.args.main ∷ []) (files_from files 1 c.args.lines.now)) c.in-Some.ensures h t.0 t.1 c.in_ok-push-2.ensures.ok);
      short = subst (All (λ (x : SourceFile). length x.text ≤ 8388608)) (sym c.in_ok-push-2.ensures.ok) (All-append (λ (x : SourceFile). length x.text ≤ 8388608) old (f ∷ []) c.loop-line.invariant.short (All-cons (λ (x : SourceFile). length x.text ≤ 8388608) f [] c.in_ok-file.ensures.short (All-nil (λ (x : SourceFile). length x.text ≤ 8388608))));
      few = omega (arith, ap length c.in-Some.ensures, c.loop-line.invariant.few);
      many = ap length c.in_ok-push-2.ensures.ok ∙ length-append old (f ∷ []) ∙ ap (λ n. n + 1) c.loop-line.invariant.many;
      files = c.in_ok-file.ensures.files ∙ c.loop-line.invariant.files;
      later = omega arith;
      kept = c.in_ok-file.ensures.kept ∙ c.loop-line.invariant.kept;
    }
