use Rattle.std.proofs.Common.{◌≡◌, ◌+◌, ◌≤◌, ◌∷◌, [], length, All, IfSome}
use Rattle.opa_rulebase.specs.declared.files.source.SourceFile.{SourceFile}
use Rattle.opa_rulebase.specs.Files.Files.{with_more, files_from}
use Rattle.opa_rulebase.proofs.files.taking.take_all.Given as goal

abbrev pub invariant-loop-line : goal.invariant-loop-line
invariant-loop-line g l = record {
  taken : IfSome (g.F.Shelf.files l.fn.shelf) (λ files. with_more l.taken (files_from files l.place l.rest) ≡ with_more (l.fn.main ∷ []) (files_from files 1 l.lines));
  short : All (λ (f : SourceFile). length f.text ≤ 8388608) l.taken;
  few : l.place + length l.rest ≡ 1 + length l.lines;
  many : length l.taken ≡ l.place;
  files : g.F.Shelf.files l.shelf ≡ g.F.Shelf.files l.fn.shelf;
  later : g.F.Shelf.take_faults l.fn.shelf ≤ g.F.Shelf.take_faults l.shelf;
  kept : g.F.Shelf.keep_faults l.shelf ≡ g.F.Shelf.keep_faults l.fn.shelf;
}

abbrev pub decreases-loop-line : goal.decreases-loop-line
decreases-loop-line g l = length l.rest
