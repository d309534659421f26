use Rattle.std.proofs.Common.{◌++◌, ap, sym, ◌∙◌}
use Rattle.std.proofs.lemmas.List.{append-nil}
use Rattle.opa_parse.specs.Tables.Columns.{comparisons}
use Rattle.opa_parse.proofs.tables.ColumnLaws.{none_asked}
use Rattle.opa_parse.proofs.tables.columns.comparisons.Goals as goal

pub returns : goal.returns
returns c =
    let left = c.loop-test.left.now in
    sym (append-nil c.loop-test.all) ∙ ap (λ r. c.loop-test.all ++ r) (sym (ap (comparisons left) c.in_default.ensures ∙ none_asked left)) ∙ c.loop-test.invariant
