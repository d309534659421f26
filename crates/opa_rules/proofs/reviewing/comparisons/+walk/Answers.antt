use Rattle.std.proofs.Common.{◌≡◌, ◌∙◌, ap, sym, ◌++◌}
use Rattle.std.specs.Prelude.{flat_map}
use Rattle.std.proofs.lemmas.List.{append-nil, append_assoc}
use Rattle.std.proofs.lemmas.Result.{on_ok_weaker}
use Rattle.opa_rules.specs.Reviewing.Comparisons.{comparisons, row_comparisons}
use Rattle.opa_rules.proofs.reviewing.ComparisonLaws.{comparisons-Const, comparisons-Attr, comparisons-Table}
use Rattle.opa_rules.proofs.reviewing.comparisons.+walk.Goals as goal

pub gather-returns-in-Const : goal.gather-returns-in-Const
gather-returns-in-Const t c = sym (ap (λ xs. c.args.found.now ++ xs) (ap comparisons c.in-Const.is ∙ comparisons-Const c.in-Const.field-0) ∙ append-nil c.args.found.now)

pub gather-returns-in-Attr : goal.gather-returns-in-Attr
gather-returns-in-Attr t c = sym (ap (λ xs. c.args.found.now ++ xs) (ap comparisons c.in-Attr.is ∙ comparisons-Attr c.in-Attr.field-0) ∙ append-nil c.args.found.now)

pub gather-returns-in_ok-gather_rows-in-Table : goal.gather-returns-in_ok-gather_rows-in-Table
gather-returns-in_ok-gather_rows-in-Table t c =
    on_ok_weaker c.gather.result (λ (e : c.gather.new.found ≡ c.gather_rows.new.found ++ comparisons c.get.result.now). e
    ∙ ap (λ xs. xs ++ comparisons c.get.result.now) (c.in_ok-gather_rows-in-Table.ensures ∙ ap (λ xs. c.args.found.now ++ flat_map row_comparisons xs) c.as_slice-in-Table.ensures)
    ∙ ap (λ x. (c.args.found.now ++ flat_map row_comparisons c.in-Table.rows) ++ comparisons x) c.get.ensures
    ∙ append_assoc c.args.found.now (flat_map row_comparisons c.in-Table.rows) (comparisons c.in-Table.last)
    ∙ ap (λ xs. c.args.found.now ++ xs) (sym (ap comparisons c.in-Table.is ∙ comparisons-Table c.in-Table.rows c.in-Table.last))) c.gather.ensures
