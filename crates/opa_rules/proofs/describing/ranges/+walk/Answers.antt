use Rattle.std.proofs.Common.{◌≡◌, ◌∙◌, ap, sym, ◌++◌}
use Rattle.std.specs.Prelude.{flat_map}
use Rattle.std.proofs.lemmas.List.{append-nil, append_assoc}
use Rattle.std.proofs.lemmas.Result.{on_ok_weaker}
use Rattle.opa_rules.specs.Describing.Ranges.{ranged, row_ranged}
use Rattle.opa_rules.proofs.describing.RangeLaws.{ranged-Const, ranged-Attr, ranged-Table}
use Rattle.opa_rules.proofs.describing.ranges.+walk.Goals as goal

pub gather-returns-in-Const : goal.gather-returns-in-Const
gather-returns-in-Const t c = sym (ap (λ xs. c.args.rels.now ++ xs) (ap ranged c.in-Const.is ∙ ranged-Const c.in-Const.field-0) ∙ append-nil c.args.rels.now)

pub gather-returns-in-Attr : goal.gather-returns-in-Attr
gather-returns-in-Attr t c = sym (ap (λ xs. c.args.rels.now ++ xs) (ap ranged c.in-Attr.is ∙ ranged-Attr c.in-Attr.field-0) ∙ append-nil c.args.rels.now)

pub gather-returns-in_ok-gather_rows-in-Table : goal.gather-returns-in_ok-gather_rows-in-Table
gather-returns-in_ok-gather_rows-in-Table t c =
    on_ok_weaker c.gather.result (λ (e : c.gather.new.rels ≡ c.gather_rows.new.rels ++ ranged c.get.result.now). e
    ∙ ap (λ xs. xs ++ ranged c.get.result.now) (c.in_ok-gather_rows-in-Table.ensures ∙ ap (λ xs. c.args.rels.now ++ flat_map row_ranged xs) c.as_slice-in-Table.ensures)
    ∙ ap (λ x. (c.args.rels.now ++ flat_map row_ranged c.in-Table.rows) ++ ranged x) c.get.ensures
    ∙ append_assoc c.args.rels.now (flat_map row_ranged c.in-Table.rows) (ranged c.in-Table.last)
    ∙ ap (λ xs. c.args.rels.now ++ xs) (sym (ap ranged c.in-Table.is ∙ ranged-Table c.in-Table.rows c.in-Table.last))) c.gather.ensures
