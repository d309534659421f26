use Rattle.std.proofs.Common.{◌≡◌, ◌∙◌, ap, sym, ◌++◌}
use Rattle.std.specs.Prelude.{flat_map}
use Rattle.std.proofs.lemmas.List.{append-nil, append_assoc}
use Rattle.std.proofs.lemmas.Result.{on_ok_weaker}
use Rattle.opa_rules.specs.Reviewing.Operations.{operations, row_operations}
use Rattle.opa_rules.proofs.reviewing.OperationLaws.{operations-Const, operations-Attr, operations-Table}
use Rattle.opa_rules.proofs.reviewing.operations.+walk.Goals as goal

pub gather-returns-in-Const : goal.gather-returns-in-Const
gather-returns-in-Const t c = sym (ap (λ xs. c.args.kinds.now ++ xs) (ap operations c.in-Const.is ∙ operations-Const c.in-Const.field-0) ∙ append-nil c.args.kinds.now)

pub gather-returns-in-Attr : goal.gather-returns-in-Attr
gather-returns-in-Attr t c = sym (ap (λ xs. c.args.kinds.now ++ xs) (ap operations c.in-Attr.is ∙ operations-Attr c.in-Attr.field-0) ∙ append-nil c.args.kinds.now)

pub gather-returns-in_ok-gather_rows-in-Table : goal.gather-returns-in_ok-gather_rows-in-Table
gather-returns-in_ok-gather_rows-in-Table t c =
    on_ok_weaker c.gather.result (λ (e : c.gather.new.kinds ≡ c.gather_rows.new.kinds ++ operations c.get.result.now). e
    ∙ ap (λ xs. xs ++ operations c.get.result.now) (c.in_ok-gather_rows-in-Table.ensures ∙ ap (λ xs. c.args.kinds.now ++ flat_map row_operations xs) c.as_slice-in-Table.ensures)
    ∙ ap (λ x. (c.args.kinds.now ++ flat_map row_operations c.in-Table.rows) ++ operations x) c.get.ensures
    ∙ append_assoc c.args.kinds.now (flat_map row_operations c.in-Table.rows) (operations c.in-Table.last)
    ∙ ap (λ xs. c.args.kinds.now ++ xs) (sym (ap operations c.in-Table.is ∙ operations-Table c.in-Table.rows c.in-Table.last))) c.gather.ensures
