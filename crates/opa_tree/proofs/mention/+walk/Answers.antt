use Rattle.std.proofs.Common.{◌≡◌, ◌∙◌, ap, sym, ◌++◌}
use Rattle.std.specs.Prelude.{flat_map}
use Rattle.std.proofs.lemmas.List.{append-nil, append_assoc}
use Rattle.std.proofs.lemmas.Result.{on_ok_weaker}
use Rattle.opa_tree.specs.Mentions.{mentioned, row_mentioned}
use Rattle.opa_tree.proofs.MentionLaws.{mentioned-Const, mentioned-Table}
use Rattle.opa_tree.proofs.mention.+walk.Goals as goal

pub gather-returns-in-Const : goal.gather-returns-in-Const
gather-returns-in-Const t c = sym (ap (λ xs. c.args.attrs.now ++ xs) (ap mentioned c.in-Const.is ∙ mentioned-Const c.in-Const.field-0) ∙ append-nil c.args.attrs.now)

pub gather-returns-in_ok-gather_rows-in-Table : goal.gather-returns-in_ok-gather_rows-in-Table
gather-returns-in_ok-gather_rows-in-Table t c =
    on_ok_weaker c.gather.result (λ (e : c.gather.new.attrs ≡ c.gather_rows.new.attrs ++ mentioned c.get.result.now). e
    ∙ ap (λ xs. xs ++ mentioned c.get.result.now) (c.in_ok-gather_rows-in-Table.ensures ∙ ap (λ xs. c.args.attrs.now ++ flat_map row_mentioned xs) c.as_slice.ensures)
    ∙ ap (λ x. (c.args.attrs.now ++ flat_map row_mentioned c.in-Table.rows) ++ mentioned x) c.get.ensures
    ∙ append_assoc c.args.attrs.now (flat_map row_mentioned c.in-Table.rows) (mentioned c.in-Table.last)
    ∙ ap (λ xs. c.args.attrs.now ++ xs) (sym (ap mentioned c.in-Table.is ∙ mentioned-Table c.in-Table.rows c.in-Table.last))) c.gather.ensures
