use Rattle.std.proofs.Common.{◌≡◌, ◌∙◌, ◌&&◌, true, false, ap, sym}
use Rattle.std.specs.Prelude.{flat_map}
use Rattle.std.specs.List.{list_all}
use Rattle.std.proofs.lemmas.List.Folds.{list_all-append}
use Rattle.opa_tree.specs.Mentions.{mentioned, row_mentioned}
use Rattle.opa_tree.proofs.MentionLaws.{mentioned-Table}
use Rattle.opa_mean.specs.Goals.Tables.{told_free}
use Rattle.opa_mean.proofs.goals.trees.+mentions.Goals as goal

pub mentions_free-returns-then-rows_mention_free : goal.mentions_free-returns-then-rows_mention_free
mentions_free-returns-then-rows_mention_free t c =
    let p = told_free c.args.free.now in let rows = flat_map row_mentioned c.in-Table.rows in let last = mentioned c.in-Table.last in
    let rows_are : list_all p rows ≡ true = sym (c.if-rows_mention_free.ensures ∙ ap (λ rs. list_all p (flat_map row_mentioned rs)) c.as_slice.ensures) in
    c.mentions_free.ensures ∙ ap (λ e. list_all p (mentioned e)) c.get.ensures
    ∙ sym (ap (λ e. list_all p (mentioned e)) c.in-Table.is ∙ ap (list_all p) (mentioned-Table c.in-Table.rows c.in-Table.last) ∙ list_all-append p rows last ∙ ap (λ b. b && list_all p last) rows_are)

pub mentions_free-returns-else-rows_mention_free : goal.mentions_free-returns-else-rows_mention_free
mentions_free-returns-else-rows_mention_free t c =
    let p = told_free c.args.free.now in let rows = flat_map row_mentioned c.in-Table.rows in let last = mentioned c.in-Table.last in
    let rows_are : list_all p rows ≡ false = sym (c.if-rows_mention_free.ensures ∙ ap (λ rs. list_all p (flat_map row_mentioned rs)) c.as_slice.ensures) in
    c.if-rows_mention_free.false
    ∙ sym (ap (λ e. list_all p (mentioned e)) c.in-Table.is ∙ ap (list_all p) (mentioned-Table c.in-Table.rows c.in-Table.last) ∙ list_all-append p rows last ∙ ap (λ b. b && list_all p last) rows_are)
