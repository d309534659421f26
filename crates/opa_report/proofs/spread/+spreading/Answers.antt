use Rattle.std.proofs.Common.{◌≡◌, ◌∙◌, ◌∷◌, [], ◌++◌, ◌&&◌, Some, length, refl, ap, sym, subst, map, true, false, arith}
use Rattle.std.specs.Prelude.{flat_map, not}
use Rattle.std.specs.List.{AllByRecursion, list_any}
use Rattle.std.proofs.lemmas.Result.{on_ok_weaker}
use Rattle.opa_io.proofs.Places.{take_whole}
use Rattle.opa_cells.specs.Instances.{named}
use Rattle.opa_date.specs.declared.TheConstants.{DAYS}
use Rattle.opa_value.specs.Truth.{is_true}
use Rattle.opa_line.specs.Lines.{StandsFor}
use Rattle.opa_report.specs.DaySets.Sets.{on}
use Rattle.opa_report.proofs.day_sets.Setting.{on_is}
use Rattle.opa_mean.proofs.Values.{three_are}
use Rattle.opa_mean.specs.Meaning.{value}
use Rattle.opa_mean.specs.Uses.{Point, Listed, at_place_uses, first_or_all, over_uses, window_uses, uses}
use Rattle.opa_report.specs.Adding.{Adds}
use Rattle.opa_report.specs.Keeping.{IsMissing}
use Rattle.opa_report.specs.declared.kept.SpreadTree.{SpreadTree}
use Rattle.std.specs.Prelude.{List}
use Rattle.opa_mean.specs.PartUses.{rows_uses}
use Rattle.opa_report.specs.Spreading.{is_truth, AreLines, last_days, taken_uses}
use Rattle.opa_report.proofs.Combining.{adds_nothing, adds_same, adds_both, adds_over, adds_where}
use Rattle.opa_report.proofs.Keeping.{on_ok_under, adds_missing, added_found, found_grow}
use Rattle.opa_report.proofs.Dating.{back_leads, back_low}
use Rattle.opa_report.proofs.Going.{all_at, line_at, each_step, going_start, going_step, going_end, rows_step, rows_end}
use Rattle.opa_window.specs.Days.{day_value}
use Rattle.opa_report.proofs.LinesOfParts.{lines_rest, undecided_is}
use Rattle.opa_report.proofs.Parts.{one_is, two_are, over_known, over_unknown, over_deciding, over_each, over_tested, over_few, over_two, over_many, names_live, window_two, window_three}
use Rattle.opa_tree.specs.declared.expr.Expr.TheVariants as V
use Rattle.opa_mean.proofs.UseLaws.{uses-Const, uses-Attr, uses-All, uses-Any, uses-Not, uses-Op, uses-Certain, uses-Known, uses-Over, uses-Window, uses-Rolling, uses-Table}
use Rattle.opa_report.proofs.spread.+spreading.Goals as goal

pub spread_tree-returns-in-Const-clause-adds : goal.spread_tree-returns-in-Const-clause-adds
spread_tree-returns-in-Const-clause-adds g t c = λ live known.
    let s = g.S.Sight.shape c.args.sight.now in let l = g.S.Sight.look c.args.sight.now in let E = c.args.enclosing.now in
    adds_same (on c.args.days.now) (λ _. []) _ c.args.found.now _ (λ d _ _. sym (ap (λ e. uses s l e E d) c.in-Const.is ∙ uses-Const s l c.in-Const.field-0 E d)) (adds_nothing (on c.args.days.now) c.args.found.now)

pub spread_tree-returns-in-None-clause-adds : goal.spread_tree-returns-in-None-clause-adds
spread_tree-returns-in-None-clause-adds g t c = λ live known.
    let s = g.S.Sight.shape c.args.sight.now in let l = g.S.Sight.look c.args.sight.now in let E = c.args.enclosing.now in
    adds_same (on c.args.days.now) (λ _. []) _ c.args.found.now _ (λ d _ _. sym (ap (λ e. uses s l e E d) c.in-Attr.is ∙ uses-Attr s l c.in-Attr.attr E d ∙ ap (λ o. at_place_uses o (λ i. Point c.in-Attr.attr i d ∷ [])) (sym c.in-None.ensures))) (adds_nothing (on c.args.days.now) c.args.found.now)

pub spread_tree-returns-in-Some-clause-adds : goal.spread_tree-returns-in-Some-clause-adds
spread_tree-returns-in-Some-clause-adds g t c = λ live known.
    let s = g.S.Sight.shape c.args.sight.now in let l = g.S.Sight.look c.args.sight.now in let E = c.args.enclosing.now in
    on_ok_weaker c.add_days.result (λ a. adds_same (on c.args.days.now) _ _ c.args.found.now _ (λ d _ _. sym (ap (λ e. uses s l e E d) c.in-Attr.is ∙ uses-Attr s l c.in-Attr.attr E d ∙ ap (λ o. at_place_uses o (λ i. Point c.in-Attr.attr i d ∷ [])) (sym c.in-Some.ensures))) a) c.add_days.ensures

pub spread_tree-returns-in-All-clause-adds : goal.spread_tree-returns-in-All-clause-adds
spread_tree-returns-in-All-clause-adds g t c = λ live known.
    let s = g.S.Sight.shape c.args.sight.now in let l = g.S.Sight.look c.args.sight.now in let E = c.args.enclosing.now in
    on_ok_weaker c.spread_firsts.result (λ a. adds_same (on c.args.days.now) _ _ c.args.found.now _
    (λ d _ _. ap (first_or_all (λ e. is_truth false (value s l e E d)) (λ e. uses s l e E d)) c.as_slice.ensures ∙ sym (ap (λ e. uses s l e E d) c.in-All.is ∙ uses-All s l c.in-All.parts E d)) a) (c.spread_firsts.ensures.adds live known)

pub spread_tree-returns-in-Any-clause-adds : goal.spread_tree-returns-in-Any-clause-adds
spread_tree-returns-in-Any-clause-adds g t c = λ live known.
    let s = g.S.Sight.shape c.args.sight.now in let l = g.S.Sight.look c.args.sight.now in let E = c.args.enclosing.now in
    on_ok_weaker c.spread_firsts-in-Any.result (λ a. adds_same (on c.args.days.now) _ _ c.args.found.now _
    (λ d _ _. ap (first_or_all (λ e. is_truth true (value s l e E d)) (λ e. uses s l e E d)) c.as_slice-in-Any.ensures ∙ sym (ap (λ e. uses s l e E d) c.in-Any.is ∙ uses-Any s l c.in-Any.parts E d)) a) (c.spread_firsts-in-Any.ensures.adds live known)

pub spread_tree-returns-in-Not-clause-adds : goal.spread_tree-returns-in-Not-clause-adds
spread_tree-returns-in-Not-clause-adds g t c = λ live known.
    let s = g.S.Sight.shape c.args.sight.now in let l = g.S.Sight.look c.args.sight.now in let E = c.args.enclosing.now in
    on_ok_weaker c.spread_among.result (λ a. adds_same (on c.args.days.now) _ _ c.args.found.now _
    (λ d _ _. ap (λ e. uses s l e E d) c.get.ensures ∙ sym (ap (λ e. uses s l e E d) c.in-Not.is ∙ uses-Not s l c.in-Not.part E d)) a) (c.spread_among.ensures.adds live known)

pub spread_tree-returns-in-Certain-clause-adds : goal.spread_tree-returns-in-Certain-clause-adds
spread_tree-returns-in-Certain-clause-adds g t c = λ live known.
    let s = g.S.Sight.shape c.args.sight.now in let l = g.S.Sight.look c.args.sight.now in let E = c.args.enclosing.now in
    on_ok_weaker c.spread_among-in-Certain.result (λ a. adds_same (on c.args.days.now) _ _ c.args.found.now _
    (λ d _ _. ap (λ e. uses s l e E d) c.get-in-Certain.ensures ∙ sym (ap (λ e. uses s l e E d) c.in-Certain.is ∙ uses-Certain s l c.in-Certain.part E d)) a) (c.spread_among-in-Certain.ensures.adds live known)

pub spread_tree-returns-in-Known-clause-adds : goal.spread_tree-returns-in-Known-clause-adds
spread_tree-returns-in-Known-clause-adds g t c = λ live known.
    let s = g.S.Sight.shape c.args.sight.now in let l = g.S.Sight.look c.args.sight.now in let E = c.args.enclosing.now in
    on_ok_weaker c.spread_among-in-Known.result (λ a. adds_same (on c.args.days.now) _ _ c.args.found.now _
    (λ d _ _. ap (λ e. uses s l e E d) c.get-in-Known.ensures ∙ sym (ap (λ e. uses s l e E d) c.in-Known.is ∙ uses-Known s l c.in-Known.part E d)) a) (c.spread_among-in-Known.ensures.adds live known)

pub spread_tree-returns-in-Op-clause-adds : goal.spread_tree-returns-in-Op-clause-adds
spread_tree-returns-in-Op-clause-adds g t c = λ live known.
    let s = g.S.Sight.shape c.args.sight.now in let l = g.S.Sight.look c.args.sight.now in let E = c.args.enclosing.now in
    on_ok_weaker c.spread_each.result (λ a. adds_same (on c.args.days.now) _ _ c.args.found.now _
    (λ d _ _. ap (flat_map (λ e. uses s l e E d)) c.as_slice-in-Op.ensures ∙ sym (ap (λ e. uses s l e E d) c.in-Op.is ∙ uses-Op s l c.in-Op.field-0 c.in-Op.parts E d)) a) (c.spread_each.ensures.adds live known)

pub spread_tree-returns-in-Over-clause-adds : goal.spread_tree-returns-in-Over-clause-adds
spread_tree-returns-in-Over-clause-adds g t c = λ live known.
    let s = g.S.Sight.shape c.args.sight.now in let l = g.S.Sight.look c.args.sight.now in let E = c.args.enclosing.now in
    on_ok_weaker c.spread_quantifier.result (λ a. adds_same (on c.args.days.now) _ _ c.args.found.now _
    (λ d _ _. ap (λ es. uses s l (V.Over c.in-Over.quant c.in-Over.rel es) E d) c.as_slice-in-Over.ensures ∙ sym (ap (λ e. uses s l e E d) c.in-Over.is)) a) (c.spread_quantifier.ensures live)

pub spread_quantifier-returns-in-None : goal.spread_quantifier-returns-in-None
spread_quantifier-returns-in-None g t c = λ live.
    let s = g.S.Sight.shape c.args.sight.now in let l = g.S.Sight.look c.args.sight.now in let E = c.args.enclosing.now in let q = c.args.quant in let r = c.args.rel in
    adds_same (on c.args.days.now) (λ _. []) _ c.args.found.now _ (λ d _ _. sym (uses-Over s l q r c.args.trees.now E d
    ∙ ap (λ o. at_place_uses o (λ i. Listed r i ∷ over_uses s l q (s.target r) (l.members r i) (map (λ e. (e, uses s l e)) c.args.trees.now) E d)) (sym c.in-None.ensures))) (adds_nothing (on c.args.days.now) c.args.found.now)

pub spread_quantifier-returns-in-None-members : goal.spread_quantifier-returns-in-None-members
spread_quantifier-returns-in-None-members g t c = λ live.
    let s = g.S.Sight.shape c.args.sight.now in let l = g.S.Sight.look c.args.sight.now in let E = c.args.enclosing.now in
    adds_same (on c.args.days.now) _ _ c.args.found.now _ (λ d _ _. over_unknown s l c.args.quant c.args.rel c.args.trees.now c.in-Some.inst.now E d c.in-Some.ensures c.in-None-members.ensures.list) c.in_ok-add_list-in-Some.ensures

pub spread_quantifier-returns-in-Some-members : goal.spread_quantifier-returns-in-Some-members
spread_quantifier-returns-in-Some-members g t c = λ live.
    let s = g.S.Sight.shape c.args.sight.now in let l = g.S.Sight.look c.args.sight.now in let E = c.args.enclosing.now in
    let names = c.as_slice.result.now in let es = c.args.trees.now in let i = c.in-Some.inst.now in
    on_ok_weaker c.spread_over.result (λ a. adds_same (on c.args.days.now) (λ d. (Listed c.args.rel i ∷ []) ++ over_uses s l c.args.quant c.target.result (Some names) (map (λ e. (e, uses s l e)) es) E d) _ c.args.found.now _
    (λ d _ _. over_known s l c.args.quant c.args.rel es es i c.target.result c.in-Some-members.names.now names E d refl c.target.ensures c.as_slice.ensures c.in-Some.ensures c.in-Some-members.ensures.list)
    (adds_both (on c.args.days.now) _ _ c.args.found.now _ _ c.in_ok-add_list-in-Some.ensures a))
    (c.spread_over.ensures (names_live (g.S.Sight.live c.args.sight.now) (s.target c.args.rel) c.target.result c.in-Some-members.names.now names c.target.ensures c.as_slice.ensures c.in-Some-members.ensures.listed) live)

pub spread_tree-returns-in-Window-clause-adds : goal.spread_tree-returns-in-Window-clause-adds
spread_tree-returns-in-Window-clause-adds g t c = λ live known.
    let s = g.S.Sight.shape c.args.sight.now in let l = g.S.Sight.look c.args.sight.now in let E = c.args.enclosing.now in
    on_ok_weaker c.spread_window.result (λ a. adds_same (on c.args.days.now) _ _ c.args.found.now _
    (λ d _ _. ap (λ es. window_uses s l (map (λ e. (e, uses s l e)) es) E d) c.as_slice-in-Window.ensures ∙ sym (ap (λ e. uses s l e E d) c.in-Window.is ∙ uses-Window s l c.in-Window.field-0 c.in-Window.parts E d)) a) (c.spread_window.ensures.adds live known)

pub spread_tree-returns-in_ok-window-in-Rolling-clause-adds : goal.spread_tree-returns-in_ok-window-in-Rolling-clause-adds
spread_tree-returns-in_ok-window-in-Rolling-clause-adds g t c = λ live known.
    let s = g.S.Sight.shape c.args.sight.now in let l = g.S.Sight.look c.args.sight.now in let E = c.args.enclosing.now in
    let w = c.in_ok-window-in-Rolling.window in let n = c.in-Rolling.count in let x = c.get-in-Rolling.result.now in
    on_ok_weaker c.spread_among-in-Rolling.result (λ a. adds_same (on c.args.days.now) _ _ c.args.found.now _
    (λ d _ _. ap (λ e. flat_map (uses s l e E) (last_days n d)) c.get-in-Rolling.ensures ∙ sym (ap (λ e. uses s l e E d) c.in-Rolling.is ∙ uses-Rolling s l c.in-Rolling.field-0 n c.in-Rolling.part E d))
    (adds_over (on c.args.days.now) (on w) (last_days n) (uses s l x E) c.args.found.now _ (back_leads c.args.days.now w n c.in_ok-window-in-Rolling.ensures) (λ d e lt _ h. back_low n d e lt h) a)) (c.spread_among-in-Rolling.ensures.adds live known)

pub spread_tree-returns-in_ok-rest-in-Table-clause-adds : goal.spread_tree-returns-in_ok-rest-in-Table-clause-adds
spread_tree-returns-in_ok-rest-in-Table-clause-adds g t c = λ live known.
    let s = g.S.Sight.shape c.args.sight.now in let l = g.S.Sight.look c.args.sight.now in let E = c.args.enclosing.now in
    let rows = c.as_slice-in-Table.result.now in let x = c.get-in-Table.result.now in
    on_ok_weaker c.spread_among-in-Table.result (λ a. adds_same (on c.args.days.now) _ _ c.args.found.now _
    (λ d _ _. ap (λ rs. rows_uses s l rs (uses s l x) E d) c.as_slice-in-Table.ensures ∙ ap (λ e. rows_uses s l c.in-Table.rows (uses s l e) E d) c.get-in-Table.ensures ∙ sym (ap (λ e. uses s l e E d) c.in-Table.is ∙ uses-Table s l c.in-Table.rows c.in-Table.last E d))
    (rows_end s l rows (uses s l x) E c.args.days.now c.in_ok-rest-in-Table.rest c.args.found.now _ _ (c.in_ok-rest-in-Table.ensures.adds live known) a)) (c.spread_among-in-Table.ensures.adds live (c.in_ok-rest-in-Table.ensures.stays live known))

pub spread_each-loop-tree-preserved : goal.spread_each-loop-tree-preserved
spread_each-loop-tree-preserved g t c = (
  λ live known.
      let s = g.S.Sight.shape c.args.sight.now in let l = g.S.Sight.look c.args.sight.now in let E = c.args.enclosing.now in
      each_step (on c.args.days.now) (λ d e. uses s l e E d) c.args.trees.now c.loop-tree.tree-index c.tree-item.result _ _ _ c.loop-tree-test.true c.tree-item.is (c.loop-tree.invariant.0 live known) (c.in_ok-spread_among.ensures.adds live (c.loop-tree.invariant.1 live known)),
  λ live known. c.in_ok-spread_among.ensures.stays live (c.loop-tree.invariant.1 live known),
)

pub spread_each-returns-clause-adds : goal.spread_each-returns-clause-adds
spread_each-returns-clause-adds g t c = λ live known.
    let s = g.S.Sight.shape c.args.sight.now in let l = g.S.Sight.look c.args.sight.now in let E = c.args.enclosing.now in
    subst (λ es. Adds (on c.args.days.now) (λ d. flat_map (λ e. uses s l e E d) es) c.args.found.now c.loop-tree.found) (take_whole c.args.trees.now c.loop-tree.tree-index c.loop-tree-test.false) (c.loop-tree.invariant.0 live known)

pub spread_firsts-loop-tree-init : goal.spread_firsts-loop-tree-init
spread_firsts-loop-tree-init g t c = (
  λ live known.
      let s = g.S.Sight.shape c.args.sight.now in let l = g.S.Sight.look c.args.sight.now in let E = c.args.enclosing.now in
      going_start (λ d e. is_truth c.args.truth (value s l e E d)) (λ d e. uses s l e E d) c.args.trees.now c.args.days.now c.in_ok-left.left c.args.found.now c.in_ok-left.ensures,
  λ live known. c.in_ok-lines.ensures.stay live c.args.found.now known,
  omega (arith, ap length c.as_slice-rest.ensures, c.in_ok-lines.ensures.many),
  λ live known. subst (AreLines (g.S.Sight.shape c.args.sight.now) (g.S.Sight.look c.args.sight.now) c.args.enclosing.now c.args.trees.now) (sym c.as_slice-rest.ensures) (c.in_ok-lines.ensures.lines live c.args.found.now known),
)

pub spread_firsts-loop-tree-preserved : goal.spread_firsts-loop-tree-preserved
spread_firsts-loop-tree-preserved g t c = (
  λ live known.
      let s = g.S.Sight.shape c.args.sight.now in let l = g.S.Sight.look c.args.sight.now in let E = c.args.enclosing.now in
      let here = lines_rest s l E c.args.trees.now c.loop-tree.tree-index c.tree-item.result c.loop-tree.rest.now c.in-Some.after.now c.in-Some.line.now c.loop-tree-test.true c.tree-item.is c.in-Some.ensures (c.loop-tree.invariant.3 live known) in
      going_step (λ d e. is_truth c.args.truth (value s l e E d)) (λ d e. uses s l e E d) c.args.trees.now c.args.days.now c.loop-tree.tree-index c.tree-item.result c.args.truth c.in-Some.line.now c.in_ok-undecided.undecided c.loop-tree.left c.in_ok-left-2.left c.in_ok-first.first
      c.args.found.now c.loop-tree.found c.spread_among.new.found c.loop-tree-test.true c.tree-item.is (c.loop-tree.invariant.0 live known) (λ d lt. ap (is_truth c.args.truth) (line_at _ c.in-Some.line.now d here.0 lt))
      (undecided_is s l E c.args.truth c.args.trees.now c.in_ok-lines.lines c.args.days.now c.in_ok-undecided.undecided (c.in_ok-lines.ensures.lines live c.args.found.now known) (subst (λ xs. StandsFor DAYS (λ d. on c.args.days.now d && not (list_any (λ x. is_truth c.args.truth (day_value x d)) xs)) c.in_ok-undecided.undecided) c.as_slice.ensures c.in_ok-undecided.ensures))
      c.in_ok-first.ensures c.in_ok-left-2.ensures (c.in_ok-spread_among.ensures.adds live (c.loop-tree.invariant.1 live known)),
  λ live known. c.in_ok-spread_among.ensures.stays live (c.loop-tree.invariant.1 live known),
  omega (arith, c.loop-tree.invariant.2, ap length c.in-Some.ensures, c.loop-tree-test.true),
  λ live known. (lines_rest (g.S.Sight.shape c.args.sight.now) (g.S.Sight.look c.args.sight.now) c.args.enclosing.now c.args.trees.now c.loop-tree.tree-index c.tree-item.result c.loop-tree.rest.now c.in-Some.after.now c.in-Some.line.now c.loop-tree-test.true c.tree-item.is c.in-Some.ensures (c.loop-tree.invariant.3 live known)).1,
)

pub spread_firsts-returns-clause-adds : goal.spread_firsts-returns-clause-adds
spread_firsts-returns-clause-adds g t c = λ live known.
    let s = g.S.Sight.shape c.args.sight.now in let l = g.S.Sight.look c.args.sight.now in let E = c.args.enclosing.now in
    going_end (λ d e. is_truth c.args.truth (value s l e E d)) (λ d e. uses s l e E d) c.args.trees.now c.args.days.now c.loop-tree.tree-index c.loop-tree.left c.args.found.now c.loop-tree.found
    (take_whole c.args.trees.now c.loop-tree.tree-index c.loop-tree-test.false) (c.loop-tree.invariant.0 live known)

pub spread_rows-loop-row-preserved : goal.spread_rows-loop-row-preserved
spread_rows-loop-row-preserved g t c = (
  λ live known.
      let s = g.S.Sight.shape c.args.sight.now in let l = g.S.Sight.look c.args.sight.now in let E = c.args.enclosing.now in
      rows_step s l c.args.rows.now c.loop-row.row-index c.row-item.result E c.args.days.now c.loop-row.rest c.in_ok-taken.taken c.in_ok-rest-2.rest c.in_ok-line.line c.args.found.now c.loop-row.found c.spread_among.new.found c.spread_among-in-loop-row.new.found
      c.loop-row-test.true c.row-item.is (c.loop-row.invariant.0 live known) (c.in_ok-spread_among.ensures.adds live (c.loop-row.invariant.1 live known)) (c.in_ok-line.ensures.line live (c.in_ok-spread_among.ensures.stays live (c.loop-row.invariant.1 live known)).1) c.in_ok-taken.ensures (c.in_ok-spread_among-2.ensures.adds live (c.in_ok-line.ensures.stay live c.spread_among.new.found (c.in_ok-spread_among.ensures.stays live (c.loop-row.invariant.1 live known)))) c.in_ok-rest-2.ensures,
  λ live known. c.in_ok-spread_among-2.ensures.stays live (c.in_ok-line.ensures.stay live c.spread_among.new.found (c.in_ok-spread_among.ensures.stays live (c.loop-row.invariant.1 live known))),
)

pub spread_over-returns-in-Some : goal.spread_over-returns-in-Some
spread_over-returns-in-Some g t c = λ names live.
    let s = g.S.Sight.shape c.args.sight.now in let l = g.S.Sight.look c.args.sight.now in let E = c.args.enclosing.now in
    on_ok_weaker c.first_members.result (λ a. adds_same (on c.args.days.now) _ _ c.args.found.now _
    (λ d _ _. over_deciding s l c.args.quant c.args.target c.in-Some.truth c.args.names.now c.tree-item.result E d (sym c.in-Some.ensures)
    ∙ ap (λ ts. over_uses s l c.args.quant c.args.target (Some c.args.names.now) (map (λ e. (e, uses s l e)) ts) E d) (sym (one_is c.args.trees.now c.tree-item.result c.in-len1.len_at_least c.in-len1.len_below c.tree-item.is))) a) (c.first_members.ensures names live)

pub spread_over-returns-in-None : goal.spread_over-returns-in-None
spread_over-returns-in-None g t c = λ names live.
    let s = g.S.Sight.shape c.args.sight.now in let l = g.S.Sight.look c.args.sight.now in let E = c.args.enclosing.now in
    on_ok_weaker c.each_member.result (λ a. adds_same (on c.args.days.now) _ _ c.args.found.now _
    (λ d _ _. over_each s l c.args.quant c.args.target c.args.names.now c.tree-item.result E d (sym c.in-None.ensures)
    ∙ ap (λ ts. over_uses s l c.args.quant c.args.target (Some c.args.names.now) (map (λ e. (e, uses s l e)) ts) E d) (sym (one_is c.args.trees.now c.tree-item.result c.in-len1.len_at_least c.in-len1.len_below c.tree-item.is))) a) (c.each_member.ensures names live)

pub spread_window-returns-in_ok-window-in-len2-clause-adds : goal.spread_window-returns-in_ok-window-in-len2-clause-adds
spread_window-returns-in_ok-window-in-len2-clause-adds g t c = λ live known.
    let s = g.S.Sight.shape c.args.sight.now in let l = g.S.Sight.look c.args.sight.now in let E = c.args.enclosing.now in
    let date = c.date-item-then-trees-lt3.result in let x = c.x-item.result in
    on_ok_weaker c.spread_among-in-len2-2.result (λ a. subst (λ ts. Adds (on c.args.days.now) (window_uses s l (map (λ e. (e, uses s l e)) ts) E) c.args.found.now c.spread_among-in-len2-2.new.found)
    (sym (two_are c.args.trees.now date x c.in-len2.len_at_least c.in-len2.len_below c.date-item-then-trees-lt3.is c.x-item.is))
    (window_two s l date x E c.args.days.now c.in_ok-window-in-len2.window c.in_ok-line-in-len2.line c.args.found.now c.spread_among-in-len2.new.found _ (c.in_ok-spread_among-in-len2.ensures.adds live known) (c.in_ok-line-in-len2.ensures.line live (c.in_ok-spread_among-in-len2.ensures.stays live known).1) c.in_ok-window-in-len2.ensures a)) (c.spread_among-in-len2-2.ensures.adds live (c.in_ok-line-in-len2.ensures.stay live c.spread_among-in-len2.new.found (c.in_ok-spread_among-in-len2.ensures.stays live known)))

pub spread_window-returns-in_ok-window-in-len3-clause-adds : goal.spread_window-returns-in_ok-window-in-len3-clause-adds
spread_window-returns-in_ok-window-in-len3-clause-adds g t c = λ live known.
    let s = g.S.Sight.shape c.args.sight.now in let l = g.S.Sight.look c.args.sight.now in let E = c.args.enclosing.now in
    let start = c.start-item.result in let end = c.end-item.result in let x = c.x-item-then-trees-lt4.result in
    on_ok_weaker c.spread_among-in-len3-3.result (λ a. subst (λ ts. Adds (on c.args.days.now) (window_uses s l (map (λ e. (e, uses s l e)) ts) E) c.args.found.now c.spread_among-in-len3-3.new.found)
    (sym (three_are c.args.trees.now start end x c.in-len3.len_at_least c.in-len3.len_below c.start-item.is c.end-item.is c.x-item-then-trees-lt4.is))
    (window_three s l start end x E c.args.days.now c.in_ok-window-in-len3.window c.in_ok-first-in-len3.first c.in_ok-last-in-len3.last c.args.found.now c.spread_among-in-len3.new.found c.spread_among-in-len3-2.new.found _ (c.in_ok-spread_among-in-len3.ensures.adds live known) (c.in_ok-spread_among-in-len3-2.ensures.adds live (c.in_ok-spread_among-in-len3.ensures.stays live known))
    (c.in_ok-first-in-len3.ensures.line live (c.in_ok-spread_among-in-len3-2.ensures.stays live (c.in_ok-spread_among-in-len3.ensures.stays live known)).1) (c.in_ok-last-in-len3.ensures.line live (c.in_ok-first-in-len3.ensures.stay live c.spread_among-in-len3-2.new.found (c.in_ok-spread_among-in-len3-2.ensures.stays live (c.in_ok-spread_among-in-len3.ensures.stays live known))).1) c.in_ok-window-in-len3.ensures a)) (c.spread_among-in-len3-3.ensures.adds live (c.in_ok-last-in-len3.ensures.stay live c.spread_among-in-len3-2.new.found (c.in_ok-first-in-len3.ensures.stay live c.spread_among-in-len3-2.new.found (c.in_ok-spread_among-in-len3-2.ensures.stays live (c.in_ok-spread_among-in-len3.ensures.stays live known)))))

pub spread_over-returns-in_default : goal.spread_over-returns-in_default
spread_over-returns-in_default g t c = λ names live.
    let s = g.S.Sight.shape c.args.sight.now in let l = g.S.Sight.look c.args.sight.now in let E = c.args.enclosing.now in
    adds_same (on c.args.days.now) (λ _. []) _ c.args.found.now _ (λ d _ _. over_few s l c.args.quant c.args.target c.args.names.now c.args.trees.now E d c.in_default.len_below) (adds_nothing (on c.args.days.now) c.args.found.now)

pub spread_over-returns-in_default-2 : goal.spread_over-returns-in_default-2
spread_over-returns-in_default-2 g t c = λ names live.
    let s = g.S.Sight.shape c.args.sight.now in let l = g.S.Sight.look c.args.sight.now in let E = c.args.enclosing.now in
    adds_same (on c.args.days.now) (λ _. []) _ c.args.found.now _ (λ d _ _. over_two s l c.args.quant c.args.target c.args.names.now c.args.trees.now E d c.in-len2.len_at_least c.in-len2.len_below (sym c.is_sum_if.ensures ∙ c.if-is_sum_if.false)) (adds_nothing (on c.args.days.now) c.args.found.now)

pub spread_over-returns-in_default-3 : goal.spread_over-returns-in_default-3
spread_over-returns-in_default-3 g t c = λ names live.
    let s = g.S.Sight.shape c.args.sight.now in let l = g.S.Sight.look c.args.sight.now in let E = c.args.enclosing.now in
    adds_same (on c.args.days.now) (λ _. []) _ c.args.found.now _ (λ d _ _. over_many s l c.args.quant c.args.target c.args.names.now c.args.trees.now E d c.in_default.len_at_least) (adds_nothing (on c.args.days.now) c.args.found.now)

pub each_member-loop-name-preserved : goal.each_member-loop-name-preserved
each_member-loop-name-preserved g t c = (
  λ names live.
      let s = g.S.Sight.shape c.args.sight.now in let l = g.S.Sight.look c.args.sight.now in let E = c.args.enclosing.now in
      let inner : c.as_slice.result.now ≡ named c.args.target c.name-item.result ∷ E = c.as_slice.ensures ∙ c.in_ok-inner.ensures in
      let lives : AllByRecursion (g.S.Sight.live c.args.sight.now) (named c.args.target c.name-item.result ∷ E) = (all_at (λ n. g.S.Sight.live c.args.sight.now (named c.args.target n)) c.args.names.now c.loop-name.name-index c.name-item.result names c.loop-name-test.true c.name-item.is, live) in
      let within = subst (AllByRecursion (g.S.Sight.live c.args.sight.now)) (sym inner) lives in
      each_step (on c.args.days.now) (λ d n. uses s l c.args.tree.now (named c.args.target n ∷ E) d) c.args.names.now c.loop-name.name-index c.name-item.result _ _ _ c.loop-name-test.true c.name-item.is (c.loop-name.invariant.0 names live)
      (subst (λ es. Adds (on c.args.days.now) (uses s l c.args.tree.now es) c.loop-name.found c.spread_among.new.found) inner (c.in_ok-spread_among.ensures.adds within (c.loop-name.invariant.1 names live))),
  λ names live. c.in_ok-spread_among.ensures.stays (subst (AllByRecursion (g.S.Sight.live c.args.sight.now)) (sym (c.as_slice.ensures ∙ c.in_ok-inner.ensures)) (all_at (λ n. g.S.Sight.live c.args.sight.now (named c.args.target n)) c.args.names.now c.loop-name.name-index c.name-item.result names c.loop-name-test.true c.name-item.is, live)) (c.loop-name.invariant.1 names live),
)

pub each_member-returns : goal.each_member-returns
each_member-returns g t c = λ names live.
    let s = g.S.Sight.shape c.args.sight.now in let l = g.S.Sight.look c.args.sight.now in let E = c.args.enclosing.now in
    subst (λ ns. Adds (on c.args.days.now) (λ d. flat_map (λ n. uses s l c.args.tree.now (named c.args.target n ∷ E) d) ns) c.args.found.now c.loop-name.found) (take_whole c.args.names.now c.loop-name.name-index c.loop-name-test.false) (c.loop-name.invariant.0 names live)

pub first_members-loop-name-preserved : goal.first_members-loop-name-preserved
first_members-loop-name-preserved g t c = (
  λ names live.
      let s = g.S.Sight.shape c.args.sight.now in let l = g.S.Sight.look c.args.sight.now in let E = c.args.enclosing.now in
      let inner : c.as_slice.result.now ≡ named c.args.target c.name-item.result ∷ E = c.as_slice.ensures ∙ c.in_ok-inner.ensures in
      let lives : AllByRecursion (g.S.Sight.live c.args.sight.now) (named c.args.target c.name-item.result ∷ E) = (all_at (λ n. g.S.Sight.live c.args.sight.now (named c.args.target n)) c.args.names.now c.loop-name.name-index c.name-item.result names c.loop-name-test.true c.name-item.is, live) in
      let within = subst (AllByRecursion (g.S.Sight.live c.args.sight.now)) (sym inner) lives in
      let inner' : c.as_slice-in-loop-name.result.now ≡ named c.args.target c.name-item.result ∷ E = c.as_slice-in-loop-name.ensures ∙ c.in_ok-inner.ensures in
      let lives' : AllByRecursion (g.S.Sight.live c.args.sight.now) (named c.args.target c.name-item.result ∷ E) = (all_at (λ n. g.S.Sight.live c.args.sight.now (named c.args.target n)) c.args.names.now c.loop-name.name-index c.name-item.result names c.loop-name-test.true c.name-item.is, live) in
      let within' = subst (AllByRecursion (g.S.Sight.live c.args.sight.now)) (sym inner') lives' in
      going_step (λ d n. is_truth c.args.truth (value s l c.args.tree.now (named c.args.target n ∷ E) d)) (λ d n. uses s l c.args.tree.now (named c.args.target n ∷ E) d) c.args.names.now c.args.days.now c.loop-name.name-index c.name-item.result c.args.truth c.in_ok-line.line c.in_ok-undecided.undecided c.loop-name.left c.in_ok-left-2.left c.in_ok-first.first
      c.args.found.now c.loop-name.found c.spread_among.new.found c.loop-name-test.true c.name-item.is (c.loop-name.invariant.0 names live)
      (λ d lt. ap (is_truth c.args.truth) (line_at _ c.in_ok-line.line d (subst (λ es. StandsFor DAYS (value s l c.args.tree.now es) c.in_ok-line.line) inner (c.in_ok-line.ensures.line within)) lt))
      (c.in_ok-undecided.ensures.left names live) c.in_ok-first.ensures c.in_ok-left-2.ensures (subst (λ es. Adds (on c.in_ok-first.first) (uses s l c.args.tree.now es) c.loop-name.found c.spread_among.new.found) inner' (c.in_ok-spread_among.ensures.adds within' (c.loop-name.invariant.1 names live))),
  λ names live. c.in_ok-spread_among.ensures.stays (subst (AllByRecursion (g.S.Sight.live c.args.sight.now)) (sym (c.as_slice-in-loop-name.ensures ∙ c.in_ok-inner.ensures)) (all_at (λ n. g.S.Sight.live c.args.sight.now (named c.args.target n)) c.args.names.now c.loop-name.name-index c.name-item.result names c.loop-name-test.true c.name-item.is, live)) (c.loop-name.invariant.1 names live),
  c.in_ok-line.ensures.stay,
)

pub first_members-returns : goal.first_members-returns
first_members-returns g t c = λ names live.
    let s = g.S.Sight.shape c.args.sight.now in let l = g.S.Sight.look c.args.sight.now in let E = c.args.enclosing.now in
    going_end (λ d n. is_truth c.args.truth (value s l c.args.tree.now (named c.args.target n ∷ E) d)) (λ d n. uses s l c.args.tree.now (named c.args.target n ∷ E) d) c.args.names.now c.args.days.now c.loop-name.name-index c.loop-name.left c.args.found.now c.loop-name.found
    (take_whole c.args.names.now c.loop-name.name-index c.loop-name-test.false) (c.loop-name.invariant.0 names live)

pub taken_members-loop-name-preserved : goal.taken_members-loop-name-preserved
taken_members-loop-name-preserved g t c = (
  λ names live.
      let s = g.S.Sight.shape c.args.sight.now in let l = g.S.Sight.look c.args.sight.now in let E = c.args.enclosing.now in
      let inner : c.as_slice.result.now ≡ named c.args.target c.name-item.result ∷ E = c.as_slice.ensures ∙ c.in_ok-inner.ensures in
      let lives : AllByRecursion (g.S.Sight.live c.args.sight.now) (named c.args.target c.name-item.result ∷ E) = (all_at (λ n. g.S.Sight.live c.args.sight.now (named c.args.target n)) c.args.names.now c.loop-name.name-index c.name-item.result names c.loop-name-test.true c.name-item.is, live) in
      let within = subst (AllByRecursion (g.S.Sight.live c.args.sight.now)) (sym inner) lives in
      let inner' : c.as_slice-in-loop-name.result.now ≡ named c.args.target c.name-item.result ∷ E = c.as_slice-in-loop-name.ensures ∙ c.in_ok-inner.ensures in
      let lives' : AllByRecursion (g.S.Sight.live c.args.sight.now) (named c.args.target c.name-item.result ∷ E) = (all_at (λ n. g.S.Sight.live c.args.sight.now (named c.args.target n)) c.args.names.now c.loop-name.name-index c.name-item.result names c.loop-name-test.true c.name-item.is, live) in
      let within' = subst (AllByRecursion (g.S.Sight.live c.args.sight.now)) (sym inner') lives' in
      let stands = subst (λ es. StandsFor DAYS (value s l c.args.test.now es) c.in_ok-line.line) inner (c.in_ok-line.ensures.line within) in
      each_step (on c.args.days.now) (λ d n. taken_uses s l c.args.number.now c.args.test.now (named c.args.target n ∷ E) d) c.args.names.now c.loop-name.name-index c.name-item.result _ _ _ c.loop-name-test.true c.name-item.is (c.loop-name.invariant.0 names live)
      (adds_where (on c.args.days.now) (λ d. is_true (value s l c.args.test.now (named c.args.target c.name-item.result ∷ E) d)) (on c.in_ok-taken.taken) (uses s l c.args.number.now (named c.args.target c.name-item.result ∷ E)) _ _
      (λ d lt. on_is _ c.in_ok-taken.taken d c.in_ok-taken.ensures lt ∙ ap (λ v. on c.args.days.now d && is_true v) (line_at _ c.in_ok-line.line d stands lt))
      (subst (λ es. Adds (on c.in_ok-taken.taken) (uses s l c.args.number.now es) c.loop-name.found c.spread_among.new.found) inner' (c.in_ok-spread_among.ensures.adds within' (c.loop-name.invariant.1 names live)))),
  λ names live. c.in_ok-spread_among.ensures.stays (subst (AllByRecursion (g.S.Sight.live c.args.sight.now)) (sym (c.as_slice-in-loop-name.ensures ∙ c.in_ok-inner.ensures)) (all_at (λ n. g.S.Sight.live c.args.sight.now (named c.args.target n)) c.args.names.now c.loop-name.name-index c.name-item.result names c.loop-name-test.true c.name-item.is, live)) (c.loop-name.invariant.1 names live),
  c.in_ok-line.ensures.stay,
)

pub taken_members-returns : goal.taken_members-returns
taken_members-returns g t c = λ names live.
    let s = g.S.Sight.shape c.args.sight.now in let l = g.S.Sight.look c.args.sight.now in let E = c.args.enclosing.now in
    subst (λ ns. Adds (on c.args.days.now) (λ d. flat_map (λ n. taken_uses s l c.args.number.now c.args.test.now (named c.args.target n ∷ E) d) ns) c.args.found.now c.loop-name.found) (take_whole c.args.names.now c.loop-name.name-index c.loop-name-test.false) (c.loop-name.invariant.0 names live)

pub spread_over-returns-in_ok-each_member-in-len2 : goal.spread_over-returns-in_ok-each_member-in-len2
spread_over-returns-in_ok-each_member-in-len2 g t c = λ names live.
    let s = g.S.Sight.shape c.args.sight.now in let l = g.S.Sight.look c.args.sight.now in let E = c.args.enclosing.now in
    on_ok_weaker c.taken_members.result (λ a. subst (λ ts. Adds (on c.args.days.now) (over_uses s l c.args.quant c.args.target (Some c.args.names.now) (map (λ e. (e, uses s l e)) ts) E) c.args.found.now c.taken_members.new.found)
    (sym (two_are c.args.trees.now c.number-item.result c.test-item.result c.in-len2.len_at_least c.in-len2.len_below c.number-item.is c.test-item.is))
    (over_tested s l c.args.quant c.args.target c.args.names.now c.number-item.result c.test-item.result E c.args.days.now c.args.found.now _ _ (sym c.is_sum_if.ensures ∙ c.if-is_sum_if.true) (c.in_ok-each_member-in-len2.ensures names live) a)) (c.taken_members.ensures names live)

pub spread_among-returns-clause-adds : goal.spread_among-returns-clause-adds
spread_among-returns-clause-adds g t c = λ live known.
    let s = g.S.Sight.shape c.args.sight.now in let l = g.S.Sight.look c.args.sight.now in let E = c.args.enclosing.now in
    let a = adds_missing s l c.args.kept.now.trees.items c.args.tree.now E c.args.days.now c.in_ok-missing.missing c.args.found.now c.spread_tree-2.new.found (subst (λ (ks : List SpreadTree). IsMissing s l ks c.args.tree.now E c.args.days.now c.in_ok-missing.missing) c.deref.ensures.value c.in_ok-missing.ensures) known.0 (c.in_ok-spread_tree.ensures.adds live known) in
    on_ok_weaker c.note.result (λ _. a) c.note.ensures

pub spread_among-returns-clause-stays : goal.spread_among-returns-clause-stays
spread_among-returns-clause-stays g t c =
    let s = g.S.Sight.shape c.args.sight.now in let l = g.S.Sight.look c.args.sight.now in let E = c.args.enclosing.now in
    on_ok_weaker c.note.result (λ h live known. h s l c.spread_tree-2.new.found
    (added_found s l c.args.tree.now E c.args.days.now c.args.found.now c.spread_tree-2.new.found (adds_missing s l c.args.kept.now.trees.items c.args.tree.now E c.args.days.now c.in_ok-missing.missing c.args.found.now c.spread_tree-2.new.found (subst (λ (ks : List SpreadTree). IsMissing s l ks c.args.tree.now E c.args.days.now c.in_ok-missing.missing) c.deref.ensures.value c.in_ok-missing.ensures) known.0 (c.in_ok-spread_tree.ensures.adds live known)))
    (c.in_ok-spread_tree.ensures.stays live known)) c.note.ensures

pub spread_tree-returns-in-Some-clause-stays : goal.spread_tree-returns-in-Some-clause-stays
spread_tree-returns-in-Some-clause-stays g t c =
    let s = g.S.Sight.shape c.args.sight.now in let l = g.S.Sight.look c.args.sight.now in let E = c.args.enclosing.now in
    on_ok_weaker c.add_days.result (λ a live known. (found_grow s l _ _ c.args.found.now c.add_days.new.found c.args.kept.now.trees.items a known.0, known.1)) c.add_days.ensures

pub spread_tree-returns-in_ok-rest-in-Table-clause-stays : goal.spread_tree-returns-in_ok-rest-in-Table-clause-stays
spread_tree-returns-in_ok-rest-in-Table-clause-stays g t c =
    on_ok_weaker c.spread_among-in-Table.result (λ h live known. h live (c.in_ok-rest-in-Table.ensures.stays live known)) c.spread_among-in-Table.ensures.stays

pub spread_tree-returns-in-Over-clause-stays : goal.spread_tree-returns-in-Over-clause-stays
spread_tree-returns-in-Over-clause-stays g t c =
    let s = g.S.Sight.shape c.args.sight.now in let l = g.S.Sight.look c.args.sight.now in
    on_ok_under _ c.spread_quantifier.result (λ live. on_ok_weaker c.spread_quantifier.result (λ a known. (found_grow s l _ _ c.args.found.now c.spread_quantifier.new.found c.args.kept.now.trees.items a known.0, known.1)) (c.spread_quantifier.ensures live))

pub spread_window-returns-in_ok-window-in-len2-clause-stays : goal.spread_window-returns-in_ok-window-in-len2-clause-stays
spread_window-returns-in_ok-window-in-len2-clause-stays g t c =
    on_ok_weaker c.spread_among-in-len2-2.result (λ h live known. h live (c.in_ok-line-in-len2.ensures.stay live c.spread_among-in-len2.new.found (c.in_ok-spread_among-in-len2.ensures.stays live known))) c.spread_among-in-len2-2.ensures.stays

pub spread_window-returns-in_ok-window-in-len3-clause-stays : goal.spread_window-returns-in_ok-window-in-len3-clause-stays
spread_window-returns-in_ok-window-in-len3-clause-stays g t c =
    on_ok_weaker c.spread_among-in-len3-3.result (λ h live known. h live (c.in_ok-last-in-len3.ensures.stay live c.spread_among-in-len3-2.new.found (c.in_ok-first-in-len3.ensures.stay live c.spread_among-in-len3-2.new.found (c.in_ok-spread_among-in-len3-2.ensures.stays live (c.in_ok-spread_among-in-len3.ensures.stays live known))))) c.spread_among-in-len3-3.ensures.stays
