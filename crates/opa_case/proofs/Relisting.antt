-- What is left of a case where a list is set or forgotten, part by part, is the case that the list makes.
use Rattle.std.specs.Prelude.{◌≡◌, ◌<◌, ◌&&◌, ℕ, Bool, cond, nat_lt, List, [], Option, None, Some, Ok, unwrap_or}
use Rattle.std.specs.List.{list_any}
use Rattle.std.specs.FinMap.{FinMap, get}
use Rattle.std.proofs.Common.{ap, subst, ◌∙◌}
use Rattle.opa_model.specs.declared.ids.RelId.{RelId}
use Rattle.opa_cells.specs.declared.instance.InstanceId.{InstanceId}
use Rattle.opa_cells.specs.Keys.{cell_cmp}
use Rattle.opa_case.specs.declared.change.ChangeCommand.TheVariants.{SetList, Forget}
use Rattle.opa_case.specs.declared.moves.Moves.{Moves}
use Rattle.opa_case.specs.Shapes.{Shape, IsShape}
use Rattle.opa_case.specs.Live.{Names, Population}
use Rattle.opa_case.specs.Cases.{CaseView, Answer}
use Rattle.opa_case.specs.Fits.{Fits}
use Rattle.opa_case.specs.Homes.{AreCounts}
use Rattle.opa_case.specs.Lost.{goes_with, answers_of}
use Rattle.opa_case.specs.Moves.{relist, AreMovesOf}
use Rattle.opa_case.specs.Relists.{relisted, lists_with, AreReferred}
use Rattle.opa_case.specs.Steps.{list_fault, set_list, within, with_list}
use Rattle.opa_case.specs.Turns.{Turns}
use Rattle.opa_case.specs.Whole.{IsWhole}
use Rattle.opa_case.proofs.Kept.{list_kept, forgotten_kept, passed, tests_passed}
use Rattle.opa_case.proofs.Overlaid.{none_turn, referred_with}
use Rattle.opa_case.proofs.Referring.{names_live}
use Rattle.opa_case.proofs.Settling.{set_settled, set_answers, forgotten_settled, forgotten_answers}
use Rattle.opa_case.proofs.Whole.{step_is_whole}

module _ (s : Shape) (ruled : List Bool) (shape : IsShape s) (c : CaseView) (r : RelId) (i : InstanceId) (there : r.0 < s.relations) (fits : Fits s ruled c) where
  pub lists_left : (o : Option Names) → relist s ruled c r i o ≡ Ok (relisted s c r i o) → (gone come : Population) → Turns c.live (relisted s c r i o).live gone come i → (lists : FinMap cell_cmp Names)
      → ((q : ℕ) (j : InstanceId) → get lists (q, j) ≡ cond (nat_lt q s.relations && list_any (λ g. goes_with s g.0 q j (get (lists_with c.lists r i o) (q, j))) gone) None (get (lists_with c.lists r i o) (q, j)))
      → lists ≡ (relisted s c r i o).lists
  lists_left None ok gone come turns = forgotten_settled s ruled c r i fits gone come turns
  lists_left (Some names) ok gone come turns = set_settled s ruled shape c r i names there fits (passed (list_fault s c r i names) (within s ruled (with_list s c r i names)) (with_list s c r i names) ok).0 gone come turns

  pub answers_left : (o : Option Names) → relist s ruled c r i o ≡ Ok (relisted s c r i o) → (gone come : Population) → Turns c.live (relisted s c r i o).live gone come i → (answers : FinMap cell_cmp Answer)
      → ((a : ℕ) (j : InstanceId) → get answers (a, j) ≡ cond (nat_lt a s.attributes && list_any (λ g. answers_of s g.0 a j) gone) None (get c.answers (a, j)))
      → answers ≡ (relisted s c r i o).answers
  answers_left None ok gone come turns = forgotten_answers s ruled c r i fits gone come turns
  answers_left (Some names) ok gone come turns = set_answers s ruled shape c r i names there fits (passed (list_fault s c r i names) (within s ruled (with_list s c r i names)) (with_list s c r i names) ok).0 gone come turns

  pub fits_then : (o : Option Names) → relist s ruled c r i o ≡ Ok (relisted s c r i o) → Fits s ruled (relisted s c r i o)
  fits_then None ok = forgotten_kept s ruled shape c r i fits
  fits_then (Some names) ok = list_kept s ruled shape c r i names there fits (passed (list_fault s c r i names) (within s ruled (with_list s c r i names)) (with_list s c r i names) ok).0

  pub whole_then : (o : Option Names) → relist s ruled c r i o ≡ Ok (relisted s c r i o) → IsWhole c → IsWhole (relisted s c r i o)
  whole_then None ok whole = step_is_whole s ruled shape c (relisted s c r i None) (Forget r i) fits whole ok
  whole_then (Some names) ok whole = step_is_whole s ruled shape c (relisted s c r i (Some names)) (SetList r i names) fits whole ok

  -- each name in a reference list is live, also in the one that is set
  pub set_referred : (names : Names) → set_list s ruled c r i names ≡ Ok (with_list s c r i names) → AreReferred s (lists_with c.lists r i (Some names)) c.live
  set_referred names ok =
      let fine = (passed (list_fault s c r i names) (within s ruled (with_list s c r i names)) (with_list s c r i names) ok).0 in
      referred_with s ruled c fits r i names (λ refers. names_live s ruled shape c fits r i refers names (tests_passed s c r i names fine).free)

-- where the same are live nothing moves
pub none_move : (s : Shape) (c : CaseView) (r : RelId) (i : InstanceId) (o : Option Names) (m : Moves) → c.live ≡ (relisted s c r i o).live → c.every ≡ (relisted s c r i o).every
    → m.went.items ≡ [] → m.came.items ≡ [] → AreCounts m.counts c.live → m.every ≡ None → AreMovesOf s c r i o m
none_move s c r i o m live every went came counts none = record {
  turns = none_turn c.live (relisted s c r i o).live m.went.items m.came.items i live went came;
  counts = subst (AreCounts m.counts) live counts;
  every = ap (λ e. unwrap_or e c.every) none ∙ every;
}
