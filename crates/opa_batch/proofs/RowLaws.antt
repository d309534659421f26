-- The cells of a row, goal by goal.
use Rattle.std.proofs.Common.{◌≡◌, ◌<◌, ◌≤◌, ◌+◌, ℕ, suc, List, [], ◌∷◌, ◌++◌, length, map, drop, get_or, refl, sym, ap, ◌∙◌, append_assoc, append-nil, add-one, drop-cons}
use Rattle.std.specs.Prelude.{Some, slice_get}
use Rattle.std.proofs.lemmas.List.{drop_all}
use Rattle.std.proofs.lemmas.Option.{slice_get-get_or, slice_get_within, get_or_from_slice_get}
use Rattle.opa_model.specs.declared.ids.AttrId.{AttrId}
use Rattle.opa_batch.specs.Rows.{empty_cell}
use Rattle.opa_batch.specs.Numbered.{IsGoalCell, AreUpTo}

module _ (cell : AttrId → List ℕ) (goals : List AttrId) (first : List ℕ) where
  pub no_goal_yet : (cells : List (List ℕ)) → cells ≡ first ∷ [] → AreUpTo cell goals first 0 cells
  no_goal_yet cells e = ap (λ xs. xs ++ map cell goals) e

  at_goal : (n : ℕ) (a : AttrId) → slice_get goals n ≡ Some a → drop n goals ≡ a ∷ drop (n + 1) goals
  at_goal n a at =
      drop-cons goals n a (slice_get_within goals n a at)
      ∙ ap (λ x. x ∷ drop (suc n) goals) (get_or_from_slice_get goals n a a at)
      ∙ ap (λ m. a ∷ drop m goals) (sym (add-one n))

  one_more : (n : ℕ) (a : AttrId) (cells new : List (List ℕ)) (text : List ℕ) → slice_get goals n ≡ Some a → text ≡ cell a → new ≡ cells ++ text ∷ [] → AreUpTo cell goals first n cells → AreUpTo cell goals first (n + 1) new
  one_more n a cells new text at is grown upto =
      ap (λ xs. xs ++ map cell (drop (n + 1) goals)) (grown ∙ ap (λ t. cells ++ t ∷ []) is)
      ∙ append_assoc cells (cell a ∷ []) (map cell (drop (n + 1) goals))
      ∙ sym (ap (λ gs. cells ++ map cell gs) (at_goal n a at))
      ∙ upto

  pub next_goal : (n : ℕ) (cells new : List (List ℕ)) (text : List ℕ) → n < length goals → IsGoalCell cell goals n text → new ≡ cells ++ text ∷ [] → AreUpTo cell goals first n cells → AreUpTo cell goals first (n + 1) new
  next_goal n cells new text lt is grown upto =
      let a : AttrId = get_or goals n (record { 0 = 0 }) in
      let at : slice_get goals n ≡ Some a = slice_get-get_or goals n (record { 0 = 0 }) lt in
      one_more n a cells new text at (is a at) grown upto

  all_goals : (n : ℕ) (cells : List (List ℕ)) → length goals ≤ n → AreUpTo cell goals first n cells → cells ≡ first ∷ map cell goals
  all_goals n cells le upto = sym (append-nil cells) ∙ ap (λ gs. cells ++ map cell gs) (sym (drop_all n goals le)) ∙ upto

  -- and a last cell
  pub whole_row : (n : ℕ) (cells new : List (List ℕ)) (last : List ℕ) → length goals ≤ n → new ≡ cells ++ last ∷ [] → AreUpTo cell goals first n cells → new ≡ first ∷ (map cell goals ++ last ∷ [])
  whole_row n cells new last le grown upto = grown ∙ ap (λ xs. xs ++ last ∷ []) (all_goals n cells le upto)

pub nothing_there : (goals : List AttrId) (n : ℕ) → IsGoalCell empty_cell goals n []
nothing_there goals n = λ a at. refl
