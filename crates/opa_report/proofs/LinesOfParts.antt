-- The lines of the parts of a tree.
use Rattle.std.proofs.Common.{◌≡◌, ℕ, ◌+◌, ◌<◌, Bool, ◌||◌, ◌&&◌, not, List, [], ◌∷◌, ◌++◌, get_or, take, drop, length, Some, refl, sym, ◌∙◌, ap, ap₂, subst}
use Rattle.std.specs.List.{list_any}
use Rattle.std.proofs.lemmas.List.{drop_more}
use Rattle.opa_date.specs.declared.TheConstants.{DAYS}
use Rattle.opa_value.specs.declared.value.Value.{Value}
use Rattle.opa_line.specs.Lines.{StandsFor}
use Rattle.opa_case.specs.Shapes.{Shape}
use Rattle.opa_cells.specs.declared.instance.InstanceId.{InstanceId}
use Rattle.opa_tree.specs.declared.expr.Expr.{Expr}
use Rattle.opa_window.specs.Days.{day_value}
use Rattle.opa_mean.specs.Looks.{Look}
use Rattle.opa_mean.specs.Meaning.{value}
use Rattle.opa_report.specs.DaySets.Sets.{on}
use Rattle.opa_report.specs.Spreading.{is_truth, AreLines}
use Rattle.opa_report.proofs.Firsts.{next_item}
use Rattle.opa_report.proofs.Going.{line_at}

module _ (s : Shape) (l : Look) (enclosing : List InstanceId) where
  lines_more : (ts : List Expr) (xs : List (List (ℕ × Value))) (t : Expr) (x : List (ℕ × Value)) → AreLines s l enclosing ts xs → StandsFor DAYS (value s l t enclosing) x → AreLines s l enclosing (ts ++ t ∷ []) (xs ++ x ∷ [])
  lines_more [] [] t x are is = (is, tt)
  lines_more (u ∷ ts) (y ∷ xs) t x are is = (are.0, lines_more ts xs t x are.1 is)
  lines_more [] (y ∷ xs) t x are is = absurd are
  lines_more (u ∷ ts) [] t x are is = absurd are

  -- one more
  pub lines_step : (ts : List Expr) (xs : List (List (ℕ × Value))) (i : ℕ) (t : Expr) (x : List (ℕ × Value)) → i < length ts → t ≡ get_or ts i t → AreLines s l enclosing (take i ts) xs → StandsFor DAYS (value s l t enclosing) x → AreLines s l enclosing (take (i + 1) ts) (xs ++ x ∷ [])
  lines_step ts xs i t x lt is are here = subst (λ us. AreLines s l enclosing us (xs ++ x ∷ [])) (sym (next_item ts i t lt is)) (lines_more (take i ts) xs t x are here)

  -- the first of those that are left is the next tree's
  pub lines_rest : (ts : List Expr) (i : ℕ) (t : Expr) (rest after : List (List (ℕ × Value))) (x : List (ℕ × Value)) → i < length ts → t ≡ get_or ts i t → rest ≡ x ∷ after → AreLines s l enclosing (drop i ts) rest → StandsFor DAYS (value s l t enclosing) x × AreLines s l enclosing (drop (i + 1) ts) after
  lines_rest ts i t rest after x lt is cut are =
      subst (λ xs. AreLines s l enclosing (t ∷ drop (i + 1) ts) xs) cut (subst (λ us. AreLines s l enclosing us rest) (drop_more ts i t lt ∙ ap (λ u. u ∷ drop (i + 1) ts) (sym is)) are)

  -- on a day one of the lines has a truth value where one of the trees has it
  pub any_lines : (truth : Bool) (d : ℕ) (ts : List Expr) (xs : List (List (ℕ × Value))) → d < DAYS → AreLines s l enclosing ts xs → list_any (λ x. is_truth truth (day_value x d)) xs ≡ list_any (λ t. is_truth truth (value s l t enclosing d)) ts
  any_lines truth d [] [] low are = refl
  any_lines truth d (t ∷ ts) (x ∷ xs) low are = ap₂ (λ a b. a || b) (ap (is_truth truth) (line_at _ x d are.0 low)) (any_lines truth d ts xs low are.1)
  any_lines truth d [] (x ∷ xs) low are = absurd are
  any_lines truth d (t ∷ ts) [] low are = absurd are

  pub undecided_is : (truth : Bool) (ts : List Expr) (xs : List (List (ℕ × Value))) (days undecided : List (ℕ × Bool)) → AreLines s l enclosing ts xs → StandsFor DAYS (λ d. on days d && not (list_any (λ x. is_truth truth (day_value x d)) xs)) undecided → StandsFor DAYS (λ d. on days d && not (list_any (λ t. is_truth truth (value s l t enclosing d)) ts)) undecided
  undecided_is truth ts xs days undecided are stands = λ d low. stands d low ∙ ap (λ b. Some (on days d && not b)) (any_lines truth d ts xs low are)
