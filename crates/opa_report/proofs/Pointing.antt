-- The lines of a slot.
use Rattle.std.proofs.Common.{◌≡◌, ℕ, ◌+◌, ◌<◌, Bool, true, false, ◌&&◌, List, [], ◌∷◌, ◌++◌, map, take, length, get_or, None, Some, refl, sym, ◌∙◌, ap}
use Rattle.std.specs.Prelude.{nat_lt, flat_map}
use Rattle.std.specs.FinMap.{get}
use Rattle.std.proofs.lemmas.Bool.{lt-ltb}
use Rattle.std.proofs.lemmas.List.{append_assoc, append-nil}
use Rattle.opa_date.specs.declared.TheConstants.{DAYS}
use Rattle.opa_value.specs.declared.value.Value.{Value}
use Rattle.opa_line.specs.Lines.{StandsFor}
use Rattle.opa_case.specs.Shapes.{Shape}
use Rattle.opa_model.specs.declared.ids.AttrId.{AttrId}
use Rattle.opa_cells.specs.declared.instance.InstanceId.{InstanceId}
use Rattle.opa_report.specs.DaySets.Sets.{on}
use Rattle.opa_report.proofs.day_sets.Setting.{on_is}
use Rattle.opa_window.specs.Days.{day_value}
use Rattle.opa_mean.specs.Looks.{Look}
use Rattle.opa_mean.specs.Mean.{Base, Facts, mean}
use Rattle.opa_mean.specs.Uses.{Point}
use Rattle.opa_report.specs.declared.found.Found.{Found}
use Rattle.opa_report.specs.declared.lines.ReportLine.{ReportLine}
use Rattle.opa_report.specs.Finding.{has, on_some}
use Rattle.opa_report.specs.ReportLines.{point_line, slot_lines}
use Rattle.opa_report.specs.Runs.{runs}
use Rattle.opa_report.specs.Walking.{Sees}
use Rattle.opa_report.proofs.Firsts.{next_item}
use Rattle.opa_report.proofs.Going.{line_at}
use Rattle.opa_report.proofs.Stretches.{same_runs, no_runs}

module _ (b : Base) (c : Facts) (found : Found) (a : AttrId) (i : InstanceId) where
  pub no_lines : get found.points (a.0, i) ≡ None → [] ≡ slot_lines b c (has found) a i
  no_lines e = sym (ap (map (point_line a i)) (no_runs (λ d. has found (Point a i d)) (mean b c a i) (λ d lt. ap (λ o. nat_lt d DAYS && on_some o d) e ∙ and_false (nat_lt d DAYS))))
    where
      and_false : (t : Bool) → (t && false) ≡ false
      and_false true = refl
      and_false false = refl

  pub its_lines : (s : Shape) (l : Look) (Live : InstanceId → Type 0) (days days' : List (ℕ × Bool)) (values : List (ℕ × Value)) → Sees s l Live b c → get found.points (a.0, i) ≡ Some days → StandsFor DAYS (on days) days' → StandsFor DAYS (l.value a i) values
      → map (point_line a i) (runs (on days') (day_value values)) ≡ slot_lines b c (has found) a i
  its_lines s l Live days days' values sees got copied stands = ap (map (point_line a i)) (same_runs (on days') (λ d. has found (Point a i d)) (day_value values) (mean b c a i)
      (λ d lt. on_is _ days' d copied lt ∙ ap (λ o. on_some o d) (sym got) ∙ ap (λ t. t && on_some (get found.points (a.0, i)) d) (sym (lt-ltb d DAYS lt)))
      (λ d lt _. line_at _ values d stands lt ∙ ap (λ (m : Look). m.value a i d) sees.look))

pub lines_next : {X : Type 0} (u : X → List ReportLine) (xs : List X) (k : ℕ) (x : X) (old new : List ReportLine) → k < length xs → x ≡ get_or xs k x → old ≡ flat_map u (take k xs) → new ≡ old ++ u x → new ≡ flat_map u (take (k + 1) xs)
lines_next {X = X} u xs k x old new lt is before next = next ∙ ap (λ ls. ls ++ u x) before ∙ sym (ap (flat_map u) (next_item xs k x lt is) ∙ more (take k xs))
  where
    more : (ys : List X) → flat_map u (ys ++ x ∷ []) ≡ flat_map u ys ++ u x
    more [] = append-nil (u x)
    more (y ∷ ys) = ap (λ ls. u y ++ ls) (more ys) ∙ sym (append_assoc (u y) (flat_map u ys) (u x))

pub lines_after : {X : Type 0} (u : X → List ReportLine) (xs : List X) (k : ℕ) (x : X) (start old new : List ReportLine) → k < length xs → x ≡ get_or xs k x → old ≡ start ++ flat_map u (take k xs) → new ≡ old ++ u x → new ≡ start ++ flat_map u (take (k + 1) xs)
lines_after u xs k x start old new lt is before next =
    next ∙ ap (λ ls. ls ++ u x) before ∙ append_assoc start (flat_map u (take k xs)) (u x) ∙ ap (λ ls. start ++ ls) (lines_next u xs k x (flat_map u (take k xs)) (flat_map u (take k xs) ++ u x) lt is refl refl)
