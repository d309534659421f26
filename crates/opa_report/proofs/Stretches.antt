-- The runs of a set of days.
use Rattle.std.proofs.Common.{◌≡◌, ◌↔◌, ℕ, ◌<◌, Bool, true, false, List, [], ◌∷◌, ◌++◌, map, Some, refl, sym, ◌∙◌, ap, subst}
use Rattle.std.proofs.lemmas.List.{append_assoc}
use Rattle.opa_io.proofs.Lists.{map_append}
use Rattle.opa_date.specs.declared.TheConstants.{DAYS}
use Rattle.opa_value.specs.declared.value.Value.{Value}
use Rattle.opa_line.specs.Lines.{IsLine, StandsFor, canon}
use Rattle.opa_line.proofs.LineLaws.{canon_is_the_line}
use Rattle.opa_model.specs.declared.ids.AttrId.{AttrId}
use Rattle.opa_cells.specs.declared.instance.InstanceId.{InstanceId}
use Rattle.opa_report.specs.DaySets.Spans.{upto}
use Rattle.opa_mean.proofs.Exact.{value_exact}
use Rattle.opa_mean.specs.Sameness.{same_value}
use Rattle.opa_mean.proofs.SameBoth.{value_itself}
use Rattle.opa_report.specs.declared.mark.Mark.{Mark}
use Rattle.opa_report.specs.declared.mark.Mark.TheVariants.{Absent, Present}
use Rattle.opa_report.specs.declared.lines.ReportLine.{ReportLine}
use Rattle.opa_report.specs.ReportLines.{point_line}
use Rattle.opa_report.specs.Runs.{run_of, same_mark, mark_of, marked, stretches, runs}

pub mark_exact : (m n : Mark) → (same_mark m n ≡ true) ↔ (m ≡ n)
mark_exact Absent Absent = (λ _. refl, λ _. refl)
mark_exact Absent (Present w) = (λ h. absurd (cc h), λ h. absurd (cc h))
mark_exact (Present v) Absent = (λ h. absurd (cc h), λ h. absurd (cc h))
mark_exact (Present v) (Present w) = (λ h. ap Present (value_exact v w h), λ h. subst (λ x. same_value v x ≡ true) (same h) (value_itself v))
  where
    same : {v w : Value} → Present v ≡ Present w → v ≡ w
    same h = cc h

-- a line of the values of a set's days is that of its runs
pub runs_are : (set : ℕ → Bool) (f : ℕ → Value) (l : List (ℕ × Mark)) → IsLine DAYS l → StandsFor DAYS (marked set f) l → stretches l ≡ runs set f
runs_are set f l is stands = ap stretches ((canon_is_the_line Mark same_mark mark_exact (marked set f)).2 l is stands)

-- sets and values that are the same at each day of the calendar have the same runs
pub same_runs : (set set' : ℕ → Bool) (f f' : ℕ → Value) → ((d : ℕ) → d < DAYS → set d ≡ set' d) → ((d : ℕ) → d < DAYS → set' d ≡ true → f d ≡ f' d) → runs set f ≡ runs set' f'
same_runs set set' f f' sets values = runs_are set' f' (canon same_mark DAYS (marked set f)) (canon_is_the_line Mark same_mark mark_exact (marked set f)).0 (λ d lt. (canon_is_the_line Mark same_mark mark_exact (marked set f)).1 d lt ∙ ap Some (at d lt))
  where
    go : (b : Bool) (v w : Value) → (b ≡ true → v ≡ w) → mark_of b v ≡ mark_of b w
    go true v w h = ap Present (h refl)
    go false v w h = refl

    at : (d : ℕ) → d < DAYS → marked set f d ≡ marked set' f' d
    at d lt = ap (λ b. mark_of b (f d)) (sets d lt) ∙ go (set' d) (f d) (f' d) (values d lt)

-- one run further
pub run_next : (a : AttrId) (i : InstanceId) (all old new : List ReportLine) (rest later : List (ℕ × Mark)) (p : ℕ × Mark) (end : ℕ) → rest ≡ p ∷ later → end ≡ upto later
    → old ++ map (point_line a i) (stretches rest) ≡ all → new ≡ old ++ map (point_line a i) (run_of p.0 end p.1) → new ++ map (point_line a i) (stretches later) ≡ all
run_next a i all old new rest later p end front is before next =
    ap (λ ls. ls ++ map (point_line a i) (stretches later)) (next ∙ ap (λ e. old ++ map (point_line a i) (run_of p.0 e p.1)) is)
    ∙ append_assoc old (map (point_line a i) (run_of p.0 (upto later) p.1)) (map (point_line a i) (stretches later))
    ∙ ap (λ ls. old ++ ls) (sym (map_append (point_line a i) (run_of p.0 (upto later) p.1) (stretches later)) ∙ ap (λ l. map (point_line a i) (stretches l)) (sym front))
    ∙ before

-- no day, no run
pub no_runs : (set : ℕ → Bool) (f : ℕ → Value) → ((d : ℕ) → d < DAYS → set d ≡ false) → runs set f ≡ []
no_runs set f none = sym (runs_are set f ((0, Absent) ∷ []) (refl, tt) (λ d lt. ap (λ b. Some (mark_of b (f d))) (sym (none d lt))))
