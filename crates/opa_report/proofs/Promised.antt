-- All that is promised of a report.
use Rattle.std.proofs.Common.{◌≡◌, ◌↔◌, ℕ, ◌<◌, Bool, true, List, Option, None, Some, Result, IfOk, IfSome, refl, sym, ◌∙◌, ap, subst}
use Rattle.std.specs.Prelude.{◌&&◌, nat_lt, length}
use Rattle.std.proofs.lemmas.Bool.{and_parts}
use Rattle.opa_date.specs.declared.TheConstants.{DAYS}
use Rattle.opa_model.specs.declared.ids.AttrId.{AttrId}
use Rattle.opa_cells.specs.declared.instance.InstanceId.{InstanceId}
use Rattle.opa_case.specs.Cases.{CaseView, IsLive}
use Rattle.opa_case.specs.Live.{is_live}
use Rattle.opa_case.specs.Shapes.{shape_of}
use Rattle.opa_tree.specs.declared.rulebase.Rulebase.{Rulebase}
use Rattle.opa_mean.specs.Given.{base_of, facts_of}
use Rattle.opa_mean.specs.Mean.{look_of, mean}
use Rattle.opa_mean.specs.Rulebases.{IsOf}
use Rattle.opa_mean.specs.Slots.{has_place}
use Rattle.opa_mean.specs.Uses.{Point}
use Rattle.opa_mean.proofs.Fitting.{in_live}
use Rattle.opa_report.specs.declared.lines.Report.{Report}
use Rattle.opa_report.specs.declared.lines.ReportLine.{ReportLine}
use Rattle.opa_report.specs.Promises.{is_point, Keeps}
use Rattle.opa_report.specs.Reporting.{IsWhole}
use Rattle.opa_report.specs.Walking.{Sees}
use Rattle.opa_report.proofs.DeclaredLines.{lines_declared}
use Rattle.opa_report.proofs.Entries.{listed_had, have_days}
use Rattle.opa_report.proofs.Listing.{all_listed, report_supports}

pub some_weaker : {X : Type 0} (o : Option X) (P Q : X → Type 0) → ((x : X) → P x → Q x) → IfSome o P → IfSome o Q
some_weaker None P Q f h = h
some_weaker (Some x) P Q f h = f x h

-- what is seen of a held case
pub seen : (r : Rulebase) (k : CaseView) → Sees (shape_of r.model) (look_of (facts_of k) (mean (base_of r) (facts_of k))) (λ i. IsLive k i) (base_of r) (facts_of k)
seen r k = record { shape = refl; look = refl; live = λ i h. in_live k i h }

pub held_whole : {E : Type 0} (o : Result (List ReportLine) E) (r r' : Rulebase) (k k' : CaseView) (a : AttrId) (i : InstanceId) (d : ℕ) → r' ≡ r → k' ≡ k
    → (Sees (shape_of r.model) (look_of (facts_of k) (mean (base_of r) (facts_of k))) (λ i. IsLive k i) (base_of r') (facts_of k') → is_point r' k' a i ≡ true → IfOk o (IsWhole (base_of r') (facts_of k') (Point a i d)))
    → is_point r k a i ≡ true → IfOk o (IsWhole (base_of r) (facts_of k) (Point a i d))
held_whole o r r' k k' a i d er ek h point =
    let P : Rulebase → CaseView → Type 0 = λ q c. Sees (shape_of r.model) (look_of (facts_of k) (mean (base_of r) (facts_of k))) (λ i. IsLive k i) (base_of q) (facts_of c) → is_point q c a i ≡ true → IfOk o (IsWhole (base_of q) (facts_of c) (Point a i d)) in
    subst (λ (q : Rulebase). P q k) er (subst (λ (c : CaseView). P r' c) ek h) (seen r k) point

abbrev made : AttrId → InstanceId → ℕ → List ReportLine → Report
made a i d lines = record { attr = a; inst = i; day = d; lines = lines }

kept : (r : Rulebase) (k : CaseView) → IsOf r k → (a : AttrId) (i : InstanceId) (d : ℕ) (lines : List ReportLine) → is_point r k a i ≡ true → IsWhole (base_of r) (facts_of k) (Point a i d) lines → Keeps r k a i d (made a i d lines)
kept r k is a i d lines point w =
    let placed = (and_parts (nat_lt a.0 (length r.model.attributes)) (has_place r k a i) point).1 in
    let live : IsLive k i = (and_parts (is_live k.live i) _ placed).0 in record {
      point = record { attr = refl; inst = refl; day = refl };
      exact = w.report;
      supports = report_supports r k is a i d live w.lies lines w.report;
      entries = λ e. (λ h. listed_had (base_of r) (facts_of k) (Point a i d) lines w.report h, λ h. all_listed (base_of r) (facts_of k) (Point a i d) lines w.report w.lies h);
      days = have_days (base_of r) (facts_of k) (Point a i d) lines w.report;
      declared = lines_declared r k is (Point a i d) lines w.report;
    }

pub report_kept : (r : Rulebase) (k : CaseView) → IsOf r k → (a : AttrId) (i j : InstanceId) (d : ℕ) (lines : List ReportLine) → is_point r k a i ≡ true → j ≡ i → IsWhole (base_of r) (facts_of k) (Point a i d) lines → Keeps r k a i d (made a j d lines)
report_kept r k is a i j d lines point same w = subst (λ (i' : InstanceId). Keeps r k a i d (made a i' d lines)) (sym same) (kept r k is a i d lines point w)
