-- What is printed of a verdict, from what its parts ensure.
use Rattle.std.proofs.Common.{◌≡◌, List, ℕ, [], ◌∷◌, Option, None, Some, refl, sym, subst, Bool, true, false}
use Rattle.std.specs.Prelude.{if◌then◌else◌}
use Rattle.std.specs.List.{AllByRecursion}
use Rattle.std.specs.Option.{option_or}
use Rattle.opa_value.specs.declared.value.Value.{Value}
use Rattle.opa_model.specs.declared.ids.AttrId.{AttrId}
use Rattle.opa_model.specs.declared.lists.Lists.{Lists as Model}
use Rattle.opa_cells.specs.declared.instance.InstanceId.{InstanceId}
use Rattle.opa_mean.specs.Given.{base_of}
use Rattle.opa_report.specs.declared.lines.Report.{Report}
use Rattle.opa_report.specs.declared.lines.ReportLine.{ReportLine}
use Rattle.opa_report.specs.declared.lines.ReportLine.TheVariants as line
use Rattle.opa_report.specs.Text.Texts.{IsPrintable}
use Rattle.opa_text.specs.Texts.{IsOfCalendar}
use Rattle.opa_tree.specs.declared.rulebase.Rulebase.{Rulebase}
use Rattle.opa_verify.specs.Support.Proofs.{AreHeldUp}
use Rattle.opa_verify.specs.Support.Told.{first_told, value_by}
use Rattle.opa_verify.proofs.support.Orderly.{held_up_supports_holds}
use Rattle.opa_verify.specs.Verdict.Judging.{IsReadAs, IsTextOfReport, IsUpheld, Judges, asked_value}
use Rattle.opa_verify.specs.Verdict.Telling.{Tells, refused_text, supported_text}
use Rattle.opa_verify.specs.declared.verdict.verdict.Verdict.{Verdict}
use Rattle.opa_verify.specs.declared.verdict.verdict.Verdict.TheVariants as verdict

module _ (r : Rulebase) (text : List ℕ) where
  pub tells_syntax : (k : ℕ) (w : Verdict) (said : List ℕ) → w ≡ verdict.Syntax k → said ≡ refused_text (verdict.Syntax k) → Judges r text (verdict.Syntax k) → Tells r text w said
  tells_syntax k w said e s j = subst (λ v. Tells r text v said) (sym e) (j, s)

  pub tells_name : (k : ℕ) (w : Verdict) (said : List ℕ) → w ≡ verdict.Name k → said ≡ refused_text (verdict.Name k) → Judges r text (verdict.Name k) → Tells r text w said
  tells_name k w said e s j = subst (λ v. Tells r text v said) (sym e) (j, s)

  pub tells_not_derived : (k : ℕ) (w : Verdict) (said : List ℕ) → w ≡ verdict.NotDerived k → said ≡ refused_text (verdict.NotDerived k) → Judges r text (verdict.NotDerived k) → Tells r text w said
  tells_not_derived k w said e s j = subst (λ v. Tells r text v said) (sym e) (j, s)

  pub tells_supported : (x : Report) (v : Value) (w : Verdict) (said : List ℕ) → w ≡ verdict.Yes → said ≡ supported_text r x v → IsTextOfReport r text x → IsReadAs r text x → AreHeldUp (base_of r) x.lines → asked_value x ≡ Some v → Tells r text w said
  tells_supported x v w said e s told read held listed = subst (λ y. Tells r text y said) (sym e) (
      let upheld : IsUpheld r text = record { report = x; read = read; holds = record { told = told; lines = held; value = v; listed = listed } } in
      record { supported = record { upheld = upheld; supports = held_up_supports_holds r x.lines held x.attr x.inst x.day v listed }; says = s }
      )

  pub told_judges : (v : Verdict) (said : List ℕ) → Tells r text v said → Judges r text v
  told_judges verdict.Yes said t = t.supported.upheld
  told_judges (verdict.Syntax k) said t = t.0
  told_judges (verdict.Name k) said t = t.0
  told_judges (verdict.NotDerived k) said t = t.0

-- what is listed is of the calendar, where lines can be printed
module _ (m : Model) (a : AttrId) (i : InstanceId) (d : ℕ) where
  by_line : (l : ReportLine) (v : Value) → IsPrintable m l → value_by a i d l ≡ Some v → IsOfCalendar v
  by_line (line.Point b j s t w) v p e = go _ e
    where
      go : (c : Bool) → (if c then Some w else None) ≡ Some v → IsOfCalendar v
      go true q = let same : w ≡ v = cc q in subst IsOfCalendar same p.1.1.1
      go false q = absurd (cc q)
  by_line (line.Members q j names) v p e = absurd (cc e)
  by_line (line.Member q k j) v p e = absurd (cc e)

  pub listed_day : (lines : List ReportLine) (v : Value) → AllByRecursion (IsPrintable m) lines → first_told (value_by a i d) lines ≡ Some v → IsOfCalendar v
  listed_day [] v p e = absurd (cc e)
  listed_day (l ∷ lines) v p e = go (value_by a i d l) refl e (λ q. listed_day lines v p.1 q)
    where
      go : (o : Option Value) → value_by a i d l ≡ o → option_or o (first_told (value_by a i d) lines) ≡ Some v → (first_told (value_by a i d) lines ≡ Some v → IsOfCalendar v) → IsOfCalendar v
      go None is q rest = rest q
      go (Some w) is q rest = let same : w ≡ v = cc q in subst IsOfCalendar same (by_line l w p.0 is)
