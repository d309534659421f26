-- What the steps of the verifier come to.
use Rattle.std.proofs.Common.{◌≡◌, ◌⊎◌, inl, inr, ℕ, ◌+◌, ◌<◌, ◌≤◌, List, [], ◌∷◌, ◌++◌, Option, None, Some, Contains, is_some, true, false, length, take, refl, sym, ◌∙◌, ap, subst, append_assoc, append-nil, length-append}
use Rattle.std.specs.Prelude.{slice_get}
use Rattle.std.specs.List.{AllByRecursion}
use Rattle.opa_date.specs.declared.TheConstants.{DAYS}
use Rattle.opa_value.specs.declared.value.Value.{Value}
use Rattle.opa_model.specs.declared.ids.AttrId.{AttrId}
use Rattle.opa_case.specs.Shapes.{attribute_or}
use Rattle.opa_cells.specs.declared.instance.InstanceId.{InstanceId}
use Rattle.opa_tree.specs.declared.rulebase.Rulebase.{Rulebase}
use Rattle.opa_tree.proofs.Members.{none_in, contains_cases}
use Rattle.opa_report.specs.Promises.{HaveDays}
use Rattle.opa_report.specs.declared.lines.Report.{Report}
use Rattle.opa_report.specs.declared.lines.ReportLine.{ReportLine}
use Rattle.opa_report.specs.declared.lines.ReportLine.TheVariants as line
use Rattle.opa_report.specs.Text.Texts.{first_line}
use Rattle.opa_verify.specs.declared.spelling.printed.Printed.{Printed}
use Rattle.opa_verify.specs.declared.spelling.printed.Spelled.{Spelled}
use Rattle.opa_verify.specs.Spelling.Dated.{IsDated}
use Rattle.opa_verify.specs.Spelling.Printed.{lines_text, end_line}
use Rattle.opa_verify.specs.Spelling.Reading.{IsTextOf}
use Rattle.opa_verify.proofs.support.Orderly.{held_up_supports_holds, reports_are_held_up_holds}
use Rattle.opa_mean.specs.Rulebases.{value_at}
use Rattle.opa_verify.specs.Verdict.Laws.{ReportsHoldUp}
use Rattle.opa_verify.specs.Verdict.Judging.{IsReadAs, IsTextOfReport, IsUpheld, Judges, IsSupported}
use Rattle.opa_verify.specs.Verdict.Named.{IsFirstUnnamed}
use Rattle.opa_verify.specs.Verdict.Naming.{named_line, asked_point, AreNamed}
use Rattle.opa_verify.specs.declared.verdict.verdict.Verdict.{Verdict}
use Rattle.opa_verify.specs.declared.verdict.verdict.Verdict.TheVariants as verdict
use Rattle.opa_verify.proofs.verdict.Printing.{asked_is, lines_are, head_is, line_days}

-- ---- the lines, one after another

pub named_none : (b : Rulebase) (xs : List Printed) (ls : List ReportLine) → xs ≡ [] → ls ≡ [] → AreNamed b xs ls
named_none b [] [] e f = tt
named_none b [] (l ∷ ls) e f = absurd (cc f)
named_none b (x ∷ xs) ls e f = absurd (cc e)

pub named_more : (b : Rulebase) (xs : List Printed) (ls : List ReportLine) (x : Printed) (l : ReportLine) → AreNamed b xs ls → named_line b x ≡ Some l → AreNamed b (xs ++ x ∷ []) (ls ++ l ∷ [])
named_more b [] [] x l h e = (e, tt)
named_more b [] (m ∷ ls) x l h e = absurd h
named_more b (y ∷ xs) [] x l h e = absurd h
named_more b (y ∷ xs) (m ∷ ls) x l h e = (h.0, named_more b xs ls x l h.1 e)

-- each that is named has a line
pub named_each : (b : Rulebase) (xs : List Printed) (ls : List ReportLine) → AreNamed b xs ls → (x : Printed) → Contains xs x → named_line b x ≡ None → ⊥
named_each b [] ls h x there e = absurd (none_in x there)
named_each b (y ∷ xs) [] h x there e = absurd h
named_each b (y ∷ xs) (l ∷ ls) h x there e = at (contains_cases y x xs there) (λ k. named_each b xs ls h.1 x k e)
  where
    at : (y ≡ x) ⊎ Contains xs x → (Contains xs x → ⊥) → ⊥
    at (inl q) rest = cc (h.0, ap (named_line b) q, e)
    at (inr k) rest = rest k

-- those before a place are named
pub record Walked (b : Rulebase) (printed rest : List Printed) (lines : List ReportLine) (n : ℕ) : Type 0 where
  pub before : List Printed
  pub parts : printed ≡ before ++ rest
  pub many : length before ≡ n
  pub are_named : AreNamed b before lines
  pub dated : AllByRecursion IsDated rest

pub walked_none : (b : Rulebase) (printed : List Printed) (lines : List ReportLine) → AllByRecursion IsDated printed → lines ≡ [] → Walked b printed printed lines 0
walked_none b printed lines d e = record { before = []; parts = refl; many = refl; are_named = named_none b [] lines refl e; dated = d }

at_place : (xs : List Printed) (x : Printed) (ys : List Printed) → slice_get (xs ++ x ∷ ys) (length xs) ≡ Some x
at_place [] x ys = refl
at_place (y ∷ xs) x ys = at_place xs x ys

taken : (xs ys : List Printed) → take (length xs) (xs ++ ys) ≡ xs
taken [] ys = refl
taken (x ∷ xs) ys = ap (λ zs. x ∷ zs) (taken xs ys)

module _ (b : Rulebase) (printed rest : List Printed) (lines : List ReportLine) (n : ℕ) (w : Walked b printed rest lines n) where
  module _ (x : Printed) (later : List Printed) (r : rest ≡ x ∷ later) where
    both_dated : AllByRecursion IsDated (x ∷ later)
    both_dated = subst (λ xs. AllByRecursion IsDated xs) r w.dated

    pub one_dated : IsDated x
    one_dated = both_dated.0

    pub walked_more : (l : ReportLine) (next : List ReportLine) → named_line b x ≡ Some l → next ≡ lines ++ l ∷ [] → Walked b printed later next (n + 1)
    walked_more l next e f = record {
      before = w.before ++ x ∷ [];
      parts = w.parts ∙ ap (λ xs. w.before ++ xs) r ∙ sym (append_assoc w.before (x ∷ []) later);
      many = length-append w.before (x ∷ []) ∙ ap (λ k. k + 1) w.many;
      are_named = subst (AreNamed b (w.before ++ x ∷ [])) (sym f) (named_more b w.before lines x l w.are_named e);
      dated = both_dated.1;
    }

    pub walked_fault : named_line b x ≡ None → IsFirstUnnamed b printed n
    walked_fault e = record {
      line = x;
      stands = ap (λ k. slice_get printed k) (sym w.many) ∙ ap (λ xs. slice_get xs (length w.before)) (w.parts ∙ ap (λ xs. w.before ++ xs) r) ∙ at_place w.before x later;
      isnt = e;
      before = λ y there. named_each b w.before lines w.are_named y (subst (λ xs. Contains xs y) (ap (λ k. take k printed) (sym w.many) ∙ ap (take (length w.before)) w.parts ∙ taken w.before rest) there);
    }

  pub walked_done : rest ≡ [] → AreNamed b printed lines
  walked_done e = subst (λ xs. AreNamed b xs lines) (sym (w.parts ∙ ap (λ xs. w.before ++ xs) e ∙ append-nil w.before)) w.are_named

-- ---- the text of a report

pub text_is : (r : Rulebase) (text : List ℕ) (s : Spelled) (a : AttrId) (i : InstanceId) (lines : List ReportLine) → IsTextOf text s → asked_point r s.asked ≡ Some (a, i) → AreNamed r s.printed lines
    → IsTextOfReport r text (record { attr = a; inst = i; day = s.day; lines = lines })
text_is r text s a i lines t asked named =
    let both = lines_are r s.printed lines 1 t.dated named in
    record {
      is =
          ap (λ x. first_line (attribute_or r.model a).phrase i s.day ++ x) both.0 ∙ ap (λ x. x ++ (lines_text 1 s.printed ++ end_line)) (head_is r s.asked a i s.day asked) ∙ t.is;
      printable = record { attr = (asked_is r s.asked a i asked).1; day = t.day; lines = both.1 };
    }

-- what is read as a report is its text
pub told_by : (r : Rulebase) (text : List ℕ) (x : Report) → IsReadAs r text x → IsTextOfReport r text x
told_by r text x read =
    subst (IsTextOfReport r text) (ap (λ (d : ℕ). let y : Report = record { attr = x.attr; inst = x.inst; day = d; lines = x.lines } in y) read.day)
    (text_is r text read.spelled x.attr x.inst x.lines read.told read.asked read.lines)

pub days_are : (r : Rulebase) (xs : List Printed) (ls : List ReportLine) → AllByRecursion IsDated xs → AreNamed r xs ls → HaveDays ls
days_are r [] [] d h a i s t v there = absurd (none_in (line.Point a i s t v) there)
days_are r [] (l ∷ ls) d h a i s t v there = absurd h
days_are r (x ∷ xs) [] d h a i s t v there = absurd h
days_are r (x ∷ xs) (l ∷ ls) d h a i s t v there = at (contains_cases l (line.Point a i s t v) ls there) (λ k. days_are r xs ls d.1 h.1 a i s t v k)
  where
    at : (l ≡ line.Point a i s t v) ⊎ Contains ls (line.Point a i s t v) → (Contains ls (line.Point a i s t v) → (s ≤ t) × (t < DAYS)) → (s ≤ t) × (t < DAYS)
    at (inl e) rest = line_days r x a i s t v d.0 (h.0 ∙ ap Some e)
    at (inr k) rest = rest k

-- ---- the verdict

pub not_listed : (o : Option Value) → is_some o ≡ false → o ≡ None
not_listed None h = refl
not_listed (Some v) h = absurd (cc h)

pub is_there : (o : Option Value) → is_some o ≡ true → (v : Value) × (o ≡ Some v)
is_there None h = absurd (cc h)
is_there (Some v) h = (v, refl)

pub supported : (r : Rulebase) (text : List ℕ) (v : Verdict) → Judges r text v → v ≡ verdict.Yes → IsSupported r text
supported r text v j e = go (subst (Judges r text) e j)
  where
    go : IsUpheld r text → IsSupported r text
    go u = record { upheld = u; supports = held_up_supports_holds r u.report.lines u.holds.lines u.report.attr u.report.inst u.report.day u.holds.value u.holds.listed }

pub reports_hold_up_holds : ReportsHoldUp
reports_hold_up_holds r c is x live entries days printable =
    let h = reports_are_held_up_holds r c is x live entries days in
    record { told = record { is = refl; printable = printable }; lines = h.0; value = value_at r c x.attr x.inst x.day; listed = h.1 }
