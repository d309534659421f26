-- A text has at most one verdict.
use Rattle.std.proofs.Common.{◌≡◌, ◌⊎◌, inl, inr, ℕ, zero, suc, ◌+◌, ◌<◌, ◌≤◌, ◌^◌, List, [], ◌∷◌, length, take, None, Some, Contains, refl, sym, ◌∙◌, ap, subst, arith}
use Rattle.std.specs.Prelude.{slice_get}
use Rattle.std.proofs.lemmas.Bool.{cases_lt}
use Rattle.opa_model.specs.declared.ids.AttrId.{AttrId}
use Rattle.opa_cells.specs.declared.instance.InstanceId.{InstanceId}
use Rattle.opa_tree.specs.declared.rulebase.Rulebase.{Rulebase}
use Rattle.opa_tree.proofs.Members.{contains_head, contains_tail}
use Rattle.opa_mean.specs.Given.{base_of}
use Rattle.opa_mean.specs.Mean.{Base}
use Rattle.opa_report.specs.declared.lines.Report.{Report}
use Rattle.opa_report.specs.declared.lines.ReportLine.{ReportLine}
use Rattle.opa_verify.specs.Spelling.Lines.{lined}
use Rattle.opa_verify.specs.Spelling.Reading.{IsTextOf}
use Rattle.opa_verify.specs.Spelling.Same.{AreSame, SaysSame}
use Rattle.opa_verify.specs.Spelling.Spelling.{IsUnspelledAt}
use Rattle.opa_verify.specs.declared.spelling.printed.Printed.{Printed}
use Rattle.opa_verify.specs.declared.spelling.printed.Spelled.{Spelled}
use Rattle.opa_verify.proofs.spelling.Breaking.{one_first_fault_holds, spelled_has_none_holds}
use Rattle.opa_verify.proofs.spelling.Feeding.{text_spells}
use Rattle.opa_verify.proofs.spelling.Sameness.{one_spelling_holds}
use Rattle.opa_verify.specs.Support.Faults.{IsFirstFault}
use Rattle.opa_verify.specs.Support.Proofs.{AreHeldUp}
use Rattle.opa_verify.specs.Verdict.Judging.{IsReadAs, IsNotDerivedAt, IsUnnamedAt, IsUpheld, Judges, asked_value}
use Rattle.opa_verify.specs.Verdict.Laws.{OneTelling, OneVerdict}
use Rattle.opa_verify.specs.Verdict.Named.{IsFirstUnnamed}
use Rattle.opa_verify.specs.Verdict.Naming.{asked_point, named_line, AreNamed}
use Rattle.opa_verify.specs.Verdict.Telling.{SaysSupported, Tells, supported_text}
use Rattle.opa_verify.specs.declared.verdict.verdict.Verdict.{Verdict}
use Rattle.opa_verify.specs.declared.verdict.verdict.Verdict.TheVariants as verdict
use Rattle.opa_verify.proofs.verdict.Restated.{few_printed, named_same, same_lines, stands_in}
use Rattle.opa_verify.proofs.verdict.Saying.{told_judges}

-- ---- the first fault of names

later_unnamed : (r : Rulebase) (x : Printed) (xs : List Printed) (n : ℕ) → IsFirstUnnamed r (x ∷ xs) (suc n) → IsFirstUnnamed r xs n
later_unnamed r x xs n f = record { line = f.line; stands = f.stands; isnt = f.isnt; before = λ z there. f.before z (contains_tail x z (take n xs) there) }

head_unnamed : (r : Rulebase) (x : Printed) (xs : List Printed) → IsFirstUnnamed r (x ∷ xs) 0 → named_line r x ≡ None
head_unnamed r x xs f = let same : x ≡ f.line = cc f.stands in ap (named_line r) same ∙ f.isnt

head_named : (r : Rulebase) (x : Printed) (xs : List Printed) (n : ℕ) → IsFirstUnnamed r (x ∷ xs) (suc n) → named_line r x ≡ None → ⊥
head_named r x xs n f = f.before x (contains_head x (take n xs))

first_unnamed : (r : Rulebase) (xs ys : List Printed) (n m : ℕ) → AreSame xs ys → IsFirstUnnamed r xs n → IsFirstUnnamed r ys m → n ≡ m
first_unnamed r [] ys n m h f g = absurd (cc f.stands)
first_unnamed r (x ∷ xs) [] n m h f g = absurd h
first_unnamed r (x ∷ xs) (y ∷ ys) zero zero h f g = refl
first_unnamed r (x ∷ xs) (y ∷ ys) zero (suc m) h f g = absurd (head_named r y ys m g (sym (named_same r x y h.0) ∙ head_unnamed r x xs f))
first_unnamed r (x ∷ xs) (y ∷ ys) (suc n) zero h f g = absurd (head_named r x xs n f (named_same r x y h.0 ∙ head_unnamed r y ys g))
first_unnamed r (x ∷ xs) (y ∷ ys) (suc n) (suc m) h f g = ap suc (first_unnamed r xs ys n m h.1 (later_unnamed r x xs n f) (later_unnamed r y ys m g))

all_named : (r : Rulebase) (xs ys : List Printed) (ls : List ReportLine) (n : ℕ) → AreSame xs ys → AreNamed r ys ls → IsFirstUnnamed r xs n → ⊥
all_named r [] ys ls n h a f = cc f.stands
all_named r (x ∷ xs) [] ls n h a f = h
all_named r (x ∷ xs) (y ∷ ys) [] n h a f = a
all_named r (x ∷ xs) (y ∷ ys) (l ∷ ls) zero h a f = let e : None ≡ Some l = sym (head_unnamed r x xs f) ∙ named_same r x y h.0 ∙ a.0 in cc e
all_named r (x ∷ xs) (y ∷ ys) (l ∷ ls) (suc n) h a f = all_named r xs ys ls n h.1 a.1 (later_unnamed r x xs n f)

-- ---- the first line that isn't held up

stands_before : (xs : List ReportLine) (n m : ℕ) (x : ReportLine) → n < m → slice_get xs n ≡ Some x → Contains (take m xs) x
stands_before [] n m x lt e = absurd (cc e)
stands_before (y ∷ xs) n zero x lt e = absurd (omega (arith, lt))
stands_before (y ∷ xs) zero (suc m) x lt e = let same : y ≡ x = cc e in subst (λ z. Contains (y ∷ take m xs) z) same (contains_head y (take m xs))
stands_before (y ∷ xs) (suc n) (suc m) x lt e = contains_tail y x (take m xs) (stands_before xs n m x (omega (arith, lt)) e)

first_fault : (b : Base) (lines : List ReportLine) (n m : ℕ) → IsFirstFault b lines n → IsFirstFault b lines m → n ≡ m
first_fault b lines n m f g = go (cases_lt n m) (cases_lt m n)
  where
    go : (n < m) ⊎ (m ≤ n) → (m < n) ⊎ (n ≤ m) → n ≡ m
    go (inl lt) y = absurd (f.isnt (g.before f.line (stands_before lines n m f.line lt f.stands)))
    go (inr le) (inl lt) = absurd (g.isnt (f.before g.line (stands_before lines m n g.line lt g.stands)))
    go (inr le) (inr le') = omega (arith, le, le')

no_fault : (b : Base) (lines : List ReportLine) (n : ℕ) → AreHeldUp b lines → IsFirstFault b lines n → ⊥
no_fault b lines n held f = f.isnt (held f.line (stands_in lines n f.line f.stands))

one_fault : (r : Rulebase) (x : Report) (j k : ℕ) → IsNotDerivedAt r x j → IsNotDerivedAt r x k → j ≡ k
one_fault r x j k (inl a) (inl b) = a.0 ∙ sym b.0
one_fault r x j k (inl a) (inr b) = let f : None ≡ Some b.0 = sym a.1 ∙ b.1.0 in absurd (cc f)
one_fault r x j k (inr a) (inl b) = let f : None ≡ Some a.0 = sym b.1 ∙ a.1.0 in absurd (cc f)
one_fault r x j k (inr a) (inr b) = a.1.1.1.0 ∙ ap (λ n. n + 2) (first_fault (base_of r) x.lines a.1.1.0 b.1.1.0 a.1.1.1.1 b.1.1.1.1) ∙ sym b.1.1.1.0

-- ---- the verdict

module _ (r : Rulebase) (text : List ℕ) (few : length text < 2 ^ 64) where
  says_same : (s t : Spelled) → IsTextOf text s → IsTextOf text t → SaysSame s t
  says_same s t a b = one_spelling_holds s t a.spelled b.spelled (few_printed s text a.is few) (few_printed t text b.is few) (a.is ∙ sym b.is)

  no_syntax : (s : Spelled) → IsTextOf text s → (k : ℕ) → IsUnspelledAt (lined text) k → ⊥
  no_syntax s a k j = spelled_has_none_holds (lined text) s k (text_spells s text a.spelled (few_printed s text a.is few) a.is) j

  one_name : (s t : Spelled) → SaysSame s t → (j k : ℕ) → IsUnnamedAt r s j → IsUnnamedAt r t k → j ≡ k
  one_name s t same j k (inl a) (inl b) = a.0 ∙ sym b.0
  one_name s t same j k (inl a) (inr b) = let f : None ≡ Some b.0 = sym a.1 ∙ ap (asked_point r) same.asked ∙ b.1.0 in absurd (cc f)
  one_name s t same j k (inr a) (inl b) = let f : None ≡ Some a.0 = sym b.1 ∙ sym (ap (asked_point r) same.asked) ∙ a.1.0 in absurd (cc f)
  one_name s t same j k (inr a) (inr b) = a.1.1.1.0 ∙ ap (λ n. n + 2) (first_unnamed r s.printed t.printed a.1.1.0 b.1.1.0 same.printed a.1.1.1.1 b.1.1.1.1) ∙ sym b.1.1.1.0

  -- what is read as a report has no fault of names
  no_name : (x : Report) → IsReadAs r text x → (k : ℕ) → Judges r text (verdict.Name k) → ⊥
  no_name x read k j = go (says_same j.0 read.spelled j.1.0 read.told) j.1.1
    where
      go : SaysSame j.0 read.spelled → IsUnnamedAt r j.0 k → ⊥
      go same (inl h) = let f : None ≡ Some (x.attr, x.inst) = sym h.1 ∙ ap (asked_point r) same.asked ∙ read.asked in cc f
      go same (inr h) = all_named r j.0.printed read.spelled.printed x.lines h.1.1.0 same.printed read.lines h.1.1.1.1

  pub same_report : (x y : Report) → IsReadAs r text x → IsReadAs r text y → x ≡ y
  same_report x y a b =
      let same = says_same a.spelled b.spelled a.told b.told in
      let point : ◌≡◌ {A = AttrId × InstanceId} (x.attr, x.inst) (y.attr, y.inst) = cc (sym a.asked ∙ ap (asked_point r) same.asked ∙ b.asked) in
      let attr : x.attr ≡ y.attr = ap (λ (p : AttrId × InstanceId). p.0) point in
      let inst : x.inst ≡ y.inst = ap (λ (p : AttrId × InstanceId). p.1) point in
      let day : x.day ≡ y.day = sym a.day ∙ same.day ∙ b.day in
      let lines : x.lines ≡ y.lines = same_lines r a.spelled.printed b.spelled.printed x.lines y.lines same.printed a.lines b.lines in
      ap (λ (z : AttrId). let q : Report = record { attr = z; inst = x.inst; day = x.day; lines = x.lines } in q) attr
      ∙ ap (λ (z : InstanceId). let q : Report = record { attr = y.attr; inst = z; day = x.day; lines = x.lines } in q) inst
      ∙ ap (λ (z : ℕ). let q : Report = record { attr = y.attr; inst = y.inst; day = z; lines = x.lines } in q) day
      ∙ ap (λ (z : List ReportLine). let q : Report = record { attr = y.attr; inst = y.inst; day = y.day; lines = z } in q) lines

  one_not_derived : (j k : ℕ) → Judges r text (verdict.NotDerived j) → Judges r text (verdict.NotDerived k) → j ≡ k
  one_not_derived j k a b = one_fault r b.0 j k (subst (λ x. IsNotDerivedAt r x j) (same_report a.0 b.0 a.1.1.0 b.1.1.0) a.1.1.1) b.1.1.1

  -- what is upheld has no line that isn't
  no_not_derived : IsUpheld r text → (k : ℕ) → Judges r text (verdict.NotDerived k) → ⊥
  no_not_derived u k j = go (subst (λ x. IsNotDerivedAt r x k) (same_report j.0 u.report j.1.1.0 u.read) j.1.1.1)
    where
      go : IsNotDerivedAt r u.report k → ⊥
      go (inl h) = let f : None ≡ Some u.holds.value = sym h.1 ∙ u.holds.listed in cc f
      go (inr h) = no_fault (base_of r) u.report.lines h.1.1.0 u.holds.lines h.1.1.1.1

  pub same_verdict : (v w : Verdict) → Judges r text v → Judges r text w → v ≡ w
  same_verdict verdict.Yes verdict.Yes a b = refl
  same_verdict verdict.Yes (verdict.Syntax k) a b = absurd (no_syntax a.read.spelled a.read.told k b)
  same_verdict verdict.Yes (verdict.Name k) a b = absurd (no_name a.report a.read k b)
  same_verdict verdict.Yes (verdict.NotDerived k) a b = absurd (no_not_derived a k b)
  same_verdict (verdict.Syntax j) verdict.Yes a b = absurd (no_syntax b.read.spelled b.read.told j a)
  same_verdict (verdict.Syntax j) (verdict.Syntax k) a b = ap (λ n. verdict.Syntax n) (one_first_fault_holds (lined text) j k a b)
  same_verdict (verdict.Syntax j) (verdict.Name k) a b = absurd (no_syntax b.0 b.1.0 j a)
  same_verdict (verdict.Syntax j) (verdict.NotDerived k) a b = absurd (no_syntax b.1.1.0.spelled b.1.1.0.told j a)
  same_verdict (verdict.Name j) verdict.Yes a b = absurd (no_name b.report b.read j a)
  same_verdict (verdict.Name j) (verdict.Syntax k) a b = absurd (no_syntax a.0 a.1.0 k b)
  same_verdict (verdict.Name j) (verdict.Name k) a b = ap (λ n. verdict.Name n) (one_name a.0 b.0 (says_same a.0 b.0 a.1.0 b.1.0) j k a.1.1 b.1.1)
  same_verdict (verdict.Name j) (verdict.NotDerived k) a b = absurd (no_name b.0 b.1.1.0 j a)
  same_verdict (verdict.NotDerived j) verdict.Yes a b = absurd (no_not_derived b j a)
  same_verdict (verdict.NotDerived j) (verdict.Syntax k) a b = absurd (no_syntax a.1.1.0.spelled a.1.1.0.told k b)
  same_verdict (verdict.NotDerived j) (verdict.Name k) a b = absurd (no_name a.0 a.1.1.0 k b)
  same_verdict (verdict.NotDerived j) (verdict.NotDerived k) a b = ap (λ n. verdict.NotDerived n) (one_not_derived j k a b)

  -- ---- what is told

  says_one : (said other : List ℕ) → SaysSupported r text said → SaysSupported r text other → said ≡ other
  says_one said other a b =
      let u = a.supported.upheld in let w = b.supported.upheld in
      let report : u.report ≡ w.report = same_report u.report w.report u.read w.read in
      let value : u.holds.value ≡ w.holds.value = cc (sym u.holds.listed ∙ ap asked_value report ∙ w.holds.listed) in
      a.says ∙ ap (λ x. supported_text r x u.holds.value) report ∙ ap (supported_text r w.report) value ∙ sym b.says

  tells_one : (v : Verdict) (said other : List ℕ) → Tells r text v said → Tells r text v other → said ≡ other
  tells_one verdict.Yes said other a b = says_one said other a b
  tells_one (verdict.Syntax k) said other a b = a.1 ∙ sym b.1
  tells_one (verdict.Name k) said other a b = a.1 ∙ sym b.1
  tells_one (verdict.NotDerived k) said other a b = a.1 ∙ sym b.1

  one_telling : (v w : Verdict) (said other : List ℕ) → Tells r text v said → Tells r text w other → (v ≡ w) × (said ≡ other)
  one_telling v w said other a b =
      let same : v ≡ w = same_verdict v w (told_judges r text v said a) (told_judges r text w other b) in (same, tells_one w said other (subst (λ u. Tells r text u said) same a) b)

pub one_verdict_holds : OneVerdict
one_verdict_holds r text few v w a b = same_verdict r text few v w a b

pub one_telling_holds : OneTelling
one_telling_holds r text few v w said other a b = one_telling r text few v w said other a b
