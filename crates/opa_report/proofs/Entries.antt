-- What the lines of a report list, the report has; and its runs have days.
use Rattle.std.proofs.Common.{◌≡◌, ◌⊎◌, ◌↔◌, inl, inr, ℕ, ◌-◌, ◌<◌, ◌≤◌, Bool, true, false, cond, List, [], ◌∷◌, ◌++◌, Option, None, Some, Contains, refl, sym, ◌∙◌, ap, subst, arith}
use Rattle.std.proofs.lemmas.List.Elements.{Contains-append_cases}
use Rattle.opa_date.specs.declared.TheConstants.{DAYS}
use Rattle.opa_value.specs.declared.value.Value.{Value}
use Rattle.opa_line.specs.Lines.{Follows, IsLine, canon}
use Rattle.opa_line.proofs.LineLaws.{canon_is_the_line}
use Rattle.opa_model.specs.declared.ids.AttrId.{AttrId}
use Rattle.opa_model.specs.declared.ids.RelId.{RelId}
use Rattle.opa_cells.specs.declared.instance.InstanceId.{InstanceId}
use Rattle.opa_tree.proofs.Members.{none_in, contains_head, contains_cases, flat_out}
use Rattle.opa_mean.specs.Mean.{Base, Facts, mean}
use Rattle.opa_mean.specs.Reports as report
use Rattle.opa_mean.specs.Reports.{Entry, PointIs, ListIs, MemberIs, InCone, InReport}
use Rattle.opa_mean.specs.Uses.{Use, Point, Listed}
use Rattle.opa_mean.proofs.Filtered.{map_out}
use Rattle.opa_report.specs.declared.mark.Mark.{Mark}
use Rattle.opa_report.specs.declared.mark.Mark.TheVariants.{Absent, Present}
use Rattle.opa_report.specs.declared.lines.ReportLine.{ReportLine}
use Rattle.opa_report.specs.declared.lines.ReportLine.TheVariants as line
use Rattle.opa_report.specs.Promises.{HaveDays}
use Rattle.opa_report.specs.ReportLines.{point_line, slot_lines, point_lines, key_lines, list_lines, contained_lines, member_lines, slots, keys, IsOwned, IsReport}
use Rattle.opa_report.specs.Runs.{Run, run_of, same_mark, marked, stretches, runs}
use Rattle.opa_report.specs.Supporting.{Lists, point, list, member, LiesIn}
use Rattle.opa_report.proofs.Exactly.{next_after, runs_are_exact}
use Rattle.opa_report.proofs.Listing.{all_listed}
use Rattle.opa_report.proofs.Stretches.{mark_exact}

-- a run has its first day, and its last one is of the calendar
abbrev HasDays : Run → Type 0
HasDays r = (r.first ≤ r.last) × (r.last < DAYS)

one_has_days : (k end : ℕ) (m : Mark) (r : Run) → k < end → end ≤ DAYS → Contains (run_of k end m) r → HasDays r
one_has_days k end Absent r lt le h = absurd (none_in r h)
one_has_days k end (Present v) r lt le h = go (contains_cases (record { first = k; last = end - 1; value = v }) r [] h)
  where
    go : (◌≡◌ {A = Run} (record { first = k; last = end - 1; value = v }) r) ⊎ Contains [] r → HasDays r
    go (inl e) = let f : k ≡ r.first = ap (λ (x : Run). x.first) e in let l : end - 1 ≡ r.last = ap (λ (x : Run). x.last) e in (omega (arith, f, l, lt), omega (arith, l, lt, le))
    go (inr none) = absurd (none_in r none)

stretches_have_days : (k : ℕ) (m : Mark) (l : List (ℕ × Mark)) (r : Run) → k < DAYS → Follows DAYS k m l → Contains (stretches ((k, m) ∷ l)) r → HasDays r
stretches_have_days k m [] r low f h = go (Contains-append_cases (run_of k DAYS m) [] r h)
  where
    go : Contains (run_of k DAYS m) r ⊎ Contains [] r → HasDays r
    go (inl there) = let next = next_after k m [] low f in one_has_days k DAYS m r next.0 next.1 there
    go (inr none) = absurd (none_in r none)
stretches_have_days k m (p ∷ l) r low f h = go (Contains-append_cases (run_of k p.0 m) (stretches (p ∷ l)) r h) (λ there. stretches_have_days p.0 p.1 l r f.1 f.3 there)
  where
    go : Contains (run_of k p.0 m) r ⊎ Contains (stretches (p ∷ l)) r → (Contains (stretches (p ∷ l)) r → HasDays r) → HasDays r
    go (inl there) rest = let next = next_after k m (p ∷ l) low f in one_has_days k p.0 m r next.0 next.1 there
    go (inr there) rest = rest there

line_has_days : (l : List (ℕ × Mark)) → IsLine DAYS l → (r : Run) → Contains (stretches l) r → HasDays r
line_has_days [] is r h = absurd is
line_has_days ((k, m) ∷ l) is r h = stretches_have_days k m l r (omega (arith, is.0)) (subst (λ j. Follows DAYS j m l) (sym is.0) is.1) h

runs_have_days : (set : ℕ → Bool) (f : ℕ → Value) (r : Run) → Contains (runs set f) r → HasDays r
runs_have_days set f r h = line_has_days (canon same_mark DAYS (marked set f)) (canon_is_the_line Mark same_mark mark_exact (marked set f)).0 r h

module _ (b : Base) (c : Facts) (p : Use) (lines : List ReportLine) (is : IsReport b c p lines) where
  -- a line of a run of a slot, of a list, of an instance
  pub record OfRun (x : ReportLine) : Type 0 where
    pub slot : AttrId × InstanceId
    pub run : Run
    pub stands : Contains (slots b c) slot
    pub there : Contains (runs (λ d. is.used (Point slot.0 slot.1 d)) (mean b c slot.0 slot.1)) run
    pub same : point_line slot.0 slot.1 run ≡ x

  pub record OfList (x : ReportLine) : Type 0 where
    pub key : RelId × InstanceId
    pub stands : Contains (keys b c) key
    pub found : is.used (Listed key.0 key.1) ≡ true
    pub same : line.Members key.0 key.1 (c.members key.0 key.1) ≡ x

  pub record OfMember (x : ReportLine) : Type 0 where
    pub inst : InstanceId
    pub container : InstanceId
    pub owned : is.owned inst ≡ true
    pub up : c.container inst ≡ Some container
    pub same : line.Member (b.shape.contained inst.entity.0) container inst ≡ x

  pub data Origin (x : ReportLine) : Type 0 where
    of_run : OfRun x → Origin x
    of_list : OfList x → Origin x
    of_member : OfMember x → Origin x

  run_of_slot : (x : ReportLine) → Contains (point_lines b c is.used) x → OfRun x
  run_of_slot x h =
      let y = flat_out (λ (s : AttrId × InstanceId). slot_lines b c is.used s.0 s.1) (slots b c) x h in
      let z = map_out (point_line y.0.0 y.0.1) (runs (λ d. is.used (Point y.0.0 y.0.1 d)) (mean b c y.0.0 y.0.1)) x y.1.1 in
      record { slot = y.0; run = z.0; stands = y.1.0; there = z.1.0; same = z.1.1 }

  list_of_key : (x : ReportLine) → Contains (list_lines b c is.used) x → OfList x
  list_of_key x h = let y = flat_out (λ (s : RelId × InstanceId). key_lines b c is.used s.0 s.1) (keys b c) x h in go y.0 y.1.0 (is.used (Listed y.0.0 y.0.1)) refl y.1.1
    where
      go : (k : RelId × InstanceId) → Contains (keys b c) k → (t : Bool) → is.used (Listed k.0 k.1) ≡ t → Contains (cond t (line.Members k.0 k.1 (c.members k.0 k.1) ∷ []) []) x → OfList x
      go k stands false e there = absurd (none_in x there)
      go k stands true e there = at (contains_cases (line.Members k.0 k.1 (c.members k.0 k.1)) x [] there)
        where
          at : (line.Members k.0 k.1 (c.members k.0 k.1) ≡ x) ⊎ Contains [] x → OfList x
          at (inl same) = record { key = k; stands = stands; found = e; same = same }
          at (inr none) = absurd (none_in x none)

  member_of : (x : ReportLine) → Contains (member_lines b c is.owned) x → OfMember x
  member_of x h = let y = flat_out (λ (j : InstanceId). cond (is.owned j) (contained_lines b c j (c.container j)) []) c.instances x h in go y.0 (is.owned y.0) refl y.1.1
    where
      at : (j : InstanceId) → is.owned j ≡ true → (o : Option InstanceId) → c.container j ≡ o → Contains (contained_lines b c j o) x → OfMember x
      at j e None up there = absurd (none_in x there)
      at j e (Some k) up there = one (contains_cases (line.Member (b.shape.contained j.entity.0) k j) x [] there)
        where
          one : (line.Member (b.shape.contained j.entity.0) k j ≡ x) ⊎ Contains [] x → OfMember x
          one (inl same) = record { inst = j; container = k; owned = e; up = up; same = same }
          one (inr none) = absurd (none_in x none)

      go : (j : InstanceId) (t : Bool) → is.owned j ≡ t → Contains (cond t (contained_lines b c j (c.container j)) []) x → OfMember x
      go j false e there = absurd (none_in x there)
      go j true e there = at j e (c.container j) refl there

  pub origin : (x : ReportLine) → Contains lines x → Origin x
  origin x h = go (Contains-append_cases (point_lines b c is.used) (list_lines b c is.used ++ member_lines b c is.owned) x (subst (λ ls. Contains ls x) is.are h))
    where
      rest : Contains (list_lines b c is.used) x ⊎ Contains (member_lines b c is.owned) x → Origin x
      rest (inl k) = of_list (list_of_key x k)
      rest (inr k) = of_member (member_of x k)

      go : Contains (point_lines b c is.used) x ⊎ Contains (list_lines b c is.used ++ member_lines b c is.owned) x → Origin x
      go (inl k) = of_run (run_of_slot x k)
      go (inr k) = rest (Contains-append_cases (list_lines b c is.used) (member_lines b c is.owned) x k)

  point_had : (a : AttrId) (i : InstanceId) (first last d : ℕ) (v : Value) → first ≤ d → d ≤ last → Origin (line.Point a i first last v) → InReport b c p (PointIs a i d v)
  point_had a i first last d v from to_last (of_run x) =
      let slot = x.slot in let run = x.run in
      let attr_is : slot.0 ≡ a = cc x.same in let inst_is : slot.1 ≡ i = cc x.same in
      let first_is : run.first ≡ first = cc x.same in let last_is : run.last ≡ last = cc x.same in let value_is : run.value ≡ v = cc x.same in
      let r = (runs_are_exact (λ e. is.used (Point slot.0 slot.1 e)) (mean b c slot.0 slot.1) d run.value).0 (record { run = run; there = x.there; from = omega (arith, first_is, from); upto_last = omega (arith, last_is, to_last); has_value = refl }) in
      let cone : InCone b c p (Point slot.0 slot.1 d) = (is.used_are (Point slot.0 slot.1 d)).0 r.1.0 in
      let e : PointIs slot.0 slot.1 d (mean b c slot.0 slot.1 d) ≡ PointIs a i d v = ap (PointIs slot.0 slot.1 d) (r.1.1 ∙ value_is) ∙ ap (λ y. PointIs y slot.1 d v) attr_is ∙ ap (λ y. PointIs a y d v) inst_is in
      subst (InReport b c p) e (report.point slot.0 slot.1 d cone)
  point_had a i first last d v from to_last (of_list x) = absurd (cc x.same)
  point_had a i first last d v from to_last (of_member x) = absurd (cc x.same)

  list_had : (q : RelId) (i : InstanceId) (names : Option (List (List ℕ))) → Origin (line.Members q i names) → InReport b c p (ListIs q i names)
  list_had q i names (of_run x) = absurd (cc x.same)
  list_had q i names (of_list x) =
      let key = x.key in
      let rel_is : key.0 ≡ q = cc x.same in let inst_is : key.1 ≡ i = cc x.same in let names_are : c.members key.0 key.1 ≡ names = cc x.same in
      let e : ListIs key.0 key.1 (c.members key.0 key.1) ≡ ListIs q i names = ap (ListIs key.0 key.1) names_are ∙ ap (λ y. ListIs y key.1 names) rel_is ∙ ap (λ y. ListIs q y names) inst_is in
      subst (InReport b c p) e (report.list key.0 key.1 ((is.used_are (Listed key.0 key.1)).0 x.found))
  list_had q i names (of_member x) = absurd (cc x.same)

  member_had : (q : RelId) (k j : InstanceId) → Origin (line.Member q k j) → InReport b c p (MemberIs j k)
  member_had q k j (of_run x) = absurd (cc x.same)
  member_had q k j (of_list x) = absurd (cc x.same)
  member_had q k j (of_member x) =
      let inst_is : x.inst ≡ j = cc x.same in let container_is : x.container ≡ k = cc x.same in
      let o : IsOwned b c p x.inst = (is.owned_are x.inst).0 x.owned in
      let e : MemberIs x.inst x.container ≡ MemberIs j k = ap (λ y. MemberIs y x.container) inst_is ∙ ap (MemberIs j) container_is in
      subst (InReport b c p) e (report.member o.use_ o.own x.inst x.container o.in_cone o.is_own o.above x.up)

  pub listed_had : {e : Entry} → Lists lines e → InReport b c p e
  listed_had (point a i first last d v there from to_last) = point_had a i first last d v from to_last (origin (line.Point a i first last v) there)
  listed_had (list q i names there) = list_had q i names (origin (line.Members q i names) there)
  listed_had (member q k j there) = member_had q k j (origin (line.Member q k j) there)

  run_days : (a : AttrId) (i : InstanceId) (first last : ℕ) (v : Value) → Origin (line.Point a i first last v) → (first ≤ last) × (last < DAYS)
  run_days a i first last v (of_run x) =
      let run = x.run in let slot = x.slot in let first_is : run.first ≡ first = cc x.same in let last_is : run.last ≡ last = cc x.same in
      let has = runs_have_days (λ d. is.used (Point slot.0 slot.1 d)) (mean b c slot.0 slot.1) run x.there in
      (omega (arith, first_is, last_is, has.0), omega (arith, last_is, has.1))
  run_days a i first last v (of_list x) = absurd (cc x.same)
  run_days a i first last v (of_member x) = absurd (cc x.same)

  pub have_days : HaveDays lines
  have_days a i first last v there = run_days a i first last v (origin (line.Point a i first last v) there)
