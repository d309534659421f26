-- What is printed of a report of a case names it again.
use Rattle.std.proofs.Common.{◌≡◌, ◌⊎◌, inl, inr, ℕ, zero, suc, ◌+◌, ◌<◌, ◌≤◌, List, [], ◌∷◌, ◌++◌, map, length, Bool, true, false, cond, Option, None, Some, Contains, ◌==◌, refl, sym, ◌∙◌, ap, subst, arith}
use Rattle.std.specs.Prelude.{nat_lt, ◌-◌}
use Rattle.std.specs.Option.{option_map, option_and_then}
use Rattle.std.specs.List.{AllByRecursion}
use Rattle.std.specs.Str.{bytes_eq}
use Rattle.std.proofs.lemmas.Bool.{and_parts, and_from, eqb-true, ltb-true}
use Rattle.std.proofs.lemmas.List.Elements.{All-contains, Contains-append_cases, Contains-append_left, Contains-append_right}
use Rattle.opa_date.specs.declared.TheConstants.{DAYS}
use Rattle.opa_value.specs.declared.value.Value.{Value}
use Rattle.opa_value.specs.Truth.{is_unknown}
use Rattle.opa_model.specs.declared.ids.AttrId.{AttrId}
use Rattle.opa_model.specs.declared.ids.RelId.{RelId}
use Rattle.opa_model.specs.declared.things.Attribute.{Attribute}
use Rattle.opa_model.specs.declared.things.Relation.{Relation}
use Rattle.opa_model.specs.Lookups.{attribute_phrases, relation_phrases}
use Rattle.opa_case.specs.Cases.{CaseView, list_of, stored}
use Rattle.opa_case.specs.Live.{container_of, is_live}
use Rattle.opa_case.proofs.Shaped.{shape_is}
use Rattle.opa_case.proofs.Stands.{in_upto}
use Rattle.opa_case.specs.Shapes.{attribute_or, relation_or, no_attribute, no_relation, shape_of}
use Rattle.opa_case.specs.Steps.{has_kind}
use Rattle.opa_cells.specs.Instances.{is_same, global, named}
use Rattle.opa_cells.specs.declared.instance.InstanceId.{InstanceId}
use Rattle.opa_cells.proofs.Orders.{same_is, same_itself}
use Rattle.opa_text.proofs.OwnPhrases.{own_attribute, own_relation, phrase_at}
use Rattle.opa_text.specs.Laws.{CanBeWritten}
use Rattle.opa_text.specs.Texts.{value_text}
use Rattle.opa_tree.specs.declared.rulebase.Rulebase.{Rulebase}
use Rattle.opa_tree.specs.declared.rules.Rule.{Rule}
use Rattle.opa_tree.specs.Rules.{rule_of}
use Rattle.opa_tree.proofs.Members.{none_in, contains_cases, contains_head, contains_tail, flat_out}
use Rattle.opa_mean.specs.Completion.{AreFacts}
use Rattle.opa_mean.specs.Given.{base_of, facts_of}
use Rattle.opa_mean.specs.Mean.{Base, Facts, IsLive, mean}
use Rattle.opa_mean.specs.Reports.{Entry, InReport, PointIs}
use Rattle.opa_mean.specs.Places.{is_of, owner_of}
use Rattle.opa_mean.specs.Rulebases.{IsOf, value_at}
use Rattle.opa_mean.specs.Slots.{has_place}
use Rattle.opa_mean.specs.Uses.{Use, Point, Listed}
use Rattle.opa_mean.proofs.Fitting.{live_in}
use Rattle.opa_mean.proofs.Filtered.{filter_out, map_out}
use Rattle.opa_mean.proofs.LawsOver.{facts}
use Rattle.opa_report.specs.Promises.{is_point, IsExact, ListsEntries, HasDays, IsDeclaredBy, LineIsDeclared}
use Rattle.opa_report.specs.Supporting as support
use Rattle.opa_report.specs.ReportLines.{slots, keys, by_rank, relations, with_instances, of_entity, point_lines, list_lines, member_lines, slot_lines, key_lines, contained_lines, point_line}
use Rattle.opa_report.specs.declared.lines.Report.{Report}
use Rattle.opa_report.specs.declared.lines.ReportLine.{ReportLine}
use Rattle.opa_report.specs.declared.lines.ReportLine.TheVariants as line
use Rattle.opa_report.specs.Text.Texts as told
use Rattle.opa_verify.specs.Spelling.Printed.{origin_text}
use Rattle.opa_verify.specs.Spelling.Spelling.{AreNames, CanBePhrase, CanBePrinted, IsOrigin, IsSpelled, MayBeName}
use Rattle.opa_verify.proofs.spelling.Worded.{can_be_phrase}
use Rattle.opa_verbs.specs.Phrasing.{IsPhrase}
use Rattle.opa_verify.specs.declared.spelling.printed.Origin.TheVariants as origin
use Rattle.std.specs.FinMap.{get}
use Rattle.std.specs.List.{list_any}
use Rattle.std.specs.Prelude.{not, ◌||◌, ◌&&◌}
use Rattle.std.specs.Str.{IsUtf8}
use Rattle.std.proofs.lemmas.Bool.{not-true}
use Rattle.opa_io.proofs.Characters.{own_bytes}
use Rattle.opa_case.proofs.Losing.{is_every}
use Rattle.opa_case.proofs.Stands.{either_has, text_is as text_same}
use Rattle.opa_case.specs.Cases.{are_names, is_empty}
use Rattle.opa_case.specs.Clean.{are_clean_names, is_clean_text, is_control}
use Rattle.opa_case.specs.Live.{Names}
use Rattle.opa_cells.specs.Instances.{is_text}
use Rattle.opa_verify.proofs.spelling.Cleanness.{quoted_from}
use Rattle.opa_verify.specs.Spelling.Spelling.{IsName}
use Rattle.opa_verify.specs.Verdict.Fine.{IsPrintableBase, IsPrintableCase}
use Rattle.opa_verify.proofs.verdict.Fining.{value_written}
use Rattle.opa_verify.proofs.spelling.Cleanness.{all_days}
use Rattle.opa_mean.proofs.kinds.LawsHold.{values_have_kinds_holds}
use Rattle.opa_verify.specs.Support.Proofs.{AreHeldUp}
use Rattle.opa_verify.proofs.support.Orderly.{reports_are_held_up_holds}
use Rattle.opa_verify.specs.Verdict.Naming.{instance_for, is_printed_so, point_at, list_at, asked_point, named_line, member_line, AreNamed}
use Rattle.opa_verify.specs.Verdict.Restating.{name_of, spot_of, origin_by, spelled_line, spelled_of, IsRestated}
use Rattle.opa_verify.specs.Verdict.Laws.{ReportsAreSupported, ReportsAreUpheld, ReportsGetYes, ReportsTellValues}
use Rattle.opa_verify.specs.Verdict.Judging.{IsReadAs, IsUpheld, asked_value}
use Rattle.opa_verify.specs.Verdict.OfCases.{IsOfCase}
use Rattle.opa_verify.specs.Verdict.Telling.{SaysSupported, Tells, supported_text}
use Rattle.opa_verify.specs.declared.verdict.verdict.Verdict.TheVariants as verdict
use Rattle.opa_verify.proofs.verdict.Saying.{told_judges}
use Rattle.opa_verify.proofs.verdict.Judged.{told_by}
use Rattle.opa_verify.proofs.verdict.OneVerdict.{same_report, same_verdict}
use Rattle.opa_verify.proofs.verdict.Restated.{origin_is, stands_in, text_is}

-- ---- values

-- a point that a report lists has its value
told_value : (b : Base) (c : Facts) (p : Use) (e : Entry) → InReport b c p e → (a : AttrId) (i : InstanceId) (d : ℕ) (v : Value) → e ≡ PointIs a i d v → mean b c a i d ≡ v
told_value b c p _ (InReport.point a' i' d' cone) a i d v e =
    let x : a' ≡ a = cc e in let y : i' ≡ i = cc e in let z : d' ≡ d = cc e in let w : mean b c a' i' d' ≡ v = cc e in
    sym (ap (λ k. mean b c k i' d') x ∙ ap (λ k. mean b c a k d') y ∙ ap (λ k. mean b c a i k) z) ∙ w
told_value b c p _ (InReport.list q j cone) a i d v e = absurd (cc e)
told_value b c p _ (InReport.member u j k l cone own above up) a i d v e = absurd (cc e)

-- ---- names

names_are : (ns : Names) → are_names ns ≡ true → are_clean_names ns ≡ true → AllByRecursion IsUtf8 ns → AllByRecursion IsName ns
names_are [] a h u = tt
names_are (n ∷ ns) a h u =
    let outer = and_parts (not (is_empty n) && not (list_any (is_text n) ns)) (are_names ns) a in
    let own = and_parts (not (is_empty n)) (not (list_any (is_text n) ns)) outer.0 in
    let both = and_parts (is_clean_text n) (are_clean_names ns) h in
    ((filled n own.0, quoted_from n u.0 (not-true (list_any is_control n) both.0)), names_are ns outer.1 both.1 u.1)
  where
    filled : (n : List ℕ) → not (is_empty n) ≡ true → 0 < length n
    filled [] e = absurd (cc e)
    filled (b ∷ bs) e = omega arith

one_name : (ns : Names) (n : List ℕ) → AllByRecursion IsName ns → list_any (is_text n) ns ≡ true → IsName n
one_name [] n h e = absurd (cc e)
one_name (m ∷ ns) n h e = go (is_text n m) refl e (λ k. one_name ns n h.1 k)
  where
    go : (b : Bool) → is_text n m ≡ b → (b || list_any (is_text n) ns) ≡ true → (list_any (is_text n) ns ≡ true → IsName n) → IsName n
    go true t e rest = subst IsName (sym (text_same n m t)) h.0
    go false t e rest = rest e

-- ---- instances

-- the instance is the entity's one with its name
Belongs : ℕ → InstanceId → Type 0
Belongs e i = instance_for e (name_of i) ≡ Some i

not_global : (k : ℕ) (i : InstanceId) → i.entity.0 ≡ suc k → is_same i global ≡ false
not_global k i e = go (is_same i global) refl
  where
    go : (b : Bool) → is_same i global ≡ b → is_same i global ≡ false
    go false h = h
    go true h = absurd (let q : suc k ≡ 0 = sym e ∙ ap (λ (j : InstanceId). j.entity.0) (same_is i global h) in cc q)

above_zero : (i : InstanceId) → 0 < i.entity.0 → is_same i global ≡ false
above_zero i h = go (is_same i global) refl
  where
    go : (b : Bool) → is_same i global ≡ b → is_same i global ≡ false
    go false e = e
    go true e = absurd (let q : i.entity.0 ≡ 0 = ap (λ (j : InstanceId). j.entity.0) (same_is i global e) in omega (arith, h, q))

module _ (s : Rulebase) (c : CaseView) (is : IsOf s c) where
  af : AreFacts (base_of s).shape (facts_of c)
  af = facts s c is

  some_entity : (i : InstanceId) → IsLive (facts_of c) i → is_same i global ≡ false → 0 < i.entity.0
  some_entity i live apart = go i.entity.0 refl
    where
      go : (e : ℕ) → i.entity.0 ≡ e → 0 < i.entity.0
      go zero h = absurd (let f : true ≡ false = sym (ap (λ (j : InstanceId). is_same j global) (af.only_global i live h) ∙ same_itself global) ∙ apart in cc f)
      go (suc e) h = omega (arith, h)

  belongs : (e : ℕ) (i : InstanceId) → IsLive (facts_of c) i → i.entity.0 ≡ e → Belongs e i
  unfolding Belongs
  belongs zero i live e =
      subst (λ (j : InstanceId). instance_for zero (name_of j) ≡ Some j) (sym (af.only_global i live e)) (ap (λ b. instance_for zero (cond b None (Some global.name))) (same_itself global))
  belongs (suc k) i live e =
      ap (λ b. instance_for (suc k) (cond b None (Some i.name))) (not_global k i e) ∙ ap (λ (n : ℕ). let j : InstanceId = record { entity = record { 0 = n }; name = i.name } in Some j) (sym e)

  -- an instance that is live and of the entity
  abbrev OfEntity : ℕ → InstanceId → Type 0
  OfEntity e i = IsLive (facts_of c) i × (i.entity.0 ≡ e)

  listed_of : (e : ℕ) (i : InstanceId) → Contains (of_entity (facts_of c) e) i → OfEntity e i
  listed_of e i there = let h = filter_out (is_of e) (facts_of c).instances i there in (h.0, eqb-true i.entity.0 e h.1)

  own_of : (e : ℕ) (i : InstanceId) → OfEntity e i → Belongs e i
  own_of e i h = belongs e i h.0 h.1

  -- ---- lines

  Named : ReportLine → Type 0
  Named l = named_line s (spelled_line s l) ≡ Some l

  -- where the point, or the list, of a line is
  Placed : ReportLine → Type 0
  Placed (line.Point a i f t v) = (a.0 < length s.model.attributes) × OfEntity (owner_of (base_of s).shape a) i
  Placed (line.Members q i names) = (q.0 < length s.model.relations) × (OfEntity ((base_of s).shape.source q) i × (list_of c q i ≡ names))
  Placed (line.Member q k i) =
      (q.0 < length s.model.relations) × (((relation_or s.model q).contains ≡ true) × (((relation_or s.model q).target.0 ≡ i.entity.0) × (OfEntity ((base_of s).shape.source q) k × (IsLive (facts_of c) i × (is_same i global ≡ false)))))

  asked_again : (a : AttrId) (i : InstanceId) → a.0 < length s.model.attributes → Belongs (owner_of (base_of s).shape a) i → asked_point s (spot_of (attribute_or s.model a).phrase i) ≡ Some (a, i)
  unfolding Belongs
  asked_again a i has own =
      ap (option_and_then (λ (b : AttrId). option_map (λ (j : InstanceId). (b, j)) (point_at s.model b (spot_of (attribute_or s.model a).phrase i)))) (own_attribute s.model is.is_model a has)
      ∙ ap (option_map (λ (j : InstanceId). (a, j))) own

  -- a point's value is of its attribute's kind
  HasOwnKind : ReportLine → Type 0
  HasOwnKind (line.Point a i f t v) = has_kind (attribute_or s.model a).kind v ≡ true
  HasOwnKind (line.Members q i names) = Unit {0}
  HasOwnKind (line.Member q k i) = Unit {0}

  printed_again : (a : AttrId) (v : Value) → has_kind (attribute_or s.model a).kind v ≡ true → is_printed_so s a (attribute_or s.model a).kind v (origin_by s.files (rule_of s.rules a) v) ≡ true
  printed_again a v fits =
      let shown = bytes_eq (value_text (attribute_or s.model a).kind v) (value_text (attribute_or s.model a).kind v) in
      and_from (has_kind (attribute_or s.model a).kind v && shown) (bytes_eq (told.origin_text s.files (rule_of s.rules a) v) (origin_text (origin_by s.files (rule_of s.rules a) v)))
      (and_from (has_kind (attribute_or s.model a).kind v) shown fits (own_bytes (value_text (attribute_or s.model a).kind v)))
      (ap (bytes_eq (told.origin_text s.files (rule_of s.rules a) v)) (sym (origin_is s.files (rule_of s.rules a) v)) ∙ own_bytes (told.origin_text s.files (rule_of s.rules a) v))

  point_again : (a : AttrId) (i : InstanceId) (f t : ℕ) (v : Value) → a.0 < length s.model.attributes → Belongs (owner_of (base_of s).shape a) i → has_kind (attribute_or s.model a).kind v ≡ true → Named (line.Point a i f t v)
  unfolding Named
  point_again a i f t v has own fits =
      ap (option_and_then (λ (x : AttrId × InstanceId). cond (is_printed_so s x.0 (attribute_or s.model a).kind v (origin_by s.files (rule_of s.rules a) v)) (Some (line.Point x.0 x.1 f t v)) None)) (asked_again a i has own)
      ∙ ap (λ b. cond b (Some (line.Point a i f t v)) None) (printed_again a v fits)

  members_again : (q : RelId) (i : InstanceId) (names : Option (List (List ℕ))) → q.0 < length s.model.relations → Belongs ((base_of s).shape.source q) i → Named (line.Members q i names)
  unfolding Named Belongs
  members_again q i names has own =
      ap (option_and_then (λ (p : RelId). option_map (λ (j : InstanceId). line.Members p j names) (list_at s.model p (spot_of (relation_or s.model q).phrase i)))) (own_relation s.model is.is_model q has)
      ∙ ap (option_map (λ (j : InstanceId). line.Members q j names)) own

  member_again : (q : RelId) (k i : InstanceId) → q.0 < length s.model.relations → (relation_or s.model q).contains ≡ true → (relation_or s.model q).target.0 ≡ i.entity.0 → Belongs ((base_of s).shape.source q) k → Named (line.Member q k i)
  unfolding Named Belongs
  member_again q k i has contains target own =
      ap (option_and_then (λ (p : RelId). member_line s.model p (spot_of (relation_or s.model q).phrase k) i.name)) (own_relation s.model is.is_model q has)
      ∙ ap (λ b. cond b (option_map (λ (j : InstanceId). line.Member q j (named (relation_or s.model q).target.0 i.name)) (list_at s.model q (spot_of (relation_or s.model q).phrase k))) None) contains
      ∙ ap (option_map (λ (j : InstanceId). line.Member q j (named (relation_or s.model q).target.0 i.name))) own
      ∙ ap (λ (n : ℕ). let j : InstanceId = record { entity = record { 0 = n }; name = i.name } in Some (line.Member q k j)) target

  named_again : (l : ReportLine) → Placed l → HasOwnKind l → Named l
  unfolding Placed HasOwnKind
  named_again (line.Point a i f t v) h fits = point_again a i f t v h.0 (own_of (owner_of (base_of s).shape a) i h.1) fits
  named_again (line.Members q i names) h fits = members_again q i names h.0 (own_of ((base_of s).shape.source q) i h.1.0)
  named_again (line.Member q k i) h fits = member_again q k i h.0 h.1.0 h.1.1.0 (own_of ((base_of s).shape.source q) k h.1.1.1.0)

  module _ (x : Report) (exact : IsExact s c x) (declared : IsDeclaredBy s x) where
    of_points : (l : ReportLine) → Contains (point_lines (base_of s) (facts_of c) exact.used) l → LineIsDeclared s.model l → Placed l
    unfolding Placed
    of_points l there d =
        let slot = flat_out (λ (p : AttrId × InstanceId). slot_lines (base_of s) (facts_of c) exact.used p.0 p.1) (slots (base_of s) (facts_of c)) l there in
        let a = slot.0.0 in let i = slot.0.1 in
        let run = map_out (point_line a i) _ l slot.1.1 in
        let attr = flat_out (with_instances (base_of s) (facts_of c)) (by_rank (base_of s)) slot.0 slot.1.0 in
        let inst = map_out (λ (j : InstanceId). (attr.0, j)) (of_entity (facts_of c) (owner_of (base_of s).shape attr.0)) slot.0 attr.1.1 in
        let same : attr.0 ≡ a = ap (λ (p : AttrId × InstanceId). p.0) inst.1.1 in
        let own : inst.0 ≡ i = ap (λ (p : AttrId × InstanceId). p.1) inst.1.1 in
        let here : Contains (of_entity (facts_of c) (owner_of (base_of s).shape a)) i =
        subst (λ (b : AttrId). Contains (of_entity (facts_of c) (owner_of (base_of s).shape b)) i) same (subst (λ (j : InstanceId). Contains (of_entity (facts_of c) (owner_of (base_of s).shape attr.0)) j) own inst.1.0) in
        subst Placed run.1.1 (subst (LineIsDeclared s.model) (sym run.1.1) d, listed_of (owner_of (base_of s).shape a) i here)

    of_list : (l : ReportLine) → LineIsDeclared s.model l → (q : RelId) (i : InstanceId) → Contains (of_entity (facts_of c) ((base_of s).shape.source q)) i → (b : Bool) → Contains (cond b (line.Members q i ((facts_of c).members q i) ∷ []) []) l → Placed l
    unfolding Placed
    of_list l d q i here false h = absurd (none_in l h)
    of_list l d q i here true h = the (contains_cases (line.Members q i ((facts_of c).members q i)) l [] h)
      where
        the : (line.Members q i ((facts_of c).members q i) ≡ l) ⊎ Contains [] l → Placed l
        the (inl e) = subst Placed e (subst (LineIsDeclared s.model) (sym e) d, (listed_of ((base_of s).shape.source q) i here, refl))
        the (inr k) = absurd (none_in l k)

    of_lists : (l : ReportLine) → Contains (list_lines (base_of s) (facts_of c) exact.used) l → LineIsDeclared s.model l → Placed l
    of_lists l there d =
        let key = flat_out (λ (p : RelId × InstanceId). key_lines (base_of s) (facts_of c) exact.used p.0 p.1) (keys (base_of s) (facts_of c)) l there in
        let q = key.0.0 in let i = key.0.1 in
        let rel = flat_out (λ (r : RelId). map (λ (j : InstanceId). (r, j)) (of_entity (facts_of c) ((base_of s).shape.source r))) (relations (base_of s).shape.relations) key.0 key.1.0 in
        let inst = map_out (λ (j : InstanceId). (rel.0, j)) (of_entity (facts_of c) ((base_of s).shape.source rel.0)) key.0 rel.1.1 in
        let same : rel.0 ≡ q = ap (λ (p : RelId × InstanceId). p.0) inst.1.1 in
        let own : inst.0 ≡ i = ap (λ (p : RelId × InstanceId). p.1) inst.1.1 in
        let here : Contains (of_entity (facts_of c) ((base_of s).shape.source q)) i =
        subst (λ (b : RelId). Contains (of_entity (facts_of c) ((base_of s).shape.source b)) i) same (subst (λ (j : InstanceId). Contains (of_entity (facts_of c) ((base_of s).shape.source rel.0)) j) own inst.1.0) in
        of_list l d q i here (exact.used (Listed q i)) key.1.1

    of_container : (l : ReportLine) → LineIsDeclared s.model l → (k j : InstanceId) → IsLive (facts_of c) j → (facts_of c).container j ≡ Some k → line.Member ((base_of s).shape.contained j.entity.0) k j ≡ l → Placed l
    unfolding Placed
    of_container l d k j live e same =
        let m = shape_of s.model in
        let shape = shape_is s.model is.is_model in
        let up = in_upto m (stored c.lists) (m.count - 1) j k (sym (ap (λ l. container_of l j) is.fits.live) ∙ e) in
        let has = up.2 in
        let inside : j.entity.0 < m.count = omega (arith, up.1, shape.some) in
        let q = m.contained j.entity.0 in
        let live_k = live_in c k (is.fits.listed q k has.names has.known) in
        subst Placed same (
          subst (LineIsDeclared s.model) (sym same) d,
          (shape.contains j.entity.0 up.0 inside, (shape.target j.entity.0 up.0 inside, ((live_k, is.fits.sound.source q k has.names has.known), (live, above_zero j up.0)))),
        )

    of_containers : (l : ReportLine) → Contains (member_lines (base_of s) (facts_of c) exact.owned) l → LineIsDeclared s.model l → Placed l
    of_containers l there d =
        let inst = flat_out (λ (j : InstanceId). cond (exact.owned j) (contained_lines (base_of s) (facts_of c) j ((facts_of c).container j)) []) (facts_of c).instances l there in
        owned inst.0 inst.1.0 (exact.owned inst.0) inst.1.1
      where
        the : (k j : InstanceId) → IsLive (facts_of c) j → (facts_of c).container j ≡ Some k → (line.Member ((base_of s).shape.contained j.entity.0) k j ≡ l) ⊎ Contains [] l → Placed l
        the k j live e (inr h) = absurd (none_in l h)
        the k j live e (inl same) = of_container l d k j live e same

        held : (j : InstanceId) → IsLive (facts_of c) j → (o : Option InstanceId) → (facts_of c).container j ≡ o → Contains (contained_lines (base_of s) (facts_of c) j o) l → Placed l
        held j live None e h = absurd (none_in l h)
        held j live (Some k) e h = the k j live e (contains_cases (line.Member ((base_of s).shape.contained j.entity.0) k j) l [] h)

        owned : (j : InstanceId) → IsLive (facts_of c) j → (b : Bool) → Contains (cond b (contained_lines (base_of s) (facts_of c) j ((facts_of c).container j)) []) l → Placed l
        owned j live false h = absurd (none_in l h)
        owned j live true h = held j live ((facts_of c).container j) refl h

    each_line : (l : ReportLine) → Contains x.lines l → Placed l
    each_line l there = one (Contains-append_cases points (lists ++ members) l (subst (λ ls. Contains ls l) exact.are there))
      where
        points : List ReportLine
        points = point_lines (base_of s) (facts_of c) exact.used

        lists : List ReportLine
        lists = list_lines (base_of s) (facts_of c) exact.used

        members : List ReportLine
        members = member_lines (base_of s) (facts_of c) exact.owned

        two : Contains lists l ⊎ Contains members l → Placed l
        two (inl h) = of_lists l h (declared l there)
        two (inr h) = of_containers l h (declared l there)

        one : Contains points l ⊎ Contains (lists ++ members) l → Placed l
        one (inl h) = of_points l h (declared l there)
        one (inr h) = two (Contains-append_cases lists members l h)

    lines_named : (ls : List ReportLine) → ((l : ReportLine) → Contains ls l → Named l) → AreNamed s (map (spelled_line s) ls) ls
    unfolding Named
    lines_named [] h = tt
    lines_named (l ∷ ls) h = (h l (contains_head l ls), lines_named ls (λ k there. h k (contains_tail l k ls there)))

    -- the value of a listed run is the point's
    run_value : ListsEntries s c x → HasDays x → (a : AttrId) (i : InstanceId) (f t : ℕ) (v : Value) → Contains x.lines (line.Point a i f t v) → value_at s c a i f ≡ v
    run_value entries days a i f t v there =
        let low : f ≤ t = (days a i f t v there).0 in
        let lists = support.point a i f t f v there (omega arith) low in told_value (base_of s) (facts_of c) (Point x.attr x.inst x.day) (PointIs a i f v) ((entries (PointIs a i f v)).0 lists) a i f v refl

    own_kind : ListsEntries s c x → HasDays x → (l : ReportLine) → Contains x.lines l → HasOwnKind l
    unfolding HasOwnKind
    own_kind entries days (line.Point a i f t v) there = subst (λ w. has_kind (attribute_or s.model a).kind w ≡ true) (run_value entries days a i f t v there) (values_have_kinds_holds s c is a i f)
    own_kind entries days (line.Members q i names) there = tt
    own_kind entries days (line.Member q k i) there = tt

    -- ---- what can be printed

    module _ (base : IsPrintableBase s) (own : IsPrintableCase c) (entries : ListsEntries s c x) (days : HasDays x) where
      instance_can : (i : InstanceId) → IsLive (facts_of c) i → is_same i global ≡ false → IsName i.name
      instance_can i live apart =
          let m = shape_of s.model in
          let held = af.contained i live (some_entity i live apart) in
          let up = in_upto m (stored c.lists) (m.count - 1) i held.container (sym (ap (λ l. container_of l i) is.fits.live) ∙ held.is) in
          let has = up.2 in
          let q = m.contained i.entity.0 in
          one_name has.names i.name (names_are has.names (is.fits.sound.names q held.container has.names has.known) (own.clean.names q held.container has.names has.known) (own.names q held.container has.names has.known)) has.listed

      name_can : (i : InstanceId) → IsLive (facts_of c) i → MayBeName (name_of i)
      name_can i live = go (is_same i global) refl
        where
          go : (b : Bool) → is_same i global ≡ b → MayBeName (cond b None (Some i.name))
          go true e = tt
          go false e = instance_can i live e

      attribute_can : (a : AttrId) → a.0 < length s.model.attributes → CanBePhrase (attribute_or s.model a).phrase
      attribute_can a lt =
          let t = (attribute_or s.model a).phrase in
          let there = stands_in (attribute_phrases s.model) a.0 t (phrase_at (λ (y : Attribute). y.phrase) s.model.attributes a.0 no_attribute lt) in
          can_be_phrase t (base.texts t (Contains-append_left (attribute_phrases s.model) (relation_phrases s.model) t there)) (All-contains IsPhrase (attribute_phrases s.model) t base.readable.attributes there)

      relation_can : (q : RelId) → q.0 < length s.model.relations → CanBePhrase (relation_or s.model q).phrase
      relation_can q lt =
          let t = (relation_or s.model q).phrase in
          let there = stands_in (relation_phrases s.model) q.0 t (phrase_at (λ (y : Relation). y.phrase) s.model.relations q.0 no_relation lt) in
          can_be_phrase t (base.texts t (Contains-append_right (attribute_phrases s.model) (relation_phrases s.model) t there)) (All-contains IsPhrase (relation_phrases s.model) t base.readable.relations there)

      origin_can : (a : AttrId) (v : Value) → IsOrigin (origin_by s.files (rule_of s.rules a) v)
      origin_can a v = go (rule_of s.rules a) refl
        where
          answered : (b : Bool) → IsOrigin (cond b origin.Unanswered origin.Answer)
          answered true = tt
          answered false = tt

          go : (o : Option Rule) → rule_of s.rules a ≡ o → IsOrigin (origin_by s.files o v)
          go None e = answered (is_unknown v)
          go (Some rule) e = base.places a rule e

      live_names : (t : ℕ) → 0 < t → (ns : List (List ℕ)) → AllByRecursion (λ n. IsLive (facts_of c) (named t n)) ns → AllByRecursion IsName ns
      live_names t pos [] h = tt
      live_names t pos (n ∷ ns) h = (instance_can (named t n) h.0 (above_zero (named t n) pos), live_names t pos ns h.1)

      list_can : (q : RelId) (i : InstanceId) (ns : List (List ℕ)) → list_of c q i ≡ Some ns → AllByRecursion IsName ns
      list_can q i ns e = go (either_has (get c.lists (q.0, i)) (get c.every (q.0, i)) ns e)
        where
          go : (get c.lists (q.0, i) ≡ Some ns) ⊎ (get c.every (q.0, i) ≡ Some ns) → AllByRecursion IsName ns
          go (inl g) = names_are ns (is.fits.sound.names q i ns g) (own.clean.names q i ns g) (own.names q i ns g)
          go (inr g) =
              let m = shape_of s.model in
              let every : m.every q ≡ true = is_every m (stored c.lists) q.0 i ns (sym (ap (λ k. get k (q.0, i)) is.fits.every) ∙ g) in
              live_names (m.target q) ((shape_is s.model is.is_model).over_another q every) ns (af.listed q i ns e)

      names_can : (q : RelId) (i : InstanceId) (names : Option (List (List ℕ))) → list_of c q i ≡ names → AreNames names
      names_can q i None e = tt
      names_can q i (Some ns) e = list_can q i ns e

      point_can : (a : AttrId) (i : InstanceId) (f t : ℕ) (v : Value) → Contains x.lines (line.Point a i f t v) → CanBeWritten (attribute_or s.model a).kind v
      point_can a i f t v there = subst (CanBeWritten (attribute_or s.model a).kind) (run_value entries days a i f t v there) (value_written s c is base own a i f)

      line_can : (l : ReportLine) → Contains x.lines l → Placed l → CanBePrinted (spelled_line s l)
      unfolding Placed
      line_can (line.Point a i f t v) there h =
          let span = days a i f t v there in
          ((attribute_can a h.0, name_can i h.1.0), (span.0, (span.1, (point_can a i f t v there, origin_can a v))))
      line_can (line.Members q i names) there h = ((relation_can q h.0, name_can i h.1.0.0), names_can q i names h.1.1)
      line_can (line.Member q k i) there h = ((relation_can q h.0, name_can k h.1.1.1.0.0), instance_can i h.1.1.1.1.0 h.1.1.1.1.1)

      lines_can : (ls : List ReportLine) → ((l : ReportLine) → Contains ls l → CanBePrinted (spelled_line s l)) → AllByRecursion CanBePrinted (map (spelled_line s) ls)
      lines_can [] h = tt
      lines_can (l ∷ ls) h = (h l (contains_head l ls), lines_can ls (λ k there. h k (contains_tail l k ls there)))

      pub can_be_printed : is_point s c x.attr x.inst ≡ true → x.day < DAYS → IsSpelled (spelled_of s x)
      can_be_printed point lt =
          let outer = and_parts (nat_lt x.attr.0 (length s.model.attributes)) (has_place s c x.attr x.inst) point in
          let place = and_parts (is_live c.live x.inst) (x.inst.entity.0 == owner_of (shape_of s.model) x.attr) outer.1 in
          record {
            asked = (attribute_can x.attr (ltb-true x.attr.0 (length s.model.attributes) outer.0), name_can x.inst (live_in c x.inst place.0));
            day = lt;
            printed = lines_can x.lines (λ l there. line_can l there (each_line l there));
          }

    pub restated : ListsEntries s c x → HasDays x → is_point s c x.attr x.inst ≡ true → IsSpelled (spelled_of s x) → IsRestated s x
    restated entries days point can =
        let outer = and_parts (nat_lt x.attr.0 (length s.model.attributes)) (has_place s c x.attr x.inst) point in
        let place = and_parts (is_live c.live x.inst) (x.inst.entity.0 == owner_of (shape_of s.model) x.attr) outer.1 in
        let has : x.attr.0 < length s.model.attributes = ltb-true x.attr.0 (length s.model.attributes) outer.0 in
        let own = belongs (owner_of (base_of s).shape x.attr) x.inst (live_in c x.inst place.0) (eqb-true x.inst.entity.0 (owner_of (shape_of s.model) x.attr) place.1) in
        record { spelled = can; asked = asked_again x.attr x.inst has own; lines = lines_named x.lines (λ l there. named_again l (each_line l there) (own_kind entries days l there)) }

    pub is_alive : is_point s c x.attr x.inst ≡ true → is_live c.live x.inst ≡ true
    is_alive point =
        let outer = and_parts (nat_lt x.attr.0 (length s.model.attributes)) (has_place s c x.attr x.inst) point in
        (and_parts (is_live c.live x.inst) (x.inst.entity.0 == owner_of (shape_of s.model) x.attr) outer.1).0

-- ---- the text of a report of a case

module _ (r : Rulebase) (text : List ℕ) (of : IsOfCase r text) where
  abbrev own : Report
  own = of.report

  -- what is printed of it names it again
  restates : IsRestated r own
  restates = restated r of.given of.fits own of.exact of.declared of.entries of.days of.point (can_be_printed r of.given of.fits own of.exact of.declared of.base of.own of.entries of.days of.point of.day)

  own_read : IsReadAs r text own
  own_read = record {
    spelled = spelled_of r own;
    told = record { is = sym (text_is r own) ∙ of.told; spelled = restates.spelled; day = of.day; dated = all_days (spelled_of r own).printed restates.spelled.printed };
    asked = restates.asked;
    day = refl;
    lines = restates.lines;
  }

  own_held : AreHeldUp (base_of r) own.lines × (asked_value own ≡ Some (value_at r of.given own.attr own.inst own.day))
  own_held = reports_are_held_up_holds r of.given of.fits own (is_alive r of.given of.fits own of.exact of.declared of.point) of.entries of.days

  own_upheld : IsUpheld r text
  own_upheld = record { report = own; read = own_read; holds = record { told = told_by r text own own_read; lines = own_held.0; value = value_at r of.given own.attr own.inst own.day; listed = own_held.1 } }

  -- what is told of the text is the value of its point
  value_told : (said : List ℕ) → SaysSupported r text said → said ≡ supported_text r own (value_at r of.given own.attr own.inst own.day)
  value_told said s =
      let u = s.supported.upheld in
      let report : u.report ≡ own = same_report r text of.few u.report own u.read own_read in
      let value : u.holds.value ≡ value_at r of.given own.attr own.inst own.day = cc (sym u.holds.listed ∙ ap asked_value report ∙ own_held.1) in
      s.says ∙ ap (λ y. supported_text r y u.holds.value) report ∙ ap (supported_text r own) value

pub reports_are_upheld_holds : ReportsAreUpheld
reports_are_upheld_holds r text of = own_upheld r text of

pub reports_get_yes_holds : ReportsGetYes
reports_get_yes_holds r text w of j = same_verdict r text of.few w verdict.Yes j (own_upheld r text of)

pub reports_are_supported_holds : ReportsAreSupported
reports_are_supported_holds r text said w of t = subst (λ v. Tells r text v said) (reports_get_yes_holds r text w of (told_judges r text w said t)) t

pub reports_tell_values_hold : ReportsTellValues
reports_tell_values_hold r text said w of t = value_told r text of said (reports_are_supported_holds r text said w of t)
