-- What the lines of a report name is declared.
use Rattle.std.proofs.Common.{◌≡◌, ◌⊎◌, inl, inr, ℕ, zero, suc, ◌-◌, ◌<◌, ◌≤◌, Bool, List, [], ◌∷◌, ◌++◌, map, filter, flat_map, length, get_or, Option, Some, Contains, ◌==◌, refl, sym, ◌∙◌, ap, subst, arith}
use Rattle.std.specs.Prelude.{unwrap_or}
use Rattle.std.specs.Map.{lookup}
use Rattle.std.proofs.lemmas.List.Elements.{Contains-append_cases}
use Rattle.std.proofs.lemmas.Option.{slice_get-get_or, slice_get_within}
use Rattle.opa_model.specs.declared.ids.AttrId.{AttrId}
use Rattle.opa_model.specs.declared.ids.RelId.{RelId}
use Rattle.opa_model.specs.declared.things.Entity.{Entity}
use Rattle.opa_cells.specs.Instances.{is_same}
use Rattle.opa_cells.specs.declared.instance.InstanceId.{InstanceId}
use Rattle.opa_case.specs.Cases.{CaseView, stored}
use Rattle.opa_case.specs.Live.{Population}
use Rattle.opa_case.specs.Shapes.{entity_or, no_entity, shape_of}
use Rattle.opa_case.proofs.Stands.{in_upto}
use Rattle.opa_tree.specs.declared.rulebase.Rulebase.{Rulebase}
use Rattle.opa_tree.proofs.Members.{none_in, contains_cases, flat_out}
use Rattle.opa_mean.specs.Changes.{attributes}
use Rattle.opa_mean.specs.Given.{base_of, facts_of}
use Rattle.opa_mean.specs.Mean.{Base, Facts}
use Rattle.opa_mean.specs.Places.{owner_of}
use Rattle.opa_mean.specs.Rulebases.{IsOf}
use Rattle.opa_mean.specs.Uses.{Use}
use Rattle.opa_mean.proofs.Filtered.{filter_out, map_out}
use Rattle.opa_mean.proofs.SlotsAre.{out_attributes}
use Rattle.opa_report.specs.declared.lines.ReportLine.{ReportLine}
use Rattle.opa_report.specs.declared.lines.ReportLine.TheVariants as line
use Rattle.opa_report.specs.Promises.{LineIsDeclared}
use Rattle.opa_report.specs.ReportLines.{by_rank, ranks, relations, with_rank, of_entity, with_instances, slots, keys, IsReport}
use Rattle.opa_report.proofs.Entries.{OfRun, OfList, OfMember, Origin, of_run, of_list, of_member, origin}

out_relations : (n : ℕ) (q : RelId) → Contains (relations n) q → q.0 < n
out_relations zero q h = absurd (none_in q h)
out_relations (suc n) q h = go (Contains-append_cases (relations n) (record { 0 = n } ∷ []) q h) (out_relations n q)
  where
    last : Contains (record { 0 = n } ∷ []) q → q.0 < suc n
    last k = at (contains_cases (record { 0 = n }) q [] k)
      where
        at : (record { 0 = n } ≡ q) ⊎ Contains [] q → q.0 < suc n
        at (inl e) = let same : n ≡ q.0 = ap (λ (x : RelId). x.0) e in omega (arith, same)
        at (inr k) = absurd (none_in q k)

    go : Contains (relations n) q ⊎ Contains (record { 0 = n } ∷ []) q → (Contains (relations n) q → q.0 < n) → q.0 < suc n
    go (inl k) rest = let lt = rest k in omega (arith, lt)
    go (inr k) rest = last k

slot_declared : (b : Base) (c : Facts) (x : AttrId × InstanceId) → Contains (slots b c) x → x.0.0 < b.shape.attributes
slot_declared b c x h =
    let y = flat_out (with_instances b c) (by_rank b) x h in
    let z = map_out (λ i. (y.0, i)) (of_entity c (owner_of b.shape y.0)) x y.1.1 in
    let n = flat_out (with_rank b) (ranks b) y.0 y.1.0 in
    let own = out_attributes b.shape.attributes y.0 (filter_out (λ a. b.rank a == n.0) (attributes b.shape.attributes) y.0 n.1.1).0 in
    subst (λ (w : AttrId × InstanceId). w.0.0 < b.shape.attributes) z.1.1 own

key_declared : (b : Base) (c : Facts) (x : RelId × InstanceId) → Contains (keys b c) x → x.0.0 < b.shape.relations
key_declared b c x h =
    let y = flat_out (λ q. map (λ i. (q, i)) (of_entity c (b.shape.source q))) (relations b.shape.relations) x h in
    let z = map_out (λ i. (y.0, i)) (of_entity c (b.shape.source y.0)) x y.1.1 in
    subst (λ (w : RelId × InstanceId). w.0.0 < b.shape.relations) z.1.1 (out_relations b.shape.relations y.0 y.1.0)

module _ (r : Rulebase) (c : CaseView) (is : IsOf r c) where
  contained_declared : (i k : InstanceId) → (facts_of c).container i ≡ Some k → ((shape_of r.model).contained i.entity.0).0 < length r.model.relations
  contained_declared i k up =
      let m = r.model in let e = i.entity.0 in
      let in_live = in_upto (shape_of m) (stored c.lists) ((shape_of m).count - 1) i k (sym (ap (λ (live : Population). lookup (is_same i) live) is.fits.live) ∙ up) in
      let some = is.is_model.has_global in
      let lt : e < length m.entities = let low = in_live.1 in omega (arith, low, some) in
      let x : Entity = get_or m.entities e no_entity in
      let got = slice_get-get_or m.entities e no_entity lt in
      let inside = is.is_model.contained e x in_live.0 got in
      let same : entity_or m e ≡ x = ap (λ o. unwrap_or o no_entity) got in
      subst (λ (y : Entity). y.contained.0 < length m.relations) (sym same) (slice_get_within m.relations x.contained.0 inside.relation inside.by_it)

  pub lines_declared : (p : Use) (lines : List ReportLine) → IsReport (base_of r) (facts_of c) p lines → (x : ReportLine) → Contains lines x → LineIsDeclared r.model x
  lines_declared p lines report x h = go x (origin (base_of r) (facts_of c) p lines report x h)
    where
      go : (x : ReportLine) → Origin (base_of r) (facts_of c) p lines report x → LineIsDeclared r.model x
      go x (of_run o) = subst (LineIsDeclared r.model) o.same (slot_declared (base_of r) (facts_of c) o.slot o.stands)
      go x (of_list o) = subst (LineIsDeclared r.model) o.same (key_declared (base_of r) (facts_of c) o.key o.stands)
      go x (of_member o) = subst (LineIsDeclared r.model) o.same (contained_declared o.inst o.container o.up)
