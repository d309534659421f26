-- The lines of a report list all that the report has.
use Rattle.std.proofs.Common.{◌≡◌, ℕ, cond, List, [], ◌∷◌, Some, Contains, refl, sym, subst}
use Rattle.std.proofs.lemmas.List.Elements.{Contains-append_left, Contains-append_right}
use Rattle.opa_model.specs.declared.ids.AttrId.{AttrId}
use Rattle.opa_model.specs.declared.ids.RelId.{RelId}
use Rattle.opa_cells.specs.declared.instance.InstanceId.{InstanceId}
use Rattle.opa_tree.proofs.Members.{contains_head, flat_in}
use Rattle.opa_mean.specs.Given.{base_of, facts_of}
use Rattle.opa_mean.specs.Mean.{Base, Facts, mean}
use Rattle.opa_mean.specs.Places.{chain}
use Rattle.opa_mean.specs.Reports as report
use Rattle.opa_mean.specs.Reports.{Entry, PointIs, ListIs, MemberIs, InCone, InReport, Agrees, own_of}
use Rattle.opa_mean.specs.Uses.{Use, Point, Listed}
use Rattle.opa_mean.proofs.Everywhere.{in_map}
use Rattle.opa_mean.proofs.LawsOver.{supported_holds}
use Rattle.opa_report.specs.declared.lines.ReportLine.{ReportLine}
use Rattle.opa_report.specs.declared.lines.ReportLine.TheVariants as line
use Rattle.opa_report.specs.ReportLines.{point_line, slot_lines, point_lines, key_lines, list_lines, contained_lines, member_lines, slots, keys, IsOwned, IsReport}
use Rattle.opa_report.specs.Runs.{runs}
use Rattle.opa_report.specs.Supporting.{Lists, point, list, member, LiesIn, ReportSupports}
use Rattle.opa_report.proofs.Exactly.{runs_are_exact}

module _ (b : Base) (c : Facts) (p : Use) (lines : List ReportLine) (is : IsReport b c p lines) (lies : LiesIn b c p) where
  of_points : (x : ReportLine) → Contains (point_lines b c is.used) x → Contains lines x
  of_points x h = subst (λ ls. Contains ls x) (sym is.are) (Contains-append_left (point_lines b c is.used) _ x h)

  of_lists : (x : ReportLine) → Contains (list_lines b c is.used) x → Contains lines x
  of_lists x h = subst (λ ls. Contains ls x) (sym is.are) (Contains-append_right (point_lines b c is.used) _ x (Contains-append_left (list_lines b c is.used) (member_lines b c is.owned) x h))

  of_members : (x : ReportLine) → Contains (member_lines b c is.owned) x → Contains lines x
  of_members x h = subst (λ ls. Contains ls x) (sym is.are) (Contains-append_right (point_lines b c is.used) _ x (Contains-append_right (list_lines b c is.used) (member_lines b c is.owned) x h))

  points_listed : (a : AttrId) (i : InstanceId) (d : ℕ) → InCone b c p (Point a i d) → Lists lines (PointIs a i d (mean b c a i d))
  points_listed a i d cone =
      let at = lies.points a i d cone in
      let r = (runs_are_exact (λ e. is.used (Point a i e)) (mean b c a i) d (mean b c a i d)).1 (at.0, ((is.used_are (Point a i d)).1 cone, refl)) in
      subst (λ v. Lists lines (PointIs a i d v)) r.has_value (point a i r.run.first r.run.last d r.run.value
      (of_points (point_line a i r.run) (flat_in (λ (x : AttrId × InstanceId). slot_lines b c is.used x.0 x.1) (slots b c) (a, i) (point_line a i r.run) at.1 (in_map (point_line a i) (runs (λ e. is.used (Point a i e)) (mean b c a i)) r.run r.there))) r.from r.upto_last)

  lists_listed : (r : RelId) (i : InstanceId) → InCone b c p (Listed r i) → Lists lines (ListIs r i (c.members r i))
  lists_listed r i cone =
      let x = line.Members r i (c.members r i) in
      list r i (c.members r i) (of_lists x (flat_in (λ (k : RelId × InstanceId). key_lines b c is.used k.0 k.1) (keys b c) (r, i) x (lies.lists r i cone)
      (subst (λ t. Contains (cond t (x ∷ []) []) x) (sym ((is.used_are (Listed r i)).1 cone)) (contains_head x []))))

  members_listed : (u : Use) (i j k : InstanceId) → InCone b c p u → Contains (own_of b c u) i → Contains (chain c.container i) j → c.container j ≡ Some k → Lists lines (MemberIs j k)
  members_listed u i j k cone own above up =
      let o : IsOwned b c p j = record { use_ = u; own = i; in_cone = cone; is_own = own; above = above } in
      let x = line.Member (b.shape.contained j.entity.0) k j in
      member (b.shape.contained j.entity.0) k j (of_members x (flat_in (λ (m : InstanceId). cond (is.owned m) (contained_lines b c m (c.container m)) []) c.instances j x (lies.instances j o)
      (subst (λ t. Contains (cond t (contained_lines b c j (c.container j)) []) x) (sym ((is.owned_are j).1 o)) (subst (λ m. Contains (contained_lines b c j m) x) (sym up) (contains_head x [])))))

  pub all_listed : {e : Entry} → InReport b c p e → Lists lines e
  all_listed (report.point a i d cone) = points_listed a i d cone
  all_listed (report.list r i cone) = lists_listed r i cone
  all_listed (report.member u i j k cone own above up) = members_listed u i j k cone own above up

  pub agrees_too : (c' : Facts) → Agrees b (Lists lines) c' → Agrees b (InReport b c p) c'
  agrees_too c' h = record {
    points = λ a i d v l none. h.points a i d v (all_listed l) none;
    lists_are = λ r i names l. h.lists_are r i names (all_listed l);
    members = λ j k l. h.members j k (all_listed l);
  }

pub report_supports : ReportSupports
report_supports r c is a i d live lies lines report c' is' live' agrees =
    supported_holds r c is a i d live c' is' live' (agrees_too (base_of r) (facts_of c) (Point a i d) lines report lies (facts_of c') agrees)
