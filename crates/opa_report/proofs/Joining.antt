-- The lines of a report, joined.
use Rattle.std.proofs.Common.{◌≡◌, cond, List, [], ◌++◌, ◌∙◌, ap, subst}
use Rattle.std.specs.Prelude.{flat_map, nat_lt}
use Rattle.std.specs.FinMap.{empty}
use Rattle.std.proofs.lemmas.Bool.{and_parts, ltb-true}
use Rattle.std.proofs.lemmas.List.{append_assoc}
use Rattle.opa_date.specs.declared.TheConstants.{DAYS}
use Rattle.opa_model.specs.declared.ids.AttrId.{AttrId}
use Rattle.opa_model.specs.declared.ids.RelId.{RelId}
use Rattle.opa_cells.specs.declared.instance.InstanceId.{InstanceId}
use Rattle.opa_mean.specs.Mean.{Base, Facts}
use Rattle.opa_mean.specs.Uses.{Use, Point}
use Rattle.opa_report.specs.declared.found.Found.{Found}
use Rattle.opa_report.specs.declared.lines.ReportLine.{ReportLine}
use Rattle.opa_report.specs.Finding.{has}
use Rattle.opa_report.specs.Owning.{Marked, is_marked, Marks, OwnsPoint, OwnsList}
use Rattle.opa_report.specs.ReportLines.{slot_lines, key_lines, contained_lines, slots, keys, IsReport}
use Rattle.opa_report.specs.Reporting.{AreOf, IsPlaced, IsWhole}
use Rattle.opa_report.specs.Supporting.{LiesIn}
use Rattle.opa_report.specs.Walking.{IsCone}
use Rattle.opa_report.proofs.Marking.{marked_are_owned}

reported : (b : Base) (c : Facts) (p : Use) (ss : List (AttrId × InstanceId)) (ks : List (RelId × InstanceId)) (is : List InstanceId) (f : Found) (m0 m n : Marked) (points lists lines all : List ReportLine) → AreOf b c ss ks is → IsPlaced b c p → IsCone b c p f
    → m0 ≡ empty → Marks (OwnsPoint c f ss) m0 m → Marks (OwnsList b c f ks) m n
    → points ≡ flat_map (λ x. slot_lines b c (has f) x.0 x.1) ss → lists ≡ flat_map (λ x. key_lines b c (has f) x.0 x.1) ks → lines ≡ points ++ lists
    → all ≡ lines ++ flat_map (λ i. cond (is_marked n i) (contained_lines b c i (c.container i)) []) is → IsReport b c p all
reported b c p ss ks is f m0 m n points lists lines all of lies cone none marked_points marked_lists points_are lists_are lines_are all_are = record {
  used = has f;
  owned = is_marked n;
  used_are = cone;
  owned_are = marked_are_owned b c f p m n cone lies
      (subst (λ (k : Marked). Marks (OwnsPoint c f (slots b c)) k m) none (subst (λ xs. Marks (OwnsPoint c f xs) m0 m) of.slots_are marked_points))
      (subst (λ xs. Marks (OwnsList b c f xs) m n) of.keys_are marked_lists);
  are = all_are
      ∙ ap (λ xs. lines ++ flat_map (λ i. cond (is_marked n i) (contained_lines b c i (c.container i)) []) xs) of.instances_are
      ∙ ap (λ ls. ls ++ flat_map (λ i. cond (is_marked n i) (contained_lines b c i (c.container i)) []) c.instances)
      (lines_are ∙ ap (λ ls. ls ++ lists) (points_are ∙ ap (flat_map (λ x. slot_lines b c (has f) x.0 x.1)) of.slots_are)
      ∙ ap (λ ls. flat_map (λ x. slot_lines b c (has f) x.0 x.1) (slots b c) ++ ls) (lists_are ∙ ap (flat_map (λ x. key_lines b c (has f) x.0 x.1)) of.keys_are))
      ∙ append_assoc (flat_map (λ x. slot_lines b c (has f) x.0 x.1) (slots b c)) (flat_map (λ x. key_lines b c (has f) x.0 x.1) (keys b c)) _;
}

-- what was found lies in the calendar
lies_in : (b : Base) (c : Facts) (p : Use) (f : Found) → IsPlaced b c p → IsCone b c p f → LiesIn b c p
lies_in b c p f placed cone = record {
  points = λ a i d h. (ltb-true d DAYS (and_parts (nat_lt d DAYS) _ ((cone (Point a i d)).1 h)).0, placed.points a i d h);
  lists = placed.lists;
  instances = placed.instances;
}

pub whole : (b : Base) (c : Facts) (p : Use) (ss : List (AttrId × InstanceId)) (ks : List (RelId × InstanceId)) (is : List InstanceId) (f : Found) (m0 m n : Marked) (points lists lines all : List ReportLine) → AreOf b c ss ks is → IsPlaced b c p → IsCone b c p f
    → m0 ≡ empty → Marks (OwnsPoint c f ss) m0 m → Marks (OwnsList b c f ks) m n
    → points ≡ flat_map (λ x. slot_lines b c (has f) x.0 x.1) ss → lists ≡ flat_map (λ x. key_lines b c (has f) x.0 x.1) ks → lines ≡ points ++ lists
    → all ≡ lines ++ flat_map (λ i. cond (is_marked n i) (contained_lines b c i (c.container i)) []) is → IsWhole b c p all
whole b c p ss ks is f m0 m n points lists lines all of placed cone none marked_points marked_lists points_are lists_are lines_are all_are = record {
  report = reported b c p ss ks is f m0 m n points lists lines all of placed cone none marked_points marked_lists points_are lists_are lines_are all_are;
  lies = lies_in b c p f placed cone;
}
