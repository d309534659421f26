-- A tree that can have a kind has `For` over relations to one alone.
use Rattle.std.proofs.Common.{◌≡◌, Bool, true, false, IsTrue, List, [], ◌∷◌, Option, None, Some, Contains, refl, sym, ◌∙◌, ap, subst}
use Rattle.std.specs.Prelude.{map, not, ◌||◌, unwrap_or}
use Rattle.std.specs.Option.{option_map_or}
use Rattle.std.proofs.lemmas.Bool.{and_parts, and_from}
use Rattle.opa_model.specs.declared.ids.RelId.{RelId}
use Rattle.opa_model.specs.declared.lists.Lists.{Lists}
use Rattle.opa_model.specs.declared.things.Kind.{Kind}
use Rattle.opa_model.specs.declared.things.Relation.{Relation}
use Rattle.opa_model.specs.Lookups.{attribute_at, relation_at}
use Rattle.opa_case.specs.Shapes.{relation_or, no_relation}
use Rattle.opa_tree.specs.declared.kinds.Quant.{Quant}
use Rattle.opa_tree.specs.declared.kinds.Quant.TheVariants as quant
use Rattle.opa_tree.specs.declared.expr.Expr.{Expr}
use Rattle.opa_tree.specs.declared.expr.Row.{Row}
use Rattle.opa_tree.specs.declared.expr.Expr.TheOpen.{Expr-F, Const, Attr, All, Any, Not, Op, Certain, Known, Over, Window, Rolling, Table}
use Rattle.opa_tree.specs.declared.expr.Expr.TheVariants as V
use Rattle.opa_tree.specs.declared.expr.Expr.TheViews.{roll-Expr}
use Rattle.opa_tree.specs.declared.expr.Expr.TheFolds.{map-Expr}
use Rattle.opa_tree.specs.declared.rules.Rule.{Rule}
use Rattle.opa_tree.specs.Kinds.{Typing, quant_can, all_can, typing, can_have, rule_has_kind}
use Rattle.opa_tree.specs.Rules.{concludes}
use Rattle.opa_tree.proofs.Induction.{by_parts, Part, RowPart, without}
use Rattle.opa_tree.proofs.KindLaws.{typing-Over}
use Rattle.opa_tree.proofs.Members.{contains_head, contains_tail}
use Rattle.opa_mean.specs.Kinds.Conditions.{IsPartOf}
use Rattle.opa_mean.proofs.kinds.Parts.{CanBe, part_can}
use Rattle.opa_mean.proofs.kinds.Passing.{found_is}
use Rattle.opa_mean.proofs.kinds.LawsHold.{rule_can}
use Rattle.opa_verify.specs.Listed.Ones.{is_for, are_single, single_step, is_single}
use Rattle.opa_verify.proofs.listed.Revealing.{row_single, single-roll, row_single-is}
use Rattle.opa_verify.specs.Support.Singles.{RulesAreSingle}

module _ (m : Lists) where
  abbrev one : RelId → Bool
  one r = (relation_or m r).one

  abbrev Single : Expr → Type 0
  Single e = CanBe m e → is_single one e ≡ true

  abbrev Parts : Type 0
  Parts = List (Part Single)

  parts : (ps : Parts) → ((x : Expr) → Contains (map (λ p. p.0) ps) x → CanBe m x) → are_single (map (is_single one) (map (λ p. p.0) ps)) ≡ true
  parts [] h = refl
  parts (p ∷ ps) h = and_from (is_single one p.0) (are_single (map (is_single one) (map (λ p. p.0) ps))) (p.1 (h p.0 (contains_head p.0 (map (λ p. p.0) ps)))) (parts ps (λ x there. h x (contains_tail p.0 x (map (λ p. p.0) ps) there)))

  rows_single : (rs : List (RowPart Single)) → ((r : Row) → Contains (map (λ r. r.0) rs) r → CanBe m r.cond × CanBe m r.value) → are_single (map (row_single one) (map (λ r. r.0) rs)) ≡ true
  rows_single [] h = refl
  rows_single (r ∷ rs) h =
      let both = h r.0 (contains_head r.0 (map (λ r. r.0) rs)) in
      and_from (row_single one r.0) (are_single (map (row_single one) (map (λ r. r.0) rs))) (row_single-is one r.0 ∙ and_from (is_single one r.0.cond) (is_single one r.0.value) (r.1.0 both.0) (r.1.1 both.1))
      (rows_single rs (λ x there. h x (contains_tail r.0 x (map (λ r. r.0) rs) there)))

  -- `For` is over a relation to one
  over_one : (q : Quant) (r : RelId) (es : List Expr) (k : Kind) → can_have m (V.Over q r es) k ≡ true → (not (is_for q) || one r) ≡ true
  over_one q r es k c = go q (relation_at m r) refl (sym (ap (λ (t : Typing). t.can k) (typing-Over m q r es)) ∙ c)
    where
      go : (q : Quant) (o : Option Relation) → relation_at m r ≡ o → option_map_or (λ (x : Relation). quant_can q x.one (map (typing m) es) k) o false ≡ true → (not (is_for q) || one r) ≡ true
      go q None e h = absurd (cc h)
      go quant.For (Some x) e h = ap (λ (o : Option Relation). (unwrap_or o no_relation).one) e ∙ (and_parts x.one (all_can (map (typing m) es) k) h).0
      go quant.ForAll (Some x) e h = refl
      go quant.Exists (Some x) e h = refl
      go quant.Count (Some x) e h = refl
      go quant.CountIf (Some x) e h = refl
      go quant.Sum (Some x) e h = refl
      go quant.SumIf (Some x) e h = refl
      go quant.Maximum (Some x) e h = refl
      go quant.Minimum (Some x) e h = refl

  abbrev single : Expr-F (Part Single) (RowPart Single) → Expr-F Bool Bool
  single z = map-Expr Expr Row Bool Bool (is_single one) (row_single one) (without Single z)

  abbrev trees : Parts → List Expr
  trees ps = map (λ p. p.0) ps

  level : (z : Expr-F (Part Single) (RowPart Single)) → CanBe m (roll-Expr (without Single z)) → single_step one (single z) ≡ true
  level (Const v) can = refl
  level (Attr a) can = refl
  level (All ps) can = let c = subst (CanBe m) (V.rolls-All (trees ps)) can in parts ps (λ x h. part_can m x (IsPartOf.of_all (trees ps) h) c.0 c.1)
  level (Any ps) can = let c = subst (CanBe m) (V.rolls-Any (trees ps)) can in parts ps (λ x h. part_can m x (IsPartOf.of_any (trees ps) h) c.0 c.1)
  level (Not p) can = let c = subst (CanBe m) (V.rolls-Not p.0) can in p.1 (part_can m p.0 IsPartOf.of_not c.0 c.1)
  level (Op o ps) can = let c = subst (CanBe m) (V.rolls-Op o (trees ps)) can in parts ps (λ x h. part_can m x (IsPartOf.of_operation o (trees ps) h) c.0 c.1)
  level (Certain p) can = let c = subst (CanBe m) (V.rolls-Certain p.0) can in p.1 (part_can m p.0 IsPartOf.of_certain c.0 c.1)
  level (Known p) can = let c = subst (CanBe m) (V.rolls-Known p.0) can in p.1 (part_can m p.0 IsPartOf.of_known c.0 c.1)
  level (Over q r ps) can =
      let c = subst (CanBe m) (V.rolls-Over q r (trees ps)) can in
      and_from (not (is_for q) || one r) (are_single (map (is_single one) (trees ps))) (over_one q r (trees ps) c.0 c.1) (parts ps (λ x h. part_can m x (IsPartOf.of_quantifier q r (trees ps) h) c.0 c.1))
  level (Window w ps) can = let c = subst (CanBe m) (V.rolls-Window w (trees ps)) can in parts ps (λ x h. part_can m x (IsPartOf.of_window w (trees ps) h) c.0 c.1)
  level (Rolling b n p) can = let c = subst (CanBe m) (V.rolls-Rolling b n p.0) can in p.1 (part_can m p.0 (IsPartOf.of_rolling b n) c.0 c.1)
  level (Table rs p) can =
      let rows = map (λ r. r.0) rs in
      let c = subst (CanBe m) (V.rolls-Table rows p.0) can in
      and_from (are_single (map (row_single one) rows)) (is_single one p.0)
      (rows_single rs (λ r h. (part_can m r.cond (IsPartOf.row_condition rows p.0 r h refl) c.0 c.1, part_can m r.value (IsPartOf.row_value rows p.0 r h refl) c.0 c.1)))
      (p.1 (part_can m p.0 (IsPartOf.last_value rows) c.0 c.1))

  pub can_be_single : (e : Expr) → Single e
  can_be_single = by_parts Single (λ z can. single-roll one (without Single z) ∙ level z can)

pub rules_are_single_holds : RulesAreSingle
rules_are_single_holds r a rule e =
    can_be_single r.model rule.expr (rule_can r rule (attribute_at r.model rule.attr) (found_is (λ (x : Rule). IsTrue (rule_has_kind r.model x)) (concludes a) r.rules rule r.sound.of_kinds e).0)
