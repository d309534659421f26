-- What an attribute's value rests on: the answers and the lists that it looks at.
use Rattle.std.proofs.Common.{◌≡◌, ℕ, zero, suc, List, [], ◌∷◌, ◌++◌, Option, None, Some, Contains, refl, sym, ◌∙◌, ap, subst}
use Rattle.std.specs.Prelude.{map, flat_map}
use Rattle.std.specs.List.{AllByRecursion}
use Rattle.opa_value.specs.declared.value.Value.{Value}
use Rattle.opa_model.specs.declared.ids.AttrId.{AttrId}
use Rattle.opa_model.specs.declared.ids.RelId.{RelId}
use Rattle.opa_cells.specs.declared.instance.InstanceId.{InstanceId}
use Rattle.opa_case.specs.Shapes.{Shape}
use Rattle.opa_tree.specs.declared.expr.Expr.{Expr}
use Rattle.opa_tree.specs.declared.expr.Row.{Row}
use Rattle.opa_tree.specs.declared.expr.Expr.TheOpen.{Expr-F, Const, Attr, All, Any, Not, Op, Certain, Known, Over, Window, Rolling, Table}
use Rattle.opa_tree.specs.declared.expr.Expr.TheFolds.{fold-Row, fold-roll-Expr, fold_out-Row, map-Expr}
use Rattle.opa_tree.specs.declared.expr.Expr.TheViews.{roll-Expr}
use Rattle.opa_tree.specs.declared.rules.Rule.{Rule}
use Rattle.opa_tree.specs.Mentions.{mentioned, mentioned_step}
use Rattle.opa_tree.specs.Ranks.{mentions_of}
use Rattle.opa_tree.specs.Rules.{rule_of}
use Rattle.opa_tree.proofs.Induction.{by_parts, Part, RowPart, without}
use Rattle.opa_mean.specs.Looks.{Look}
use Rattle.opa_mean.specs.Mean.{Base, Facts, look_of, concluded, fitted, mean_by}
use Rattle.opa_mean.specs.Meaning.{Meaning, RowMeaning, tree_step, value, at_place, over}
use Rattle.opa_mean.specs.Places.{owner_of, place}
use Rattle.opa_mean.proofs.Determining.{mentioned_in}
use Rattle.opa_mean.proofs.Everywhere.{all_parts, all_of_each}
use Rattle.opa_mean.proofs.Levels.{value-roll, row_value, row_value-is, row_mentions, mentioned-roll, row_mentions-is}
use Rattle.opa_rules.specs.Describing.Ranges.{ranged, ranged_step, ranged_row}

unfoldable row_ranges : Row → List RelId
row_ranges = fold-Row (List RelId) (List RelId) ranged_step ranged_row

ranged-roll : (x : Expr-F Expr Row) → ranged (roll-Expr x) ≡ ranged_step (map-Expr Expr Row (List RelId) (List RelId) ranged row_ranges x)
unfolding ranged row_ranges
ranged-roll = fold-roll-Expr (List RelId) (List RelId) ranged_step ranged_row

row_ranges-is : (r : Row) → row_ranges r ≡ ranged r.cond ++ ranged r.value
unfolding ranged row_ranges
row_ranges-is r = fold_out-Row (List RelId) (List RelId) ranged_step ranged_row r

-- Looks that agree on what a tree mentions, and on the lists that it goes over, give it one value.
module _ (s : Shape) (l l' : Look) (containers : l.container ≡ l'.container) where
  abbrev AllSame : List AttrId → Type 0
  AllSame attrs = AllByRecursion (λ a. l.value a ≡ l'.value a) attrs

  abbrev AllListed : List RelId → Type 0
  AllListed rels = AllByRecursion (λ r. l.members r ≡ l'.members r) rels

  abbrev split : (xs ys : List AttrId) → AllSame (xs ++ ys) → AllSame xs × AllSame ys
  split = all_parts (λ a. l.value a ≡ l'.value a)

  abbrev split_lists : (xs ys : List RelId) → AllListed (xs ++ ys) → AllListed xs × AllListed ys
  split_lists = all_parts (λ r. l.members r ≡ l'.members r)

  abbrev Same : Expr → Type 0
  Same e = AllSame (mentioned e) → AllListed (ranged e) → value s l e ≡ value s l' e

  abbrev old : Expr-F (Part Same) (RowPart Same) → Expr-F Meaning RowMeaning
  old z = map-Expr Expr Row Meaning RowMeaning (value s l) (row_value s l) (without Same z)

  abbrev new : Expr-F (Part Same) (RowPart Same) → Expr-F Meaning RowMeaning
  new z = map-Expr Expr Row Meaning RowMeaning (value s l') (row_value s l') (without Same z)

  abbrev mentions : Expr-F (Part Same) (RowPart Same) → Expr-F (List AttrId) (List AttrId)
  mentions z = map-Expr Expr Row (List AttrId) (List AttrId) mentioned row_mentions (without Same z)

  abbrev lists : Expr-F (Part Same) (RowPart Same) → Expr-F (List RelId) (List RelId)
  lists z = map-Expr Expr Row (List RelId) (List RelId) ranged row_ranges (without Same z)

  parts_same : (ps : List (Part Same)) → AllSame (flat_map (λ x. x) (map mentioned (map (λ p. p.0) ps))) → AllListed (flat_map (λ x. x) (map ranged (map (λ p. p.0) ps))) → map (value s l) (map (λ p. p.0) ps) ≡ map (value s l') (map (λ p. p.0) ps)
  parts_same [] h k = refl
  parts_same (p ∷ ps) h k =
      let both = split (mentioned p.0) _ h in let two = split_lists (ranged p.0) _ k in
      ap (λ m. m ∷ map (value s l) (map (λ p. p.0) ps)) (p.1 both.0 two.0) ∙ ap (λ ms. value s l' p.0 ∷ ms) (parts_same ps both.1 two.1)

  rows_same : (rs : List (RowPart Same)) → AllSame (flat_map (λ x. x) (map row_mentions (map (λ r. r.0) rs))) → AllListed (flat_map (λ x. x) (map row_ranges (map (λ r. r.0) rs))) → map (row_value s l) (map (λ r. r.0) rs) ≡ map (row_value s l') (map (λ r. r.0) rs)
  rows_same [] h k = refl
  rows_same (r ∷ rs) h k =
      let both = split (row_mentions r.0) _ h in let two = split_lists (row_ranges r.0) _ k in
      let parts = split (mentioned r.0.cond) _ (subst AllSame (row_mentions-is r.0) both.0) in
      let halves = split_lists (ranged r.0.cond) _ (subst AllListed (row_ranges-is r.0) two.0) in
      let row : row_value s l r.0 ≡ row_value s l' r.0 =
      row_value-is s l r.0 ∙ ap (λ m. record { cond = m; value = value s l r.0.value }) (r.1.0 parts.0 halves.0) ∙ ap (λ m. record { cond = value s l' r.0.cond; value = m }) (r.1.1 parts.1 halves.1) ∙ sym (row_value-is s l' r.0) in
      ap (λ m. m ∷ map (row_value s l) (map (λ r. r.0) rs)) row ∙ ap (λ ms. row_value s l' r.0 ∷ ms) (rows_same rs both.1 two.1)

  attr_same : (a : AttrId) → l.value a ≡ l'.value a → tree_step s l (Attr a) ≡ tree_step s l' (Attr a)
  attr_same a h = ap (λ c. λ (enclosing : List InstanceId) (d : ℕ). at_place (place c enclosing (owner_of s a)) (λ i. l.value a i d)) containers
      ∙ ap (λ v. λ (enclosing : List InstanceId) (d : ℕ). at_place (place l'.container enclosing (owner_of s a)) (λ i. v i d)) h

  level_same : (z : Expr-F (Part Same) (RowPart Same)) → AllSame (mentioned_step (mentions z)) → AllListed (ranged_step (lists z)) → tree_step s l (old z) ≡ tree_step s l' (new z)
  level_same (Const v) h k = refl
  level_same (Attr a) h k = attr_same a h.0
  level_same (All ps) h k = ap (λ ms. tree_step s l (All ms)) (parts_same ps h k)
  level_same (Any ps) h k = ap (λ ms. tree_step s l (Any ms)) (parts_same ps h k)
  level_same (Not p) h k = ap (λ m. tree_step s l (Not m)) (p.1 h k)
  level_same (Op o ps) h k = ap (λ ms. tree_step s l (Op o ms)) (parts_same ps h k)
  level_same (Certain p) h k = ap (λ m. tree_step s l (Certain m)) (p.1 h k)
  level_same (Known p) h k = ap (λ m. tree_step s l (Known m)) (p.1 h k)
  level_same (Over q r ps) h k = ap (λ ms. tree_step s l (Over q r ms)) (parts_same ps h k.1)
      ∙ ap (λ c. λ (enclosing : List InstanceId) (d : ℕ). at_place (place c enclosing (s.source r)) (λ i. over q (s.target r) (l.members r i) (map (value s l') (map (λ p. p.0) ps)) enclosing d)) containers
      ∙ ap (λ m. λ (enclosing : List InstanceId) (d : ℕ). at_place (place l'.container enclosing (s.source r)) (λ i. over q (s.target r) (m i) (map (value s l') (map (λ p. p.0) ps)) enclosing d)) k.0
  level_same (Window w ps) h k = ap (λ ms. tree_step s l (Window w ms)) (parts_same ps h k)
  level_same (Rolling b n p) h k = ap (λ m. tree_step s l (Rolling b n m)) (p.1 h k)
  level_same (Table rs p) h k =
      let both = split (flat_map (λ x. x) (map row_mentions (map (λ r. r.0) rs))) _ h in
      let two = split_lists (flat_map (λ x. x) (map row_ranges (map (λ r. r.0) rs))) _ k in
      ap (λ ms. tree_step s l (Table ms (value s l p.0))) (rows_same rs both.0 two.0) ∙ ap (λ m. tree_step s l (Table (map (row_value s l') (map (λ r. r.0) rs)) m)) (p.1 both.1 two.1)

  value_same : (e : Expr) → Same e
  value_same = by_parts Same (λ z h k. value-roll s l (without Same z) ∙ level_same z (subst AllSame (mentioned-roll (without Same z)) h) (subst AllListed (ranged-roll (without Same z)) k) ∙ sym (value-roll s l' (without Same z)))

-- Attributes among which all that their rules mention is: where their answers agree, and the lists that their rules go over,
-- their values do.
module _ (b : Base) (c c' : Facts) (containers : c.container ≡ c'.container) (Is : AttrId → Type 0)
    (closed : (a m : AttrId) → Is a → Contains (mentions_of (rule_of b.rules a)) m → Is m)
    (answers : (a : AttrId) → Is a → rule_of b.rules a ≡ None → (i : InstanceId) (d : ℕ) → c.answer a i d ≡ c'.answer a i d)
    (listed : (a : AttrId) (rule : Rule) → Is a → rule_of b.rules a ≡ Some rule → (r : RelId) → Contains (ranged rule.expr) r → c.members r ≡ c'.members r) where
  rule_same : (f g : AttrId → InstanceId → ℕ → Value) → ((m : AttrId) → Is m → f m ≡ g m) → (a : AttrId) → Is a → (rule : Rule) → rule_of b.rules a ≡ Some rule
      → value b.shape (look_of c f) rule.expr ≡ value b.shape (look_of c' g) rule.expr
  rule_same f g h a is rule at =
      value_same b.shape (look_of c f) (look_of c' g) containers rule.expr
      (all_of_each (λ m. f m ≡ g m) (mentioned rule.expr) (λ m there. h m (closed a m is (mentioned_in b.rules a rule at m there))))
      (all_of_each (λ r. c.members r ≡ c'.members r) (ranged rule.expr) (λ r there. listed a rule is at r there))

  step_same : (f g : AttrId → InstanceId → ℕ → Value) → ((m : AttrId) → Is m → f m ≡ g m) → (a : AttrId) → Is a → (i : InstanceId) (d : ℕ)
      → concluded (rule_of b.rules a) (c.answer a i d) (λ e. fitted b.shape a (value b.shape (look_of c f) e (i ∷ []) d)) ≡ concluded (rule_of b.rules a) (c'.answer a i d) (λ e. fitted b.shape a (value b.shape (look_of c' g) e (i ∷ []) d))
  step_same f g h a is i d = go (rule_of b.rules a) refl
    where
      go : (o : Option Rule) → rule_of b.rules a ≡ o → concluded o (c.answer a i d) (λ e. fitted b.shape a (value b.shape (look_of c f) e (i ∷ []) d)) ≡ concluded o (c'.answer a i d) (λ e. fitted b.shape a (value b.shape (look_of c' g) e (i ∷ []) d))
      go None at = answers a is at i d
      go (Some rule) at = ap (λ v. fitted b.shape a (v (i ∷ []) d)) (rule_same f g h a is rule at)

  pub means_same : (n : ℕ) (a : AttrId) → Is a → mean_by b c n a ≡ mean_by b c' n a
  unfolding mean_by
  means_same zero a is = refl
  means_same (suc n) a is = λ j i d. step_same (mean_by b c n) (mean_by b c' n) (λ m there. means_same n m there) a is i d j
