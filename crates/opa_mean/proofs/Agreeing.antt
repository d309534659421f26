-- Looks that agree on what a tree mentions give it one value.
use Rattle.std.proofs.Common.{◌≡◌, ℕ, List, [], ◌∷◌, ◌++◌, refl, sym, ◌∙◌, ap, subst}
use Rattle.std.specs.Prelude.{map, flat_map}
use Rattle.std.specs.List.{AllByRecursion}
use Rattle.opa_model.specs.declared.ids.AttrId.{AttrId}
use Rattle.opa_cells.specs.declared.instance.InstanceId.{InstanceId}
use Rattle.opa_tree.specs.declared.expr.Expr.{Expr}
use Rattle.opa_tree.specs.declared.expr.Row.{Row}
use Rattle.opa_tree.specs.declared.expr.Expr.TheOpen.{Expr-F, Const, Attr, All, Any, Not, Op, Certain, Known, Over, Window, Rolling, Table}
use Rattle.opa_tree.specs.declared.expr.Expr.TheFolds.{map-Expr}
use Rattle.opa_tree.specs.Mentions.{mentioned, mentioned_step}
use Rattle.opa_tree.proofs.Induction.{by_parts, Part, RowPart, without}
use Rattle.opa_case.specs.Shapes.{Shape}
use Rattle.opa_mean.specs.Looks.{Look}
use Rattle.opa_mean.specs.Meaning.{Meaning, RowMeaning, tree_step, value, at_place, over}
use Rattle.opa_mean.specs.Places.{owner_of, place}
use Rattle.opa_mean.proofs.Everywhere.{all_parts}
use Rattle.opa_mean.proofs.Levels.{row_value, value-roll, row_value-is, row_mentions, mentioned-roll, row_mentions-is}

module _ (s : Shape) (l l' : Look) (containers : l.container ≡ l'.container) (lists : l.members ≡ l'.members) where
  abbrev AllSame : List AttrId → Type 0
  AllSame attrs = AllByRecursion (λ a. l.value a ≡ l'.value a) attrs

  abbrev split : (xs ys : List AttrId) → AllSame (xs ++ ys) → AllSame xs × AllSame ys
  split = all_parts (λ a. l.value a ≡ l'.value a)

  abbrev Same : Expr → Type 0
  Same e = AllSame (mentioned e) → value s l e ≡ value s l' e

  abbrev old : Expr-F (Part Same) (RowPart Same) → Expr-F Meaning RowMeaning
  old z = map-Expr Expr Row Meaning RowMeaning (value s l) (row_value s l) (without Same z)

  abbrev new : Expr-F (Part Same) (RowPart Same) → Expr-F Meaning RowMeaning
  new z = map-Expr Expr Row Meaning RowMeaning (value s l') (row_value s l') (without Same z)

  abbrev mentions : Expr-F (Part Same) (RowPart Same) → Expr-F (List AttrId) (List AttrId)
  mentions z = map-Expr Expr Row (List AttrId) (List AttrId) mentioned row_mentions (without Same z)

  parts_same : (ps : List (Part Same)) → AllSame (flat_map (λ x. x) (map mentioned (map (λ p. p.0) ps))) → map (value s l) (map (λ p. p.0) ps) ≡ map (value s l') (map (λ p. p.0) ps)
  parts_same [] h = refl
  parts_same (p ∷ ps) h = let both = split (mentioned p.0) _ h in ap (λ m. m ∷ map (value s l) (map (λ p. p.0) ps)) (p.1 both.0) ∙ ap (λ ms. value s l' p.0 ∷ ms) (parts_same ps both.1)

  rows_same : (rs : List (RowPart Same)) → AllSame (flat_map (λ x. x) (map row_mentions (map (λ r. r.0) rs))) → map (row_value s l) (map (λ r. r.0) rs) ≡ map (row_value s l') (map (λ r. r.0) rs)
  rows_same [] h = refl
  rows_same (r ∷ rs) h =
      let both = split (row_mentions r.0) _ h in
      let parts = split (mentioned r.0.cond) _ (subst AllSame (row_mentions-is r.0) both.0) in
      let row : row_value s l r.0 ≡ row_value s l' r.0 =
      row_value-is s l r.0 ∙ ap (λ m. record { cond = m; value = value s l r.0.value }) (r.1.0 parts.0) ∙ ap (λ m. record { cond = value s l' r.0.cond; value = m }) (r.1.1 parts.1) ∙ sym (row_value-is s l' r.0) in
      ap (λ m. m ∷ map (row_value s l) (map (λ r. r.0) rs)) row ∙ ap (λ ms. row_value s l' r.0 ∷ ms) (rows_same rs both.1)

  attr_same : (a : AttrId) → l.value a ≡ l'.value a → tree_step s l (Attr a) ≡ tree_step s l' (Attr a)
  attr_same a h = ap (λ c. λ (enclosing : List InstanceId) (d : ℕ). at_place (place c enclosing (owner_of s a)) (λ i. l.value a i d)) containers
      ∙ ap (λ v. λ (enclosing : List InstanceId) (d : ℕ). at_place (place l'.container enclosing (owner_of s a)) (λ i. v i d)) h

  level_same : (z : Expr-F (Part Same) (RowPart Same)) → AllSame (mentioned_step (mentions z)) → tree_step s l (old z) ≡ tree_step s l' (new z)
  level_same (Const v) h = refl
  level_same (Attr a) h = attr_same a h.0
  level_same (All ps) h = ap (λ ms. tree_step s l (All ms)) (parts_same ps h)
  level_same (Any ps) h = ap (λ ms. tree_step s l (Any ms)) (parts_same ps h)
  level_same (Not p) h = ap (λ m. tree_step s l (Not m)) (p.1 h)
  level_same (Op k ps) h = ap (λ ms. tree_step s l (Op k ms)) (parts_same ps h)
  level_same (Certain p) h = ap (λ m. tree_step s l (Certain m)) (p.1 h)
  level_same (Known p) h = ap (λ m. tree_step s l (Known m)) (p.1 h)
  level_same (Over q r ps) h = ap (λ ms. tree_step s l (Over q r ms)) (parts_same ps h)
      ∙ ap (λ c. λ (enclosing : List InstanceId) (d : ℕ). at_place (place c enclosing (s.source r)) (λ i. over q (s.target r) (l.members r i) (map (value s l') (map (λ p. p.0) ps)) enclosing d)) containers
      ∙ ap (λ m. λ (enclosing : List InstanceId) (d : ℕ). at_place (place l'.container enclosing (s.source r)) (λ i. over q (s.target r) (m r i) (map (value s l') (map (λ p. p.0) ps)) enclosing d)) lists
  level_same (Window k ps) h = ap (λ ms. tree_step s l (Window k ms)) (parts_same ps h)
  level_same (Rolling b n p) h = ap (λ m. tree_step s l (Rolling b n m)) (p.1 h)
  level_same (Table rs p) h = let both = split (flat_map (λ x. x) (map row_mentions (map (λ r. r.0) rs))) _ h in ap (λ ms. tree_step s l (Table ms (value s l p.0))) (rows_same rs both.0) ∙ ap (λ m. tree_step s l (Table (map (row_value s l') (map (λ r. r.0) rs)) m)) (p.1 both.1)

  pub value_same : (e : Expr) → Same e
  value_same = by_parts Same (λ z h. value-roll s l (without Same z) ∙ level_same z (subst AllSame (mentioned-roll (without Same z)) h) ∙ sym (value-roll s l' (without Same z)))
