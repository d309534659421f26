-- Values and needs that agree on what a tree mentions give it the same needs.
use Rattle.std.proofs.Common.{◌≡◌, ℕ, ◌-◌, ◌+◌, cond, List, [], ◌∷◌, ◌++◌, Option, None, Some, refl, sym, ◌∙◌, ap, subst}
use Rattle.std.specs.Prelude.{map, flat_map, nat_lt, ◌&&◌, if◌then◌else◌}
use Rattle.std.specs.List.{AllByRecursion}
use Rattle.opa_io.proofs.Lists.{each_weaker}
use Rattle.opa_date.specs.declared.TheConstants.{DAYS}
use Rattle.opa_value.specs.declared.value.Value.{Value}
use Rattle.opa_value.specs.declared.value.Value.TheVariants.{Day}
use Rattle.opa_value.specs.Truth.{is_true}
use Rattle.opa_model.specs.declared.ids.AttrId.{AttrId}
use Rattle.opa_model.specs.declared.ids.RelId.{RelId}
use Rattle.opa_cells.specs.declared.instance.InstanceId.{InstanceId}
use Rattle.opa_cells.specs.Instances.{named}
use Rattle.opa_tree.specs.declared.kinds.Quant.{Quant}
use Rattle.opa_tree.specs.declared.kinds.Quant.TheVariants as quant
use Rattle.opa_tree.specs.declared.expr.Expr.{Expr}
use Rattle.opa_tree.specs.declared.expr.Row.{Row}
use Rattle.opa_tree.specs.declared.expr.Expr.TheOpen.{Expr-F, Const, Attr, All, Any, Not, Op, Certain, Known, Over, Window, Rolling, Table}
use Rattle.opa_tree.specs.declared.expr.Expr.TheVariants as V
use Rattle.opa_tree.specs.declared.expr.Expr.TheViews.{roll-Expr}
use Rattle.opa_tree.specs.declared.expr.Expr.TheFolds.{map-Expr}
use Rattle.opa_tree.specs.Mentions.{mentioned, mentioned_step}
use Rattle.opa_tree.proofs.Induction.{by_parts, Part, RowPart, without}
use Rattle.opa_window.specs.Days.{days}
use Rattle.opa_case.specs.Shapes.{Shape}
use Rattle.opa_mean.specs.Looks.{Look}
use Rattle.opa_mean.specs.Mean.{Facts, look_of}
use Rattle.opa_mean.specs.Meaning.{value}
use Rattle.opa_mean.specs.Needs.{if_unknown, cond_needs, over_needs, needs}
use Rattle.opa_mean.specs.Places.{owner_of, place}
use Rattle.opa_mean.specs.Uses.{Use, Uses, at_place_uses, on_date_uses, in_window_uses}
use Rattle.opa_mean.proofs.Agreeing.{value_same}
use Rattle.opa_mean.proofs.Everywhere.{all_parts}
use Rattle.opa_mean.proofs.Levels.{row_mentions, mentioned-roll, row_mentions-is}
use Rattle.opa_mean.specs.PartNeeds.{open_needs, member_needs, span_needs, rows_needs}
use Rattle.opa_mean.proofs.NeedsLaws.{needs-Const, needs-Attr, needs-All, needs-Any, needs-Not, needs-Op, needs-Certain, needs-Known, needs-Over, needs-Window, needs-Rolling, needs-Table}

-- functions with equal values join to one list
pub flat_same : {X : Type 0} (u v : X → List Use) → ((x : X) → u x ≡ v x) → (xs : List X) → flat_map u xs ≡ flat_map v xs
flat_same u v h [] = refl
flat_same u v h (x ∷ xs) = ap (λ us. us ++ flat_map u xs) (h x) ∙ ap (λ us. v x ++ us) (flat_same u v h xs)

on_date_same : (u v : ℕ → List Use) → ((d : ℕ) → u d ≡ v d) → (w : Value) → on_date_uses u w ≡ on_date_uses v w
on_date_same u v h (Day k) = ap (λ us. cond (nat_lt k DAYS) us []) (h k)
on_date_same u v h _ = refl

in_window_same : (u v : ℕ → List Use) → ((d : ℕ) → u d ≡ v d) → (w z : Value) → in_window_uses u w z ≡ in_window_uses v w z
in_window_same u v h (Day k) (Day m) = ap (λ us. cond (nat_lt k DAYS && nat_lt m DAYS) us []) (flat_same u v h (days k (m - k)))
in_window_same u v h _ _ = refl

module _ (s : Shape) (c : Facts) (f g : AttrId → InstanceId → ℕ → Value) (list_need : RelId → InstanceId → Use) (p q : AttrId → InstanceId → ℕ → List Use) where
  abbrev l : Look
  l = look_of c f

  abbrev k : Look
  k = look_of c g

  abbrev Agrees : AttrId → Type 0
  Agrees a = (f a ≡ g a) × (p a ≡ q a)

  abbrev AllAgree : List AttrId → Type 0
  AllAgree attrs = AllByRecursion Agrees attrs

  abbrev split : (xs ys : List AttrId) → AllAgree (xs ++ ys) → AllAgree xs × AllAgree ys
  split = all_parts Agrees

  abbrev ours : Expr → Uses
  ours = needs s l list_need p

  abbrev theirs : Expr → Uses
  theirs = needs s k list_need q

  abbrev our_own : Expr → Uses
  our_own = open_needs s l list_need p

  abbrev their_own : Expr → Uses
  their_own = open_needs s k list_need q

  abbrev Same : Expr → Type 0
  Same e = AllAgree (mentioned e) → (enclosing : List InstanceId) (d : ℕ) → ours e enclosing d ≡ theirs e enclosing d

  abbrev Parts : Type 0
  Parts = List (Part Same)

  abbrev trees : Parts → List Expr
  trees ps = map (λ p. p.0) ps

  abbrev Mentioned : Parts → Type 0
  Mentioned ps = AllAgree (flat_map (λ x. x) (map mentioned (map (λ p. p.0) ps)))

  valued : (e : Expr) → AllAgree (mentioned e) → (enclosing : List InstanceId) (d : ℕ) → value s l e enclosing d ≡ value s k e enclosing d
  valued e h enclosing d = ap (λ m. m enclosing d) (value_same s l k refl refl e (each_weaker Agrees (λ a. f a ≡ g a) (λ a both. both.0) (mentioned e) h))

  own_same : (x : Part Same) → AllAgree (mentioned x.0) → (enclosing : List InstanceId) (d : ℕ) → our_own x.0 enclosing d ≡ their_own x.0 enclosing d
  own_same x h enclosing d = ap (λ v. if_unknown v (ours x.0 enclosing d)) (valued x.0 h enclosing d) ∙ ap (λ us. if_unknown (value s k x.0 enclosing d) us) (x.1 h enclosing d)

  parts_same : (ps : Parts) → Mentioned ps → (enclosing : List InstanceId) (d : ℕ) → flat_map (λ e. our_own e enclosing d) (map (λ p. p.0) ps) ≡ flat_map (λ e. their_own e enclosing d) (map (λ p. p.0) ps)
  parts_same [] h enclosing d = refl
  parts_same (x ∷ ps) h enclosing d =
      let both = split (mentioned x.0) _ h in
      ap (λ us. us ++ flat_map (λ e. our_own e enclosing d) (map (λ p. p.0) ps)) (own_same x both.0 enclosing d) ∙ ap (λ us. their_own x.0 enclosing d ++ us) (parts_same ps both.1 enclosing d)

  sum_same : (x y : Part Same) → AllAgree (mentioned x.0) → AllAgree (mentioned y.0) → (enclosing : List InstanceId) (d : ℕ)
      → our_own y.0 enclosing d ++ (if is_true (value s l y.0 enclosing d) then our_own x.0 enclosing d else []) ≡ their_own y.0 enclosing d ++ (if is_true (value s k y.0 enclosing d) then their_own x.0 enclosing d else [])
  sum_same x y h j enclosing d =
      ap (λ us. us ++ (if is_true (value s l y.0 enclosing d) then our_own x.0 enclosing d else [])) (own_same y j enclosing d)
      ∙ ap (λ v. their_own y.0 enclosing d ++ (if is_true v then our_own x.0 enclosing d else [])) (valued y.0 j enclosing d)
      ∙ ap (λ us. their_own y.0 enclosing d ++ (if is_true (value s k y.0 enclosing d) then us else [])) (own_same x h enclosing d)

  member_same : (r : Quant) (ps : Parts) → Mentioned ps → (enclosing : List InstanceId) (d : ℕ) → member_needs s l list_need p r (map (λ p. p.0) ps) enclosing d ≡ member_needs s k list_need q r (map (λ p. p.0) ps) enclosing d
  member_same quant.SumIf [] h enclosing d = refl
  member_same quant.SumIf (x ∷ []) h enclosing d = own_same x (split (mentioned x.0) _ h).0 enclosing d
  member_same quant.SumIf (x ∷ y ∷ []) h enclosing d = let one = split (mentioned x.0) _ h in sum_same x y one.0 (split (mentioned y.0) _ one.1).0 enclosing d
  member_same quant.SumIf (x ∷ y ∷ z ∷ zs) h enclosing d = refl
  member_same r [] h enclosing d = refl
  member_same r (x ∷ []) h enclosing d = own_same x (split (mentioned x.0) _ h).0 enclosing d
  member_same r (x ∷ y ∷ zs) h enclosing d = refl

  over_same : (o : Option InstanceId) (r : Quant) (rel : RelId) (ps : Parts) → Mentioned ps → (enclosing : List InstanceId) (d : ℕ)
      → at_place_uses o (λ i. over_needs (list_need rel i) (λ n. member_needs s l list_need p r (map (λ p. p.0) ps) (named (s.target rel) n ∷ enclosing) d) (c.members rel i))
      ≡ at_place_uses o (λ i. over_needs (list_need rel i) (λ n. member_needs s k list_need q r (map (λ p. p.0) ps) (named (s.target rel) n ∷ enclosing) d) (c.members rel i))
  over_same None r rel ps h enclosing d = refl
  over_same (Some i) r rel ps h enclosing d = go (c.members rel i)
    where
      go : (o : Option (List (List ℕ))) → over_needs (list_need rel i) (λ n. member_needs s l list_need p r (map (λ p. p.0) ps) (named (s.target rel) n ∷ enclosing) d) o
          ≡ over_needs (list_need rel i) (λ n. member_needs s k list_need q r (map (λ p. p.0) ps) (named (s.target rel) n ∷ enclosing) d) o
      go None = refl
      go (Some names) = flat_same (λ n. member_needs s l list_need p r (map (λ p. p.0) ps) (named (s.target rel) n ∷ enclosing) d) (λ n. member_needs s k list_need q r (map (λ p. p.0) ps) (named (s.target rel) n ∷ enclosing) d)
          (λ n. member_same r ps h (named (s.target rel) n ∷ enclosing) d) names

  span_same : (ps : Parts) → Mentioned ps → (enclosing : List InstanceId) (d : ℕ) → span_needs s l list_need p (map (λ p. p.0) ps) enclosing d ≡ span_needs s k list_need q (map (λ p. p.0) ps) enclosing d
  span_same [] h enclosing d = refl
  span_same (x ∷ []) h enclosing d = own_same x (split (mentioned x.0) _ h).0 enclosing d
  span_same (x ∷ y ∷ []) h enclosing d =
      let one = split (mentioned x.0) _ h in let two = split (mentioned y.0) _ one.1 in
      ap (λ us. us ++ on_date_uses (our_own y.0 enclosing) (value s l x.0 enclosing d)) (own_same x one.0 enclosing d)
      ∙ ap (λ v. their_own x.0 enclosing d ++ on_date_uses (our_own y.0 enclosing) v) (valued x.0 one.0 enclosing d)
      ∙ ap (λ us. their_own x.0 enclosing d ++ us) (on_date_same (our_own y.0 enclosing) (their_own y.0 enclosing) (own_same y two.0 enclosing) (value s k x.0 enclosing d))
  span_same (x ∷ y ∷ z ∷ []) h enclosing d =
      let one = split (mentioned x.0) _ h in let two = split (mentioned y.0) _ one.1 in let three = split (mentioned z.0) _ two.1 in
      ap (λ us. us ++ (our_own y.0 enclosing d ++ in_window_uses (our_own z.0 enclosing) (value s l x.0 enclosing d) (value s l y.0 enclosing d))) (own_same x one.0 enclosing d)
      ∙ ap (λ us. their_own x.0 enclosing d ++ (us ++ in_window_uses (our_own z.0 enclosing) (value s l x.0 enclosing d) (value s l y.0 enclosing d))) (own_same y two.0 enclosing d)
      ∙ ap (λ v. their_own x.0 enclosing d ++ (their_own y.0 enclosing d ++ in_window_uses (our_own z.0 enclosing) v (value s l y.0 enclosing d))) (valued x.0 one.0 enclosing d)
      ∙ ap (λ v. their_own x.0 enclosing d ++ (their_own y.0 enclosing d ++ in_window_uses (our_own z.0 enclosing) (value s k x.0 enclosing d) v)) (valued y.0 two.0 enclosing d)
      ∙ ap (λ us. their_own x.0 enclosing d ++ (their_own y.0 enclosing d ++ us)) (in_window_same (our_own z.0 enclosing) (their_own z.0 enclosing) (own_same z three.0 enclosing) (value s k x.0 enclosing d) (value s k y.0 enclosing d))
  span_same (x ∷ y ∷ z ∷ w ∷ ws) h enclosing d = refl

  rows_same : (rs : List (RowPart Same)) (x : Part Same) → AllAgree (flat_map (λ x. x) (map row_mentions (map (λ r. r.0) rs))) → AllAgree (mentioned x.0) → (enclosing : List InstanceId) (d : ℕ)
      → rows_needs s l list_need p (map (λ r. r.0) rs) x.0 enclosing d ≡ rows_needs s k list_need q (map (λ r. r.0) rs) x.0 enclosing d
  rows_same [] x h j enclosing d = x.1 j enclosing d
  rows_same (r ∷ rs) x h j enclosing d =
      let both = split (row_mentions r.0) _ h in
      let parts = split (mentioned r.0.cond) _ (subst AllAgree (row_mentions-is r.0) both.0) in
      ap (λ v. cond_needs v (ours r.0.cond enclosing d) (ours r.0.value enclosing d) (rows_needs s l list_need p (map (λ r. r.0) rs) x.0 enclosing d)) (valued r.0.cond parts.0 enclosing d)
      ∙ ap (λ us. cond_needs (value s k r.0.cond enclosing d) us (ours r.0.value enclosing d) (rows_needs s l list_need p (map (λ r. r.0) rs) x.0 enclosing d)) (r.1.0 parts.0 enclosing d)
      ∙ ap (λ us. cond_needs (value s k r.0.cond enclosing d) (theirs r.0.cond enclosing d) us (rows_needs s l list_need p (map (λ r. r.0) rs) x.0 enclosing d)) (r.1.1 parts.1 enclosing d)
      ∙ ap (λ us. cond_needs (value s k r.0.cond enclosing d) (theirs r.0.cond enclosing d) (theirs r.0.value enclosing d) us) (rows_same rs x both.1 j enclosing d)

  abbrev Level : Expr-F (Part Same) (RowPart Same) → Expr → Type 0
  Level z e = AllAgree (mentioned_step (map-Expr Expr Row (List AttrId) (List AttrId) mentioned row_mentions (without Same z))) → (enclosing : List InstanceId) (d : ℕ) → ours e enclosing d ≡ theirs e enclosing d

  level_same : (z : Expr-F (Part Same) (RowPart Same)) → Level z (roll-Expr (without Same z))
  level_same (Const v) = subst (Level (Const v)) (sym (V.rolls-Const v)) (λ h enclosing d. needs-Const s l list_need p v enclosing d ∙ sym (needs-Const s k list_need q v enclosing d))
  level_same (Attr a) = subst (Level (Attr a)) (sym (V.rolls-Attr a)) (λ h enclosing d.
      needs-Attr s l list_need p a enclosing d ∙ ap (λ n. at_place_uses (place c.container enclosing (owner_of s a)) (λ i. n i d)) h.0.1 ∙ sym (needs-Attr s k list_need q a enclosing d))
  level_same (All ps) = subst (Level (All ps)) (sym (V.rolls-All (trees ps))) (λ h enclosing d. needs-All s l list_need p (trees ps) enclosing d ∙ parts_same ps h enclosing d ∙ sym (needs-All s k list_need q (trees ps) enclosing d))
  level_same (Any ps) = subst (Level (Any ps)) (sym (V.rolls-Any (trees ps))) (λ h enclosing d. needs-Any s l list_need p (trees ps) enclosing d ∙ parts_same ps h enclosing d ∙ sym (needs-Any s k list_need q (trees ps) enclosing d))
  level_same (Not x) = subst (Level (Not x)) (sym (V.rolls-Not x.0)) (λ h enclosing d. needs-Not s l list_need p x.0 enclosing d ∙ x.1 h enclosing d ∙ sym (needs-Not s k list_need q x.0 enclosing d))
  level_same (Op o ps) = subst (Level (Op o ps)) (sym (V.rolls-Op o (trees ps))) (λ h enclosing d. needs-Op s l list_need p o (trees ps) enclosing d ∙ parts_same ps h enclosing d ∙ sym (needs-Op s k list_need q o (trees ps) enclosing d))
  level_same (Certain x) = subst (Level (Certain x)) (sym (V.rolls-Certain x.0)) (λ h enclosing d. needs-Certain s l list_need p x.0 enclosing d ∙ x.1 h enclosing d ∙ sym (needs-Certain s k list_need q x.0 enclosing d))
  level_same (Known x) = subst (Level (Known x)) (sym (V.rolls-Known x.0)) (λ h enclosing d. needs-Known s l list_need p x.0 enclosing d ∙ sym (needs-Known s k list_need q x.0 enclosing d))
  level_same (Over o r ps) = subst (Level (Over o r ps)) (sym (V.rolls-Over o r (trees ps))) (λ h enclosing d.
      needs-Over s l list_need p o r (trees ps) enclosing d ∙ over_same (place c.container enclosing (s.source r)) o r ps h enclosing d ∙ sym (needs-Over s k list_need q o r (trees ps) enclosing d))
  level_same (Window w ps) = subst (Level (Window w ps)) (sym (V.rolls-Window w (trees ps))) (λ h enclosing d. needs-Window s l list_need p w (trees ps) enclosing d ∙ span_same ps h enclosing d ∙ sym (needs-Window s k list_need q w (trees ps) enclosing d))
  level_same (Rolling b n x) = subst (Level (Rolling b n x)) (sym (V.rolls-Rolling b n x.0)) (λ h enclosing d.
      needs-Rolling s l list_need p b n x.0 enclosing d ∙ flat_same (our_own x.0 enclosing) (their_own x.0 enclosing) (own_same x h enclosing) (days (d + 1 - n) (d + 1 - (d + 1 - n))) ∙ sym (needs-Rolling s k list_need q b n x.0 enclosing d))
  level_same (Table rs x) = subst (Level (Table rs x)) (sym (V.rolls-Table (map (λ r. r.0) rs) x.0)) (λ h enclosing d.
      let both = split (flat_map (λ x. x) (map row_mentions (map (λ r. r.0) rs))) _ h in
      needs-Table s l list_need p (map (λ r. r.0) rs) x.0 enclosing d ∙ rows_same rs x both.0 both.1 enclosing d ∙ sym (needs-Table s k list_need q (map (λ r. r.0) rs) x.0 enclosing d))

  pub needs_same : (e : Expr) → Same e
  needs_same = by_parts Same (λ z h. level_same z (subst AllAgree (mentioned-roll (without Same z)) h))
