-- A value that is known stays where a look gives more.
use Rattle.std.proofs.Common.{◌≡◌, ◌⊎◌, inl, inr, ℕ, List, [], ◌∷◌, Bool, true, false, cond, Option, None, Some, refl, sym, ◌∙◌, ap, subst}
use Rattle.std.specs.Prelude.{map, flat_map, nat_lt, ◌&&◌, ◌+◌, ◌-◌}
use Rattle.std.specs.List.{list_any, AllZip, AllByRecursion}
use Rattle.std.proofs.lemmas.Bool.{and_parts}
use Rattle.std.proofs.lemmas.List.Elements.{length_all_zip}
use Rattle.opa_io.proofs.Lists.{each_weaker}
use Rattle.opa_date.specs.declared.TheConstants.{DAYS}
use Rattle.opa_value.specs.declared.value.Value.TheVariants.{Unknown, Uncertain, Bool as Truth, Num, Words, Day}
use Rattle.opa_value.specs.Below.{IsBelow}
use Rattle.opa_value.specs.Truth.{all_of, any_of, is_unknown, is_uncertain, unless_open, strict}
use Rattle.opa_value.proofs.BelowLaws.{all_of_below, any_of_below, not_of_below, strict_below, kept_below, below_refl, map_below, open_or_same}
use Rattle.opa_value.specs.declared.value.Value.{Value}
use Rattle.opa_model.specs.declared.ids.AttrId.{AttrId}
use Rattle.opa_model.specs.declared.ids.RelId.{RelId}
use Rattle.opa_cells.specs.declared.instance.InstanceId.{InstanceId}
use Rattle.opa_cells.specs.Instances.{named}
use Rattle.opa_tree.specs.declared.kinds.Quant.{Quant}
use Rattle.opa_tree.specs.declared.kinds.Quant.TheVariants as quant
use Rattle.opa_tree.specs.declared.kinds.WinKind.{WinKind}
use Rattle.opa_tree.specs.declared.kinds.WinKind.TheVariants as win
use Rattle.opa_tree.specs.declared.expr.Expr.{Expr}
use Rattle.opa_tree.specs.declared.expr.Row.{Row}
use Rattle.opa_tree.specs.declared.expr.Expr.TheOpen.{Expr-F, Const, Attr, All, Any, Not, Op, Certain, Known, Over, Window, Rolling, Table}
use Rattle.opa_tree.specs.declared.expr.Expr.TheViews.{roll-Expr}
use Rattle.opa_tree.specs.declared.expr.Expr.TheFolds.{map-Expr}
use Rattle.opa_tree.proofs.Induction.{by_parts, Part, RowPart, without}
use Rattle.opa_tree.specs.Mentions.{mentioned, mentioned_step}
use Rattle.opa_window.specs.Days.{days, over_days, last_days}
use Rattle.opa_window.specs.Folds.{sum_value, greatest, least, run_value}
use Rattle.opa_window.specs.Windows.{on_date, on_dates, at_date, in_window, before, on_or_after, years_since}
use Rattle.opa_mean.specs.Frees.{free_step, is_free}
use Rattle.opa_case.specs.Shapes.{Shape}
use Rattle.opa_mean.specs.Looks.{Look}
use Rattle.opa_mean.specs.Meaning.{Meaning, RowMeaning, tree_step, value, each, at_place, certain_of, choose, amount, true_count, first_value, item, quant_of, over, window, rolling, table}
use Rattle.opa_mean.specs.Operations.{op_of}
use Rattle.opa_mean.specs.Places.{owner_of, place, chain}
use Rattle.opa_mean.proofs.Chains.{chain_same, place_live as at_live, places_same}
use Rattle.opa_mean.proofs.Everywhere.{all_parts}
use Rattle.opa_mean.proofs.Freedom.{Good, good_parts, good_rows, GoodRow}
use Rattle.opa_mean.proofs.Levels.{row_value, row_free, row_mentions, value-roll, free-roll, mentioned-roll, row_value-is}

-- the new look has what the old one has, and more
pub record Grows (s : Shape) (Live : InstanceId → Type 0) (Ok : AttrId → Type 0) (old new : Look) : Type 0 where
  pub container : (i : InstanceId) → Live i → new.container i ≡ old.container i
  pub above : (i j : InstanceId) → Live i → old.container i ≡ Some j → Live j
  pub members : (r : RelId) (i : InstanceId) → Live i → (old.members r i ≡ None) ⊎ (old.members r i ≡ new.members r i)
  pub listed : (r : RelId) (i : InstanceId) (names : List (List ℕ)) → Live i → old.members r i ≡ Some names → AllByRecursion (λ n. Live (named (s.target r) n)) names
  pub value : (a : AttrId) (i : InstanceId) (d : ℕ) → Ok a → Live i → IsBelow (old.value a i d) (new.value a i d)

-- of a condition and what stands behind it
choose_below : (v v' w w' x x' : Value) → IsBelow v v' → IsBelow w w' → IsBelow x x' → IsBelow (choose v w x) (choose v' w' x')
choose_below v v' w w' x x' (inl e) hw hx = inl (ap (λ u. choose u w x) e)
choose_below v v' w w' x x' (inr e) hw hx = subst (λ u. IsBelow (choose v w x) (choose u w' x')) e (go v)
  where
    go : (u : Value) → IsBelow (choose u w x) (choose u w' x')
    go (Truth true) = hw
    go (Truth false) = hx
    go Unknown = below_refl Unknown
    go Uncertain = below_refl Uncertain
    go (Num n) = below_refl Uncertain
    go (Words t) = below_refl Uncertain
    go (Day d) = below_refl Uncertain

first_below : (vs ws : List Value) → AllZip IsBelow vs ws → IsBelow (first_value vs) (first_value ws)
first_below [] [] h = below_refl Uncertain
first_below [] (w ∷ ws) h = absurd h
first_below (v ∷ vs) [] h = absurd h
first_below (v ∷ vs) (w ∷ ws) h = h.0

quant_below : (q : Quant) (vs ws : List Value) → AllZip IsBelow vs ws → IsBelow (quant_of q vs) (quant_of q ws)
quant_below quant.ForAll vs ws h = all_of_below vs ws h
quant_below quant.Exists vs ws h = any_of_below vs ws h
quant_below quant.For vs ws h = first_below vs ws h
quant_below quant.Count vs ws h = inr (ap amount (length_all_zip IsBelow vs ws h))
quant_below quant.CountIf vs ws h = strict_below true_count vs ws h
quant_below quant.Sum vs ws h = strict_below sum_value vs ws h
quant_below quant.SumIf vs ws h = strict_below sum_value vs ws h
quant_below quant.Maximum vs ws h = strict_below greatest vs ws h
quant_below quant.Minimum vs ws h = strict_below least vs ws h

-- what is open in the same way
open_below : (vs : List Value) (v w : Value) → IsBelow v w → IsBelow (unless_open vs v) (unless_open vs w)
open_below vs v w h = go (list_any is_unknown vs) (list_any is_uncertain vs)
  where
    go : (a b : Bool) → IsBelow (cond a Unknown (cond b Uncertain v)) (cond a Unknown (cond b Uncertain w))
    go true b = below_refl Unknown
    go false true = below_refl Uncertain
    go false false = h

within_below : (b : Bool) (v w : Value) → IsBelow v w → IsBelow (cond b v Uncertain) (cond b w Uncertain)
within_below true v w h = h
within_below false v w h = below_refl Uncertain

at_date_below : (f f' : ℕ → Value) → ((d : ℕ) → IsBelow (f d) (f' d)) → (v v' : Value) → IsBelow v v' → IsBelow (at_date f v) (at_date f' v')
at_date_below f f' h v v' (inl e) = inl (ap (at_date f) e)
at_date_below f f' h v v' (inr e) = subst (λ u. IsBelow (at_date f v) (at_date f' u)) e (open_below (v ∷ []) _ _ (on v))
  where
    on : (u : Value) → IsBelow (on_date f u) (on_date f' u)
    on (Day s) = within_below (nat_lt s DAYS) (f s) (f' s) (h s)
    on Unknown = below_refl Uncertain
    on Uncertain = below_refl Uncertain
    on (Truth b) = below_refl Uncertain
    on (Num n) = below_refl Uncertain
    on (Words t) = below_refl Uncertain

in_window_below : (fold : List Value → Value) → ((vs ws : List Value) → AllZip IsBelow vs ws → IsBelow (fold vs) (fold ws)) → (x x' : ℕ → Value) → ((d : ℕ) → IsBelow (x d) (x' d)) → (v v' w w' : Value) → IsBelow v v' → IsBelow w w' → IsBelow (in_window fold x v w) (in_window fold x' v' w')
in_window_below fold keeps x x' h v v' w w' hv hw = go (open_or_same (v ∷ w ∷ []) (v' ∷ w' ∷ []) (hv, (hw, tt)))
  where
    on : (a b : Value) → IsBelow (on_dates (λ s t. fold (over_days x s t)) a b) (on_dates (λ s t. fold (over_days x' s t)) a b)
    on (Day s) (Day t) = within_below (nat_lt s DAYS && nat_lt t DAYS) _ _ (keeps _ _ (map_below x x' h _))
    on _ _ = below_refl Uncertain

    go : (list_any is_unknown (v ∷ w ∷ []) ≡ true) ⊎ (v ∷ w ∷ [] ≡ v' ∷ w' ∷ []) → IsBelow (in_window fold x v w) (in_window fold x' v' w')
    go (inl e) = inl (ap (λ b. cond b Unknown (cond (list_any is_uncertain (v ∷ w ∷ [])) Uncertain (on_dates (λ s t. fold (over_days x s t)) v w))) e)
    go (inr e) = let ev : v ≡ v' = cc e in let ew : w ≡ w' = cc e in
        subst (λ a. IsBelow (in_window fold x v w) (in_window fold x' a w')) ev (subst (λ b. IsBelow (in_window fold x v w) (in_window fold x' v b)) ew (open_below (v ∷ w ∷ []) _ _ (on v w)))

rolling_below : (b : Bool) (n : ℕ) (f f' : ℕ → Value) → ((d : ℕ) → IsBelow (f d) (f' d)) → (d : ℕ) → IsBelow (rolling b n f d) (rolling b n f' d)
rolling_below true n f f' h d = all_of_below (last_days n f d) (last_days n f' d) (map_below f f' h (days (d + 1 - n) (d + 1 - (d + 1 - n))))
rolling_below false n f f' h d = any_of_below (last_days n f d) (last_days n f' d) (map_below f f' h (days (d + 1 - n) (d + 1 - (d + 1 - n))))

module _ (s : Shape) (Live : InstanceId → Type 0) (Ok : AttrId → Type 0) (l l' : Look) (c : Grows s Live Ok l l') where
  abbrev AllLive : List InstanceId → Type 0
  AllLive is = AllByRecursion Live is

  pub place_same : (enclosing : List InstanceId) → AllLive enclosing → (e : ℕ) → place l'.container enclosing e ≡ place l.container enclosing e
  place_same enclosing live e = places_same l.container l'.container enclosing (each_weaker Live (λ i. chain l'.container i ≡ chain l.container i) (chain_same l.container Live c.above l'.container c.container) enclosing live) e

  pub place_live : (enclosing : List InstanceId) → AllLive enclosing → (e : ℕ) (i : InstanceId) → place l.container enclosing e ≡ Some i → Live i
  place_live = at_live l.container Live c.above

  abbrev Below : Expr → Type 0
  Below e = Good Ok e → (enclosing : List InstanceId) → AllLive enclosing → (d : ℕ) → IsBelow (value s l e enclosing d) (value s l' e enclosing d)

  abbrev Parts : Type 0
  Parts = List (Part Below)

  abbrev AllGood : Parts → Type 0
  AllGood ps = AllByRecursion (λ p. Good Ok p.0) ps

  -- the meanings of a level's parts, by the old look and by the new one
  abbrev olds : Parts → List Meaning
  olds ps = map (value s l) (map (λ p. p.0) ps)

  abbrev news : Parts → List Meaning
  news ps = map (value s l') (map (λ p. p.0) ps)

  each_grows : (ps : Parts) → AllGood ps → (enclosing : List InstanceId) → AllLive enclosing → (d : ℕ) → AllZip IsBelow (each (olds ps) enclosing d) (each (news ps) enclosing d)
  each_grows [] g enclosing live d = tt
  each_grows (p ∷ ps) g enclosing live d = (p.1 g.0 enclosing live d, each_grows ps g.1 enclosing live d)

  attr_grows : (o : Option InstanceId) (a : AttrId) (d : ℕ) → Ok a → ((i : InstanceId) → o ≡ Some i → Live i) → IsBelow (at_place o (λ i. l.value a i d)) (at_place o (λ i. l'.value a i d))
  attr_grows None a d ok live = below_refl Uncertain
  attr_grows (Some i) a d ok live = c.value a i d ok (live i refl)

  item_grows : (q : Quant) (ps : Parts) → AllGood ps → (enclosing : List InstanceId) → AllLive enclosing → (d : ℕ) → IsBelow (item q (each (olds ps) enclosing d)) (item q (each (news ps) enclosing d))
  item_grows quant.SumIf (p ∷ r ∷ []) g enclosing live d = choose_below _ _ _ _ _ _ (r.1 g.1.0 enclosing live d) (p.1 g.0 enclosing live d) (below_refl _)
  item_grows q (p ∷ []) g enclosing live d = p.1 g.0 enclosing live d
  item_grows q _ g enclosing live d = below_refl Uncertain

  members_grow : (q : Quant) (t : ℕ) (ps : Parts) → AllGood ps → (names : List (List ℕ)) (enclosing : List InstanceId) → AllByRecursion (λ n. Live (named t n)) names → AllLive enclosing → (d : ℕ)
      → AllZip IsBelow (map (λ n. item q (each (olds ps) (named t n ∷ enclosing) d)) names) (map (λ n. item q (each (news ps) (named t n ∷ enclosing) d)) names)
  members_grow q t ps g [] enclosing lives live d = tt
  members_grow q t ps g (n ∷ names) enclosing lives live d = (item_grows q ps g (named t n ∷ enclosing) (lives.0, live) d, members_grow q t ps g names enclosing lives.1 live d)

  over_grows : (q : Quant) (r : RelId) (o : Option InstanceId) (ps : Parts) → AllGood ps → (enclosing : List InstanceId) → ((i : InstanceId) → o ≡ Some i → Live i) → AllLive enclosing → (d : ℕ)
      → IsBelow (at_place o (λ i. over q (s.target r) (l.members r i) (olds ps) enclosing d)) (at_place o (λ i. over q (s.target r) (l'.members r i) (news ps) enclosing d))
  over_grows q r None ps g enclosing at live d = below_refl Uncertain
  over_grows q r (Some i) ps g enclosing at live d = go (l.members r i) refl (c.members r i (at i refl))
    where
      go : (o : Option (List (List ℕ))) → l.members r i ≡ o → (l.members r i ≡ None) ⊎ (l.members r i ≡ l'.members r i) → IsBelow (over q (s.target r) (l.members r i) (olds ps) enclosing d) (over q (s.target r) (l'.members r i) (news ps) enclosing d)
      go o e (inl n) = inl (ap (λ x. over q (s.target r) x (olds ps) enclosing d) n)
      go None e (inr same) = inl (ap (λ x. over q (s.target r) x (olds ps) enclosing d) e)
      go (Some names) e (inr same) =
          subst (λ x. IsBelow (over q (s.target r) (l.members r i) (olds ps) enclosing d) (over q (s.target r) x (news ps) enclosing d)) same
          (subst (λ x. IsBelow (over q (s.target r) x (olds ps) enclosing d) (over q (s.target r) x (news ps) enclosing d)) (sym e)
          (quant_below q _ _ (members_grow q (s.target r) ps g names enclosing (c.listed r i names (at i refl) e) live d)))

  window_grows : (k : WinKind) (ps : Parts) → AllGood ps → (enclosing : List InstanceId) → AllLive enclosing → (d : ℕ) → IsBelow (window k (olds ps) enclosing d) (window k (news ps) enclosing d)
  window_grows win.Before (p ∷ []) g enclosing live d = kept_below (λ v. before v d) refl _ _ (p.1 g.0 enclosing live d)
  window_grows win.OnOrAfter (p ∷ []) g enclosing live d = kept_below (λ v. on_or_after v d) refl _ _ (p.1 g.0 enclosing live d)
  window_grows win.YearsSince (p ∷ []) g enclosing live d = kept_below (λ v. years_since v d) refl _ _ (p.1 g.0 enclosing live d)
  window_grows win.ValueAt (p ∷ q ∷ []) g enclosing live d = at_date_below _ _ (q.1 g.1.0 enclosing live) _ _ (p.1 g.0 enclosing live d)
  window_grows win.Always (p ∷ q ∷ r ∷ []) g enclosing live d = in_window_below all_of all_of_below _ _ (r.1 g.1.1.0 enclosing live) _ _ _ _ (p.1 g.0 enclosing live d) (q.1 g.1.0 enclosing live d)
  window_grows win.Sometimes (p ∷ q ∷ r ∷ []) g enclosing live d = in_window_below any_of any_of_below _ _ (r.1 g.1.1.0 enclosing live) _ _ _ _ (p.1 g.0 enclosing live d) (q.1 g.1.0 enclosing live d)
  window_grows win.DailySum (p ∷ q ∷ r ∷ []) g enclosing live d = in_window_below (strict sum_value) (strict_below sum_value) _ _ (r.1 g.1.1.0 enclosing live) _ _ _ _ (p.1 g.0 enclosing live d) (q.1 g.1.0 enclosing live d)
  window_grows win.Maximum (p ∷ q ∷ r ∷ []) g enclosing live d = in_window_below (strict greatest) (strict_below greatest) _ _ (r.1 g.1.1.0 enclosing live) _ _ _ _ (p.1 g.0 enclosing live d) (q.1 g.1.0 enclosing live d)
  window_grows win.Minimum (p ∷ q ∷ r ∷ []) g enclosing live d = in_window_below (strict least) (strict_below least) _ _ (r.1 g.1.1.0 enclosing live) _ _ _ _ (p.1 g.0 enclosing live d) (q.1 g.1.0 enclosing live d)
  window_grows win.ConsecutiveDays (p ∷ q ∷ r ∷ []) g enclosing live d = in_window_below (strict run_value) (strict_below run_value) _ _ (r.1 g.1.1.0 enclosing live) _ _ _ _ (p.1 g.0 enclosing live d) (q.1 g.1.0 enclosing live d)
  window_grows _ _ g enclosing live d = below_refl Uncertain

  table_grows : (rs : List (RowPart Below)) → AllByRecursion (λ r. GoodRow Ok r.0) rs → (m m' : Meaning) (enclosing : List InstanceId) → AllLive enclosing → (d : ℕ) → IsBelow (m enclosing d) (m' enclosing d) → IsBelow (table (map (row_value s l) (map (λ r. r.0) rs)) m enclosing d) (table (map (row_value s l') (map (λ r. r.0) rs)) m' enclosing d)
  table_grows [] g m m' enclosing live d h = h
  table_grows (r ∷ rs) g m m' enclosing live d h =
      let rest = table_grows rs g.1 m m' enclosing live d h in
      let here = choose_below _ _ _ _ _ _ (r.1.0 g.0.0 enclosing live d) (r.1.1 g.0.1 enclosing live d) rest in
      subst (λ (a : RowMeaning). IsBelow (choose (a.cond enclosing d) (a.value enclosing d) (table (map (row_value s l) (map (λ r. r.0) rs)) m enclosing d)) (choose ((row_value s l' r.0).cond enclosing d) ((row_value s l' r.0).value enclosing d) (table (map (row_value s l') (map (λ r. r.0) rs)) m' enclosing d))) (sym (row_value-is s l r.0))
      (subst (λ (a : RowMeaning). IsBelow (choose (value s l r.0.cond enclosing d) (value s l r.0.value enclosing d) (table (map (row_value s l) (map (λ r. r.0) rs)) m enclosing d)) (choose (a.cond enclosing d) (a.value enclosing d) (table (map (row_value s l') (map (λ r. r.0) rs)) m' enclosing d))) (sym (row_value-is s l' r.0)) here)

  abbrev old_level : Expr-F (Part Below) (RowPart Below) → Expr-F Meaning RowMeaning
  old_level z = map-Expr Expr Row Meaning RowMeaning (value s l) (row_value s l) (without Below z)

  abbrev new_level : Expr-F (Part Below) (RowPart Below) → Expr-F Meaning RowMeaning
  new_level z = map-Expr Expr Row Meaning RowMeaning (value s l') (row_value s l') (without Below z)

  abbrev free_level : Expr-F (Part Below) (RowPart Below) → Expr-F Bool Bool
  free_level z = map-Expr Expr Row Bool Bool is_free row_free (without Below z)

  abbrev mention_level : Expr-F (Part Below) (RowPart Below) → Expr-F (List AttrId) (List AttrId)
  mention_level z = map-Expr Expr Row (List AttrId) (List AttrId) mentioned row_mentions (without Below z)

  level_grows : (z : Expr-F (Part Below) (RowPart Below)) → free_step (free_level z) ≡ true → AllByRecursion Ok (mentioned_step (mention_level z)) → (enclosing : List InstanceId) → AllLive enclosing → (d : ℕ) → IsBelow (tree_step s l (old_level z) enclosing d) (tree_step s l' (new_level z) enclosing d)
  level_grows (Const v) f h enclosing live d = below_refl v
  level_grows (Attr a) f h enclosing live d =
      subst (λ o. IsBelow (at_place (place l.container enclosing (owner_of s a)) (λ i. l.value a i d)) (at_place o (λ i. l'.value a i d))) (sym (place_same enclosing live (owner_of s a))) (attr_grows (place l.container enclosing (owner_of s a)) a d h.0 (place_live enclosing live (owner_of s a)))
  level_grows (All ps) f h enclosing live d = all_of_below _ _ (each_grows ps (good_parts Ok ps f h) enclosing live d)
  level_grows (Any ps) f h enclosing live d = any_of_below _ _ (each_grows ps (good_parts Ok ps f h) enclosing live d)
  level_grows (Not p) f h enclosing live d = not_of_below _ _ (p.1 (f, h) enclosing live d)
  level_grows (Op k ps) f h enclosing live d = strict_below (op_of k) _ _ (each_grows ps (good_parts Ok ps f h) enclosing live d)
  level_grows (Certain p) f h enclosing live d = kept_below certain_of refl _ _ (p.1 (f, h) enclosing live d)
  level_grows (Known p) f h enclosing live d = absurd (cc f)
  level_grows (Over q r ps) f h enclosing live d =
      subst (λ o. IsBelow (at_place (place l.container enclosing (s.source r)) (λ i. over q (s.target r) (l.members r i) (olds ps) enclosing d)) (at_place o (λ i. over q (s.target r) (l'.members r i) (news ps) enclosing d))) (sym (place_same enclosing live (s.source r)))
      (over_grows q r (place l.container enclosing (s.source r)) ps (good_parts Ok ps f h) enclosing (place_live enclosing live (s.source r)) live d)
  level_grows (Window k ps) f h enclosing live d = window_grows k ps (good_parts Ok ps f h) enclosing live d
  level_grows (Rolling b n p) f h enclosing live d = rolling_below b n _ _ (p.1 (f, h) enclosing live) d
  level_grows (Table rs p) f h enclosing live d =
      let both = and_parts _ _ f in let two = all_parts Ok (flat_map (λ x. x) (map row_mentions (map (λ r. r.0) rs))) _ h in
      table_grows rs (good_rows Ok rs both.0 two.0) _ _ enclosing live d (p.1 (both.1, two.1) enclosing live d)

  pub value_grows : (e : Expr) → Below e
  value_grows = by_parts Below (λ z g enclosing live d.
      subst (λ m. IsBelow (m enclosing d) (value s l' (roll-Expr (without Below z)) enclosing d)) (sym (value-roll s l (without Below z)))
      (subst (λ m. IsBelow (tree_step s l (old_level z) enclosing d) (m enclosing d)) (sym (value-roll s l' (without Below z)))
      (level_grows z (sym (free-roll (without Below z)) ∙ g.0) (subst (AllByRecursion Ok) (mentioned-roll (without Below z)) g.1) enclosing live d)))
