-- Where what a tree uses is listed, its value is seen.
use Rattle.std.proofs.Common.{◌≡◌, ℕ, List, [], ◌∷◌, ◌++◌, Bool, true, false, Option, None, Some, refl, sym, ◌∙◌, ap, subst, length}
use Rattle.std.specs.Prelude.{map, flat_map, nat_le, not, ◌&&◌, ◌||◌, pos}
use Rattle.std.specs.List.{AllByRecursion}
use Rattle.std.specs.Option.{option_map, option_and_then}
use Rattle.std.proofs.lemmas.Bool.{and_parts, and_from}
use Rattle.opa_value.specs.declared.value.Value.{Value}
use Rattle.opa_value.specs.declared.value.Value.TheVariants.{Bool as Truth, Num}
use Rattle.opa_value.specs.Truth.{is_true, is_false, all_of, any_of, not_of, strict}
use Rattle.opa_model.specs.declared.ids.AttrId.{AttrId}
use Rattle.opa_model.specs.declared.ids.RelId.{RelId}
use Rattle.opa_case.specs.Live.{Names}
use Rattle.opa_case.specs.Shapes.{Shape}
use Rattle.opa_cells.specs.declared.instance.InstanceId.{InstanceId}
use Rattle.opa_cells.specs.Instances.{named}
use Rattle.opa_tree.specs.declared.kinds.Quant.{Quant}
use Rattle.opa_tree.specs.declared.kinds.Quant.TheVariants as quant
use Rattle.opa_tree.specs.declared.kinds.WinKind.{WinKind}
use Rattle.opa_tree.specs.declared.kinds.WinKind.TheVariants as win
use Rattle.opa_tree.specs.declared.expr.Expr.{Expr}
use Rattle.opa_tree.specs.declared.expr.Row.{Row}
use Rattle.opa_tree.specs.declared.expr.Expr.TheOpen.{Expr-F, Const, Attr, All, Any, Not, Op, Certain, Known, Over, Window, Rolling, Table}
use Rattle.opa_tree.specs.declared.expr.Expr.TheViews.{roll-Expr}
use Rattle.opa_tree.specs.declared.expr.Expr.TheFolds.{fold-Row, fold-roll-Expr, fold_out-Row, map-Expr}
use Rattle.opa_tree.proofs.Induction.{by_parts, Part, RowPart, without}
use Rattle.opa_window.specs.Folds.{sum_value, greatest, least, run_value}
use Rattle.opa_window.specs.Windows.{before, on_or_after, years_since, in_window}
use Rattle.opa_mean.specs.Looks.{Look}
use Rattle.opa_mean.specs.Meaning.{Meaning, RowMeaning, tree_step, value, each, at_place, certain_of, known_of, choose, item, quant_of, over, window, table}
use Rattle.opa_mean.specs.Operations.{op_of}
use Rattle.opa_mean.specs.Places.{owner_of, place}
use Rattle.opa_mean.specs.Uses.{Use, Point, Listed, Used, RowUses, RowUsed, first_or_all, at_place_uses, after_cond, item_uses, item_value, over_uses, window_uses, table_uses, uses_step, uses}
use Rattle.opa_mean.proofs.Everywhere.{all_parts}
use Rattle.opa_mean.proofs.Levels.{row_value, value-roll, row_value-is}
use Rattle.opa_verify.specs.Listed.Listings.{Listing}
use Rattle.opa_verify.specs.Listed.Ones.{is_for, are_single, single_step, single_row, is_single}
use Rattle.opa_verify.specs.Listed.Seen.{Sight, RowSight, each_seen, gathered, all_seen, any_seen, at_place_seen, chosen, item_seen, over_seen, on_date_seen, window_seen, span_seen, table_seen, seen_step, seen}
use Rattle.opa_verify.specs.Listed.Ways.{place_seen}
use Rattle.opa_verify.proofs.listed.Levels.{row_seen, seen-roll, row_seen-is}
use Rattle.opa_verify.proofs.listed.Showing.{all_shown, decided_shown, map_whole, quant_shown, chosen_shown, tested_shown, date_shown, between_shown, rolling_shown}
use Rattle.opa_mean.proofs.UseLaws.{row_uses, uses-roll, row_uses-is}
use Rattle.opa_verify.proofs.listed.UseLevels.{useds, all_uses, item_values, choice_parts}

unfoldable pub row_single : (RelId → Bool) → Row → Bool
row_single one = fold-Row Bool Bool (single_step one) single_row

pub single-roll : (one : RelId → Bool) (x : Expr-F Expr Row) → is_single one (roll-Expr x) ≡ single_step one (map-Expr Expr Row Bool Bool (is_single one) (row_single one) x)
unfolding is_single row_single
single-roll one = fold-roll-Expr Bool Bool (single_step one) single_row

pub row_single-is : (one : RelId → Bool) (r : Row) → row_single one r ≡ single_row (record { cond = is_single one r.cond; value = is_single one r.value })
unfolding is_single row_single
row_single-is one r = fold_out-Row Bool Bool (single_step one) single_row r

-- what is listed at instances that pass `Live`, where the enclosing instances pass `Within`
module _ (s : Shape) (l : Look) (k : Listing) (Within Live : InstanceId → Type 0)
    (met : (enclosing : List InstanceId) → AllByRecursion Within enclosing → (e : ℕ) → place_seen k.container enclosing e ≡ Some (place l.container enclosing e))
    (live : (enclosing : List InstanceId) → AllByRecursion Within enclosing → (e : ℕ) (i : InstanceId) → place l.container enclosing e ≡ Some i → Live i)
    (few : (r : RelId) (i : InstanceId) (names : Names) → Live i → s.one r ≡ true → l.members r i ≡ Some names → nat_le 2 (length names) ≡ false) where
  -- the value of a point is listed, or a list with the containers of its instances
  abbrev pub IsListed : Use → Type 0
  IsListed (Point a i d) = Live i → k.value a i d ≡ Some (l.value a i d)
  IsListed (Listed r i) = Live i → (k.members r i ≡ Some (l.members r i)) × ((names : Names) → l.members r i ≡ Some names → AllByRecursion (λ n. Within (named (s.target r) n)) names)

  abbrev AllListed : List Use → Type 0
  AllListed us = AllByRecursion IsListed us

  abbrev split : (us vs : List Use) → AllListed (us ++ vs) → AllListed us × AllListed vs
  split = all_parts IsListed

  abbrev Revealed : Expr → Type 0
  Revealed e = is_single s.one e ≡ true → (enclosing : List InstanceId) → AllByRecursion Within enclosing → (d : ℕ) → AllListed (uses s l e enclosing d) → seen s k e enclosing d ≡ Some (value s l e enclosing d)

  abbrev Parts : Type 0
  Parts = List (Part Revealed)

  abbrev sights : Parts → List Sight
  sights ps = map (seen s k) (map (λ p. p.0) ps)

  abbrev means : Parts → List Meaning
  means ps = map (value s l) (map (λ p. p.0) ps)

  abbrev used : Parts → List Used
  used ps = useds s l Revealed ps

  -- each part has the only member of relations to one alone
  abbrev Single : Part Revealed → Type 0
  Single p = is_single s.one p.0 ≡ true

  abbrev AllSingle : Parts → Type 0
  AllSingle ps = AllByRecursion Single ps

  singles : (ps : Parts) → are_single (map (is_single s.one) (map (λ p. p.0) ps)) ≡ true → AllSingle ps
  singles [] h = tt
  singles (p ∷ ps) h = let both = and_parts (is_single s.one p.0) (are_single (map (is_single s.one) (map (λ p. p.0) ps))) h in (both.0, singles ps both.1)

  each_sights : (ps : Parts) (enclosing : List InstanceId) (d : ℕ) → each_seen (sights ps) enclosing d ≡ map (λ p. seen s k p.0 enclosing d) ps
  each_sights [] enclosing d = refl
  each_sights (p ∷ ps) enclosing d = ap (λ os. seen s k p.0 enclosing d ∷ os) (each_sights ps enclosing d)

  each_means : (ps : Parts) (enclosing : List InstanceId) (d : ℕ) → each (means ps) enclosing d ≡ map (λ p. value s l p.0 enclosing d) ps
  each_means [] enclosing d = refl
  each_means (p ∷ ps) enclosing d = ap (λ vs. value s l p.0 enclosing d ∷ vs) (each_means ps enclosing d)

  all_revealed : (ps : Parts) → AllSingle ps → (enclosing : List InstanceId) → AllByRecursion Within enclosing → (d : ℕ) → AllListed (first_or_all (λ (x : Used). is_false (value s l x.0 enclosing d)) (λ (x : Used). x.1 enclosing d) (used ps))
      → all_seen (each_seen (sights ps) enclosing d) ≡ Some (all_of (each (means ps) enclosing d))
  all_revealed ps one enclosing w d h =
      ap all_seen (each_sights ps enclosing d)
      ∙ decided_shown IsListed Single (λ p. seen s k p.0 enclosing d) (λ p. value s l p.0 enclosing d) (λ p. uses s l p.0 enclosing d) (λ p o. p.1 o enclosing w d) is_false (Truth false) (Truth true) ps one (subst AllListed (choice_parts s l Revealed is_false ps enclosing d) h)
      ∙ sym (ap (λ vs. Some (all_of vs)) (each_means ps enclosing d))

  any_revealed : (ps : Parts) → AllSingle ps → (enclosing : List InstanceId) → AllByRecursion Within enclosing → (d : ℕ) → AllListed (first_or_all (λ (x : Used). is_true (value s l x.0 enclosing d)) (λ (x : Used). x.1 enclosing d) (used ps))
      → any_seen (each_seen (sights ps) enclosing d) ≡ Some (any_of (each (means ps) enclosing d))
  any_revealed ps one enclosing w d h =
      ap any_seen (each_sights ps enclosing d)
      ∙ decided_shown IsListed Single (λ p. seen s k p.0 enclosing d) (λ p. value s l p.0 enclosing d) (λ p. uses s l p.0 enclosing d) (λ p o. p.1 o enclosing w d) is_true (Truth true) (Truth false) ps one (subst AllListed (choice_parts s l Revealed is_true ps enclosing d) h)
      ∙ sym (ap (λ vs. Some (any_of vs)) (each_means ps enclosing d))

  each_revealed : (f : List Value → Value) (ps : Parts) → AllSingle ps → (enclosing : List InstanceId) → AllByRecursion Within enclosing → (d : ℕ) → AllListed (flat_map (λ (x : Used). x.1 enclosing d) (used ps))
      → option_map f (gathered (each_seen (sights ps) enclosing d)) ≡ Some (f (each (means ps) enclosing d))
  each_revealed f ps one enclosing w d h =
      ap (λ os. option_map f (gathered os)) (each_sights ps enclosing d ∙ all_shown IsListed Single (λ p. seen s k p.0 enclosing d) (λ p. value s l p.0 enclosing d) (λ p. uses s l p.0 enclosing d) (λ p o. p.1 o enclosing w d) ps one (subst AllListed (all_uses s l Revealed ps enclosing d) h))
      ∙ map_whole f (map (λ p. value s l p.0 enclosing d) ps)
      ∙ sym (ap (λ vs. Some (f vs)) (each_means ps enclosing d))

  attr_revealed : (o : Option InstanceId) → ((i : InstanceId) → o ≡ Some i → Live i) → (a : AttrId) (d : ℕ) → AllListed (at_place_uses o (λ i. Point a i d ∷ [])) → at_place_seen (Some o) (λ i. k.value a i d) ≡ Some (at_place o (λ i. l.value a i d))
  attr_revealed None at a d h = refl
  attr_revealed (Some i) at a d h = h.0 (at i refl)

  item_revealed : (q : Quant) (ps : Parts) → AllSingle ps → (enclosing : List InstanceId) → AllByRecursion Within enclosing → (d : ℕ) → AllListed (item_uses s l q (used ps) enclosing d) → item_seen q (each_seen (sights ps) enclosing d) ≡ Some (item q (each (means ps) enclosing d))
  item_revealed quant.SumIf (p ∷ r ∷ []) one enclosing w d h =
      let both = split (uses s l r.0 enclosing d) _ h in
      ap (λ o. chosen o (seen s k p.0 enclosing d) (Some (Num (pos 0)))) (r.1 one.1.0 enclosing w d both.0)
      ∙ tested_shown IsListed (value s l r.0 enclosing d) (Num (pos 0)) (uses s l p.0 enclosing d) both.1 (p.1 one.0 enclosing w d)
  item_revealed q (p ∷ []) one enclosing w d h = p.1 one.0 enclosing w d h
  item_revealed q _ one enclosing w d h = refl

  names_revealed : (q : Quant) (t : ℕ) (ps : Parts) → AllSingle ps → (names : Names) → AllByRecursion (λ n. Within (named t n)) names → (is_for q ≡ true → nat_le 2 (length names) ≡ false) → (enclosing : List InstanceId) → AllByRecursion Within enclosing → (d : ℕ)
      → AllListed (over_uses s l q t (Some names) (used ps) enclosing d) → over_seen q t (Some (Some names)) (sights ps) enclosing d ≡ Some (over q t (Some names) (means ps) enclosing d)
  names_revealed q t ps one names ws few enclosing w d h =
      quant_shown IsListed (λ n. Within (named t n)) (λ n. item_seen q (each_seen (sights ps) (named t n ∷ enclosing) d)) (λ n. item_value s l q (used ps) (named t n ∷ enclosing) d) (λ n. item_uses s l q (used ps) (named t n ∷ enclosing) d)
      (λ n wn a. item_revealed q ps one (named t n ∷ enclosing) (wn, w) d a ∙ sym (ap (λ vs. Some (item q vs)) (item_values s l Revealed ps (named t n ∷ enclosing) d))) q names ws few h
      ∙ ap (λ (f : List ℕ → Value). Some (over_by q f names)) (λ i n. ap (item q) (item_values s l Revealed ps (named t n ∷ enclosing) d) i)
    where
      over_by : Quant → (List ℕ → Value) → Names → Value
      over_by q f names = quant_of q (map f names)

  over_revealed : (q : Quant) (r : RelId) → (not (is_for q) || s.one r) ≡ true → (o : Option InstanceId) → ((i : InstanceId) → o ≡ Some i → Live i) → (ps : Parts) → AllSingle ps → (enclosing : List InstanceId) → AllByRecursion Within enclosing → (d : ℕ)
      → AllListed (at_place_uses o (λ i. Listed r i ∷ over_uses s l q (s.target r) (l.members r i) (used ps) enclosing d))
      → at_place_seen (Some o) (λ i. over_seen q (s.target r) (k.members r i) (sights ps) enclosing d) ≡ Some (at_place o (λ i. over q (s.target r) (l.members r i) (means ps) enclosing d))
  over_revealed q r fine None at ps one enclosing w d h = refl
  over_revealed q r fine (Some i) at ps one enclosing w d h =
      let list = h.0 (at i refl) in
      ap (λ o. over_seen q (s.target r) o (sights ps) enclosing d) list.0 ∙ go (l.members r i) (few r i) list.1 h.1
    where
      single : (b o : Bool) → b ≡ true → (not b || o) ≡ true → o ≡ true
      single true o e f = f
      single false o e f = absurd (cc e)

      go : (o : Option Names) → ((names : Names) → Live i → s.one r ≡ true → o ≡ Some names → nat_le 2 (length names) ≡ false) → ((names : Names) → o ≡ Some names → AllByRecursion (λ n. Within (named (s.target r) n)) names)
          → AllListed (over_uses s l q (s.target r) o (used ps) enclosing d) → over_seen q (s.target r) (Some o) (sights ps) enclosing d ≡ Some (over q (s.target r) o (means ps) enclosing d)
      go None short ws a = refl
      go (Some names) short ws a = names_revealed q (s.target r) ps one names (ws names refl) (λ e. short names (at i refl) (single (is_for q) (s.one r) e fine) refl) enclosing w d a

  interval_revealed : (fold : List Value → Value) (p q r : Part Revealed) → Single p → Single q → Single r → (enclosing : List InstanceId) → AllByRecursion Within enclosing → (d : ℕ) → AllListed (window_uses s l (used (p ∷ q ∷ r ∷ [])) enclosing d)
      → span_seen fold (seen s k r.0 enclosing) (seen s k p.0 enclosing d) (seen s k q.0 enclosing d) ≡ Some (in_window fold (value s l r.0 enclosing) (value s l p.0 enclosing d) (value s l q.0 enclosing d))
  interval_revealed fold p q r op oq or enclosing w d h =
      let one = split (uses s l p.0 enclosing d) _ h in let two = split (uses s l q.0 enclosing d) _ one.1 in
      ap (λ o. span_seen fold (seen s k r.0 enclosing) o (seen s k q.0 enclosing d)) (p.1 op enclosing w d one.0)
      ∙ ap (λ o. span_seen fold (seen s k r.0 enclosing) (Some (value s l p.0 enclosing d)) o) (q.1 oq enclosing w d two.0)
      ∙ between_shown IsListed (seen s k r.0 enclosing) (value s l r.0 enclosing) (uses s l r.0 enclosing) (r.1 or enclosing w) fold (value s l p.0 enclosing d) (value s l q.0 enclosing d) two.1

  window_revealed : (q : WinKind) (ps : Parts) → AllSingle ps → (enclosing : List InstanceId) → AllByRecursion Within enclosing → (d : ℕ) → AllListed (window_uses s l (used ps) enclosing d) → window_seen q (sights ps) enclosing d ≡ Some (window q (means ps) enclosing d)
  window_revealed win.Before (p ∷ []) one enclosing w d h = ap (option_map (λ v. before v d)) (p.1 one.0 enclosing w d h)
  window_revealed win.OnOrAfter (p ∷ []) one enclosing w d h = ap (option_map (λ v. on_or_after v d)) (p.1 one.0 enclosing w d h)
  window_revealed win.YearsSince (p ∷ []) one enclosing w d h = ap (option_map (λ v. years_since v d)) (p.1 one.0 enclosing w d h)
  window_revealed win.ValueAt (p ∷ x ∷ []) one enclosing w d h =
      let both = split (uses s l p.0 enclosing d) _ h in
      ap (option_and_then (on_date_seen (seen s k x.0 enclosing))) (p.1 one.0 enclosing w d both.0) ∙ date_shown IsListed (seen s k x.0 enclosing) (value s l x.0 enclosing) (uses s l x.0 enclosing) (x.1 one.1.0 enclosing w) (value s l p.0 enclosing d) both.1
  window_revealed win.Always (p ∷ q ∷ r ∷ []) one enclosing w d h = interval_revealed all_of p q r one.0 one.1.0 one.1.1.0 enclosing w d h
  window_revealed win.Sometimes (p ∷ q ∷ r ∷ []) one enclosing w d h = interval_revealed any_of p q r one.0 one.1.0 one.1.1.0 enclosing w d h
  window_revealed win.DailySum (p ∷ q ∷ r ∷ []) one enclosing w d h = interval_revealed (strict sum_value) p q r one.0 one.1.0 one.1.1.0 enclosing w d h
  window_revealed win.Maximum (p ∷ q ∷ r ∷ []) one enclosing w d h = interval_revealed (strict greatest) p q r one.0 one.1.0 one.1.1.0 enclosing w d h
  window_revealed win.Minimum (p ∷ q ∷ r ∷ []) one enclosing w d h = interval_revealed (strict least) p q r one.0 one.1.0 one.1.1.0 enclosing w d h
  window_revealed win.ConsecutiveDays (p ∷ q ∷ r ∷ []) one enclosing w d h = interval_revealed (strict run_value) p q r one.0 one.1.0 one.1.1.0 enclosing w d h
  window_revealed _ _ one enclosing w d h = refl

  table_revealed : (rs : List (RowPart Revealed)) (p : Part Revealed) → (are_single (map (row_single s.one) (map (λ r. r.0) rs)) && is_single s.one p.0) ≡ true → (enclosing : List InstanceId) → AllByRecursion Within enclosing → (d : ℕ)
      → AllListed (table_uses s l (map (λ r. (r, row_uses s l r)) (map (λ r. r.0) rs)) (uses s l p.0) enclosing d)
      → table_seen (map (row_seen s k) (map (λ r. r.0) rs)) (seen s k p.0) enclosing d ≡ Some (table (map (row_value s l) (map (λ r. r.0) rs)) (value s l p.0) enclosing d)
  table_revealed [] p one enclosing w d h = p.1 one enclosing w d h
  table_revealed (r ∷ rs) p one enclosing w d h =
      let three = and_parts (row_single s.one r.0 && are_single (map (row_single s.one) (map (λ r. r.0) rs))) (is_single s.one p.0) one in
      let two = and_parts (row_single s.one r.0) (are_single (map (row_single s.one) (map (λ r. r.0) rs))) three.0 in
      let row = and_parts (is_single s.one r.0.cond) (is_single s.one r.0.value) (sym (row_single-is s.one r.0) ∙ two.0) in
      let rest = table_uses s l (map (λ r. (r, row_uses s l r)) (map (λ r. r.0) rs)) (uses s l p.0) enclosing d in
      let u = subst (λ (a : RowUses). AllListed (a.cond enclosing d ++ after_cond (value s l r.0.cond enclosing d) (a.value enclosing d) rest)) (row_uses-is s l r.0) h in
      let both = split (uses s l r.0.cond enclosing d) _ u in
      let below = table_seen (map (row_seen s k) (map (λ r. r.0) rs)) (seen s k p.0) enclosing d in
      let under = table (map (row_value s l) (map (λ r. r.0) rs)) (value s l p.0) enclosing d in
      ap (λ (a : RowSight). chosen (a.cond enclosing d) (a.value enclosing d) below) (row_seen-is s k r.0)
      ∙ ap (λ o. chosen o (seen s k r.0.value enclosing d) below) (r.1.0 row.0 enclosing w d both.0)
      ∙ chosen_shown IsListed (value s l r.0.cond enclosing d) (uses s l r.0.value enclosing d) rest both.1 (r.1.1 row.1 enclosing w d) (table_revealed rs p (and_from _ _ two.1 three.1) enclosing w d)
      ∙ sym (ap (λ (a : RowMeaning). Some (choose (a.cond enclosing d) (a.value enclosing d) under)) (row_value-is s l r.0))

  abbrev sight : Expr-F (Part Revealed) (RowPart Revealed) → Expr-F Sight RowSight
  sight z = map-Expr Expr Row Sight RowSight (seen s k) (row_seen s k) (without Revealed z)

  abbrev meaning : Expr-F (Part Revealed) (RowPart Revealed) → Expr-F Meaning RowMeaning
  meaning z = map-Expr Expr Row Meaning RowMeaning (value s l) (row_value s l) (without Revealed z)

  abbrev usage : Expr-F (Part Revealed) (RowPart Revealed) → Expr-F Used RowUsed
  usage z = map-Expr Expr Row Used RowUsed (λ e. (e, uses s l e)) (λ r. (r, row_uses s l r)) (without Revealed z)

  abbrev single : Expr-F (Part Revealed) (RowPart Revealed) → Expr-F Bool Bool
  single z = map-Expr Expr Row Bool Bool (is_single s.one) (row_single s.one) (without Revealed z)

  level_revealed : (z : Expr-F (Part Revealed) (RowPart Revealed)) → single_step s.one (single z) ≡ true → (enclosing : List InstanceId) → AllByRecursion Within enclosing → (d : ℕ) → AllListed (uses_step s l (usage z) enclosing d) → seen_step s k (sight z) enclosing d ≡ Some (tree_step s l (meaning z) enclosing d)
  level_revealed (Const v) one enclosing w d h = refl
  level_revealed (Attr a) one enclosing w d h = ap (λ o. at_place_seen o (λ i. k.value a i d)) (met enclosing w (owner_of s a)) ∙ attr_revealed (place l.container enclosing (owner_of s a)) (live enclosing w (owner_of s a)) a d h
  level_revealed (All ps) one enclosing w d h = all_revealed ps (singles ps one) enclosing w d h
  level_revealed (Any ps) one enclosing w d h = any_revealed ps (singles ps one) enclosing w d h
  level_revealed (Not p) one enclosing w d h = ap (option_map not_of) (p.1 one enclosing w d h)
  level_revealed (Op o ps) one enclosing w d h = each_revealed (strict (op_of o)) ps (singles ps one) enclosing w d h
  level_revealed (Certain p) one enclosing w d h = ap (option_map certain_of) (p.1 one enclosing w d h)
  level_revealed (Known p) one enclosing w d h = ap (option_map known_of) (p.1 one enclosing w d h)
  level_revealed (Over q r ps) one enclosing w d h =
      let both = and_parts (not (is_for q) || s.one r) (are_single (map (is_single s.one) (map (λ p. p.0) ps))) one in
      ap (λ o. at_place_seen o (λ i. over_seen q (s.target r) (k.members r i) (sights ps) enclosing d)) (met enclosing w (s.source r))
      ∙ over_revealed q r both.0 (place l.container enclosing (s.source r)) (live enclosing w (s.source r)) ps (singles ps both.1) enclosing w d h
  level_revealed (Window q ps) one enclosing w d h = window_revealed q ps (singles ps one) enclosing w d h
  level_revealed (Rolling b n p) one enclosing w d h = rolling_shown IsListed (seen s k p.0 enclosing) (value s l p.0 enclosing) (uses s l p.0 enclosing) (p.1 one enclosing w) b n d h
  level_revealed (Table rs p) one enclosing w d h = table_revealed rs p one enclosing w d h

  pub revealed : (e : Expr) → Revealed e
  revealed = by_parts Revealed (λ z one enclosing w d h.
      ap (λ m. m enclosing d) (seen-roll s k (without Revealed z))
      ∙ level_revealed z (sym (single-roll s.one (without Revealed z)) ∙ one) enclosing w d (subst (λ m. AllListed (m enclosing d)) (uses-roll s l (without Revealed z)) h)
      ∙ sym (ap (λ m. Some (m enclosing d)) (value-roll s l (without Revealed z))))
