-- What is unknown has a need.
use Rattle.std.proofs.Common.{◌≡◌, ◌⊎◌, inl, inr, ℕ, List, [], ◌∷◌, ◌++◌, Bool, true, false, cond, Option, None, Some, refl, sym, ◌∙◌, ap}
use Rattle.std.specs.Prelude.{map, flat_map, nat_lt, ◌||◌, ◌&&◌, ◌+◌, ◌-◌, pos}
use Rattle.std.specs.List.{list_any, list_all}
use Rattle.std.proofs.lemmas.Bool.{and_parts}
use Rattle.opa_date.specs.declared.TheConstants.{DAYS}
use Rattle.opa_date.specs.Moves.{years_between}
use Rattle.opa_value.specs.declared.value.Value.TheVariants.{Unknown, Uncertain, Bool as Truth, Num, Words, Day}
use Rattle.opa_value.specs.Truth.{is_unknown, is_true, all_of, any_of, not_of, strict}
use Rattle.opa_value.specs.declared.value.Value.{Value}
use Rattle.opa_model.specs.declared.ids.AttrId.{AttrId}
use Rattle.opa_model.specs.declared.ids.RelId.{RelId}
use Rattle.opa_case.specs.Shapes.{Shape}
use Rattle.opa_cells.specs.declared.instance.InstanceId.{InstanceId}
use Rattle.opa_cells.specs.Instances.{named}
use Rattle.opa_tree.specs.declared.kinds.Quant.{Quant}
use Rattle.opa_tree.specs.declared.kinds.Quant.TheVariants as quant
use Rattle.opa_tree.specs.declared.kinds.WinKind.{WinKind}
use Rattle.opa_tree.specs.declared.kinds.WinKind.TheVariants as win
use Rattle.opa_tree.specs.declared.expr.Expr.{Expr}
use Rattle.opa_tree.specs.declared.expr.Row.{Row}
use Rattle.opa_tree.specs.declared.expr.Expr.TheOpen.{Expr-F, Const, Attr, All, Any, Not, Op, Certain, Known, Over, Window, Rolling, Table}
use Rattle.opa_tree.proofs.Induction.{by_parts, Part, RowPart, without}
use Rattle.opa_tree.specs.declared.expr.Expr.TheFolds.{map-Expr}
use Rattle.opa_tree.specs.Trees.{form_step, has_form}
use Rattle.opa_tree.proofs.FormLaws.{row_has_form, form-of_row, form-roll}
use Rattle.opa_window.specs.Days.{days, over_days}
use Rattle.opa_window.specs.Folds.{sum_value, greatest, least, run_value}
use Rattle.opa_window.specs.Windows.{on_date, on_dates, in_window}
use Rattle.opa_mean.specs.Looks.{Look}
use Rattle.opa_mean.specs.Meaning.{Meaning, RowMeaning, tree_step, value, each, at_place, certain_of, known_of, choose, item, over, window, table}
use Rattle.opa_mean.specs.Needs.{if_unknown, cond_needs, over_needs, part_needs, item_needs, window_needs, table_needs, needs_step, needs}
use Rattle.opa_mean.specs.Places.{owner_of, place}
use Rattle.opa_mean.specs.Uses.{Use, Used, RowUses, RowUsed, at_place_uses, on_date_uses, in_window_uses}
use Rattle.opa_mean.proofs.NeedsLaws.{row_needs, needs-roll, row_needs-is}
use Rattle.opa_mean.proofs.Levels.{row_value, value-roll, row_value-is}
use Rattle.opa_mean.proofs.Unknowns.{HasUnknown, unknown_is, all_unknown, any_unknown, operation_unknown, sum_unknown, run_unknown, greatest_unknown, least_unknown, quant_unknown, rolling_unknown, at_date_unknown, told_date, told_truth, told_years, in_window_unknown}

module _ {X : Type 0} where
  left_none : (xs ys : List X) → xs ++ ys ≡ [] → xs ≡ []
  left_none [] ys e = refl
  left_none (x ∷ xs) ys e = absurd (cc e)

  right_none : (xs ys : List X) → xs ++ ys ≡ [] → ys ≡ []
  right_none [] ys e = e
  right_none (x ∷ xs) ys e = absurd (cc e)

-- one of the things is unknown, so that one of them has a need
one_of : {X : Type 0} (f : X → Value) (u : X → List Use) → ((x : X) → f x ≡ Unknown → u x ≡ [] → ⊥) → (xs : List X) → HasUnknown (map f xs) → flat_map u xs ≡ [] → ⊥
one_of f u has [] e n = cc e
one_of f u has (x ∷ xs) e n = go (is_unknown (f x)) refl (one_of f u has xs)
  where
    go : (t : Bool) → is_unknown (f x) ≡ t → (HasUnknown (map f xs) → flat_map u xs ≡ [] → ⊥) → ⊥
    go true q rest = has x (unknown_is (f x) q) (left_none (u x) (flat_map u xs) n)
    go false q rest = rest (sym (ap (λ b. b || list_any is_unknown (map f xs)) q) ∙ e) (right_none (u x) (flat_map u xs) n)

certain_unknown : (v : Value) → certain_of v ≡ Unknown → v ≡ Unknown
certain_unknown Unknown e = refl
certain_unknown Uncertain e = absurd (cc e)
certain_unknown (Truth b) e = absurd (cc e)
certain_unknown (Num m) e = absurd (cc e)
certain_unknown (Words t) e = absurd (cc e)
certain_unknown (Day k) e = absurd (cc e)

known_known : (v : Value) → known_of v ≡ Unknown → ⊥
known_known Unknown e = cc e
known_known Uncertain e = cc e
known_known (Truth b) e = cc e
known_known (Num m) e = cc e
known_known (Words t) e = cc e
known_known (Day k) e = cc e

not_unknown : (v : Value) → not_of v ≡ Unknown → v ≡ Unknown
not_unknown Unknown e = refl
not_unknown Uncertain e = absurd (cc e)
not_unknown (Truth b) e = absurd (cc e)
not_unknown (Num m) e = absurd (cc e)
not_unknown (Words t) e = absurd (cc e)
not_unknown (Day k) e = absurd (cc e)

choice_asks : (v a x : Value) (us vs ws : List Use) → (v ≡ Unknown → us ≡ [] → ⊥) → (a ≡ Unknown → vs ≡ [] → ⊥) → (x ≡ Unknown → ws ≡ [] → ⊥) → choose v a x ≡ Unknown → cond_needs v us vs ws ≡ [] → ⊥
choice_asks (Truth true) a x us vs ws h f g un n = f un n
choice_asks (Truth false) a x us vs ws h f g un n = g un n
choice_asks Unknown a x us vs ws h f g un n = h refl n
choice_asks Uncertain a x us vs ws h f g un n = cc un
choice_asks (Num m) a x us vs ws h f g un n = cc un
choice_asks (Words t) a x us vs ws h f g un n = cc un
choice_asks (Day k) a x us vs ws h f g un n = cc un

-- a number and its test, whose needs come first
test_asks : (v a : Value) (us vs : List Use) → (v ≡ Unknown → us ≡ [] → ⊥) → (a ≡ Unknown → vs ≡ [] → ⊥) → choose v a (Num (pos 0)) ≡ Unknown → us ++ cond (is_true v) vs [] ≡ [] → ⊥
test_asks (Truth true) a us vs h f un n = f un (right_none us vs n)
test_asks (Truth false) a us vs h f un n = cc un
test_asks Unknown a us vs h f un n = h refl (left_none us [] n)
test_asks Uncertain a us vs h f un n = cc un
test_asks (Num m) a us vs h f un n = cc un
test_asks (Words t) a us vs h f un n = cc un
test_asks (Day k) a us vs h f un n = cc un

within_asks : (b : Bool) (v : Value) (us : List Use) → (v ≡ Unknown → us ≡ [] → ⊥) → cond b v Uncertain ≡ Unknown → cond b us [] ≡ [] → ⊥
within_asks true v us h un n = h un n
within_asks false v us h un n = cc un

date_asks : (x : ℕ → Value) (u : ℕ → List Use) → ((d : ℕ) → x d ≡ Unknown → u d ≡ [] → ⊥) → (v : Value) → on_date x v ≡ Unknown → on_date_uses u v ≡ [] → ⊥
date_asks x u h (Day k) un n = within_asks (nat_lt k DAYS) (x k) (u k) (h k) un n
date_asks x u h _ un n = cc un

dates_ask : (fold : List Value → Value) → ((vs : List Value) → fold vs ≡ Unknown → HasUnknown vs) → (x : ℕ → Value) (u : ℕ → List Use) → ((d : ℕ) → x d ≡ Unknown → u d ≡ [] → ⊥) → (v w : Value) → on_dates (λ s t. fold (over_days x s t)) v w ≡ Unknown → in_window_uses u v w ≡ [] → ⊥
dates_ask fold tells x u h (Day k) (Day m) un n = within_asks (nat_lt k DAYS && nat_lt m DAYS) (fold (over_days x k m)) (flat_map u (days k (m - k))) (λ un' n'. one_of x u h (days k (m - k)) (tells (over_days x k m) un') n') un n
dates_ask fold tells x u h _ _ un n = cc un

module _ (s : Shape) (l : Look) (list_need : RelId → InstanceId → Use) (point_needs : AttrId → InstanceId → ℕ → List Use) (asked : (a : AttrId) (i : InstanceId) (d : ℕ) → l.value a i d ≡ Unknown → point_needs a i d ≡ [] → ⊥) where
  abbrev Asks : Expr → Type 0
  Asks e = (top : Bool) → has_form e top ≡ true → (enclosing : List InstanceId) (d : ℕ) → value s l e enclosing d ≡ Unknown → needs s l list_need point_needs e enclosing d ≡ [] → ⊥

  abbrev Parts : Type 0
  Parts = List (Part Asks)

  abbrev values : Parts → List Meaning
  values ps = map (value s l) (map (λ p. p.0) ps)

  abbrev neededs : Parts → List Used
  neededs ps = map (λ e. (e, needs s l list_need point_needs e)) (map (λ p. p.0) ps)

  abbrev AllForm : Parts → Type 0
  AllForm ps = list_all (λ (x : Bool → Bool). x false) (map has_form (map (λ p. p.0) ps)) ≡ true

  -- the needs of a tree, where it is unknown
  abbrev own : Expr → List InstanceId → ℕ → List Use
  own e enclosing d = if_unknown (value s l e enclosing d) (needs s l list_need point_needs e enclosing d)

  own_asks : (p : Part Asks) → has_form p.0 false ≡ true → (enclosing : List InstanceId) (d : ℕ) → value s l p.0 enclosing d ≡ Unknown → own p.0 enclosing d ≡ [] → ⊥
  own_asks p f enclosing d un n = p.1 false f enclosing d un (sym (ap (λ v. if_unknown v (needs s l list_need point_needs p.0 enclosing d)) un) ∙ n)

  each_asks : (ps : Parts) → AllForm ps → (enclosing : List InstanceId) (d : ℕ) → HasUnknown (each (values ps) enclosing d) → flat_map (λ (x : Used). part_needs s l list_need point_needs x enclosing d) (neededs ps) ≡ [] → ⊥
  each_asks [] f enclosing d e n = cc e
  each_asks (p ∷ ps) f enclosing d e n = go (is_unknown (value s l p.0 enclosing d)) refl (each_asks ps (and_parts _ _ f).1 enclosing d)
    where
      go : (t : Bool) → is_unknown (value s l p.0 enclosing d) ≡ t → (HasUnknown (each (values ps) enclosing d) → flat_map (λ (x : Used). part_needs s l list_need point_needs x enclosing d) (neededs ps) ≡ [] → ⊥) → ⊥
      go true q rest = own_asks p (and_parts _ _ f).0 enclosing d (unknown_is _ q) (left_none _ _ n)
      go false q rest = rest (sym (ap (λ b. b || list_any is_unknown (each (values ps) enclosing d)) q) ∙ e) (right_none (own p.0 enclosing d) _ n)

  attr_asks : (o : Option InstanceId) (a : AttrId) (d : ℕ) → at_place o (λ i. l.value a i d) ≡ Unknown → at_place_uses o (λ i. point_needs a i d) ≡ [] → ⊥
  attr_asks None a d un n = cc un
  attr_asks (Some i) a d un n = asked a i d un n

  item_asks : (q : Quant) (ps : Parts) → AllForm ps → (enclosing : List InstanceId) (d : ℕ) → item q (each (values ps) enclosing d) ≡ Unknown → item_needs s l list_need point_needs q (neededs ps) enclosing d ≡ [] → ⊥
  item_asks quant.SumIf (p ∷ r ∷ []) f enclosing d un n =
      let one = and_parts _ _ f in let two = and_parts _ _ one.1 in
      test_asks (value s l r.0 enclosing d) (value s l p.0 enclosing d) (own r.0 enclosing d) (own p.0 enclosing d) (own_asks r two.0 enclosing d) (own_asks p one.0 enclosing d) un n
  item_asks q (p ∷ []) f enclosing d un n = own_asks p (and_parts _ _ f).0 enclosing d un n
  item_asks q _ f enclosing d un n = cc un

  over_asks : (q : Quant) (key : Use) (t : ℕ) (ps : Parts) → AllForm ps → (o : Option (List (List ℕ))) (enclosing : List InstanceId) (d : ℕ) → over q t o (values ps) enclosing d ≡ Unknown
      → over_needs key (λ m. item_needs s l list_need point_needs q (neededs ps) (named t m ∷ enclosing) d) o ≡ [] → ⊥
  over_asks q key t ps f None enclosing d un n = cc n
  over_asks q key t ps f (Some names) enclosing d un n =
      one_of (λ m. item q (each (values ps) (named t m ∷ enclosing) d)) (λ m. item_needs s l list_need point_needs q (neededs ps) (named t m ∷ enclosing) d) (λ m. item_asks q ps f (named t m ∷ enclosing) d) names
      (quant_unknown q (map (λ m. item q (each (values ps) (named t m ∷ enclosing) d)) names) un) n

  at_asks : (o : Option InstanceId) (q : Quant) (r : RelId) (ps : Parts) → AllForm ps → (enclosing : List InstanceId) (d : ℕ) → at_place o (λ i. over q (s.target r) (l.members r i) (values ps) enclosing d) ≡ Unknown
      → at_place_uses o (λ i. over_needs (list_need r i) (λ m. item_needs s l list_need point_needs q (neededs ps) (named (s.target r) m ∷ enclosing) d) (l.members r i)) ≡ [] → ⊥
  at_asks None q r ps f enclosing d un n = cc un
  at_asks (Some i) q r ps f enclosing d un n = over_asks q (list_need r i) (s.target r) ps f (l.members r i) enclosing d un n

  interval_asks : (fold : List Value → Value) → ((vs : List Value) → fold vs ≡ Unknown → HasUnknown vs) → (p q r : Part Asks) → AllForm (p ∷ q ∷ r ∷ []) → (enclosing : List InstanceId) (d : ℕ)
      → in_window fold (value s l r.0 enclosing) (value s l p.0 enclosing d) (value s l q.0 enclosing d) ≡ Unknown → window_needs s l list_need point_needs (neededs (p ∷ q ∷ r ∷ [])) enclosing d ≡ [] → ⊥
  interval_asks fold tells p q r f enclosing d un n =
      go (in_window_unknown fold (value s l r.0 enclosing) (value s l p.0 enclosing d) (value s l q.0 enclosing d) un)
    where
      rest_none : own q.0 enclosing d ++ in_window_uses (own r.0 enclosing) (value s l p.0 enclosing d) (value s l q.0 enclosing d) ≡ []
      rest_none = right_none (own p.0 enclosing d) _ n

      go : (value s l p.0 enclosing d ≡ Unknown) ⊎ ((value s l q.0 enclosing d ≡ Unknown) ⊎ (on_dates (λ a b. fold (over_days (value s l r.0 enclosing) a b)) (value s l p.0 enclosing d) (value s l q.0 enclosing d) ≡ Unknown)) → ⊥
      go (inl e) = own_asks p (and_parts _ _ f).0 enclosing d e (left_none _ _ n)
      go (inr (inl e)) = own_asks q (and_parts _ _ (and_parts _ _ f).1).0 enclosing d e (left_none _ _ rest_none)
      go (inr (inr e)) = dates_ask fold tells (value s l r.0 enclosing) (own r.0 enclosing) (own_asks r (and_parts _ _ (and_parts _ _ (and_parts _ _ f).1).1).0 enclosing) (value s l p.0 enclosing d) (value s l q.0 enclosing d) e (right_none (own q.0 enclosing d) _ rest_none)

  window_asks : (k : WinKind) (ps : Parts) → AllForm ps → (enclosing : List InstanceId) (d : ℕ) → window k (values ps) enclosing d ≡ Unknown → window_needs s l list_need point_needs (neededs ps) enclosing d ≡ [] → ⊥
  window_asks win.Before (p ∷ []) f enclosing d un n = own_asks p (and_parts _ _ f).0 enclosing d (told_date _ (λ k. told_truth _) _ un) n
  window_asks win.OnOrAfter (p ∷ []) f enclosing d un n = own_asks p (and_parts _ _ f).0 enclosing d (told_date _ (λ k. told_truth _) _ un) n
  window_asks win.YearsSince (p ∷ []) f enclosing d un n = own_asks p (and_parts _ _ f).0 enclosing d (told_date _ (λ k. told_years (years_between k d)) _ un) n
  window_asks win.ValueAt (p ∷ q ∷ []) f enclosing d un n = go (at_date_unknown (value s l q.0 enclosing) (value s l p.0 enclosing d) un)
    where
      go : (value s l p.0 enclosing d ≡ Unknown) ⊎ (on_date (value s l q.0 enclosing) (value s l p.0 enclosing d) ≡ Unknown) → ⊥
      go (inl e) = own_asks p (and_parts _ _ f).0 enclosing d e (left_none _ _ n)
      go (inr e) = date_asks (value s l q.0 enclosing) (own q.0 enclosing) (own_asks q (and_parts _ _ (and_parts _ _ f).1).0 enclosing) (value s l p.0 enclosing d) e (right_none (own p.0 enclosing d) _ n)
  window_asks win.Always (p ∷ q ∷ r ∷ []) f enclosing d un n = interval_asks all_of all_unknown p q r f enclosing d un n
  window_asks win.Sometimes (p ∷ q ∷ r ∷ []) f enclosing d un n = interval_asks any_of any_unknown p q r f enclosing d un n
  window_asks win.DailySum (p ∷ q ∷ r ∷ []) f enclosing d un n = interval_asks (strict sum_value) sum_unknown p q r f enclosing d un n
  window_asks win.Maximum (p ∷ q ∷ r ∷ []) f enclosing d un n = interval_asks (strict greatest) greatest_unknown p q r f enclosing d un n
  window_asks win.Minimum (p ∷ q ∷ r ∷ []) f enclosing d un n = interval_asks (strict least) least_unknown p q r f enclosing d un n
  window_asks win.ConsecutiveDays (p ∷ q ∷ r ∷ []) f enclosing d un n = interval_asks (strict run_value) run_unknown p q r f enclosing d un n
  window_asks _ _ f enclosing d un n = cc un

  table_asks : (rs : List (RowPart Asks)) (p : Part Asks) → list_all (λ (x : Bool → Bool). x false) (map row_has_form (map (λ r. r.0) rs)) ≡ true → has_form p.0 false ≡ true → (enclosing : List InstanceId) (d : ℕ) → table (map (row_value s l) (map (λ r. r.0) rs)) (value s l p.0) enclosing d ≡ Unknown → table_needs s l list_need point_needs (map (λ r. (r, row_needs s l list_need point_needs r)) (map (λ r. r.0) rs)) (needs s l list_need point_needs p.0) enclosing d ≡ [] → ⊥
  table_asks [] p f g enclosing d un n = p.1 false g enclosing d un n
  table_asks (r ∷ rs) p f g enclosing d un n =
      let both = and_parts _ _ f in
      let parts = and_parts _ _ (sym (ap (λ (x : Bool → Bool). x false) (form-of_row r.0)) ∙ both.0) in
      let rest = table_needs s l list_need point_needs (map (λ r. (r, row_needs s l list_need point_needs r)) (map (λ r. r.0) rs)) (needs s l list_need point_needs p.0) enclosing d in
      choice_asks (value s l r.0.cond enclosing d) (value s l r.0.value enclosing d) (table (map (row_value s l) (map (λ r. r.0) rs)) (value s l p.0) enclosing d) (needs s l list_need point_needs r.0.cond enclosing d) (needs s l list_need point_needs r.0.value enclosing d) rest
      (r.1.0 false parts.0 enclosing d) (r.1.1 false parts.1 enclosing d) (table_asks rs p both.1 g enclosing d)
      (sym (ap (λ (a : RowMeaning). choose (a.cond enclosing d) (a.value enclosing d) (table (map (row_value s l) (map (λ r. r.0) rs)) (value s l p.0) enclosing d)) (row_value-is s l r.0)) ∙ un)
      (sym (ap (λ (a : RowUses). cond_needs (value s l r.0.cond enclosing d) (a.cond enclosing d) (a.value enclosing d) rest) (row_needs-is s l list_need point_needs r.0)) ∙ n)

  abbrev level : Expr-F (Part Asks) (RowPart Asks) → Expr-F Meaning RowMeaning
  level z = map-Expr Expr Row Meaning RowMeaning (value s l) (row_value s l) (without Asks z)

  abbrev forms : Expr-F (Part Asks) (RowPart Asks) → Expr-F (Bool → Bool) (Bool → Bool)
  forms z = map-Expr Expr Row (Bool → Bool) (Bool → Bool) has_form row_has_form (without Asks z)

  abbrev needed : Expr-F (Part Asks) (RowPart Asks) → Expr-F Used RowUsed
  needed z = map-Expr Expr Row Used RowUsed (λ e. (e, needs s l list_need point_needs e)) (λ r. (r, row_needs s l list_need point_needs r)) (without Asks z)

  literal_asks : (v : Value) (top : Bool) → form_step (Const v) top ≡ true → v ≡ Unknown → ⊥
  literal_asks v top f un = cc (f, un)

  level_asks : (z : Expr-F (Part Asks) (RowPart Asks)) (top : Bool) → form_step (forms z) top ≡ true → (enclosing : List InstanceId) (d : ℕ) → tree_step s l (level z) enclosing d ≡ Unknown → needs_step s l list_need point_needs (needed z) enclosing d ≡ [] → ⊥
  level_asks (Const v) top f enclosing d un n = literal_asks v top f un
  level_asks (Attr a) top f enclosing d un n = attr_asks (place l.container enclosing (owner_of s a)) a d un n
  level_asks (All ps) top f enclosing d un n = each_asks ps (and_parts _ _ f).1 enclosing d (all_unknown (each (values ps) enclosing d) un) n
  level_asks (Any ps) top f enclosing d un n = each_asks ps (and_parts _ _ f).1 enclosing d (any_unknown (each (values ps) enclosing d) un) n
  level_asks (Not p) top f enclosing d un n = p.1 false f enclosing d (not_unknown _ un) n
  level_asks (Op k ps) top f enclosing d un n = each_asks ps (and_parts _ _ f).1 enclosing d (operation_unknown k (each (values ps) enclosing d) un) n
  level_asks (Certain p) top f enclosing d un n = p.1 false f enclosing d (certain_unknown _ un) n
  level_asks (Known p) top f enclosing d un n = known_known _ un
  level_asks (Over q r ps) top f enclosing d un n = at_asks (place l.container enclosing (s.source r)) q r ps (and_parts _ _ f).1 enclosing d un n
  level_asks (Window k ps) top f enclosing d un n = window_asks k ps (and_parts _ _ f).1 enclosing d un n
  level_asks (Rolling b m p) top f enclosing d un n = one_of (value s l p.0 enclosing) (own p.0 enclosing) (own_asks p (and_parts _ _ f).1 enclosing) (days (d + 1 - m) (d + 1 - (d + 1 - m))) (rolling_unknown b m (value s l p.0 enclosing) d un) n
  level_asks (Table rs p) top f enclosing d un n = let one = and_parts _ _ f in let two = and_parts _ _ one.0 in table_asks rs p two.1 one.1 enclosing d un n

  pub value_asks : (e : Expr) → Asks e
  value_asks = by_parts Asks (λ z top f enclosing d un n.
      level_asks z top (sym (ap (λ (x : Bool → Bool). x top) (form-roll (without Asks z))) ∙ f) enclosing d (sym (ap (λ m. m enclosing d) (value-roll s l (without Asks z))) ∙ un) (sym (ap (λ m. m enclosing d) (needs-roll s l list_need point_needs (without Asks z))) ∙ n))
