-- The value of a tree has each kind that the tree can have, over a look whose values have their kinds.
use Rattle.std.proofs.Common.{◌≡◌, ◌==◌, ℕ, ◌*◌, pos, Bool, true, false, List, [], ◌∷◌, length, Option, None, Some, refl, sym, ◌∙◌, ap, subst}
use Rattle.std.specs.Prelude.{map, nat_lt, nat_le, unwrap_or, ◌&&◌, ◌||◌}
use Rattle.std.specs.List.{list_all}
use Rattle.std.specs.Option.{option_map_or}
use Rattle.std.proofs.lemmas.Bool.{and_parts}
use Rattle.opa_date.specs.Moves.{years_between}
use Rattle.opa_value.specs.declared.value.Value.{Value}
use Rattle.opa_value.specs.declared.value.Value.TheVariants as value
use Rattle.opa_value.specs.Truth.{all_of, any_of, strict}
use Rattle.opa_model.specs.declared.ids.AttrId.{AttrId}
use Rattle.opa_model.specs.declared.ids.RelId.{RelId}
use Rattle.opa_model.specs.declared.lists.Lists.{Lists}
use Rattle.opa_model.specs.declared.things.Attribute.{Attribute}
use Rattle.opa_model.specs.declared.things.Kind.{Kind}
use Rattle.opa_model.specs.declared.things.Kind.TheVariants as kind
use Rattle.opa_model.specs.declared.things.Relation.{Relation}
use Rattle.opa_model.specs.Lookups.{attribute_at, relation_at}
use Rattle.opa_cells.specs.declared.instance.InstanceId.{InstanceId}
use Rattle.opa_cells.specs.Instances.{named}
use Rattle.opa_tree.specs.declared.kinds.Quant.{Quant}
use Rattle.opa_tree.specs.declared.kinds.WinKind.{WinKind}
use Rattle.opa_tree.specs.declared.kinds.WinKind.TheVariants as win
use Rattle.opa_tree.specs.declared.expr.Expr.{Expr}
use Rattle.opa_tree.specs.declared.expr.Row.{Row}
use Rattle.opa_tree.specs.declared.expr.Expr.TheOpen.{Expr-F, Const, Attr, All, Any, Not, Op, Certain, Known, Over, Window, Rolling, Table}
use Rattle.opa_tree.specs.declared.expr.Expr.TheFolds.{map-Expr}
use Rattle.opa_tree.specs.Kinds.{Typing, is_kind, is_ordered, all_can, literal_of, quant_can, dated, window_can, kinds_step, typing, can_have}
use Rattle.opa_tree.specs.Trees.{is_literal, op_arity, quant_arity, window_arity, parts_have_form, form_step, has_form}
use Rattle.opa_tree.proofs.FormLaws.{row_has_form, form-roll, form-of_row}
use Rattle.opa_tree.proofs.Induction.{by_parts, Part, RowPart, without}
use Rattle.opa_tree.proofs.KindLaws.{row_typing, typing-of_row}
use Rattle.opa_case.specs.Shapes.{Shape, shape_of, no_attribute}
use Rattle.opa_window.specs.Days.{over_days, last_days}
use Rattle.opa_window.specs.Folds.{sum_value, best, run_value, is_less, is_more, longest, total}
use Rattle.opa_window.specs.Windows.{in_window, before, on_or_after, years_since, value_at, years_value}
use Rattle.opa_mean.specs.Looks.{Look}
use Rattle.opa_mean.specs.Meaning.{Meaning, RowMeaning, tree_step, value as value_of, each, at_place, choose, item, over, window, rolling, table}
use Rattle.opa_mean.specs.Places.{owner_of, place}
use Rattle.opa_mean.proofs.Levels.{row_value, value-roll, row_value-is}
use Rattle.opa_mean.proofs.kinds.Levels.{typing-roll}
use Rattle.opa_mean.proofs.kinds.Operating.{given_has, op_has, quant_has, item_has, hands_on, at_date_has, in_window_has, over_days_have}
use Rattle.opa_mean.proofs.kinds.OperandKinds.{one_date, two_dates, spanning}
use Rattle.opa_mean.proofs.kinds.Passing.{given_parts}
use Rattle.opa_mean.proofs.kinds.Plain.{Has, AllHave, alike, open_has, all_has, any_has, not_has, certain_has, known_has, choose_has, best_has, number_has, years_has}

rolled_kind : (n : ℕ) (k : Kind) (b : Bool) → (nat_le 1 n && nat_le n 36600 && is_kind kind.Bool k && b) ≡ true → is_kind kind.Bool k ≡ true
rolled_kind n k b c = (and_parts (nat_le 1 n && nat_le n 36600) (is_kind kind.Bool k) (and_parts (nat_le 1 n && nat_le n 36600 && is_kind kind.Bool k) b c).0).1

module _ (free : Bool) where
  -- a literal has each kind that it can have
  literal_has : (v : Value) (k : Kind) → (free || is_literal v) ≡ true → (literal_of v).can k ≡ true → Has free k v
  literal_has value.Unknown k h c = refl
  literal_has value.Uncertain k h c = refl
  literal_has (value.Bool b) k h c = alike free kind.Bool k (value.Bool b) c refl
  literal_has (value.Num n) k h c = alike free kind.Number k (value.Num n) c refl
  literal_has (value.Words t) k h c = alike free kind.Words k (value.Words t) c refl
  literal_has (value.Day d) k h c = alike free kind.Date k (value.Day d) c h

  placed_has : (k : Kind) (o : Option InstanceId) (f : InstanceId → Value) → ((i : InstanceId) → Has free k (f i)) → Has free k (at_place o f)
  placed_has k None f h = refl
  placed_has k (Some i) f h = h i

  rolling_has : (b : Bool) (n : ℕ) (x : ℕ → Value) (d : ℕ) → Has free kind.Bool (rolling b n x d)
  rolling_has true n x d = all_has free (last_days n x d)
  rolling_has false n x d = any_has free (last_days n x d)

  sum_has : (vs : List Value) → Has free kind.Number (strict sum_value vs)
  sum_has vs = open_has free kind.Number vs (sum_value vs) (number_has free (total vs))

  run_has : (vs : List Value) → Has free kind.Number (strict run_value vs)
  run_has vs = open_has free kind.Number vs (run_value vs) (number_has free (pos (longest vs * 10000)))

module _ (free : Bool) (m : Lists) (l : Look) (kinds : (a : AttrId) (i : InstanceId) (d : ℕ) → Has free ((shape_of m).attribute a).kind (l.value a i d)) where
  abbrev s : Shape
  s = shape_of m

  abbrev HasKinds : Expr → Type 0
  HasKinds e = (top : Bool) → (free || has_form e top) ≡ true → (k : Kind) → can_have m e k ≡ true → (enclosing : List InstanceId) (d : ℕ) → Has free k (value_of s l e enclosing d)

  abbrev Parts : Type 0
  Parts = List (Part HasKinds)

  abbrev meanings : Parts → List Meaning
  meanings ps = map (value_of s l) (map (λ p. p.0) ps)

  abbrev typings : Parts → List Typing
  typings ps = map (typing m) (map (λ p. p.0) ps)

  abbrev formed : Parts → Bool
  formed ps = parts_have_form (map has_form (map (λ p. p.0) ps))

  abbrev AreFormed : Parts → Type 0
  AreFormed ps = (free || formed ps) ≡ true

  abbrev many : Parts → ℕ
  many ps = length (map has_form (map (λ p. p.0) ps))

  parts_have : (ps : Parts) (k : Kind) → AreFormed ps → all_can (typings ps) k ≡ true → (enclosing : List InstanceId) (d : ℕ) → AllHave free k (each (meanings ps) enclosing d)
  parts_have [] k h c enclosing d = tt
  parts_have (p ∷ ps) k h c enclosing d =
      let first = given_parts free (has_form p.0 false) _ h in
      let can = and_parts (can_have m p.0 k) _ c in
      (p.1 false first.0 k can.0 enclosing d, parts_have ps k first.1 can.1 enclosing d)

  attr_has : (a : AttrId) (k : Kind) → option_map_or (λ x. is_kind x.kind k) (attribute_at m a) false ≡ true → (i : InstanceId) (d : ℕ) → Has free k (l.value a i d)
  attr_has a k c i d = go (attribute_at m a) refl c
    where
      go : (o : Option Attribute) → attribute_at m a ≡ o → option_map_or (λ (x : Attribute). is_kind x.kind k) o false ≡ true → Has free k (l.value a i d)
      go None e c' = absurd (cc c')
      go (Some x) e c' = alike free x.kind k (l.value a i d) c' (subst (λ (o : Option Attribute). Has free (unwrap_or o no_attribute).kind (l.value a i d)) e (kinds a i d))

  items_have : (q : Quant) (t : ℕ) (ps : Parts) (k : Kind) → AreFormed ps → hands_on q ≡ true → all_can (typings ps) k ≡ true → (names : List (List ℕ)) (enclosing : List InstanceId) (d : ℕ) → AllHave free k (map (λ n. item q (each (meanings ps) (named t n ∷ enclosing) d)) names)
  items_have q t ps k h e c [] enclosing d = tt
  items_have q t ps k h e c (n ∷ names) enclosing d = (item_has free q k (each (meanings ps) (named t n ∷ enclosing) d) e (parts_have ps k h c (named t n ∷ enclosing) d), items_have q t ps k h e c names enclosing d)

  over_has : (q : Quant) (to_one : Bool) (t : ℕ) (o : Option (List (List ℕ))) (ps : Parts) (k : Kind) → AreFormed ps → quant_can q to_one (typings ps) k ≡ true → (enclosing : List InstanceId) (d : ℕ) → Has free k (over q t o (meanings ps) enclosing d)
  over_has q to_one t None ps k h c enclosing d = refl
  over_has q to_one t (Some names) ps k h c enclosing d = quant_has free q to_one (typings ps) k _ c (λ e can. items_have q t ps k h e can names enclosing d)

  over_any_has : (q : Quant) (r : RelId) (ps : Parts) (k : Kind) → AreFormed ps → option_map_or (λ x. quant_can q x.one (typings ps) k) (relation_at m r) false ≡ true → (i : InstanceId) (enclosing : List InstanceId) (d : ℕ) → Has free k (over q (s.target r) (l.members r i) (meanings ps) enclosing d)
  over_any_has q r ps k h c i enclosing d = go (relation_at m r) c
    where
      go : (o : Option Relation) → option_map_or (λ (x : Relation). quant_can q x.one (typings ps) k) o false ≡ true → Has free k (over q (s.target r) (l.members r i) (meanings ps) enclosing d)
      go None c' = absurd (cc c')
      go (Some x) c' = over_has q x.one (s.target r) (l.members r i) ps k h c' enclosing d

  abbrev here : Part HasKinds → List InstanceId → ℕ → Value
  here p enclosing d = value_of s l p.0 enclosing d

  -- what a function over time makes of its days, whatever is looked at
  spanned_has : (given : Kind) (fold : List Value → Value) → ((vs : List Value) → Has free given (fold vs)) → (x : ℕ → Value) (v w : Value) → Has free given (in_window fold x v w)
  spanned_has given fold h x v w = in_window_has free given fold x v w (λ s t. h (over_days x s t))

  -- the part that is looked at on the days of a window with two dates
  spanned_part : (p q r : Part HasKinds) (k : Kind) → AreFormed (p ∷ q ∷ r ∷ []) → dated two_dates (typings (p ∷ q ∷ r ∷ [])) k ≡ true → (enclosing : List InstanceId) (d : ℕ) → Has free k (here r enclosing d)
  spanned_part p q r k h c enclosing d =
      let later = given_parts free (has_form p.0 false) _ h in
      let last = given_parts free (has_form q.0 false) _ later.1 in
      let own = given_parts free (has_form r.0 false) true last.1 in
      let can = and_parts (can_have m p.0 kind.Date) _ c in
      let can_last = and_parts (can_have m q.0 kind.Date) (can_have m r.0 k) can.1 in
      r.1 false own.0 k can_last.1 enclosing d

  best_spanned : (beaten : Value → Value → Bool) (p q r : Part HasKinds) (k : Kind) → AreFormed (p ∷ q ∷ r ∷ []) → (is_ordered k && dated two_dates (typings (p ∷ q ∷ r ∷ [])) k) ≡ true → (enclosing : List InstanceId) (d : ℕ) → Has free k (in_window (strict (best beaten)) (here r enclosing) (here p enclosing d) (here q enclosing d))
  best_spanned beaten p q r k h c enclosing d =
      let can = and_parts (is_ordered k) _ c in
      in_window_has free k (strict (best beaten)) (here r enclosing) (here p enclosing d) (here q enclosing d)
      (λ s t. open_has free k (over_days (here r enclosing) s t) _ (best_has free beaten k (over_days (here r enclosing) s t) (over_days_have free k (here r enclosing) (spanned_part p q r k h can.1 enclosing) s t)))

  value_at_has : (p q : Part HasKinds) (k : Kind) → AreFormed (p ∷ q ∷ []) → dated one_date (typings (p ∷ q ∷ [])) k ≡ true → (enclosing : List InstanceId) (d : ℕ) → Has free k (value_at (here q enclosing) (here p enclosing d))
  value_at_has p q k h c enclosing d =
      let last = given_parts free (has_form p.0 false) _ h in
      let own = given_parts free (has_form q.0 false) true last.1 in
      let can = and_parts (can_have m p.0 kind.Date) (can_have m q.0 k) c in
      at_date_has free k (here q enclosing) (here p enclosing d) (q.1 false own.0 k can.1 enclosing)

  window_has : (w : WinKind) (ps : Parts) (k : Kind) → AreFormed ps → window_can w (typings ps) k ≡ true → (enclosing : List InstanceId) (d : ℕ) → Has free k (window w (meanings ps) enclosing d)
  window_has win.Before (p ∷ []) k h c enclosing d = given_has free one_date kind.Bool (typings (p ∷ [])) k (before (here p enclosing d) d) c (at_date_has free kind.Bool (λ s. value.Bool (nat_lt d s)) (here p enclosing d) (λ _. refl))
  window_has win.OnOrAfter (p ∷ []) k h c enclosing d = given_has free one_date kind.Bool (typings (p ∷ [])) k (on_or_after (here p enclosing d) d) c (at_date_has free kind.Bool (λ s. value.Bool (nat_le s d)) (here p enclosing d) (λ _. refl))
  window_has win.YearsSince (p ∷ []) k h c enclosing d = given_has free one_date kind.Number (typings (p ∷ [])) k (years_since (here p enclosing d) d) c (at_date_has free kind.Number (λ s. years_value (years_between s d)) (here p enclosing d) (λ s. years_has free (years_between s d)))
  window_has win.ValueAt (p ∷ q ∷ []) k h c enclosing d = value_at_has p q k h c enclosing d
  window_has win.Always (p ∷ q ∷ r ∷ []) k h c enclosing d = given_has free (spanning kind.Bool) kind.Bool (typings (p ∷ q ∷ r ∷ [])) k _ c (spanned_has kind.Bool all_of (all_has free) (here r enclosing) (here p enclosing d) (here q enclosing d))
  window_has win.Sometimes (p ∷ q ∷ r ∷ []) k h c enclosing d = given_has free (spanning kind.Bool) kind.Bool (typings (p ∷ q ∷ r ∷ [])) k _ c (spanned_has kind.Bool any_of (any_has free) (here r enclosing) (here p enclosing d) (here q enclosing d))
  window_has win.DailySum (p ∷ q ∷ r ∷ []) k h c enclosing d = given_has free (spanning kind.Number) kind.Number (typings (p ∷ q ∷ r ∷ [])) k _ c (spanned_has kind.Number (strict sum_value) (sum_has free) (here r enclosing) (here p enclosing d) (here q enclosing d))
  window_has win.Maximum (p ∷ q ∷ r ∷ []) k h c enclosing d = best_spanned is_less p q r k h c enclosing d
  window_has win.Minimum (p ∷ q ∷ r ∷ []) k h c enclosing d = best_spanned is_more p q r k h c enclosing d
  window_has win.ConsecutiveDays (p ∷ q ∷ r ∷ []) k h c enclosing d = given_has free (spanning kind.Bool) kind.Number (typings (p ∷ q ∷ r ∷ [])) k _ c (spanned_has kind.Number (strict run_value) (run_has free) (here r enclosing) (here p enclosing d) (here q enclosing d))
  window_has _ _ k h c enclosing d = refl

  table_has : (rs : List (RowPart HasKinds)) (k : Kind) → (free || parts_have_form (map row_has_form (map (λ r. r.0) rs))) ≡ true → list_all (λ row. row k) (map (row_typing m) (map (λ r. r.0) rs)) ≡ true → (last : Meaning) (enclosing : List InstanceId) (d : ℕ) → Has free k (last enclosing d)
      → Has free k (table (map (row_value s l) (map (λ r. r.0) rs)) last enclosing d)
  table_has [] k h c last enclosing d own = own
  table_has (r ∷ rs) k h c last enclosing d own =
      let formed = given_parts free (row_has_form r.0 false) _ h in
      let own_formed = given_parts free (has_form r.0.cond false) (has_form r.0.value false) (ap (λ (f : Bool → Bool). free || f false) (sym (form-of_row r.0)) ∙ formed.0) in
      let can = and_parts (row_typing m r.0 k) _ c in
      let own_can = and_parts (can_have m r.0.cond kind.Bool) (can_have m r.0.value k) (sym (ap (λ (f : Kind → Bool). f k) (typing-of_row m r.0)) ∙ can.0) in
      let rest = table_has rs k formed.1 can.1 last enclosing d own in
      subst (λ (a : RowMeaning). Has free k (choose (a.cond enclosing d) (a.value enclosing d) (table (map (row_value s l) (map (λ r. r.0) rs)) last enclosing d))) (sym (row_value-is s l r.0))
      (choose_has free k (value_of s l r.0.cond enclosing d) (value_of s l r.0.value enclosing d) _ (r.1.1 false own_formed.1 k own_can.1 enclosing d) rest)

  abbrev level : Expr-F (Part HasKinds) (RowPart HasKinds) → Expr-F Meaning RowMeaning
  level z = map-Expr Expr Row Meaning RowMeaning (value_of s l) (row_value s l) (without HasKinds z)

  abbrev kind_level : Expr-F (Part HasKinds) (RowPart HasKinds) → Expr-F Typing (Kind → Bool)
  kind_level z = map-Expr Expr Row Typing (Kind → Bool) (typing m) (row_typing m) (without HasKinds z)

  abbrev form_level : Expr-F (Part HasKinds) (RowPart HasKinds) → Expr-F (Bool → Bool) (Bool → Bool)
  form_level z = map-Expr Expr Row (Bool → Bool) (Bool → Bool) has_form row_has_form (without HasKinds z)

  bool_has : (k : Kind) (b : Bool) (v : Value) → (is_kind kind.Bool k && b) ≡ true → Has free kind.Bool v → Has free k v
  bool_has k b v c h = alike free kind.Bool k v (and_parts (is_kind kind.Bool k) b c).0 h

  level_has : (z : Expr-F (Part HasKinds) (RowPart HasKinds)) → (top : Bool) → (free || form_step (form_level z) top) ≡ true → (k : Kind) → (kinds_step m (kind_level z)).can k ≡ true → (enclosing : List InstanceId) (d : ℕ) → Has free k (tree_step s l (level z) enclosing d)
  level_has (Const v) top h k c enclosing d = literal_has free v k h c
  level_has (Attr a) top h k c enclosing d = placed_has free k (place l.container enclosing (owner_of s a)) (λ i. l.value a i d) (λ i. attr_has a k c i d)
  level_has (All ps) top h k c enclosing d = bool_has k _ _ c (all_has free (each (meanings ps) enclosing d))
  level_has (Any ps) top h k c enclosing d = bool_has k _ _ c (any_has free (each (meanings ps) enclosing d))
  level_has (Not p) top h k c enclosing d = bool_has k _ _ c (not_has free (here p enclosing d))
  level_has (Op o ps) top h k c enclosing d = open_has free k (each (meanings ps) enclosing d) _ (op_has free o (typings ps) k (each (meanings ps) enclosing d) c (λ can. parts_have ps k (given_parts free (many ps == op_arity o) (formed ps) h).1 can enclosing d))
  level_has (Certain p) top h k c enclosing d = bool_has k _ _ c (certain_has free (here p enclosing d))
  level_has (Known p) top h k c enclosing d = bool_has k _ _ c (known_has free (here p enclosing d))
  level_has (Over q r ps) top h k c enclosing d = placed_has free k (place l.container enclosing (s.source r)) (λ i. over q (s.target r) (l.members r i) (meanings ps) enclosing d) (λ i. over_any_has q r ps k (given_parts free (many ps == quant_arity q) (formed ps) h).1 c i enclosing d)
  level_has (Window w ps) top h k c enclosing d = window_has w ps k (given_parts free (many ps == window_arity w) (formed ps) h).1 c enclosing d
  level_has (Rolling b n p) top h k c enclosing d = alike free kind.Bool k (rolling b n (here p enclosing) d) (rolled_kind n k (can_have m p.0 kind.Bool) c) (rolling_has free b n (here p enclosing) d)
  level_has (Table rs p) top h k c enclosing d =
      let outer = given_parts free (top && parts_have_form (map row_has_form (map (λ r. r.0) rs))) (has_form p.0 false) h in
      let inner = given_parts free top (parts_have_form (map row_has_form (map (λ r. r.0) rs))) outer.0 in
      let can = and_parts (list_all (λ row. row k) (map (row_typing m) (map (λ r. r.0) rs))) (can_have m p.0 k) c in
      table_has rs k inner.1 can.0 (value_of s l p.0) enclosing d (p.1 false outer.1 k can.1 enclosing d)

  -- The value of a tree has each kind that the tree can have.
  pub tree_has : (e : Expr) → HasKinds e
  tree_has = by_parts HasKinds (λ z top h k c enclosing d.
      subst (λ (v : Meaning). Has free k (v enclosing d)) (sym (value-roll s l (without HasKinds z)))
      (level_has z top (ap (λ (f : Bool → Bool). free || f top) (sym (form-roll (without HasKinds z))) ∙ h) k (sym (ap (λ (t : Typing). t.can k) (typing-roll m (without HasKinds z))) ∙ c) enclosing d))
