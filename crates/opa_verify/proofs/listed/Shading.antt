-- What is seen is a value and whether it is missing.
use Rattle.std.proofs.Common.{◌≡◌, ℕ, suc, ◌+◌, ◌-◌, List, [], ◌∷◌, Bool, true, false, cond, Option, None, Some, refl, sym, ◌∙◌, ap, length}
use Rattle.std.specs.Prelude.{map, nat_lt, nat_le, not, ◌&&◌, ◌||◌, pos}
use Rattle.std.specs.List.{list_any}
use Rattle.std.specs.Option.{option_map, option_and_then}
use Rattle.opa_date.specs.declared.TheConstants.{DAYS}
use Rattle.opa_value.specs.declared.value.Value.{Value}
use Rattle.opa_value.specs.declared.value.Value.TheVariants.{Unknown, Uncertain, Bool as Truth, Num, Words, Day}
use Rattle.opa_value.specs.Truth.{is_unknown, is_uncertain, is_true, is_false, all_of, any_of, not_of, strict, unless_open}
use Rattle.opa_case.specs.Live.{Names}
use Rattle.opa_case.specs.Shapes.{Shape}
use Rattle.opa_cells.specs.declared.instance.InstanceId.{InstanceId}
use Rattle.opa_cells.specs.Instances.{named}
use Rattle.opa_tree.specs.declared.kinds.Quant.{Quant}
use Rattle.opa_tree.specs.declared.kinds.Quant.TheVariants as quant
use Rattle.opa_tree.specs.declared.kinds.WinKind.{WinKind}
use Rattle.opa_tree.specs.declared.kinds.WinKind.TheVariants as win
use Rattle.opa_tree.specs.declared.expr.Expr.{Expr}
use Rattle.opa_tree.specs.declared.expr.Row.{Row}
use Rattle.opa_tree.specs.declared.expr.Expr.TheOpen.{Expr-F, Const, Attr, All, Any, Not, Op, Certain, Known, Over, Window, Rolling, Table}
use Rattle.opa_tree.specs.declared.expr.Expr.TheViews.{roll-Expr}
use Rattle.opa_tree.specs.declared.expr.Expr.TheFolds.{fold-Row, fold-roll-Expr, fold_out-Row, map-Expr}
use Rattle.opa_tree.proofs.Induction.{by_parts, Part, RowPart, without}
use Rattle.opa_window.specs.Days.{days, over_days}
use Rattle.opa_window.specs.Folds.{sum_value, greatest, least, run_value}
use Rattle.opa_window.specs.Windows.{before, on_or_after, years_since, value_at, in_window, interval_sometimes}
use Rattle.opa_mean.specs.Meaning.{certain_of, known_of, choose, quant_of, first_value, amount}
use Rattle.opa_mean.specs.Operations.{op_of}
use Rattle.opa_mean.specs.Places.{owner_of}
use Rattle.opa_verify.specs.Listed.Listings.{Listing}
use Rattle.opa_verify.specs.Listed.Seen.{Sight, RowSight, each_seen, gathered, is_seen, all_seen, any_seen, at_place_seen, chosen, item_seen, quant_seen, over_seen, on_date_seen, between_seen, span_seen, window_seen, rolling_seen, table_seen, seen_step, seen}
use Rattle.opa_verify.specs.declared.listed.shade.Shade.{Shade}
use Rattle.opa_verify.specs.Listed.Shades.{shown, there, gone, shade_of, mapped, values_of, is_gone, joined, counted_as, all_shade, any_shade, choice_shade, Shading, each_shade, at_place_shade, item_shade, quant_shade, over_shade, values_on, gaps_on, span_shade, date_shade, window_shade, rolling_shade, RowShading, table_shade, shade_step, shade_row, shade}
use Rattle.opa_verify.specs.Listed.Ways.{place_seen}
use Rattle.opa_verify.proofs.listed.Levels.{row_seen, seen-roll, row_seen-is}

map_shown : (f : Value → Value) (h : Shade) → option_map f (shown h) ≡ shown (mapped f h)
map_shown f h = go h.missing
  where
    go : (b : Bool) → option_map f (cond b None (Some h.value)) ≡ cond b None (Some (f h.value))
    go true = refl
    go false = refl

gathered_shown : (hs : List Shade) → gathered (map shown hs) ≡ cond (list_any is_gone hs) None (Some (values_of hs))
gathered_shown [] = refl
gathered_shown (h ∷ hs) = go h.missing (gathered_shown hs)
  where
    on : (b : Bool) → option_map (λ vs. h.value ∷ vs) (cond b None (Some (values_of hs))) ≡ cond b None (Some (h.value ∷ values_of hs))
    on true = refl
    on false = refl

    go : (b : Bool) → gathered (map shown hs) ≡ cond (list_any is_gone hs) None (Some (values_of hs)) → gathered (cond b None (Some h.value) ∷ map shown hs) ≡ cond (b || list_any is_gone hs) None (Some (h.value ∷ values_of hs))
    go true e = refl
    go false e = ap (option_map (λ vs. h.value ∷ vs)) e ∙ on (list_any is_gone hs)

joined_shown : (f : List Value → Value) (hs : List Shade) → option_map f (gathered (map shown hs)) ≡ shown (joined f hs)
joined_shown f hs = ap (option_map f) (gathered_shown hs) ∙ go (list_any is_gone hs)
  where
    go : (b : Bool) → option_map f (cond b None (Some (values_of hs))) ≡ cond b None (Some (f (values_of hs)))
    go true = refl
    go false = refl

-- a truth table that one value decides
module _ (p : Value → Bool) (a b n : Value) (neutral : p n ≡ false) (decides : p a ≡ true) (open_ : p Unknown ≡ false) (open' : p Uncertain ≡ false) (else_ : p b ≡ false) where
  abbrev counted : List Shade → List Value
  counted hs = map (counted_as n) hs

  abbrev decided : List Value → Value
  decided vs = cond (list_any p vs) a (unless_open vs b)

  counted_seen : (hs : List Shade) → list_any (is_seen p) (map shown hs) ≡ list_any p (counted hs)
  counted_seen [] = refl
  counted_seen (h ∷ hs) = ap (λ t. is_seen p (shown h) || t) (counted_seen hs) ∙ go h.missing
    where
      go : (m : Bool) → (is_seen p (cond m None (Some h.value)) || list_any p (counted hs)) ≡ (p (cond m n h.value) || list_any p (counted hs))
      go true = ap (λ t. t || list_any p (counted hs)) (sym neutral)
      go false = refl

  counted_whole : (hs : List Shade) → list_any is_gone hs ≡ false → counted hs ≡ values_of hs
  counted_whole [] e = refl
  counted_whole (h ∷ hs) e = go h.missing e (counted_whole hs)
    where
      go : (m : Bool) → (m || list_any is_gone hs) ≡ false → (list_any is_gone hs ≡ false → counted hs ≡ values_of hs) → cond m n h.value ∷ counted hs ≡ h.value ∷ values_of hs
      go true e rest = absurd (cc e)
      go false e rest = ap (λ vs. h.value ∷ vs) (rest e)

  decided_is : (vs : List Value) → p (decided vs) ≡ list_any p vs
  decided_is vs = go (list_any p vs)
    where
      on : (t u : Bool) → p (cond t Unknown (cond u Uncertain b)) ≡ false
      on true u = open_
      on false true = open'
      on false false = else_

      go : (t : Bool) → p (cond t a (unless_open vs b)) ≡ t
      go true = decides
      go false = on (list_any is_unknown vs) (list_any is_uncertain vs)

  decided_shown : (hs : List Shade) → cond (list_any (is_seen p) (map shown hs)) (Some a) (option_map decided (gathered (map shown hs)))
      ≡ cond (list_any is_gone hs && not (p (decided (counted hs)))) None (Some (decided (counted hs)))
  decided_shown hs =
      ap (λ t. cond t (Some a) (option_map decided (gathered (map shown hs)))) (counted_seen hs) ∙ ap (λ o. cond (list_any p (counted hs)) (Some a) (option_map decided o)) (gathered_shown hs)
      ∙ go (list_any p (counted hs)) refl (list_any is_gone hs) refl
      ∙ ap (λ t. cond (list_any is_gone hs && not t) None (Some (decided (counted hs)))) (sym (decided_is (counted hs)))
    where
      go : (t : Bool) → list_any p (counted hs) ≡ t → (m : Bool) → list_any is_gone hs ≡ m
          → cond t (Some a) (option_map decided (cond m None (Some (values_of hs)))) ≡ cond (m && not t) None (Some (decided (counted hs)))
      go true e true q = ap (λ t. Some (cond t a (unless_open (counted hs) b))) (sym e)
      go true e false q = ap (λ t. Some (cond t a (unless_open (counted hs) b))) (sym e)
      go false e true q = refl
      go false e false q = ap (λ vs. Some (decided vs)) (sym (counted_whole hs q))

pub all_shown : (hs : List Shade) → all_seen (map shown hs) ≡ shown (all_shade hs)
all_shown hs = decided_shown is_false (Truth false) (Truth true) (Truth true) refl refl refl refl refl hs

any_shown : (hs : List Shade) → any_seen (map shown hs) ≡ shown (any_shade hs)
any_shown hs = decided_shown is_true (Truth true) (Truth false) (Truth false) refl refl refl refl refl hs

pub any_is : (vs : List Value) → is_true (any_of vs) ≡ list_any is_true vs
any_is vs = decided_is is_true (Truth true) (Truth false) (Truth false) refl refl refl refl refl vs

-- what a condition takes
choice_shown : (c h r : Shade) → chosen (shown c) (shown h) (shown r) ≡ shown (choice_shade c h r)
choice_shown c h r = go c.missing c.value
  where
    taken : (m : Bool) → cond m None (Some h.value) ≡ cond (m || false) None (Some h.value)
    taken true = refl
    taken false = refl

    go : (m : Bool) (v : Value) → chosen (cond m None (Some v)) (shown h) (shown r) ≡ cond (m || (is_true v && h.missing) || (is_false v && r.missing)) None (Some (choose v h.value r.value))
    go true v = refl
    go false (Truth true) = taken h.missing
    go false (Truth false) = refl
    go false Unknown = refl
    go false Uncertain = refl
    go false (Num n) = refl
    go false (Words t) = refl
    go false (Day d) = refl

lengths : (hs : List Shade) → length (map shown hs) ≡ length hs
lengths [] = refl
lengths (h ∷ hs) = ap suc (lengths hs)

quant_shown : (q : Quant) (hs : List Shade) → quant_seen q (map shown hs) ≡ shown (quant_shade q hs)
quant_shown quant.ForAll hs = all_shown hs
quant_shown quant.Exists hs = any_shown hs
quant_shown quant.Count hs = ap (λ n. Some (amount n)) (lengths hs)
quant_shown quant.For hs = ap (λ n. cond (nat_le 2 n) None (option_map first_value (gathered (map shown hs)))) (lengths hs) ∙ go (nat_le 2 (length hs))
  where
    go : (b : Bool) → cond b None (option_map first_value (gathered (map shown hs))) ≡ shown (cond b gone (joined first_value hs))
    go true = refl
    go false = joined_shown first_value hs
quant_shown quant.CountIf hs = joined_shown (quant_of quant.CountIf) hs
quant_shown quant.Sum hs = joined_shown (quant_of quant.Sum) hs
quant_shown quant.SumIf hs = joined_shown (quant_of quant.SumIf) hs
quant_shown quant.Maximum hs = joined_shown (quant_of quant.Maximum) hs
quant_shown quant.Minimum hs = joined_shown (quant_of quant.Minimum) hs

-- functions over time
module _ (x : ℕ → Shade) where
  gaps_are : (ds : List ℕ) → list_any is_true (map (gaps_on x) ds) ≡ list_any is_gone (map x ds)
  gaps_are [] = refl
  gaps_are (d ∷ ds) = ap (λ t. (x d).missing || t) (gaps_are ds)

  values_are : (ds : List ℕ) → values_of (map x ds) ≡ map (values_on x) ds
  values_are [] = refl
  values_are (d ∷ ds) = ap (λ vs. (x d).value ∷ vs) (values_are ds)

  shown_are : (ds : List ℕ) → map (λ d. shown (x d)) ds ≡ map shown (map x ds)
  shown_are [] = refl
  shown_are (d ∷ ds) = ap (λ os. shown (x d) ∷ os) (shown_are ds)

  days_shown : (fold : List Value → Value) (ds : List ℕ) → option_map fold (gathered (map (λ d. shown (x d)) ds)) ≡ cond (is_true (any_of (map (gaps_on x) ds))) None (Some (fold (map (values_on x) ds)))
  days_shown fold ds =
      ap (λ os. option_map fold (gathered os)) (shown_are ds) ∙ joined_shown fold (map x ds)
      ∙ ap (λ t. cond t None (Some (fold (values_of (map x ds))))) (sym (any_is (map (gaps_on x) ds) ∙ gaps_are ds))
      ∙ ap (λ vs. cond (is_true (any_of (map (gaps_on x) ds))) None (Some (fold vs))) (values_are ds)

  never_true : (t u : Bool) → is_true (cond t Unknown (cond u Uncertain Uncertain)) ≡ false
  never_true true u = refl
  never_true false true = refl
  never_true false false = refl

  between_shown : (fold : List Value → Value) (v w : Value) → between_seen fold (λ d. shown (x d)) v w ≡ cond (is_true (interval_sometimes (gaps_on x) v w)) None (Some (in_window fold (values_on x) v w))
  between_shown fold (Day s) (Day t) = go (nat_lt s DAYS && nat_lt t DAYS)
    where
      go : (b : Bool) → cond b (option_map fold (gathered (over_days (λ d. shown (x d)) s t))) (Some Uncertain)
          ≡ cond (is_true (cond b (any_of (over_days (gaps_on x) s t)) Uncertain)) None (Some (cond b (fold (over_days (values_on x) s t)) Uncertain))
      go true = days_shown fold (days s (t - s))
      go false = refl
  between_shown fold v w = ap (λ t. cond t None (Some (unless_open (v ∷ w ∷ []) Uncertain))) (sym (never_true (list_any is_unknown (v ∷ w ∷ [])) (list_any is_uncertain (v ∷ w ∷ []))))

  span_shown : (fold : List Value → Value) (start end : Shade) → span_seen fold (λ d. shown (x d)) (shown start) (shown end) ≡ shown (span_shade fold x start end)
  span_shown fold start end = go start.missing end.missing
    where
      go : (m n : Bool) → span_seen fold (λ d. shown (x d)) (cond m None (Some start.value)) (cond n None (Some end.value))
          ≡ cond (m || n || is_true (interval_sometimes (gaps_on x) start.value end.value)) None (Some (in_window fold (values_on x) start.value end.value))
      go true n = refl
      go false true = refl
      go false false = between_shown fold start.value end.value

  date_shown : (date : Shade) → option_and_then (on_date_seen (λ d. shown (x d))) (shown date) ≡ shown (date_shade x date)
  date_shown date = go date.missing date.value
    where
      at : (b : Bool) (s : ℕ) → cond b (shown (x s)) (Some Uncertain) ≡ cond (is_true (cond b (gaps_on x s) Uncertain)) None (Some (cond b (values_on x s) Uncertain))
      at true s = refl
      at false s = refl

      go : (m : Bool) (v : Value) → option_and_then (on_date_seen (λ d. shown (x d))) (cond m None (Some v)) ≡ cond (m || is_true (value_at (gaps_on x) v)) None (Some (value_at (values_on x) v))
      go true v = refl
      go false (Day s) = at (nat_lt s DAYS) s
      go false Unknown = refl
      go false Uncertain = refl
      go false (Truth b) = refl
      go false (Num n) = refl
      go false (Words t) = refl

  rolling_shown : (b : Bool) (n d : ℕ) → rolling_seen b n (λ d. shown (x d)) d ≡ shown (rolling_shade b n x d)
  rolling_shown true n d = days_shown all_of (days (d + 1 - n) (d + 1 - (d + 1 - n)))
  rolling_shown false n d = days_shown any_of (days (d + 1 - n) (d + 1 - (d + 1 - n)))

unfoldable pub row_shade : Shape → Listing → Row → RowShading
row_shade s k = fold-Row Shading RowShading (shade_step s k) shade_row

pub shade-roll : (s : Shape) (k : Listing) (x : Expr-F Expr Row) → shade s k (roll-Expr x) ≡ shade_step s k (map-Expr Expr Row Shading RowShading (shade s k) (row_shade s k) x)
unfolding shade row_shade
shade-roll s k = fold-roll-Expr Shading RowShading (shade_step s k) shade_row

pub row_shade-is : (s : Shape) (k : Listing) (r : Row) → row_shade s k r ≡ record { cond = shade s k r.cond; value = shade s k r.value }
unfolding shade row_shade
row_shade-is s k r = fold_out-Row Shading RowShading (shade_step s k) shade_row r

module _ (s : Shape) (k : Listing) where
  abbrev Shaded : Expr → Type 0
  Shaded e = (enclosing : List InstanceId) (d : ℕ) → seen s k e enclosing d ≡ shown (shade s k e enclosing d)

  abbrev Parts : Type 0
  Parts = List (Part Shaded)

  abbrev sights : Parts → List Sight
  sights ps = map (seen s k) (map (λ p. p.0) ps)

  abbrev shades : Parts → List Shading
  shades ps = map (shade s k) (map (λ p. p.0) ps)

  each_shaded : (ps : Parts) (enclosing : List InstanceId) (d : ℕ) → each_seen (sights ps) enclosing d ≡ map shown (each_shade (shades ps) enclosing d)
  each_shaded [] enclosing d = refl
  each_shaded (p ∷ ps) enclosing d = ap (λ o. o ∷ each_seen (sights ps) enclosing d) (p.1 enclosing d) ∙ ap (λ os. shown (shade s k p.0 enclosing d) ∷ os) (each_shaded ps enclosing d)

  value_shaded : (o : Option Value) → o ≡ shown (shade_of o)
  value_shaded None = refl
  value_shaded (Some v) = refl

  place_shaded : (o : Option (Option InstanceId)) (f : InstanceId → Option Value) (g : InstanceId → Shade) → ((i : InstanceId) → f i ≡ shown (g i)) → at_place_seen o f ≡ shown (at_place_shade o g)
  place_shaded None f g h = refl
  place_shaded (Some None) f g h = refl
  place_shaded (Some (Some i)) f g h = h i

  item_shaded : (q : Quant) (ps : Parts) (enclosing : List InstanceId) (d : ℕ) → item_seen q (each_seen (sights ps) enclosing d) ≡ shown (item_shade q (each_shade (shades ps) enclosing d))
  item_shaded quant.SumIf (p ∷ r ∷ []) enclosing d =
      ap (λ o. chosen o (seen s k p.0 enclosing d) (Some (Num (pos 0)))) (r.1 enclosing d) ∙ ap (λ o. chosen (shown (shade s k r.0 enclosing d)) o (Some (Num (pos 0)))) (p.1 enclosing d)
      ∙ choice_shown (shade s k r.0 enclosing d) (shade s k p.0 enclosing d) (there (Num (pos 0)))
  item_shaded q (p ∷ []) enclosing d = p.1 enclosing d
  item_shaded q _ enclosing d = refl

  items_shaded : (q : Quant) (t : ℕ) (ps : Parts) (names : Names) (enclosing : List InstanceId) (d : ℕ)
      → map (λ n. item_seen q (each_seen (sights ps) (named t n ∷ enclosing) d)) names ≡ map shown (map (λ n. item_shade q (each_shade (shades ps) (named t n ∷ enclosing) d)) names)
  items_shaded q t ps [] enclosing d = refl
  items_shaded q t ps (n ∷ names) enclosing d =
      ap (λ o. o ∷ map (λ n. item_seen q (each_seen (sights ps) (named t n ∷ enclosing) d)) names) (item_shaded q ps (named t n ∷ enclosing) d)
      ∙ ap (λ os. shown (item_shade q (each_shade (shades ps) (named t n ∷ enclosing) d)) ∷ os) (items_shaded q t ps names enclosing d)

  over_shaded : (q : Quant) (t : ℕ) (o : Option (Option Names)) (ps : Parts) (enclosing : List InstanceId) (d : ℕ) → over_seen q t o (sights ps) enclosing d ≡ shown (over_shade q t o (shades ps) enclosing d)
  over_shaded q t None ps enclosing d = refl
  over_shaded q t (Some None) ps enclosing d = refl
  over_shaded q t (Some (Some names)) ps enclosing d = ap (quant_seen q) (items_shaded q t ps names enclosing d) ∙ quant_shown q (map (λ n. item_shade q (each_shade (shades ps) (named t n ∷ enclosing) d)) names)

  spanned : (fold : List Value → Value) (p q r : Part Shaded) (enclosing : List InstanceId) (d : ℕ)
      → span_seen fold (seen s k r.0 enclosing) (seen s k p.0 enclosing d) (seen s k q.0 enclosing d) ≡ shown (span_shade fold (shade s k r.0 enclosing) (shade s k p.0 enclosing d) (shade s k q.0 enclosing d))
  spanned fold p q r enclosing d =
      ap (λ (x : ℕ → Option Value). span_seen fold x (seen s k p.0 enclosing d) (seen s k q.0 enclosing d)) (λ i e. r.1 enclosing e i)
      ∙ ap (λ o. span_seen fold (λ e. shown (shade s k r.0 enclosing e)) o (seen s k q.0 enclosing d)) (p.1 enclosing d)
      ∙ ap (λ o. span_seen fold (λ e. shown (shade s k r.0 enclosing e)) (shown (shade s k p.0 enclosing d)) o) (q.1 enclosing d)
      ∙ span_shown (shade s k r.0 enclosing) fold (shade s k p.0 enclosing d) (shade s k q.0 enclosing d)

  window_shaded : (q : WinKind) (ps : Parts) (enclosing : List InstanceId) (d : ℕ) → window_seen q (sights ps) enclosing d ≡ shown (window_shade q (shades ps) enclosing d)
  window_shaded win.Before (p ∷ []) enclosing d = ap (option_map (λ v. before v d)) (p.1 enclosing d) ∙ map_shown (λ v. before v d) (shade s k p.0 enclosing d)
  window_shaded win.OnOrAfter (p ∷ []) enclosing d = ap (option_map (λ v. on_or_after v d)) (p.1 enclosing d) ∙ map_shown (λ v. on_or_after v d) (shade s k p.0 enclosing d)
  window_shaded win.YearsSince (p ∷ []) enclosing d = ap (option_map (λ v. years_since v d)) (p.1 enclosing d) ∙ map_shown (λ v. years_since v d) (shade s k p.0 enclosing d)
  window_shaded win.ValueAt (p ∷ x ∷ []) enclosing d =
      ap (λ (f : ℕ → Option Value). option_and_then (on_date_seen f) (seen s k p.0 enclosing d)) (λ i e. x.1 enclosing e i)
      ∙ ap (option_and_then (on_date_seen (λ e. shown (shade s k x.0 enclosing e)))) (p.1 enclosing d) ∙ date_shown (shade s k x.0 enclosing) (shade s k p.0 enclosing d)
  window_shaded win.Always (p ∷ q ∷ r ∷ []) enclosing d = spanned all_of p q r enclosing d
  window_shaded win.Sometimes (p ∷ q ∷ r ∷ []) enclosing d = spanned any_of p q r enclosing d
  window_shaded win.DailySum (p ∷ q ∷ r ∷ []) enclosing d = spanned (strict sum_value) p q r enclosing d
  window_shaded win.Maximum (p ∷ q ∷ r ∷ []) enclosing d = spanned (strict greatest) p q r enclosing d
  window_shaded win.Minimum (p ∷ q ∷ r ∷ []) enclosing d = spanned (strict least) p q r enclosing d
  window_shaded win.ConsecutiveDays (p ∷ q ∷ r ∷ []) enclosing d = spanned (strict run_value) p q r enclosing d
  window_shaded _ _ enclosing d = refl

  table_shaded : (rs : List (RowPart Shaded)) (p : Part Shaded) (enclosing : List InstanceId) (d : ℕ)
      → table_seen (map (row_seen s k) (map (λ r. r.0) rs)) (seen s k p.0) enclosing d ≡ shown (table_shade (map (row_shade s k) (map (λ r. r.0) rs)) (shade s k p.0) enclosing d)
  table_shaded [] p enclosing d = p.1 enclosing d
  table_shaded (r ∷ rs) p enclosing d =
      let below = table_seen (map (row_seen s k) (map (λ r. r.0) rs)) (seen s k p.0) enclosing d in
      let under = table_shade (map (row_shade s k) (map (λ r. r.0) rs)) (shade s k p.0) enclosing d in
      ap (λ (a : RowSight). chosen (a.cond enclosing d) (a.value enclosing d) below) (row_seen-is s k r.0)
      ∙ ap (λ o. chosen o (seen s k r.0.value enclosing d) below) (r.1.0 enclosing d) ∙ ap (λ o. chosen (shown (shade s k r.0.cond enclosing d)) o below) (r.1.1 enclosing d)
      ∙ ap (λ o. chosen (shown (shade s k r.0.cond enclosing d)) (shown (shade s k r.0.value enclosing d)) o) (table_shaded rs p enclosing d)
      ∙ choice_shown (shade s k r.0.cond enclosing d) (shade s k r.0.value enclosing d) under
      ∙ sym (ap (λ (a : RowShading). shown (choice_shade (a.cond enclosing d) (a.value enclosing d) under)) (row_shade-is s k r.0))

  abbrev sight : Expr-F (Part Shaded) (RowPart Shaded) → Expr-F Sight RowSight
  sight z = map-Expr Expr Row Sight RowSight (seen s k) (row_seen s k) (without Shaded z)

  abbrev shading : Expr-F (Part Shaded) (RowPart Shaded) → Expr-F Shading RowShading
  shading z = map-Expr Expr Row Shading RowShading (shade s k) (row_shade s k) (without Shaded z)

  level_shaded : (z : Expr-F (Part Shaded) (RowPart Shaded)) (enclosing : List InstanceId) (d : ℕ) → seen_step s k (sight z) enclosing d ≡ shown (shade_step s k (shading z) enclosing d)
  level_shaded (Const v) enclosing d = refl
  level_shaded (Attr a) enclosing d = place_shaded (place_seen k.container enclosing (owner_of s a)) (λ i. k.value a i d) (λ i. shade_of (k.value a i d)) (λ i. value_shaded (k.value a i d))
  level_shaded (All ps) enclosing d = ap all_seen (each_shaded ps enclosing d) ∙ all_shown (each_shade (shades ps) enclosing d)
  level_shaded (Any ps) enclosing d = ap any_seen (each_shaded ps enclosing d) ∙ any_shown (each_shade (shades ps) enclosing d)
  level_shaded (Not p) enclosing d = ap (option_map not_of) (p.1 enclosing d) ∙ map_shown not_of (shade s k p.0 enclosing d)
  level_shaded (Op o ps) enclosing d = ap (λ os. option_map (strict (op_of o)) (gathered os)) (each_shaded ps enclosing d) ∙ joined_shown (strict (op_of o)) (each_shade (shades ps) enclosing d)
  level_shaded (Certain p) enclosing d = ap (option_map certain_of) (p.1 enclosing d) ∙ map_shown certain_of (shade s k p.0 enclosing d)
  level_shaded (Known p) enclosing d = ap (option_map known_of) (p.1 enclosing d) ∙ map_shown known_of (shade s k p.0 enclosing d)
  level_shaded (Over q r ps) enclosing d = place_shaded (place_seen k.container enclosing (s.source r)) (λ i. over_seen q (s.target r) (k.members r i) (sights ps) enclosing d) (λ i. over_shade q (s.target r) (k.members r i) (shades ps) enclosing d) (λ i. over_shaded q (s.target r) (k.members r i) ps enclosing d)
  level_shaded (Window q ps) enclosing d = window_shaded q ps enclosing d
  level_shaded (Rolling b n p) enclosing d = ap (λ (x : ℕ → Option Value). rolling_seen b n x d) (λ i e. p.1 enclosing e i) ∙ rolling_shown (shade s k p.0 enclosing) b n d
  level_shaded (Table rs p) enclosing d = table_shaded rs p enclosing d

  pub shaded : (e : Expr) → Shaded e
  shaded = by_parts Shaded (λ z enclosing d.
      ap (λ m. m enclosing d) (seen-roll s k (without Shaded z)) ∙ level_shaded z enclosing d ∙ sym (ap (λ m. shown (m enclosing d)) (shade-roll s k (without Shaded z))))
