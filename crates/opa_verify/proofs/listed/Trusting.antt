-- A value that is seen is the value over every look that has what is listed.
use Rattle.std.proofs.Common.{◌≡◌, ℕ, zero, suc, List, [], ◌∷◌, ◌++◌, Bool, true, false, cond, Option, None, Some, refl, sym, ◌∙◌, ap, subst}
use Rattle.std.specs.Prelude.{map, find, flat_map, pos}
use Rattle.std.specs.Option.{option_map_or}
use Rattle.opa_value.specs.declared.value.Value.{Value}
use Rattle.opa_value.specs.declared.value.Value.TheVariants.{Unknown, Uncertain, Num}
use Rattle.opa_value.specs.Truth.{all_of, any_of, not_of, strict}
use Rattle.opa_model.specs.declared.ids.AttrId.{AttrId}
use Rattle.opa_model.specs.declared.ids.RelId.{RelId}
use Rattle.opa_case.specs.Live.{Names}
use Rattle.opa_case.specs.Shapes.{Shape}
use Rattle.opa_cells.specs.declared.instance.InstanceId.{InstanceId}
use Rattle.opa_cells.specs.Instances.{global, named, is_same}
use Rattle.opa_cells.proofs.Orders.{same_is}
use Rattle.opa_tree.specs.declared.kinds.Quant.{Quant}
use Rattle.opa_tree.specs.declared.kinds.Quant.TheVariants as quant
use Rattle.opa_tree.specs.declared.kinds.WinKind.{WinKind}
use Rattle.opa_tree.specs.declared.kinds.WinKind.TheVariants as win
use Rattle.opa_tree.specs.declared.expr.Expr.{Expr}
use Rattle.opa_tree.specs.declared.expr.Row.{Row}
use Rattle.opa_tree.specs.declared.expr.Expr.TheOpen.{Expr-F, Const, Attr, All, Any, Not, Op, Certain, Known, Over, Window, Rolling, Table}
use Rattle.opa_tree.specs.declared.expr.Expr.TheViews.{roll-Expr}
use Rattle.opa_tree.specs.declared.expr.Expr.TheFolds.{map-Expr}
use Rattle.opa_tree.proofs.Induction.{by_parts, Part, RowPart, without}
use Rattle.opa_window.specs.Folds.{sum_value, greatest, least, run_value}
use Rattle.opa_window.specs.Windows.{before, on_or_after, years_since}
use Rattle.opa_mean.specs.Looks.{Look}
use Rattle.opa_mean.specs.Meaning.{Meaning, RowMeaning, tree_step, value, each, at_place, certain_of, known_of, item, over, window, table}
use Rattle.opa_mean.specs.Operations.{op_of}
use Rattle.opa_mean.specs.Places.{owner_of, place, climb, chain, is_of}
use Rattle.opa_mean.proofs.Levels.{row_value, value-roll, row_value-is}
use Rattle.opa_verify.specs.Listed.Listings.{Listing}
use Rattle.opa_verify.specs.Listed.Seen.{Sight, RowSight, each_seen, at_place_seen, item_seen, over_seen, window_seen, table_seen, seen_step, seen}
use Rattle.opa_verify.specs.Listed.Ways.{Way, Met, Passed, Missing, onward, walk_up, met_or, place_seen}
use Rattle.opa_verify.proofs.listed.Levels.{row_seen, seen-roll, row_seen-is}
use Rattle.opa_verify.proofs.listed.Saying.{Says, AllSay, says_some, map_says, gathered_say, map_say, all_say, any_say, chosen_says, quant_says, date_says, span_says, rolling_says}

-- a look has what is listed
pub record Has (l : Look) (k : Listing) : Type 0 where
  pub values : (a : AttrId) (i : InstanceId) (d : ℕ) → Says (k.value a i d) (l.value a i d)
  pub lists : (r : RelId) (i : InstanceId) → Says (k.members r i) (l.members r i)
  pub containers : (i j : InstanceId) → k.container i ≡ Some j → l.container i ≡ Some j
  pub uncontained : l.container global ≡ None

-- where a walk led, in what it goes through
abbrev pub Leads : Way → ℕ → List InstanceId → Type 0
Leads (Met i) e chained = (rest : List InstanceId) → find (is_of e) (chained ++ rest) ≡ Some i
Leads Passed e chained = (rest : List InstanceId) → find (is_of e) (chained ++ rest) ≡ find (is_of e) rest
Leads Missing e chained = Unit {0}

module _ (s : Shape) (l : Look) (k : Listing) (has : Has l k) where
  walk_leads : (e n : ℕ) (i : InstanceId) → Leads (walk_up k.container e n i) e (climb l.container n i)
  walk_leads e zero i = go (is_of e i) refl
    where
      go : (b : Bool) → is_of e i ≡ b → Leads (cond b (Met i) Passed) e (i ∷ [])
      go true q = λ rest. ap (λ b. cond b (Some i) (find (is_of e) rest)) q
      go false q = λ rest. ap (λ b. cond b (Some i) (find (is_of e) rest)) q
  walk_leads e (suc n) i = go (is_of e i) refl (k.container i) refl (λ j. walk_leads e n j)
    where
      on : (w : Way) (chained : List InstanceId) → is_of e i ≡ false → Leads w e chained → Leads w e (i ∷ chained)
      on (Met j) chained q h = λ rest. ap (λ b. cond b (Some i) (find (is_of e) (chained ++ rest))) q ∙ h rest
      on Passed chained q h = λ rest. ap (λ b. cond b (Some i) (find (is_of e) (chained ++ rest))) q ∙ h rest
      on Missing chained q h = tt

      stop : (b : Bool) → is_same i global ≡ b → is_of e i ≡ false → Leads (cond b Passed Missing) e (i ∷ option_map_or (climb l.container n) (l.container i) [])
      stop false g q = tt
      stop true g q = λ rest.
          ap (λ o. find (is_of e) ((i ∷ option_map_or (climb l.container n) o []) ++ rest)) (ap l.container (same_is i global g) ∙ has.uncontained)
          ∙ ap (λ b. cond b (Some i) (find (is_of e) rest)) q

      go : (b : Bool) → is_of e i ≡ b → (o : Option InstanceId) → k.container i ≡ o → ((j : InstanceId) → Leads (walk_up k.container e n j) e (climb l.container n j))
          → Leads (cond b (Met i) (onward i o (walk_up k.container e n))) e (i ∷ option_map_or (climb l.container n) (l.container i) [])
      go true q o up rec = λ rest. ap (λ b. cond b (Some i) (find (is_of e) (option_map_or (climb l.container n) (l.container i) [] ++ rest))) q
      go false q None up rec = stop (is_same i global) refl q
      go false q (Some j) up rec = subst (λ (o : Option InstanceId). Leads (walk_up k.container e n j) e (i ∷ option_map_or (climb l.container n) o [])) (sym (has.containers i j up)) (on (walk_up k.container e n j) (climb l.container n j) q (rec j))

  place_says : (enclosing : List InstanceId) (e : ℕ) → Says (place_seen k.container enclosing e) (place l.container enclosing e)
  place_says [] e w is = cc is
  place_says (i ∷ enclosing) e w is = go (walk_up k.container e i.entity.0 i) (walk_leads e i.entity.0 i) (place_says enclosing e) w is
    where
      go : (y : Way) → Leads y e (chain l.container i) → Says (place_seen k.container enclosing e) (place l.container enclosing e)
          → Says (met_or y (place_seen k.container enclosing e)) (find (is_of e) (chain l.container i ++ flat_map (chain l.container) enclosing))
      go (Met j) h rest w is = let one : Some j ≡ w = cc is in h (flat_map (chain l.container) enclosing) ∙ one
      go Passed h rest w is = h (flat_map (chain l.container) enclosing) ∙ rest w is
      go Missing h rest w is = absurd (cc is)

  at_place_says : (o : Option (Option InstanceId)) (p : Option InstanceId) → Says o p → (f : InstanceId → Option Value) (g : InstanceId → Value) → ((i : InstanceId) → Says (f i) (g i)) → Says (at_place_seen o f) (at_place p g)
  at_place_says None p h f g hf w e = absurd (cc e)
  at_place_says (Some None) p h f g hf w e = let one : Uncertain ≡ w = cc e in ap (λ q. at_place q g) (h None refl) ∙ one
  at_place_says (Some (Some i)) p h f g hf w e = ap (λ q. at_place q g) (h (Some i) refl) ∙ hf i w e

  abbrev Trusted : Expr → Type 0
  Trusted e = (enclosing : List InstanceId) (d : ℕ) → Says (seen s k e enclosing d) (value s l e enclosing d)

  abbrev Parts : Type 0
  Parts = List (Part Trusted)

  abbrev sights : Parts → List Sight
  sights ps = map (seen s k) (map (λ p. p.0) ps)

  abbrev means : Parts → List Meaning
  means ps = map (value s l) (map (λ p. p.0) ps)

  each_say : (ps : Parts) (enclosing : List InstanceId) (d : ℕ) → AllSay (each_seen (sights ps) enclosing d) (each (means ps) enclosing d)
  each_say [] enclosing d = tt
  each_say (p ∷ ps) enclosing d = (p.1 enclosing d, each_say ps enclosing d)

  item_says : (q : Quant) (ps : Parts) (enclosing : List InstanceId) (d : ℕ) → Says (item_seen q (each_seen (sights ps) enclosing d)) (item q (each (means ps) enclosing d))
  item_says quant.SumIf (p ∷ r ∷ []) enclosing d = chosen_says _ _ _ _ _ _ (r.1 enclosing d) (p.1 enclosing d) (says_some (Num (pos 0)))
  item_says q (p ∷ []) enclosing d = p.1 enclosing d
  item_says q _ enclosing d = λ w e. cc e

  over_says : (q : Quant) (t : ℕ) (o : Option (Option Names)) (m : Option Names) → Says o m → (ps : Parts) (enclosing : List InstanceId) (d : ℕ) → Says (over_seen q t o (sights ps) enclosing d) (over q t m (means ps) enclosing d)
  over_says q t None m h ps enclosing d w e = absurd (cc e)
  over_says q t (Some None) m h ps enclosing d w e = let one : Unknown ≡ w = cc e in ap (λ o. over q t o (means ps) enclosing d) (h None refl) ∙ one
  over_says q t (Some (Some names)) m h ps enclosing d w e =
      ap (λ o. over q t o (means ps) enclosing d) (h (Some names) refl)
      ∙ quant_says q _ _ (map_say (λ n. item_seen q (each_seen (sights ps) (named t n ∷ enclosing) d)) (λ n. item q (each (means ps) (named t n ∷ enclosing) d)) (λ n. item_says q ps (named t n ∷ enclosing) d) names) w e

  window_says : (q : WinKind) (ps : Parts) (enclosing : List InstanceId) (d : ℕ) → Says (window_seen q (sights ps) enclosing d) (window q (means ps) enclosing d)
  window_says win.Before (p ∷ []) enclosing d = map_says (λ v. before v d) _ _ (p.1 enclosing d)
  window_says win.OnOrAfter (p ∷ []) enclosing d = map_says (λ v. on_or_after v d) _ _ (p.1 enclosing d)
  window_says win.YearsSince (p ∷ []) enclosing d = map_says (λ v. years_since v d) _ _ (p.1 enclosing d)
  window_says win.ValueAt (p ∷ x ∷ []) enclosing d = date_says _ _ (x.1 enclosing) _ _ (p.1 enclosing d)
  window_says win.Always (p ∷ q ∷ x ∷ []) enclosing d = span_says _ _ (x.1 enclosing) all_of _ _ _ _ (p.1 enclosing d) (q.1 enclosing d)
  window_says win.Sometimes (p ∷ q ∷ x ∷ []) enclosing d = span_says _ _ (x.1 enclosing) any_of _ _ _ _ (p.1 enclosing d) (q.1 enclosing d)
  window_says win.DailySum (p ∷ q ∷ x ∷ []) enclosing d = span_says _ _ (x.1 enclosing) (strict sum_value) _ _ _ _ (p.1 enclosing d) (q.1 enclosing d)
  window_says win.Maximum (p ∷ q ∷ x ∷ []) enclosing d = span_says _ _ (x.1 enclosing) (strict greatest) _ _ _ _ (p.1 enclosing d) (q.1 enclosing d)
  window_says win.Minimum (p ∷ q ∷ x ∷ []) enclosing d = span_says _ _ (x.1 enclosing) (strict least) _ _ _ _ (p.1 enclosing d) (q.1 enclosing d)
  window_says win.ConsecutiveDays (p ∷ q ∷ x ∷ []) enclosing d = span_says _ _ (x.1 enclosing) (strict run_value) _ _ _ _ (p.1 enclosing d) (q.1 enclosing d)
  window_says _ _ enclosing d = λ w e. cc e

  table_says : (rs : List (RowPart Trusted)) (p : Part Trusted) (enclosing : List InstanceId) (d : ℕ)
      → Says (table_seen (map (row_seen s k) (map (λ r. r.0) rs)) (seen s k p.0) enclosing d) (table (map (row_value s l) (map (λ r. r.0) rs)) (value s l p.0) enclosing d)
  table_says [] p enclosing d = p.1 enclosing d
  table_says (r ∷ rs) p enclosing d = chosen_says _ _ _ _ _ _
      (subst (λ (x : RowSight). Says (x.cond enclosing d) ((row_value s l r.0).cond enclosing d)) (sym (row_seen-is s k r.0)) (subst (λ (y : RowMeaning). Says (seen s k r.0.cond enclosing d) (y.cond enclosing d)) (sym (row_value-is s l r.0)) (r.1.0 enclosing d)))
      (subst (λ (x : RowSight). Says (x.value enclosing d) ((row_value s l r.0).value enclosing d)) (sym (row_seen-is s k r.0)) (subst (λ (y : RowMeaning). Says (seen s k r.0.value enclosing d) (y.value enclosing d)) (sym (row_value-is s l r.0)) (r.1.1 enclosing d)))
      (table_says rs p enclosing d)

  abbrev sight : Expr-F (Part Trusted) (RowPart Trusted) → Expr-F Sight RowSight
  sight z = map-Expr Expr Row Sight RowSight (seen s k) (row_seen s k) (without Trusted z)

  abbrev meaning : Expr-F (Part Trusted) (RowPart Trusted) → Expr-F Meaning RowMeaning
  meaning z = map-Expr Expr Row Meaning RowMeaning (value s l) (row_value s l) (without Trusted z)

  level_says : (z : Expr-F (Part Trusted) (RowPart Trusted)) (enclosing : List InstanceId) (d : ℕ) → Says (seen_step s k (sight z) enclosing d) (tree_step s l (meaning z) enclosing d)
  level_says (Const v) enclosing d = says_some v
  level_says (Attr a) enclosing d = at_place_says _ _ (place_says enclosing (owner_of s a)) (λ i. k.value a i d) (λ i. l.value a i d) (λ i. has.values a i d)
  level_says (All ps) enclosing d = all_say _ _ (each_say ps enclosing d)
  level_says (Any ps) enclosing d = any_say _ _ (each_say ps enclosing d)
  level_says (Not p) enclosing d = map_says not_of _ _ (p.1 enclosing d)
  level_says (Op o ps) enclosing d = map_says (strict (op_of o)) _ _ (gathered_say _ _ (each_say ps enclosing d))
  level_says (Certain p) enclosing d = map_says certain_of _ _ (p.1 enclosing d)
  level_says (Known p) enclosing d = map_says known_of _ _ (p.1 enclosing d)
  level_says (Over q r ps) enclosing d = at_place_says _ _ (place_says enclosing (s.source r)) (λ i. over_seen q (s.target r) (k.members r i) (sights ps) enclosing d) (λ i. over q (s.target r) (l.members r i) (means ps) enclosing d) (λ i. over_says q (s.target r) (k.members r i) (l.members r i) (has.lists r i) ps enclosing d)
  level_says (Window q ps) enclosing d = window_says q ps enclosing d
  level_says (Rolling b n p) enclosing d = rolling_says _ _ (p.1 enclosing) b n d
  level_says (Table rs p) enclosing d = table_says rs p enclosing d

  pub trusted : (e : Expr) → Trusted e
  trusted = by_parts Trusted (λ z enclosing d.
      subst (λ (m : Sight). Says (m enclosing d) (value s l (roll-Expr (without Trusted z)) enclosing d)) (sym (seen-roll s k (without Trusted z)))
      (subst (λ (m : Meaning). Says (seen_step s k (sight z) enclosing d) (m enclosing d)) (sym (value-roll s l (without Trusted z))) (level_says z enclosing d)))
