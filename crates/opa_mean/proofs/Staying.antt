-- A tree whose needs are all still open keeps its value where a look gives more.
use Rattle.std.proofs.Common.{◌≡◌, ◌⊎◌, inl, inr, ℕ, List, [], ◌∷◌, ◌++◌, Bool, true, false, cond, Option, None, Some, refl, sym, ◌∙◌, ap, subst}
use Rattle.std.specs.Prelude.{map, flat_map, pos}
use Rattle.std.specs.List.{AllByRecursion}
use Rattle.std.proofs.lemmas.Bool.{and_parts}
use Rattle.opa_value.specs.declared.value.Value.TheVariants.{Unknown, Uncertain, Bool as Truth, Num, Words, Day}
use Rattle.opa_value.specs.Below.{IsBelow}
use Rattle.opa_value.specs.Truth.{is_unknown, all_of, any_of, not_of, strict}
use Rattle.opa_value.specs.declared.value.Value.{Value}
use Rattle.opa_model.specs.declared.ids.AttrId.{AttrId}
use Rattle.opa_model.specs.declared.ids.RelId.{RelId}
use Rattle.opa_case.specs.Shapes.{Shape}
use Rattle.opa_cells.specs.declared.instance.InstanceId.{InstanceId}
use Rattle.opa_cells.specs.Instances.{named}
use Rattle.opa_tree.specs.declared.kinds.Quant.{Quant}
use Rattle.opa_tree.specs.declared.kinds.Quant.TheVariants as quant
use Rattle.opa_tree.specs.declared.kinds.WinKind.{WinKind}
use Rattle.opa_tree.specs.declared.kinds.WinKind.TheVariants as win
use Rattle.opa_tree.specs.declared.expr.Expr.{Expr}
use Rattle.opa_tree.specs.declared.expr.Row.{Row}
use Rattle.opa_tree.specs.declared.expr.Expr.TheOpen.{Expr-F, Const, Attr, All, Any, Not, Op, Certain, Known, Over, Window, Rolling, Table}
use Rattle.opa_tree.proofs.Induction.{by_parts, Part, RowPart, without}
use Rattle.opa_tree.specs.declared.expr.Expr.TheViews.{roll-Expr}
use Rattle.opa_tree.specs.declared.expr.Expr.TheFolds.{map-Expr}
use Rattle.opa_tree.specs.Mentions.{mentioned, mentioned_step}
use Rattle.opa_window.specs.Folds.{sum_value, greatest, least, run_value}
use Rattle.opa_window.specs.Windows.{in_window, before, on_or_after, years_since}
use Rattle.opa_mean.specs.Frees.{free_step, is_free}
use Rattle.opa_mean.specs.Looks.{Look}
use Rattle.opa_mean.specs.Meaning.{Meaning, RowMeaning, tree_step, value, each, at_place, certain_of, choose, item, quant_of, over, window, table}
use Rattle.opa_mean.specs.Needs.{if_unknown, cond_needs, over_needs, part_needs, item_needs, window_needs, table_needs, needs_step, needs}
use Rattle.opa_mean.specs.Operations.{op_of}
use Rattle.opa_mean.specs.Places.{owner_of, place}
use Rattle.opa_mean.specs.Uses.{Use, Used, RowUses, RowUsed, at_place_uses}
use Rattle.opa_mean.proofs.Chains.{place_entity}
use Rattle.opa_mean.proofs.Everywhere.{all_parts}
use Rattle.opa_mean.proofs.Freedom.{Good, GoodRow, good_parts, good_rows}
use Rattle.opa_mean.proofs.Growing.{Grows, value_grows, place_same, place_live}
use Rattle.opa_mean.proofs.NeedsLaws.{row_needs, needs-roll, row_needs-is}
use Rattle.opa_mean.proofs.Levels.{row_value, row_free, row_mentions, value-roll, free-roll, mentioned-roll, row_value-is}
use Rattle.opa_mean.proofs.Resting.{all_same, tested, at_date_same, in_window_same, rolling_same}

module _ (s : Shape) (Live : InstanceId → Type 0) (Ok : AttrId → Type 0) (l l' : Look) (c : Grows s Live Ok l l')
    (list_need : RelId → InstanceId → Use) (point_needs : AttrId → InstanceId → ℕ → List Use) (IsOpen : Use → Type 0)
    (list_open : (r : RelId) (i : InstanceId) → Live i → i.entity.0 ≡ s.source r → l.members r i ≡ None → IsOpen (list_need r i) → l'.members r i ≡ None)
    (stays : (a : AttrId) (i : InstanceId) (d : ℕ) → Ok a → Live i → l.value a i d ≡ Unknown → AllByRecursion IsOpen (point_needs a i d) → l'.value a i d ≡ Unknown) where
  abbrev AllOpen : List Use → Type 0
  AllOpen us = AllByRecursion IsOpen us

  abbrev AllLive : List InstanceId → Type 0
  AllLive is = AllByRecursion Live is

  abbrev split : (us vs : List Use) → AllOpen (us ++ vs) → AllOpen us × AllOpen vs
  split = all_parts IsOpen

  -- the needs of a tree, where it is unknown
  abbrev own : Expr → List InstanceId → ℕ → List Use
  own e enclosing d = if_unknown (value s l e enclosing d) (needs s l list_need point_needs e enclosing d)

  abbrev Stays : Expr → Type 0
  Stays e = Good Ok e → (enclosing : List InstanceId) → AllLive enclosing → (d : ℕ) → AllOpen (own e enclosing d) → value s l e enclosing d ≡ value s l' e enclosing d

  abbrev Parts : Type 0
  Parts = List (Part Stays)

  abbrev AllGood : Parts → Type 0
  AllGood ps = AllByRecursion (λ p. Good Ok p.0) ps

  abbrev olds : Parts → List Meaning
  olds ps = map (value s l) (map (λ p. p.0) ps)

  abbrev news : Parts → List Meaning
  news ps = map (value s l') (map (λ p. p.0) ps)

  abbrev neededs : Parts → List Used
  neededs ps = map (λ e. (e, needs s l list_need point_needs e)) (map (λ p. p.0) ps)

  -- open needs, whether or not the value is unknown
  guarded : (v : Value) (us : List Use) → AllOpen us → AllOpen (if_unknown v us)
  guarded v us h = go (is_unknown v)
    where
      go : (b : Bool) → AllOpen (cond b us [])
      go true = h
      go false = tt

  each_stays : (ps : Parts) → AllGood ps → (enclosing : List InstanceId) → AllLive enclosing → (d : ℕ) → AllOpen (flat_map (λ (x : Used). part_needs s l list_need point_needs x enclosing d) (neededs ps)) → each (olds ps) enclosing d ≡ each (news ps) enclosing d
  each_stays [] g enclosing live d h = refl
  each_stays (p ∷ ps) g enclosing live d h =
      let us = split (own p.0 enclosing d) _ h in
      ap (λ v. v ∷ each (olds ps) enclosing d) (p.1 g.0 enclosing live d us.0) ∙ ap (λ vs. value s l' p.0 enclosing d ∷ vs) (each_stays ps g.1 enclosing live d us.1)

  attr_stays : (o : Option InstanceId) (a : AttrId) (d : ℕ) → Ok a → ((i : InstanceId) → o ≡ Some i → Live i) → at_place o (λ i. l.value a i d) ≡ Unknown → AllOpen (at_place_uses o (λ i. point_needs a i d)) → at_place o (λ i. l.value a i d) ≡ at_place o (λ i. l'.value a i d)
  attr_stays None a d ok live un h = refl
  attr_stays (Some i) a d ok live un h = un ∙ sym (stays a i d ok (live i refl) un h)

  item_stays : (q : Quant) (ps : Parts) → AllGood ps → (enclosing : List InstanceId) → AllLive enclosing → (d : ℕ) → AllOpen (item_needs s l list_need point_needs q (neededs ps) enclosing d) → item q (each (olds ps) enclosing d) ≡ item q (each (news ps) enclosing d)
  item_stays quant.SumIf (p ∷ r ∷ []) g enclosing live d h =
      let both = split (own r.0 enclosing d) _ h in
      tested IsOpen (value s l r.0 enclosing d) (Num (pos 0)) (own p.0 enclosing d) both.1 (p.1 g.0 enclosing live d)
      ∙ ap (λ v. choose v (value s l' p.0 enclosing d) (Num (pos 0))) (r.1 g.1.0 enclosing live d both.0)
  item_stays q (p ∷ []) g enclosing live d h = p.1 g.0 enclosing live d h
  item_stays q _ g enclosing live d h = refl

  names_stay : (q : Quant) (t : ℕ) (ps : Parts) → AllGood ps → (names : List (List ℕ)) → AllByRecursion (λ n. Live (named t n)) names → (enclosing : List InstanceId) → AllLive enclosing → (d : ℕ)
      → AllOpen (flat_map (λ n. item_needs s l list_need point_needs q (neededs ps) (named t n ∷ enclosing) d) names) → over q t (Some names) (olds ps) enclosing d ≡ over q t (Some names) (news ps) enclosing d
  names_stay q t ps g names lives enclosing live d h =
      ap (quant_of q) (all_same IsOpen (λ n. Live (named t n)) (λ n. item q (each (olds ps) (named t n ∷ enclosing) d)) (λ n. item q (each (news ps) (named t n ∷ enclosing) d))
      (λ n. item_needs s l list_need point_needs q (neededs ps) (named t n ∷ enclosing) d) (λ n lives' a. item_stays q ps g (named t n ∷ enclosing) (lives', live) d a) names lives h)

  over_stays : (q : Quant) (r : RelId) (o : Option InstanceId) → ((i : InstanceId) → o ≡ Some i → Live i × (i.entity.0 ≡ s.source r)) → (ps : Parts) → AllGood ps → (enclosing : List InstanceId) → AllLive enclosing → (d : ℕ)
      → AllOpen (at_place_uses o (λ i. over_needs (list_need r i) (λ n. item_needs s l list_need point_needs q (neededs ps) (named (s.target r) n ∷ enclosing) d) (l.members r i)))
      → at_place o (λ i. over q (s.target r) (l.members r i) (olds ps) enclosing d) ≡ at_place o (λ i. over q (s.target r) (l'.members r i) (news ps) enclosing d)
  over_stays q r None at ps g enclosing live d h = refl
  over_stays q r (Some i) at ps g enclosing live d h = go (l.members r i) refl h
    where
      go : (o : Option (List (List ℕ))) → l.members r i ≡ o → AllOpen (over_needs (list_need r i) (λ n. item_needs s l list_need point_needs q (neededs ps) (named (s.target r) n ∷ enclosing) d) o)
          → over q (s.target r) (l.members r i) (olds ps) enclosing d ≡ over q (s.target r) (l'.members r i) (news ps) enclosing d
      go None e a =
          ap (λ x. over q (s.target r) x (olds ps) enclosing d) e
          ∙ sym (ap (λ x. over q (s.target r) x (news ps) enclosing d) (list_open r i (at i refl).0 (at i refl).1 e a.0))
      go (Some names) e a = known (c.members r i (at i refl).0)
        where
          known : (l.members r i ≡ None) ⊎ (l.members r i ≡ l'.members r i) → over q (s.target r) (l.members r i) (olds ps) enclosing d ≡ over q (s.target r) (l'.members r i) (news ps) enclosing d
          known (inl none) = absurd (cc (none, e))
          known (inr same) =
              ap (λ x. over q (s.target r) x (olds ps) enclosing d) e
              ∙ names_stay q (s.target r) ps g names (c.listed r i names (at i refl).0 e) enclosing live d a
              ∙ ap (λ x. over q (s.target r) x (news ps) enclosing d) (sym e ∙ same)

  interval_stays : (fold : List Value → Value) (p q r : Part Stays) → AllGood (p ∷ q ∷ r ∷ []) → (enclosing : List InstanceId) → AllLive enclosing → (d : ℕ) → AllOpen (window_needs s l list_need point_needs (neededs (p ∷ q ∷ r ∷ [])) enclosing d)
      → in_window fold (value s l r.0 enclosing) (value s l p.0 enclosing d) (value s l q.0 enclosing d) ≡ in_window fold (value s l' r.0 enclosing) (value s l' p.0 enclosing d) (value s l' q.0 enclosing d)
  interval_stays fold p q r g enclosing live d h =
      let one = split (own p.0 enclosing d) _ h in let two = split (own q.0 enclosing d) _ one.1 in
      in_window_same IsOpen (value s l r.0 enclosing) (value s l' r.0 enclosing) (own r.0 enclosing) (r.1 g.1.1.0 enclosing live) fold _ _ _ _ (p.1 g.0 enclosing live d one.0) (q.1 g.1.0 enclosing live d two.0) two.1

  window_stays : (k : WinKind) (ps : Parts) → AllGood ps → (enclosing : List InstanceId) → AllLive enclosing → (d : ℕ) → AllOpen (window_needs s l list_need point_needs (neededs ps) enclosing d) → window k (olds ps) enclosing d ≡ window k (news ps) enclosing d
  window_stays win.Before (p ∷ []) g enclosing live d h = ap (λ v. before v d) (p.1 g.0 enclosing live d h)
  window_stays win.OnOrAfter (p ∷ []) g enclosing live d h = ap (λ v. on_or_after v d) (p.1 g.0 enclosing live d h)
  window_stays win.YearsSince (p ∷ []) g enclosing live d h = ap (λ v. years_since v d) (p.1 g.0 enclosing live d h)
  window_stays win.ValueAt (p ∷ q ∷ []) g enclosing live d h = let one = split (own p.0 enclosing d) _ h in at_date_same IsOpen (value s l q.0 enclosing) (value s l' q.0 enclosing) (own q.0 enclosing) (q.1 g.1.0 enclosing live) _ _ (p.1 g.0 enclosing live d one.0) one.1
  window_stays win.Always (p ∷ q ∷ r ∷ []) g enclosing live d h = interval_stays all_of p q r g enclosing live d h
  window_stays win.Sometimes (p ∷ q ∷ r ∷ []) g enclosing live d h = interval_stays any_of p q r g enclosing live d h
  window_stays win.DailySum (p ∷ q ∷ r ∷ []) g enclosing live d h = interval_stays (strict sum_value) p q r g enclosing live d h
  window_stays win.Maximum (p ∷ q ∷ r ∷ []) g enclosing live d h = interval_stays (strict greatest) p q r g enclosing live d h
  window_stays win.Minimum (p ∷ q ∷ r ∷ []) g enclosing live d h = interval_stays (strict least) p q r g enclosing live d h
  window_stays win.ConsecutiveDays (p ∷ q ∷ r ∷ []) g enclosing live d h = interval_stays (strict run_value) p q r g enclosing live d h
  window_stays _ _ g enclosing live d h = refl

  cond_open : (v : Value) (us vs ws : List Use) → AllOpen (cond_needs v us vs ws) → AllOpen (if_unknown v us)
  cond_open Unknown us vs ws h = h
  cond_open Uncertain us vs ws h = tt
  cond_open (Truth b) us vs ws h = tt
  cond_open (Num n) us vs ws h = tt
  cond_open (Words t) us vs ws h = tt
  cond_open (Day k) us vs ws h = tt

  taken : (v : Value) {a b x y : Value} (us vs ws : List Use) → AllOpen (cond_needs v us vs ws) → (AllOpen vs → a ≡ b) → (AllOpen ws → x ≡ y) → choose v a x ≡ choose v b y
  taken (Truth true) us vs ws h f g = f h
  taken (Truth false) us vs ws h f g = g h
  taken Unknown us vs ws h f g = refl
  taken Uncertain us vs ws h f g = refl
  taken (Num n) us vs ws h f g = refl
  taken (Words t) us vs ws h f g = refl
  taken (Day k) us vs ws h f g = refl

  table_stays : (rs : List (RowPart Stays)) (p : Part Stays) → AllByRecursion (λ r. GoodRow Ok r.0) rs → Good Ok p.0 → (enclosing : List InstanceId) → AllLive enclosing → (d : ℕ) → AllOpen (table_needs s l list_need point_needs (map (λ r. (r, row_needs s l list_need point_needs r)) (map (λ r. r.0) rs)) (needs s l list_need point_needs p.0) enclosing d) → table (map (row_value s l) (map (λ r. r.0) rs)) (value s l p.0) enclosing d ≡ table (map (row_value s l') (map (λ r. r.0) rs)) (value s l' p.0) enclosing d
  table_stays [] p f g enclosing live d h = p.1 g enclosing live d (guarded _ _ h)
  table_stays (r ∷ rs) p f g enclosing live d h =
      let rest = table_needs s l list_need point_needs (map (λ r. (r, row_needs s l list_need point_needs r)) (map (λ r. r.0) rs)) (needs s l list_need point_needs p.0) enclosing d in
      let us = needs s l list_need point_needs r.0.cond enclosing d in let vs = needs s l list_need point_needs r.0.value enclosing d in
      let h' : AllOpen (cond_needs (value s l r.0.cond enclosing d) us vs rest) = subst (λ (a : RowUses). AllOpen (cond_needs (value s l r.0.cond enclosing d) (a.cond enclosing d) (a.value enclosing d) rest)) (row_needs-is s l list_need point_needs r.0) h in
      ap (λ (a : RowMeaning). choose (a.cond enclosing d) (a.value enclosing d) (table (map (row_value s l) (map (λ r. r.0) rs)) (value s l p.0) enclosing d)) (row_value-is s l r.0)
      ∙ taken (value s l r.0.cond enclosing d) us vs rest h' (λ k. r.1.1 f.0.1 enclosing live d (guarded _ _ k)) (table_stays rs p f.1 g enclosing live d)
      ∙ ap (λ v. choose v (value s l' r.0.value enclosing d) (table (map (row_value s l') (map (λ r. r.0) rs)) (value s l' p.0) enclosing d)) (r.1.0 f.0.0 enclosing live d (cond_open _ us vs rest h'))
      ∙ sym (ap (λ (a : RowMeaning). choose (a.cond enclosing d) (a.value enclosing d) (table (map (row_value s l') (map (λ r. r.0) rs)) (value s l' p.0) enclosing d)) (row_value-is s l' r.0))

  abbrev old : Expr-F (Part Stays) (RowPart Stays) → Expr-F Meaning RowMeaning
  old z = map-Expr Expr Row Meaning RowMeaning (value s l) (row_value s l) (without Stays z)

  abbrev new : Expr-F (Part Stays) (RowPart Stays) → Expr-F Meaning RowMeaning
  new z = map-Expr Expr Row Meaning RowMeaning (value s l') (row_value s l') (without Stays z)

  abbrev frees : Expr-F (Part Stays) (RowPart Stays) → Expr-F Bool Bool
  frees z = map-Expr Expr Row Bool Bool is_free row_free (without Stays z)

  abbrev mentions : Expr-F (Part Stays) (RowPart Stays) → Expr-F (List AttrId) (List AttrId)
  mentions z = map-Expr Expr Row (List AttrId) (List AttrId) mentioned row_mentions (without Stays z)

  abbrev needed : Expr-F (Part Stays) (RowPart Stays) → Expr-F Used RowUsed
  needed z = map-Expr Expr Row Used RowUsed (λ e. (e, needs s l list_need point_needs e)) (λ r. (r, row_needs s l list_need point_needs r)) (without Stays z)

  at_source : (r : RelId) (enclosing : List InstanceId) → AllLive enclosing → (i : InstanceId) → place l.container enclosing (s.source r) ≡ Some i → Live i × (i.entity.0 ≡ s.source r)
  at_source r enclosing live i is = (place_live s Live Ok l l' c enclosing live (s.source r) i is, place_entity l.container enclosing (s.source r) i is)

  level_stays : (z : Expr-F (Part Stays) (RowPart Stays)) → free_step (frees z) ≡ true → AllByRecursion Ok (mentioned_step (mentions z)) → (enclosing : List InstanceId) → AllLive enclosing → (d : ℕ) → tree_step s l (old z) enclosing d ≡ Unknown → AllOpen (needs_step s l list_need point_needs (needed z) enclosing d) → tree_step s l (old z) enclosing d ≡ tree_step s l' (new z) enclosing d
  level_stays (Const v) f m enclosing live d un h = refl
  level_stays (Attr a) f m enclosing live d un h = attr_stays (place l.container enclosing (owner_of s a)) a d m.0 (place_live s Live Ok l l' c enclosing live (owner_of s a)) un h ∙ ap (λ o. at_place o (λ i. l'.value a i d)) (sym (place_same s Live Ok l l' c enclosing live (owner_of s a)))
  level_stays (All ps) f m enclosing live d un h = ap all_of (each_stays ps (good_parts Ok ps f m) enclosing live d h)
  level_stays (Any ps) f m enclosing live d un h = ap any_of (each_stays ps (good_parts Ok ps f m) enclosing live d h)
  level_stays (Not p) f m enclosing live d un h = ap not_of (p.1 (f, m) enclosing live d (guarded _ _ h))
  level_stays (Op k ps) f m enclosing live d un h = ap (strict (op_of k)) (each_stays ps (good_parts Ok ps f m) enclosing live d h)
  level_stays (Certain p) f m enclosing live d un h = ap certain_of (p.1 (f, m) enclosing live d (guarded _ _ h))
  level_stays (Known p) f m enclosing live d un h = absurd (cc f)
  level_stays (Over q r ps) f m enclosing live d un h = over_stays q r (place l.container enclosing (s.source r)) (at_source r enclosing live) ps (good_parts Ok ps f m) enclosing live d h ∙ ap (λ o. at_place o (λ i. over q (s.target r) (l'.members r i) (news ps) enclosing d)) (sym (place_same s Live Ok l l' c enclosing live (s.source r)))
  level_stays (Window k ps) f m enclosing live d un h = window_stays k ps (good_parts Ok ps f m) enclosing live d h
  level_stays (Rolling b n p) f m enclosing live d un h = rolling_same IsOpen (value s l p.0 enclosing) (value s l' p.0 enclosing) (own p.0 enclosing) (p.1 (f, m) enclosing live) b n d h
  level_stays (Table rs p) f m enclosing live d un h =
      let both = and_parts _ _ f in let two = all_parts Ok (flat_map (λ x. x) (map row_mentions (map (λ r. r.0) rs))) _ m in
      table_stays rs p (good_rows Ok rs both.0 two.0) (both.1, two.1) enclosing live d h

  -- what is known stays anyway; what is unknown stays where its needs are open
  whole : (e : Expr) → Good Ok e → (enclosing : List InstanceId) → AllLive enclosing → (d : ℕ) → (value s l e enclosing d ≡ Unknown → AllOpen (needs s l list_need point_needs e enclosing d) → value s l e enclosing d ≡ value s l' e enclosing d) → AllOpen (own e enclosing d) → value s l e enclosing d ≡ value s l' e enclosing d
  whole e g enclosing live d unknown_case h = go (value_grows s Live Ok l l' c e g enclosing live d)
    where
      go : IsBelow (value s l e enclosing d) (value s l' e enclosing d) → value s l e enclosing d ≡ value s l' e enclosing d
      go (inl un) = unknown_case un (subst (λ v. AllOpen (if_unknown v (needs s l list_need point_needs e enclosing d))) un h)
      go (inr same) = same

  pub value_stays : (e : Expr) → Stays e
  value_stays = by_parts Stays (λ z g enclosing live d h. whole (roll-Expr (without Stays z)) g enclosing live d
      (λ un k. ap (λ m. m enclosing d) (value-roll s l (without Stays z))
      ∙ level_stays z (sym (free-roll (without Stays z)) ∙ g.0) (subst (AllByRecursion Ok) (mentioned-roll (without Stays z)) g.1) enclosing live d (sym (ap (λ m. m enclosing d) (value-roll s l (without Stays z))) ∙ un) (subst (λ m. AllOpen (m enclosing d)) (needs-roll s l list_need point_needs (without Stays z)) k)
      ∙ sym (ap (λ m. m enclosing d) (value-roll s l' (without Stays z)))) h)
