-- What a tree uses fixes its value.
use Rattle.std.proofs.Common.{◌≡◌, ℕ, List, [], ◌∷◌, ◌++◌, Bool, true, false, cond, Option, None, Some, refl, sym, ◌∙◌, ap, subst}
use Rattle.std.specs.Prelude.{map, find, flat_map, pos, ◌||◌}
use Rattle.std.specs.List.{list_any, AllByRecursion}
use Rattle.opa_io.proofs.Bools.{or_true}
use Rattle.opa_value.specs.declared.value.Value.TheVariants.{Bool as Truth, Num}
use Rattle.opa_value.specs.Truth.{is_true, is_false, all_of, any_of, not_of, strict, unless_open}
use Rattle.opa_value.specs.declared.value.Value.{Value}
use Rattle.opa_model.specs.declared.ids.AttrId.{AttrId}
use Rattle.opa_model.specs.declared.ids.RelId.{RelId}
use Rattle.opa_case.specs.Shapes.{Shape}
use Rattle.opa_cells.specs.declared.instance.InstanceId.{InstanceId}
use Rattle.opa_cells.specs.Instances.{named}
use Rattle.opa_tree.specs.declared.kinds.Quant.{Quant}
use Rattle.opa_tree.specs.declared.kinds.Quant.TheVariants as quant
use Rattle.opa_tree.specs.declared.kinds.WinKind.{WinKind}
use Rattle.opa_tree.specs.declared.kinds.WinKind.TheVariants as win
use Rattle.opa_tree.specs.declared.expr.Expr.{Expr}
use Rattle.opa_tree.specs.declared.expr.Row.{Row}
use Rattle.opa_tree.specs.declared.expr.Expr.TheOpen.{Expr-F, Const, Attr, All, Any, Not, Op, Certain, Known, Over, Window, Rolling, Table}
use Rattle.opa_tree.proofs.Induction.{by_parts, Part, RowPart, without}
use Rattle.opa_tree.specs.declared.expr.Expr.TheFolds.{map-Expr}
use Rattle.opa_window.specs.Folds.{sum_value, greatest, least, run_value}
use Rattle.opa_window.specs.Windows.{in_window, before, on_or_after, years_since}
use Rattle.opa_mean.specs.Looks.{Look}
use Rattle.opa_mean.specs.Meaning.{Meaning, RowMeaning, tree_step, value, each, at_place, certain_of, known_of, choose, item, quant_of, over, window, table}
use Rattle.opa_mean.specs.Operations.{op_of}
use Rattle.opa_mean.specs.Places.{owner_of, place}
use Rattle.opa_mean.specs.Uses.{Use, Point, Listed, Used, RowUses, RowUsed, found_or, first_or_all, member_uses, at_place_uses, after_cond, item_uses, item_value, over_uses, window_uses, table_uses, uses_step, uses}
use Rattle.opa_mean.proofs.Everywhere.{all_parts}
use Rattle.opa_mean.proofs.Resting.{all_same, chosen, tested, at_date_same, in_window_same, rolling_same}
use Rattle.opa_mean.proofs.UseLaws.{row_uses, uses-roll, row_uses-is}
use Rattle.opa_mean.proofs.Levels.{row_value, value-roll, row_value-is}

-- what is fixed at instances that pass `Live`, where the enclosing instances pass `Within`
module _ (s : Shape) (l l' : Look) (Within Live : InstanceId → Type 0)
    (same : (enclosing : List InstanceId) → AllByRecursion Within enclosing → (e : ℕ) → place l'.container enclosing e ≡ place l.container enclosing e)
    (live : (enclosing : List InstanceId) → AllByRecursion Within enclosing → (e : ℕ) (i : InstanceId) → place l.container enclosing e ≡ Some i → Live i) where
  -- both looks have the same value at a point, or the same list
  abbrev pub Agrees : Use → Type 0
  Agrees (Point a i d) = Live i → l.value a i d ≡ l'.value a i d
  Agrees (Listed r i) = Live i → (l.members r i ≡ l'.members r i) × ((names : List (List ℕ)) → l.members r i ≡ Some names → AllByRecursion (λ n. Within (named (s.target r) n)) names)

  abbrev pub AllAgree : List Use → Type 0
  AllAgree us = AllByRecursion Agrees us

  abbrev split : (us vs : List Use) → AllAgree (us ++ vs) → AllAgree us × AllAgree vs
  split = all_parts Agrees

  -- the values of a list of things by the two looks, where each thing's uses fix its value
  module _ {X : Type 0} (Q : X → Type 0) (f g : X → Value) (u : X → List Use) (fixed : (x : X) → Q x → AllAgree (u x) → f x ≡ g x) where
    found_fixed : (p : Value → Bool) (xs : List X) → AllByRecursion Q xs → (y : X) → find (λ x. p (f x)) xs ≡ Some y → AllAgree (u y) → (list_any p (map f xs) ≡ true) × (list_any p (map g xs) ≡ true)
    found_fixed p [] qs y e h = absurd (cc e)
    found_fixed p (x ∷ xs) qs y e h = go (p (f x)) refl (λ e'. found_fixed p xs qs.1 y e' h)
      where
        go : (b : Bool) → p (f x) ≡ b → (find (λ x. p (f x)) xs ≡ Some y → (list_any p (map f xs) ≡ true) × (list_any p (map g xs) ≡ true)) → (list_any p (map f (x ∷ xs)) ≡ true) × (list_any p (map g (x ∷ xs)) ≡ true)
        go true q rest =
            let one : x ≡ y = cc (e, ap (λ b. cond b (Some x) (find (λ x. p (f x)) xs)) q) in
            let here : f x ≡ g x = fixed x qs.0 (subst (λ z. AllAgree (u z)) (sym one) h) in
            (ap (λ b. b || list_any p (map f xs)) q, ap (λ b. b || list_any p (map g xs)) (ap p (sym here) ∙ q))
        go false q rest = let both = rest (sym (ap (λ b. cond b (Some x) (find (λ x. p (f x)) xs)) q) ∙ e) in
            (ap (λ b. p (f x) || b) both.0 ∙ or_true (p (f x)), ap (λ b. p (g x) || b) both.1 ∙ or_true (p (g x)))

    -- a truth table that one value decides
    decided_fixed : (p : Value → Bool) (a b : Value) (xs : List X) → AllByRecursion Q xs → AllAgree (first_or_all (λ x. p (f x)) u xs) → cond (list_any p (map f xs)) a (unless_open (map f xs) b) ≡ cond (list_any p (map g xs)) a (unless_open (map g xs) b)
    decided_fixed p a b xs qs h = go (find (λ x. p (f x)) xs) refl h
      where
        go : (o : Option X) → find (λ x. p (f x)) xs ≡ o → AllAgree (found_or o u (flat_map u xs)) → cond (list_any p (map f xs)) a (unless_open (map f xs) b) ≡ cond (list_any p (map g xs)) a (unless_open (map g xs) b)
        go None e h' = ap (λ vs. cond (list_any p vs) a (unless_open vs b)) (all_same Agrees Q f g u fixed xs qs h')
        go (Some y) e h' = let both = found_fixed p xs qs y e h' in ap (λ t. cond t a (unless_open (map f xs) b)) both.0 ∙ sym (ap (λ t. cond t a (unless_open (map g xs) b)) both.1)

  abbrev Fixed : Expr → Type 0
  Fixed e = (enclosing : List InstanceId) → AllByRecursion Within enclosing → (d : ℕ) → AllAgree (uses s l e enclosing d) → value s l e enclosing d ≡ value s l' e enclosing d

  abbrev Parts : Type 0
  Parts = List (Part Fixed)

  abbrev olds : Parts → List Meaning
  olds ps = map (value s l) (map (λ p. p.0) ps)

  abbrev news : Parts → List Meaning
  news ps = map (value s l') (map (λ p. p.0) ps)

  abbrev useds : Parts → List Used
  useds ps = map (λ e. (e, uses s l e)) (map (λ p. p.0) ps)

  -- every part counts
  abbrev Any_one : Part Fixed → Type 0
  Any_one p = Unit {0}

  any_ones : (ps : Parts) → AllByRecursion Any_one ps
  any_ones [] = tt
  any_ones (p ∷ ps) = (tt, any_ones ps)

  -- lists of parts
  each_parts : (l0 : Look) (ps : Parts) (enclosing : List InstanceId) (d : ℕ) → each (map (value s l0) (map (λ p. p.0) ps)) enclosing d ≡ map (λ p. value s l0 p.0 enclosing d) ps
  each_parts l0 [] enclosing d = refl
  each_parts l0 (p ∷ ps) enclosing d = ap (λ vs. value s l0 p.0 enclosing d ∷ vs) (each_parts l0 ps enclosing d)

  all_uses : (ps : Parts) (enclosing : List InstanceId) (d : ℕ) → flat_map (λ (x : Used). x.1 enclosing d) (useds ps) ≡ flat_map (λ p. uses s l p.0 enclosing d) ps
  all_uses [] enclosing d = refl
  all_uses (p ∷ ps) enclosing d = ap (λ us. uses s l p.0 enclosing d ++ us) (all_uses ps enclosing d)

  item_values : (ps : Parts) (enclosing : List InstanceId) (d : ℕ) → map (λ (x : Used). value s l x.0 enclosing d) (useds ps) ≡ each (olds ps) enclosing d
  item_values [] enclosing d = refl
  item_values (p ∷ ps) enclosing d = ap (λ vs. value s l p.0 enclosing d ∷ vs) (item_values ps enclosing d)

  found_parts : (q : Value → Bool) (ps : Parts) (enclosing : List InstanceId) (d : ℕ) (rest : List Use) → found_or (find (λ (x : Used). q (value s l x.0 enclosing d)) (useds ps)) (λ (x : Used). x.1 enclosing d) rest ≡ found_or (find (λ p. q (value s l p.0 enclosing d)) ps) (λ p. uses s l p.0 enclosing d) rest
  found_parts q [] enclosing d rest = refl
  found_parts q (p ∷ ps) enclosing d rest = go (q (value s l p.0 enclosing d)) (found_parts q ps enclosing d rest)
    where
      go : (b : Bool) → found_or (find (λ (x : Used). q (value s l x.0 enclosing d)) (useds ps)) (λ (x : Used). x.1 enclosing d) rest ≡ found_or (find (λ p. q (value s l p.0 enclosing d)) ps) (λ p. uses s l p.0 enclosing d) rest
          → found_or (cond b (Some (p.0, uses s l p.0)) (find (λ (x : Used). q (value s l x.0 enclosing d)) (useds ps))) (λ (x : Used). x.1 enclosing d) rest ≡ found_or (cond b (Some p) (find (λ p. q (value s l p.0 enclosing d)) ps)) (λ p. uses s l p.0 enclosing d) rest
      go true e = refl
      go false e = e

  choice_parts : (q : Value → Bool) (ps : Parts) (enclosing : List InstanceId) (d : ℕ) → first_or_all (λ (x : Used). q (value s l x.0 enclosing d)) (λ (x : Used). x.1 enclosing d) (useds ps) ≡ first_or_all (λ p. q (value s l p.0 enclosing d)) (λ p. uses s l p.0 enclosing d) ps
  choice_parts q ps enclosing d = ap (λ us. found_or (find (λ (x : Used). q (value s l x.0 enclosing d)) (useds ps)) (λ (x : Used). x.1 enclosing d) us) (all_uses ps enclosing d) ∙ found_parts q ps enclosing d (flat_map (λ p. uses s l p.0 enclosing d) ps)

  parts_decided : (q : Value → Bool) (a b : Value) (ps : Parts) (enclosing : List InstanceId) → AllByRecursion Within enclosing → (d : ℕ) → AllAgree (first_or_all (λ (x : Used). q (value s l x.0 enclosing d)) (λ (x : Used). x.1 enclosing d) (useds ps))
      → cond (list_any q (each (olds ps) enclosing d)) a (unless_open (each (olds ps) enclosing d) b) ≡ cond (list_any q (each (news ps) enclosing d)) a (unless_open (each (news ps) enclosing d) b)
  parts_decided q a b ps enclosing w d h =
      ap (λ vs. cond (list_any q vs) a (unless_open vs b)) (each_parts l ps enclosing d)
      ∙ decided_fixed Any_one (λ p. value s l p.0 enclosing d) (λ p. value s l' p.0 enclosing d) (λ p. uses s l p.0 enclosing d) (λ p _. p.1 enclosing w d) q a b ps (any_ones ps) (subst AllAgree (choice_parts q ps enclosing d) h)
      ∙ sym (ap (λ vs. cond (list_any q vs) a (unless_open vs b)) (each_parts l' ps enclosing d))

  each_fixed : (ps : Parts) (enclosing : List InstanceId) → AllByRecursion Within enclosing → (d : ℕ) → AllAgree (flat_map (λ (x : Used). x.1 enclosing d) (useds ps)) → each (olds ps) enclosing d ≡ each (news ps) enclosing d
  each_fixed ps enclosing w d h =
      each_parts l ps enclosing d
      ∙ all_same Agrees Any_one (λ p. value s l p.0 enclosing d) (λ p. value s l' p.0 enclosing d) (λ p. uses s l p.0 enclosing d) (λ p _. p.1 enclosing w d) ps (any_ones ps) (subst AllAgree (all_uses ps enclosing d) h)
      ∙ sym (each_parts l' ps enclosing d)

  attr_fixed : (o : Option InstanceId) → ((i : InstanceId) → o ≡ Some i → Live i) → (a : AttrId) (d : ℕ) → AllAgree (at_place_uses o (λ i. Point a i d ∷ [])) → at_place o (λ i. l.value a i d) ≡ at_place o (λ i. l'.value a i d)
  attr_fixed None at a d h = refl
  attr_fixed (Some i) at a d h = h.0 (at i refl)

  item_fixed : (q : Quant) (ps : Parts) (enclosing : List InstanceId) → AllByRecursion Within enclosing → (d : ℕ) → AllAgree (item_uses s l q (useds ps) enclosing d) → item q (each (olds ps) enclosing d) ≡ item q (each (news ps) enclosing d)
  item_fixed quant.SumIf (p ∷ r ∷ []) enclosing w d h =
      let both = split (uses s l r.0 enclosing d) _ h in
      tested Agrees (value s l r.0 enclosing d) (Num (pos 0)) (uses s l p.0 enclosing d) both.1 (p.1 enclosing w d)
      ∙ ap (λ v. choose v (value s l' p.0 enclosing d) (Num (pos 0))) (r.1 enclosing w d both.0)
  item_fixed q (p ∷ []) enclosing w d h = p.1 enclosing w d h
  item_fixed q _ enclosing w d h = refl

  quant_fixed : (q : Quant) (t : ℕ) (f g : List ℕ → Value) (u : List ℕ → List Use) → ((n : List ℕ) → Within (named t n) → AllAgree (u n) → f n ≡ g n) → (names : List (List ℕ)) → AllByRecursion (λ n. Within (named t n)) names → AllAgree (member_uses q f u names) → quant_of q (map f names) ≡ quant_of q (map g names)
  quant_fixed quant.ForAll t f g u h names w a = decided_fixed (λ n. Within (named t n)) f g u h is_false (Truth false) (Truth true) names w a
  quant_fixed quant.Exists t f g u h names w a = decided_fixed (λ n. Within (named t n)) f g u h is_true (Truth true) (Truth false) names w a
  quant_fixed q t f g u h names w a = ap (quant_of q) (all_same Agrees (λ n. Within (named t n)) f g u h names w a)

  names_fixed : (q : Quant) (t : ℕ) (ps : Parts) (names : List (List ℕ)) → AllByRecursion (λ n. Within (named t n)) names → (enclosing : List InstanceId) → AllByRecursion Within enclosing → (d : ℕ)
      → AllAgree (over_uses s l q t (Some names) (useds ps) enclosing d) → over q t (Some names) (olds ps) enclosing d ≡ over q t (Some names) (news ps) enclosing d
  names_fixed q t ps names ws enclosing w d h =
      ap (λ (f : List ℕ → Value). quant_of q (map f names)) (λ i n. ap (item q) (sym (item_values ps (named t n ∷ enclosing) d)) i)
      ∙ quant_fixed q t (λ n. item_value s l q (useds ps) (named t n ∷ enclosing) d) (λ n. item q (each (news ps) (named t n ∷ enclosing) d)) (λ n. item_uses s l q (useds ps) (named t n ∷ enclosing) d)
      (λ n wn a. ap (item q) (item_values ps (named t n ∷ enclosing) d) ∙ item_fixed q ps (named t n ∷ enclosing) (wn, w) d a) names ws h

  over_fixed : (q : Quant) (r : RelId) (o : Option InstanceId) → ((i : InstanceId) → o ≡ Some i → Live i) → (ps : Parts) (enclosing : List InstanceId) → AllByRecursion Within enclosing → (d : ℕ)
      → AllAgree (at_place_uses o (λ i. Listed r i ∷ over_uses s l q (s.target r) (l.members r i) (useds ps) enclosing d))
      → at_place o (λ i. over q (s.target r) (l.members r i) (olds ps) enclosing d) ≡ at_place o (λ i. over q (s.target r) (l'.members r i) (news ps) enclosing d)
  over_fixed q r None at ps enclosing w d h = refl
  over_fixed q r (Some i) at ps enclosing w d h =
      let list = h.0 (at i refl) in
      go (l.members r i) list.1 h.1 ∙ ap (λ o. over q (s.target r) o (news ps) enclosing d) list.0
    where
      go : (o : Option (List (List ℕ))) → ((names : List (List ℕ)) → o ≡ Some names → AllByRecursion (λ n. Within (named (s.target r) n)) names) → AllAgree (over_uses s l q (s.target r) o (useds ps) enclosing d)
          → over q (s.target r) o (olds ps) enclosing d ≡ over q (s.target r) o (news ps) enclosing d
      go None ws a = refl
      go (Some names) ws a = names_fixed q (s.target r) ps names (ws names refl) enclosing w d a

  interval_fixed : (fold : List Value → Value) (p q r : Part Fixed) (enclosing : List InstanceId) → AllByRecursion Within enclosing → (d : ℕ) → AllAgree (window_uses s l (useds (p ∷ q ∷ r ∷ [])) enclosing d)
      → in_window fold (value s l r.0 enclosing) (value s l p.0 enclosing d) (value s l q.0 enclosing d) ≡ in_window fold (value s l' r.0 enclosing) (value s l' p.0 enclosing d) (value s l' q.0 enclosing d)
  interval_fixed fold p q r enclosing w d h =
      let one = split (uses s l p.0 enclosing d) _ h in let two = split (uses s l q.0 enclosing d) _ one.1 in
      in_window_same Agrees (value s l r.0 enclosing) (value s l' r.0 enclosing) (uses s l r.0 enclosing) (r.1 enclosing w) fold _ _ _ _ (p.1 enclosing w d one.0) (q.1 enclosing w d two.0) two.1

  window_fixed : (k : WinKind) (ps : Parts) (enclosing : List InstanceId) → AllByRecursion Within enclosing → (d : ℕ) → AllAgree (window_uses s l (useds ps) enclosing d) → window k (olds ps) enclosing d ≡ window k (news ps) enclosing d
  window_fixed win.Before (p ∷ []) enclosing w d h = ap (λ v. before v d) (p.1 enclosing w d h)
  window_fixed win.OnOrAfter (p ∷ []) enclosing w d h = ap (λ v. on_or_after v d) (p.1 enclosing w d h)
  window_fixed win.YearsSince (p ∷ []) enclosing w d h = ap (λ v. years_since v d) (p.1 enclosing w d h)
  window_fixed win.ValueAt (p ∷ q ∷ []) enclosing w d h = let one = split (uses s l p.0 enclosing d) _ h in at_date_same Agrees (value s l q.0 enclosing) (value s l' q.0 enclosing) (uses s l q.0 enclosing) (q.1 enclosing w) _ _ (p.1 enclosing w d one.0) one.1
  window_fixed win.Always (p ∷ q ∷ r ∷ []) enclosing w d h = interval_fixed all_of p q r enclosing w d h
  window_fixed win.Sometimes (p ∷ q ∷ r ∷ []) enclosing w d h = interval_fixed any_of p q r enclosing w d h
  window_fixed win.DailySum (p ∷ q ∷ r ∷ []) enclosing w d h = interval_fixed (strict sum_value) p q r enclosing w d h
  window_fixed win.Maximum (p ∷ q ∷ r ∷ []) enclosing w d h = interval_fixed (strict greatest) p q r enclosing w d h
  window_fixed win.Minimum (p ∷ q ∷ r ∷ []) enclosing w d h = interval_fixed (strict least) p q r enclosing w d h
  window_fixed win.ConsecutiveDays (p ∷ q ∷ r ∷ []) enclosing w d h = interval_fixed (strict run_value) p q r enclosing w d h
  window_fixed _ _ enclosing w d h = refl

  table_fixed : (rs : List (RowPart Fixed)) (p : Part Fixed) (enclosing : List InstanceId) → AllByRecursion Within enclosing → (d : ℕ) → AllAgree (table_uses s l (map (λ r. (r, row_uses s l r)) (map (λ r. r.0) rs)) (uses s l p.0) enclosing d) → table (map (row_value s l) (map (λ r. r.0) rs)) (value s l p.0) enclosing d ≡ table (map (row_value s l') (map (λ r. r.0) rs)) (value s l' p.0) enclosing d
  table_fixed [] p enclosing w d h = p.1 enclosing w d h
  table_fixed (r ∷ rs) p enclosing w d h =
      let rest = table_uses s l (map (λ r. (r, row_uses s l r)) (map (λ r. r.0) rs)) (uses s l p.0) enclosing d in
      let u = subst (λ (a : RowUses). AllAgree (a.cond enclosing d ++ after_cond (value s l r.0.cond enclosing d) (a.value enclosing d) rest)) (row_uses-is s l r.0) h in
      let both = split (uses s l r.0.cond enclosing d) _ u in
      ap (λ (a : RowMeaning). choose (a.cond enclosing d) (a.value enclosing d) (table (map (row_value s l) (map (λ r. r.0) rs)) (value s l p.0) enclosing d)) (row_value-is s l r.0)
      ∙ chosen Agrees (value s l r.0.cond enclosing d) (uses s l r.0.value enclosing d) rest both.1 (r.1.1 enclosing w d) (table_fixed rs p enclosing w d)
      ∙ ap (λ v. choose v (value s l' r.0.value enclosing d) (table (map (row_value s l') (map (λ r. r.0) rs)) (value s l' p.0) enclosing d)) (r.1.0 enclosing w d both.0)
      ∙ sym (ap (λ (a : RowMeaning). choose (a.cond enclosing d) (a.value enclosing d) (table (map (row_value s l') (map (λ r. r.0) rs)) (value s l' p.0) enclosing d)) (row_value-is s l' r.0))

  abbrev old : Expr-F (Part Fixed) (RowPart Fixed) → Expr-F Meaning RowMeaning
  old z = map-Expr Expr Row Meaning RowMeaning (value s l) (row_value s l) (without Fixed z)

  abbrev new : Expr-F (Part Fixed) (RowPart Fixed) → Expr-F Meaning RowMeaning
  new z = map-Expr Expr Row Meaning RowMeaning (value s l') (row_value s l') (without Fixed z)

  abbrev used : Expr-F (Part Fixed) (RowPart Fixed) → Expr-F Used RowUsed
  used z = map-Expr Expr Row Used RowUsed (λ e. (e, uses s l e)) (λ r. (r, row_uses s l r)) (without Fixed z)

  level_fixed : (z : Expr-F (Part Fixed) (RowPart Fixed)) (enclosing : List InstanceId) → AllByRecursion Within enclosing → (d : ℕ) → AllAgree (uses_step s l (used z) enclosing d) → tree_step s l (old z) enclosing d ≡ tree_step s l' (new z) enclosing d
  level_fixed (Const v) enclosing w d h = refl
  level_fixed (Attr a) enclosing w d h = attr_fixed (place l.container enclosing (owner_of s a)) (live enclosing w (owner_of s a)) a d h ∙ ap (λ o. at_place o (λ i. l'.value a i d)) (sym (same enclosing w (owner_of s a)))
  level_fixed (All ps) enclosing w d h = parts_decided is_false (Truth false) (Truth true) ps enclosing w d h
  level_fixed (Any ps) enclosing w d h = parts_decided is_true (Truth true) (Truth false) ps enclosing w d h
  level_fixed (Not p) enclosing w d h = ap not_of (p.1 enclosing w d h)
  level_fixed (Op k ps) enclosing w d h = ap (strict (op_of k)) (each_fixed ps enclosing w d h)
  level_fixed (Certain p) enclosing w d h = ap certain_of (p.1 enclosing w d h)
  level_fixed (Known p) enclosing w d h = ap known_of (p.1 enclosing w d h)
  level_fixed (Over q r ps) enclosing w d h = over_fixed q r (place l.container enclosing (s.source r)) (live enclosing w (s.source r)) ps enclosing w d h ∙ ap (λ o. at_place o (λ i. over q (s.target r) (l'.members r i) (news ps) enclosing d)) (sym (same enclosing w (s.source r)))
  level_fixed (Window k ps) enclosing w d h = window_fixed k ps enclosing w d h
  level_fixed (Rolling b n p) enclosing w d h = rolling_same Agrees (value s l p.0 enclosing) (value s l' p.0 enclosing) (uses s l p.0 enclosing) (p.1 enclosing w) b n d h
  level_fixed (Table rs p) enclosing w d h = table_fixed rs p enclosing w d h

  pub value_fixed : (e : Expr) → Fixed e
  value_fixed = by_parts Fixed (λ z enclosing w d h.
      ap (λ m. m enclosing d) (value-roll s l (without Fixed z))
      ∙ level_fixed z enclosing w d (subst (λ m. AllAgree (m enclosing d)) (uses-roll s l (without Fixed z)) h)
      ∙ sym (ap (λ m. m enclosing d) (value-roll s l' (without Fixed z))))
