-- Where what a tree uses lies: points of attributes that it mentions, at live instances of their entities.
use Rattle.std.proofs.Common.{◌≡◌, ◌⊎◌, inl, inr, ℕ, ◌+◌, ◌-◌, Bool, true, false, cond, ◌&&◌, List, [], ◌∷◌, ◌++◌, map, Option, None, Some, Contains, refl, sym, ◌∙◌, ap, subst}
use Rattle.std.specs.Prelude.{find, flat_map, nat_lt}
use Rattle.std.specs.List.{AllByRecursion}
use Rattle.std.proofs.lemmas.List.Elements.{Contains-append_left, Contains-append_right, Contains-append_cases}
use Rattle.opa_date.specs.declared.TheConstants.{DAYS}
use Rattle.opa_value.specs.declared.value.Value.{Value}
use Rattle.opa_value.specs.declared.value.Value.TheVariants.{Unknown, Uncertain, Bool as Truth, Num, Words, Day}
use Rattle.opa_value.specs.Truth.{is_true, is_false}
use Rattle.opa_model.specs.declared.ids.AttrId.{AttrId}
use Rattle.opa_model.specs.declared.ids.RelId.{RelId}
use Rattle.opa_case.specs.Shapes.{Shape}
use Rattle.opa_cells.specs.declared.instance.InstanceId.{InstanceId}
use Rattle.opa_cells.specs.Instances.{named}
use Rattle.opa_tree.specs.declared.kinds.Quant.{Quant}
use Rattle.opa_tree.specs.declared.kinds.Quant.TheVariants as quant
use Rattle.opa_tree.specs.declared.expr.Expr.{Expr}
use Rattle.opa_tree.specs.declared.expr.Row.{Row}
use Rattle.opa_tree.specs.declared.expr.Expr.TheOpen.{Expr-F, Const, Attr, All, Any, Not, Op, Certain, Known, Over, Window, Rolling, Table}
use Rattle.opa_tree.specs.declared.expr.Expr.TheFolds.{map-Expr}
use Rattle.opa_tree.specs.Mentions.{mentioned, mentioned_step, mentioned_row}
use Rattle.opa_tree.proofs.Induction.{by_parts, Part, RowPart, without}
use Rattle.opa_tree.proofs.Members.{none_in, contains_head, contains_tail, contains_cases, flat_out}
use Rattle.opa_window.specs.Days.{days}
use Rattle.opa_mean.specs.Looks.{Look}
use Rattle.opa_mean.specs.Meaning.{value}
use Rattle.opa_mean.specs.Places.{owner_of, place}
use Rattle.opa_mean.specs.Uses.{Use, Point, Listed, Uses, Used, RowUses, RowUsed, found_or, first_or_all, member_uses, at_place_uses, on_date_uses, in_window_uses, after_cond, item_uses, item_value, over_uses, window_uses, table_uses, uses_step, uses}
use Rattle.opa_mean.proofs.Chains.{place_entity}
use Rattle.opa_mean.proofs.Everywhere.{each_of_all}
use Rattle.opa_mean.proofs.Levels.{row_mentions, mentioned-roll, row_mentions-is}
use Rattle.opa_mean.proofs.UseLaws.{row_uses, uses-roll, row_uses-is}

-- what is used of several is used of one of them
first_in : {X : Type 0} (p : X → Bool) (f : X → List Use) (xs : List X) (u : Use) → Contains (first_or_all p f xs) u → (x : X) × (Contains xs x × Contains (f x) u)
first_in {X = X} p f xs u h = go xs u (find p xs) (λ x e. found_in xs x e) h
  where
    found_in : (xs : List X) (x : X) → find p xs ≡ Some x → Contains xs x
    found_in [] x e = absurd (cc e)
    found_in (y ∷ xs) x e = at (p y) refl (found_in xs x)
      where
        at : (b : Bool) → p y ≡ b → (find p xs ≡ Some x → Contains xs x) → Contains (y ∷ xs) x
        at true q rest = let same : y ≡ x = cc (e, ap (λ b. cond b (Some y) (find p xs)) q) in subst (Contains (y ∷ xs)) same (contains_head y xs)
        at false q rest = contains_tail y x xs (rest (sym (ap (λ b. cond b (Some y) (find p xs)) q) ∙ e))

    go : (xs : List X) (u : Use) (o : Option X) → ((x : X) → o ≡ Some x → Contains xs x) → Contains (found_or o f (flat_map f xs)) u → (x : X) × (Contains xs x × Contains (f x) u)
    go xs u None there h = flat_out f xs u h
    go xs u (Some x) there h = (x, (there x refl, h))

module _ (s : Shape) (l : Look) (Live : InstanceId → Type 0)
    (places : (enclosing : List InstanceId) → AllByRecursion Live enclosing → (e : ℕ) (i : InstanceId) → place l.container enclosing e ≡ Some i → Live i)
    (listed : (r : RelId) (i : InstanceId) (names : List (List ℕ)) → l.members r i ≡ Some names → AllByRecursion (λ n. Live (named (s.target r) n)) names) where
  -- a point of one of the attributes at a live instance of its entity, or a list of such an instance
  abbrev pub Lies : List AttrId → Use → Type 0
  Lies ms (Point a i d) = Contains ms a × (Live i × (i.entity.0 ≡ owner_of s a))
  Lies ms (Listed r i) = Live i × (i.entity.0 ≡ s.source r)

  wider : (ms ns : List AttrId) → ((a : AttrId) → Contains ms a → Contains ns a) → (u : Use) → Lies ms u → Lies ns u
  wider ms ns f (Point a i d) h = (f a h.0, h.1)
  wider ms ns f (Listed r i) h = h

  abbrev Lying : Expr → Type 0
  Lying e = (enclosing : List InstanceId) → AllByRecursion Live enclosing → (d : ℕ) (u : Use) → Contains (uses s l e enclosing d) u → Lies (mentioned e) u

  abbrev pair : Part Lying → Used
  pair p = (p.0, uses s l p.0)

  abbrev useds : List (Part Lying) → List Used
  useds ps = map (λ e. (e, uses s l e)) (map (λ p. p.0) ps)

  abbrev names_of : List (Part Lying) → List AttrId
  names_of ps = flat_map (λ x. x) (map mentioned (map (λ p. p.0) ps))

  -- what a part uses lies where the whole does
  parts_lie : (ps : List (Part Lying)) (x : Used) → Contains (useds ps) x → (enclosing : List InstanceId) → AllByRecursion Live enclosing → (d : ℕ) (u : Use) → Contains (x.1 enclosing d) u → Lies (names_of ps) u
  parts_lie [] x h enclosing live d u there = absurd (none_in x h)
  parts_lie (p ∷ ps) x h enclosing live d u there = go (contains_cases (pair p) x (useds ps) h) (λ k. parts_lie ps x k enclosing live d u there)
    where
      go : (pair p ≡ x) ⊎ Contains (useds ps) x → (Contains (useds ps) x → Lies (names_of ps) u) → Lies (names_of (p ∷ ps)) u
      go (inl e) rest = wider (mentioned p.0) (names_of (p ∷ ps)) (λ a k. Contains-append_left (mentioned p.0) (names_of ps) a k) u (p.1 enclosing live d u (subst (λ (y : Used). Contains (y.1 enclosing d) u) (sym e) there))
      go (inr k) rest = wider (names_of ps) (names_of (p ∷ ps)) (λ a k. Contains-append_right (mentioned p.0) (names_of ps) a k) u (rest k)

  -- items of a quantifier
  item_in : (q : Quant) (xs : List Used) (enclosing : List InstanceId) (d : ℕ) (u : Use) → Contains (item_uses s l q xs enclosing d) u → (x : Used) × (Contains xs x × Contains (x.1 enclosing d) u)
  item_in quant.SumIf (number ∷ test ∷ []) enclosing d u h = go (Contains-append_cases (test.1 enclosing d) _ u h)
    where
      at : (b : Bool) → Contains (cond b (number.1 enclosing d) []) u → (x : Used) × (Contains (number ∷ test ∷ []) x × Contains (x.1 enclosing d) u)
      at true k = (number, (contains_head number (test ∷ []), k))
      at false k = absurd (none_in u k)

      go : Contains (test.1 enclosing d) u ⊎ Contains (cond (is_true (value s l test.0 enclosing d)) (number.1 enclosing d) []) u → (x : Used) × (Contains (number ∷ test ∷ []) x × Contains (x.1 enclosing d) u)
      go (inl k) = (test, (contains_tail number test (test ∷ []) (contains_head test []), k))
      go (inr k) = at (is_true (value s l test.0 enclosing d)) k
  item_in q (x ∷ []) enclosing d u h = (x, (contains_head x [], h))
  item_in q _ enclosing d u h = absurd (none_in u h)

  member_in : (q : Quant) (v : List ℕ → Value) (f : List ℕ → List Use) (names : List (List ℕ)) (u : Use) → Contains (member_uses q v f names) u → (n : List ℕ) × (Contains names n × Contains (f n) u)
  member_in quant.ForAll v f names u h = first_in (λ n. is_false (v n)) f names u h
  member_in quant.Exists v f names u h = first_in (λ n. is_true (v n)) f names u h
  member_in q v f names u h = flat_out f names u h

  over_lies : (q : Quant) (r : RelId) (i : InstanceId) (ps : List (Part Lying)) (o : Option (List (List ℕ))) → l.members r i ≡ o → (enclosing : List InstanceId) → AllByRecursion Live enclosing → (d : ℕ) (u : Use) → Contains (over_uses s l q (s.target r) o (useds ps) enclosing d) u → Lies (names_of ps) u
  over_lies q r i ps None e enclosing live d u h = absurd (none_in u h)
  over_lies q r i ps (Some names) e enclosing live d u h =
      let t = s.target r in
      let m = member_in q (λ n. item_value s l q (useds ps) (named t n ∷ enclosing) d) (λ n. item_uses s l q (useds ps) (named t n ∷ enclosing) d) names u h in
      let x = item_in q (useds ps) (named t m.0 ∷ enclosing) d u m.1.1 in
      parts_lie ps x.0 x.1.0 (named t m.0 ∷ enclosing) (each_of_all (λ n. Live (named t n)) names (listed r i names e) m.0 m.1.0, live) d u x.1.1

  -- days of windows
  date_in : (f : ℕ → List Use) (v : Value) (u : Use) → Contains (on_date_uses f v) u → (d : ℕ) × Contains (f d) u
  date_in f (Day k) u h = go (nat_lt k DAYS) h
    where
      go : (b : Bool) → Contains (cond b (f k) []) u → (d : ℕ) × Contains (f d) u
      go true h = (k, h)
      go false h = absurd (none_in u h)
  date_in f Unknown u h = absurd (none_in u h)
  date_in f Uncertain u h = absurd (none_in u h)
  date_in f (Truth b) u h = absurd (none_in u h)
  date_in f (Num n) u h = absurd (none_in u h)
  date_in f (Words t) u h = absurd (none_in u h)

  window_in : (f : ℕ → List Use) (v w : Value) (u : Use) → Contains (in_window_uses f v w) u → (d : ℕ) × Contains (f d) u
  window_in f (Day j) (Day k) u h = go (nat_lt j DAYS && nat_lt k DAYS) h
    where
      go : (b : Bool) → Contains (cond b (flat_map f (days j (k - j))) []) u → (d : ℕ) × Contains (f d) u
      go true h = let x = flat_out f (days j (k - j)) u h in (x.0, x.1.1)
      go false h = absurd (none_in u h)
  window_in f _ _ u h = absurd (none_in u h)

  window_lies : (ps : List (Part Lying)) (enclosing : List InstanceId) → AllByRecursion Live enclosing → (d : ℕ) (u : Use) → Contains (window_uses s l (useds ps) enclosing d) u → Lies (names_of ps) u
  window_lies (p ∷ []) enclosing live d u h = parts_lie (p ∷ []) (pair p) (contains_head (pair p) []) enclosing live d u h
  window_lies (p ∷ q ∷ []) enclosing live d u h = go (Contains-append_cases (uses s l p.0 enclosing d) _ u h)
    where
      go : Contains (uses s l p.0 enclosing d) u ⊎ Contains (on_date_uses (uses s l q.0 enclosing) (value s l p.0 enclosing d)) u → Lies (names_of (p ∷ q ∷ [])) u
      go (inl k) = parts_lie (p ∷ q ∷ []) (pair p) (contains_head (pair p) (pair q ∷ [])) enclosing live d u k
      go (inr k) = let x = date_in (uses s l q.0 enclosing) (value s l p.0 enclosing d) u k in parts_lie (p ∷ q ∷ []) (pair q) (contains_tail (pair p) (pair q) (pair q ∷ []) (contains_head (pair q) [])) enclosing live x.0 u x.1
  window_lies (p ∷ q ∷ r ∷ []) enclosing live d u h = go (Contains-append_cases (uses s l p.0 enclosing d) _ u h)
    where
      abbrev_third : Contains (useds (p ∷ q ∷ r ∷ [])) (pair r)
      abbrev_third = contains_tail (pair p) (pair r) (pair q ∷ pair r ∷ []) (contains_tail (pair q) (pair r) (pair r ∷ []) (contains_head (pair r) []))

      at : Contains (uses s l q.0 enclosing d) u ⊎ Contains (in_window_uses (uses s l r.0 enclosing) (value s l p.0 enclosing d) (value s l q.0 enclosing d)) u → Lies (names_of (p ∷ q ∷ r ∷ [])) u
      at (inl k) = parts_lie (p ∷ q ∷ r ∷ []) (pair q) (contains_tail (pair p) (pair q) (pair q ∷ pair r ∷ []) (contains_head (pair q) (pair r ∷ []))) enclosing live d u k
      at (inr k) = let x = window_in (uses s l r.0 enclosing) (value s l p.0 enclosing d) (value s l q.0 enclosing d) u k in parts_lie (p ∷ q ∷ r ∷ []) (pair r) abbrev_third enclosing live x.0 u x.1

      go : Contains (uses s l p.0 enclosing d) u ⊎ Contains (uses s l q.0 enclosing d ++ in_window_uses (uses s l r.0 enclosing) (value s l p.0 enclosing d) (value s l q.0 enclosing d)) u → Lies (names_of (p ∷ q ∷ r ∷ [])) u
      go (inl k) = parts_lie (p ∷ q ∷ r ∷ []) (pair p) (contains_head (pair p) (pair q ∷ pair r ∷ [])) enclosing live d u k
      go (inr k) = at (Contains-append_cases (uses s l q.0 enclosing d) _ u k)
  window_lies _ enclosing live d u h = absurd (none_in u h)

  abbrev row_useds : List (RowPart Lying) → List RowUsed
  row_useds rs = map (λ r. (r, row_uses s l r)) (map (λ r. r.0) rs)

  abbrev row_names : List (RowPart Lying) → List AttrId
  row_names rs = flat_map (λ x. x) (map row_mentions (map (λ r. r.0) rs))

  after_in : (v : Value) (us rest : List Use) (u : Use) → Contains (after_cond v us rest) u → Contains us u ⊎ Contains rest u
  after_in (Truth true) us rest u h = inl h
  after_in (Truth false) us rest u h = inr h
  after_in Unknown us rest u h = absurd (none_in u h)
  after_in Uncertain us rest u h = absurd (none_in u h)
  after_in (Num n) us rest u h = absurd (none_in u h)
  after_in (Words t) us rest u h = absurd (none_in u h)
  after_in (Day k) us rest u h = absurd (none_in u h)

  table_lies : (rs : List (RowPart Lying)) (p : Part Lying) (enclosing : List InstanceId) → AllByRecursion Live enclosing → (d : ℕ) (u : Use) → Contains (table_uses s l (row_useds rs) (uses s l p.0) enclosing d) u → Lies (row_names rs ++ mentioned p.0) u
  table_lies [] p enclosing live d u h = p.1 enclosing live d u h
  table_lies (r ∷ rs) p enclosing live d u h =
      let rest = table_uses s l (row_useds rs) (uses s l p.0) enclosing d in
      start (Contains-append_cases (uses s l r.0.cond enclosing d) _ u (subst (λ (a : RowUses). Contains (a.cond enclosing d ++ after_cond (value s l r.0.cond enclosing d) (a.value enclosing d) rest) u) (row_uses-is s l r.0) h))
      (λ k. table_lies rs p enclosing live d u k)
    where
      abbrev_here : (a : AttrId) → Contains (mentioned_row (record { cond = mentioned r.0.cond; value = mentioned r.0.value })) a → Contains (row_names (r ∷ rs) ++ mentioned p.0) a
      abbrev_here a k = Contains-append_left (row_names (r ∷ rs)) (mentioned p.0) a (Contains-append_left (row_mentions r.0) (row_names rs) a (subst (λ ms. Contains ms a) (sym (row_mentions-is r.0)) k))

      behind : (a : AttrId) → Contains (row_names rs ++ mentioned p.0) a → Contains (row_names (r ∷ rs) ++ mentioned p.0) a
      behind a k = go (Contains-append_cases (row_names rs) (mentioned p.0) a k)
        where
          go : Contains (row_names rs) a ⊎ Contains (mentioned p.0) a → Contains (row_names (r ∷ rs) ++ mentioned p.0) a
          go (inl k) = Contains-append_left (row_names (r ∷ rs)) (mentioned p.0) a (Contains-append_right (row_mentions r.0) (row_names rs) a k)
          go (inr k) = Contains-append_right (row_names (r ∷ rs)) (mentioned p.0) a k

      next : Contains (uses s l r.0.value enclosing d) u ⊎ Contains (table_uses s l (row_useds rs) (uses s l p.0) enclosing d) u → (Contains (table_uses s l (row_useds rs) (uses s l p.0) enclosing d) u → Lies (row_names rs ++ mentioned p.0) u) → Lies (row_names (r ∷ rs) ++ mentioned p.0) u
      next (inl k) more = wider (mentioned r.0.value) (row_names (r ∷ rs) ++ mentioned p.0) (λ a k. abbrev_here a (Contains-append_right (mentioned r.0.cond) (mentioned r.0.value) a k)) u (r.1.1 enclosing live d u k)
      next (inr k) more = wider (row_names rs ++ mentioned p.0) (row_names (r ∷ rs) ++ mentioned p.0) behind u (more k)

      start : Contains (uses s l r.0.cond enclosing d) u ⊎ Contains (after_cond (value s l r.0.cond enclosing d) (uses s l r.0.value enclosing d) (table_uses s l (row_useds rs) (uses s l p.0) enclosing d)) u → (Contains (table_uses s l (row_useds rs) (uses s l p.0) enclosing d) u → Lies (row_names rs ++ mentioned p.0) u) → Lies (row_names (r ∷ rs) ++ mentioned p.0) u
      start (inl k) more = wider (mentioned r.0.cond) (row_names (r ∷ rs) ++ mentioned p.0) (λ a k. abbrev_here a (Contains-append_left (mentioned r.0.cond) (mentioned r.0.value) a k)) u (r.1.0 enclosing live d u k)
      start (inr k) more = next (after_in (value s l r.0.cond enclosing d) (uses s l r.0.value enclosing d) _ u k) more

  attr_lies : (a : AttrId) (enclosing : List InstanceId) → AllByRecursion Live enclosing → (d : ℕ) (u : Use) (o : Option InstanceId) → place l.container enclosing (owner_of s a) ≡ o → Contains (at_place_uses o (λ i. Point a i d ∷ [])) u → Lies (a ∷ []) u
  attr_lies a enclosing live d u None e h = absurd (none_in u h)
  attr_lies a enclosing live d u (Some i) e h = go (contains_cases (Point a i d) u [] h)
    where
      go : (Point a i d ≡ u) ⊎ Contains [] u → Lies (a ∷ []) u
      go (inl q) = subst (Lies (a ∷ [])) q (contains_head a [], (places enclosing live (owner_of s a) i e, place_entity l.container enclosing (owner_of s a) i e))
      go (inr k) = absurd (none_in u k)

  list_lies : (q : Quant) (r : RelId) (ps : List (Part Lying)) (enclosing : List InstanceId) → AllByRecursion Live enclosing → (d : ℕ) (u : Use) (o : Option InstanceId) → place l.container enclosing (s.source r) ≡ o
      → Contains (at_place_uses o (λ i. Listed r i ∷ over_uses s l q (s.target r) (l.members r i) (useds ps) enclosing d)) u → Lies (names_of ps) u
  list_lies q r ps enclosing live d u None e h = absurd (none_in u h)
  list_lies q r ps enclosing live d u (Some i) e h = go (contains_cases (Listed r i) u (over_uses s l q (s.target r) (l.members r i) (useds ps) enclosing d) h)
    where
      go : (Listed r i ≡ u) ⊎ Contains (over_uses s l q (s.target r) (l.members r i) (useds ps) enclosing d) u → Lies (names_of ps) u
      go (inl k) = subst (Lies (names_of ps)) k (places enclosing live (s.source r) i e, place_entity l.container enclosing (s.source r) i e)
      go (inr k) = over_lies q r i ps (l.members r i) refl enclosing live d u k

  abbrev used : Expr-F (Part Lying) (RowPart Lying) → Expr-F Used RowUsed
  used z = map-Expr Expr Row Used RowUsed (λ e. (e, uses s l e)) (λ r. (r, row_uses s l r)) (without Lying z)

  abbrev meant : Expr-F (Part Lying) (RowPart Lying) → List AttrId
  meant z = mentioned_step (map-Expr Expr Row (List AttrId) (List AttrId) mentioned row_mentions (without Lying z))

  level_lies : (z : Expr-F (Part Lying) (RowPart Lying)) (enclosing : List InstanceId) → AllByRecursion Live enclosing → (d : ℕ) (u : Use) → Contains (uses_step s l (used z) enclosing d) u → Lies (meant z) u
  level_lies (Const v) enclosing live d u h = absurd (none_in u h)
  level_lies (Attr a) enclosing live d u h = attr_lies a enclosing live d u (place l.container enclosing (owner_of s a)) refl h
  level_lies (All ps) enclosing live d u h = let x = first_in (λ (x : Used). is_false (value s l x.0 enclosing d)) (λ x. x.1 enclosing d) (useds ps) u h in parts_lie ps x.0 x.1.0 enclosing live d u x.1.1
  level_lies (Any ps) enclosing live d u h = let x = first_in (λ (x : Used). is_true (value s l x.0 enclosing d)) (λ x. x.1 enclosing d) (useds ps) u h in parts_lie ps x.0 x.1.0 enclosing live d u x.1.1
  level_lies (Not p) enclosing live d u h = p.1 enclosing live d u h
  level_lies (Op k ps) enclosing live d u h = let x = flat_out (λ (x : Used). x.1 enclosing d) (useds ps) u h in parts_lie ps x.0 x.1.0 enclosing live d u x.1.1
  level_lies (Certain p) enclosing live d u h = p.1 enclosing live d u h
  level_lies (Known p) enclosing live d u h = p.1 enclosing live d u h
  level_lies (Over q r ps) enclosing live d u h = list_lies q r ps enclosing live d u (place l.container enclosing (s.source r)) refl h
  level_lies (Window k ps) enclosing live d u h = window_lies ps enclosing live d u h
  level_lies (Rolling b n p) enclosing live d u h = let x = flat_out (uses s l p.0 enclosing) (days (d + 1 - n) (d + 1 - (d + 1 - n))) u h in p.1 enclosing live x.0 u x.1.1
  level_lies (Table rs p) enclosing live d u h = table_lies rs p enclosing live d u h

  pub uses_lie : (e : Expr) → Lying e
  uses_lie = by_parts Lying (λ z enclosing live d u h. subst (λ ms. Lies ms u) (sym (mentioned-roll (without Lying z))) (level_lies z enclosing live d u (subst (λ (f : Uses). Contains (f enclosing d) u) (uses-roll s l (without Lying z)) h)))
