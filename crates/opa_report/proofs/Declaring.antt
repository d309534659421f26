-- What a tree uses is declared, where all of the tree is reached from the enclosing entities.
use Rattle.std.proofs.Common.{◌≡◌, ◌⊎◌, inl, inr, ℕ, ◌+◌, ◌-◌, ◌<◌, Bool, true, false, cond, ◌&&◌, List, [], ◌∷◌, ◌++◌, length, map, Option, None, Some, Contains, refl, sym, ◌∙◌, ap, subst}
use Rattle.std.specs.Prelude.{find, flat_map, IsTrue}
use Rattle.std.specs.List.{list_all}
use Rattle.std.proofs.lemmas.Bool.{and_parts}
use Rattle.std.proofs.lemmas.List.Elements.{Contains-append_cases}
use Rattle.std.proofs.lemmas.Option.{slice_get_within}
use Rattle.opa_io.proofs.Options.{there_is}
use Rattle.opa_value.specs.declared.value.Value.{Value}
use Rattle.opa_value.specs.declared.value.Value.TheVariants.{Unknown, Uncertain, Bool as Truth, Num, Words, Day}
use Rattle.opa_value.specs.Truth.{is_true, is_false}
use Rattle.opa_model.specs.declared.ids.AttrId.{AttrId}
use Rattle.opa_model.specs.declared.ids.EntityId.{EntityId}
use Rattle.opa_model.specs.declared.ids.RelId.{RelId}
use Rattle.opa_model.specs.declared.lists.Lists.{Lists}
use Rattle.opa_model.specs.declared.things.Attribute.{Attribute}
use Rattle.opa_model.specs.declared.things.Relation.{Relation}
use Rattle.opa_model.specs.Lookups.{attribute_at, relation_at}
use Rattle.opa_case.specs.Shapes.{Shape}
use Rattle.opa_cells.specs.declared.instance.InstanceId.{InstanceId}
use Rattle.opa_cells.specs.Instances.{named}
use Rattle.opa_tree.specs.declared.kinds.Quant.{Quant}
use Rattle.opa_tree.specs.declared.kinds.Quant.TheVariants as quant
use Rattle.opa_tree.specs.declared.expr.Expr.{Expr}
use Rattle.opa_tree.specs.declared.expr.Row.{Row}
use Rattle.opa_tree.specs.declared.expr.Expr.TheOpen.{Expr-F, Const, Attr, All, Any, Not, Op, Certain, Known, Over, Window, Rolling, Table}
use Rattle.opa_tree.specs.declared.expr.Expr.TheFolds.{fold-roll-Expr, map-Expr}
use Rattle.opa_tree.specs.declared.expr.Expr.TheViews.{roll-Expr}
use Rattle.opa_tree.specs.Scopes.{Scope, encloses, all_reached, scope_step, scope_row, is_reached}
use Rattle.opa_tree.proofs.Induction.{by_parts, Part, RowPart, without}
use Rattle.opa_tree.proofs.Members.{none_in, contains_head, contains_tail, contains_cases, flat_out}
use Rattle.opa_tree.proofs.ScopeLaws.{row_is_reached, scope-of_row}
use Rattle.opa_window.specs.Days.{days}
use Rattle.opa_mean.specs.Looks.{Look}
use Rattle.opa_mean.specs.Meaning.{value}
use Rattle.opa_mean.specs.Places.{owner_of, place}
use Rattle.opa_mean.specs.Uses.{Use, Point, Listed, Uses, Used, RowUses, RowUsed, found_or, first_or_all, member_uses, at_place_uses, on_date_uses, in_window_uses, after_cond, item_uses, item_value, over_uses, window_uses, table_uses, uses_step, uses}
use Rattle.opa_mean.proofs.UseLaws.{row_uses, uses-roll, row_uses-is}
use Rattle.opa_mean.proofs.UsesAt.{date_in, window_in}
use Rattle.opa_report.specs.Declares.{IsDeclared}

-- what is used of several is used of one of them
first_in : {X : Type 0} (p : X → Bool) (f : X → List Use) (xs : List X) (u : Use) → Contains (first_or_all p f xs) u → (x : X) × (Contains xs x × Contains (f x) u)
first_in {X = X} p f xs u h = go xs u (find p xs) (λ x e. found_in xs x e) h
  where
    found_in : (xs : List X) (x : X) → find p xs ≡ Some x → Contains xs x
    found_in [] x e = absurd (cc e)
    found_in (y ∷ xs) x e = at (p y) refl (found_in xs x)
      where
        at : (b : Bool) → p y ≡ b → (find p xs ≡ Some x → Contains xs x) → Contains (y ∷ xs) x
        at true q rest = let same : y ≡ x = cc (e, ap (λ b. cond b (Some y) (find p xs)) q) in subst (Contains (y ∷ xs)) same (contains_head y xs)
        at false q rest = contains_tail y x xs (rest (sym (ap (λ b. cond b (Some y) (find p xs)) q) ∙ e))

    go : (xs : List X) (u : Use) (o : Option X) → ((x : X) → o ≡ Some x → Contains xs x) → Contains (found_or o f (flat_map f xs)) u → (x : X) × (Contains xs x × Contains (f x) u)
    go xs u None there h = flat_out f xs u h
    go xs u (Some x) there h = (x, (there x refl, h))

after_in : (v : Value) (us rest : List Use) (u : Use) → Contains (after_cond v us rest) u → Contains us u ⊎ Contains rest u
after_in (Truth true) us rest u h = inl h
after_in (Truth false) us rest u h = inr h
after_in Unknown us rest u h = absurd (none_in u h)
after_in Uncertain us rest u h = absurd (none_in u h)
after_in (Num n) us rest u h = absurd (none_in u h)
after_in (Words t) us rest u h = absurd (none_in u h)
after_in (Day k) us rest u h = absurd (none_in u h)

module _ (m : Lists) (s : Shape) (l : Look) where
  scope-roll : (x : Expr-F Expr Row) → is_reached m (roll-Expr x) ≡ scope_step m (map-Expr Expr Row Scope Scope (is_reached m) (row_is_reached m) x)
  unfolding is_reached row_is_reached
  scope-roll = fold-roll-Expr Scope Scope (scope_step m) scope_row

  abbrev Declares : Expr → Type 0
  Declares e = (outer : List EntityId) → IsTrue (is_reached m e outer) → (enclosing : List InstanceId) (d : ℕ) (u : Use) → Contains (uses s l e enclosing d) u → IsDeclared m u

  abbrev pair : Part Declares → Used
  pair p = (p.0, uses s l p.0)

  abbrev useds : List (Part Declares) → List Used
  useds ps = map (λ e. (e, uses s l e)) (map (λ p. p.0) ps)

  abbrev reached : List (Part Declares) → List EntityId → Bool
  reached ps outer = all_reached (map (is_reached m) (map (λ p. p.0) ps)) outer

  parts_declared : (ps : List (Part Declares)) (outer : List EntityId) → IsTrue (reached ps outer) → (x : Used) → Contains (useds ps) x → (enclosing : List InstanceId) (d : ℕ) (u : Use) → Contains (x.1 enclosing d) u → IsDeclared m u
  parts_declared [] outer r x h enclosing d u there = absurd (none_in x h)
  parts_declared (p ∷ ps) outer r x h enclosing d u there =
      let both = and_parts (is_reached m p.0 outer) (reached ps outer) r in go (contains_cases (pair p) x (useds ps) h) both.0 (λ k. parts_declared ps outer both.1 x k enclosing d u there)
    where
      go : (pair p ≡ x) ⊎ Contains (useds ps) x → IsTrue (is_reached m p.0 outer) → (Contains (useds ps) x → IsDeclared m u) → IsDeclared m u
      go (inl e) own rest = p.1 outer own enclosing d u (subst (λ (y : Used). Contains (y.1 enclosing d) u) (sym e) there)
      go (inr k) own rest = rest k

  -- items of a quantifier
  item_in : (q : Quant) (xs : List Used) (enclosing : List InstanceId) (d : ℕ) (u : Use) → Contains (item_uses s l q xs enclosing d) u → (x : Used) × (Contains xs x × Contains (x.1 enclosing d) u)
  item_in quant.SumIf (number ∷ test ∷ []) enclosing d u h = go (Contains-append_cases (test.1 enclosing d) _ u h)
    where
      at : (b : Bool) → Contains (cond b (number.1 enclosing d) []) u → (x : Used) × (Contains (number ∷ test ∷ []) x × Contains (x.1 enclosing d) u)
      at true k = (number, (contains_head number (test ∷ []), k))
      at false k = absurd (none_in u k)

      go : Contains (test.1 enclosing d) u ⊎ Contains (cond (is_true (value s l test.0 enclosing d)) (number.1 enclosing d) []) u → (x : Used) × (Contains (number ∷ test ∷ []) x × Contains (x.1 enclosing d) u)
      go (inl k) = (test, (contains_tail number test (test ∷ []) (contains_head test []), k))
      go (inr k) = at (is_true (value s l test.0 enclosing d)) k
  item_in q (x ∷ []) enclosing d u h = (x, (contains_head x [], h))
  item_in q _ enclosing d u h = absurd (none_in u h)

  member_in : (q : Quant) (v : List ℕ → Value) (f : List ℕ → List Use) (names : List (List ℕ)) (u : Use) → Contains (member_uses q v f names) u → (n : List ℕ) × (Contains names n × Contains (f n) u)
  member_in quant.ForAll v f names u h = first_in (λ n. is_false (v n)) f names u h
  member_in quant.Exists v f names u h = first_in (λ n. is_true (v n)) f names u h
  member_in q v f names u h = flat_out f names u h

  over_declared : (q : Quant) (t : ℕ) (ps : List (Part Declares)) (outer : List EntityId) → IsTrue (reached ps outer) → (o : Option (List (List ℕ))) (enclosing : List InstanceId) (d : ℕ) (u : Use) → Contains (over_uses s l q t o (useds ps) enclosing d) u → IsDeclared m u
  over_declared q t ps outer r None enclosing d u h = absurd (none_in u h)
  over_declared q t ps outer r (Some names) enclosing d u h =
      let n = member_in q (λ n. item_value s l q (useds ps) (named t n ∷ enclosing) d) (λ n. item_uses s l q (useds ps) (named t n ∷ enclosing) d) names u h in
      let x = item_in q (useds ps) (named t n.0 ∷ enclosing) d u n.1.1 in
      parts_declared ps outer r x.0 x.1.0 (named t n.0 ∷ enclosing) d u x.1.1

  window_declared : (ps : List (Part Declares)) (outer : List EntityId) → IsTrue (reached ps outer) → (enclosing : List InstanceId) (d : ℕ) (u : Use) → Contains (window_uses s l (useds ps) enclosing d) u → IsDeclared m u
  window_declared (p ∷ []) outer r enclosing d u h = parts_declared (p ∷ []) outer r (pair p) (contains_head (pair p) []) enclosing d u h
  window_declared (p ∷ q ∷ []) outer r enclosing d u h = go (Contains-append_cases (uses s l p.0 enclosing d) _ u h)
    where
      go : Contains (uses s l p.0 enclosing d) u ⊎ Contains (on_date_uses (uses s l q.0 enclosing) (value s l p.0 enclosing d)) u → IsDeclared m u
      go (inl k) = parts_declared (p ∷ q ∷ []) outer r (pair p) (contains_head (pair p) (pair q ∷ [])) enclosing d u k
      go (inr k) = let x = date_in (uses s l q.0 enclosing) (value s l p.0 enclosing d) u k in parts_declared (p ∷ q ∷ []) outer r (pair q) (contains_tail (pair p) (pair q) (pair q ∷ []) (contains_head (pair q) [])) enclosing x.0 u x.1
  window_declared (p ∷ q ∷ z ∷ []) outer r enclosing d u h = go (Contains-append_cases (uses s l p.0 enclosing d) _ u h)
    where
      third : Contains (useds (p ∷ q ∷ z ∷ [])) (pair z)
      third = contains_tail (pair p) (pair z) (pair q ∷ pair z ∷ []) (contains_tail (pair q) (pair z) (pair z ∷ []) (contains_head (pair z) []))

      at : Contains (uses s l q.0 enclosing d) u ⊎ Contains (in_window_uses (uses s l z.0 enclosing) (value s l p.0 enclosing d) (value s l q.0 enclosing d)) u → IsDeclared m u
      at (inl k) = parts_declared (p ∷ q ∷ z ∷ []) outer r (pair q) (contains_tail (pair p) (pair q) (pair q ∷ pair z ∷ []) (contains_head (pair q) (pair z ∷ []))) enclosing d u k
      at (inr k) = let x = window_in (uses s l z.0 enclosing) (value s l p.0 enclosing d) (value s l q.0 enclosing d) u k in parts_declared (p ∷ q ∷ z ∷ []) outer r (pair z) third enclosing x.0 u x.1

      go : Contains (uses s l p.0 enclosing d) u ⊎ Contains (uses s l q.0 enclosing d ++ in_window_uses (uses s l z.0 enclosing) (value s l p.0 enclosing d) (value s l q.0 enclosing d)) u → IsDeclared m u
      go (inl k) = parts_declared (p ∷ q ∷ z ∷ []) outer r (pair p) (contains_head (pair p) (pair q ∷ pair z ∷ [])) enclosing d u k
      go (inr k) = at (Contains-append_cases (uses s l q.0 enclosing d) _ u k)
  window_declared _ outer r enclosing d u h = absurd (none_in u h)

  abbrev row_useds : List (RowPart Declares) → List RowUsed
  row_useds rs = map (λ r. (r, row_uses s l r)) (map (λ r. r.0) rs)

  abbrev rows_reached : List (RowPart Declares) → List EntityId → Bool
  rows_reached rs outer = all_reached (map (row_is_reached m) (map (λ r. r.0) rs)) outer

  table_declared : (rs : List (RowPart Declares)) (p : Part Declares) (outer : List EntityId) → IsTrue (rows_reached rs outer) → IsTrue (is_reached m p.0 outer) → (enclosing : List InstanceId) (d : ℕ) (u : Use) → Contains (table_uses s l (row_useds rs) (uses s l p.0) enclosing d) u → IsDeclared m u
  table_declared [] p outer r last enclosing d u h = p.1 outer last enclosing d u h
  table_declared (r ∷ rs) p outer reached last enclosing d u h =
      let rest = table_uses s l (row_useds rs) (uses s l p.0) enclosing d in
      let both = and_parts (row_is_reached m r.0 outer) (rows_reached rs outer) reached in
      let own = and_parts (is_reached m r.0.cond outer) (is_reached m r.0.value outer) (subst (λ (f : Scope). IsTrue (f outer)) (scope-of_row m r.0) both.0) in
      start (Contains-append_cases (uses s l r.0.cond enclosing d) _ u (subst (λ (a : RowUses). Contains (a.cond enclosing d ++ after_cond (value s l r.0.cond enclosing d) (a.value enclosing d) rest) u) (row_uses-is s l r.0) h)) own.0 own.1
      (λ k. table_declared rs p outer both.1 last enclosing d u k)
    where
      next : Contains (uses s l r.0.value enclosing d) u ⊎ Contains (table_uses s l (row_useds rs) (uses s l p.0) enclosing d) u → IsTrue (is_reached m r.0.value outer) → (Contains (table_uses s l (row_useds rs) (uses s l p.0) enclosing d) u → IsDeclared m u) → IsDeclared m u
      next (inl k) own more = r.1.1 outer own enclosing d u k
      next (inr k) own more = more k

      start : Contains (uses s l r.0.cond enclosing d) u ⊎ Contains (after_cond (value s l r.0.cond enclosing d) (uses s l r.0.value enclosing d) (table_uses s l (row_useds rs) (uses s l p.0) enclosing d)) u → IsTrue (is_reached m r.0.cond outer) → IsTrue (is_reached m r.0.value outer)
          → (Contains (table_uses s l (row_useds rs) (uses s l p.0) enclosing d) u → IsDeclared m u) → IsDeclared m u
      start (inl k) first second more = r.1.0 outer first enclosing d u k
      start (inr k) first second more = next (after_in (value s l r.0.cond enclosing d) (uses s l r.0.value enclosing d) _ u k) second more

  attr_declared : (a : AttrId) (outer : List EntityId) → IsTrue (scope_step m (Attr a) outer) → (d : ℕ) (u : Use) (o : Option InstanceId) → Contains (at_place_uses o (λ i. Point a i d ∷ [])) u → IsDeclared m u
  attr_declared a outer r d u None h = absurd (none_in u h)
  attr_declared a outer r d u (Some i) h = go (contains_cases (Point a i d) u [] h)
    where
      go : (Point a i d ≡ u) ⊎ Contains [] u → IsDeclared m u
      go (inl q) = let x = there_is (attribute_at m a) (λ (x : Attribute). encloses m outer x.entity) r in subst (IsDeclared m) q (slice_get_within m.attributes a.0 x.0 x.1.0)
      go (inr k) = absurd (none_in u k)

  list_declared : (q : Quant) (r : RelId) (ps : List (Part Declares)) (outer : List EntityId) (x : Relation) → relation_at m r ≡ Some x → IsTrue (encloses m outer x.source && reached ps (x.target ∷ outer)) → (enclosing : List InstanceId) (d : ℕ) (u : Use) (o : Option InstanceId)
      → Contains (at_place_uses o (λ i. Listed r i ∷ over_uses s l q (s.target r) (l.members r i) (useds ps) enclosing d)) u → IsDeclared m u
  list_declared q r ps outer x is scope enclosing d u None h = absurd (none_in u h)
  list_declared q r ps outer x is scope enclosing d u (Some i) h = go (contains_cases (Listed r i) u (over_uses s l q (s.target r) (l.members r i) (useds ps) enclosing d) h)
    where
      go : (Listed r i ≡ u) ⊎ Contains (over_uses s l q (s.target r) (l.members r i) (useds ps) enclosing d) u → IsDeclared m u
      go (inl k) = subst (IsDeclared m) k (slice_get_within m.relations r.0 x is)
      go (inr k) = over_declared q (s.target r) ps (x.target ∷ outer) (and_parts (encloses m outer x.source) (reached ps (x.target ∷ outer)) scope).1 (l.members r i) enclosing d u k

  abbrev used : Expr-F (Part Declares) (RowPart Declares) → Expr-F Used RowUsed
  used z = map-Expr Expr Row Used RowUsed (λ e. (e, uses s l e)) (λ r. (r, row_uses s l r)) (without Declares z)

  level_declared : (z : Expr-F (Part Declares) (RowPart Declares)) (outer : List EntityId) → IsTrue (scope_step m (map-Expr Expr Row Scope Scope (is_reached m) (row_is_reached m) (without Declares z)) outer)
      → (enclosing : List InstanceId) (d : ℕ) (u : Use) → Contains (uses_step s l (used z) enclosing d) u → IsDeclared m u
  level_declared (Const v) outer r enclosing d u h = absurd (none_in u h)
  level_declared (Attr a) outer r enclosing d u h = attr_declared a outer r d u (place l.container enclosing (owner_of s a)) h
  level_declared (All ps) outer r enclosing d u h = let x = first_in (λ (x : Used). is_false (value s l x.0 enclosing d)) (λ x. x.1 enclosing d) (useds ps) u h in parts_declared ps outer r x.0 x.1.0 enclosing d u x.1.1
  level_declared (Any ps) outer r enclosing d u h = let x = first_in (λ (x : Used). is_true (value s l x.0 enclosing d)) (λ x. x.1 enclosing d) (useds ps) u h in parts_declared ps outer r x.0 x.1.0 enclosing d u x.1.1
  level_declared (Not p) outer r enclosing d u h = p.1 outer r enclosing d u h
  level_declared (Op k ps) outer r enclosing d u h = let x = flat_out (λ (x : Used). x.1 enclosing d) (useds ps) u h in parts_declared ps outer r x.0 x.1.0 enclosing d u x.1.1
  level_declared (Certain p) outer r enclosing d u h = p.1 outer r enclosing d u h
  level_declared (Known p) outer r enclosing d u h = p.1 outer r enclosing d u h
  level_declared (Over q rel ps) outer r enclosing d u h =
      let x = there_is (relation_at m rel) (λ (x : Relation). encloses m outer x.source && reached ps (x.target ∷ outer)) r in
      list_declared q rel ps outer x.0 x.1.0 x.1.1 enclosing d u (place l.container enclosing (s.source rel)) h
  level_declared (Window k ps) outer r enclosing d u h = window_declared ps outer r enclosing d u h
  level_declared (Rolling b n p) outer r enclosing d u h = let x = flat_out (uses s l p.0 enclosing) (days (d + 1 - n) (d + 1 - (d + 1 - n))) u h in p.1 outer r enclosing x.0 u x.1.1
  level_declared (Table rs p) outer r enclosing d u h = let both = and_parts (rows_reached rs outer) (is_reached m p.0 outer) r in table_declared rs p outer both.0 both.1 enclosing d u h

  pub uses_declared : (e : Expr) → Declares e
  uses_declared = by_parts Declares (λ z outer r enclosing d u h.
      level_declared z outer (subst (λ (f : Scope). IsTrue (f outer)) (scope-roll (without Declares z)) r) enclosing d u (subst (λ (f : Uses). Contains (f enclosing d) u) (uses-roll s l (without Declares z)) h))
