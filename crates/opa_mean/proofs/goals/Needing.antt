-- What a tree needs is declared, where all of the tree is reached from the enclosing entities.
use Rattle.std.proofs.Common.{◌≡◌, ◌⊎◌, inl, inr, ℕ, ◌+◌, ◌-◌, ◌<◌, Bool, true, false, cond, ◌&&◌, List, [], ◌∷◌, ◌++◌, length, map, Option, None, Some, Contains, sym, subst}
use Rattle.std.specs.Prelude.{flat_map, IsTrue}
use Rattle.std.proofs.lemmas.Bool.{and_parts}
use Rattle.std.proofs.lemmas.List.Elements.{Contains-append_cases}
use Rattle.std.proofs.lemmas.Option.{slice_get_within}
use Rattle.opa_io.proofs.Options.{there_is}
use Rattle.opa_value.specs.declared.value.Value.{Value}
use Rattle.opa_value.specs.declared.value.Value.TheVariants.{Unknown, Uncertain, Bool as Truth, Num, Words, Day}
use Rattle.opa_value.specs.Truth.{is_true, is_unknown}
use Rattle.opa_model.specs.declared.ids.AttrId.{AttrId}
use Rattle.opa_model.specs.declared.ids.EntityId.{EntityId}
use Rattle.opa_model.specs.declared.ids.RelId.{RelId}
use Rattle.opa_model.specs.declared.lists.Lists.{Lists}
use Rattle.opa_model.specs.declared.things.Attribute.{Attribute}
use Rattle.opa_model.specs.declared.things.Relation.{Relation}
use Rattle.opa_model.specs.Lookups.{attribute_at, relation_at}
use Rattle.opa_case.specs.Shapes.{Shape}
use Rattle.opa_cells.specs.declared.instance.InstanceId.{InstanceId}
use Rattle.opa_cells.specs.Instances.{named}
use Rattle.opa_tree.specs.declared.kinds.Quant.{Quant}
use Rattle.opa_tree.specs.declared.kinds.Quant.TheVariants as quant
use Rattle.opa_tree.specs.declared.expr.Expr.{Expr}
use Rattle.opa_tree.specs.declared.expr.Row.{Row}
use Rattle.opa_tree.specs.declared.expr.Expr.TheOpen.{Expr-F, Const, Attr, All, Any, Not, Op, Certain, Known, Over, Window, Rolling, Table}
use Rattle.opa_tree.specs.declared.expr.Expr.TheFolds.{fold-roll-Expr, map-Expr}
use Rattle.opa_tree.specs.declared.expr.Expr.TheViews.{roll-Expr}
use Rattle.opa_tree.specs.Scopes.{Scope, encloses, all_reached, scope_step, scope_row, is_reached}
use Rattle.opa_tree.proofs.Induction.{by_parts, Part, RowPart, without}
use Rattle.opa_tree.proofs.Members.{none_in, contains_head, contains_tail, contains_cases, flat_out}
use Rattle.opa_tree.proofs.ScopeLaws.{row_is_reached, scope-of_row}
use Rattle.opa_window.specs.Days.{days}
use Rattle.opa_mean.specs.Looks.{Look}
use Rattle.opa_mean.specs.Meaning.{value}
use Rattle.opa_mean.specs.Needs.{if_unknown, cond_needs, over_needs, part_needs, item_needs, window_needs, table_needs, needs_step, needs}
use Rattle.opa_mean.specs.Next.{question_of}
use Rattle.opa_mean.specs.Places.{owner_of, place}
use Rattle.opa_mean.specs.Uses.{Use, Uses, Used, RowUses, RowUsed, at_place_uses, on_date_uses, in_window_uses}
use Rattle.opa_mean.proofs.NeedsLaws.{row_needs, needs-roll, row_needs-is}
use Rattle.opa_mean.proofs.UsesAt.{date_in, window_in}
use Rattle.opa_mean.specs.Goals.Asked.{IsDeclared}

-- the question of a use is declared
abbrev pub IsAsked : Lists → Use → Type 0
IsAsked m u = IsDeclared m (question_of u)

-- needs on days, and where something is unknown
pub if_in : (v : Value) (us : List Use) (u : Use) → Contains (if_unknown v us) u → Contains us u
if_in v us u h = go (is_unknown v) h
  where
    go : (b : Bool) → Contains (cond b us []) u → Contains us u
    go true h = h
    go false h = absurd (none_in u h)

cond_in : (v : Value) (own us rest : List Use) (u : Use) → Contains (cond_needs v own us rest) u → Contains own u ⊎ (Contains us u ⊎ Contains rest u)
cond_in (Truth true) own us rest u h = inr (inl h)
cond_in (Truth false) own us rest u h = inr (inr h)
cond_in Unknown own us rest u h = inl h
cond_in Uncertain own us rest u h = absurd (none_in u h)
cond_in (Num n) own us rest u h = absurd (none_in u h)
cond_in (Words t) own us rest u h = absurd (none_in u h)
cond_in (Day k) own us rest u h = absurd (none_in u h)

module _ (m : Lists) (s : Shape) (l : Look) (list_need : RelId → InstanceId → Use) (at_point : AttrId → InstanceId → ℕ → List Use)
    (of_list : (r : RelId) (i : InstanceId) → r.0 < length m.relations → IsAsked m (list_need r i))
    (of_point : (a : AttrId) (i : InstanceId) (d : ℕ) (u : Use) → a.0 < length m.attributes → Contains (at_point a i d) u → IsAsked m u) where
  scope-roll : (x : Expr-F Expr Row) → is_reached m (roll-Expr x) ≡ scope_step m (map-Expr Expr Row Scope Scope (is_reached m) (row_is_reached m) x)
  unfolding is_reached row_is_reached
  scope-roll = fold-roll-Expr Scope Scope (scope_step m) scope_row

  abbrev whole : Expr → Uses
  whole = needs s l list_need at_point

  abbrev Declares : Expr → Type 0
  Declares e = (outer : List EntityId) → IsTrue (is_reached m e outer) → (enclosing : List InstanceId) (d : ℕ) (u : Use) → Contains (whole e enclosing d) u → IsAsked m u

  abbrev pair : Part Declares → Used
  pair p = (p.0, whole p.0)

  abbrev useds : List (Part Declares) → List Used
  useds ps = map (λ e. (e, whole e)) (map (λ p. p.0) ps)

  abbrev reached : List (Part Declares) → List EntityId → Bool
  reached ps outer = all_reached (map (is_reached m) (map (λ p. p.0) ps)) outer

  -- the needs of a part, where it is unknown
  abbrev own : Used → Uses
  own = part_needs s l list_need at_point

  parts_declared : (ps : List (Part Declares)) (outer : List EntityId) → IsTrue (reached ps outer) → (x : Used) → Contains (useds ps) x → (enclosing : List InstanceId) (d : ℕ) (u : Use) → Contains (own x enclosing d) u → IsAsked m u
  parts_declared [] outer r x h enclosing d u there = absurd (none_in x h)
  parts_declared (p ∷ ps) outer r x h enclosing d u there =
      let both = and_parts (is_reached m p.0 outer) (reached ps outer) r in go (contains_cases (pair p) x (useds ps) h) both.0 (λ k. parts_declared ps outer both.1 x k enclosing d u there)
    where
      go : (pair p ≡ x) ⊎ Contains (useds ps) x → IsTrue (is_reached m p.0 outer) → (Contains (useds ps) x → IsAsked m u) → IsAsked m u
      go (inl e) at rest = p.1 outer at enclosing d u (if_in (value s l p.0 enclosing d) (whole p.0 enclosing d) u (subst (λ (y : Used). Contains (own y enclosing d) u) (sym e) there))
      go (inr k) at rest = rest k

  -- each of several parts
  each_declared : (ps : List (Part Declares)) (outer : List EntityId) → IsTrue (reached ps outer) → (enclosing : List InstanceId) (d : ℕ) (u : Use) → Contains (flat_map (λ (x : Used). own x enclosing d) (useds ps)) u → IsAsked m u
  each_declared ps outer r enclosing d u h = let x = flat_out (λ (x : Used). own x enclosing d) (useds ps) u h in parts_declared ps outer r x.0 x.1.0 enclosing d u x.1.1

  -- items of a quantifier
  item_in : (q : Quant) (xs : List Used) (enclosing : List InstanceId) (d : ℕ) (u : Use) → Contains (item_needs s l list_need at_point q xs enclosing d) u → (x : Used) × (Contains xs x × Contains (own x enclosing d) u)
  item_in quant.SumIf (number ∷ test ∷ []) enclosing d u h = go (Contains-append_cases (own test enclosing d) _ u h)
    where
      at : (b : Bool) → Contains (cond b (own number enclosing d) []) u → (x : Used) × (Contains (number ∷ test ∷ []) x × Contains (own x enclosing d) u)
      at true k = (number, (contains_head number (test ∷ []), k))
      at false k = absurd (none_in u k)

      go : Contains (own test enclosing d) u ⊎ Contains (cond (is_true (value s l test.0 enclosing d)) (own number enclosing d) []) u → (x : Used) × (Contains (number ∷ test ∷ []) x × Contains (own x enclosing d) u)
      go (inl k) = (test, (contains_tail number test (test ∷ []) (contains_head test []), k))
      go (inr k) = at (is_true (value s l test.0 enclosing d)) k
  item_in q (x ∷ []) enclosing d u h = (x, (contains_head x [], h))
  item_in q _ enclosing d u h = absurd (none_in u h)

  over_declared : (q : Quant) (r : RelId) (i : InstanceId) (t : ℕ) (ps : List (Part Declares)) (outer : List EntityId) → r.0 < length m.relations → IsTrue (reached ps outer) → (o : Option (List (List ℕ))) (enclosing : List InstanceId) (d : ℕ) (u : Use)
      → Contains (over_needs (list_need r i) (λ n. item_needs s l list_need at_point q (useds ps) (named t n ∷ enclosing) d) o) u → IsAsked m u
  over_declared q r i t ps outer known scope None enclosing d u h = go (contains_cases (list_need r i) u [] h)
    where
      go : (list_need r i ≡ u) ⊎ Contains [] u → IsAsked m u
      go (inl e) = subst (IsAsked m) e (of_list r i known)
      go (inr k) = absurd (none_in u k)
  over_declared q r i t ps outer known scope (Some names) enclosing d u h =
      let n = flat_out (λ n. item_needs s l list_need at_point q (useds ps) (named t n ∷ enclosing) d) names u h in
      let x = item_in q (useds ps) (named t n.0 ∷ enclosing) d u n.1.1 in
      parts_declared ps outer scope x.0 x.1.0 (named t n.0 ∷ enclosing) d u x.1.1

  list_declared : (q : Quant) (r : RelId) (ps : List (Part Declares)) (outer : List EntityId) (x : Relation) → relation_at m r ≡ Some x → IsTrue (encloses m outer x.source && reached ps (x.target ∷ outer)) → (enclosing : List InstanceId) (d : ℕ) (u : Use) (o : Option InstanceId)
      → Contains (at_place_uses o (λ i. over_needs (list_need r i) (λ n. item_needs s l list_need at_point q (useds ps) (named (s.target r) n ∷ enclosing) d) (l.members r i))) u → IsAsked m u
  list_declared q r ps outer x is scope enclosing d u None h = absurd (none_in u h)
  list_declared q r ps outer x is scope enclosing d u (Some i) h =
      over_declared q r i (s.target r) ps (x.target ∷ outer) (slice_get_within m.relations r.0 x is) (and_parts (encloses m outer x.source) (reached ps (x.target ∷ outer)) scope).1 (l.members r i) enclosing d u h

  window_declared : (ps : List (Part Declares)) (outer : List EntityId) → IsTrue (reached ps outer) → (enclosing : List InstanceId) (d : ℕ) (u : Use) → Contains (window_needs s l list_need at_point (useds ps) enclosing d) u → IsAsked m u
  window_declared (p ∷ []) outer r enclosing d u h = parts_declared (p ∷ []) outer r (pair p) (contains_head (pair p) []) enclosing d u h
  window_declared (p ∷ q ∷ []) outer r enclosing d u h = go (Contains-append_cases (own (pair p) enclosing d) _ u h)
    where
      go : Contains (own (pair p) enclosing d) u ⊎ Contains (on_date_uses (own (pair q) enclosing) (value s l p.0 enclosing d)) u → IsAsked m u
      go (inl k) = parts_declared (p ∷ q ∷ []) outer r (pair p) (contains_head (pair p) (pair q ∷ [])) enclosing d u k
      go (inr k) = let x = date_in (own (pair q) enclosing) (value s l p.0 enclosing d) u k in parts_declared (p ∷ q ∷ []) outer r (pair q) (contains_tail (pair p) (pair q) (pair q ∷ []) (contains_head (pair q) [])) enclosing x.0 u x.1
  window_declared (p ∷ q ∷ z ∷ []) outer r enclosing d u h = go (Contains-append_cases (own (pair p) enclosing d) _ u h)
    where
      third : Contains (useds (p ∷ q ∷ z ∷ [])) (pair z)
      third = contains_tail (pair p) (pair z) (pair q ∷ pair z ∷ []) (contains_tail (pair q) (pair z) (pair z ∷ []) (contains_head (pair z) []))

      at : Contains (own (pair q) enclosing d) u ⊎ Contains (in_window_uses (own (pair z) enclosing) (value s l p.0 enclosing d) (value s l q.0 enclosing d)) u → IsAsked m u
      at (inl k) = parts_declared (p ∷ q ∷ z ∷ []) outer r (pair q) (contains_tail (pair p) (pair q) (pair q ∷ pair z ∷ []) (contains_head (pair q) (pair z ∷ []))) enclosing d u k
      at (inr k) = let x = window_in (own (pair z) enclosing) (value s l p.0 enclosing d) (value s l q.0 enclosing d) u k in parts_declared (p ∷ q ∷ z ∷ []) outer r (pair z) third enclosing x.0 u x.1

      go : Contains (own (pair p) enclosing d) u ⊎ Contains (own (pair q) enclosing d ++ in_window_uses (own (pair z) enclosing) (value s l p.0 enclosing d) (value s l q.0 enclosing d)) u → IsAsked m u
      go (inl k) = parts_declared (p ∷ q ∷ z ∷ []) outer r (pair p) (contains_head (pair p) (pair q ∷ pair z ∷ [])) enclosing d u k
      go (inr k) = at (Contains-append_cases (own (pair q) enclosing d) _ u k)
  window_declared _ outer r enclosing d u h = absurd (none_in u h)

  abbrev row_useds : List (RowPart Declares) → List RowUsed
  row_useds rs = map (λ r. (r, row_needs s l list_need at_point r)) (map (λ r. r.0) rs)

  abbrev rows_reached : List (RowPart Declares) → List EntityId → Bool
  rows_reached rs outer = all_reached (map (row_is_reached m) (map (λ r. r.0) rs)) outer

  table_declared : (rs : List (RowPart Declares)) (p : Part Declares) (outer : List EntityId) → IsTrue (rows_reached rs outer) → IsTrue (is_reached m p.0 outer) → (enclosing : List InstanceId) (d : ℕ) (u : Use) → Contains (table_needs s l list_need at_point (row_useds rs) (whole p.0) enclosing d) u → IsAsked m u
  table_declared [] p outer r last enclosing d u h = p.1 outer last enclosing d u h
  table_declared (r ∷ rs) p outer scope last enclosing d u h =
      let rest = table_needs s l list_need at_point (row_useds rs) (whole p.0) enclosing d in
      let both = and_parts (row_is_reached m r.0 outer) (rows_reached rs outer) scope in
      let parts = and_parts (is_reached m r.0.cond outer) (is_reached m r.0.value outer) (subst (λ (f : Scope). IsTrue (f outer)) (scope-of_row m r.0) both.0) in
      go (cond_in (value s l r.0.cond enclosing d) (whole r.0.cond enclosing d) (whole r.0.value enclosing d) rest u
      (subst (λ (a : RowUses). Contains (cond_needs (value s l r.0.cond enclosing d) (a.cond enclosing d) (a.value enclosing d) rest) u) (row_needs-is s l list_need at_point r.0) h)) parts.0 parts.1
      (λ k. table_declared rs p outer both.1 last enclosing d u k)
    where
      go : Contains (whole r.0.cond enclosing d) u ⊎ (Contains (whole r.0.value enclosing d) u ⊎ Contains (table_needs s l list_need at_point (row_useds rs) (whole p.0) enclosing d) u) → IsTrue (is_reached m r.0.cond outer) → IsTrue (is_reached m r.0.value outer)
          → (Contains (table_needs s l list_need at_point (row_useds rs) (whole p.0) enclosing d) u → IsAsked m u) → IsAsked m u
      go (inl k) first second more = r.1.0 outer first enclosing d u k
      go (inr (inl k)) first second more = r.1.1 outer second enclosing d u k
      go (inr (inr k)) first second more = more k

  attr_declared : (a : AttrId) (outer : List EntityId) → IsTrue (scope_step m (Attr a) outer) → (d : ℕ) (u : Use) (o : Option InstanceId) → Contains (at_place_uses o (λ i. at_point a i d)) u → IsAsked m u
  attr_declared a outer r d u None h = absurd (none_in u h)
  attr_declared a outer r d u (Some i) h = let x = there_is (attribute_at m a) (λ (x : Attribute). encloses m outer x.entity) r in of_point a i d u (slice_get_within m.attributes a.0 x.0 x.1.0) h

  abbrev used : Expr-F (Part Declares) (RowPart Declares) → Expr-F Used RowUsed
  used z = map-Expr Expr Row Used RowUsed (λ e. (e, whole e)) (λ r. (r, row_needs s l list_need at_point r)) (without Declares z)

  level_declared : (z : Expr-F (Part Declares) (RowPart Declares)) (outer : List EntityId) → IsTrue (scope_step m (map-Expr Expr Row Scope Scope (is_reached m) (row_is_reached m) (without Declares z)) outer)
      → (enclosing : List InstanceId) (d : ℕ) (u : Use) → Contains (needs_step s l list_need at_point (used z) enclosing d) u → IsAsked m u
  level_declared (Const v) outer r enclosing d u h = absurd (none_in u h)
  level_declared (Attr a) outer r enclosing d u h = attr_declared a outer r d u (place l.container enclosing (owner_of s a)) h
  level_declared (All ps) outer r enclosing d u h = each_declared ps outer r enclosing d u h
  level_declared (Any ps) outer r enclosing d u h = each_declared ps outer r enclosing d u h
  level_declared (Not p) outer r enclosing d u h = p.1 outer r enclosing d u h
  level_declared (Op k ps) outer r enclosing d u h = each_declared ps outer r enclosing d u h
  level_declared (Certain p) outer r enclosing d u h = p.1 outer r enclosing d u h
  level_declared (Known p) outer r enclosing d u h = absurd (none_in u h)
  level_declared (Over q rel ps) outer r enclosing d u h =
      let x = there_is (relation_at m rel) (λ (x : Relation). encloses m outer x.source && reached ps (x.target ∷ outer)) r in
      list_declared q rel ps outer x.0 x.1.0 x.1.1 enclosing d u (place l.container enclosing (s.source rel)) h
  level_declared (Window k ps) outer r enclosing d u h = window_declared ps outer r enclosing d u h
  level_declared (Rolling b n p) outer r enclosing d u h =
      let x = flat_out (own (pair p) enclosing) (days (d + 1 - n) (d + 1 - (d + 1 - n))) u h in
      p.1 outer r enclosing x.0 u (if_in (value s l p.0 enclosing x.0) (whole p.0 enclosing x.0) u x.1.1)
  level_declared (Table rs p) outer r enclosing d u h = let both = and_parts (rows_reached rs outer) (is_reached m p.0 outer) r in table_declared rs p outer both.0 both.1 enclosing d u h

  pub needs_declared : (e : Expr) → Declares e
  needs_declared = by_parts Declares (λ z outer r enclosing d u h.
      level_declared z outer (subst (λ (f : Scope). IsTrue (f outer)) (scope-roll (without Declares z)) r) enclosing d u (subst (λ (f : Uses). Contains (f enclosing d) u) (needs-roll s l list_need at_point (without Declares z)) h))
