-- Days on which all that is needed is found.
use Rattle.std.proofs.Common.{◌≡◌, ℕ, zero, suc, ◌+◌, ◌-◌, ◌<◌, ◌≤◌, min, Bool, true, false, cond, List, [], ◌∷◌, ◌++◌, length, take, get_or, None, refl, sym, ◌∙◌, ap, subst, arith}
use Rattle.std.specs.Prelude.{flat_map, nat_lt, Result, IfOk}
use Rattle.std.specs.FinMap.{FinMap}
use Rattle.std.proofs.lemmas.Bool.{ltb-true, ltb-false}
use Rattle.opa_io.proofs.Results.{if_ok_then}
use Rattle.opa_value.specs.declared.value.Value.{Value}
use Rattle.opa_value.specs.Truth.{is_unknown}
use Rattle.opa_model.specs.declared.ids.AttrId.{AttrId}
use Rattle.opa_cells.specs.declared.instance.InstanceId.{InstanceId}
use Rattle.opa_case.specs.Cases.{CaseView}
use Rattle.opa_case.specs.Shapes.{shape_of}
use Rattle.opa_case.specs.declared.question.Question.{Question}
use Rattle.opa_tree.specs.Rules.{rule_of}
use Rattle.opa_tree.specs.declared.kinds.OpKind.{OpKind}
use Rattle.opa_tree.specs.declared.expr.Expr.{Expr}
use Rattle.opa_tree.specs.declared.expr.Expr.TheVariants as V
use Rattle.opa_tree.specs.declared.rulebase.Rulebase.{Rulebase}
use Rattle.opa_window.specs.Days.{days}
use Rattle.opa_mean.specs.Given.{base_of, facts_of}
use Rattle.opa_mean.specs.Needs.{asked}
use Rattle.opa_mean.specs.Rulebases.{IsOf}
use Rattle.opa_mean.specs.Uses.{Use}
use Rattle.opa_mean.proofs.Everywhere.{all_append, all_parts}
use Rattle.opa_need.specs.Finding.{AreFound}
use Rattle.opa_mean.specs.PartNeeds as part
use Rattle.opa_need.specs.Steps.{IsSettled, Settles, HasUntil, tree_needs, part_needs, part_value, parts_needs, last_needs, attr_needs, point_needs}
use Rattle.opa_need.specs.declared.runs.Run.{Run}
use Rattle.opa_cells.specs.Keys.{cell_cmp}
use Rattle.opa_mean.proofs.NeedsLaws as law
use Rattle.opa_need.proofs.OpeningLaws.{flat_more}
use Rattle.opa_need.proofs.Pursuing.{unruled}

-- the same needs are settled alike
pub settled_as : (f g : ℕ → List Use) (found : List Question) (d until : ℕ) → ((k : ℕ) → f k ≡ g k) → IsSettled f found d until → IsSettled g found d until
settled_as f g found d until same h k low high = subst (AreFound found) (same k) (h k low high)

pub settled_none : (f : ℕ → List Use) (found : List Question) (d until : ℕ) → ((k : ℕ) → f k ≡ []) → IsSettled f found d until
settled_none f found d until none k low high = subst (AreFound found) (sym (none k)) tt

-- days that are settled one behind the other
pub settled_on : (f : ℕ → List Use) (found : List Question) (s a b : ℕ) → IsSettled f found s a → IsSettled f found a b → IsSettled f found s b
settled_on f found s a b h j k low high = go (nat_lt k a) refl
  where
    go : (t : Bool) → nat_lt k a ≡ t → AreFound found (f k)
    go true e = h k low (ltb-true k a e)
    go false e = j k (ltb-false k a e) high

-- all that is needed on a day of several is found with them
found_each : {X : Type 0} (f : X → List Use) (found : List Question) (xs : List X) (i : ℕ) (x : X) → i < length xs → x ≡ get_or xs i x → AreFound found (flat_map f xs) → AreFound found (f x)
found_each f found [] i x within is h = absurd (omega (arith, within))
found_each f found (y ∷ xs) zero x within is h = subst (λ z. AreFound found (f z)) (sym is) (all_parts _ (f y) (flat_map f xs) h).0
found_each f found (y ∷ xs) (suc i) x within is h = found_each f found xs i x (omega (arith, within)) is (all_parts _ (f y) (flat_map f xs) h).1

-- one more of several that are gone through
pub settled_more : {X : Type 0} (f : X → ℕ → List Use) (found : List Question) (xs : List X) (i : ℕ) (x : X) (d a b least : ℕ) → i < length xs → x ≡ get_or xs i x → least ≡ min a b → AreFound found (flat_map (λ y. f y d) xs)
    → IsSettled (λ k. flat_map (λ y. f y k) (take i xs)) found d a → (AreFound found (f x d) → IsSettled (f x) found d b) → IsSettled (λ k. flat_map (λ y. f y k) (take (i + 1) xs)) found d least
settled_more f found xs i x d a b least within is e there old own k low high =
    subst (AreFound found) (sym (flat_more (λ y. f y k) xs i x within is))
    (all_append _ (flat_map (λ y. f y k) (take i xs)) (f x k) (old k low (omega (arith, e, high))) (own (found_each (λ y. f y d) found xs i x within is there) k low (omega (arith, e, high))))

-- two behind one another
pub settled_both : (f g : ℕ → List Use) (found : List Question) (d a b until : ℕ) → until ≡ min a b → (AreFound found (f d) → IsSettled f found d a) → (AreFound found (g d) → IsSettled g found d b) → AreFound found (f d ++ g d) → IsSettled (λ k. f k ++ g k) found d until
settled_both f g found d a b until e one two there k low high =
    let both = all_parts _ (f d) (g d) there in
    all_append _ (f k) (g k) (one both.0 k low (omega (arith, e, high))) (two both.1 k low (omega (arith, e, high)))

-- what stays as it is
pub settled_steady : (f : ℕ → List Use) (found : List Question) (d until : ℕ) → ((k : ℕ) → d ≤ k → k < until → f k ≡ f d) → AreFound found (f d) → IsSettled f found d until
settled_steady f found d until same there k low high = subst (AreFound found) (sym (same k low high)) there

-- what is needed as long as another need is the same
pub settled_while : (f g : ℕ → List Use) (found : List Question) (d least own until : ℕ) → ((k : ℕ) → d ≤ k → k < least → f k ≡ g k) → until ≡ min least own → (AreFound found (g d) → IsSettled g found d own) → AreFound found (f d) → IsSettled f found d until
settled_while f g found d least own until same e h there k low high =
    subst (AreFound found) (sym (same k low (omega (arith, e, high)))) (h (subst (AreFound found) (same d (omega arith) (omega (arith, e, low, high))) there) k low (omega (arith, e, high)))

found_days : (f : ℕ → List Use) (found : List Question) (n s : ℕ) → ((k : ℕ) → s ≤ k → k < s + n → AreFound found (f k)) → AreFound found (flat_map f (days s n))
found_days f found zero s h = tt
found_days f found (suc n) s h = all_append _ (f s) (flat_map f (days (s + 1) n)) (h s (omega arith) (omega arith)) (found_days f found n (s + 1) (λ k low high. h k (omega (arith, low)) (omega (arith, high))))

found_on_day : (f : ℕ → List Use) (found : List Question) (n s k : ℕ) → AreFound found (flat_map f (days s n)) → s ≤ k → k < s + n → AreFound found (f k)
found_on_day f found zero s k h low high = absurd (omega (arith, low, high))
found_on_day f found (suc n) s k h low high = go (nat_lt s k) refl (all_parts _ (f s) (flat_map f (days (s + 1) n)) h) (λ rest lt. found_on_day f found n (s + 1) k rest lt (omega (arith, high)))
  where
    go : (b : Bool) → nat_lt s k ≡ b → AreFound found (f s) × AreFound found (flat_map f (days (s + 1) n)) → (AreFound found (flat_map f (days (s + 1) n)) → s + 1 ≤ k → AreFound found (f k)) → AreFound found (f k)
    go true e parts rest = let lt : s < k = ltb-true s k e in rest parts.1 (omega (arith, lt))
    go false e parts rest = let over : k ≤ s = ltb-false s k e in let same : s ≡ k = omega (arith, low, over) in subst (λ m. AreFound found (f m)) same parts.0

-- days up to the day itself, one stretch behind the other
pub settled_step : (f : ℕ → List Use) (found : List Question) (n d first at next : ℕ) → first ≡ d + 1 - n → first ≤ at → at ≤ d → AreFound found (flat_map f (days (d + 1 - n) (d + 1 - (d + 1 - n))))
    → IsSettled f found first at → (AreFound found (f at) → IsSettled f found at next) → IsSettled f found first next
settled_step f found n d first at next e begun low there h own =
    settled_on f found first at next h (own (found_on_day f found (d + 1 - (d + 1 - n)) (d + 1 - n) at there (omega (arith, e, begun)) (omega (arith, e, begun, low))))

-- the last days of each day on which the day that comes in is settled
pub settled_last : (f : ℕ → List Use) (found : List Question) (n d first at : ℕ) → first ≡ d + 1 - n → IsSettled f found first at → (k : ℕ) → d ≤ k → k < at → AreFound found (flat_map f (days (k + 1 - n) (k + 1 - (k + 1 - n))))
settled_last f found n d first at e h k low high =
    found_days f found (k + 1 - (k + 1 - n)) (k + 1 - n) (λ m l u. h m (omega (arith, e, low, l)) (omega (arith, high, l, u)))

module _ (r : Rulebase) (c : CaseView) where
  pub const_none : (e : Expr) (v : Value) (es : List InstanceId) → e ≡ V.Const v → (k : ℕ) → tree_needs r c e es k ≡ []
  const_none e v es is k = ap (λ x. tree_needs r c x es k) is ∙ law.needs-Const (shape_of r.model) (part.fresh_look (base_of r) (facts_of c)) (asked (shape_of r.model) (facts_of c).members) (part.point_needs (base_of r) (facts_of c)) v es k

  pub known_none : (e x : Expr) (es : List InstanceId) → e ≡ V.Known x → (k : ℕ) → tree_needs r c e es k ≡ []
  known_none e x es is k = ap (λ x. tree_needs r c x es k) is ∙ law.needs-Known (shape_of r.model) (part.fresh_look (base_of r) (facts_of c)) (asked (shape_of r.model) (facts_of c).members) (part.point_needs (base_of r) (facts_of c)) x es k

  pub attr_is : (e : Expr) (a : AttrId) (es : List InstanceId) → e ≡ V.Attr a → (k : ℕ) → attr_needs r c a es k ≡ tree_needs r c e es k
  attr_is e a es is k = sym (ap (λ x. tree_needs r c x es k) is ∙ law.needs-Attr (shape_of r.model) (part.fresh_look (base_of r) (facts_of c)) (asked (shape_of r.model) (facts_of c).members) (part.point_needs (base_of r) (facts_of c)) a es k)

  pub all_is : (e : Expr) (xs ys : List Expr) (es : List InstanceId) → e ≡ V.All xs → ys ≡ xs → (k : ℕ) → parts_needs r c ys es k ≡ tree_needs r c e es k
  all_is e xs ys es is same k = ap (λ zs. parts_needs r c zs es k) same ∙ sym (ap (λ x. tree_needs r c x es k) is ∙ law.needs-All (shape_of r.model) (part.fresh_look (base_of r) (facts_of c)) (asked (shape_of r.model) (facts_of c).members) (part.point_needs (base_of r) (facts_of c)) xs es k)

  pub any_is : (e : Expr) (xs ys : List Expr) (es : List InstanceId) → e ≡ V.Any xs → ys ≡ xs → (k : ℕ) → parts_needs r c ys es k ≡ tree_needs r c e es k
  any_is e xs ys es is same k = ap (λ zs. parts_needs r c zs es k) same ∙ sym (ap (λ x. tree_needs r c x es k) is ∙ law.needs-Any (shape_of r.model) (part.fresh_look (base_of r) (facts_of c)) (asked (shape_of r.model) (facts_of c).members) (part.point_needs (base_of r) (facts_of c)) xs es k)

  pub op_is : (e : Expr) (o : OpKind) (xs ys : List Expr) (es : List InstanceId) → e ≡ V.Op o xs → ys ≡ xs → (k : ℕ) → parts_needs r c ys es k ≡ tree_needs r c e es k
  op_is e o xs ys es is same k = ap (λ zs. parts_needs r c zs es k) same ∙ sym (ap (λ x. tree_needs r c x es k) is ∙ law.needs-Op (shape_of r.model) (part.fresh_look (base_of r) (facts_of c)) (asked (shape_of r.model) (facts_of c).members) (part.point_needs (base_of r) (facts_of c)) o xs es k)

  pub not_is : (e x y : Expr) (es : List InstanceId) → e ≡ V.Not x → y ≡ x → (k : ℕ) → tree_needs r c y es k ≡ tree_needs r c e es k
  not_is e x y es is same k = ap (λ z. tree_needs r c z es k) same ∙ sym (ap (λ x. tree_needs r c x es k) is ∙ law.needs-Not (shape_of r.model) (part.fresh_look (base_of r) (facts_of c)) (asked (shape_of r.model) (facts_of c).members) (part.point_needs (base_of r) (facts_of c)) x es k)

  pub certain_is : (e x y : Expr) (es : List InstanceId) → e ≡ V.Certain x → y ≡ x → (k : ℕ) → tree_needs r c y es k ≡ tree_needs r c e es k
  certain_is e x y es is same k = ap (λ z. tree_needs r c z es k) same ∙ sym (ap (λ x. tree_needs r c x es k) is ∙ law.needs-Certain (shape_of r.model) (part.fresh_look (base_of r) (facts_of c)) (asked (shape_of r.model) (facts_of c).members) (part.point_needs (base_of r) (facts_of c)) x es k)

  pub rolling_is : (e x y : Expr) (b : Bool) (n : ℕ) (es : List InstanceId) → e ≡ V.Rolling b n x → y ≡ x → (k : ℕ) → last_needs r c n y es k ≡ tree_needs r c e es k
  rolling_is e x y b n es is same k = ap (λ z. last_needs r c n z es k) same ∙ sym (ap (λ x. tree_needs r c x es k) is ∙ law.needs-Rolling (shape_of r.model) (part.fresh_look (base_of r) (facts_of c)) (asked (shape_of r.model) (facts_of c).members) (part.point_needs (base_of r) (facts_of c)) b n x es k)

  -- the same needs are settled alike
  pub settles_as : (found : List Question) (runs : FinMap cell_cmp (List Run)) (f g : ℕ → List Use) (d until : ℕ) → ((k : ℕ) → f k ≡ g k) → Settles r c found runs f d until → Settles r c found runs g d until
  settles_as found runs f g d until same own right there = settled_as f g found d until same (own right (subst (AreFound found) (sym (same d)) there))

  pub settles_alike : {E : Type 0} (o : Result ℕ E) (found : List Question) (runs : FinMap cell_cmp (List Run)) (f g : ℕ → List Use) (d : ℕ) → ((k : ℕ) → f k ≡ g k) → IfOk o (Settles r c found runs f d) → IfOk o (Settles r c found runs g d)
  settles_alike o found runs f g d same h = if_ok_then (Settles r c found runs f d) (Settles r c found runs g d) o (λ until own. settles_as found runs f g d until same own) h

  pub settles_nothing : (found : List Question) (runs : FinMap cell_cmp (List Run)) (f : ℕ → List Use) (d until : ℕ) → ((k : ℕ) → f k ≡ []) → Settles r c found runs f d until
  settles_nothing found runs f d until none right there = settled_none f found d until none

  pub settles_always : (found : List Question) (runs : FinMap cell_cmp (List Run)) (f : ℕ → List Use) (us : List Use) (d until : ℕ) → ((k : ℕ) → f k ≡ us) → Settles r c found runs f d until
  settles_always found runs f us d until same right there = settled_steady f found d until (λ k low high. same k ∙ sym (same d)) there

  -- no days at all
  pub settles_none : (found : List Question) (runs : FinMap cell_cmp (List Run)) (f : ℕ → List Use) (d : ℕ) → Settles r c found runs f d d
  settles_none found runs f d right there k low high = absurd (omega (arith, low, high))

  pub asked_settles : IsOf r c → (found : List Question) (runs : FinMap cell_cmp (List Run)) (a : AttrId) (i : InstanceId) (d until : ℕ) → None ≡ rule_of r.rules a → Settles r c found runs (point_needs r c a i) d until
  asked_settles is found runs a i d until none right there k low high =
      subst (AreFound found) (sym (unruled r c is a i k none)) (subst (AreFound found) (unruled r c is a i d none) there)

  -- a part that is unknown on the day needs what its tree needs, and nothing where it is known
  pub open_settles : {E : Type 0} (o : Result ℕ E) (found : List Question) (runs : FinMap cell_cmp (List Run)) (e : Expr) (es : List InstanceId) (d until : ℕ) (v : Value) → HasUntil r c e es d until v → d < until → is_unknown v ≡ true
      → IfOk o (Settles r c found runs (tree_needs r c e es) d) → IfOk o (Settles r c found runs (part_needs r c e es) d)
  open_settles o found runs e es d until v stays lt un h =
      if_ok_then (Settles r c found runs (tree_needs r c e es) d) (Settles r c found runs (part_needs r c e es) d) o (λ own settles right there k low high. go k (is_unknown (part_value r c e es k)) (settles right (at_day there) k low high)) h
    where
      at_day : AreFound found (part_needs r c e es d) → AreFound found (tree_needs r c e es d)
      at_day there = subst (λ b. AreFound found (cond b (tree_needs r c e es d) [])) (ap is_unknown (stays d (omega arith) lt) ∙ un) there

      go : (k : ℕ) (b : Bool) → AreFound found (tree_needs r c e es k) → AreFound found (cond b (tree_needs r c e es k) [])
      go k true h = h
      go k false h = tt

  pub known_settles : (found : List Question) (runs : FinMap cell_cmp (List Run)) (e : Expr) (es : List InstanceId) (d until : ℕ) (v : Value) → HasUntil r c e es d until v → is_unknown v ≡ false → Settles r c found runs (part_needs r c e es) d until
  known_settles found runs e es d until v stays known right there k low high =
      subst (λ b. AreFound found (cond b (tree_needs r c e es k) [])) (sym (ap is_unknown (stays k low high) ∙ known)) tt
