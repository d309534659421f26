-- Counts of answers and of slots against their limits.
use Rattle.std.specs.Prelude.{◌≡◌, ◌≤◌, ◌<◌, ◌+◌, ◌-◌, ◌*◌, ◌==◌, min, ℕ, zero, suc, nat_lt, nat_le, Bool, true, false, cond, List, [], ◌∷◌, length, map, filter, is_some, refl}
use Rattle.std.specs.FinMap.{FinMap, get, insert, remove, len, len-insert, len-remove}
use Rattle.std.proofs.Common.{arith, tests, rules, ap, sym, subst, ◌∙◌}
use Rattle.std.proofs.lemmas.Bool.{lt-ltb, leb-true}
use Rattle.opa_cells.specs.declared.instance.InstanceId.{InstanceId}
use Rattle.opa_cells.specs.Instances.{global}
use Rattle.opa_cells.specs.Keys.{cell_cmp}
use Rattle.opa_cells.proofs.Orders.{cell_total}
use Rattle.opa_case.specs.Cases.{Answer}
use Rattle.opa_case.specs.Shapes.{Shape}
use Rattle.opa_case.specs.Live.{Population, members}
use Rattle.opa_case.specs.Steps.{has_rule, slots_of, slots_upto}
use Rattle.opa_model.specs.declared.ids.AttrId.{AttrId}

one_over : (n : ℕ) → nat_le 100000 n ≡ nat_lt 100000 (n + 1)
one_over n = search (tests, arith, rules)

one_less : (n : ℕ) → nat_lt 100001 n ≡ nat_lt 100000 (n - 1)
one_less n = search (tests, arith, rules)

module _ (m : FinMap cell_cmp Answer) (k : ℕ × InstanceId) where
  pub over_with : (line : Answer) → is_some (get m k) ≡ true → nat_lt 100000 (len m) ≡ nat_lt 100000 (len (insert m k line))
  over_with line has = ap (nat_lt 100000) (sym (len-insert cell_total m k line ∙ ap (λ b. cond b (len m) (len m + 1)) has))

  pub over_with_new : (line : Answer) → is_some (get m k) ≡ false → nat_le 100000 (len m) ≡ nat_lt 100000 (len (insert m k line))
  over_with_new line has = one_over (len m) ∙ ap (nat_lt 100000) (sym (len-insert cell_total m k line ∙ ap (λ b. cond b (len m) (len m + 1)) has))

  pub over_without : is_some (get m k) ≡ true → nat_lt 100001 (len m) ≡ nat_lt 100000 (len (remove m k))
  over_without has = one_less (len m) ∙ ap (nat_lt 100000) (sym (len-remove cell_total m k ∙ ap (λ b. cond b (len m - 1) (len m)) has))

  pub over_without_one : is_some (get m k) ≡ false → nat_lt 100000 (len m) ≡ nat_lt 100000 (len (remove m k))
  over_without_one has = ap (nat_lt 100000) (sym (len-remove cell_total m k ∙ ap (λ b. cond b (len m - 1) (len m)) has))

module _ (s : Shape) (ruled : List Bool) (live : Population) where
  pub slots_none : 0 ≡ slots_upto s ruled live 0
  unfolding slots_upto
  slots_none = refl

  slots_step : (n : ℕ) → slots_upto s ruled live n + slots_of s ruled live (record { 0 = n }) ≡ slots_upto s ruled live (suc n)
  unfolding slots_upto
  slots_step n = refl

  pub slots_next : (n : ℕ) → slots_upto s ruled live n + slots_of s ruled live (record { 0 = n }) ≡ slots_upto s ruled live (n + 1)
  slots_next n = let same : suc n ≡ n + 1 = omega arith in slots_step n ∙ ap (slots_upto s ruled live) same

  -- more attributes have no fewer slots
  pub slots_rise : (k n m : ℕ) → n + k ≡ m → slots_upto s ruled live n ≤ slots_upto s ruled live m
  slots_rise zero n m e = let same : n ≡ m = omega (arith, e) in subst (λ j. slots_upto s ruled live n ≤ slots_upto s ruled live j) same (omega arith)
  slots_rise (suc k) n m e =
      let before = slots_rise k n (n + k) refl in
      let step = slots_step (n + k) in
      let same : suc (n + k) ≡ m = omega (arith, e) in
      subst (λ j. slots_upto s ruled live n ≤ slots_upto s ruled live j) same (omega (arith, before, step))

  -- the slots of more attributes pass the limit
  pub pass : (n count t more : ℕ) → n < count → t ≡ slots_upto s ruled live n → more ≡ slots_of s ruled live (record { 0 = n }) → t ≤ 2000000 → 2000000 - t < more → true ≡ nat_lt 2000000 (slots_upto s ruled live count)
  pass n count t more lt total is few over =
      let rise = slots_rise (count - (n + 1)) (n + 1) count (omega (arith, lt)) in
      let step = slots_next n in
      sym (lt-ltb 2000000 (slots_upto s ruled live count) (omega (arith, rise, step, total, is, few, over)))

-- ---- no entity has more instances than are live, and the global one

few_named : (e : ℕ) (live : Population) → length (map (λ p. p.0) (filter (λ p. p.0.entity.0 == e) live)) ≤ length live
few_named e [] = omega arith
few_named e (x ∷ xs) =
    let rest = few_named e xs in
    elim (x.0.entity.0 == e) as (λ b. length (map (λ p. p.0) (cond b (x ∷ filter (λ p. p.0.entity.0 == e) xs) (filter (λ p. p.0.entity.0 == e) xs))) ≤ suc (length xs)) [
      | true ↦ omega (arith, rest)
      | false ↦ omega (arith, rest)
    ]

few_members : (e : ℕ) (live : Population) → length (members e live) ≤ length live + 1
few_members e live =
    let named = few_named e live in
    elim (e == 0) as (λ b. length (cond b (global ∷ []) (map (λ p. p.0) (filter (λ p. p.0.entity.0 == e) live))) ≤ length live + 1) [
      | true ↦ omega arith
      | false ↦ omega (arith, named)
    ]

pub slots_few : (s : Shape) (ruled : List Bool) (live : Population) (a : AttrId) → slots_of s ruled live a ≤ length live + 1
slots_few s ruled live a =
    let most = few_members (s.attribute a).entity.0 live in
    elim (has_rule ruled a) as (λ b. cond b (length (members (s.attribute a).entity.0 live)) 0 ≤ length live + 1) [
      | true ↦ most
      | false ↦ omega arith
    ]

slots_within : (s : Shape) (ruled : List Bool) (live : Population) (n : ℕ) → slots_upto s ruled live n ≤ n * (length live + 1)
slots_within s ruled live zero = let none = slots_none s ruled live in omega (arith, none)
slots_within s ruled live (suc n) =
    let before = slots_within s ruled live n in
    let step = slots_step s ruled live n in
    let few = slots_few s ruled live (record { 0 = n }) in
    let more : suc n * (length live + 1) ≡ n * (length live + 1) + (length live + 1) = grind arith in
    omega (arith, before, step, few, more)

-- there aren't too many slots, if each live instance can have each attribute
pub few_enough : (s : Shape) (ruled : List Bool) (live : Population) → s.attributes * (length live + 1) ≤ 2000000 → false ≡ nat_lt 2000000 (slots_upto s ruled live s.attributes)
few_enough s ruled live few = let all = slots_within s ruled live s.attributes in search (tests, arith, rules)

-- the product is small as it is counted, so it is as it is counted
pub small_product : (a l e m : ℕ) → e ≡ min (l + 1) 18446744073709551615 → m ≡ min (a * e) 18446744073709551615 → nat_le m 2000000 ≡ true → a * (l + 1) ≤ 2000000
small_product zero l e m each most few = search (arith, rules)
small_product (suc a) l e m each most few =
    let low : m ≤ 2000000 = leb-true m 2000000 few in
    let product : suc a * e ≤ 2000000 = omega (arith, low, most) in
    let more : suc a * e ≡ a * e + e = grind arith in
    let same : e ≡ l + 1 = omega (arith, product, more, each) in
    subst (λ x. suc a * x ≤ 2000000) same product
