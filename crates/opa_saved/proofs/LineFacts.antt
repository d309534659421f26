-- The answers of a case are lines of values.
use Rattle.std.proofs.Common.{◌≡◌, ◌<◌, ◌+◌, ℕ, true, false, List, [], ◌∷◌, arith, refl, sym, subst, ◌⊎◌, inl, inr}
use Rattle.std.specs.Prelude.{length, ◌||◌}
use Rattle.std.specs.List.{AllByRecursion}
use mathlib.Core.Bool.{true≢false}
use Rattle.opa_model.specs.declared.lists.Lists.{Lists}
use Rattle.opa_model.specs.Models.{IsModel}
use Rattle.opa_cells.specs.declared.instance.InstanceId.{InstanceId}
use Rattle.opa_cells.specs.Instances.{is_same}
use Rattle.opa_cells.proofs.Orders.{same_is}
use Rattle.opa_case.specs.Cases.{CaseView, stored}
use Rattle.opa_case.specs.Live.{Population, members, is_live}
use Rattle.opa_case.specs.Shapes.{shape_of, attribute_or}
use Rattle.opa_case.proofs.Shaped.{shape_is}
use Rattle.opa_saved.specs.RoundTrip.{HasLineAt, HaveLines, HasLines, LoadsBack}
use Rattle.opa_saved.specs.Saved.{attr, saved_data, ReadsAs}
use Rattle.opa_saved.specs.Told.{FitsModel}
use Rattle.opa_saved.proofs.Distinct.{among}
use Rattle.opa_saved.proofs.OwnPlaces.{live_member}
use Rattle.opa_saved.proofs.Reloaded.{saved_loads}

-- one attribute more
pub one_more : (m : Lists) (c : CaseView) (n : ℕ) → HaveLines m c n → AllByRecursion (HasLineAt c n) (members (attribute_or m (attr n)).entity.0 c.live) → HaveLines m c (n + 1)
one_more m c n before here k lt = go (split k n lt)
  where
    split : (a b : ℕ) → a < b + 1 → (a < b) ⊎ (b ≡ a)
    split a b l = grind arith

    go : (k < n) ⊎ (n ≡ k) → AllByRecursion (HasLineAt c k) (members (attribute_or m (attr k)).entity.0 c.live)
    go (inl l) = before k l
    go (inr e) = subst (λ x. AllByRecursion (HasLineAt c x) (members (attribute_or m (attr x)).entity.0 c.live)) e here

all_at : (P : InstanceId → Type 0) (i : InstanceId) (is : List InstanceId) → AllByRecursion P is → among i is ≡ true → P i
all_at P i [] a h = absurd (true≢false (sym h))
all_at P i (j ∷ js) a h = elim (is_same i j) as (λ b. is_same i j ≡ b → (b || among i js) ≡ true → P i) [
  | true ↦ λ e _. subst P (sym (same_is i j e)) a.0
  | false ↦ λ _ g. all_at P i js a.1 g
] refl h

-- where those at live instances are, all are
pub all_lines : (m : Lists) (c : CaseView) → IsModel m → FitsModel m c → HaveLines m c (length m.attributes) → HasLines c
all_lines m c im f have n i line h =
    let is = f.1.answers (attr n) i line h in
    let alive = f.1.answered (attr n) i line h in
    let there : among i (members (attribute_or m (attr n)).entity.0 c.live) ≡ true =
    subst (λ (pop : Population). among i (members (attribute_or m (attr n)).entity.0 pop) ≡ true) (sym f.1.live)
    (live_member (shape_of m) (shape_is m im) (stored c.lists) (attribute_or m (attr n)).entity.0 i is.owner (subst (λ (pop : Population). is_live pop i ≡ true) f.1.live alive)) in
    all_at (HasLineAt c n) i (members (attribute_or m (attr n)).entity.0 c.live) (have n is.declared) there line h

pub loads_back : (m : Lists) (c : CaseView) (bytes : List ℕ) → IsModel m → HasLines c → ReadsAs bytes (saved_data m c) → LoadsBack m c bytes
loads_back m c bytes im lines h ruled fits clean within = saved_loads m ruled c bytes im fits clean lines within h
