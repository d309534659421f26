-- Known lists are the same where they are so one by one.
use Rattle.std.proofs.Common.{◌≡◌, ℕ, ◌+◌, ◌<◌, ◌≤◌, true, List, [], ◌∷◌, ◌++◌, length, get_or, take, map, sym, ◌∙◌, ap, ap₂}
use denote.Ref.{Bor}
use Rattle.std.proofs.lemmas.List.{take_more}
use Rattle.opa_cells.specs.Instances.{is_same}
use Rattle.opa_cells.specs.Rows.{seen}
use Rattle.opa_cells.specs.declared.instance.InstanceId.{InstanceId}
use Rattle.opa_cells.proofs.Orders.{same_is}
use Rattle.opa_io.proofs.Lists.{map_append}
use Rattle.opa_io.proofs.Places.{take_whole}

module _ {X Y : Type 0} (f : X → Y) where
  -- one more is seen the same
  pub seen_more : (xs ys : List X) (k : ℕ) (x y : X) → k < length xs → k < length ys → x ≡ get_or xs k x → y ≡ get_or ys k y → f x ≡ f y → map f (take k xs) ≡ map f (take k ys) → map f (take (k + 1) xs) ≡ map f (take (k + 1) ys)
  seen_more xs ys k x y lt lt' ex ey same before =
      ap (map f) (take_more xs k x lt ∙ ap (λ z. take k xs ++ z ∷ []) (sym ex)) ∙ map_append f (take k xs) (x ∷ [])
      ∙ ap₂ (λ us (v : Y). us ++ v ∷ []) before same
      ∙ sym (ap (map f) (take_more ys k y lt' ∙ ap (λ z. take k ys ++ z ∷ []) (sym ey)) ∙ map_append f (take k ys) (y ∷ []))

  -- all are seen the same
  pub seen_all : (xs ys : List X) (k : ℕ) → length xs ≤ k → length ys ≤ k → map f (take k xs) ≡ map f (take k ys) → map f xs ≡ map f ys
  seen_all xs ys k le le' same = sym (ap (map f) (take_whole xs k le)) ∙ same ∙ ap (map f) (take_whole ys k le')

-- one cell is
pub one_cell : {V : Type 0} (x y : ℕ × Bor InstanceId × Bor V) → x.0 ≡ y.0 → is_same x.1.now y.1.now ≡ true → x.2.now ≡ y.2.now → seen x ≡ seen y
one_cell {V} x y number inst value =
    ap (λ (n : ℕ). let e : (ℕ × InstanceId) × V = ((n, x.1.now), x.2.now) in e) number
    ∙ ap (λ (i : InstanceId). let e : (ℕ × InstanceId) × V = ((y.0, i), x.2.now) in e) (same_is x.1.now y.1.now inst)
    ∙ ap (λ (v : V). let e : (ℕ × InstanceId) × V = ((y.0, y.1.now), v) in e) value
