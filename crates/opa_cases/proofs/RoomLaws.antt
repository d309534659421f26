-- Whether there is room for a further case.
use Rattle.std.proofs.Common.{◌≡◌, ◌≤◌, ◌<◌, ℕ, Bool, true, false, refl, sym, ap, ◌∙◌, arith}
use Rattle.std.specs.Prelude.{◌&&◌, not, nat_lt}

-- there is, whatever is open
pub room_left : (b : Bool) (n most : ℕ) → n < most → false ≡ (not b && not (nat_lt n most))
room_left true n most h = refl
room_left false n most h = let e : nat_lt n most ≡ true = grind (arith, h) in ap not (sym e)

-- there is none, and a name is open or not
pub no_room : (b r : Bool) (n most : ℕ) → most ≤ n → r ≡ b → not r ≡ (not b && not (nat_lt n most))
no_room true r n most h is = ap not is
no_room false r n most h is = let e : nat_lt n most ≡ false = grind (arith, h) in ap not is ∙ ap not (sym e)
