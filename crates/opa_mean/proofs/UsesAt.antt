-- Uses on days: each is a use on some day.
use Rattle.std.proofs.Common.{Contains, ℕ, false, cond, Bool, true, [], List, ◌&&◌, ◌-◌}
use Rattle.std.specs.Prelude.{nat_lt, flat_map}
use Rattle.opa_date.specs.declared.TheConstants.{DAYS}
use Rattle.opa_value.specs.declared.value.Value.{Value}
use Rattle.opa_value.specs.declared.value.Value.TheVariants.{Unknown, Num, Uncertain, Words, Day, Bool as Truth}
use Rattle.opa_window.specs.Days.{days}
use Rattle.opa_tree.proofs.Members.{none_in, flat_out}
use Rattle.opa_mean.specs.Uses.{Use, on_date_uses, in_window_uses}

-- a use at a date
pub date_in : (f : ℕ → List Use) (v : Value) (u : Use) → Contains (on_date_uses f v) u → (d : ℕ) × Contains (f d) u
date_in f (Day k) u h = go (nat_lt k DAYS) h
  where
    go : (b : Bool) → Contains (cond b (f k) []) u → (d : ℕ) × Contains (f d) u
    go true h = (k, h)
    go false h = absurd (none_in u h)
date_in f Unknown u h = absurd (none_in u h)
date_in f Uncertain u h = absurd (none_in u h)
date_in f (Truth b) u h = absurd (none_in u h)
date_in f (Num n) u h = absurd (none_in u h)
date_in f (Words t) u h = absurd (none_in u h)

-- a use in a window
pub window_in : (f : ℕ → List Use) (v w : Value) (u : Use) → Contains (in_window_uses f v w) u → (d : ℕ) × Contains (f d) u
window_in f (Day j) (Day k) u h = go (nat_lt j DAYS && nat_lt k DAYS) h
  where
    go : (b : Bool) → Contains (cond b (flat_map f (days j (k - j))) []) u → (d : ℕ) × Contains (f d) u
    go true h = let x = flat_out f (days j (k - j)) u h in (x.0, x.1.1)
    go false h = absurd (none_in u h)
window_in f _ _ u h = absurd (none_in u h)
