-- What was lent, by what was found.
use borrow.Follows.Closed.{read_of}
use Rattle.std.specs.Prelude.{Option, None, Some, IsSome, IsNone}
use Rattle.std.specs.Borrow.{MutBor}
use Rattle.std.specs.Option.{option_copied_mut, ghost_name_of}
use Rattle.std.proofs.Common.{◌≡◌, ◌⊎◌, ap, refl, inl, inr}

-- what was lent is equal at each value that is left, and where nothing was lent
pub lent : {X Y : Type 0} (o : Option (MutBor X)) (F G : X → Y) (v u : Y) → (IsSome o → (w : X) → F w ≡ G w) → (IsNone o → v ≡ u)
    → read_of (ghost_name_of o) F v ≡ read_of (ghost_name_of o) G u
lent None F G v u some none = ap inr (none refl)
lent (Some r) F G v u some none = ap (λ f. inl (r.ghost_name, f)) (λ i x. some refl x i)

pub some_lent : {X : Type 0} (o : Option (MutBor X)) → IsSome o → IsSome (option_copied_mut o)
some_lent None h = h
some_lent (Some r) h = h

-- the same where something was lent
pub lent_some : {N X Y : Type 0} {n : N} {F G : X → Y} → ((w : X) → F w ≡ G w) → ◌≡◌ {A = (N × (X → Y)) ⊎ Y} (inl (n, F)) (inl (n, G))
lent_some {n = n} h = ap (λ f. inl (n, f)) (λ i x. h x i)
