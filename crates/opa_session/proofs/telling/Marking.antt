-- Whatever is wanted is marked.
use Rattle.std.proofs.Common.{◌≡◌, Bool, true, false, List, refl, ◌∙◌, ap}
use Rattle.std.specs.Prelude.{◌||◌, ℕ}
use Rattle.opa_cells.specs.declared.instance.InstanceId.{InstanceId}
use Rattle.opa_cells.specs.Instances.{is_same}
use Rattle.opa_cells.proofs.Orders.{same_is}
use Rattle.opa_session.specs.Telling.NameMarks.{may_be, AllMarked}

-- what isn't marked isn't wanted
pub not_wanted : (w : InstanceId → Bool) (marks : List Bool) → AllMarked w marks → (i : InstanceId) → may_be marks i.name ≡ false → w i ≡ false
not_wanted w marks all i off = go (w i) refl
  where
    go : (b : Bool) → w i ≡ b → b ≡ false
    go true q = absurd (cc (off, all i q))
    go false q = refl

-- one more is marked, and no mark is taken away
pub one_more : (old new : InstanceId → Bool) (before after : List Bool) (x : InstanceId) → AllMarked old before → ((n : List ℕ) → may_be before n ≡ true → may_be after n ≡ true) → may_be after x.name ≡ true → ((i : InstanceId) → new i ≡ true → (is_same i x || old i) ≡ true) → AllMarked new after
one_more old new before after x all kept set less i h = go (is_same i x) refl (less i h)
  where
    go : (b : Bool) → is_same i x ≡ b → (b || old i) ≡ true → may_be after i.name ≡ true
    go true q k = ap (λ (j : InstanceId). may_be after j.name) (same_is i x q) ∙ set
    go false q k = kept i.name (all i k)
