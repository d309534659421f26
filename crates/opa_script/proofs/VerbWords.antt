-- The verbs of commands have no names outside of this crate: what is said of each is said of each word that is one.
use Rattle.std.proofs.Common.{◌≡◌, Bool, true, false, Option, None, Some, subst}
use Rattle.std.specs.Prelude.{if◌then◌else◌}

module _ {V : Type 0} (Q : V → Type 0) where
  abbrev pub OfWord : Option V → Type 0
  OfWord None = Unit {0}
  OfWord (Some v) = Q v

  pub either : (b : Bool) (x y : Option V) → OfWord x → OfWord y → OfWord (if b then x else y)
  either true x y p q = p
  either false x y p q = q

  pub said : (o : Option V) (v : V) → o ≡ Some v → OfWord o → Q v
  said o v e h = subst OfWord e h
