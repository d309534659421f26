-- Printed lines that say the same: the kind by which a value is printed may differ, where its text doesn't.
use Rattle.std.specs.Prelude.{◌≡◌, ℕ, List, [], ◌∷◌}
use Rattle.opa_model.specs.declared.things.Kind.{Kind}
use Rattle.opa_value.specs.declared.value.Value.{Value}
use Rattle.opa_text.specs.Texts.{value_text}
use Rattle.opa_verify.specs.declared.spelling.printed.Origin.{Origin}
use Rattle.opa_verify.specs.declared.spelling.printed.Printed.{Printed}
use Rattle.opa_verify.specs.declared.spelling.printed.Printed.TheVariants as printed
use Rattle.opa_verify.specs.declared.spelling.printed.Spelled.{Spelled}
use Rattle.opa_verify.specs.declared.spelling.printed.Spot.{Spot}

pub record SamePoint (p q : Spot) (s a t b : ℕ) (k l : Kind) (v w : Value) (o r : Origin) : Type 0 where
  pub spot : p ≡ q
  pub first : s ≡ a
  pub last : t ≡ b
  pub value : v ≡ w
  pub shown : value_text k v ≡ value_text l w
  pub origin : o ≡ r

abbrev pub IsSame : Printed → Printed → Type 0
IsSame (printed.Point p s t k v o) (printed.Point q a b l w r) = SamePoint p q s a t b k l v w o r
IsSame (printed.Members p names) (printed.Members q others) = (p ≡ q) × (names ≡ others)
IsSame (printed.Member p n) (printed.Member q m) = (p ≡ q) × (n ≡ m)
IsSame x y = ⊥

abbrev pub AreSame : List Printed → List Printed → Type 0
AreSame [] [] = Unit {0}
AreSame (x ∷ xs) (y ∷ ys) = IsSame x y × AreSame xs ys
AreSame xs ys = ⊥

-- the same point and day, and the same lines
pub record SaysSame (s t : Spelled) : Type 0 where
  pub asked : s.asked ≡ t.asked
  pub day : s.day ≡ t.day
  pub printed : AreSame s.printed t.printed
