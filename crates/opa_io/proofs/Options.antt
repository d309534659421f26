-- Laws of what may be there.
use Rattle.std.proofs.Common.{false, refl, ◌≡◌}
use Rattle.std.specs.Option.{option_and_then, option_map, option_map_or}
use Rattle.std.specs.Prelude.{Bool, IsTrue, None, Option, Some, cond, is_some, true}

-- what is not there is none
pub none_is : {X : Type 0} (o : Option X) → is_some o ≡ false → o ≡ None
none_is None h = refl
none_is (Some x) h = cc

-- what can be nothing is none
pub none_by : {A : Type 0} (o : Option A) → ((x : A) → o ≡ Some x → ⊥) → o ≡ None
none_by None h = refl
none_by (Some x) h = absurd (h x refl)

-- what two steps give: both gave something
pub bound_parts : {A B : Type 0} (f : A → Option B) (o : Option A) (y : B) → option_and_then f o ≡ Some y → (x : A) × (o ≡ Some x) × (f x ≡ Some y)
bound_parts f None y h = absurd (cc h)
bound_parts f (Some x) y h = (x, refl, h)

-- what a mapped option holds, and what it was made of
pub mapped_parts : {A B : Type 0} (f : A → B) (o : Option A) (y : B) → option_map f o ≡ Some y → (x : A) × (o ≡ Some x) × (f x ≡ y)
mapped_parts f None y h = absurd (cc h)
mapped_parts f (Some x) y h = (x, refl, cc h)

-- what is there only under a test: the test holds
pub cond_none_parts : {X : Type 0} (b : Bool) (x : Option X) (y : X) → cond b x None ≡ Some y → (b ≡ true) × (x ≡ Some y)
cond_none_parts true x y e = (refl, e)
cond_none_parts false x y e = absurd (cc e)

-- what is there and passes a test
pub there_is : {X : Type 0} (o : Option X) (f : X → Bool) → IsTrue (option_map_or f o false) → (x : X) × ((o ≡ Some x) × IsTrue (f x))
there_is None f h = absurd (cc h)
there_is (Some x) f h = (x, (refl, h))
