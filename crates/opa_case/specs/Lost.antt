-- Which lists and answers go with an instance.
use Rattle.std.specs.Prelude.{ℕ, ◌==◌, Bool, ◌&&◌, ◌||◌, not, Option}
use Rattle.opa_cells.specs.declared.instance.InstanceId.{InstanceId}
use Rattle.opa_cells.specs.Instances.{is_same}
use Rattle.opa_case.specs.Shapes.{Shape}
use Rattle.opa_case.specs.Live.{Names}
use Rattle.opa_case.specs.Steps.{rel}
use Rattle.opa_case.specs.Listed.{is_named_in}

-- a list of the relation of this number at j stands at the instance
abbrev pub stands_at : Shape → InstanceId → ℕ → InstanceId → Bool
stands_at s i q j = s.source (rel q) == i.entity.0 && is_same j i

-- a list of this reference relation names the instance
abbrev pub refers_to : Shape → InstanceId → ℕ → Option Names → Bool
refers_to s i q names = (not (s.contains (rel q)) && s.target (rel q) == i.entity.0) && is_named_in names i.name

-- a list goes with the instance
abbrev pub goes_with : Shape → InstanceId → ℕ → InstanceId → Option Names → Bool
goes_with s i q j names = stands_at s i q j || refers_to s i q names

-- an answer of the attribute of this number at j is the instance's
abbrev pub answers_of : Shape → InstanceId → ℕ → InstanceId → Bool
answers_of s i a j = (s.attribute (record { 0 = a })).entity.0 == i.entity.0 && is_same j i
