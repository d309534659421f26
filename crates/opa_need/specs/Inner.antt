-- Enclosing instances behind a place for a member.
use Rattle.std.specs.Prelude.{◌≡◌, List, ◌∷◌}
use Rattle.opa_cells.specs.declared.instance.InstanceId.{InstanceId}

-- the enclosing instances stand behind a first place
abbrev pub HasRoom : List InstanceId → List InstanceId → Type 0
HasRoom enclosing inner = (i : InstanceId) × (inner ≡ i ∷ enclosing)
