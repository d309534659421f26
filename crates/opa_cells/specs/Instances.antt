-- Instances: their order, their code, and the global one.
use Rattle.std.specs.Prelude.{ℕ, Bool, List, [], refl}
use Rattle.std.specs.Ordering.{nat_cmp, ordering_then, is_eq}
use Rattle.std.specs.Cmp.Lexicographic.{slice_cmp}
use Rattle.std.specs.declared.cmp.Ordering.{Ordering}
use Rattle.std.specs.Coded.{Coded, code_by, coded×, coded_ℕ, coded_list}
use Rattle.opa_cells.specs.declared.instance.InstanceId.{InstanceId}

-- by entity, and then by name
abbrev pub instance_cmp : InstanceId → InstanceId → Ordering
instance_cmp i j = ordering_then (nat_cmp i.entity.0 j.entity.0) (slice_cmp nat_cmp i.name j.name)

-- two instances are one
abbrev pub is_same : InstanceId → InstanceId → Bool
is_same i j = is_eq (instance_cmp i j)

-- two names are one
abbrev pub is_text : List ℕ → List ℕ → Bool
is_text n m = is_eq (slice_cmp nat_cmp n m)

-- the global instance
abbrev pub global : InstanceId
global = record { entity = record { 0 = 0 }; name = [] }

-- the instance of an entity with a name
abbrev pub named : ℕ → List ℕ → InstanceId
named e n = record { entity = record { 0 = e }; name = n }

abbrev pub coded_instance : Coded InstanceId
coded_instance = code_by (ℕ × List ℕ) (coded× coded_ℕ (coded_list coded_ℕ)) (λ i. (i.entity.0, i.name)) (λ p. record { entity = record { 0 = p.0 }; name = p.1 }) (λ _. refl)
