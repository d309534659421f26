-- Marks of names.
use Rattle.std.specs.Prelude.{◌≡◌, ◌+◌, ◌-◌, ◌*◌, ◌%◌, ℕ, Bool, true, false, List, length, cond, nat_lt, slice_index_or}
use Rattle.opa_cells.specs.declared.instance.InstanceId.{InstanceId}

-- by the last two bytes
abbrev pub mark_of : List ℕ → ℕ
mark_of n = cond (nat_lt (length n) 2) 0 ((slice_index_or n (length n - 2) 0 * 10 + slice_index_or n (length n - 1) 0) % 256)

abbrev pub may_be : List Bool → List ℕ → Bool
may_be marks n = slice_index_or marks (mark_of n) false

-- whatever is wanted is marked
abbrev pub AllMarked : (InstanceId → Bool) → List Bool → Type 0
AllMarked wanted marks = (i : InstanceId) → wanted i ≡ true → may_be marks i.name ≡ true
