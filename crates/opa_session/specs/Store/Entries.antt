-- What a store has of a slot: a kept line, and a staged one.
use Rattle.std.specs.Prelude.{ℕ, Option, None, Some}
use Rattle.std.specs.FinMap.{FinMap, get, insert}
use Rattle.std.specs.Option.{option_or}
use Rattle.opa_cells.specs.Keys.{cell_cmp}
use Rattle.opa_cells.specs.declared.instance.InstanceId.{InstanceId}
use Rattle.opa_case.specs.Cases.{Answer}
use Rattle.opa_session.specs.declared.store.entry.Entry.{Entry}

abbrev pub Entries : Type 0
Entries = FinMap cell_cmp Entry

abbrev pub kept_in : Option Entry → Option Answer
kept_in None = None
kept_in (Some e) = e.kept

abbrev pub staged_in : Option Entry → Option Answer
staged_in None = None
staged_in (Some e) = e.staged

-- an entry with a line that is staged, and entries that are committed and abandoned
abbrev pub with_staged : Option Entry → Answer → Entry
with_staged o line = record { kept = kept_in o; staged = Some line }

abbrev pub committed : Entry → Entry
committed e = record { kept = option_or e.staged e.kept; staged = None }

abbrev pub abandoned : Entry → Entry
abandoned e = record { kept = e.kept; staged = None }

-- the entry at a key is changed, if there is one
abbrev pub changed : (Entry → Entry) → Entries → ℕ × InstanceId → Option Entry → Entries
changed f m k None = m
changed f m k (Some e) = insert m k (f e)

abbrev pub changed_at : (Entry → Entry) → Entries → ℕ × InstanceId → Entries
changed_at f m k = changed f m k (get m k)
