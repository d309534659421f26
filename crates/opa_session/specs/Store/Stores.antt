-- A store as contracts see it: the kept line and the staged one of each slot, and the slots that have a staged one.
use Rattle.std.specs.Prelude.{◌≡◌, Bool, true, ◌&&◌, not, is_some, List, [], ◌∷◌, refl}
use Rattle.std.specs.List.{list_any}
use Rattle.std.specs.FinMap.{FinMap, get, code}
use Rattle.std.specs.Coded.{Coded, code_by, coded×, coded_list}
use Rattle.opa_model.specs.declared.ids.AttrId.{AttrId}
use Rattle.opa_cells.specs.Keys.{cell_cmp, coded_key}
use Rattle.opa_cells.specs.declared.instance.InstanceId.{InstanceId}
use Rattle.opa_mean.specs.Reached.Settling.{Lines, is_slot_same}
use Rattle.opa_mean.specs.declared.reached.slot.Slot.{Slot}
use Rattle.opa_session.specs.Store.Entries.{Entries, kept_in, staged_in}
use Rattle.opa_session.specs.declared.store.entry.Entry.{Entry}

pub record StoreView : Type 0 where
  pub entries : FinMap cell_cmp Entry
  -- the slots that have a staged line, in the order in which their lines were staged
  pub slots : List Slot

-- The codes of entries and slots are those that the program's have.
abbrev pub coded_store : Coded Entry → Coded Slot → Coded StoreView
coded_store entry slot =
    code_by (FinMap cell_cmp Entry × List Slot) (coded× (code coded_key entry) (coded_list slot))
    (λ s. (s.entries, s.slots)) (λ p. record { entries = p.0; slots = p.1 }) (λ _. refl)

abbrev pub kept_lines : Entries → Lines
kept_lines m a i = kept_in (get m (a.0, i))

abbrev pub staged_lines : Entries → Lines
staged_lines m a i = staged_in (get m (a.0, i))

abbrev pub kept_of : StoreView → Lines
kept_of s = kept_lines s.entries

abbrev pub staged_of : StoreView → Lines
staged_of s = staged_lines s.entries

-- whether a slot is among some
abbrev pub is_listed : List Slot → AttrId → InstanceId → Bool
is_listed slots a i = list_any (λ (s : Slot). is_slot_same s.attr s.inst a i) slots

-- no slot stands twice
abbrev pub are_once : List Slot → Bool
are_once [] = true
are_once (s ∷ slots) = not (is_listed slots s.attr s.inst) && are_once slots

-- exactly the slots with a staged line are listed
abbrev pub AreListed : Lines → List Slot → Type 0
AreListed staged slots = (a : AttrId) (i : InstanceId) → is_some (staged a i) ≡ is_listed slots a i
