-- A change of lists: what waits before anything is derived, by the readers of the case that is held.
use Rattle.std.specs.Prelude.{◌≡◌, ◌⊎◌, ◌↔◌, Bool, true, false, List, Contains}
use Rattle.std.specs.FinMap.{get}
use Rattle.opa_model.specs.declared.ids.AttrId.{AttrId}
use Rattle.opa_model.specs.declared.ids.RelId.{RelId}
use Rattle.opa_cells.specs.declared.instance.InstanceId.{InstanceId}
use Rattle.opa_case.specs.Cases.{IsLive}
use Rattle.opa_case.specs.Live.{is_live}
use Rattle.opa_case.specs.Laws.{KeepContainers}
use Rattle.opa_case.specs.Overlays.{relisted_case}
use Rattle.opa_case.specs.declared.relisted.Relisted.{Relisted}
use Rattle.opa_case.specs.declared.question.Question.{Question}
use Rattle.opa_case.specs.declared.question.Question.TheVariants as question
use Rattle.opa_tree.specs.declared.rulebase.Rulebase.{Rulebase}
use Rattle.opa_mean.specs.Rulebases.{IsOf}
use Rattle.opa_mean.specs.Slots.{is_slot}
use Rattle.opa_mean.specs.Reached.Settling.{Shift, IsShift, AreReaders, CanTell, IsBegun, Waiting, is_told, new_reads, shift}

-- Both cases fit; what stays stands where it stood, and has the answers that it had.
pub record IsByLists (s : Shift) : Type 0 where
  pub is : IsShift s
  pub stay : KeepContainers s.old s.new
  pub answers : (a : AttrId) (i : InstanceId) → IsLive s.new i → get s.new.answers (a.0, i) ≡ get s.old.answers (a.0, i)

-- Each of these questions differs, and each list that differs at an instance that stays is among them.
pub record AreListsTold (s : Shift) (told : List Question) : Type 0 where
  pub differ : (q : Question) → Contains told q → is_told s q ≡ true
  pub all : (q : RelId) (j : InstanceId) → IsLive s.old j → IsLive s.new j → is_told s (question.Members q j) ≡ true → Contains told (question.Members q j)

-- the slot reads one of these questions
abbrev pub ReadsTold : (Question → Waiting) → List Question → AttrId → InstanceId → Type 0
ReadsTold readers told a i = (q : Question) × (Contains told q × Contains (readers q) (a, i))

-- The slots of what comes wait, and those that stay and read one of these questions; no others do.
pub record WaitForLists (s : Shift) (readers : Question → Waiting) (told : List Question) (waiting : Waiting) : Type 0 where
  pub only : (a : AttrId) (i : InstanceId) → Contains waiting (a, i) → (is_slot s.rules s.new a i ≡ true) × ((is_live s.old.live i ≡ false) ⊎ ReadsTold readers told a i)
  pub new : (a : AttrId) (i : InstanceId) → is_slot s.rules s.new a i ≡ true → is_live s.old.live i ≡ false → Contains waiting (a, i)
  pub reading : (a : AttrId) (i : InstanceId) → IsLive s.new i → ReadsTold readers told a i → Contains waiting (a, i)

-- By the readers of the case that is held it is known what waits at first.
abbrev pub ListsBegin : Type 0
ListsBegin = (s : Shift) → IsByLists s → (readers : Question → Waiting) → AreReaders s.rules s.old readers → (told : List Question) → AreListsTold s told → (waiting : Waiting) → WaitForLists s readers told waiting → IsBegun s waiting

-- The readers of the case that is held are such ones.
abbrev pub HeldCanTell : Type 0
HeldCanTell = (s : Shift) → IsShift s → KeepContainers s.old s.new → (readers : Question → Waiting) → AreReaders s.rules s.old readers → CanTell s readers

-- Readers after a change: those of some slots are found anew, and all others are as before. What comes is among these slots, and
-- so is whatever read a told list.
pub record AreReadersThen (s : Shift) (told : List Question) (before after : Question → Waiting) (is_anew : AttrId → InstanceId → Bool) : Type 0 where
  pub anew : (q : Question) (a : AttrId) (i : InstanceId) → is_slot s.rules s.new a i ≡ true → is_anew a i ≡ true → Contains (after q) (a, i) ↔ Contains (new_reads s a i) q
  pub others : (q : Question) (a : AttrId) (i : InstanceId) → is_anew a i ≡ false → Contains (after q) (a, i) ↔ Contains (before q) (a, i)
  pub comes : (a : AttrId) (i : InstanceId) → is_slot s.rules s.new a i ≡ true → is_live s.old.live i ≡ false → is_anew a i ≡ true
  pub reading : (a : AttrId) (i : InstanceId) → ReadsTold before told a i → is_anew a i ≡ true
  pub gone : (q : Question) (a : AttrId) (i : InstanceId) → is_slot s.rules s.new a i ≡ false → Contains (after q) (a, i) → ⊥

-- Then they are those of the case that comes.
abbrev pub ReadersThen : Type 0
ReadersThen = (s : Shift) → IsByLists s → (told : List Question) → AreListsTold s told → (before after : Question → Waiting) (is_anew : AttrId → InstanceId → Bool) → AreReaders s.rules s.old before → AreReadersThen s told before after is_anew → AreReaders s.rules s.new after

-- The readers of the case that comes are such ones too.
abbrev pub NewCanTell : Type 0
NewCanTell = (s : Shift) → IsShift s → (readers : Question → Waiting) → AreReaders s.rules s.new readers → CanTell s readers

-- Where one list is set or forgotten, and the case that comes fits and leaves everything where it stood, the change is by lists.
abbrev pub RelistedIsByLists : Type 0
RelistedIsByLists = (r : Rulebase) (n : Relisted) → IsOf r n.case.now → IsOf r (relisted_case n) → KeepContainers n.case.now (relisted_case n) → IsByLists (shift r n.case.now (relisted_case n))
