-- What a change of a list adds to the readers of lines and lists, and what it takes out of them.
use Rattle.std.specs.Prelude.{◌⊎◌, ◌↔◌, List, Contains}
use Rattle.opa_model.specs.declared.ids.AttrId.{AttrId}
use Rattle.opa_cells.specs.declared.instance.InstanceId.{InstanceId}
use Rattle.opa_case.specs.Cases.{CaseView}
use Rattle.opa_case.specs.Overlays.{relisted_case}
use Rattle.opa_case.specs.declared.question.Question.{Question}
use Rattle.opa_case.specs.declared.relisted.Relisted.{Relisted}
use Rattle.opa_mean.specs.Reached.Settling.{AreReaders, SamePair, Shift, Waiting, shift}
use Rattle.opa_tree.specs.declared.rulebase.Rulebase.{Rulebase}
use Rattle.opa_session.specs.Readers.Indexes.{pair_of}
use Rattle.opa_session.specs.declared.readers.renewal.Renewal.{Renewal}
use Rattle.opa_session.specs.declared.readers.renewal.Renewed.{Renewed}

-- from the held case to the one with a list set or forgotten
abbrev pub relisting : Rulebase → Relisted → Shift
relisting r n = shift r n.case.now (relisted_case n)

-- One of these has the slot, and the question is among those that are named of it.
abbrev pub IsNamed : (Renewed → List Question) → List Renewed → Question → AttrId × InstanceId → Type 0
IsNamed named slots q x = (r : Renewed) × (Contains slots r × (SamePair (pair_of r.slot) x × Contains (named r) q))

-- the slot reads the question besides, and no more
abbrev pub IsMore : List Renewed → Question → AttrId × InstanceId → Type 0
IsMore = IsNamed (λ r. r.more)

abbrev pub IsLost : List Renewed → Question → AttrId × InstanceId → Type 0
IsLost = IsNamed (λ r. r.lost)

-- what is named is read besides, all of it or some
abbrev pub AddsNamed : (Renewed → List Question) → List Renewed → (Question → Waiting) → (Question → Waiting) → Type 0
AddsNamed named slots old new = (q : Question) (x : AttrId × InstanceId) → Contains (new q) x ↔ (Contains (old q) x ⊎ IsNamed named slots q x)

abbrev pub AddsMore : List Renewed → (Question → Waiting) → (Question → Waiting) → Type 0
AddsMore = AddsNamed (λ r. r.more)

abbrev pub AddsSomeMore : List Renewed → (Question → Waiting) → (Question → Waiting) → Type 0
AddsSomeMore slots old new = (q : Question) (x : AttrId × InstanceId) → (Contains (old q) x → Contains (new q) x) × (Contains (new q) x → Contains (old q) x ⊎ IsMore slots q x)

-- what is named isn't read any more
abbrev pub TakesNamed : (Renewed → List Question) → List Renewed → (Question → Waiting) → (Question → Waiting) → Type 0
TakesNamed named slots old new = (q : Question) (x : AttrId × InstanceId) → Contains (new q) x ↔ (Contains (old q) x × (IsNamed named slots q x → ⊥))

abbrev pub TakesMore : List Renewed → (Question → Waiting) → (Question → Waiting) → Type 0
TakesMore = TakesNamed (λ r. r.more)

abbrev pub TakesLost : List Renewed → (Question → Waiting) → (Question → Waiting) → Type 0
TakesLost = TakesNamed (λ r. r.lost)

-- the same slots read each question
abbrev pub SameReaders : (Question → Waiting) → (Question → Waiting) → Type 0
SameReaders old new = (q : Question) (x : AttrId × InstanceId) → Contains (new q) x ↔ Contains (old q) x

-- nothing that is to be added is there
abbrev pub AreApart : Renewal → (Question → Waiting) → Type 0
AreApart n readers = (q : Question) (x : AttrId × InstanceId) → IsMore n.slots q x → Contains (readers q) x → ⊥

-- What is read besides was added to these readers, and none of it was there.
pub record IsAdded (n : Renewal) (before now : Question → Waiting) : Type 0 where
  pub apart : AreApart n before
  pub all : AddsMore n.slots before now

-- Nothing that is to be added is there. Where it is added, and then taken out what is read no more, the readers are those of
-- the case that comes.
pub record IsRenewal (s : Shift) (readers : Question → Waiting) (n : Renewal) : Type 0 where
  pub apart : AreApart n readers
  pub exact : (added after : Question → Waiting) → AddsMore n.slots readers added → TakesLost n.slots added after → AreReaders s.rules s.new after

-- To whatever readers this was added, afterwards they are those again.
abbrev pub TakesBack : Renewal → (Question → Waiting) → (Question → Waiting) → Type 0
TakesBack n now after = (before : Question → Waiting) → IsAdded n before now → SameReaders before after

-- Where this was the renewal of readers, and was added to them, afterwards they are those of the case that comes.
abbrev pub TakesOut : Renewal → (Question → Waiting) → (Question → Waiting) → Type 0
TakesOut n now after = (s : Shift) (before : Question → Waiting) → IsRenewal s before n → IsAdded n before now → AreReaders s.rules s.new after

-- Readers that are the same are those of the same case.
abbrev pub SameAreReaders : Type 0
SameAreReaders = (r : Rulebase) (c : CaseView) (old new : Question → Waiting) → SameReaders old new → AreReaders r c old → AreReaders r c new
