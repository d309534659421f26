-- Which slots a change of a list touches, and what each of them reads besides and no more.
use Rattle.std.specs.Prelude.{◌≡◌, ◌⊎◌, ◌↔◌, Bool, true, false, cond, is_some, List, [], ◌∷◌, ◌++◌, map, flat_map, Contains}
use Rattle.std.specs.FinMap.{get}
use Rattle.opa_model.specs.declared.ids.AttrId.{AttrId}
use Rattle.opa_cells.specs.declared.instance.InstanceId.{InstanceId}
use Rattle.opa_case.specs.Cases.{CaseView}
use Rattle.opa_case.specs.Live.{Population, is_live}
use Rattle.opa_case.specs.declared.question.Question.{Question}
use Rattle.opa_case.specs.declared.question.Question.TheVariants as question
use Rattle.opa_mean.specs.Reached.ByLists.{ReadsTold}
use Rattle.opa_mean.specs.Reached.Dirty.{slot_reads}
use Rattle.opa_mean.specs.Reached.Settling.{Shift, Waiting}
use Rattle.opa_mean.specs.Slots.{is_slot}
use Rattle.opa_tree.specs.declared.rulebase.Rulebase.{Rulebase}
use Rattle.opa_session.specs.Readers.Indexes.{pair_of}
use Rattle.opa_session.specs.Store.Owners.{ruled_of}
use Rattle.opa_session.specs.declared.readers.asked.Asked.{Asked}
use Rattle.opa_session.specs.declared.readers.renewal.Renewed.{Renewed}

-- two questions are one
abbrev pub SameQuestion : Question → Question → Type 0
SameQuestion p q = p ≡ q

-- of these questions those that aren't among others
abbrev pub AreWithout : List Question → List Question → List Question → Type 0
AreWithout xs ys left = (q : Question) → Contains left q ↔ (Contains xs q × (Contains ys q → ⊥))

-- what a slot reads; nothing, where it isn't one
abbrev pub reads_in : Rulebase → CaseView → AttrId → InstanceId → List Question
reads_in r c a i = cond (is_slot r c a i) (slot_reads r c a i) []

-- Of one slot: what it reads in the case that comes and didn't read, and what it read and doesn't read there.
pub record IsRenewed (s : Shift) (x : Renewed) : Type 0 where
  pub more : AreWithout (reads_in s.rules s.new x.slot.attr x.slot.inst) (reads_in s.rules s.old x.slot.attr x.slot.inst) x.more
  pub lost : AreWithout (reads_in s.rules s.old x.slot.attr x.slot.inst) (reads_in s.rules s.new x.slot.attr x.slot.inst) x.lost

-- the question is in the set
abbrev pub is_asked : Asked → Question → Bool
is_asked x (question.Attr a i) = is_some (get x.lines (a.0, i))
is_asked x (question.Members q i) = is_some (get x.lists (q.0, i))

-- exactly these questions are in the set
abbrev pub AreAsked : List Question → Asked → Type 0
AreAsked questions x = (q : Question) → (is_asked x q ≡ true) ↔ Contains questions q

-- one question more is in it
abbrev pub AddsAsked : Question → Asked → Asked → Type 0
AddsAsked p old new = (q : Question) → (is_asked new q ≡ true) ↔ ((is_asked old q ≡ true) ⊎ SameQuestion p q)

-- Of the questions that were gone through those are kept that aren't among others. What was passed are the others, and what was
-- gone through.
pub record AreSifted (others done : List Question) (passed : Asked) (kept : List Question) : Type 0 where
  pub passed_are : AreAsked (others ++ done) passed
  pub kept_are : AreWithout done others kept

-- one question more is gone through
abbrev pub Sifts : Question → Asked → Asked → List Question → List Question → Type 0
Sifts q passed passed' kept kept' = (others done : List Question) → AreSifted others done passed kept → AreSifted others (done ++ q ∷ []) passed' kept'

-- the slots that are renewed
abbrev pub renewed_slots : List Renewed → Waiting
renewed_slots all = map (λ x. pair_of x.slot) all

-- Each of these is renewed, and of the slots that wait each is among them or left.
pub record AreRenewed (s : Shift) (waiting left : Waiting) (renewed : List Renewed) : Type 0 where
  pub each : (x : Renewed) → Contains renewed x → IsRenewed s x
  pub all : (p : AttrId × InstanceId) → Contains waiting p → Contains left p ⊎ Contains (renewed_slots renewed) p

-- The slots of what goes and of what comes are among these.
pub record HaveTurned (r : Rulebase) (c c' : CaseView) (slots : Waiting) : Type 0 where
  pub goes : (a : AttrId) (i : InstanceId) → is_slot r c a i ≡ true → is_live c'.live i ≡ false → Contains slots (a, i)
  pub comes : (a : AttrId) (i : InstanceId) → is_slot r c' a i ≡ true → is_live c.live i ≡ false → Contains slots (a, i)

-- So are the readers of these questions.
pub record AreTouched (s : Shift) (readers : Question → Waiting) (told : List Question) (slots : Waiting) : Type 0 where
  pub turned : HaveTurned s.rules s.old s.new slots
  pub reading : (a : AttrId) (i : InstanceId) → ReadsTold readers told a i → Contains slots (a, i)

-- the slots of an instance, and of instances
abbrev pub slots_at_one : Rulebase → InstanceId → Waiting
slots_at_one r i = map (λ a. (a, i)) (ruled_of r i.entity.0)

abbrev pub slots_at_each : Rulebase → Population → Waiting
slots_at_each r instances = flat_map (λ p. slots_at_one r p.0) instances
