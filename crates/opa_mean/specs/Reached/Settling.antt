-- A change that is being settled: the slots that it reaches are derived one after another, in the order of ranks.
use Rattle.std.specs.Prelude.{◌≡◌, ◌<◌, ◌≤◌, ◌⊎◌, ℕ, Bool, true, false, ◌&&◌, ◌||◌, not, cond, is_some, List, filter, length, Option, None, Some, Contains}
use Rattle.std.specs.Option.{option_or}
use Rattle.std.specs.FinMap.{get}
use Rattle.std.specs.Ordering.{eq_by_cmp}
use Rattle.opa_date.specs.declared.TheConstants.{DAYS}
use Rattle.opa_value.specs.declared.value.Value.{Value}
use Rattle.opa_line.specs.Lines.{StandsFor}
use Rattle.opa_model.specs.declared.ids.AttrId.{AttrId}
use Rattle.opa_cells.specs.Keys.{cell_cmp}
use Rattle.opa_cells.specs.declared.instance.InstanceId.{InstanceId}
use Rattle.opa_case.specs.Cases.{CaseView, Answer, IsLive, list_of}
use Rattle.opa_case.specs.Live.{is_live, container_of}
use Rattle.opa_case.specs.Shapes.{shape_of}
use Rattle.opa_case.specs.Steps.{has_kind}
use Rattle.opa_case.specs.declared.question.Question.{Question}
use Rattle.opa_case.specs.declared.question.Question.TheVariants as question
use Rattle.opa_tree.specs.declared.rulebase.Rulebase.{Rulebase}
use Rattle.opa_tree.specs.Ranks.{rank_at}
use Rattle.opa_tree.specs.Rules.{rule_of}
use Rattle.opa_mean.specs.Changes.{first_difference, slots, dirty}
use Rattle.opa_mean.specs.Given.{base_of, facts_of, line_value}
use Rattle.opa_mean.specs.Looks.{Look}
use Rattle.opa_mean.specs.Rulebases.{IsOf, value_at}
use Rattle.opa_mean.specs.Slots.{is_slot}
use Rattle.opa_mean.specs.Reached.Dirty.{slot_reads, is_changed, is_fresh, is_reached}

-- lines by attribute and instance
abbrev pub Lines : Type 0
Lines = AttrId → InstanceId → Option Answer

-- There is a line for each slot and for nothing else, and at every day it has the value that is determined freshly.
pub record AreCurrent (r : Rulebase) (c : CaseView) (kept : Lines) : Type 0 where
  pub there : (a : AttrId) (i : InstanceId) → is_some (kept a i) ≡ is_slot r c a i
  pub right : (a : AttrId) (i : InstanceId) (line : Answer) → kept a i ≡ Some line → StandsFor DAYS (value_at r c a i) line

-- a rulebase, the case that is held, and the case that comes
pub record Shift : Type 0 where
  pub rules : Rulebase
  pub old : CaseView
  pub new : CaseView

abbrev pub shift : Rulebase → CaseView → CaseView → Shift
shift r old new = record { rules = r; old = old; new = new }

-- Both cases fit.
pub record IsShift (s : Shift) : Type 0 where
  pub before : IsOf s.rules s.old
  pub after : IsOf s.rules s.new

-- a slot of the case that comes, which the change reaches
pub record IsDirty (s : Shift) (a : AttrId) (i : InstanceId) : Type 0 where
  pub slot : is_slot s.rules s.new a i ≡ true
  pub reached : is_reached s.rules s.old s.new a i ≡ true

abbrev pub is_told : Shift → Question → Bool
is_told s = is_changed s.rules s.old s.new

-- what a slot reads in the case that comes
abbrev pub new_reads : Shift → AttrId → InstanceId → List Question
new_reads s a i = slot_reads s.rules s.new a i

abbrev pub rank_of : Shift → AttrId → ℕ
rank_of s a = rank_at s.rules.ranks a

-- two slots, as pairs, are one
abbrev pub SamePair : AttrId × InstanceId → AttrId × InstanceId → Type 0
SamePair x y = x ≡ y

-- slots that wait
abbrev pub Waiting : Type 0
Waiting = List (AttrId × InstanceId)

-- the slot was derived, or waits for it
abbrev pub IsCaught : Lines → Waiting → AttrId → InstanceId → Type 0
IsCaught staged waiting a i = (is_some (staged a i) ≡ true) ⊎ Contains waiting (a, i)

-- a list, or the line of an attribute without a rule: no rule gives it
abbrev pub is_given : Rulebase → Question → Bool
is_given r (question.Attr a i) = not (is_some (rule_of r.rules a))
is_given r (question.Members q i) = true

-- no rule gives it, or its line was derived
abbrev pub is_known : Shift → Lines → Question → Bool
is_known s staged (question.Attr a i) = not (is_some (rule_of s.rules.rules a)) || is_some (staged a i)
is_known s staged (question.Members q i) = true

-- What was derived is right; what was derived or waits is dirty; each fresh slot was derived or waits, and so does whatever
-- reads what differs, where no rule gives that or its line was derived. What waits isn't of a lower rank than what was derived.
pub record IsSettling (s : Shift) (staged : Lines) (waiting : Waiting) : Type 0 where
  pub right : (a : AttrId) (i : InstanceId) (line : Answer) → staged a i ≡ Some line → StandsFor DAYS (value_at s.rules s.new a i) line
  pub dirty : (a : AttrId) (i : InstanceId) → is_some (staged a i) ≡ true → IsDirty s a i
  pub waits : (a : AttrId) (i : InstanceId) → Contains waiting (a, i) → IsDirty s a i
  pub apart : (a : AttrId) (i : InstanceId) → Contains waiting (a, i) → is_some (staged a i) ≡ false
  pub order : (a b : AttrId) (i j : InstanceId) → is_some (staged a i) ≡ true → Contains waiting (b, j) → rank_of s a ≤ rank_of s b
  pub fresh : (a : AttrId) (i : InstanceId) → is_slot s.rules s.new a i ≡ true → is_fresh s.rules s.old s.new a i ≡ true → IsCaught staged waiting a i
  pub readers : (a : AttrId) (i : InstanceId) (q : Question) → is_slot s.rules s.new a i ≡ true → Contains (new_reads s a i) q → is_told s q ≡ true → is_known s staged q ≡ true → IsCaught staged waiting a i

-- The staged line of a slot or else its kept one, and else the answer; and the lists and containers of the case that comes.
abbrev pub laid_value : CaseView → Lines → Lines → AttrId → InstanceId → ℕ → Value
laid_value c kept staged a i d = line_value (option_or (staged a i) (option_or (kept a i) (get c.answers (a.0, i)))) d

abbrev pub laid_look : CaseView → Lines → Lines → Look
laid_look c kept staged = record { value = laid_value c kept staged; members = list_of c; container = container_of c.live }

-- two slots are one
abbrev pub is_slot_same : AttrId → InstanceId → AttrId → InstanceId → Bool
is_slot_same a i b j = eq_by_cmp cell_cmp (a.0, i) (b.0, j)

-- a line is staged, and each other one stays
abbrev pub Stages : Lines → Lines → AttrId → InstanceId → Answer → Type 0
Stages old new a i line = (b : AttrId) (j : InstanceId) → new b j ≡ cond (is_slot_same a i b j) (Some line) (old b j)

-- the same lines
abbrev pub SameLines : Lines → Lines → Type 0
SameLines old new = (a : AttrId) (i : InstanceId) → new a i ≡ old a i

-- there are none
abbrev pub NoLines : Lines → Type 0
NoLines lines = (a : AttrId) (i : InstanceId) → lines a i ≡ None

-- the line differs from the one that is kept, which is unknown on every day where there is none
abbrev pub is_line_changed : Lines → AttrId → InstanceId → Answer → Bool
is_line_changed kept a i line = is_some (first_difference DAYS (line_value (kept a i)) (line_value (Some line)))

-- the slots of a case that read a question
pub record AreReaders (r : Rulebase) (c : CaseView) (readers : Question → Waiting) : Type 0 where
  pub slots : (q : Question) (a : AttrId) (i : InstanceId) → Contains (readers q) (a, i) → is_slot r c a i ≡ true
  pub read : (q : Question) (a : AttrId) (i : InstanceId) → Contains (readers q) (a, i) → Contains (slot_reads r c a i) q
  pub all : (q : Question) (a : AttrId) (i : InstanceId) → is_slot r c a i ≡ true → Contains (slot_reads r c a i) q → Contains (readers q) (a, i)

-- the staged line or else the kept one
abbrev pub laid : Lines → Lines → Lines
laid kept staged a i = option_or (staged a i) (kept a i)

-- what is kept after a change: of what is live, the staged line or else the old one
abbrev pub laid_over : CaseView → Lines → Lines → Lines
laid_over c kept staged a i = cond (is_live c.live i) (laid kept staged a i) None

-- a dirty slot that wasn't derived yet, and how many there are
abbrev pub is_left : Shift → Lines → AttrId × InstanceId → Bool
is_left s staged p = is_reached s.rules s.old s.new p.0 p.1 && not (is_some (staged p.0 p.1))

abbrev pub left : Shift → Lines → ℕ
left s staged = length (filter (is_left s staged) (slots (base_of s.rules) (facts_of s.new)))

-- how many slots a change reaches
abbrev pub reached : Shift → ℕ
reached s = dirty (base_of s.rules) (facts_of s.old) (facts_of s.new)

-- every value is unknown, uncertain, or a plain value of its attribute's kind
abbrev pub HaveKinds : Rulebase → Type 0
HaveKinds r = (c : CaseView) → IsOf r c → (a : AttrId) (i : InstanceId) (d : ℕ) → has_kind ((shape_of r.model).attribute a).kind (value_at r c a i d) ≡ true

-- Readers by which a change can be settled: those that stay are slots, and those of them that aren't fresh are exactly the ones
-- that read the question afterwards. A reader of a line is of a higher rank.
pub record CanTell (s : Shift) (readers : Question → Waiting) : Type 0 where
  pub slots : (q : Question) (a : AttrId) (i : InstanceId) → Contains (readers q) (a, i) → IsLive s.new i → is_slot s.rules s.new a i ≡ true
  pub read : (q : Question) (a : AttrId) (i : InstanceId) → Contains (readers q) (a, i) → IsLive s.new i → is_fresh s.rules s.old s.new a i ≡ false → Contains (new_reads s a i) q
  pub higher : (m : AttrId) (j : InstanceId) (a : AttrId) (i : InstanceId) → Contains (readers (question.Attr m j)) (a, i) → rank_of s m < rank_of s a
  pub all : (q : Question) (a : AttrId) (i : InstanceId) → is_slot s.rules s.new a i ≡ true → is_fresh s.rules s.old s.new a i ≡ false → Contains (new_reads s a i) q → Contains (readers q) (a, i)

-- Both cases fit, values are of their kinds, what is kept is current, and the change can be settled by these readers.
pub record CanSettle (s : Shift) (kept : Lines) (readers : Question → Waiting) : Type 0 where
  pub is : IsShift s
  pub kinds : HaveKinds s.rules
  pub current : AreCurrent s.rules s.old kept
  pub tell : CanTell s readers

-- What waits before anything is derived: dirty slots alone, each fresh slot, and each slot that reads a list or an answer that
-- differs.
pub record IsBegun (s : Shift) (waiting : Waiting) : Type 0 where
  pub only : (a : AttrId) (i : InstanceId) → Contains waiting (a, i) → IsDirty s a i
  pub fresh : (a : AttrId) (i : InstanceId) → is_slot s.rules s.new a i ≡ true → is_fresh s.rules s.old s.new a i ≡ true → Contains waiting (a, i)
  pub given : (a : AttrId) (i : InstanceId) (q : Question) → is_slot s.rules s.new a i ≡ true → Contains (new_reads s a i) q → is_given s.rules q ≡ true → is_told s q ≡ true → Contains waiting (a, i)

-- Nothing waits any more: exactly the dirty slots were derived, and at every day their lines have the values over the case that
-- comes.
pub record AreSettled (s : Shift) (staged : Lines) : Type 0 where
  pub dirty : (a : AttrId) (i : InstanceId) → is_some (staged a i) ≡ (is_slot s.rules s.new a i && is_reached s.rules s.old s.new a i)
  pub right : (a : AttrId) (i : InstanceId) (line : Answer) → staged a i ≡ Some line → StandsFor DAYS (value_at s.rules s.new a i) line

-- Where the dirty slots were derived, their lines laid over those that are kept are current for the case that comes.
abbrev pub LaidAreCurrent : Type 0
LaidAreCurrent = (s : Shift) → IsShift s → (kept staged : Lines) → AreCurrent s.rules s.old kept → AreSettled s staged → AreCurrent s.rules s.new (laid_over s.new kept staged)

-- The same where the same instances are live, so that nothing has to be taken out.
abbrev pub LaidStayCurrent : Type 0
LaidStayCurrent = (s : Shift) → IsShift s → s.new.live ≡ s.old.live → (kept staged : Lines) → AreCurrent s.rules s.old kept → AreSettled s staged → AreCurrent s.rules s.new (laid kept staged)

-- The cases differ in answers at most.
pub record IsByAnswers (s : Shift) : Type 0 where
  pub lists : s.new.lists ≡ s.old.lists
  pub every : s.new.every ≡ s.old.every
  pub live : s.new.live ≡ s.old.live

-- Answers alone make nothing fresh, and leave readers as they are.
abbrev pub NothingIsFresh : Type 0
NothingIsFresh = (s : Shift) → IsByAnswers s → (a : AttrId) (i : InstanceId) → is_slot s.rules s.new a i ≡ true → is_fresh s.rules s.old s.new a i ≡ false

abbrev pub ReadersStay : Type 0
ReadersStay = (s : Shift) → IsByAnswers s → (readers : Question → Waiting) → AreReaders s.rules s.old readers → AreReaders s.rules s.new readers
