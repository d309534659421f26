-- The slots that are listed are those with a staged line.
use Rattle.std.proofs.Common.{◌≡◌, Bool, true, false, cond, not, List, [], ◌∷◌, ◌++◌, Option, None, Some, is_some, refl, sym, ◌∙◌, ap}
use Rattle.std.specs.Prelude.{◌||◌}
use Rattle.std.proofs.lemmas.Bool.{and_parts, and_from, or_parts}
use Rattle.opa_io.proofs.Lists.{any_append}
use Rattle.opa_model.specs.declared.ids.AttrId.{AttrId}
use Rattle.opa_cells.specs.declared.instance.InstanceId.{InstanceId}
use Rattle.opa_case.specs.Cases.{Answer}
use Rattle.opa_mean.specs.Reached.Settling.{Lines, NoLines, Stages, is_slot_same}
use Rattle.opa_mean.specs.declared.reached.slot.Slot.{Slot}
use Rattle.opa_session.specs.Store.Stores.{AreListed, are_once, is_listed}
use Rattle.opa_session.proofs.store.Entering.{flip}

-- one more is listed
listed_more : (slots : List Slot) (s : Slot) (b : AttrId) (j : InstanceId) → is_listed (slots ++ s ∷ []) b j ≡ (is_listed slots b j || (is_slot_same s.attr s.inst b j || false))
listed_more slots s b j = any_append (λ (s : Slot). is_slot_same s.attr s.inst b j) slots (s ∷ [])

or_true : (x : Bool) → (x || (true || false)) ≡ true
or_true true = refl
or_true false = refl

or_false : (x : Bool) → (x || (false || false)) ≡ x
or_false true = refl
or_false false = refl

-- a line is staged, and its slot is listed
pub listed_stage : (old new : Lines) (slots : List Slot) (s : Slot) (line : Answer) → AreListed old slots → Stages old new s.attr s.inst line → AreListed new (slots ++ s ∷ [])
listed_stage old new slots s line are stages b j = go (is_slot_same s.attr s.inst b j) refl
  where
    go : (t : Bool) → is_slot_same s.attr s.inst b j ≡ t → is_some (new b j) ≡ is_listed (slots ++ s ∷ []) b j
    go true e = ap is_some (stages b j ∙ ap (λ t. cond t (Some line) (old b j)) e) ∙ sym (listed_more slots s b j ∙ ap (λ t. is_listed slots b j || (t || false)) e ∙ or_true (is_listed slots b j))
    go false e = ap is_some (stages b j ∙ ap (λ t. cond t (Some line) (old b j)) e) ∙ are b j ∙ sym (listed_more slots s b j ∙ ap (λ t. is_listed slots b j || (t || false)) e ∙ or_false (is_listed slots b j))

pub once_stage : (slots : List Slot) (s : Slot) → are_once slots ≡ true → is_listed slots s.attr s.inst ≡ false → are_once (slots ++ s ∷ []) ≡ true
once_stage [] s once none = refl
once_stage (x ∷ slots) s once none =
    let two = and_parts _ _ once in
    let apart = or_parts (is_slot_same x.attr x.inst s.attr s.inst) (is_listed slots s.attr s.inst) none in
    and_from (not (is_listed (slots ++ s ∷ []) x.attr x.inst)) (are_once (slots ++ s ∷ []))
    (ap not (listed_more slots s x.attr x.inst ∙ ap (λ t. is_listed slots x.attr x.inst || (t || false)) (flip (s.attr.0, s.inst) (x.attr.0, x.inst) ∙ apart.0) ∙ or_false (is_listed slots x.attr x.inst)) ∙ two.0)
    (once_stage slots s two.1 apart.1)

-- each slot with a staged line is among some
abbrev pub AreAmong : Lines → List Slot → Type 0
AreAmong staged slots = (a : AttrId) (i : InstanceId) → is_some (staged a i) ≡ true → is_listed slots a i ≡ true

pub among : (staged : Lines) (slots : List Slot) → AreListed staged slots → AreAmong staged slots
among staged slots are a i e = sym (are a i) ∙ e

-- the last one is taken off, with its line
pub are_fewer : (old new : Lines) (slots slots' : List Slot) (s : Slot) → slots ≡ slots' ++ s ∷ [] → AreAmong old slots → ((b : AttrId) (j : InstanceId) → new b j ≡ cond (is_slot_same s.attr s.inst b j) None (old b j)) → AreAmong new slots'
are_fewer old new slots slots' s is are fewer b j h = go (is_slot_same s.attr s.inst b j) refl
  where
    go : (t : Bool) → is_slot_same s.attr s.inst b j ≡ t → is_listed slots' b j ≡ true
    go true e = absurd (cc (h, ap is_some (fewer b j ∙ ap (λ t. cond t None (old b j)) e)))
    go false e =
        let was : is_some (old b j) ≡ true = sym (ap is_some (fewer b j ∙ ap (λ t. cond t None (old b j)) e)) ∙ h in
        sym (listed_more slots' s b j ∙ ap (λ t. is_listed slots' b j || (t || false)) e ∙ or_false (is_listed slots' b j)) ∙ sym (ap (λ (xs : List Slot). is_listed xs b j) is) ∙ are b j was

-- where nothing is listed, nothing is staged
pub none_staged : (staged : Lines) (slots : List Slot) → slots ≡ [] → AreAmong staged slots → NoLines staged
none_staged staged slots is are a i = go (staged a i) refl
  where
    go : (o : Option Answer) → staged a i ≡ o → staged a i ≡ None
    go None e = e
    go (Some l) e = absurd (cc (are a i (ap is_some e), ap (λ (xs : List Slot). is_listed xs a i) is))

-- nothing is staged, and nothing is listed
pub none_listed : (staged : Lines) → NoLines staged → AreListed staged []
none_listed staged none a i = ap is_some (none a i)
