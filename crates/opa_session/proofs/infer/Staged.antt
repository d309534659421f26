-- The staged slots have all changes.
use Rattle.std.proofs.Common.{◌≡◌, true, List, Contains, sym, ◌∙◌, ap, subst}
use Rattle.std.specs.Prelude.{◌&&◌}
use Rattle.std.proofs.lemmas.Bool.{and_parts}
use Rattle.opa_model.specs.declared.ids.AttrId.{AttrId}
use Rattle.opa_cells.specs.declared.instance.InstanceId.{InstanceId}
use Rattle.opa_case.specs.Cases.{CaseView}
use Rattle.opa_tree.specs.declared.rulebase.Rulebase.{Rulebase}
use Rattle.opa_mean.proofs.Everywhere.{in_map}
use Rattle.opa_mean.specs.Rulebases.{IsOf}
use Rattle.opa_mean.specs.Slots.{is_slot}
use Rattle.opa_mean.proofs.Filtered.{map_out}
use Rattle.opa_session.specs.Telling.Among.{DirtyHaveChanges, HaveChanges}
use Rattle.opa_mean.specs.Reached.Dirty.{is_reached}
use Rattle.opa_mean.specs.Reached.Settling.{AreSettled, Lines, is_slot_same, shift}
use Rattle.opa_mean.specs.Reached.Slots.{pairs_of}
use Rattle.opa_mean.specs.declared.reached.slot.Slot.{Slot}
use Rattle.opa_mean.proofs.reached.Causes.{witness, passes_in}
use Rattle.opa_mean.proofs.reached.Staging.{same_slot, slot_itself}
use Rattle.opa_session.specs.Store.Stores.{AreListed, is_listed}

abbrev Pair : Type 0
Pair = AttrId × InstanceId

pair : Slot → Pair
pair s = (s.attr, s.inst)

pub listed_in : (slots : List Slot) (a : AttrId) (i : InstanceId) → is_listed slots a i ≡ true → Contains (pairs_of slots) (a, i)
listed_in slots a i h =
    let w = witness (λ (s : Slot). is_slot_same s.attr s.inst a i) slots h in
    let e = same_slot w.0.attr w.0.inst a i w.1.1 in
    subst (Contains (pairs_of slots)) (ap (λ (b : AttrId). let p : Pair = (b, w.0.inst) in p) e.0 ∙ ap (λ (j : InstanceId). let p : Pair = (a, j) in p) e.1) (in_map (λ (s : Slot). let p : Pair = (s.attr, s.inst) in p) slots w.0 w.1.0)

pub in_listed : (slots : List Slot) (a : AttrId) (i : InstanceId) → Contains (pairs_of slots) (a, i) → is_listed slots a i ≡ true
in_listed slots a i h =
    let w = map_out (λ (s : Slot). let p : Pair = (s.attr, s.inst) in p) slots (a, i) h in
    passes_in (λ (s : Slot). is_slot_same s.attr s.inst a i) slots w.0 w.1.0 (ap (λ (x : Pair). is_slot_same x.0 x.1 a i) w.1.1 ∙ slot_itself a i)

pub have_changes : DirtyHaveChanges → (r : Rulebase) (o n : CaseView) → IsOf r o → IsOf r n → (staged : Lines) → AreSettled (shift r o n) staged → (slots : List Slot) → AreListed staged slots → HaveChanges r o n (pairs_of slots)
have_changes law r o n before after staged h slots listed =
    law r o n before after (pairs_of slots)
    (λ a i k. (and_parts (is_slot r n a i) (is_reached r o n a i) (sym (h.dirty a i) ∙ listed a i ∙ in_listed slots a i k)).0)
    (λ a i slot reached. listed_in slots a i (sym (listed a i) ∙ h.dirty a i ∙ ap (λ b. b && is_reached r o n a i) slot ∙ reached))

pub moved : (r r' : Rulebase) (o o' n n' : CaseView) (xs : List Pair) → r' ≡ r → o' ≡ o → n' ≡ n → HaveChanges r o n xs → HaveChanges r' o' n' xs
moved r r' o o' n n' xs e f g h = subst (λ (q : Rulebase). HaveChanges q o' n' xs) (sym e) (subst (λ (k : CaseView). HaveChanges r k n' xs) (sym f) (subst (λ (k : CaseView). HaveChanges r o k xs) (sym g) h))
