-- Answers of the calls that add tasks.
use Rattle.std.proofs.Common.{◌≡◌, ◌⊎◌, ◌↔◌, true, cond, List, Result, Err, OnOk, Contains, sym, subst}
use Rattle.std.specs.BTreeMap.{is_at}
use Rattle.std.specs.BTreeSet as sorted
use Rattle.std.specs.BTreeSet.{BTreeSet}
use Rattle.opa_io.proofs.Results.{always_on_ok}
use Rattle.opa_tree.specs.declared.rulebase.Rulebase.{Rulebase}
use Rattle.opa_mean.specs.declared.reached.slot.Slot.{Slot}
use Rattle.opa_session.specs.Settlement.Tasks.{AddsTask, task_of}
use Rattle.opa_session.specs.declared.settlement.task.Task.{Task}
use Rattle.opa_session.proofs.settlement.Tasking.{task_cmp, added}

pub no_ok : {T E : Type 0} (o : Result T E) (e : E) (P : Type 0) → o ≡ Err e → OnOk o P
no_ok o e P is = subst (λ x. OnOk x P) (sym is) tt

-- a task is added
pub add_ok : {T E : Type 0} (o : Result T E) (old new : BTreeSet Task) (t : Task) (seen : List Task) → old.keys ≡ seen → ((q : Task) → sorted.contains task_cmp new q ≡ cond (is_at (task_cmp t) q) true (sorted.contains task_cmp old q)) → OnOk o ((u : Task) → Contains new.keys u ↔ (Contains seen u ⊎ (u ≡ t)))
add_ok o old new t seen is adds = always_on_ok o _ (λ u. subst (λ (xs : List Task). Contains new.keys u ↔ (Contains xs u ⊎ (u ≡ t))) is (added old new t adds u))

pub add_slot_ok : {T E : Type 0} (o : Result T E) (r : Rulebase) (s : Slot) (old new : List Task) (t : Task) → t ≡ task_of r s → OnOk o ((u : Task) → Contains new u ↔ (Contains old u ⊎ (u ≡ t))) → OnOk o (AddsTask r s old new)
add_slot_ok o r s old new t is h = subst (λ (x : Task). OnOk o ((u : Task) → Contains new u ↔ (Contains old u ⊎ (u ≡ x)))) is h
