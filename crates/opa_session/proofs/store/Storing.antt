-- A store whose line is staged, and one whose lines are committed or abandoned.
use Rattle.std.proofs.Common.{◌≡◌, ◌<◌, true, false, List, [], ◌∷◌, ◌++◌, length, cond, Some, is_some, sym, ◌∙◌, ap, subst, arith}
use Rattle.std.specs.Option.{option_or}
use Rattle.std.proofs.lemmas.List.{length-append}
use Rattle.std.specs.FinMap.{get, insert, empty, get-empty}
use Rattle.opa_model.specs.declared.ids.AttrId.{AttrId}
use Rattle.opa_cells.specs.Keys.{cell_cmp}
use Rattle.opa_cells.specs.declared.instance.InstanceId.{InstanceId}
use Rattle.opa_case.specs.Cases.{Answer}
use Rattle.opa_mean.specs.Reached.Settling.{Lines, NoLines, SameLines, Stages, is_slot_same, laid}
use Rattle.opa_mean.specs.declared.reached.slot.Slot.{Slot}
use Rattle.opa_session.specs.Store.Entries.{Entries, kept_in, staged_in, with_staged, committed, abandoned, changed_at}
use Rattle.opa_session.specs.Store.Stores.{StoreView, AreListed, are_once, kept_lines, staged_lines, staged_of}
use Rattle.opa_session.proofs.store.Entering.{staged_by, kept_by, commit_laid, commit_staged, abandon_kept, abandon_staged}
use Rattle.opa_session.proofs.store.Listing.{AreAmong, listed_stage, once_stage, are_fewer, none_staged, none_listed}

module _ (m m' : Entries) (s : Slot) (i : InstanceId) (line : Answer) (at : i ≡ s.inst) (sets : m' ≡ insert m (s.attr.0, i) (with_staged (get m (s.attr.0, i)) line)) where
  pub is_staged : Stages (staged_lines m) (staged_lines m') s.attr s.inst line
  is_staged = subst (λ (k : InstanceId). Stages (staged_lines m) (staged_lines m') s.attr k line) at (subst (λ (x : Entries). Stages (staged_lines m) (staged_lines x) s.attr i line) (sym sets) (staged_by m s.attr i line))

  pub still_kept : SameLines (kept_lines m) (kept_lines m')
  still_kept = subst (λ (x : Entries). SameLines (kept_lines m) (kept_lines x)) (sym sets) (kept_by m s.attr i line)

  pub is_listed_too : (slots slots' : List Slot) → slots' ≡ slots ++ s ∷ [] → AreListed (staged_lines m) slots → AreListed (staged_lines m') slots'
  is_listed_too slots slots' more are = subst (λ (xs : List Slot). AreListed (staged_lines m') xs) (sym more) (listed_stage (staged_lines m) (staged_lines m') slots s line are is_staged)

pub is_once : (m : Entries) (s : Slot) (slots slots' : List Slot) → slots' ≡ slots ++ s ∷ [] → AreListed (staged_lines m) slots → are_once slots ≡ true → is_some (staged_lines m s.attr s.inst) ≡ false → are_once slots' ≡ true
is_once m s slots slots' more are once none = ap are_once more ∙ once_stage slots s once (sym (are s.attr s.inst) ∙ none)

-- the last slot's line is committed, or abandoned
module _ (m m' : Entries) (s : Slot) (slots slots' : List Slot) (fewer : slots ≡ slots' ++ s ∷ []) (among : AreAmong (staged_lines m) slots) where
  pub commits : m' ≡ changed_at committed m (s.attr.0, s.inst) → SameLines (laid (kept_lines m) (staged_lines m)) (laid (kept_lines m') (staged_lines m')) × AreAmong (staged_lines m') slots'
  commits sets = (
    subst (λ (x : Entries). SameLines (laid (kept_lines m) (staged_lines m)) (laid (kept_lines x) (staged_lines x))) (sym sets) (commit_laid m s.attr s.inst),
    subst (λ (x : Entries). AreAmong (staged_lines x) slots') (sym sets) (are_fewer (staged_lines m) (staged_lines (changed_at committed m (s.attr.0, s.inst))) slots slots' s fewer among (commit_staged m s.attr s.inst)),
  )

  pub abandons : m' ≡ changed_at abandoned m (s.attr.0, s.inst) → SameLines (kept_lines m) (kept_lines m') × AreAmong (staged_lines m') slots'
  abandons sets = (
    subst (λ (x : Entries). SameLines (kept_lines m) (kept_lines x)) (sym sets) (abandon_kept m s.attr s.inst),
    subst (λ (x : Entries). AreAmong (staged_lines x) slots') (sym sets) (are_fewer (staged_lines m) (staged_lines (changed_at abandoned m (s.attr.0, s.inst))) slots slots' s fewer among (abandon_staged m s.attr s.inst)),
  )

pub shorter : (slots slots' : List Slot) (s : Slot) → slots ≡ slots' ++ s ∷ [] → length slots' < length slots
shorter slots slots' s e = let l = ap length e ∙ length-append slots' (s ∷ []) in omega (arith, l)

-- the lines that are laid are those that are kept, where nothing is staged
pub all_kept : (kept staged : Lines) → NoLines staged → SameLines (laid kept staged) kept
all_kept kept staged none a i = sym (ap (λ o. option_or o (kept a i)) (none a i))

-- all slots were taken off
pub nothing_left : (m : Entries) (slots slots' : List Slot) → AreAmong (staged_lines m) slots → slots ≡ [] → slots' ≡ [] → AreListed (staged_lines m) slots' × (are_once slots' ≡ true)
nothing_left m slots slots' among none none' = (subst (λ (xs : List Slot). AreListed (staged_lines m) xs) (sym none') (none_listed (staged_lines m) (none_staged (staged_lines m) slots none among)), ap are_once none')

new_staged : (m : Entries) → m ≡ empty → NoLines (staged_lines m)
new_staged m is a i = ap (λ (x : Entries). staged_lines x a i) is ∙ ap staged_in (get-empty cell_cmp (a.0, i))

pub new_kept : (m : Entries) → m ≡ empty → NoLines (kept_lines m)
new_kept m is a i = ap (λ (x : Entries). kept_lines x a i) is ∙ ap kept_in (get-empty cell_cmp (a.0, i))

pub new_invariant : (m : Entries) (slots : List Slot) → m ≡ empty → slots ≡ [] → AreListed (staged_lines m) slots × (are_once slots ≡ true)
new_invariant m slots is none = (subst (λ (xs : List Slot). AreListed (staged_lines m) xs) (sym none) (none_listed (staged_lines m) (new_staged m is)), ap are_once none)

pub stages_seen : (v w : StoreView) → v ≡ w → (a : AttrId) (i : InstanceId) (line : Answer) (b : AttrId) (j : InstanceId) → cond (is_slot_same a i b j) (Some line) (staged_of v b j) ≡ cond (is_slot_same a i b j) (Some line) (staged_of w b j)
stages_seen v w same a i line b j = ap (λ (x : StoreView). cond (is_slot_same a i b j) (Some line) (staged_of x b j)) same
