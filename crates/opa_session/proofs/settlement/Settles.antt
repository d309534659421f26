-- One task is carried out.
use Rattle.std.proofs.Common.{length, ◌≡◌, ◌⊎◌, inl, inr, ℕ, ◌+◌, ◌<◌, ◌≤◌, Bool, true, false, List, [], ◌∷◌, ◌++◌, Some, is_some, All, Contains, refl, sym, ◌∙◌, ap, subst, get_or, arith}
use Rattle.std.proofs.lemmas.List.{length-append}
use Rattle.std.proofs.lemmas.List.Elements.{All-push, All-get_or, All-nil}
use Rattle.std.proofs.lemmas.List.Quantifiers.{all_pairs_push}
use Rattle.std.proofs.lemmas.Bool.{and_from}
use Rattle.opa_date.specs.declared.TheConstants.{DAYS}
use Rattle.opa_line.specs.Lines.{StandsFor}
use Rattle.opa_model.specs.declared.ids.AttrId.{AttrId}
use Rattle.opa_cells.specs.declared.instance.InstanceId.{InstanceId}
use Rattle.opa_case.specs.Cases.{CaseView, Answer, IsLive}
use Rattle.opa_case.specs.declared.question.Question.{Question}
use Rattle.opa_case.specs.declared.question.Question.TheVariants as question
use Rattle.opa_tree.specs.declared.rulebase.Rulebase.{Rulebase}
use Rattle.opa_tree.proofs.Members.{contains_head, contains_tail, contains_cases}
use Rattle.opa_mean.specs.Derivations.{MayDerive, derived}
use Rattle.opa_mean.specs.Given.{base_of}
use Rattle.opa_mean.specs.Rulebases.{value_at}
use Rattle.opa_mean.specs.Slots.{is_slot}
use Rattle.opa_mean.specs.Reached.Dirty.{is_reached}
use Rattle.opa_mean.specs.Reached.Settling.{Lines, SameLines, Waiting, Shift, IsDirty, IsSettling, AreCurrent, AreSettled, CanSettle, SamePair, Stages, is_line_changed, rank_of, laid_look, left}
use Rattle.opa_mean.specs.Reached.Slots.{pairs_of}
use Rattle.opa_mean.specs.declared.reached.slot.Slot.{Slot}
use Rattle.opa_mean.proofs.reached.Allowing.{may_derive}
use Rattle.opa_mean.proofs.reached.Ending.{settles}
use Rattle.opa_mean.proofs.reached.Looking.{given_right}
use Rattle.opa_mean.proofs.reached.Once.{one_left, none_left}
use Rattle.opa_mean.proofs.reached.Staging.{step_same, step_changed}
use Rattle.opa_session.specs.Settlement.Orders.{StandBefore}
use Rattle.opa_session.specs.Settlement.Tasks.{AreInOrder, AreRanked, ComesFirst, IsNoLater, MarksLive, slots_of}
use Rattle.opa_session.specs.declared.settlement.task.Task.{Task}
use Rattle.opa_session.proofs.settlement.Marking.{out_map, task_at}

-- what is kept is the same, slot by slot
pub current_still : (r : Rulebase) (c : CaseView) (kept kept' : Lines) → SameLines kept kept' → AreCurrent r c kept → AreCurrent r c kept'
current_still r c kept kept' same current = record {
  there = λ a i. ap is_some (same a i) ∙ current.there a i;
  right = λ a i line e. current.right a i line (sym (same a i) ∙ e);
}

pub can_still : (s : Shift) (kept kept' : Lines) (readers : Question → Waiting) → SameLines kept kept' → CanSettle s kept readers → CanSettle s kept' readers
can_still s kept kept' readers same can = record {
  is = can.is;
  kinds = can.kinds;
  current = current_still s.rules s.old kept kept' same can.current;
  tell = can.tell;
}

module _ (s : Shift) (kept : Lines) (readers : Question → Waiting) (can : CanSettle s kept readers) (staged : Lines) (task : Task) (tasks : List Task)
    (ranked : AreRanked s.rules (task ∷ tasks)) (first : (u : Task) → Contains tasks u → ComesFirst task u) (once : Contains tasks task → ⊥) (h : IsSettling s staged (slots_of (task ∷ tasks))) where
  at_rank : task.rank ≡ rank_of s task.attr
  at_rank = ranked task (contains_head task tasks)

  pub ranked_rest : AreRanked s.rules tasks
  ranked_rest t there = ranked t (contains_tail task t tasks there)

  head : Contains (slots_of (task ∷ tasks)) (task.attr, task.inst)
  head = contains_head (task.attr, task.inst) (slots_of tasks)

  dirty : IsDirty s task.attr task.inst
  dirty = h.waits task.attr task.inst head

  pub not_yet : is_some (staged task.attr task.inst) ≡ false
  not_yet = h.apart task.attr task.inst head

  -- what else waits comes no earlier
  pub no_later : (b : AttrId) (j : InstanceId) → Contains (slots_of tasks) (b, j) → IsNoLater s.rules task.attr b
  no_later b j there = let w = out_map (λ (t : Task). (t.attr, t.inst)) tasks (b, j) there in subst (λ (k : AttrId × InstanceId). IsNoLater s.rules task.attr k.0) w.1.1 (go w.0 w.1.0 (first w.0 w.1.0))
    where
      go : (u : Task) → Contains tasks u → ComesFirst task u → IsNoLater s.rules task.attr u.attr
      go u there (inl lower) = let at = ranked_rest u there in let own = at_rank in inl (omega (arith, lower, at, own))
      go u there (inr same) = inr (sym at_rank ∙ same.0 ∙ ranked_rest u there, same.1)

  first_pair : (b : AttrId) (j : InstanceId) → Contains (slots_of tasks) (b, j) → rank_of s task.attr ≤ rank_of s b
  first_pair b j there = go (no_later b j there)
    where
      go : IsNoLater s.rules task.attr b → rank_of s task.attr ≤ rank_of s b
      go (inl lower) = omega (arith, lower)
      go (inr same) = let e = same.0 in omega (arith, e)

  above : (b : AttrId) (j : InstanceId) → Contains (slots_of (task ∷ tasks)) (b, j) → rank_of s task.attr ≤ rank_of s b
  above b j there = go (contains_cases (task.attr, task.inst) (b, j) (slots_of tasks) there)
    where
      go : (SamePair (task.attr, task.inst) (b, j)) ⊎ Contains (slots_of tasks) (b, j) → rank_of s task.attr ≤ rank_of s b
      go (inl e) = let same : rank_of s task.attr ≡ rank_of s b = ap (λ (k : AttrId × InstanceId). rank_of s k.0) e in omega (arith, same)
      go (inr more) = first_pair b j more

  once_pair : Contains (slots_of tasks) (task.attr, task.inst) → ⊥
  once_pair there = once (task_at s.rules tasks ranked_rest task at_rank there)

  may : MayDerive (base_of s.rules) (laid_look s.new kept staged) task.attr task.inst
  may = may_derive s can.is can.kinds kept staged can.current h.right task.attr task.inst dirty.slot

  -- a reader of the slot is of a higher rank
  pub reader_higher : (b : AttrId) (j : InstanceId) → Contains (readers (question.Attr task.attr task.inst)) (b, j) → rank_of s task.attr < rank_of s b
  reader_higher b j m = can.tell.higher task.attr task.inst b j m

  -- by code that stands for the rulebase
  module _ (b : Rulebase) (code : b ≡ s.rules) where
    pub may_code : MayDerive (base_of b) (laid_look s.new kept staged) task.attr task.inst
    may_code = subst (λ (r : Rulebase). MayDerive (base_of r) (laid_look s.new kept staged) task.attr task.inst) (sym code) may

    module _ (line : Answer) (stands : StandsFor DAYS (derived (base_of b) (laid_look s.new kept staged) task.attr task.inst) line) (staged' : Lines) (stages : Stages staged staged' task.attr task.inst line) where
      right : StandsFor DAYS (value_at s.rules s.new task.attr task.inst) line
      right d lt =
          subst (λ (r : Rulebase). StandsFor DAYS (derived (base_of r) (laid_look s.new kept staged) task.attr task.inst) line) code stands d lt
          ∙ ap Some (given_right s can.is kept staged can.current (slots_of (task ∷ tasks)) h (rank_of s task.attr) above task.attr task.inst refl dirty.slot d lt)

      pub counts : left s staged ≡ left s staged' + 1
      counts = one_left s can.is staged staged' task.attr task.inst line stages dirty not_yet

      pub fewer : left s staged' < left s staged
      fewer = let c = counts in omega (arith, c)

      pub counted : (old new : ℕ) → new ≡ old + 1 → new + left s staged' ≡ old + left s staged
      counted old new e = let c = counts in omega (arith, c, e)

      pub listed_counted : (listed listed' : List Slot) (slot : Slot) → listed' ≡ listed ++ slot ∷ [] → length listed' + left s staged' ≡ length listed + left s staged
      listed_counted listed listed' slot more = let c = counts in let l = ap length more ∙ length-append listed (slot ∷ []) in omega (arith, c, l)

      pub after_same : (flag : Bool) → flag ≡ is_line_changed kept task.attr task.inst line → flag ≡ false → IsSettling s staged' (slots_of tasks)
      after_same flag is off = step_same s can.is kept can.current readers can.tell staged task.attr task.inst (slots_of tasks) h first_pair once_pair line right staged' stages (sym is ∙ off)

      pub after_changed : (flag : Bool) → flag ≡ is_line_changed kept task.attr task.inst line → flag ≡ true → (slots : List Slot) → pairs_of slots ≡ readers (question.Attr task.attr task.inst) → (tasks' : List Task) → MarksLive s.rules s.new slots tasks tasks' → IsSettling s staged' (slots_of tasks')
      after_changed flag is on slots are tasks' m =
          step_changed s can.is kept can.current readers can.tell staged task.attr task.inst (slots_of tasks) h first_pair once_pair line right staged' stages (sym is ∙ on) (slots_of tasks')
          (λ b j there. (m.waits b j).1 (inl there))
          (λ b j there. (m.waits b j).1 (inr (there.0, subst (λ ps. Contains ps (b, j)) (sym are) there.1)))
          (λ b j there. back b j ((m.waits b j).0 there))
        where
          back : (b : AttrId) (j : InstanceId) → Contains (slots_of tasks) (b, j) ⊎ (IsLive s.new j × Contains (pairs_of slots) (b, j)) → Contains (slots_of tasks) (b, j) ⊎ (IsLive s.new j × Contains (readers (question.Attr task.attr task.inst)) (b, j))
          back b j (inl there) = inl there
          back b j (inr k) = inr (k.0, subst (λ ps. Contains ps (b, j)) are k.1)

  module _ (listed listed' : List Slot) (slot : Slot) (at : slot.attr ≡ task.attr) (more : listed' ≡ listed ++ slot ∷ []) (before : StandBefore s.rules listed (slots_of (task ∷ tasks))) where
    pub in_order : AreInOrder s.rules listed'
    in_order = subst (AreInOrder s.rules) (sym more) (all_pairs_push (λ (x y : Slot). IsNoLater s.rules x.attr y.attr) listed slot before.order
        (λ k d lt. subst (λ (a : AttrId). IsNoLater s.rules (get_or listed k d).attr a) (sym at) (All-get_or (λ (x : Slot). IsNoLater s.rules x.attr task.attr) listed k d lt (before.before task.attr task.inst head))))

    -- what stays is no earlier than the slot, nor than what was before it
    stays : (b : AttrId) (j : InstanceId) → Contains (slots_of tasks) (b, j) → All (λ (x : Slot). IsNoLater s.rules x.attr b) listed'
    stays b j there = subst (All (λ (x : Slot). IsNoLater s.rules x.attr b)) (sym more) (All-push (λ (x : Slot). IsNoLater s.rules x.attr b) listed slot (before.before b j (contains_tail (task.attr, task.inst) (b, j) (slots_of tasks) there)) (subst (λ (a : AttrId). IsNoLater s.rules a b) (sym at) (no_later b j there)))

    pub stand_same : StandBefore s.rules listed' (slots_of tasks)
    stand_same = record { order = in_order; before = stays }

    -- nor is a reader
    reads_later : (b : AttrId) (j : InstanceId) → Contains (readers (question.Attr task.attr task.inst)) (b, j) → All (λ (x : Slot). IsNoLater s.rules x.attr b) listed'
    reads_later b j m = subst (All (λ (x : Slot). IsNoLater s.rules x.attr b)) (sym more) (All-push (λ (x : Slot). IsNoLater s.rules x.attr b) listed slot
        (λ k d lt. higher (get_or listed k d).attr (All-get_or (λ (x : Slot). IsNoLater s.rules x.attr task.attr) listed k d lt (before.before task.attr task.inst head)))
        (subst (λ (a : AttrId). IsNoLater s.rules a b) (sym at) (inl (reader_higher b j m))))
      where
        higher : (a : AttrId) → IsNoLater s.rules a task.attr → IsNoLater s.rules a b
        higher a (inl lower) = let up = reader_higher b j m in inl (omega (arith, lower, up))
        higher a (inr same) = let up = reader_higher b j m in let e = same.0 in inl (omega (arith, e, up))

    pub stand_changed : (slots : List Slot) → pairs_of slots ≡ readers (question.Attr task.attr task.inst) → (tasks' : List Task) → MarksLive s.rules s.new slots tasks tasks' → StandBefore s.rules listed' (slots_of tasks')
    stand_changed slots are tasks' m = record { order = in_order; before = λ b j there. go b j ((m.waits b j).0 there) }
      where
        go : (b : AttrId) (j : InstanceId) → Contains (slots_of tasks) (b, j) ⊎ (IsLive s.new j × Contains (pairs_of slots) (b, j)) → All (λ (x : Slot). IsNoLater s.rules x.attr b) listed'
        go b j (inl there) = stays b j there
        go b j (inr k) = reads_later b j (subst (λ ps. Contains ps (b, j)) are k.1)

-- nothing is derived yet
pub stand_first : (r : Rulebase) (slots : List Slot) → slots ≡ [] → (waiting : Waiting) → StandBefore r slots waiting
stand_first r slots none waiting = subst (λ (xs : List Slot). StandBefore r xs waiting) (sym none) (record {
  order = λ i j d lt within. absurd (omega (arith, within));
  before = λ a i there. All-nil (λ (x : Slot). IsNoLater r x.attr a);
})

-- all that waited is derived
pub all_settled : (s : Shift) (kept : Lines) (readers : Question → Waiting) → CanSettle s kept readers → (staged : Lines) (tasks : List Task) → tasks ≡ [] → IsSettling s staged (slots_of tasks) → AreSettled s staged × (left s staged ≡ 0)
all_settled s kept readers can staged tasks none h = (are, none_left s staged (λ a i d. are.dirty a i ∙ and_from (is_slot s.rules s.new a i) (is_reached s.rules s.old s.new a i) d.slot d.reached))
  where
    are : AreSettled s staged
    are = settles s can.is staged (subst (λ (ts : List Task). IsSettling s staged (slots_of ts)) none h)

-- how many steps were taken, where nothing is left
pub all_counted : (new left_new old left_old reached : ℕ) → new + left_new ≡ old + left_old → left_new ≡ 0 → left_old ≡ reached → new ≡ old + reached
all_counted new left_new old left_old reached e none all = omega (arith, e, none, all)

pub some_counted : (new left_new old left_old reached : ℕ) → new + left_new ≡ old + left_old → left_old ≡ reached → new ≤ old + reached
some_counted new left_new old left_old reached e all = omega (arith, e, all)

pub some_left : (new left_new mid left_mid old reached : ℕ) → new + left_new ≡ mid + left_mid → mid + left_mid ≡ old + reached → new ≤ old + reached
some_left new left_new mid left_mid old reached e f = omega (arith, e, f)

-- where no slot is listed, all are left; where none is left, all are listed
pub first_listed : (slots : List Slot) → slots ≡ [] → (left reached : ℕ) → left ≡ reached → length slots + left ≡ reached
first_listed slots none left reached all = let l = ap length none in omega (arith, l, all)

pub all_listed : (listed left reached : ℕ) → listed + left ≡ reached → left ≡ 0 → listed ≡ reached
all_listed listed left reached e none = omega (arith, e, none)
