-- What waits at first after one answer is set or taken away.
use Rattle.std.proofs.Common.{◌≡◌, ◌⊎◌, inl, inr, Bool, true, false, cond, List, [], Option, is_some, Contains, refl, sym, ◌∙◌, ap, subst}
use Rattle.std.specs.FinMap.{get}
use Rattle.std.specs.Cmp.{eq_by_cmp_equiv}
use Rattle.opa_date.specs.declared.TheConstants.{DAYS}
use Rattle.opa_model.specs.declared.ids.AttrId.{AttrId}
use Rattle.opa_cells.specs.declared.instance.InstanceId.{InstanceId}
use Rattle.opa_cells.proofs.Orders.{cell_total}
use Rattle.opa_case.specs.Cases.{CaseView, Answer}
use Rattle.opa_case.specs.declared.question.Question.{Question}
use Rattle.opa_case.specs.declared.question.Question.TheVariants as question
use Rattle.opa_tree.specs.declared.rulebase.Rulebase.{Rulebase}
use Rattle.opa_tree.specs.Rules.{rule_of}
use Rattle.opa_tree.proofs.Members.{none_in}
use Rattle.opa_mean.specs.Changes.{first_difference}
use Rattle.opa_mean.specs.Given.{facts_of, line_value}
use Rattle.opa_mean.specs.Rulebases.{IsOf}
use Rattle.opa_mean.specs.Slots.{is_slot}
use Rattle.opa_mean.specs.Reached.Dirty.{is_fresh}
use Rattle.opa_mean.specs.Reached.Settling.{Waiting, Shift, IsByAnswers, IsBegun, IsDirty, AreReaders, shift, is_given, is_slot_same, is_told, new_reads}
use Rattle.opa_mean.specs.Reached.Slots.{pairs_of}
use Rattle.opa_mean.specs.declared.reached.slot.Slot.{Slot}
use Rattle.opa_mean.proofs.reached.Answering.{answers_differ}
use Rattle.opa_mean.proofs.reached.Differing.{none_where_same, names_never_differ}
use Rattle.opa_mean.proofs.reached.Freshness.{nothing_is_fresh, readers_stay, reader_is_reached}
use Rattle.opa_mean.proofs.reached.Staging.{same_slot}
use Rattle.opa_session.specs.Store.Nexts.{answered, answers_with}
use Rattle.opa_session.proofs.store.Nexting.{got_with}
use Rattle.opa_session.specs.Settlement.Tasks.{AreRanked, Marks, slots_of}
use Rattle.opa_session.specs.declared.settlement.task.Task.{Task}

module _ (r : Rulebase) (old : CaseView) (a : AttrId) (i : InstanceId) (o : Option Answer) where
  abbrev pub answer_shift : Shift
  answer_shift = shift r old (answered old a i o)

  pub by_answers : IsByAnswers answer_shift
  by_answers = record { lists = refl; every = refl; live = refl }

  pub still_readers : (readers : Question → Waiting) → AreReaders r old readers → AreReaders r (answered old a i o) readers
  still_readers readers are = readers_stay answer_shift by_answers readers are

module _ (r : Rulebase) (old : CaseView) (a : AttrId) (i : InstanceId) (o : Option Answer) (before : IsOf r old) (after : IsOf r (answered old a i o)) (unruled : is_some (rule_of r.rules a) ≡ false) where
  abbrev s : Shift
  s = answer_shift r old a i o

  set_here : get (answered old a i o).answers (a.0, i) ≡ o
  set_here = got_with old.answers a i o (a.0, i) ∙ ap (λ b. cond b o (get old.answers (a.0, i))) ((eq_by_cmp_equiv cell_total).refl (a.0, i))

  answer_told : is_told s (question.Attr a i) ≡ is_some (first_difference DAYS (line_value (get old.answers (a.0, i))) (line_value o))
  answer_told = answers_differ r old (answered old a i o) before after a i unruled ∙ ap (λ x. is_some (first_difference DAYS (line_value (get old.answers (a.0, i))) (line_value x))) set_here

  -- no other answer differs
  others_same : (m : AttrId) (j : InstanceId) → is_some (rule_of r.rules m) ≡ false → is_told s (question.Attr m j) ≡ true → (a ≡ m) × (i ≡ j)
  others_same m j none told = go (is_slot_same m j a i) refl
    where
      go : (b : Bool) → is_slot_same m j a i ≡ b → (a ≡ m) × (i ≡ j)
      go true e = let both = same_slot m j a i e in (sym both.0, sym both.1)
      go false e =
          let same : get (answers_with old.answers a i o) (m.0, j) ≡ get old.answers (m.0, j) = got_with old.answers a i o (m.0, j) ∙ ap (λ b. cond b o (get old.answers (m.0, j))) e in
          let none_told : is_told s (question.Attr m j) ≡ false =
          answers_differ r old (answered old a i o) before after m j none
          ∙ ap (λ x. is_some (first_difference DAYS (line_value (get old.answers (m.0, j))) (line_value x))) same
          ∙ ap is_some (none_where_same DAYS (line_value (get old.answers (m.0, j))) (line_value (get old.answers (m.0, j))) (λ d lt. refl)) in
          absurd (cc (told, none_told))

  no_rule : (m : AttrId) (j : InstanceId) → is_given r (question.Attr m j) ≡ true → is_some (rule_of r.rules m) ≡ false
  no_rule m j given = go (is_some (rule_of r.rules m)) refl
    where
      go : (b : Bool) → is_some (rule_of r.rules m) ≡ b → is_some (rule_of r.rules m) ≡ false
      go false e = e
      go true e = absurd (cc (given, e))

  -- what is given and differs is the answer
  only_answer : (q : Question) → is_given r q ≡ true → is_told s q ≡ true → question.Attr a i ≡ q
  only_answer (question.Attr m j) given told = let same = others_same m j (no_rule m j given) told in λ k. question.Attr (same.0 k) (same.1 k)
  only_answer (question.Members q j) given told = absurd (names_never_differ ((facts_of old).members q j) told)

  stale : (b : AttrId) (j : InstanceId) → is_slot r (answered old a i o) b j ≡ true → is_fresh r old (answered old a i o) b j ≡ true → ⊥
  stale b j slot fresh = cc (fresh, nothing_is_fresh s (by_answers r old a i o) b j slot)

  module _ (readers : Question → Waiting) (are : AreReaders r old readers) (seen : Option Answer) (is_seen : seen ≡ get old.answers (a.0, i)) (flag : Bool) (differs : flag ≡ is_some (first_difference DAYS (line_value seen) (line_value o))) where
    at : (b : Bool) → flag ≡ b → is_told s (question.Attr a i) ≡ b
    at b e = answer_told ∙ sym (ap (λ x. is_some (first_difference DAYS (line_value x) (line_value o))) is_seen) ∙ sym differs ∙ e

    -- the answer is the old one: nothing waits
    pub begun_same : flag ≡ false → (tasks : List Task) → tasks ≡ [] → IsBegun s (slots_of tasks)
    begun_same e tasks none = subst (λ (ts : List Task). IsBegun s (slots_of ts)) (sym none) (record {
      only = λ b j there. absurd (none_in (b, j) there);
      fresh = λ b j slot fresh. absurd (stale b j slot fresh);
      given = λ b j q slot reads given told. absurd (cc (told, ap (is_told s) (only_answer q given told), at false e));
    })

    -- it differs: its readers wait
    pub begun_changed : flag ≡ true → (slots : List Slot) → pairs_of slots ≡ readers (question.Attr a i) → (tasks tasks' : List Task) → tasks ≡ [] → Marks r slots tasks tasks' → IsBegun s (slots_of tasks')
    begun_changed e slots reading tasks tasks' none m = record {
      only = λ b j there. only b j ((m.waits b j).0 there);
      fresh = λ b j slot fresh. absurd (stale b j slot fresh);
      given = λ b j q slot reads given told. (m.waits b j).1 (inr (subst (λ (ps : Waiting). Contains ps (b, j)) (sym reading) (now.all (question.Attr a i) b j slot (subst (λ (x : Question). Contains (new_reads s b j) x) (sym (only_answer q given told)) reads))));
    }
      where
        now : AreReaders r (answered old a i o) readers
        now = still_readers r old a i o readers are

        only : (b : AttrId) (j : InstanceId) → Contains (slots_of tasks) (b, j) ⊎ Contains (pairs_of slots) (b, j) → IsDirty s b j
        only b j (inl h) = absurd (none_in (b, j) (subst (λ (ts : List Task). Contains (slots_of ts) (b, j)) none h))
        only b j (inr h) =
            let reader = subst (λ (ps : Waiting). Contains ps (b, j)) reading h in
            record { slot = now.slots (question.Attr a i) b j reader; reached = reader_is_reached s b j (question.Attr a i) (now.read (question.Attr a i) b j reader) (at true e) }

pub ranked_none : (r : Rulebase) (tasks : List Task) → tasks ≡ [] → AreRanked r tasks
ranked_none r tasks none t there = absurd (none_in t (subst (λ (ts : List Task). Contains ts t) none there))
