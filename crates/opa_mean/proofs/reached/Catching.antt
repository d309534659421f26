-- Where nothing of a lower rank waits, each dirty slot of a lower rank was derived.
use Rattle.std.proofs.Common.{◌≡◌, inl, inr, ℕ, zero, suc, ◌<◌, ◌≤◌, Bool, true, false, not, Option, None, Some, is_some, Contains, refl, sym, ◌∙◌, ap, arith}
use Rattle.std.specs.Prelude.{◌||◌}
use Rattle.std.specs.List.{list_any}
use Rattle.opa_date.specs.declared.TheConstants.{DAYS}
use Rattle.opa_model.specs.declared.ids.AttrId.{AttrId}
use Rattle.opa_cells.specs.declared.instance.InstanceId.{InstanceId}
use Rattle.opa_case.specs.Cases.{IsLive}
use Rattle.opa_case.specs.declared.question.Question.{Question}
use Rattle.opa_case.specs.declared.question.Question.TheVariants as question
use Rattle.opa_tree.specs.declared.rules.Rule.{Rule}
use Rattle.opa_tree.specs.Rules.{rule_of}
use Rattle.opa_mean.specs.Rulebases.{value_at}
use Rattle.opa_mean.specs.Slots.{is_slot}
use Rattle.opa_mean.proofs.Everywhere.{each_of_all}
use Rattle.opa_mean.proofs.Fitting.{in_live}
use Rattle.opa_mean.proofs.LawsOver.{clean_stays_holds}
use Rattle.opa_mean.specs.Reached.Dirty.{is_fresh, is_reached}
use Rattle.opa_mean.specs.Reached.Settling.{Lines, Waiting, Shift, IsShift, IsDirty, IsSettling, IsCaught, is_told, new_reads, rank_of}
use Rattle.opa_mean.proofs.reached.Causes.{witness}
use Rattle.opa_mean.proofs.reached.Differing.{told_differs}
use Rattle.opa_mean.proofs.reached.Freshness.{fresh_or_reads}
use Rattle.opa_mean.proofs.reached.Naming.{NamedIn, slot_named}
use Rattle.opa_mean.proofs.reached.Parted.{parts_of, slot_is}

-- a slot that isn't dirty keeps its value
pub clean_value : (s : Shift) → IsShift s → (a : AttrId) (i : InstanceId) → is_slot s.rules s.new a i ≡ true → is_reached s.rules s.old s.new a i ≡ false → (d : ℕ) → d < DAYS → value_at s.rules s.old a i d ≡ value_at s.rules s.new a i d
clean_value s is a i slot clean d lt = let parts = parts_of s.rules s.new a i slot in go (rule_of s.rules.rules a) refl parts.ruled parts.live
  where
    go : (o : Option Rule) → rule_of s.rules.rules a ≡ o → is_some o ≡ true → IsLive s.new i → value_at s.rules s.old a i d ≡ value_at s.rules s.new a i d
    go None e some live = absurd (cc some)
    go (Some rule) e some live = clean_stays_holds s.rules s.old s.new is.before is.after a i rule e live clean d lt

-- what a dirty slot that isn't fresh reads differs
cause_of : (s : Shift) (a : AttrId) (i : InstanceId) → is_reached s.rules s.old s.new a i ≡ true → is_fresh s.rules s.old s.new a i ≡ false → (q : Question) × (Contains (new_reads s a i) q × (is_told s q ≡ true))
cause_of s a i dirty stale = witness (is_told s) (new_reads s a i) (sym (fresh_or_reads s.rules s.old s.new a i ∙ ap (λ b. b || list_any (is_told s) (new_reads s a i)) stale) ∙ dirty)

module _ (s : Shift) (is : IsShift s) (staged : Lines) (waiting : Waiting) (h : IsSettling s staged waiting)
    (n : ℕ) (above : (a : AttrId) (i : InstanceId) → Contains waiting (a, i) → n ≤ rank_of s a) where
  -- below the rank, what is caught was derived
  derived_by : (a : AttrId) (i : InstanceId) → rank_of s a < n → IsCaught staged waiting a i → is_some (staged a i) ≡ true
  derived_by a i lt (inl done) = done
  derived_by a i lt (inr waits) = absurd (omega (arith, lt, above a i waits))

  -- a line that differs, of an attribute with a rule, is that of a dirty slot
  dirty_line : (m : AttrId) (j : InstanceId) → is_slot s.rules s.new m j ≡ true → is_told s (question.Attr m j) ≡ true → IsDirty s m j
  dirty_line m j slot told = record { slot = slot; reached = by (is_reached s.rules s.old s.new m j) refl }
    where
      by : (b : Bool) → is_reached s.rules s.old s.new m j ≡ b → is_reached s.rules s.old s.new m j ≡ true
      by true e = e
      by false e = absurd (told_differs s m j (clean_value s is m j slot e) told)

  caught_by : (k : ℕ) (a : AttrId) (i : InstanceId) → rank_of s a < k → rank_of s a < n → IsDirty s a i → is_some (staged a i) ≡ true
  caught_by zero a i low lt dirty = absurd (omega (arith, low))
  caught_by (suc k) a i low lt dirty = go (is_fresh s.rules s.old s.new a i) refl (caught_by k)
    where
      by_line : (m : AttrId) (j : InstanceId) → Contains (new_reads s a i) (question.Attr m j) → is_told s (question.Attr m j) ≡ true → ((b : AttrId) (j : InstanceId) → rank_of s b < k → rank_of s b < n → IsDirty s b j → is_some (staged b j) ≡ true) → is_some (staged a i) ≡ true
      by_line m j reads told rec = at (is_some (rule_of s.rules.rules m)) refl named.2
        where
          named : NamedIn s.rules s.new is.after a (question.Attr m j)
          named = each_of_all _ (new_reads s a i) (slot_named s.rules s.new is.after a i (parts_of s.rules s.new a i dirty.slot).live) (question.Attr m j) reads

          at : (b : Bool) → is_some (rule_of s.rules.rules m) ≡ b → rank_of s m < rank_of s a → is_some (staged a i) ≡ true
          at false e lower = derived_by a i lt (h.readers a i (question.Attr m j) dirty.slot reads told (ap (λ b. not b || is_some (staged m j)) e))
          at true e lower =
              let slot = slot_is s.rules s.new m j (in_live s.new j named.0) named.1 e in
              let done = rec m j (omega (arith, low, lower)) (omega (arith, lt, lower)) (dirty_line m j slot told) in
              derived_by a i lt (h.readers a i (question.Attr m j) dirty.slot reads told (ap (λ b. not b || is_some (staged m j)) e ∙ done))

      by_read : (q : Question) → Contains (new_reads s a i) q → is_told s q ≡ true → ((b : AttrId) (j : InstanceId) → rank_of s b < k → rank_of s b < n → IsDirty s b j → is_some (staged b j) ≡ true) → is_some (staged a i) ≡ true
      by_read (question.Attr m j) reads told rec = by_line m j reads told rec
      by_read (question.Members q j) reads told rec = derived_by a i lt (h.readers a i (question.Members q j) dirty.slot reads told refl)

      go : (b : Bool) → is_fresh s.rules s.old s.new a i ≡ b → ((b : AttrId) (j : InstanceId) → rank_of s b < k → rank_of s b < n → IsDirty s b j → is_some (staged b j) ≡ true) → is_some (staged a i) ≡ true
      go true fresh rec = derived_by a i lt (h.fresh a i dirty.slot fresh)
      go false stale rec = let w = cause_of s a i dirty.reached stale in by_read w.0 w.1.0 w.1.1 rec

  pub caught_up : (a : AttrId) (i : InstanceId) → rank_of s a < n → IsDirty s a i → is_some (staged a i) ≡ true
  caught_up a i lt dirty = caught_by (suc (rank_of s a)) a i (omega arith) lt dirty
