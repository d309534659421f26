-- Where nothing waits any more, the dirty slots are those that were derived, and the lines laid over the kept ones are current.
use Rattle.std.proofs.Common.{◌≡◌, suc, Bool, true, false, cond, [], Option, None, Some, is_some, refl, sym, ◌∙◌, ap, arith}
use Rattle.std.specs.Prelude.{◌&&◌}
use Rattle.std.specs.Option.{option_or}
use Rattle.std.proofs.lemmas.Bool.{and_parts, and_from}
use Rattle.opa_date.specs.declared.TheConstants.{DAYS}
use Rattle.opa_line.specs.Lines.{StandsFor}
use Rattle.opa_model.specs.declared.ids.AttrId.{AttrId}
use Rattle.opa_cells.specs.declared.instance.InstanceId.{InstanceId}
use Rattle.opa_case.specs.Cases.{Answer}
use Rattle.opa_case.specs.Live.{Population, is_live}
use Rattle.opa_tree.proofs.Members.{none_in}
use Rattle.opa_mean.specs.Rulebases.{value_at}
use Rattle.opa_mean.specs.Slots.{is_slot}
use Rattle.opa_mean.specs.Reached.Dirty.{is_reached}
use Rattle.opa_mean.specs.Reached.Settling.{Lines, Shift, IsShift, AreCurrent, AreSettled, IsDirty, IsSettling, LaidAreCurrent, LaidStayCurrent, rank_of, laid, laid_over}
use Rattle.opa_mean.proofs.reached.Catching.{clean_value, caught_up}
use Rattle.opa_mean.proofs.reached.Parted.{parts_of}
use Rattle.opa_mean.proofs.reached.Reaching.{new_is_dirty}
use Rattle.opa_mean.proofs.reached.Staging.{was_slot, still_slot}

pub settles : (s : Shift) → IsShift s → (staged : Lines) → IsSettling s staged [] → AreSettled s staged
settles s is staged h = record {
  dirty = λ a i. dirty a i (is_some (staged a i)) refl (is_slot s.rules s.new a i && is_reached s.rules s.old s.new a i) refl;
  right = h.right;
}
  where
    derived : (a : AttrId) (i : InstanceId) → IsDirty s a i → is_some (staged a i) ≡ true
    derived a i dirty = caught_up s is staged [] h (suc (rank_of s a)) (λ b j there. absurd (none_in (b, j) there)) a i (omega arith) dirty

    dirty : (a : AttrId) (i : InstanceId) (x : Bool) → is_some (staged a i) ≡ x → (y : Bool) → (is_slot s.rules s.new a i && is_reached s.rules s.old s.new a i) ≡ y → is_some (staged a i) ≡ (is_slot s.rules s.new a i && is_reached s.rules s.old s.new a i)
    dirty a i true e true e' = e ∙ sym e'
    dirty a i false e false e' = e ∙ sym e'
    dirty a i true e false e' = let d = h.dirty a i e in absurd (cc (e', and_from (is_slot s.rules s.new a i) (is_reached s.rules s.old s.new a i) d.slot d.reached))
    dirty a i false e true e' = let two = and_parts _ _ e' in absurd (cc (e, derived a i (record { slot = two.0; reached = two.1 })))

module _ (s : Shift) (is : IsShift s) (kept staged : Lines) (current : AreCurrent s.rules s.old kept) (are : AreSettled s staged) where
  -- a slot that wasn't derived isn't dirty
  clean : (a : AttrId) (i : InstanceId) → is_slot s.rules s.new a i ≡ true → staged a i ≡ None → is_reached s.rules s.old s.new a i ≡ false
  clean a i slot none = sym (ap (λ b. b && is_reached s.rules s.old s.new a i) slot) ∙ sym (are.dirty a i) ∙ ap is_some none

  -- what was derived is a slot
  slot_of : (a : AttrId) (i : InstanceId) (line : Answer) → staged a i ≡ Some line → is_slot s.rules s.new a i ≡ true
  slot_of a i line e = (and_parts _ _ (sym (are.dirty a i) ∙ ap is_some e)).0

  laid_right : (a : AttrId) (i : InstanceId) (line : Answer) → is_live s.new.live i ≡ true → (o : Option Answer) → staged a i ≡ o → option_or o (kept a i) ≡ Some line → StandsFor DAYS (value_at s.rules s.new a i) line
  laid_right a i line live (Some l) e is_line = are.right a i line (e ∙ is_line)
  laid_right a i line live None e is_line =
      let was = sym (current.there a i) ∙ ap is_some is_line in
      let slot = still_slot s a i was live in
      λ d lt. current.right a i line is_line d lt ∙ ap Some (clean_value s is a i slot (clean a i slot e) d lt)

  laid_there : (a : AttrId) (i : InstanceId) → is_live s.new.live i ≡ true → (o : Option Answer) → staged a i ≡ o → is_some (option_or o (kept a i)) ≡ is_slot s.rules s.new a i
  laid_there a i live (Some l) e = sym (slot_of a i l e)
  laid_there a i live None e = go (is_slot s.rules s.new a i) refl (is_some (kept a i)) refl
    where
      go : (x : Bool) → is_slot s.rules s.new a i ≡ x → (y : Bool) → is_some (kept a i) ≡ y → is_some (kept a i) ≡ is_slot s.rules s.new a i
      go true slot true k = k ∙ sym slot
      go false slot false k = k ∙ sym slot
      go false slot true k = absurd (cc (slot, still_slot s a i (sym (current.there a i) ∙ k) live))
      go true slot false k = old (is_live s.old.live i) refl
        where
          old : (b : Bool) → is_live s.old.live i ≡ b → is_some (kept a i) ≡ is_slot s.rules s.new a i
          old true e' = absurd (cc (was_slot s a i slot e', current.there a i, k))
          old false e' = absurd (cc (clean a i slot e, new_is_dirty s.rules s.old s.new a i e'))

  -- of what isn't live there is no slot
  no_slot : (a : AttrId) (i : InstanceId) → is_live s.new.live i ≡ false → is_slot s.rules s.new a i ≡ false
  no_slot a i dead = go (is_slot s.rules s.new a i) refl
    where
      go : (x : Bool) → is_slot s.rules s.new a i ≡ x → is_slot s.rules s.new a i ≡ false
      go false e = e
      go true e = absurd (cc (dead, (parts_of s.rules s.new a i e).live))

  over_there : (a : AttrId) (i : InstanceId) (b : Bool) → is_live s.new.live i ≡ b → is_some (laid_over s.new kept staged a i) ≡ is_slot s.rules s.new a i
  over_there a i true live = ap (λ b. is_some (cond b (laid kept staged a i) None)) live ∙ laid_there a i live (staged a i) refl
  over_there a i false dead = ap (λ b. is_some (cond b (laid kept staged a i) None)) dead ∙ sym (no_slot a i dead)

  over_right : (a : AttrId) (i : InstanceId) (line : Answer) (b : Bool) → is_live s.new.live i ≡ b → laid_over s.new kept staged a i ≡ Some line → StandsFor DAYS (value_at s.rules s.new a i) line
  over_right a i line true live e = laid_right a i line live (staged a i) refl (sym (ap (λ b. cond b (laid kept staged a i) None) live) ∙ e)
  over_right a i line false dead e = absurd (cc (e, ap (λ b. cond b (laid kept staged a i) None) dead))

  -- where the same instances are live, nothing is laid at what isn't live
  none_dead : s.new.live ≡ s.old.live → (a : AttrId) (i : InstanceId) → is_live s.new.live i ≡ false → (o : Option Answer) → staged a i ≡ o → (p : Option Answer) → kept a i ≡ p → laid kept staged a i ≡ None
  none_dead same a i dead (Some l) e p e' = absurd (cc (no_slot a i dead, slot_of a i l e))
  none_dead same a i dead None e (Some l) e' = let was = parts_of s.rules s.old a i (sym (current.there a i) ∙ ap is_some e') in absurd (cc (dead, ap (λ (p : Population). is_live p i) same, was.live))
  none_dead same a i dead None e None e' = ap (λ x. option_or x (kept a i)) e ∙ e'

  -- what is laid is what is laid over
  laid_same : s.new.live ≡ s.old.live → (a : AttrId) (i : InstanceId) (b : Bool) → is_live s.new.live i ≡ b → laid_over s.new kept staged a i ≡ laid kept staged a i
  laid_same same a i true live = ap (λ b. cond b (laid kept staged a i) None) live
  laid_same same a i false dead = ap (λ b. cond b (laid kept staged a i) None) dead ∙ sym (none_dead same a i dead (staged a i) refl (kept a i) refl)

-- what is kept afterwards: of what lives, the staged line or else the old one
pub laid_are_current : LaidAreCurrent
laid_are_current s is kept staged current are = record {
  there = λ a i. over_there s is kept staged current are a i (is_live s.new.live i) refl;
  right = λ a i line e. over_right s is kept staged current are a i line (is_live s.new.live i) refl e;
}

pub laid_stay_current : LaidStayCurrent
laid_stay_current s is same kept staged current are = record {
  there = λ a i. sym (ap is_some (laid_same s is kept staged current are same a i (is_live s.new.live i) refl)) ∙ over_there s is kept staged current are a i (is_live s.new.live i) refl;
  right = λ a i line e. over_right s is kept staged current are a i line (is_live s.new.live i) refl (laid_same s is kept staged current are same a i (is_live s.new.live i) refl ∙ e);
}
