-- What is kept is current where what goes is dropped.
use Rattle.std.proofs.Common.{◌≡◌, Bool, true, false, not, cond, Option, None, Some, is_some, refl, sym, ◌∙◌, ap}
use Rattle.std.specs.Prelude.{◌&&◌, ◌==◌}
use Rattle.std.specs.Option.{option_or}
use Rattle.std.proofs.lemmas.Bool.{eq-eqb}
use Rattle.opa_io.proofs.Bools.{and_false}
use Rattle.opa_model.specs.declared.ids.AttrId.{AttrId}
use Rattle.opa_cells.specs.declared.instance.InstanceId.{InstanceId}
use Rattle.opa_case.specs.Cases.{Answer}
use Rattle.opa_case.specs.Live.{Population, is_live}
use Rattle.opa_case.specs.Shapes.{shape_of}
use Rattle.opa_case.specs.Turns.{Turns, is_among}
use Rattle.opa_tree.specs.Rules.{rule_of}
use Rattle.opa_mean.specs.Places.{owner_of}
use Rattle.opa_mean.specs.Slots.{is_slot}
use Rattle.opa_mean.specs.Reached.Dirty.{is_reached}
use Rattle.opa_mean.specs.Reached.Settling.{Lines, Shift, IsShift, AreCurrent, AreSettled, SameLines, laid, laid_over}
use Rattle.opa_mean.proofs.reached.Ending.{laid_are_current}
use Rattle.opa_mean.proofs.reached.Parted.{parts_of}
use Rattle.opa_session.specs.Store.Drops.{has_slot, AreDropped, DroppedAreCurrent}

none_where : (o : Option Answer) → is_some o ≡ false → o ≡ None
none_where None h = refl
none_where (Some x) h = absurd (cc h)

module _ (s : Shift) (is : IsShift s) (went come : Population) (home : InstanceId) (turns : Turns s.old.live s.new.live went come home) (kept staged mid after : Lines)
    (current : AreCurrent s.rules s.old kept) (are : AreSettled s staged) (same : SameLines (laid kept staged) mid) (dropped : AreDropped s.rules went mid after) where
  -- what stays doesn't go
  stays_in : (i : InstanceId) → is_live s.new.live i ≡ true → is_among went i ≡ false
  stays_in i live = go (is_among went i) refl
    where
      go : (b : Bool) → is_among went i ≡ b → is_among went i ≡ false
      go false e = e
      go true e = absurd (cc (live, turns.went i e))

  -- nothing is staged at what isn't live
  none_staged : (a : AttrId) (i : InstanceId) → is_live s.new.live i ≡ false → staged a i ≡ None
  none_staged a i dead =
      none_where (staged a i)
      (are.dirty a i ∙ ap (λ b. ((b && (i.entity.0 == owner_of (shape_of s.rules.model) a)) && is_some (rule_of s.rules.rules a)) && is_reached s.rules s.old s.new a i) dead)

  -- nothing is kept at what isn't live and didn't go
  none_kept : (a : AttrId) (i : InstanceId) → is_live s.new.live i ≡ false → (has_slot s.rules a i && is_among went i) ≡ false → kept a i ≡ None
  none_kept a i dead apart = none_where (kept a i) (current.there a i ∙ go (is_slot s.rules s.old a i) refl)
    where
      at : is_slot s.rules s.old a i ≡ true → is_among went i ≡ false
      at slot =
          let p = parts_of s.rules s.old a i slot in
          sym (ap (λ b. (b && is_some (rule_of s.rules.rules a)) && is_among went i) (eq-eqb i.entity.0 (owner_of (shape_of s.rules.model) a) p.owner) ∙ ap (λ b. b && is_among went i) p.ruled)
          ∙ apart

      go : (b : Bool) → is_slot s.rules s.old a i ≡ b → is_slot s.rules s.old a i ≡ false
      go false e = e
      go true e = absurd (cc (dead, turns.stays i (parts_of s.rules s.old a i e).live, ap not (at e)))

  same_lines : (a : AttrId) (i : InstanceId) → after a i ≡ laid_over s.new kept staged a i
  same_lines a i = dropped a i ∙ ap (cond (has_slot s.rules a i && is_among went i) None) (same a i) ∙ go (is_live s.new.live i) refl
    where
      lives : is_live s.new.live i ≡ true → cond (has_slot s.rules a i && is_among went i) None (laid kept staged a i) ≡ laid_over s.new kept staged a i
      lives live =
          ap (λ b. cond (has_slot s.rules a i && b) None (laid kept staged a i)) (stays_in i live) ∙ ap (λ b. cond b None (laid kept staged a i)) (and_false (has_slot s.rules a i))
          ∙ sym (ap (λ b. cond b (laid kept staged a i) None) live)

      off : is_live s.new.live i ≡ false → (b : Bool) → (has_slot s.rules a i && is_among went i) ≡ b → cond (has_slot s.rules a i && is_among went i) None (laid kept staged a i) ≡ None
      off dead true e = ap (λ b. cond b None (laid kept staged a i)) e
      off dead false e = ap (λ b. cond b None (laid kept staged a i)) e ∙ ap (λ o. option_or o (kept a i)) (none_staged a i dead) ∙ none_kept a i dead e

      go : (b : Bool) → is_live s.new.live i ≡ b → cond (has_slot s.rules a i && is_among went i) None (laid kept staged a i) ≡ laid_over s.new kept staged a i
      go true e = lives e
      go false e = off e (has_slot s.rules a i && is_among went i) refl ∙ sym (ap (λ b. cond b (laid kept staged a i) None) e)

  are_current : AreCurrent s.rules s.new after
  are_current =
      let over = laid_are_current s is kept staged current are in
      record {
        there = λ a i. ap is_some (same_lines a i) ∙ over.there a i;
        right = λ a i line e. over.right a i line (sym (same_lines a i) ∙ e);
      }

pub dropped_are_current : DroppedAreCurrent
dropped_are_current s is went come home turns kept staged mid after current are same dropped = are_current s is went come home turns kept staged mid after current are same dropped
