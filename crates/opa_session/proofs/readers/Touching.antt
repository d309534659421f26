-- The slots that a change of a list touches.
use Rattle.std.proofs.Common.{◌≡◌, inl, inr, Bool, true, false, not, cond, List, [], ◌∷◌, ◌++◌, None, Some, Contains, refl, sym, ◌∙◌, ap, subst}
use Rattle.std.specs.Prelude.{◌||◌}
use Rattle.std.specs.List.{list_any}
use Rattle.std.specs.Map.{lookup}
use Rattle.std.proofs.lemmas.List.Elements.{Contains-append_left, Contains-append_right}
use Rattle.std.proofs.lemmas.Bool.{or_parts}
use Rattle.opa_model.specs.declared.ids.AttrId.{AttrId}
use Rattle.opa_cells.specs.Instances.{is_same, global}
use Rattle.opa_cells.specs.declared.instance.InstanceId.{InstanceId}
use Rattle.opa_cells.proofs.Orders.{same_is}
use Rattle.opa_case.specs.Cases.{CaseView}
use Rattle.opa_case.specs.Live.{Population, is_live, container_of}
use Rattle.opa_case.specs.Shapes.{shape_of}
use Rattle.opa_case.specs.Turns.{Turns, is_among}
use Rattle.opa_case.specs.declared.question.Question.{Question}
use Rattle.opa_case.proofs.Stands.{lookup_found}
use Rattle.opa_mean.specs.Reached.Settling.{Shift, Waiting}
use Rattle.opa_mean.specs.Reached.Slots.{pairs_of}
use Rattle.opa_mean.specs.declared.reached.slot.Slot.{Slot}
use Rattle.opa_mean.proofs.reached.Causes.{witness}
use Rattle.opa_mean.proofs.reached.Parted.{parts_of}
use Rattle.opa_mean.specs.Slots.{is_slot}
use Rattle.opa_mean.proofs.Everywhere.{in_map}
use Rattle.opa_session.specs.Settlement.Starts.{MarksReaders}
use Rattle.opa_session.specs.Settlement.Tasks.{Marks, slots_of}
use Rattle.opa_session.specs.declared.settlement.task.Task.{Task}
use Rattle.opa_tree.specs.declared.rulebase.Rulebase.{Rulebase}
use Rattle.opa_tree.proofs.Members.{flat_in}
use Rattle.opa_session.specs.Store.Owners.{ruled_of}
use Rattle.opa_session.proofs.store.Owning.{in_ruled}
use Rattle.opa_session.specs.Readers.Touches.{AreTouched, HaveTurned, slots_at_one, slots_at_each}

-- a slot of one of these instances
in_each : (r : Rulebase) (a : AttrId) (i : InstanceId) (instances : Population) → is_among instances i ≡ true → Contains (ruled_of r i.entity.0) a → Contains (slots_at_each r instances) (a, i)
in_each r a i instances among ruled =
    let w = witness (λ (p : InstanceId × InstanceId). is_same i p.0) instances among in
    let same : i ≡ w.0.0 = same_is i w.0.0 w.1.1 in
    flat_in (λ (p : InstanceId × InstanceId). slots_at_one r p.0) instances w.0 (a, i) w.1.0 (subst (λ (j : InstanceId). Contains (slots_at_one r j) (a, i)) same (in_map (λ (b : AttrId). let x : AttrId × InstanceId = (b, i) in x) (ruled_of r i.entity.0) a ruled))

none_found : {K X : Type 0} (t : K → Bool) (es : List (K × X)) → list_any (λ p. t p.0) es ≡ false → lookup t es ≡ None
none_found t [] h = refl
none_found {X = X} t (x ∷ xs) h = go (t x.0) h (λ k. none_found t xs k)
  where
    go : (b : Bool) → (b || list_any (λ p. t p.0) xs) ≡ false → (list_any (λ p. t p.0) xs ≡ false → lookup t xs ≡ None) → cond b (Some x.1) (lookup t xs) ≡ None
    go true h rest = absurd (cc h)
    go false h rest = rest h

the_other : (a b : Bool) → a ≡ false → (a || b) ≡ true → b ≡ true
the_other true b e h = absurd (cc e)
the_other false b e h = h

module _ (live next gone come : Population) (j : InstanceId) (turns : Turns live next gone come j) (i : InstanceId) where
  comes_among : is_live next i ≡ true → is_live live i ≡ false → is_among come i ≡ true
  comes_among lives dead = go (is_among come i) refl
    where
      two : (is_same i global ≡ false) × (is_among live i ≡ false)
      two = or_parts (is_same i global) (is_among live i) dead

      at : (b : Bool) → cond b None (container_of live i) ≡ None
      at true = refl
      at false = none_found (is_same i) live two.1

      found : (d : InstanceId) × (container_of next i ≡ Some d)
      found = lookup_found (is_same i) next (the_other (is_same i global) (is_among next i) two.0 lives)

      go : (b : Bool) → is_among come i ≡ b → is_among come i ≡ true
      go true e = e
      go false e =
          let none : container_of next i ≡ None = turns.homes i ∙ ap (λ b. cond (is_among gone i) None (cond b (Some j) (container_of live i))) e ∙ at (is_among gone i) in
          absurd (cc (none, found.1))

  goes_among : is_live live i ≡ true → is_live next i ≡ false → is_among gone i ≡ true
  goes_among lives dead = not_false (is_among gone i) (sym (turns.stays i lives) ∙ dead)
    where
      not_false : (b : Bool) → not b ≡ false → b ≡ true
      not_false true h = refl
      not_false false h = absurd (cc h)

-- the slots of what goes and of what comes
pub have_turned : (r : Rulebase) (c c' : CaseView) (gone come : Population) (j : InstanceId) → Turns c.live c'.live gone come j → (none mid slots : List Slot) → none ≡ [] → pairs_of mid ≡ pairs_of none ++ slots_at_each r gone → pairs_of slots ≡ pairs_of mid ++ slots_at_each r come
    → HaveTurned r c c' (pairs_of slots)
have_turned r c c' gone come j turns none mid slots empty first second = record { goes = goes; comes = comes }
  where
    are : pairs_of slots ≡ slots_at_each r gone ++ slots_at_each r come
    are = second ∙ ap (λ ps. ps ++ slots_at_each r come) (first ∙ ap (λ (xs : List Slot). pairs_of xs ++ slots_at_each r gone) empty)

    goes : (a : AttrId) (i : InstanceId) → is_slot r c a i ≡ true → is_live c'.live i ≡ false → Contains (pairs_of slots) (a, i)
    goes a i slot dead =
        let p = parts_of r c a i slot in
        subst (λ (ps : Waiting). Contains ps (a, i)) (sym are)
        (Contains-append_left (slots_at_each r gone) (slots_at_each r come) (a, i) (in_each r a i gone (goes_among c.live c'.live gone come j turns i p.live dead) (in_ruled (shape_of r.model) i.entity.0 a r.rules p.owner p.ruled)))

    comes : (a : AttrId) (i : InstanceId) → is_slot r c' a i ≡ true → is_live c.live i ≡ false → Contains (pairs_of slots) (a, i)
    comes a i slot dead =
        let p = parts_of r c' a i slot in
        subst (λ (ps : Waiting). Contains ps (a, i)) (sym are)
        (Contains-append_right (slots_at_each r gone) (slots_at_each r come) (a, i) (in_each r a i come (comes_among c.live c'.live gone come j turns i p.live dead) (in_ruled (shape_of r.model) i.entity.0 a r.rules p.owner p.ruled)))

-- and the readers of told questions
pub are_touched : (s : Shift) (readers : Question → Waiting) (told : List Question) (turned slots : List Slot) (none mid tasks : List Task) → HaveTurned s.rules s.old s.new (pairs_of turned) → slots ≡ turned → Marks s.rules slots none mid
    → MarksReaders s.rules readers told mid tasks → AreTouched s readers told (slots_of tasks)
are_touched s readers told turned slots none mid tasks h are m n = record {
  turned = record { goes = λ a i slot dead. in_all a i (h.goes a i slot dead); comes = λ a i slot dead. in_all a i (h.comes a i slot dead) };
  reading = λ a i reads. (n.waits a i).1 (inr reads);
}
  where
    in_all : (a : AttrId) (i : InstanceId) → Contains (pairs_of turned) (a, i) → Contains (slots_of tasks) (a, i)
    in_all a i there = (n.waits a i).1 (inl ((m.waits a i).1 (inr (subst (λ (xs : List Slot). Contains (pairs_of xs) (a, i)) (sym are) there))))
