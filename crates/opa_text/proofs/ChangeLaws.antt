-- Changes one after another.
use Rattle.std.proofs.Common.{◌≡◌, ◌<◌, ℕ, List, [], ◌∷◌, ◌++◌, length, true, false, refl, sym, ap, subst, ◌∙◌, arith, cond, append_assoc, append-nil, lt-ltb}
use Rattle.std.specs.Prelude.{Option, Some, None, MatchOption, IfSome, nat_lt, ◌==◌}
use Rattle.std.specs.Option.{option_map}
use Rattle.opa_value.specs.declared.value.Value.{Value}
use Rattle.std.proofs.Common.{inl, inr}
use Rattle.opa_value.specs.declared.value.Value.TheVariants as value
use Rattle.opa_date.specs.declared.TheConstants.{DAYS}
use Rattle.std.specs.List.{AllByRecursion}
use Rattle.opa_date.proofs.ReadTexts.{only_texts_are_read}
use Rattle.opa_line.specs.Lines.{at}
use Rattle.opa_line.specs.Pairs.{fault_of, rises_from, all_below}
use Rattle.opa_line.specs.declared.pairs.LineFault.TheVariants.{Range, Order, FirstDay}
use Rattle.opa_words.specs.Pieces.{Piece}
use Rattle.opa_text.specs.Spelled.{SpellsDay, SpellsValue, SpellsChange, SpellsLater, SpellsChanges, SpellsPairs, SpellsLine}
use Rattle.opa_text.specs.Texts.{IsOfCalendar, HasDays}
use Rattle.opa_text.proofs.Lists.{all_days}
use Rattle.opa_text.specs.Readers.{as_written, change_at}
use Rattle.opa_text.proofs.Readings.{one_value, one_change, change_complete, change_sound}

-- what a case says
pub match_some : {X : Type 0} (o : Option X) (x : X) (A : Type 0) (B : X → Type 0) → o ≡ Some x → MatchOption o A B → B x
match_some o x A B e h = subst (λ y. MatchOption y A B) e h

pub match_none : {X : Type 0} (o : Option X) (A : Type 0) (B : X → Type 0) → o ≡ None → MatchOption o A B → A
match_none o A B e h = subst (λ y. MatchOption y A B) e h

pub if_some : {X : Type 0} (o : Option X) (x : X) (B : X → Type 0) → o ≡ Some x → IfSome o B → B x
if_some o x B e h = subst (λ y. IfSome y B) e h

-- ---- tokens are taken

pub value_shorter : (v : Value) (ps rest : List Piece) → SpellsValue v ps rest → length rest < length ps
value_shorter value.Unknown ps rest e = omega (arith, ap length e)
value_shorter value.Uncertain ps rest e = omega (arith, ap length e)
value_shorter (value.Bool b) ps rest e = omega (arith, ap length e)
value_shorter (value.Num n) ps rest (inl h) = omega (arith, ap length h.1)
value_shorter (value.Num n) ps rest (inr h) = omega (arith, ap length h.1)
value_shorter (value.Words t) ps rest e = omega (arith, ap length e)
value_shorter (value.Day d) ps rest h = omega (arith, ap length h.1)

pub change_shorter : (p : ℕ × Value) (ps rest : List Piece) → SpellsChange p ps rest → length rest < length ps
change_shorter p ps rest h = omega (arith, ap length h.2, ap length h.3.1, value_shorter p.1 h.1 rest h.4)

-- ---- what is reached

-- the pairs so far, and the tokens that are left
pub record Reached (first : Value) (start : List Piece) (pairs : List (ℕ × Value)) (last : ℕ) (rest : List Piece) : Type 0 where
  pub done : List (ℕ × Value)
  pub items : pairs ≡ (0, first) ∷ done
  pub goes : (more : List (ℕ × Value)) → SpellsChanges last more rest → SpellsChanges 0 (done ++ more) start
  pub comes : (all : List (ℕ × Value)) → SpellsChanges 0 all start → (more : List (ℕ × Value)) × (all ≡ done ++ more) × SpellsChanges last more rest

pub reached_start : (first : Value) (start : List Piece) (pairs : List (ℕ × Value)) → pairs ≡ (0, first) ∷ [] → Reached first start pairs 0 start
reached_start first start pairs e = record { done = []; items = e; goes = λ more h. h; comes = λ all h. (all, refl, h) }

pub nothing_shorter : (rest after : List Piece) → length after < length rest → rest ≡ [] → ⊥
nothing_shorter rest after h e = omega (arith, h, ap length e)

pub reached_more : (first : Value) (start : List Piece) (pairs now : List (ℕ × Value)) (last : ℕ) (rest after : List Piece) (p : ℕ × Value)
    → Reached first start pairs last rest → SpellsLater last p rest after → now ≡ pairs ++ p ∷ [] → Reached first start now p.0 after
reached_more first start pairs now last rest after p r l e = record {
  done = r.done ++ p ∷ [];
  items = e ∙ ap (λ xs. xs ++ p ∷ []) r.items;
  goes = λ more h. subst (λ xs. SpellsChanges 0 xs start) (sym (append_assoc r.done (p ∷ []) more)) (r.goes (p ∷ more) (after, l, h));
  comes = λ all h. let x = r.comes all h in next x.0 all x.1 x.2;
}
  where
    next : (more all : List (ℕ × Value)) → all ≡ r.done ++ more → SpellsChanges last more rest → (later : List (ℕ × Value)) × (all ≡ (r.done ++ p ∷ []) ++ later) × SpellsChanges p.0 later after
    next [] all f h = absurd (nothing_shorter rest after (change_shorter p rest after l.0) h)
    next (q ∷ qs) all f h =
        let same = one_change rest q p h.0 after h.1.0 l.0 in
        (qs, f ∙ ap (λ x. r.done ++ x ∷ qs) same.0 ∙ sym (append_assoc r.done (p ∷ []) qs), subst (λ x. SpellsChanges x.0 qs after) same.0 (subst (SpellsChanges q.0 qs) same.1 h.2))

pub reached_none : (first : Value) (start : List Piece) (pairs : List (ℕ × Value)) (last : ℕ) (rest : List Piece)
    → Reached first start pairs last rest → (rest ≡ [] → ⊥) → ((p : ℕ × Value) (after : List Piece) → SpellsLater last p rest after → ⊥) → (cs : List (ℕ × Value)) → SpellsChanges 0 cs start → ⊥
reached_none first start pairs last rest r n never cs h = let x = r.comes cs h in next x.0 x.2
  where
    next : (more : List (ℕ × Value)) → SpellsChanges last more rest → ⊥
    next [] k = n k
    next (q ∷ qs) k = never q k.0 k.1

pub reached_end : (first : Value) (start : List Piece) (pairs : List (ℕ × Value)) (last : ℕ) (rest : List Piece)
    → Reached first start pairs last rest → rest ≡ [] → (cs : List (ℕ × Value)) × (pairs ≡ (0, first) ∷ cs) × SpellsChanges 0 cs start
reached_end first start pairs last rest r e = (r.done, r.items, subst (λ xs. SpellsChanges 0 xs start) (append-nil r.done) (r.goes [] e))

-- ---- a change after a day

none_some : {A : Type 0} {x : A} → None ≡ Some x → ⊥
none_some e = absurd (cc e)

pub change_told : {X : Type 0} (view : X → List Piece) (ps : List Piece) (o : Option ((ℕ × Value) × X)) (p : ℕ × Value) (x : X) → o ≡ Some (p, x) → option_map (λ (y : (ℕ × Value) × X). ((y.0.0, as_written y.0.1), view y.1)) o ≡ change_at ps → SpellsChange p ps (view x)
change_told {X} view ps o p x h e = change_sound p ps (view x) (sym e ∙ ap (option_map (λ (y : (ℕ × Value) × X). ((y.0.0, as_written y.0.1), view y.1))) h)

pub no_change : {X : Type 0} (view : X → List Piece) (d : ℕ) (ps : List Piece) (o : Option ((ℕ × Value) × X)) → o ≡ None → option_map (λ (y : (ℕ × Value) × X). ((y.0.0, as_written y.0.1), view y.1)) o ≡ change_at ps → (p : ℕ × Value) (rest : List Piece) → SpellsLater d p ps rest → ⊥
no_change view d ps None n e p rest h = none_some (e ∙ change_complete p ps rest h.0)
no_change view d ps (Some y) n e p rest h = absurd (cc n)

pub not_later : (d : ℕ) (ps : List Piece) (p : ℕ × Value) (rest : List Piece) → SpellsChange p ps rest → (d < p.0 → ⊥) → (q : ℕ × Value) (left : List Piece) → SpellsLater d q ps left → ⊥
not_later d ps p rest s n q left h = n (subst (λ x. d < x.0) (one_change ps q p left rest h.0 s).0 h.1)

-- ---- pairs

pub pairs_none : (ps : List Piece) → ((v : Value) (rest : List Piece) → SpellsValue v ps rest → ⊥) → (pairs : List (ℕ × Value)) → SpellsPairs pairs ps → ⊥
pairs_none ps n [] h = h
pairs_none ps n (p ∷ pairs) h = n p.1 h.0 h.2

pub pairs_no_changes : (ps rest : List Piece) (v : Value) → SpellsValue v ps rest → ((cs : List (ℕ × Value)) → SpellsChanges 0 cs rest → ⊥) → (pairs : List (ℕ × Value)) → SpellsPairs pairs ps → ⊥
pairs_no_changes ps rest v s n [] h = h
pairs_no_changes ps rest v s n (p ∷ pairs) h = n pairs (subst (SpellsChanges 0 pairs) (one_value ps p.1 v h.0 rest h.2 s).1 h.3)

pub pairs_are : (ps rest : List Piece) (v : Value) (items : List (ℕ × Value)) → SpellsValue v ps rest → (cs : List (ℕ × Value)) × (items ≡ (0, v) ∷ cs) × SpellsChanges 0 cs rest → SpellsPairs items ps
pairs_are ps rest v items s h = subst (λ xs. SpellsPairs xs ps) (sym h.1) (rest, refl, s, h.2)

-- ---- what is spelled is a line's

day_below : (d : ℕ) (ps rest : List Piece) → SpellsDay d ps rest → d < DAYS
day_below d ps rest h = (only_texts_are_read h.0 d h.2).0

changes_rise : (d : ℕ) (cs : List (ℕ × Value)) (ps : List Piece) → SpellsChanges d cs ps → rises_from d cs ≡ true
changes_rise d [] ps h = refl
changes_rise d (p ∷ cs) ps h = ap (λ b. cond b (rises_from p.0 cs) false) (lt-ltb d p.0 h.1.1) ∙ changes_rise p.0 cs h.0 h.2

changes_below : (d : ℕ) (cs : List (ℕ × Value)) (ps : List Piece) → SpellsChanges d cs ps → all_below DAYS cs ≡ true
changes_below d [] ps h = refl
changes_below d (p ∷ cs) ps h = ap (λ b. cond b (all_below DAYS cs) false) (lt-ltb p.0 DAYS (day_below p.0 h.1.0.0 h.1.0.1 h.1.0.3)) ∙ changes_below p.0 cs h.0 h.2

pub pairs_faultless : (pairs : List (ℕ × Value)) (ps : List Piece) → SpellsPairs pairs ps → fault_of pairs ≡ None
pairs_faultless [] ps h = absurd h
pairs_faultless (p ∷ cs) ps h =
    ap (λ (d : ℕ). cond (d == 0) (cond (rises_from d cs) (cond (cond (nat_lt d DAYS) (all_below DAYS cs) false) None (Some Range)) (Some Order)) (Some FirstDay)) h.1
    ∙ ap (λ b. cond b (cond (all_below DAYS cs) None (Some Range)) (Some Order)) (changes_rise 0 cs h.0 h.3)
    ∙ ap (λ b. cond b None (Some Range)) (changes_below 0 cs h.0 h.3)

-- a text says at most one list of pairs
changes_one : (d : ℕ) (cs es : List (ℕ × Value)) (ps : List Piece) → SpellsChanges d cs ps → SpellsChanges d es ps → cs ≡ es
changes_one d [] [] ps h k = refl
changes_one d [] (q ∷ es) ps h k = absurd (nothing_shorter ps k.0 (change_shorter q ps k.0 k.1.0) h)
changes_one d (p ∷ cs) [] ps h k = absurd (nothing_shorter ps h.0 (change_shorter p ps h.0 h.1.0) k)
changes_one d (p ∷ cs) (q ∷ es) ps h k =
    let same = one_change ps p q h.0 k.0 h.1.0 k.1.0 in
    ap (λ x. x ∷ cs) same.0 ∙ ap (λ xs. q ∷ xs) (changes_one q.0 cs es k.0 (subst (λ x. SpellsChanges x.0 cs k.0) same.0 (subst (SpellsChanges p.0 cs) same.1 h.2)) k.2)

pub pairs_one : (pairs others : List (ℕ × Value)) (ps : List Piece) → SpellsPairs pairs ps → SpellsPairs others ps → pairs ≡ others
pairs_one [] others ps h k = absurd h
pairs_one (p ∷ cs) [] ps h k = absurd k
pairs_one (p ∷ cs) (q ∷ es) ps h k =
    let same = one_value ps p.1 q.1 h.0 k.0 h.2 k.2 in
    ap (λ (d : ℕ). pair_of d p.1 ∷ cs) (h.1 ∙ sym k.1) ∙ ap (λ v. pair_of q.0 v ∷ cs) same.0 ∙ ap (λ xs. q ∷ xs) (changes_one 0 cs es k.0 (subst (SpellsChanges 0 cs) same.1 h.3) k.3)
  where
    pair_of : ℕ → Value → ℕ × Value
    pair_of d v = (d, v)

-- ---- lines

pub line_none : (ps : List Piece) → ((pairs : List (ℕ × Value)) → SpellsPairs pairs ps → ⊥) → (l : List (ℕ × Value)) → SpellsLine l ps → ⊥
line_none ps n l h = n h.0 h.1

pub line_is : (ps : List Piece) (pairs l : List (ℕ × Value)) → SpellsPairs pairs ps → ((d : ℕ) → d < DAYS → at l d ≡ at pairs d) → SpellsLine l ps
line_is ps pairs l s h = (pairs, s, h)

-- ---- its days are of the calendar

value_days : (v : Value) (ps rest : List Piece) → SpellsValue v ps rest → IsOfCalendar v
value_days value.Unknown ps rest h = tt
value_days value.Uncertain ps rest h = tt
value_days (value.Bool b) ps rest h = tt
value_days (value.Num n) ps rest h = tt
value_days (value.Words t) ps rest h = tt
value_days (value.Day d) ps rest h = day_below d ps rest h

-- a value that is read has a day of the calendar
pub told_days : {X : Type 0} (view : X → List Piece) (ps : List Piece) (r : Option (Value × X)) → MatchOption r ((v : Value) (rest : List Piece) → SpellsValue v ps rest → ⊥) (λ x. SpellsValue x.0 ps (view x.1)) → IfSome r (λ x. IsOfCalendar x.0)
told_days view ps None h = tt
told_days view ps (Some x) h = value_days x.0 ps (view x.1) h

changes_days : (d : ℕ) (cs : List (ℕ × Value)) (ps : List Piece) → SpellsChanges d cs ps → AllByRecursion (λ (p : ℕ × Value). IsOfCalendar p.1) cs
changes_days d [] ps h = tt
changes_days d (p ∷ cs) ps h = (value_days p.1 h.1.0.1 h.0 h.1.0.4, changes_days p.0 cs h.0 h.2)

pairs_days : (pairs : List (ℕ × Value)) (ps : List Piece) → SpellsPairs pairs ps → AllByRecursion (λ (p : ℕ × Value). IsOfCalendar p.1) pairs
pairs_days [] ps h = absurd h
pairs_days (p ∷ cs) ps h = (value_days p.1 ps h.0 h.2, changes_days 0 cs h.0 h.3)

pub line_days : (l : List (ℕ × Value)) (ps : List Piece) → SpellsLine l ps → HasDays l
line_days l ps h d v below e = all_days IsOfCalendar h.0 d v (pairs_days h.0 ps h.1) (sym (h.2 d below) ∙ e)

pub no_or_days : (r : Option (List (ℕ × Value))) (A : Type 0) (ps : List Piece) → MatchOption r A (λ l. SpellsLine l ps) → IfSome r HasDays
no_or_days None A ps h = tt
no_or_days (Some l) A ps h = line_days l ps h
