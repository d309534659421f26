-- Of some questions those that aren't among others, by a set.
use Rattle.std.proofs.Common.{arith, ◌≡◌, ◌⊎◌, ◌↔◌, inl, inr, ℕ, ◌+◌, ◌<◌, Bool, true, false, not, cond, eqb, List, [], ◌∷◌, ◌++◌, length, get_or, take, Some, is_some, Contains, refl, sym, ◌∙◌, ap, subst}
use Rattle.std.specs.FinMap.{FinMap, get, insert, empty, get-insert, get-empty}
use Rattle.std.specs.Ordering.{eq_by_cmp}
use Rattle.std.specs.Cmp.{eq_by_cmp_equiv}
use Rattle.std.proofs.lemmas.List.{take_more}
use Rattle.std.proofs.lemmas.List.Elements.{Contains-append_left, Contains-append_right, Contains-append_cases, Contains-push, Contains-push_cases}
use Rattle.std.proofs.lemmas.Map.Views.{tells_apart}
use Rattle.opa_model.specs.declared.ids.AttrId.{AttrId}
use Rattle.opa_model.specs.declared.ids.RelId.{RelId}
use Rattle.opa_cells.specs.Keys.{cell_cmp}
use Rattle.opa_cells.specs.declared.instance.InstanceId.{InstanceId}
use Rattle.opa_cells.proofs.Orders.{cell_exact, cell_total}
use Rattle.opa_case.specs.declared.question.Question.{Question}
use Rattle.opa_case.specs.declared.question.Question.TheVariants as question
use Rattle.opa_mean.specs.Gathering.{AreThose}
use Rattle.opa_tree.proofs.Members.{none_in, contains_head}
use Rattle.opa_session.specs.Readers.Indexes.{SameKey}
use Rattle.opa_session.specs.Readers.Touches.{AddsAsked, AreAsked, AreSifted, AreWithout, SameQuestion, Sifts, is_asked}
use Rattle.opa_session.specs.declared.readers.asked.Asked.{Asked}

abbrev Marks : Type 0
Marks = FinMap cell_cmp (Unit {0})

-- a key more
marked : (m new : Marks) (k j : ℕ × InstanceId) (v : Unit {0}) → new ≡ insert m k v → (is_some (get new j) ≡ true) ↔ ((is_some (get m j) ≡ true) ⊎ SameKey k j)
marked m new k j v is = go (eq_by_cmp cell_cmp j k) refl
  where
    at : (t : Bool) → eq_by_cmp cell_cmp j k ≡ t → is_some (get new j) ≡ is_some (cond t (Some v) (get m j))
    at t e = ap (λ (u : Marks). is_some (get u j)) is ∙ ap is_some (get-insert cell_total m k v j ∙ ap (λ b. cond b (Some v) (get m j)) e)

    go : (t : Bool) → eq_by_cmp cell_cmp j k ≡ t → (is_some (get new j) ≡ true) ↔ ((is_some (get m j) ≡ true) ⊎ SameKey k j)
    go true e = (λ h. inr (sym (tells_apart cell_exact j k e)), λ h. at true e)
    go false e = (λ h. inl (sym (at false e) ∙ h), λ h. at false e ∙ back h)
      where
        back : (is_some (get m j) ≡ true) ⊎ SameKey k j → is_some (get m j) ≡ true
        back (inl h) = h
        back (inr same) = absurd (cc (e, ap (λ (y : ℕ × InstanceId). eq_by_cmp cell_cmp y k) (sym same), (eq_by_cmp_equiv cell_total).refl k))

pub line_asked : (old new : Asked) (m : AttrId) (k k' : InstanceId) (v : Unit {0}) → k' ≡ k → new.lines ≡ insert old.lines (m.0, k') v → new.lists ≡ old.lists → AddsAsked (question.Attr m k) old new
line_asked old new m k k' v key is same (question.Attr b j) = (λ h. out ((here (b.0, j)).0 h), λ h. (here (b.0, j)).1 (into h))
  where
    here : (p : ℕ × InstanceId) → (is_some (get new.lines p) ≡ true) ↔ ((is_some (get old.lines p) ≡ true) ⊎ SameKey (m.0, k) p)
    here p = marked old.lines new.lines (m.0, k) p v (is ∙ ap (λ (y : InstanceId). insert old.lines (m.0, y) v) key)

    out : (is_some (get old.lines (b.0, j)) ≡ true) ⊎ SameKey (m.0, k) (b.0, j) → (is_some (get old.lines (b.0, j)) ≡ true) ⊎ SameQuestion (question.Attr m k) (question.Attr b j)
    out (inl h) = inl h
    out (inr e) = inr (ap (λ (p : ℕ × InstanceId). let y : AttrId = record { 0 = p.0 } in question.Attr y p.1) e)

    into : (is_some (get old.lines (b.0, j)) ≡ true) ⊎ SameQuestion (question.Attr m k) (question.Attr b j) → (is_some (get old.lines (b.0, j)) ≡ true) ⊎ SameKey (m.0, k) (b.0, j)
    into (inl h) = inl h
    into (inr e) =
        let attrs : m ≡ b = cc e in let insts : k ≡ j = cc e in
        inr (ap (λ (y : AttrId). let p : ℕ × InstanceId = (y.0, k) in p) attrs ∙ ap (λ (y : InstanceId). let p : ℕ × InstanceId = (b.0, y) in p) insts)
line_asked old new m k k' v key is same (question.Members q j) = (λ h. inl (ap (λ (u : Marks). is_some (get u (q.0, j))) (sym same) ∙ h), λ h. ap (λ (u : Marks). is_some (get u (q.0, j))) same ∙ old_one h)
  where
    old_one : (is_some (get old.lists (q.0, j)) ≡ true) ⊎ SameQuestion (question.Attr m k) (question.Members q j) → is_some (get old.lists (q.0, j)) ≡ true
    old_one (inl h) = h
    old_one (inr e) = absurd (cc e)

pub list_asked : (old new : Asked) (m : RelId) (k k' : InstanceId) (v : Unit {0}) → k' ≡ k → new.lists ≡ insert old.lists (m.0, k') v → new.lines ≡ old.lines → AddsAsked (question.Members m k) old new
list_asked old new m k k' v key is same (question.Members b j) = (λ h. out ((here (b.0, j)).0 h), λ h. (here (b.0, j)).1 (into h))
  where
    here : (p : ℕ × InstanceId) → (is_some (get new.lists p) ≡ true) ↔ ((is_some (get old.lists p) ≡ true) ⊎ SameKey (m.0, k) p)
    here p = marked old.lists new.lists (m.0, k) p v (is ∙ ap (λ (y : InstanceId). insert old.lists (m.0, y) v) key)

    out : (is_some (get old.lists (b.0, j)) ≡ true) ⊎ SameKey (m.0, k) (b.0, j) → (is_some (get old.lists (b.0, j)) ≡ true) ⊎ SameQuestion (question.Members m k) (question.Members b j)
    out (inl h) = inl h
    out (inr e) = inr (ap (λ (p : ℕ × InstanceId). let y : RelId = record { 0 = p.0 } in question.Members y p.1) e)

    into : (is_some (get old.lists (b.0, j)) ≡ true) ⊎ SameQuestion (question.Members m k) (question.Members b j) → (is_some (get old.lists (b.0, j)) ≡ true) ⊎ SameKey (m.0, k) (b.0, j)
    into (inl h) = inl h
    into (inr e) =
        let rels : m ≡ b = cc e in let insts : k ≡ j = cc e in
        inr (ap (λ (y : RelId). let p : ℕ × InstanceId = (y.0, k) in p) rels ∙ ap (λ (y : InstanceId). let p : ℕ × InstanceId = (b.0, y) in p) insts)
list_asked old new m k k' v key is same (question.Attr b j) = (λ h. inl (ap (λ (u : Marks). is_some (get u (b.0, j))) (sym same) ∙ h), λ h. ap (λ (u : Marks). is_some (get u (b.0, j))) same ∙ old_one h)
  where
    old_one : (is_some (get old.lines (b.0, j)) ≡ true) ⊎ SameQuestion (question.Members m k) (question.Attr b j) → is_some (get old.lines (b.0, j)) ≡ true
    old_one (inl h) = h
    old_one (inr e) = absurd (cc e)

pub none_asked : (lines lists : Marks) → lines ≡ empty → lists ≡ empty → (q : Question) → let x : Asked = record { lines = lines; lists = lists } in is_asked x q ≡ false
none_asked lines lists e f (question.Attr a i) = ap (λ (t : Marks). is_some (get t (a.0, i))) e ∙ ap is_some (get-empty cell_cmp (a.0, i))
none_asked lines lists e f (question.Members q i) = ap (λ (t : Marks). is_some (get t (q.0, i))) f ∙ ap is_some (get-empty cell_cmp (q.0, i))

-- no question in a set, and one more
pub asked_none : (x : Asked) → ((q : Question) → is_asked x q ≡ false) → AreAsked [] x
asked_none x none q = (λ h. absurd (cc (none q, h)), λ h. absurd (none_in q h))

pub asked_more : (qs : List Question) (p : Question) (x x' : Asked) → AreAsked qs x → AddsAsked p x x' → AreAsked (qs ++ p ∷ []) x'
asked_more qs p x x' h adds q = (λ e. out ((adds q).0 e), λ there. (adds q).1 (into (Contains-push_cases qs p q there)))
  where
    out : (is_asked x q ≡ true) ⊎ SameQuestion p q → Contains (qs ++ p ∷ []) q
    out (inl e) = Contains-append_left qs (p ∷ []) q ((h q).0 e)
    out (inr same) = subst (λ (y : Question). Contains (qs ++ p ∷ []) y) same (Contains-push qs p)

    into : Contains qs q ⊎ SameQuestion p q → (is_asked x q ≡ true) ⊎ SameQuestion p q
    into (inl there) = inl ((h q).1 there)
    into (inr same) = inr same

pub asked_next : (qs : List Question) (k : ℕ) (p : Question) (x x' : Asked) → k < length qs → p ≡ get_or qs k p → AreAsked (take k qs) x → AddsAsked p x x' → AreAsked (take (k + 1) qs) x'
asked_next qs k p x x' lt is h adds = subst (λ ys. AreAsked ys x') (sym (take_more qs k p lt ∙ ap (λ z. take k qs ++ z ∷ []) (sym is))) (asked_more (take k qs) p x x' h adds)

-- before the first question
pub sift_start : (others : List Question) (passed : Asked) (kept : List Question) → AreAsked others passed → kept ≡ [] → AreSifted others [] passed kept
sift_start others passed kept h is = record {
  passed_are = λ q. (λ e. Contains-append_left others [] q ((h q).0 e), λ there. (h q).1 (first q (Contains-append_cases others [] q there)));
  kept_are = λ q. (λ c. absurd (none_in q (subst (λ (qs : List Question). Contains qs q) is c)), λ c. absurd (none_in q c.0));
}
  where
    first : (q : Question) → Contains others q ⊎ Contains [] q → Contains others q
    first q (inl there) = there
    first q (inr none) = absurd (none_in q none)

moved : (xs : List Question) (q p : Question) → SameQuestion q p → Contains xs q → Contains xs p
moved xs q p e h = subst (λ (x : Question). Contains xs x) e h

-- a question that was passed
pub sift_passed : (q : Question) (passed : Asked) (kept : List Question) → is_asked passed q ≡ true → Sifts q passed passed kept kept
sift_passed q passed kept is others done h = record {
  passed_are = λ p. (λ e. wider p (Contains-append_cases others done p ((h.passed_are p).0 e)), λ there. (h.passed_are p).1 (back p (Contains-append_cases others (done ++ q ∷ []) p there)));
  kept_are = λ p. (λ c. let two = (h.kept_are p).0 c in (Contains-append_left done (q ∷ []) p two.0, two.1), λ c. keeps p c.1 (Contains-push_cases done q p c.0));
}
  where
    was : Contains (others ++ done) q
    was = (h.passed_are q).0 is

    wider : (p : Question) → Contains others p ⊎ Contains done p → Contains (others ++ (done ++ q ∷ [])) p
    wider p (inl o) = Contains-append_left others (done ++ q ∷ []) p o
    wider p (inr d) = Contains-append_right others (done ++ q ∷ []) p (Contains-append_left done (q ∷ []) p d)

    last : (p : Question) → Contains done p ⊎ SameQuestion q p → Contains (others ++ done) p
    last p (inl d) = Contains-append_right others done p d
    last p (inr e) = moved (others ++ done) q p e was

    back : (p : Question) → Contains others p ⊎ Contains (done ++ q ∷ []) p → Contains (others ++ done) p
    back p (inl o) = Contains-append_left others done p o
    back p (inr d) = last p (Contains-push_cases done q p d)

    gone : (p : Question) → SameQuestion q p → (Contains others p → ⊥) → Contains others q ⊎ Contains done q → Contains kept p
    gone p e none (inl o) = absurd (none (moved others q p e o))
    gone p e none (inr d) = (h.kept_are p).1 (moved done q p e d, none)

    keeps : (p : Question) → (Contains others p → ⊥) → Contains done p ⊎ SameQuestion q p → Contains kept p
    keeps p none (inl d) = (h.kept_are p).1 (d, none)
    keeps p none (inr e) = gone p e none (Contains-append_cases others done q was)

-- one that wasn't
pub sift_new : (q : Question) (passed passed' : Asked) (kept kept' : List Question) → is_asked passed q ≡ false → AddsAsked q passed passed' → kept' ≡ kept ++ q ∷ [] → Sifts q passed passed' kept kept'
sift_new q passed passed' kept kept' not_asked adds is others done h = record {
  passed_are = λ p. (λ e. out p ((adds p).0 e), λ there. (adds p).1 (into p (Contains-append_cases others (done ++ q ∷ []) p there)));
  kept_are = λ p. (λ c. keeps p (Contains-push_cases kept q p (subst (λ (qs : List Question). Contains qs p) is c)), λ c. subst (λ (qs : List Question). Contains qs p) (sym is) (kept_in p c.1 (Contains-push_cases done q p c.0)));
}
  where
    fresh : Contains others q → ⊥
    fresh o = cc (not_asked, (h.passed_are q).1 (Contains-append_left others done q o))

    wider : (p : Question) → Contains others p ⊎ Contains done p → Contains (others ++ (done ++ q ∷ [])) p
    wider p (inl o) = Contains-append_left others (done ++ q ∷ []) p o
    wider p (inr d) = Contains-append_right others (done ++ q ∷ []) p (Contains-append_left done (q ∷ []) p d)

    out : (p : Question) → (is_asked passed p ≡ true) ⊎ SameQuestion q p → Contains (others ++ (done ++ q ∷ [])) p
    out p (inl e) = wider p (Contains-append_cases others done p ((h.passed_are p).0 e))
    out p (inr e) = moved (others ++ (done ++ q ∷ [])) q p e (Contains-append_right others (done ++ q ∷ []) q (Contains-push done q))

    last : (p : Question) → Contains done p ⊎ SameQuestion q p → (is_asked passed p ≡ true) ⊎ SameQuestion q p
    last p (inl d) = inl ((h.passed_are p).1 (Contains-append_right others done p d))
    last p (inr e) = inr e

    into : (p : Question) → Contains others p ⊎ Contains (done ++ q ∷ []) p → (is_asked passed p ≡ true) ⊎ SameQuestion q p
    into p (inl o) = inl ((h.passed_are p).1 (Contains-append_left others done p o))
    into p (inr d) = last p (Contains-push_cases done q p d)

    keeps : (p : Question) → Contains kept p ⊎ SameQuestion q p → Contains (done ++ q ∷ []) p × (Contains others p → ⊥)
    keeps p (inl k) = let two = (h.kept_are p).0 k in (Contains-append_left done (q ∷ []) p two.0, two.1)
    keeps p (inr e) = (moved (done ++ q ∷ []) q p e (Contains-push done q), λ o. fresh (moved others p q (sym e) o))

    kept_in : (p : Question) → (Contains others p → ⊥) → Contains done p ⊎ SameQuestion q p → Contains (kept ++ q ∷ []) p
    kept_in p none (inl d) = Contains-append_left kept (q ∷ []) p ((h.kept_are p).1 (d, none))
    kept_in p none (inr e) = moved (kept ++ q ∷ []) q p e (Contains-push kept q)

pub sift_next : (others qs : List Question) (k : ℕ) (q : Question) (passed passed' : Asked) (kept kept' : List Question) → k < length qs → q ≡ get_or qs k q → AreSifted others (take k qs) passed kept → Sifts q passed passed' kept kept' → AreSifted others (take (k + 1) qs) passed' kept'
sift_next others qs k q passed passed' kept kept' lt is h step =
    subst (λ (ys : List Question). AreSifted others ys passed' kept') (sym (take_more qs k q lt ∙ ap (λ z. take k qs ++ z ∷ []) (sym is))) (step others (take k qs) h)

-- of no questions none is left
pub none_left : (xs ys left : List Question) → length xs ≡ 0 → left ≡ [] → AreWithout xs ys left
none_left xs ys left none kept q =
    (λ h. absurd (none_in q (subst (λ (zs : List Question). Contains zs q) kept h)), λ h. let lt = h.0.1 in absurd (omega (arith, lt, none)))

-- where some are left, the two aren't the same questions
pub some_left : (xs ys left : List Question) (t : Bool) → AreWithout xs ys left → t ≡ eqb (length left) 0 → not t ≡ true → AreThose xs ys → ⊥
some_left xs ys [] t h e some same = cc (ap not e, some)
some_left xs ys (q ∷ left) t h e some same = let two = (h q).0 (contains_head q left) in two.1 ((same q).0 two.0)
