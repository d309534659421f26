-- The first lines: slots rise by rank, so that what a rule mentions was derived before.
use Rattle.std.proofs.Common.{◌≡◌, ◌⊎◌, inl, inr, ℕ, zero, suc, ◌+◌, ◌<◌, ◌≤◌, Bool, true, false, List, [], ◌∷◌, ◌++◌, map, filter, length, take, get_or, Option, None, Some, Bor, is_some, Contains, refl, sym, ◌∙◌, ap, subst, arith}
use Rattle.std.specs.Option.{option_copied, option_or}
use Rattle.std.specs.FinMap.{get}
use Rattle.std.proofs.Math.Seq.{take-suc}
use Rattle.std.proofs.lemmas.List.Elements.{Contains-append_cases, Contains-get_or}
use Rattle.opa_date.specs.declared.TheConstants.{DAYS}
use Rattle.opa_line.specs.Lines.{StandsFor}
use Rattle.opa_model.specs.declared.ids.AttrId.{AttrId}
use Rattle.opa_cells.specs.declared.instance.InstanceId.{InstanceId}
use Rattle.opa_case.specs.Cases.{CaseView, Answer, IsLive}
use Rattle.opa_case.specs.Shapes.{shape_of}
use Rattle.opa_case.specs.Steps.{has_kind}
use Rattle.opa_tree.specs.declared.rulebase.Rulebase.{Rulebase}
use Rattle.opa_tree.specs.declared.rules.Rule.{Rule}
use Rattle.opa_tree.specs.Ranks.{rank_at}
use Rattle.opa_tree.specs.Rules.{rule_of}
use Rattle.opa_tree.proofs.Members.{none_in, contains_cases, contains_head, contains_tail}
use Rattle.opa_mean.specs.Changes.{ruled, slots}
use Rattle.opa_mean.specs.Derivations.{MayDerive, derived}
use Rattle.opa_mean.specs.Given.{base_of, facts_of, line_value}
use Rattle.opa_mean.specs.Mean.{look_of, concluded, fitted, mean}
use Rattle.opa_mean.specs.Meaning.{value}
use Rattle.opa_mean.specs.Places.{is_of, owner_of}
use Rattle.opa_mean.specs.Rulebases.{IsOf, value_at}
use Rattle.opa_mean.specs.Slots.{is_slot}
use Rattle.opa_mean.proofs.Determining.{determined}
use Rattle.opa_mean.proofs.Filtered.{Ordered, ordered_flat, map_out}
use Rattle.opa_mean.proofs.LawsOver.{base}
use Rattle.opa_mean.proofs.SlotsAre.{slots_are_live}
use Rattle.opa_session.specs.Telling.Among.{ByRank}
use Rattle.opa_session.proofs.telling.Rising.{ruled_rises}
use Rattle.opa_mean.specs.Reached.Settling.{Lines, AreCurrent, HaveKinds, NoLines, SameLines, Stages, laid, laid_look, laid_value}
use Rattle.opa_mean.proofs.reached.Laying.{derived_right}
use Rattle.opa_mean.proofs.reached.Looking.{line_right}
use Rattle.opa_mean.proofs.reached.Parted.{parts_of, slot_is}
use Rattle.opa_mean.proofs.reached.Rising.{rises, listed_rise, to_one}
use Rattle.opa_mean.proofs.reached.Staging.{split_line, split_some, some_stays, some_here}
use Rattle.opa_mean.specs.declared.reached.slot.Slot.{Slot}
use Rattle.opa_mean.proofs.reached.Allowing.{line_kind}
use Rattle.opa_session.specs.Store.Stores.{AreListed, is_listed}
use Rattle.opa_session.specs.Infer.First.{AreFirst}

abbrev Pair : Type 0
Pair = AttrId × InstanceId

-- ---- order

abbrev NoHigher : {X : Type 0} → (X → ℕ) → X → X → Type 0
NoHigher f x y = f x ≤ f y

-- what is lower than an item stands before it
earlier : {X : Type 0} (f : X → ℕ) (xs : List X) → Ordered (NoHigher f) xs → (n : ℕ) (d : X) → n < length xs → (y : X) → Contains xs y → f y < f (get_or xs n d) → Contains (take n xs) y
earlier f [] o n d within y h lt = absurd (none_in y h)
earlier f (z ∷ xs) o zero d within y h lt = go (contains_cases z y xs h)
  where
    go : (z ≡ y) ⊎ Contains xs y → Contains (take zero (z ∷ xs)) y
    go (inl e) = let same : f z ≡ f y = ap f e in absurd (omega (arith, lt, same))
    go (inr k) = let le = o.0 y k in absurd (omega (arith, lt, le))
earlier f (z ∷ xs) o (suc n) d within y h lt = go (contains_cases z y xs h) (earlier f xs o.1 n d (omega (arith, within)) y)
  where
    go : (z ≡ y) ⊎ Contains xs y → (Contains xs y → f y < f (get_or xs n d) → Contains (take n xs) y) → Contains (z ∷ take n xs) y
    go (inl e) rec = subst (Contains (z ∷ take n xs)) e (contains_head z (take n xs))
    go (inr k) rec = contains_tail z y (take n xs) (rec k lt)

module _ (r : Rulebase) (c : CaseView) where
  abbrev rank : Pair → ℕ
  rank x = rank_at r.ranks x.0

  abbrev with_each : AttrId → List Pair
  with_each a = map {B = AttrId × InstanceId} (λ i. (a, i)) (filter (is_of (owner_of (shape_of r.model) a)) (facts_of c).instances)

  of_attr : (a : AttrId) (x : Pair) → Contains (with_each a) x → a ≡ x.0
  of_attr a x h = let m = map_out (λ i. (let p : Pair = (a, i) in p)) (filter (is_of (owner_of (shape_of r.model) a)) (facts_of c).instances) x h in ap (λ (y : Pair). y.0) m.1.1

  one_rank : (a : AttrId) (is : List InstanceId) → Ordered (NoHigher rank) (map {B = AttrId × InstanceId} (λ i. (a, i)) is)
  one_rank a [] = tt
  one_rank a (i ∷ is) = (λ y h. let m = map_out (λ j. (let p : Pair = (a, j) in p)) is y h in let e : rank_at r.ranks a ≡ rank y = ap rank m.1.1 in omega (arith, e), one_rank a is)

  across : (x y : AttrId) (u v : Pair) → ByRank (base_of r) x y → Contains (with_each x) u → Contains (with_each y) v → rank u ≤ rank v
  across x y u v by h k = go by
    where
      e : rank_at r.ranks x ≡ rank u
      e = ap (rank_at r.ranks) (of_attr x u h)

      e' : rank_at r.ranks y ≡ rank v
      e' = ap (rank_at r.ranks) (of_attr y v k)

      go : ByRank (base_of r) x y → rank u ≤ rank v
      go (inl lt) = let low : rank_at r.ranks x < rank_at r.ranks y = lt in let p = e in let q = e' in omega (arith, low, p, q)
      go (inr both) = let same : rank_at r.ranks x ≡ rank_at r.ranks y = both.0 in let p = e in let q = e' in omega (arith, same, p, q)

  pub slots_rise : Ordered (NoHigher rank) (slots (base_of r) (facts_of c))
  slots_rise = ordered_flat (ByRank (base_of r)) (NoHigher rank) with_each across (λ a. one_rank a (filter (is_of (owner_of (shape_of r.model) a)) (facts_of c).instances)) (ruled (base_of r)) (ruled_rises (base_of r))

-- ---- one line more

module _ (r : Rulebase) (c : CaseView) (is : IsOf r c) (xs : List Pair) (are : xs ≡ slots (base_of r) (facts_of c)) (kept staged : Lines) where
  -- the lines of the slots before a place
  module _ (n : ℕ) (h : AreFirst r c (take n xs) kept staged) (kinds : HaveKinds r) where
    seen_kind : (m : AttrId) (j : InstanceId) (d : ℕ) → d < DAYS → (o p q : Option Answer) → staged m j ≡ o → kept m j ≡ p → get c.answers (m.0, j) ≡ q
        → has_kind ((shape_of r.model).attribute m).kind (line_value (option_or o (option_or p q)) d) ≡ true
    seen_kind m j d lt (Some l) p q e e' e'' = ap (has_kind ((shape_of r.model).attribute m).kind) (line_right (value_at r c m j) l (h.right m j l e) d lt) ∙ kinds c is m j d
    seen_kind m j d lt None (Some l) q e e' e'' = absurd (cc (sym e' ∙ h.none m j))
    seen_kind m j d lt None None (Some l) e e' e'' = line_kind ((shape_of r.model).attribute m).kind l (is.fits.answers m j l e'').kind d
    seen_kind m j d lt None None None e e' e'' = refl

    pub may_first : (a : AttrId) (i : InstanceId) → is_slot r c a i ≡ true → MayDerive (base_of r) (laid_look c kept staged) a i
    may_first a i slot =
        let p = parts_of r c a i slot in
        record {
          ruled = p.ruled;
          owner = p.owner;
          kinds = λ m j d lt. seen_kind m j d lt (staged m j) (kept m j) (get c.answers (m.0, j)) refl refl refl;
          to_one = to_one r c is;
          rises = rises r c is i p.live;
          listed_rise = listed_rise r c is;
        }

  module _ (n : ℕ) (h : AreFirst r c (take n xs) kept staged) (a : AttrId) (i : InstanceId) (within : n < length xs) (at : get_or xs n (a, i) ≡ (let p : Pair = (a, i) in p)) where
    before : (m : AttrId) (j : InstanceId) → rank_at r.ranks m < rank_at r.ranks a → is_slot r c m j ≡ true → Contains (take n xs) (m, j)
    before m j low slot =
        earlier (rank r c) xs (subst (Ordered (NoHigher (rank r c))) (sym are) (slots_rise r c)) n (a, i) within (m, j)
        (subst (λ (ys : List Pair). Contains ys (m, j)) (sym are) ((slots_are_live r c is m j).1 slot))
        (let e : rank_at r.ranks a ≡ rank r c (get_or xs n (a, i)) = ap (rank r c) (sym at) in omega (arith, low, e))

    seen_right : (m : AttrId) (j : InstanceId) → rank_at r.ranks m < rank_at r.ranks a → IsLive c j → j.entity.0 ≡ owner_of (shape_of r.model) m → (d : ℕ) → d < DAYS → laid_value c kept staged m j d ≡ value_at r c m j d
    seen_right m j low live own d lt = go (staged m j) refl (rule_of r.rules m) refl
      where
        go : (o : Option Answer) → staged m j ≡ o → (q : Option Rule) → rule_of r.rules m ≡ q → line_value (option_or (staged m j) (option_or (kept m j) (get c.answers (m.0, j)))) d ≡ value_at r c m j d
        go (Some l) e q e' =
            ap (λ x. line_value (option_or x (option_or (kept m j) (get c.answers (m.0, j)))) d) e ∙ line_right (value_at r c m j) l (h.right m j l e) d lt
        go None e (Some rule) e' = absurd (cc (h.all m j (before m j low (slot_is r c m j live own (ap is_some e'))), ap is_some e))
        go None e None e' =
            ap (λ x. line_value (option_or x (option_or (kept m j) (get c.answers (m.0, j)))) d) e
            ∙ ap (λ x. line_value (option_or x (get c.answers (m.0, j))) d) (h.none m j)
            ∙ sym (determined (base_of r) (facts_of c) (base r c is).falls m j d
            ∙ ap (λ o. concluded o ((facts_of c).answer m j d) (λ e. fitted (shape_of r.model) m (value (shape_of r.model) (look_of (facts_of c) (mean (base_of r) (facts_of c))) e (j ∷ []) d))) e')

    pub is_a_slot : is_slot r c a i ≡ true
    is_a_slot = (slots_are_live r c is a i).0 (subst (λ (ys : List Pair). Contains ys (a, i)) are there)
      where
        there : Contains xs (a, i)
        there = subst (Contains xs) at (Contains-get_or xs n (a, i) within)

    pub given_first : (d : ℕ) → d < DAYS → derived (base_of r) (laid_look c kept staged) a i d ≡ value_at r c a i d
    given_first d lt = let p = parts_of r c a i is_a_slot in derived_right r c is a (laid_value c kept staged) seen_right i p.live p.ruled d lt

-- one more slot has a line
module _ (r : Rulebase) (c : CaseView) (done : List Pair) (kept staged : Lines) (h : AreFirst r c done kept staged) (a : AttrId) (i : InstanceId) where
  in_more : (xs : List Pair) (b : AttrId) (j : InstanceId) → Contains (done ++ (a, i) ∷ []) (b, j) → Contains done (b, j) ⊎ ((let p : Pair = (a, i) in p) ≡ (let q : Pair = (b, j) in q))
  in_more xs b j k = go (Contains-append_cases done ((a, i) ∷ []) (b, j) k)
    where
      last : ((let p : Pair = (a, i) in p) ≡ (let q : Pair = (b, j) in q)) ⊎ Contains {X = Pair} [] (b, j) → Contains done (b, j) ⊎ ((let p : Pair = (a, i) in p) ≡ (let q : Pair = (b, j) in q))
      last (inl e) = inr e
      last (inr n) = absurd (none_in {X = Pair} (b, j) n)

      go : Contains done (b, j) ⊎ Contains {X = Pair} ((a, i) ∷ []) (b, j) → Contains done (b, j) ⊎ ((let p : Pair = (a, i) in p) ≡ (let q : Pair = (b, j) in q))
      go (inl n) = inl n
      go (inr n) = last (contains_cases {X = Pair} (a, i) (b, j) [] n)

  pub first_again : is_some (staged a i) ≡ true → AreFirst r c (done ++ (a, i) ∷ []) kept staged
  first_again some = record {
    none = h.none;
    right = h.right;
    slots = h.slots;
    all = λ b j k. go b j (in_more done b j k);
  }
    where
      go : (b : AttrId) (j : InstanceId) → Contains done (b, j) ⊎ ((let p : Pair = (a, i) in p) ≡ (let q : Pair = (b, j) in q)) → is_some (staged b j) ≡ true
      go b j (inl n) = h.all b j n
      go b j (inr e) = subst (λ (x : Pair). is_some (staged x.0 x.1) ≡ true) e some

  module _ (slot : is_slot r c a i ≡ true) (line : Answer) (right : StandsFor DAYS (value_at r c a i) line) (kept' staged' : Lines) (same : SameLines kept kept') (stages : Stages staged staged' a i line) where
    pub first_more : AreFirst r c (done ++ (a, i) ∷ []) kept' staged'
    first_more = record {
      none = λ b j. same b j ∙ h.none b j;
      right = λ b j l e. one b j l (split_line a i line staged staged' stages b j l e);
      slots = λ b j e. there b j (split_some a i line staged staged' stages b j e);
      all = λ b j k. go b j (in_more done b j k);
    }
      where
        one : (b : AttrId) (j : InstanceId) (l : Answer) → ((a ≡ b) × (i ≡ j) × (line ≡ l)) ⊎ (staged b j ≡ Some l) → StandsFor DAYS (value_at r c b j) l
        one b j l (inl e) = subst (λ (x : AttrId). StandsFor DAYS (value_at r c x j) l) e.0 (subst (λ (k : InstanceId). StandsFor DAYS (value_at r c a k) l) e.1 (subst (λ (x : Answer). StandsFor DAYS (value_at r c a i) x) e.2 right))
        one b j l (inr e) = h.right b j l e

        there : (b : AttrId) (j : InstanceId) → ((a ≡ b) × (i ≡ j)) ⊎ (is_some (staged b j) ≡ true) → is_slot r c b j ≡ true
        there b j (inl e) = sym (ap (λ x. is_slot r c x j) e.0) ∙ sym (ap (is_slot r c a) e.1) ∙ slot
        there b j (inr e) = h.slots b j e

        go : (b : AttrId) (j : InstanceId) → Contains done (b, j) ⊎ ((let p : Pair = (a, i) in p) ≡ (let q : Pair = (b, j) in q)) → is_some (staged' b j) ≡ true
        go b j (inl n) = some_stays a i line staged staged' stages b j (h.all b j n)
        go b j (inr e) = subst (λ (x : Pair). is_some (staged' x.0 x.1) ≡ true) e (some_here a i line staged staged' stages)

pub taken : (r : Rulebase) (c : CaseView) (xs : List Pair) (n : ℕ) (x : Pair) (kept staged : Lines) → n < length xs → get_or xs n x ≡ x → AreFirst r c (take n xs ++ x ∷ []) kept staged → AreFirst r c (take (n + 1) xs) kept staged
taken r c xs n x kept staged within at h = subst (λ (ys : List Pair). AreFirst r c ys kept staged) (ap (λ z. take n xs ++ z ∷ []) (sym at) ∙ sym (take-suc xs n x within) ∙ ap (λ m. take m xs) (more n)) h
  where
    more : (n : ℕ) → suc n ≡ n + 1
    more n = omega (arith)

-- nothing is staged yet
pub first_none : (r : Rulebase) (c : CaseView) (xs : List Pair) (kept staged : Lines) → NoLines kept → NoLines staged → AreFirst r c (take 0 xs) kept staged
first_none r c xs kept staged none nothing = record {
  none = none;
  right = λ a i line e. absurd (cc (sym e ∙ nothing a i));
  slots = λ a i e. absurd (cc (sym e ∙ ap is_some (nothing a i)));
  all = λ a i k. absurd (none_in (let p : Pair = (a, i) in p) k);
}

-- all slots have a line: laid over nothing they are current
pub all_first : (r : Rulebase) (c : CaseView) → IsOf r c → (xs : List Pair) → xs ≡ slots (base_of r) (facts_of c) → (kept staged kept' : Lines) → AreFirst r c xs kept staged → SameLines (laid kept staged) kept' → AreCurrent r c kept'
all_first r c is xs are kept staged kept' h same = record {
  there = λ a i. there a i (is_some (staged a i)) refl;
  right = λ a i line e. h.right a i line (sym (alone a i) ∙ sym (same a i) ∙ e);
}
  where
    alone : (a : AttrId) (i : InstanceId) → laid kept staged a i ≡ staged a i
    alone a i = go (staged a i) ∙ refl
      where
        go : (o : Option Answer) → option_or o (kept a i) ≡ o
        go (Some l) = refl
        go None = h.none a i

    held : (a : AttrId) (i : InstanceId) → is_some (kept' a i) ≡ is_some (staged a i)
    held a i = ap is_some (same a i ∙ alone a i)

    there : (a : AttrId) (i : InstanceId) (b : Bool) → is_some (staged a i) ≡ b → is_some (kept' a i) ≡ is_slot r c a i
    there a i true e = held a i ∙ e ∙ sym (h.slots a i e)
    there a i false e = held a i ∙ e ∙ sym (not_slot (is_slot r c a i) refl)
      where
        not_slot : (t : Bool) → is_slot r c a i ≡ t → is_slot r c a i ≡ false
        not_slot false q = q
        not_slot true q = absurd (cc (e, h.all a i (subst (λ (ys : List Pair). Contains ys (a, i)) (sym are) ((slots_are_live r c is a i).1 q))))

module _ (r : Rulebase) (c : CaseView) (is : IsOf r c) (xs : List Pair) (are : xs ≡ slots (base_of r) (facts_of c)) (kept staged : Lines) (n : ℕ) (h : AreFirst r c (take n xs) kept staged) (a : AttrId) (i : InstanceId)
    (within : n < length xs) (at : get_or xs n (a, i) ≡ (let p : Pair = (a, i) in p)) where
  pub next_may : HaveKinds r → (r' : Rulebase) → r' ≡ r → (j : InstanceId) → j ≡ i → MayDerive (base_of r') (laid_look c kept staged) a j
  next_may kinds r' e j f =
      subst (λ (q : Rulebase). MayDerive (base_of q) (laid_look c kept staged) a j) (sym e)
      (subst (λ (k : InstanceId). MayDerive (base_of r) (laid_look c kept staged) a k) (sym f) (may_first r c is xs are kept staged n h kinds a i (is_a_slot r c is xs are kept staged n h a i within at)))

  pub next_first : (r' : Rulebase) → r' ≡ r → (j : InstanceId) → j ≡ i → (line : Answer) → StandsFor DAYS (derived (base_of r') (laid_look c kept staged) a j) line → (kept' staged' : Lines) → SameLines kept kept' → Stages staged staged' a j line
      → AreFirst r c (take (n + 1) xs) kept' staged'
  next_first r' e j f line given kept' staged' same stages =
      taken r c xs n (a, i) kept' staged' within at
      (first_more r c (take n xs) kept staged h a i (is_a_slot r c is xs are kept staged n h a i within at) line
      (λ d lt. here d lt ∙ ap Some (given_first r c is xs are kept staged n h a i within at d lt)) kept' staged' same (subst (λ (k : InstanceId). Stages staged staged' a k line) f stages))
    where
      here : StandsFor DAYS (derived (base_of r) (laid_look c kept staged) a i) line
      here =
          subst (λ (k : InstanceId). StandsFor DAYS (derived (base_of r) (laid_look c kept staged) a k) line) f
          (subst (λ (q : Rulebase). StandsFor DAYS (derived (base_of q) (laid_look c kept staged) a j) line) e given)

  pub next_again : is_some (staged a i) ≡ true → AreFirst r c (take (n + 1) xs) kept staged
  next_again some = taken r c xs n (a, i) kept staged within at (first_again r c (take n xs) kept staged h a i some)

pub copied_some : (o : Option (Bor Answer)) (p : Option Answer) → option_copied o ≡ p → is_some o ≡ true → is_some p ≡ true
copied_some None p e h = absurd (cc h)
copied_some (Some l) p e h = sym (ap is_some e)

pub none_staged : (staged : Lines) (ss : List Slot) → AreListed staged ss → ss ≡ [] → NoLines staged
none_staged staged ss listed empty a i = go (staged a i) (listed a i ∙ ap (λ (xs : List Slot). is_listed xs a i) empty)
  where
    go : (o : Option Answer) → is_some o ≡ false → o ≡ None
    go None e = refl
    go (Some l) e = absurd (cc e)
