-- The first day on which a goal is unknown, and the questions of all goals.
use Rattle.std.proofs.Common.{◌≡◌, ◌≢◌, ◌↔◌, ℕ, zero, suc, ◌+◌, ◌<◌, ◌≤◌, Bool, true, false, cond, List, [], ◌∷◌, length, drop, get_or, Option, None, Some, Bor, is_some, refl, sym, ◌∙◌, ap, subst, arith}
use Rattle.std.specs.Prelude.{find, nat_le, ◌&&◌, ◌||◌, ◌==◌, slice_get}
use Rattle.std.specs.FinMap.{get}
use Rattle.std.specs.List.{list_any, AllByRecursion}
use Rattle.std.proofs.lemmas.Bool.{leb-true, leb-false, le-leb, lt-leb, eq-eqb}
use Rattle.opa_io.proofs.Places.{drop_at}
use Rattle.opa_date.specs.declared.TheConstants.{DAYS}
use Rattle.opa_value.specs.declared.value.Value.{Value}
use Rattle.opa_value.specs.declared.value.Value.TheVariants.{Unknown}
use Rattle.opa_value.specs.Truth.{is_unknown}
use Rattle.opa_line.proofs.LastPairs.{IsPlace}
use Rattle.opa_line.specs.Lines.{at, value_from, Follows, IsLine, StandsFor}
use Rattle.opa_model.specs.declared.ids.AttrId.{AttrId}
use Rattle.opa_cells.specs.Instances.{global, is_same}
use Rattle.opa_cells.specs.declared.instance.InstanceId.{InstanceId}
use Rattle.opa_cells.proofs.Orders.{same_itself}
use Rattle.opa_case.specs.Cases.{CaseView, Answer}
use Rattle.opa_case.specs.Shapes.{shape_of}
use Rattle.opa_case.specs.declared.question.Question.{Question}
use Rattle.opa_tree.specs.Rules.{rule_of}
use Rattle.opa_tree.specs.declared.rulebase.Rulebase.{Rulebase}
use Rattle.opa_window.specs.Days.{days}
use Rattle.opa_mean.specs.Given.{base_of, facts_of}
use Rattle.opa_mean.specs.Holding.{has_line}
use Rattle.opa_mean.specs.Needs.{needs_of, if_unknown}
use Rattle.opa_mean.specs.Next.{first_unknown, asked_at, first_or, next, relevant, IsKnown}
use Rattle.opa_mean.specs.Places.{owner_of}
use Rattle.opa_mean.specs.Rulebases.{IsOf, value_at}
use Rattle.opa_mean.proofs.Holdings.{unanswered}
use Rattle.opa_mean.proofs.LawsOver.{finished_holds}
use Rattle.opa_mean.proofs.Unknowns.{unknown_is}
use Rattle.opa_need.specs.Finding.{added}
use Rattle.opa_need.specs.Goals.{IsGlobal, next_change, KnownBelow, IsFirstOpen, IsFirstUnknown, asked_first}
use Rattle.opa_need.specs.Steps.{point_needs, IsKnownOn}
use Rattle.opa_need.proofs.Adding.{from_none}

find_first : (p : ℕ → Bool) (n s d : ℕ) → s ≤ d → d < s + n → p d ≡ true → ((k : ℕ) → k < d → p k ≡ false) → find p (days s n) ≡ Some d
find_first p zero s d low high hit none = absurd (omega (arith, low, high))
find_first p (suc n) s d low high hit none = go (p s) refl (λ more. find_first p n (s + 1) d more (omega (arith, high)) hit none)
  where
    go : (b : Bool) → p s ≡ b → (s + 1 ≤ d → find p (days (s + 1) n) ≡ Some d) → cond b (Some s) (find p (days (s + 1) n)) ≡ Some d
    go true e rest = at_it (nat_le d s) refl
      where
        at_it : (b : Bool) → nat_le d s ≡ b → Some s ≡ Some d
        at_it true f = let below : d ≤ s = leb-true d s f in ap Some (omega (arith, below, low))
        at_it false f = let above : s < d = leb-false d s f in absurd (cc (none s above, e))
    go false e rest = at_it (nat_le d s) refl
      where
        at_it : (b : Bool) → nat_le d s ≡ b → find p (days (s + 1) n) ≡ Some d
        at_it true f = let below : d ≤ s = leb-true d s f in let same : s ≡ d = omega (arith, below, low) in absurd (cc (ap p same, e, hit))
        at_it false f = let above : s < d = leb-false d s f in rest (omega (arith, above))

find_none : (p : ℕ → Bool) (n s : ℕ) → ((k : ℕ) → s ≤ k → k < s + n → p k ≡ false) → find p (days s n) ≡ None
find_none p zero s none = refl
find_none p (suc n) s none = ap (λ b. cond b (Some s) (find p (days (s + 1) n))) (none s (omega arith) (omega arith)) ∙ find_none p n (s + 1) (λ k low high. none k (omega (arith, low)) (omega (arith, high)))

pub known_is : (v : Value) → v ≢ Unknown → is_unknown v ≡ false
known_is v not = go (is_unknown v) refl
  where
    go : (b : Bool) → is_unknown v ≡ b → b ≡ false
    go true e = absurd (not (unknown_is v e))
    go false e = refl

-- by a line that stands for the values
pub first_by_line : (f : ℕ → Value) (l : List (ℕ × Value)) (o : Option ℕ) → StandsFor DAYS f l → IsFirstOpen l o → o ≡ first_unknown DAYS f
unfolding first_unknown
first_by_line f l None stands open_ = sym (find_none (λ d. is_unknown (f d)) DAYS 0 (λ k low high. known_is (f k) (λ e. open_ k (omega (arith, high)) (stands k (omega (arith, high)) ∙ ap Some e))))
first_by_line f l (Some d) stands open_ =
    let same : Some (f d) ≡ Some Unknown = sym (stands d open_.0) ∙ open_.1 in
    let here : f d ≡ Unknown = cc same in
    sym (find_first (λ d. is_unknown (f d)) DAYS 0 d (omega arith) (omega (arith, open_.0)) (ap is_unknown here) (λ k lt. known_is (f k) (λ e. open_.2 k lt (stands k (omega (arith, lt, open_.0)) ∙ ap Some e))))

pub always_first : (f : ℕ → Value) → ((d : ℕ) → f d ≡ Unknown) → Some 0 ≡ first_unknown DAYS f
unfolding first_unknown
always_first f all = sym (find_first (λ d. is_unknown (f d)) DAYS 0 0 (omega arith) (omega arith) (ap is_unknown (all 0)) (λ k lt. absurd (omega (arith, lt))))

-- a line is the same up to its next change
steady : (d k : ℕ) (v : Value) (l : List (ℕ × Value)) → d ≤ k → k < next_change d l → value_from v l k ≡ value_from v l d
steady d k v [] low high = refl
steady d k v (p ∷ l) low high = go (nat_le p.0 d) refl high (steady d k p.1 l low)
  where
    go : (b : Bool) → nat_le p.0 d ≡ b → k < cond b (next_change d l) p.0 → (k < next_change d l → value_from p.1 l k ≡ value_from p.1 l d) → cond (nat_le p.0 k) (value_from p.1 l k) v ≡ cond (nat_le p.0 d) (value_from p.1 l d) v
    go true e high rest =
        let one : p.0 ≤ d = leb-true p.0 d e in
        ap (λ b. cond b (value_from p.1 l k) v) (le-leb p.0 k (omega (arith, one, low))) ∙ rest high ∙ sym (ap (λ b. cond b (value_from p.1 l d) v) e)
    go false e high rest = ap (λ b. cond b (value_from p.1 l k) v) (lt-leb p.0 k high) ∙ sym (ap (λ b. cond b (value_from p.1 l d) v) e)

pub line_steady : (l : List (ℕ × Value)) (d k : ℕ) → IsLine DAYS l → d ≤ k → k < next_change d l → at l k ≡ at l d
line_steady [] d k form low high = absurd form
line_steady (p ∷ l) d k form low high =
    ap Some (steady d k p.1 l low (subst (λ b. k < cond b (next_change d l) p.0) (subst (λ n. nat_le n d ≡ true) (sym form.0) (le-leb 0 d (omega arith))) high))

-- the change behind a day stands behind the pairs that are reached
pub next_at : (l : List (ℕ × Value)) (d n : ℕ) (e : ℕ × Value) → IsPlace d l n → n < length l → next_change d l ≡ (get_or l n e).0
next_at [] d n e place lt = absurd (omega (arith, lt))
next_at (p ∷ l) d zero e place lt = ap (λ b. cond b (next_change d l) p.0) (lt-leb p.0 d (place.1 0 p (omega arith) (omega arith)))
next_at (p ∷ l) d (suc n) e place lt =
    ap (λ b. cond b (next_change d l) p.0) (le-leb p.0 d (place.0 0 p (omega arith))) ∙ next_at l d n e ((λ i x lt. place.0 (suc i) x (omega (arith, lt))), (λ i x more lt. place.1 (suc i) x (omega (arith, more)) (omega (arith, lt)))) (omega (arith, lt))

pub next_past : (l : List (ℕ × Value)) (d n : ℕ) → IsPlace d l n → length l ≤ n → next_change d l ≡ DAYS
next_past [] d n place over = refl
next_past (p ∷ l) d zero place over = absurd (omega (arith, over))
next_past (p ∷ l) d (suc n) place over =
    ap (λ b. cond b (next_change d l) p.0) (le-leb p.0 d (place.0 0 p (omega arith))) ∙ next_past l d n ((λ i x lt. place.0 (suc i) x (omega (arith, lt))), (λ i x more lt. place.1 (suc i) x (omega (arith, more)) (omega (arith, lt)))) (omega (arith, over))

change_follows : (d0 d : ℕ) (v : Value) (l : List (ℕ × Value)) → d < DAYS → Follows DAYS d0 v l → (d < next_change d l) × (next_change d l ≤ DAYS)
change_follows d0 d v [] lt f = (lt, omega arith)
change_follows d0 d v (p ∷ l) lt f = go (nat_le p.0 d) refl (change_follows p.0 d p.1 l lt f.3)
  where
    go : (b : Bool) → nat_le p.0 d ≡ b → (d < next_change d l) × (next_change d l ≤ DAYS) → (d < cond b (next_change d l) p.0) × (cond b (next_change d l) p.0 ≤ DAYS)
    go true e rest = rest
    go false e rest = (leb-false p.0 d e, let lt : p.0 < DAYS = f.1 in omega (arith, lt))

pub change_later : (l : List (ℕ × Value)) (d : ℕ) → IsLine DAYS l → d < DAYS → (d < next_change d l) × (next_change d l ≤ DAYS)
change_later [] d form lt = absurd form
change_later (p ∷ l) d form lt = subst (λ b. (d < cond b (next_change d l) p.0) × (cond b (next_change d l) p.0 ≤ DAYS)) (sym (subst (λ n. nat_le n d ≡ true) (sym form.0) (le-leb 0 d (omega arith)))) (change_follows 0 d p.1 l lt form.1)

-- the days below the next change are known too
pub known_more : (l : List (ℕ × Value)) (d next : ℕ) → IsLine DAYS l → next ≡ next_change d l → at l d ≢ Some Unknown → KnownBelow l d → KnownBelow l next
known_more l d next form e not below k lt = go (nat_le d k) refl
  where
    go : (b : Bool) → nat_le d k ≡ b → at l k ≢ Some Unknown
    go true f q = not (sym (line_steady l d k form (leb-true d k f) (subst (λ n. k < n) e lt)) ∙ q)
    go false f q = below k (leb-false d k f) q

pub known_further : (l : List (ℕ × Value)) (s d next : ℕ) → IsLine DAYS l → next ≡ next_change d l → at l d ≢ Some Unknown → IsKnownOn l s d → IsKnownOn l s next
known_further l s d next form e not before k begun lt = go (nat_le d k) refl
  where
    go : (b : Bool) → nat_le d k ≡ b → at l k ≢ Some Unknown
    go true f q = not (sym (line_steady l d k form (leb-true d k f) (subst (λ n. k < n) e lt)) ∙ q)
    go false f q = before k begun (leb-false d k f) q

pub not_open : (o : Option Value) (v : Value) → o ≡ Some v → is_unknown v ≡ false → o ≢ Some Unknown
not_open o v e f q = let same : v ≡ Unknown = cc (e, q) in absurd (cc (ap is_unknown same, f))

none_behind : (goals : List AttrId) (n : ℕ) → length goals ≤ n → drop n goals ≡ []
none_behind [] zero over = refl
none_behind [] (suc n) over = refl
none_behind (b ∷ goals) zero over = absurd (omega (arith, over))
none_behind (b ∷ goals) (suc n) over = none_behind goals n (omega (arith, over))

some_there : (goals : List AttrId) (n : ℕ) → n < length goals → slice_get goals n ≡ None → ⊥
some_there [] n lt e = omega (arith, lt)
some_there (b ∷ goals) zero lt e = cc e
some_there (b ∷ goals) (suc n) lt e = some_there goals n (omega (arith, lt)) e

module _ (r : Rulebase) (c : CaseView) (is : IsOf r c) where
  -- a goal without a line is unknown on every day
  pub no_line : (a : AttrId) (o : Option (Bor Answer)) → IsGlobal r a → is_some o ≡ has_line r c a global → is_some o ≡ false → (d : ℕ) → value_at r c a global d ≡ Unknown
  no_line a o own e f d = unanswered r c is a global d (sym (ap (λ b. (b && (0 == owner_of (shape_of r.model) a)) && (is_some (rule_of r.rules a) || is_some (get c.answers (a.0, global)))) (ap (λ b. b || list_any (λ p. is_same global p.0) c.live) (same_itself global))
      ∙ ap (λ b. b && (is_some (rule_of r.rules a) || is_some (get c.answers (a.0, global)))) (eq-eqb 0 (owner_of (shape_of r.model) a) (sym own))) ∙ sym e ∙ f)

  needs_are : (a : AttrId) (d : ℕ) → value_at r c a global d ≡ Unknown → needs_of (base_of r) (facts_of c) a global d ≡ point_needs r c a global d
  needs_are a d un = ap (λ v. if_unknown v (point_needs r c a global d)) un

  -- what was found at the first day on which the goal is unknown is what is relevant
  pub relevant_at : (a : AttrId) (d : ℕ) → Some d ≡ first_unknown DAYS (value_at r c a global) → value_at r c a global d ≡ Unknown → added [] (point_needs r c a global d) ≡ relevant (base_of r) (facts_of c) a
  relevant_at a d e un = ap (λ us. added [] us) (sym (needs_are a d un)) ∙ from_none (needs_of (base_of r) (facts_of c) a global d) ∙ ap (asked_at (base_of r) (facts_of c) a) e

  pub relevant_nowhere : (a : AttrId) → None ≡ first_unknown DAYS (value_at r c a global) → [] ≡ relevant (base_of r) (facts_of c) a
  relevant_nowhere a e = ap (asked_at (base_of r) (facts_of c) a) e

  pub no_line_first : (a : AttrId) (i : InstanceId) → i ≡ global → IsGlobal r a → false ≡ has_line r c a i → IsFirstUnknown (value_at r c a global) (Some 0)
  no_line_first a i same own e =
      let all : (d : ℕ) → value_at r c a global d ≡ Unknown = no_line a None own (subst (λ j. false ≡ has_line r c a j) same e) refl in
      (always_first (value_at r c a global) all, omega arith, all 0)

  pub line_first : (a : AttrId) (i : InstanceId) (l : List (ℕ × Value)) (o : Option ℕ) → i ≡ global → StandsFor DAYS (value_at r c a i) l → IsFirstOpen l o → IsFirstUnknown (value_at r c a global) o
  line_first a i l None same stands open_ = first_by_line (value_at r c a global) l None (subst (λ j. StandsFor DAYS (value_at r c a j) l) same stands) open_
  line_first a i l (Some d) same stands open_ =
      let at_global : StandsFor DAYS (value_at r c a global) l = subst (λ j. StandsFor DAYS (value_at r c a j) l) same stands in
      let one : Some (value_at r c a global d) ≡ Some Unknown = sym (at_global d open_.0) ∙ open_.1 in
      (first_by_line (value_at r c a global) l (Some d) at_global open_, open_.0, (let here : value_at r c a global d ≡ Unknown = cc one in here))

  pub all_at : (a : AttrId) (i : InstanceId) (d : ℕ) → i ≡ global → IsFirstUnknown (value_at r c a global) (Some d) → added [] (point_needs r c a i d) ≡ relevant (base_of r) (facts_of c) a
  all_at a i d same first = ap (λ j. added [] (point_needs r c a j d)) same ∙ relevant_at a d first.0 first.2

module _ (r : Rulebase) (c : CaseView) where
  abbrev after : List AttrId → Option Question
  after = next (base_of r) (facts_of c)

  first_through : (qs : List Question) (rest : Option Question) (q : Question) → first_or qs None ≡ Some q → first_or qs rest ≡ Some q
  first_through [] rest q e = absurd (cc e)
  first_through (p ∷ qs) rest q e = e

  first_past : (qs : List Question) (rest : Option Question) → first_or qs None ≡ None → first_or qs rest ≡ rest
  first_past [] rest e = refl
  first_past (p ∷ qs) rest e = absurd (cc e)

  goal_found : (goals : List AttrId) (n : ℕ) (o : Option Question) (q : Question) → o ≡ Some q → o ≡ asked_first r c (slice_get goals n) → next (base_of r) (facts_of c) (drop n goals) ≡ Some q
  goal_found goals n o q e f = go (slice_get goals n) refl (sym f ∙ e)
    where
      go : (a : Option AttrId) → slice_get goals n ≡ a → asked_first r c a ≡ Some q → next (base_of r) (facts_of c) (drop n goals) ≡ Some q
      go None g h = absurd (cc h)
      go (Some a) g h = ap (next (base_of r) (facts_of c)) (drop_at goals n a g) ∙ first_through (relevant (base_of r) (facts_of c) a) (next (base_of r) (facts_of c) (drop (n + 1) goals)) q h

  pub found_at : (goals : List AttrId) (n : ℕ) (o : Option Question) → is_some o ≡ true → o ≡ asked_first r c (slice_get goals n) → next (base_of r) (facts_of c) goals ≡ next (base_of r) (facts_of c) (drop n goals) → o ≡ next (base_of r) (facts_of c) goals
  found_at goals n None e f g = absurd (cc e)
  found_at goals n (Some q) e f g = sym (g ∙ goal_found goals n (Some q) q refl f)

  pub none_at : (goals : List AttrId) (n : ℕ) (o : Option Question) → n < length goals → is_some o ≡ false → o ≡ asked_first r c (slice_get goals n) → next (base_of r) (facts_of c) goals ≡ next (base_of r) (facts_of c) (drop n goals) → next (base_of r) (facts_of c) goals ≡ next (base_of r) (facts_of c) (drop (n + 1) goals)
  none_at goals n (Some q) lt e f g = absurd (cc e)
  none_at goals n None lt e f g = go (slice_get goals n) refl (sym f)
    where
      go : (a : Option AttrId) → slice_get goals n ≡ a → asked_first r c a ≡ None → next (base_of r) (facts_of c) goals ≡ next (base_of r) (facts_of c) (drop (n + 1) goals)
      go None h k = absurd (some_there goals n lt h)
      go (Some a) h k = g ∙ ap (next (base_of r) (facts_of c)) (drop_at goals n a h) ∙ first_past (relevant (base_of r) (facts_of c) a) (next (base_of r) (facts_of c) (drop (n + 1) goals)) k

  pub none_left : (goals : List AttrId) (n : ℕ) → length goals ≤ n → next (base_of r) (facts_of c) goals ≡ next (base_of r) (facts_of c) (drop n goals) → None ≡ next (base_of r) (facts_of c) goals
  none_left goals n over e = sym (e ∙ ap (next (base_of r) (facts_of c)) (none_behind goals n over))

  -- nothing is asked exactly where every goal is known on every day
  pub none_where_known : IsOf r c → (goals : List AttrId) (q : Option Question) → q ≡ next (base_of r) (facts_of c) goals → (q ≡ None) ↔ AllByRecursion (IsKnown (base_of r) (facts_of c)) goals
  none_where_known is goals q e = (λ f. (finished_holds r c is goals).0 (sym e ∙ f), λ k. e ∙ (finished_holds r c is goals).1 k)
