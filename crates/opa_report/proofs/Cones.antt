-- The cone is found slot by slot.
use Rattle.std.proofs.Common.{◌≡◌, ◌⊎◌, inl, inr, ℕ, zero, suc, ◌+◌, ◌<◌, ◌≤◌, Bool, true, List, [], ◌∷◌, ◌++◌, take, length, get_or, Option, None, Some, Contains, refl, sym, ◌∙◌, ap, subst, arith}
use Rattle.std.specs.Prelude.{nat_lt, nat_le, is_some}
use Rattle.std.specs.FinMap.{get, empty, get-empty}
use Rattle.std.proofs.lemmas.Bool.{and_parts, and_from, ltb-true, lt-ltb, leb-true, le-leb}
use Rattle.std.proofs.lemmas.List.Elements.{Contains-append_cases}
use Rattle.opa_date.specs.declared.TheConstants.{DAYS}
use Rattle.opa_line.specs.Lines.{StandsFor}
use Rattle.opa_case.specs.Shapes.{Shape}
use Rattle.opa_cells.specs.Keys.{cell_cmp}
use Rattle.opa_report.specs.declared.day_sets.spans.Span.{Span}
use Rattle.opa_report.specs.DaySets.Sets.{on}
use Rattle.opa_report.specs.DaySets.Spans.{Covers}
use Rattle.opa_report.specs.DaySets.Spans as spans
use Rattle.opa_report.proofs.day_sets.Setting.{on_is}
use Rattle.opa_model.specs.declared.ids.AttrId.{AttrId}
use Rattle.opa_cells.specs.declared.instance.InstanceId.{InstanceId}
use Rattle.opa_tree.specs.declared.rules.Rule.{Rule}
use Rattle.opa_tree.specs.Rules.{rule_of}
use Rattle.opa_tree.proofs.Members.{none_in, contains_head, contains_cases}
use Rattle.opa_mean.specs.Completion.{AreFacts}
use Rattle.opa_mean.specs.Bases.{RanksFall}
use Rattle.opa_mean.specs.Looks.{Look}
use Rattle.opa_mean.specs.Mean.{Base, Facts, IsLive, look_of, mean}
use Rattle.opa_mean.specs.Places.{owner_of}
use Rattle.opa_mean.specs.Reports.{rule_uses, uses_of, InCone, itself, used_by}
use Rattle.opa_mean.specs.Uses.{Use, Point, Listed, uses}
use Rattle.opa_mean.proofs.Chains.{place_live}
use Rattle.opa_mean.proofs.Completing.{above_live}
use Rattle.opa_mean.proofs.Determining.{mentioned_in}
use Rattle.opa_report.specs.declared.found.Found.{Found}
use Rattle.opa_report.specs.Adding.{IsUsed, Adds}
use Rattle.opa_report.specs.Finding.{on_some, Has, HasOnly, AreDaysOf}
use Rattle.opa_report.specs.Walking.{Sees, Expands, Walks, Falls, AreSlots, IsCone}
use Rattle.opa_report.proofs.Firsts.{next_item}
use Rattle.opa_mean.proofs.Lying.{uses_lie}

module _ (b : Base) (c : Facts) (falls : RanksFall b) (are : AreFacts b.shape c) where
  -- a point that is used has a lower rank, and lies at a live instance of its entity
  abbrev Lower : AttrId → Use → Type 0
  Lower a (Point m j e) = (b.rank m < b.rank a) × (IsLive c j × (j.entity.0 ≡ owner_of b.shape m))
  Lower a (Listed r j) = Unit {0}

  used_lower : (a : AttrId) (i : InstanceId) (d : ℕ) (u : Use) → IsLive c i → Contains (uses_of b c (Point a i d)) u → Lower a u
  used_lower a i d u live h = go (rule_of b.rules a) refl u h
    where
      go : (o : Option Rule) → rule_of b.rules a ≡ o → (u : Use) → Contains (rule_uses o (λ e. uses b.shape (look_of c (mean b c)) e (i ∷ []) d)) u → Lower a u
      go None q u k = absurd (none_in u k)
      go (Some rule) q (Point m j e) k =
          let lies = uses_lie b.shape (look_of c (mean b c)) (IsLive c) (place_live c.container (IsLive c) (above_live b.shape c are)) are.listed rule.expr (i ∷ []) (live, tt) d (Point m j e) k in
          (falls a m (mentioned_in b.rules a rule q m lies.0), lies.1)
      go (Some rule) q (Listed r j) k = tt

  -- each point of the cone lies at a live instance of its entity
  abbrev LiesWell : Use → Type 0
  LiesWell (Point a i d) = IsLive c i × (i.entity.0 ≡ owner_of b.shape a)
  LiesWell (Listed r i) = Unit {0}

  cone_lies : (p : Use) {u : Use} → LiesWell p → InCone b c p u → LiesWell u
  cone_lies p h itself = h
  cone_lies p h (used_by u v cone there) = next u v (cone_lies p h cone) there
    where
      next : (u v : Use) → LiesWell u → Contains (uses_of b c u) v → LiesWell v
      next (Point a i d) (Point m j e) h k = (used_lower a i d (Point m j e) h.0 k).1
      next (Point a i d) (Listed r j) h k = tt
      next (Listed r i) v h k = absurd (none_in v k)

  walk_step : (p : Use) (done : List (AttrId × InstanceId)) (a : AttrId) (i : InstanceId) (old new : Found) → IsLive c i → ((y : AttrId × InstanceId) → Contains done y → b.rank a ≤ b.rank y.0) → Expands b c a i old new → Walks b c p done old → Walks b c p (done ++ (a, i) ∷ []) new
  walk_step p done a i old new live above x w = record {
    start = x.kept p w.start;
    sound = λ u h. sound u (x.only u h);
    closed = λ m j d u there h k. closed m j d u (Contains-append_cases done ((a, i) ∷ []) (m, j) there) (x.only (Point m j d) h) k;
  }
    where
      sound : (u : Use) → (Has old u) ⊎ ((d : ℕ) × (Has old (Point a i d) × Contains (uses_of b c (Point a i d)) u)) → InCone b c p u
      sound u (inl h) = w.sound u h
      sound u (inr y) = used_by (Point a i y.0) u (w.sound (Point a i y.0) y.1.0) y.1.1

      -- a slot of no lower rank got no more days
      still : (m : AttrId) (j : InstanceId) (d : ℕ) → b.rank a ≤ b.rank m → (Has old (Point m j d)) ⊎ ((e : ℕ) × (Has old (Point a i e) × Contains (uses_of b c (Point a i e)) (Point m j d))) → Has old (Point m j d)
      still m j d le (inl h) = h
      still m j d le (inr y) = let lower = used_lower a i y.0 (Point m j d) live y.1.1 in absurd (omega (arith, lower.0, le))

      same : (m : AttrId) (j : InstanceId) → Contains {X = AttrId × InstanceId} ((a, i) ∷ []) (m, j) → ◌≡◌ {A = AttrId × InstanceId} (a, i) (m, j)
      same m j h = go (contains_cases (a, i) (m, j) [] h)
        where
          go : (◌≡◌ {A = AttrId × InstanceId} (a, i) (m, j)) ⊎ Contains {X = AttrId × InstanceId} [] (m, j) → ◌≡◌ {A = AttrId × InstanceId} (a, i) (m, j)
          go (inl e) = e
          go (inr k) = absurd (none_in (m, j) k)

      own : (d : ℕ) (u : Use) → (Has old (Point a i d)) ⊎ ((e : ℕ) × (Has old (Point a i e) × Contains (uses_of b c (Point a i e)) (Point a i d))) → Contains (uses_of b c (Point a i d)) u → Has new u
      own d u h k = x.added d u (still a i d (omega arith) h) k

      closed : (m : AttrId) (j : InstanceId) (d : ℕ) (u : Use) → Contains {X = AttrId × InstanceId} done (m, j) ⊎ Contains {X = AttrId × InstanceId} ((a, i) ∷ []) (m, j) → (Has old (Point m j d)) ⊎ ((e : ℕ) × (Has old (Point a i e) × Contains (uses_of b c (Point a i e)) (Point m j d))) → Contains (uses_of b c (Point m j d)) u → Has new u
      closed m j d u (inl there) h k = x.kept u (w.closed m j d u there (still m j d (above (m, j) there) h) k)
      closed m j d u (inr there) h k =
          subst (λ (y : AttrId × InstanceId). (Has old (Point y.0 y.1 d)) ⊎ ((e : ℕ) × (Has old (Point a i e) × Contains (uses_of b c (Point a i e)) (Point y.0 y.1 d))) → Contains (uses_of b c (Point y.0 y.1 d)) u → Has new u) (same m j there) (own d u) h k

  pub walk_end : (a : AttrId) (i : InstanceId) (d : ℕ) (slots : List (AttrId × InstanceId)) (found : Found) → IsLive c i → i.entity.0 ≡ owner_of b.shape a → AreSlots b c slots → Walks b c (Point a i d) slots found → IsCone b c (Point a i d) found
  walk_end a i d slots found live own are_slots w = λ u. (w.sound u, complete)
    where
      closed : (u v : Use) → LiesWell u → Has found u → Contains (uses_of b c u) v → Has found v
      closed (Point m j e) v well h k = go (rule_of b.rules m) refl k
        where
          go : (o : Option Rule) → rule_of b.rules m ≡ o → Contains (rule_uses o (λ x. uses b.shape (look_of c (mean b c)) x (j ∷ []) e)) v → Has found v
          go None q k' = absurd (none_in v k')
          go (Some rule) q k' = w.closed m j e v (are_slots.all m j (ap is_some q) well.0 well.1) h k
      closed (Listed r j) v well h k = absurd (none_in v k)

      complete : {u : Use} → InCone b c (Point a i d) u → Has found u
      complete itself = w.start
      complete (used_by u v cone there) = closed u v (cone_lies (Point a i d) (live, own) cone) (complete cone) there

  -- the slots before one are of no lower rank
  falls_before : (slots : List (AttrId × InstanceId)) → Falls b slots → (k : ℕ) (x : AttrId × InstanceId) → k < length slots → x ≡ get_or slots k x → (y : AttrId × InstanceId) → Contains (take k slots) y → b.rank x.0 ≤ b.rank y.0
  falls_before [] f k x lt is y h = absurd (omega (arith, lt))
  falls_before (z ∷ slots) f zero x lt is y h = absurd (none_in y h)
  falls_before (z ∷ slots) f (suc k) x lt is y h = go (contains_cases z y (take k slots) h) (falls_before slots f.1 k x (omega (arith, lt)) is y)
    where
      go : (z ≡ y) ⊎ Contains (take k slots) y → (Contains (take k slots) y → b.rank x.0 ≤ b.rank y.0) → b.rank x.0 ≤ b.rank y.0
      go (inl e) rest = subst (λ (w : AttrId × InstanceId). b.rank x.0 ≤ b.rank w.0) e (f.0 x (k, omega (arith, lt), sym is))
      go (inr h) rest = rest h

  pub walk_next : (p : Use) (slots : List (AttrId × InstanceId)) (k : ℕ) (x : AttrId × InstanceId) (old new : Found) → AreSlots b c slots → k < length slots → x ≡ get_or slots k x → Expands b c x.0 x.1 old new → IsLive c x.1 → Walks b c p (take k slots) old → Walks b c p (take (k + 1) slots) new
  walk_next p slots k x old new are_slots lt is expands live w =
      subst (λ done. Walks b c p done new) (sym (next_item slots k x lt is)) (walk_step p (take k slots) x.0 x.1 old new live (falls_before slots are_slots.falls k x lt is) expands w)

  pub walk_start : (p : Use) (found : Found) → Has found p → ((u : Use) → Has found u → p ≡ u) → Walks b c p [] found
  walk_start p found start only = record {
    start = start;
    sound = λ u h. subst (InCone b c p) (only u h) itself;
    closed = λ a i d u there _ _. absurd (none_in (a, i) there);
  }

-- a slot without a rule, or without days
pub expands_nothing : (b : Base) (c : Facts) (a : AttrId) (i : InstanceId) (f : Found) → ((d : ℕ) (u : Use) → Has f (Point a i d) → Contains (uses_of b c (Point a i d)) u → ⊥) → Expands b c a i f f
expands_nothing b c a i f none = record { kept = λ u h. h; added = λ d u h k. absurd (none d u h k); only = λ u h. inl h }

pub no_rule : (b : Base) (c : Facts) (a : AttrId) (i : InstanceId) (f : Found) → rule_of b.rules a ≡ None → Expands b c a i f f
no_rule b c a i f e = expands_nothing b c a i f (λ d u _ k. none_in u (subst (λ o. Contains (rule_uses o (λ e. uses b.shape (look_of c (mean b c)) e (i ∷ []) d)) u) e k))

pub no_days : (b : Base) (c : Facts) (a : AttrId) (i : InstanceId) (f : Found) → get f.points (a.0, i) ≡ None → Expands b c a i f f
no_days b c a i f e = expands_nothing b c a i f (λ d u h _. let both = and_parts (nat_lt d DAYS) (on_some (get f.points (a.0, i)) d) h in cc (both.1, ap (λ o. on_some o d) e))

-- the rule's uses on the days that were found
pub rule_spread : (s : Shape) (l : Look) (Live : InstanceId → Type 0) (b : Base) (c : Facts) (a : AttrId) (i : InstanceId) (rule : Rule) (days days' : List (ℕ × Bool)) (f g : Found) → Sees s l Live b c → rule_of b.rules a ≡ Some rule → get f.points (a.0, i) ≡ Some days
    → StandsFor DAYS (on days) days' → Adds (on days') (uses s l rule.expr (i ∷ [])) f g → Expands b c a i f g
rule_spread s l Live b c a i rule days days' f g sees ruled got copied adds = record {
  kept = adds.kept;
  added = λ d u h k.
      let both = and_parts (nat_lt d DAYS) (on_some (get f.points (a.0, i)) d) h in
      let lt = ltb-true d DAYS both.0 in
      adds.added u (record { day = d; within = lt; is_on = on_is _ days' d copied lt ∙ sym (ap (λ o. on_some o d) got) ∙ both.1; there = subst (λ us. Contains us u) (uses_are d) k });
  only = λ u h. go u (adds.only u h);
}
  where
    uses_are : (d : ℕ) → uses_of b c (Point a i d) ≡ uses s l rule.expr (i ∷ []) d
    uses_are d =
        ap (λ o. rule_uses o (λ e. uses b.shape (look_of c (mean b c)) e (i ∷ []) d)) ruled
        ∙ ap (λ (t : Shape). uses t (look_of c (mean b c)) rule.expr (i ∷ []) d) (sym sees.shape) ∙ ap (λ (m : Look). uses s m rule.expr (i ∷ []) d) (sym sees.look)

    go : (u : Use) → (Has f u) ⊎ IsUsed (on days') (uses s l rule.expr (i ∷ [])) u → (Has f u) ⊎ ((d : ℕ) × (Has f (Point a i d) × Contains (uses_of b c (Point a i d)) u))
    go u (inl h) = inl h
    go u (inr x) = inr (x.day, (and_from (nat_lt x.day DAYS) (on_some (get f.points (a.0, i)) x.day) (lt-ltb x.day DAYS x.within) (ap (λ o. on_some o x.day) got ∙ sym (on_is _ days' x.day copied x.within) ∙ x.is_on), subst (λ us. Contains us u) (sym (uses_are x.day)) x.there))

-- days and their copy
pub days_are : (o o' : Option (List (ℕ × Bool))) → AreDaysOf o o' → (days : List (ℕ × Bool)) → o' ≡ Some days → (l : List (ℕ × Bool)) × ((o ≡ Some l) × StandsFor DAYS (on l) days)
days_are None None h days e = absurd (cc e)
days_are None (Some x) h days e = absurd h
days_are (Some l) None h days e = absurd h
days_are (Some l) (Some x) h days e = (l, (refl, subst (StandsFor DAYS (on l)) (same e) h))
  where
    same : {x y : List (ℕ × Bool)} → Some x ≡ Some y → x ≡ y
    same e = cc e

-- one day of one point
module _ (a : AttrId) (i : InstanceId) (day : ℕ) (span : Span) (l : List (ℕ × Span)) (days : List (ℕ × Bool)) (old new : Found) (lt : day < DAYS) (first : span.first ≡ day) (end : span.end ≡ day + 1) (same_span : StandsFor DAYS (λ _. span) l) (covers : Covers l days)
    (no_points : old.points ≡ empty) (no_lists : old.lists ≡ empty) (adds : Adds (on days) (λ d. Point a i d ∷ []) old new) where
  nothing_found : (u : Use) → Has old u → ⊥
  nothing_found (Point m j d) h =
      let key : ℕ × InstanceId = (m.0, j) in
      let both = and_parts (nat_lt d DAYS) (on_some (get old.points (m.0, j)) d) h in
      cc (both.1, ap (λ o. on_some o d) (ap (λ t. get t key) no_points ∙ get-empty cell_cmp key))
  nothing_found (Listed r j) h = let key : ℕ × InstanceId = (r.0, j) in cc (h, ap is_some (ap (λ t. get t key) no_lists ∙ get-empty cell_cmp key))

  that_day : (d : ℕ) → d < DAYS → on days d ≡ true → d ≡ day
  that_day d low h =
      let x = (covers d low).0 h in
      let s : x.span ≡ span = some_same (sym x.is ∙ same_span x.day x.within) in
      let both = and_parts (nat_le span.first d) (nat_lt d span.end) (ap (λ (t : Span). spans.has t d) (sym s) ∙ x.has_it) in
      omega (arith, leb-true span.first d both.0, ltb-true d span.end both.1, first, end)
    where
      some_same : {x y : Span} → Some x ≡ Some y → x ≡ y
      some_same e = cc e

  pub point_alone : HasOnly (Point a i day) new
  point_alone = record {
    start = adds.added (Point a i day) (record {
      day = day;
      within = lt;
      is_on = (covers day lt).1 (record { day = day; within = lt; span = span; is = same_span day lt; has_it = and_from (nat_le span.first day) (nat_lt day span.end) (le-leb span.first day (omega (arith, first))) (lt-ltb day span.end (omega (arith, end))) });
      there = contains_head (Point a i day) [];
    });
    only = λ u h. only u (adds.only u h);
  }
    where
      at : (u : Use) (x : IsUsed (on days) (λ d. Point a i d ∷ []) u) → (Point a i x.day ≡ u) ⊎ Contains [] u → Point a i day ≡ u
      at u x (inl e) = ap (Point a i) (sym (that_day x.day x.within x.is_on)) ∙ e
      at u x (inr k) = absurd (none_in u k)

      only : (u : Use) → (Has old u) ⊎ IsUsed (on days) (λ d. Point a i d ∷ []) u → Point a i day ≡ u
      only u (inl h) = absurd (nothing_found u h)
      only u (inr x) = at u x (contains_cases (Point a i x.day) u [] x.there)

pub none_are : (o o' : Option (List (ℕ × Bool))) → AreDaysOf o o' → o' ≡ None → o ≡ None
none_are None o' h e = refl
none_are (Some l) None h e = absurd h
none_are (Some l) (Some x) h e = absurd (cc e)
