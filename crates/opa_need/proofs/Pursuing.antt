-- What is found, and what is left to be looked at, step by step.
use Rattle.std.proofs.Common.{◌≡◌, ℕ, zero, suc, ◌+◌, ◌-◌, ◌<◌, ◌≤◌, max, Bool, true, false, cond, List, [], ◌∷◌, ◌++◌, ◌⊎◌, inl, inr, Option, None, Some, Bor, refl, sym, ◌∙◌, ap, subst, arith, reverse}
use Rattle.std.specs.Prelude.{flat_map, nat_lt, nat_le, find, ◌&&◌, length, unwrap_or}
use Rattle.std.proofs.lemmas.Bool.{ltb-true, ltb-false, leb-true, and_parts}
use Rattle.std.specs.List.{AllByRecursion}
use Rattle.std.specs.FinMap.{FinMap, get, insert, empty, get-insert, get-empty}
use Rattle.std.specs.Ordering.{eq_by_cmp}
use Rattle.std.proofs.lemmas.List.{append_assoc, append-nil}
use Rattle.std.proofs.lemmas.Map.Views.{tells_apart}
use Rattle.std.proofs.lemmas.Grind.{flat_map-append}
use Rattle.opa_io.proofs.Lists.{each_weaker, reverse_push}
use Rattle.opa_date.specs.declared.TheConstants.{DAYS}
use Rattle.opa_model.specs.declared.ids.AttrId.{AttrId}
use Rattle.opa_model.specs.declared.ids.RelId.{RelId}
use Rattle.opa_cells.specs.Keys.{cell_cmp}
use Rattle.opa_cells.specs.declared.instance.InstanceId.{InstanceId}
use Rattle.opa_cells.proofs.Orders.{cell_exact, cell_total}
use Rattle.opa_case.specs.Cases.{CaseView, IsLive}
use Rattle.opa_case.specs.declared.question.Question.{Question}
use Rattle.opa_case.specs.declared.question.Question.TheVariants as question
use Rattle.opa_tree.specs.FirstOnes.{with_new}
use Rattle.opa_tree.specs.Rules.{rule_of}
use Rattle.opa_tree.specs.declared.expr.Expr.{Expr}
use Rattle.opa_tree.specs.declared.rulebase.Rulebase.{Rulebase}
use Rattle.opa_tree.specs.declared.rules.Rule.{Rule}
use Rattle.opa_window.specs.Days.{days}
use Rattle.opa_mean.specs.Given.{base_of, facts_of}
use Rattle.opa_mean.specs.Needs.{needs_or}
use Rattle.opa_mean.specs.Next.{question_of, first_or}
use Rattle.opa_mean.specs.Rulebases.{IsOf}
use Rattle.opa_mean.specs.Sameness.{same_question}
use Rattle.opa_mean.specs.Uses.{Use, Point, Listed}
use Rattle.opa_mean.proofs.Everywhere.{all_append}
use Rattle.opa_mean.proofs.LawsOver.{base}
use Rattle.opa_need.specs.Finding.{AreFound, added}
use Rattle.opa_need.specs.Steps.{IsKnownUntil, part_value, tree_needs, part_needs, point_needs, days_needs, step_needs, claim, AreSound, IsReady, StandFor, IsRun, AreRuns, IsOnTheWay, IsSettled, Settles, IsRunOf, LeadsOn, PutsOn}
use Rattle.opa_need.specs.declared.runs.Run.{Run}
use Rattle.opa_need.specs.declared.steps.Step.{Step}
use Rattle.opa_need.specs.declared.steps.Step.TheVariants as step
use Rattle.opa_need.proofs.Adding.{added-append, all_stay, all_there, nothing_new, first_stays}
use Rattle.opa_need.proofs.GoalLaws.{known_is}
use Rattle.opa_mean.proofs.ByRule.{by_its_rule}

-- one thing is moved from the end of one list to the end of another
pub moved : {X : Type 0} (from from' to to' : List X) (x : X) → from ≡ from' ++ x ∷ [] → to' ≡ to ++ x ∷ [] → from' ++ reverse to' ≡ from ++ reverse to
moved from from' to to' x e f =
    ap (λ xs. from' ++ reverse xs) f ∙ ap (λ xs. from' ++ xs) (reverse_push to x) ∙ sym (append_assoc from' (x ∷ []) (reverse to)) ∙ ap (λ xs. xs ++ reverse to) (sym e)

-- days on which nothing new is needed are passed over
pub passed : (f : ℕ → List Use) (found : List Question) (n s end : ℕ) → ((k : ℕ) → s ≤ k → k < s + n → AreFound found (f k)) → added found (flat_map f (days s (end - s))) ≡ added found (flat_map f (days (s + n) (end - (s + n))))
passed f found zero s end h = ap (λ t. added found (flat_map f (days t (end - t)))) (omega arith)
passed f found (suc n) s end h = go (end - s) refl (passed f found n (s + 1) end (λ k low high. h k (omega (arith, low)) (omega (arith, high))))
  where
    go : (m : ℕ) → end - s ≡ m → added found (flat_map f (days (s + 1) (end - (s + 1)))) ≡ added found (flat_map f (days ((s + 1) + n) (end - ((s + 1) + n))))
        → added found (flat_map f (days s (end - s))) ≡ added found (flat_map f (days (s + suc n) (end - (s + suc n))))
    go zero e rest = ap (λ m. added found (flat_map f (days s m))) e ∙ sym (ap (λ m. added found (flat_map f (days (s + suc n) m))) (let none : end - (s + suc n) ≡ 0 = omega (arith, e) in none))
    go (suc m) e rest =
        ap (λ m. added found (flat_map f (days s m))) e ∙ added-append found (f s) (flat_map f (days (s + 1) m))
        ∙ ap (λ qs. added qs (flat_map f (days (s + 1) m))) (nothing_new found (f s) (h s (omega arith) (omega arith)))
        ∙ ap (λ m. added found (flat_map f (days (s + 1) m))) (let less : m ≡ end - (s + 1) = omega (arith, e) in less) ∙ rest
        ∙ ap (λ t. added found (flat_map f (days t (end - t)))) (let same : (s + 1) + n ≡ s + suc n = omega arith in same)

-- what a search finds passes, and is as all are
pub find_is : {X : Type 0} (p : X → Bool) (P : X → Type 0) (xs : List X) (x : X) → find p xs ≡ Some x → AllByRecursion P xs → (p x ≡ true) × P x
find_is p P [] x e h = absurd (cc e)
find_is p P (y ∷ xs) x e h = go (p y) refl e (λ q. find_is p P xs x q h.1)
  where
    go : (b : Bool) → p y ≡ b → cond b (Some y) (find p xs) ≡ Some x → (find p xs ≡ Some x → (p x ≡ true) × P x) → (p x ≡ true) × P x
    go true f e rest = let same : y ≡ x = cc e in (sym (ap p same) ∙ f, subst P same h.0)
    go false f e rest = rest e

module _ (r : Rulebase) (c : CaseView) where
  abbrev On : List Question → List Question → FinMap cell_cmp (List Run) → List Step → Type 0
  On = IsOnTheWay r c

  sound_onto : (found : List Question) (new rest : List Step) → AllByRecursion (λ s. claim r c s ≡ []) new → AreSound r c (added found (flat_map (step_needs r c) new)) rest → AreSound r c found (new ++ rest)
  sound_onto found [] rest p h = h
  sound_onto found (s ∷ new) rest p h =
      (subst (AreFound found) (sym p.0) tt, sound_onto (added found (step_needs r c s)) new rest p.1 (subst (λ f. AreSound r c f rest) (added-append found (step_needs r c s) (flat_map (step_needs r c) new)) h))

  -- a step gives way to those that stand for its needs
  pub replaced : (total found : List Question) (runs : FinMap cell_cmp (List Run)) (s : Step) (new rest : List Step) → StandFor r c (step_needs r c s) new → IsOnTheWay r c total found runs (s ∷ rest) → IsOnTheWay r c total found runs (new ++ rest)
  replaced total found runs s new rest stand h = record {
    whole = ap (added found) (flat_map-append (step_needs r c) new rest ∙ ap (λ us. us ++ flat_map (step_needs r c) rest) stand.asking) ∙ h.whole;
    sound = sound_onto found new rest stand.plain (subst (λ us. AreSound r c (added found us) rest) (sym stand.asking) h.sound.1);
    ready = all_append (IsReady r c) new rest stand.ready h.ready.1;
    found_on = h.found_on;
  }

  pub put_on : (total found : List Question) (runs : FinMap cell_cmp (List Run)) (s : Step) (new old steps : List Step) → reverse steps ≡ new ++ reverse old → StandFor r c (step_needs r c s) new → IsOnTheWay r c total found runs (s ∷ reverse old) → IsOnTheWay r c total found runs (reverse steps)
  put_on total found runs s new old steps e stand h = subst (IsOnTheWay r c total found runs) (sym e) (replaced total found runs s new (reverse old) stand h)

  -- a step whose questions are found is done
  pub dropped : (total found : List Question) (runs : FinMap cell_cmp (List Run)) (s : Step) (rest : List Step) → AreFound found (step_needs r c s) → IsOnTheWay r c total found runs (s ∷ rest) → IsOnTheWay r c total found runs rest
  dropped total found runs s rest there h =
      let same : added found (step_needs r c s) ≡ found = nothing_new found (step_needs r c s) there in record {
        whole = ap (λ qs. added qs (flat_map (step_needs r c) rest)) (sym same) ∙ sym (added-append found (step_needs r c s) (flat_map (step_needs r c) rest)) ∙ h.whole;
        sound = subst (λ qs. AreSound r c qs rest) same h.sound.1;
        ready = h.ready.1;
        found_on = h.found_on;
      }

  runs_stay : (found : List Question) (us : List Use) (runs : FinMap cell_cmp (List Run)) → AreRuns r c found runs → AreRuns r c (added found us) runs
  runs_stay found us runs h a i own at = each_weaker (IsRun r c found a i) (IsRun r c (added found us) a i) (λ run is k low high. all_stay found us (point_needs r c a i k) (is k low high)) own (h a i own at)

  -- a single question is added
  pub one_asked : (total found found' : List Question) (runs : FinMap cell_cmp (List Run)) (s : Step) (u : Use) (rest : List Step) → step_needs r c s ≡ u ∷ [] → found' ≡ with_new same_question found (question_of u) → IsOnTheWay r c total found runs (s ∷ rest) → IsOnTheWay r c total found' runs rest
  one_asked total found found' runs s u rest is e h =
      let same : added found (step_needs r c s) ≡ found' = ap (added found) is ∙ sym e in record {
        whole = ap (λ qs. added qs (flat_map (step_needs r c) rest)) (sym same) ∙ sym (added-append found (step_needs r c s) (flat_map (step_needs r c) rest)) ∙ h.whole;
        sound = subst (λ qs. AreSound r c qs rest) same h.sound.1;
        ready = h.ready.1;
        found_on = subst (λ qs. AreRuns r c qs runs) same (runs_stay found (step_needs r c s) runs h.found_on);
      }

  pub first_day : (total found : List Question) (runs : FinMap cell_cmp (List Run)) (e : Bor Expr) (es es' es'' : List InstanceId) (first end : ℕ) (rest : List Step) → first < end → es' ≡ es → es'' ≡ es
      → IsOnTheWay r c total found runs (step.Days e es first end ∷ rest) → IsOnTheWay r c total found runs (step.Part e es' first ∷ step.AfterDay e es'' first end ∷ rest)
  first_day total found runs e es es' es'' first end rest lt same same' h =
      subst (λ ks. IsOnTheWay r c total found runs (step.Part e ks first ∷ step.AfterDay e es'' first end ∷ rest)) (sym same)
      (subst (λ ks. IsOnTheWay r c total found runs (step.Part e es first ∷ step.AfterDay e ks first end ∷ rest)) (sym same') begun)
    where
      more : (m : ℕ) → end - first ≡ m → flat_map (part_needs r c e.now es) (days first m) ≡ part_needs r c e.now es first ++ days_needs r c e.now es (first + 1) end
      more zero e = absurd (omega (arith, e, lt))
      more (suc m) q = ap (λ n. part_needs r c e.now es first ++ flat_map (part_needs r c e.now es) (days (first + 1) n)) (let less : m ≡ end - (first + 1) = omega (arith, q) in less)

      split : days_needs r c e.now es first end ≡ part_needs r c e.now es first ++ days_needs r c e.now es (first + 1) end
      split = more (end - first) refl

      begun : IsOnTheWay r c total found runs (step.Part e es first ∷ step.AfterDay e es first end ∷ rest)
      begun = record {
        whole = ap (added found) (sym (append_assoc (part_needs r c e.now es first) (days_needs r c e.now es (first + 1) end) (flat_map (step_needs r c) rest)) ∙ ap (λ us. us ++ flat_map (step_needs r c) rest) (sym split)) ∙ h.whole;
        sound = (tt, (all_there found (part_needs r c e.now es first), subst (λ qs. AreSound r c qs rest) (ap (added found) split ∙ added-append found (part_needs r c e.now es first) (days_needs r c e.now es (first + 1) end)) h.sound.1));
        ready = ((h.ready.0.0, omega (arith, lt, h.ready.0.1)), ((h.ready.0.0, (let b : first < DAYS = omega (arith, lt, h.ready.0.1) in b), h.ready.0.1), h.ready.1));
        found_on = h.found_on;
      }

  pub next_day : (total found : List Question) (runs : FinMap cell_cmp (List Run)) (e : Bor Expr) (es es' : List InstanceId) (d end until from : ℕ) (rest : List Step) → es' ≡ es → from ≡ max (d + 1) until → IsSettled (part_needs r c e.now es) found d until
      → IsOnTheWay r c total found runs (step.AfterDay e es d end ∷ rest) → IsOnTheWay r c total found runs (step.Days e es' from end ∷ rest)
  next_day total found runs e es es' d end until from rest same at settled h =
      subst (λ ks. IsOnTheWay r c total found runs (step.Days e ks from end ∷ rest)) (sym same) (subst (λ t. IsOnTheWay r c total found runs (step.Days e es t end ∷ rest)) (sym at) (record {
        whole = added-append found (days_needs r c e.now es (max (d + 1) until) end) (flat_map (step_needs r c) rest) ∙ ap (λ qs. added qs (flat_map (step_needs r c) rest)) (sym skips) ∙ sym (added-append found (days_needs r c e.now es (d + 1) end) (flat_map (step_needs r c) rest)) ∙ h.whole;
        sound = (tt, subst (λ qs. AreSound r c qs rest) skips h.sound.1);
        ready = ((h.ready.0.0, h.ready.0.2), h.ready.1);
        found_on = h.found_on;
      }))
    where
      skips : added found (days_needs r c e.now es (d + 1) end) ≡ added found (days_needs r c e.now es (max (d + 1) until) end)
      skips = passed (part_needs r c e.now es) found (until - (d + 1)) (d + 1) end (λ k low high. settled k (omega (arith, low)) (omega (arith, low, high)))
          ∙ ap (λ t. added found (flat_map (part_needs r c e.now es) (days t (end - t)))) (let there : (d + 1) + (until - (d + 1)) ≡ max (d + 1) until = omega arith in there)

  -- a point gives way to its rule's tree, behind which it is noted that its questions are found
  pub entered : IsOf r c → (total found : List Question) (runs : FinMap cell_cmp (List Run)) (a : AttrId) (i i' : InstanceId) (d : ℕ) (rule : Rule) (e : Bor Expr) (es : List InstanceId) (rest : List Step) → Some rule ≡ rule_of r.rules a → e.now ≡ rule.expr → es ≡ i ∷ [] → i' ≡ i
      → IsOnTheWay r c total found runs (step.Point a i d ∷ rest) → IsOnTheWay r c total found runs (step.Tree e es d ∷ step.AfterPoint a i' d ∷ rest)
  entered is total found runs a i i' d rule e es rest ruled at alone same h =
      subst (λ j. IsOnTheWay r c total found runs (step.Tree e es d ∷ step.AfterPoint a j d ∷ rest)) (sym same)
      (subst (λ ks. IsOnTheWay r c total found runs (step.Tree e ks d ∷ step.AfterPoint a i d ∷ rest)) (sym alone) (record {
        whole = ap (λ us. added found (us ++ flat_map (step_needs r c) rest)) (sym needs) ∙ h.whole;
        sound = (tt, (subst (λ us. AreFound (added found us) (point_needs r c a i d)) needs (all_there found (point_needs r c a i d)), subst (λ us. AreSound r c (added found us) rest) needs h.sound.1));
        ready = (((h.ready.0.0, tt), h.ready.0.1), (h.ready.0, h.ready.1));
        found_on = h.found_on;
      }))
    where
      needs : point_needs r c a i d ≡ tree_needs r c e.now (i ∷ []) d
      needs = by_its_rule (base_of r) (facts_of c) (base r c is).falls a i d ∙ ap (λ o. needs_or o (Point a i d ∷ []) (λ x. tree_needs r c x (i ∷ []) d)) (sym ruled) ∙ ap (λ x. tree_needs r c x (i ∷ []) d) (sym at)

  pub unruled : IsOf r c → (a : AttrId) (i : InstanceId) (d : ℕ) → None ≡ rule_of r.rules a → point_needs r c a i d ≡ Point a i d ∷ []
  unruled is a i d none = by_its_rule (base_of r) (facts_of c) (base r c is).falls a i d ∙ ap (λ o. needs_or o (Point a i d ∷ []) (λ x. tree_needs r c x (i ∷ []) d)) (sym none)

  pub point_asked : IsOf r c → (found found' : List Question) (runs : FinMap cell_cmp (List Run)) (a : AttrId) (i : InstanceId) (d : ℕ) (steps : List Step) → None ≡ rule_of r.rules a → found' ≡ with_new same_question found (question.Attr a i)
      → LeadsOn r c (step.Point a i d) found runs steps found' runs steps
  point_asked is found found' runs a i d steps none e total h = one_asked total found found' runs (step.Point a i d) (Point a i d) (reverse steps) (unruled is a i d none) e h

  -- a point with a run that has the day is done
  pub covered : (found : List Question) (runs : FinMap cell_cmp (List Run)) (a : AttrId) (i : InstanceId) (d : ℕ) (run : Run) → AreRuns r c found runs → IsRunOf (get runs (a.0, i)) d run → (k : ℕ) → d ≤ k → k < run.end → AreFound found (point_needs r c a i k)
  covered found runs a i d run h f = go (get runs (a.0, i)) refl f
    where
      go : (o : Option (List Run)) → get runs (a.0, i) ≡ o → IsRunOf o d run → (k : ℕ) → d ≤ k → k < run.end → AreFound found (point_needs r c a i k)
      go None e f k low high = absurd f
      go (Some own) e f k low high =
          let one = find_is (λ k. nat_le k.first d && nat_lt d k.end) (IsRun r c found a i) own run f (h a i own e) in
          let begins : run.first ≤ d = leb-true run.first d (and_parts _ _ one.0).0 in one.1 k (omega (arith, begins, low)) high

  pub within_run : (found : List Question) (runs : FinMap cell_cmp (List Run)) (a : AttrId) (i : InstanceId) (d : ℕ) (run : Run) (steps : List Step) → IsRunOf (get runs (a.0, i)) d run → LeadsOn r c (step.Point a i d) found runs steps found runs steps
  within_run found runs a i d run steps f total h = dropped total found runs (step.Point a i d) (reverse steps) (at (get runs (a.0, i)) refl f) h
    where
      at : (o : Option (List Run)) → get runs (a.0, i) ≡ o → IsRunOf o d run → AreFound found (point_needs r c a i d)
      at None e f = absurd f
      at (Some own) e f =
          let one = find_is (λ k. nat_le k.first d && nat_lt d k.end) (IsRun r c found a i) own run f (h.found_on a i own e) in
          let two = and_parts _ _ one.0 in one.1 d (leb-true run.first d two.0) (ltb-true d run.end two.1)

  pub entered_on : IsOf r c → (found : List Question) (runs : FinMap cell_cmp (List Run)) (a : AttrId) (i i' : InstanceId) (d : ℕ) (rule : Rule) (e : Bor Expr) (es : List InstanceId) (old mid new : List Step) → mid ≡ old ++ step.AfterPoint a i' d ∷ [] → new ≡ mid ++ step.Tree e es d ∷ []
      → Some rule ≡ rule_of r.rules a → e.now ≡ rule.expr → es ≡ i ∷ [] → i' ≡ i → LeadsOn r c (step.Point a i d) found runs old found runs new
  entered_on is found runs a i i' d rule e es old mid new f g ruled at alone same total h =
      subst (IsOnTheWay r c total found runs) (sym (ap reverse g ∙ reverse_push mid (step.Tree e es d) ∙ ap (λ xs. step.Tree e es d ∷ reverse xs) f ∙ ap (λ xs. step.Tree e es d ∷ xs) (reverse_push old (step.AfterPoint a i' d))))
      (entered is total found runs a i i' d rule e es (reverse old) ruled at alone same h)

  pub put_steps : (found : List Question) (runs : FinMap cell_cmp (List Run)) (s : Step) (us : List Use) (old steps : List Step) → us ≡ step_needs r c s → PutsOn r c us old steps → LeadsOn r c s found runs old found runs steps
  put_steps found runs s us old steps e puts total h = put_on total found runs s puts.0 old steps puts.2 (subst (λ vs. StandFor r c vs puts.0) e puts.1) h

  -- a step is what it is known to be
  pub of_step : (s s' : Step) (found found' : List Question) (runs runs' : FinMap cell_cmp (List Run)) (old new : List Step) → s ≡ s' → LeadsOn r c s' found runs old found' runs' new → LeadsOn r c s found runs old found' runs' new
  of_step s s' found found' runs runs' old new e h = subst (λ t. LeadsOn r c t found runs old found' runs' new) (sym e) h

  pub list_asked : (found found' : List Question) (runs : FinMap cell_cmp (List Run)) (l : RelId) (i : InstanceId) (steps : List Step) → found' ≡ with_new same_question found (question.Members l i) → LeadsOn r c (step.Listed l i) found runs steps found' runs steps
  list_asked found found' runs l i steps e total h = one_asked total found found' runs (step.Listed l i) (Listed l i) (reverse steps) refl e h

  pub no_days_left : (found : List Question) (runs : FinMap cell_cmp (List Run)) (e : Bor Expr) (es : List InstanceId) (first end : ℕ) (steps : List Step) → end ≤ first → LeadsOn r c (step.Days e es first end) found runs steps found runs steps
  no_days_left found runs e es first end steps over total h =
      dropped total found runs (step.Days e es first end) (reverse steps) (subst (λ m. AreFound found (flat_map (part_needs r c e.now es) (days first m))) (let none : 0 ≡ end - first = omega (arith, over) in none) tt) h

  pub days_begin : (found : List Question) (runs : FinMap cell_cmp (List Run)) (e : Bor Expr) (es es' es'' : List InstanceId) (first end : ℕ) (old mid new : List Step) → first < end → es' ≡ es → es'' ≡ es → mid ≡ old ++ step.AfterDay e es'' first end ∷ [] → new ≡ mid ++ step.Part e es' first ∷ []
      → LeadsOn r c (step.Days e es first end) found runs old found runs new
  days_begin found runs e es es' es'' first end old mid new lt same same' f g total h =
      subst (IsOnTheWay r c total found runs) (sym (ap reverse g ∙ reverse_push mid (step.Part e es' first) ∙ ap (λ xs. step.Part e es' first ∷ reverse xs) f ∙ ap (λ xs. step.Part e es' first ∷ xs) (reverse_push old (step.AfterDay e es'' first end))))
      (first_day total found runs e es es' es'' first end (reverse old) lt same same' h)

  -- days on which the part is known are passed over
  pub days_pass : (found : List Question) (runs : FinMap cell_cmp (List Run)) (found' : List Question) (runs' : FinMap cell_cmp (List Run)) (e : Bor Expr) (es : List InstanceId) (first from end : ℕ) (old new : List Step) → first ≤ from → IsKnownUntil r c e.now es first from
      → LeadsOn r c (step.Days e es from end) found runs old found' runs' new → LeadsOn r c (step.Days e es first end) found runs old found' runs' new
  days_pass found runs found' runs' e es first from end old new low known h total way = h total (record {
    whole = added-append found (days_needs r c e.now es from end) (flat_map (step_needs r c) (reverse old)) ∙ ap (λ qs. added qs (flat_map (step_needs r c) (reverse old))) (sym skips)
        ∙ sym (added-append found (days_needs r c e.now es first end) (flat_map (step_needs r c) (reverse old))) ∙ way.whole;
    sound = (tt, subst (λ qs. AreSound r c qs (reverse old)) skips way.sound.1);
    ready = (way.ready.0, way.ready.1);
    found_on = way.found_on;
  })
    where
      none : (k : ℕ) → first ≤ k → k < first + (from - first) → AreFound found (part_needs r c e.now es k)
      none k begun lt = subst (λ b. AreFound found (cond b (tree_needs r c e.now es k) [])) (sym (known_is (part_value r c e.now es k) (known k begun (omega (arith, lt, low))))) tt

      skips : added found (days_needs r c e.now es first end) ≡ added found (days_needs r c e.now es from end)
      skips = passed (part_needs r c e.now es) found (from - first) first end none
          ∙ ap (λ t. added found (flat_map (part_needs r c e.now es) (days t (end - t)))) (let there : first + (from - first) ≡ from = omega (arith, low) in there)

  pub days_go_on : (found : List Question) (runs : FinMap cell_cmp (List Run)) (e : Bor Expr) (es es' : List InstanceId) (d end until from : ℕ) (old new : List Step) → es' ≡ es → from ≡ max until (d + 1) → Settles r c found runs (part_needs r c e.now es) d until
      → new ≡ old ++ step.Days e es' from end ∷ [] → LeadsOn r c (step.AfterDay e es d end) found runs old found runs new
  days_go_on found runs e es es' d end until from old new same at settled g total h =
      subst (IsOnTheWay r c total found runs) (sym (ap reverse g ∙ reverse_push old (step.Days e es' from end)))
      (next_day total found runs e es es' d end until from (reverse old) same (at ∙ (let turned : max until (d + 1) ≡ max (d + 1) until = omega arith in turned)) (settled h.found_on h.sound.0) h)

  -- a run more of a point
  pub run_more : (found : List Question) (runs runs' : FinMap cell_cmp (List Run)) (a : AttrId) (i : InstanceId) (own : List Run) (run : Run) → runs' ≡ insert runs (a.0, i) (own ++ run ∷ []) → AllByRecursion (IsRun r c found a i) own → IsRun r c found a i run
      → AreRuns r c found runs → AreRuns r c found runs'
  run_more found runs runs' a i own run e olds new h b j at = λ q. go (eq_by_cmp cell_cmp (b.0, j) (a.0, i)) refl (sym (get-insert cell_total runs (a.0, i) (own ++ run ∷ []) (b.0, j)) ∙ sym (ap (λ (m : FinMap cell_cmp (List Run)). get m (b.0, j)) e) ∙ q)
    where
      go : (k : Bool) → eq_by_cmp cell_cmp (b.0, j) (a.0, i) ≡ k → cond k (Some (own ++ run ∷ [])) (get runs (b.0, j)) ≡ Some at → AllByRecursion (IsRun r c found b j) at
      go false f q = h b j at q
      go true f q =
          let one = tells_apart cell_exact (b.0, j) (a.0, i) f in
          let attrs : b ≡ a = ap (λ (p : ℕ × InstanceId). let x : AttrId = record { 0 = p.0 } in x) one in
          let insts : j ≡ i = ap (λ (p : ℕ × InstanceId). p.1) one in
          let lists : own ++ run ∷ [] ≡ at = cc q in
          subst (λ (x : AttrId). AllByRecursion (IsRun r c found x j) at) (sym attrs) (subst (λ (x : InstanceId). AllByRecursion (IsRun r c found a x) at) (sym insts)
          (subst (AllByRecursion (IsRun r c found a i)) lists (all_append (IsRun r c found a i) own (run ∷ []) olds (new, tt))))

  pub left : (total found : List Question) (runs runs' : FinMap cell_cmp (List Run)) (a : AttrId) (i : InstanceId) (d until : ℕ) (own : List Run) (run : Run) (rest : List Step)
      → runs' ≡ insert runs (a.0, i) (own ++ run ∷ []) → (get runs (a.0, i) ≡ Some own) ⊎ (own ≡ []) → run.first ≡ d → run.end ≡ max (d + 1) until → IsSettled (point_needs r c a i) found d until
      → IsOnTheWay r c total found runs (step.AfterPoint a i d ∷ rest) → IsOnTheWay r c total found runs' rest
  left total found runs runs' a i d until own run rest e owns f g settled h = record {
    whole = h.whole;
    sound = h.sound.1;
    ready = h.ready.1;
    found_on = run_more found runs runs' a i own run e (olds owns) new h.found_on;
  }
    where
      olds : (get runs (a.0, i) ≡ Some own) ⊎ (own ≡ []) → AllByRecursion (IsRun r c found a i) own
      olds (inl q) = h.found_on a i own q
      olds (inr q) = subst (AllByRecursion (IsRun r c found a i)) (sym q) tt

      go : (k : ℕ) → d ≤ k → k < max (d + 1) until → (b : Bool) → nat_lt k until ≡ b → AreFound found (point_needs r c a i k)
      go k low high true e = settled k low (ltb-true k until e)
      go k low high false e = let over : until ≤ k = ltb-false k until e in let same : d ≡ k = omega (arith, low, high, over) in subst (λ m. AreFound found (point_needs r c a i m)) same h.sound.0

      new : IsRun r c found a i run
      new k low high = go k (omega (arith, low, f)) (omega (arith, high, g)) (nat_lt k until) refl

  own_is : (o : Option (List Run)) → (o ≡ Some (unwrap_or o [])) ⊎ (unwrap_or o [] ≡ [])
  own_is None = inr refl
  own_is (Some own) = inl refl

  pub left_on : (found : List Question) (runs runs' : FinMap cell_cmp (List Run)) (a : AttrId) (i : InstanceId) (d until : ℕ) (run : Run) → runs' ≡ insert runs (a.0, i) (unwrap_or (get runs (a.0, i)) [] ++ run ∷ []) → run.first ≡ d → run.end ≡ max until (d + 1)
      → Settles r c found runs (point_needs r c a i) d until → (steps : List Step) → LeadsOn r c (step.AfterPoint a i d) found runs steps found runs' steps
  left_on found runs runs' a i d until run e f g settled steps total h =
      left total found runs runs' a i d until (unwrap_or (get runs (a.0, i)) []) run (reverse steps) e (own_is (get runs (a.0, i))) f (g ∙ (let turned : max until (d + 1) ≡ max (d + 1) until = omega arith in turned)) (settled h.found_on h.sound.0) h

  pub none_settled : (f : ℕ → List Use) (found : List Question) (d : ℕ) → IsSettled f found d d
  none_settled f found d k low high = absurd (omega (arith, low, high))

  pub by_its_tree : IsOf r c → (found : List Question) (runs : FinMap cell_cmp (List Run)) (a : AttrId) (i : InstanceId) (rule : Rule) (e : Expr) (es : List InstanceId) (d until : ℕ) → Some rule ≡ rule_of r.rules a → e ≡ rule.expr → es ≡ i ∷ []
      → Settles r c found runs (tree_needs r c e es) d until → Settles r c found runs (point_needs r c a i) d until
  by_its_tree is found runs a i rule e es d until ruled at alone h right there k low high = subst (AreFound found) (same k) (h right (subst (AreFound found) (sym (same d)) there) k low high)
    where
      same : (k : ℕ) → tree_needs r c e es k ≡ point_needs r c a i k
      same k = ap (λ x. tree_needs r c x es k) at ∙ ap (λ ks. tree_needs r c rule.expr ks k) alone
          ∙ sym (by_its_rule (base_of r) (facts_of c) (base r c is).falls a i k ∙ ap (λ o. needs_or o (Point a i k ∷ []) (λ x. tree_needs r c x (i ∷ []) k)) (sym ruled))

  -- all that was asked for is found
  pub all_found : (total found : List Question) (runs : FinMap cell_cmp (List Run)) (steps : List Step) → steps ≡ [] → IsOnTheWay r c total found runs (reverse steps) → found ≡ total
  all_found total found runs steps e h = ap (λ xs. added found (flat_map (step_needs r c) (reverse xs))) (sym e) ∙ h.whole

  pub first_found : (total found : List Question) (runs : FinMap cell_cmp (List Run)) (steps : List Step) → 0 < length found → IsOnTheWay r c total found runs (reverse steps) → first_or found None ≡ first_or total None
  first_found total [] runs steps lt h = absurd (omega (arith, lt))
  first_found total (q ∷ found) runs steps lt h = sym (ap (λ qs. first_or qs None) (sym h.whole) ∙ first_stays (flat_map (step_needs r c) (reverse steps)) q found None)

  pub begins : (a : AttrId) (i i' : InstanceId) (d : ℕ) (found : List Question) (runs : FinMap cell_cmp (List Run)) (steps : List Step) → i' ≡ i → IsLive c i → d < DAYS → found ≡ [] → runs ≡ empty → steps ≡ step.Point a i' d ∷ []
      → IsOnTheWay r c (added [] (point_needs r c a i d)) found runs (reverse steps)
  begins a i i' d found runs steps same live lt e f g =
      subst (λ (qs : List Question). IsOnTheWay r c (added [] (point_needs r c a i d)) qs runs (reverse steps)) (sym e)
      (subst (λ (m : FinMap cell_cmp (List Run)). IsOnTheWay r c (added [] (point_needs r c a i d)) [] m (reverse steps)) (sym f)
      (subst (IsOnTheWay r c (added [] (point_needs r c a i d)) [] empty) (sym (ap reverse (g ∙ ap (λ j. step.Point a j d ∷ []) same))) (record {
        whole = ap (added []) (append-nil (point_needs r c a i d));
        sound = (tt, tt);
        ready = ((live, lt), tt);
        found_on = λ b j own at. absurd (cc (sym (get-empty cell_cmp (b.0, j)) ∙ at));
      })))
