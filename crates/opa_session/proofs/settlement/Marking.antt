-- Slots that are added to what waits.
use Rattle.std.proofs.Common.{◌≡◌, ◌⊎◌, inl, inr, ℕ, ◌+◌, ◌<◌, List, [], ◌∷◌, ◌++◌, length, get_or, take, map, Contains, refl, sym, ◌∙◌, ap, subst}
use Rattle.std.proofs.lemmas.List.{take_more}
use Rattle.std.proofs.lemmas.List.Elements.{Contains-append_left, Contains-append_right, Contains-append_cases}
use Rattle.opa_model.specs.declared.ids.AttrId.{AttrId}
use Rattle.opa_cells.specs.declared.instance.InstanceId.{InstanceId}
use Rattle.opa_tree.specs.declared.rulebase.Rulebase.{Rulebase}
use Rattle.opa_tree.specs.Ranks.{rank_at}
use Rattle.opa_tree.proofs.Members.{none_in, contains_head, contains_tail, contains_cases}
use Rattle.opa_mean.proofs.Everywhere.{in_map}
use Rattle.opa_mean.specs.Reached.Settling.{SamePair}
use Rattle.opa_mean.specs.Reached.Slots.{pairs_of}
use Rattle.opa_mean.specs.declared.reached.slot.Slot.{Slot}
use Rattle.opa_session.specs.Settlement.Tasks.{slots_of, AreRanked, Marks, AddsTask, task_of}
use Rattle.opa_session.specs.declared.settlement.task.Task.{Task}

-- what a mapped list contains comes from an item
pub out_map : {X Y : Type 0} (f : X → Y) (xs : List X) (y : Y) → Contains (map f xs) y → (x : X) × (Contains xs x × (f x ≡ y))
out_map f [] y h = absurd (none_in y h)
out_map {X} {Y} f (x ∷ xs) y h = go (contains_cases (f x) y (map f xs) h) (out_map f xs y)
  where
    go : (f x ≡ y) ⊎ Contains (map f xs) y → (Contains (map f xs) y → (z : X) × (Contains xs z × (f z ≡ y))) → (z : X) × (Contains (x ∷ xs) z × (f z ≡ y))
    go (inl e) rec = (x, (contains_head x xs, e))
    go (inr there) rec = let w = rec there in (w.0, (contains_tail x w.0 xs w.1.0, w.1.1))

pub task_in : (tasks : List Task) (t : Task) → Contains tasks t → Contains (slots_of tasks) (t.attr, t.inst)
task_in tasks t h = in_map (λ (t : Task). (t.attr, t.inst)) tasks t h

-- where each has its attribute's rank, a slot that waits has its task
pub task_at : (r : Rulebase) (tasks : List Task) → AreRanked r tasks → (t : Task) → t.rank ≡ rank_at r.ranks t.attr → Contains (slots_of tasks) (t.attr, t.inst) → Contains tasks t
task_at r tasks ranked t at h =
    let w = out_map (λ (t : Task). (t.attr, t.inst)) tasks (t.attr, t.inst) h in
    let same : w.0 ≡ t = pieces w.0 t (ranked w.0 w.1.0 ∙ ap (λ (k : AttrId × InstanceId). rank_at r.ranks k.0) w.1.1 ∙ sym at) w.1.1 in
    subst (λ (u : Task). Contains tasks u) same w.1.0
  where
    pieces : (u v : Task) → u.rank ≡ v.rank → SamePair (u.attr, u.inst) (v.attr, v.inst) → u ≡ v
    pieces u v e k = λ i. record { rank = e i; attr = (k i).0; inst = (k i).1 }

module _ (r : Rulebase) (s : Slot) (old new : List Task) where
  pub marks_one : AddsTask r s old new → Marks r (s ∷ []) old new
  marks_one adds = record {
    ranked = λ ranked t h. by_rank ranked t ((adds t).0 h);
    waits = λ a i. (λ h. marks a i h, λ k. marked a i k);
  }
    where
      by_rank : AreRanked r old → (t : Task) → Contains old t ⊎ (t ≡ task_of r s) → t.rank ≡ rank_at r.ranks t.attr
      by_rank ranked t (inl h) = ranked t h
      by_rank ranked t (inr e) = ap (λ (u : Task). u.rank) e ∙ sym (ap (λ (u : Task). rank_at r.ranks u.attr) e)

      here : (a : AttrId) (i : InstanceId) → (SamePair (s.attr, s.inst) (a, i)) ⊎ Contains {X = AttrId × InstanceId} [] (a, i) → Contains (slots_of new) (a, i)
      here a i (inl e) = subst (λ (k : AttrId × InstanceId). Contains (slots_of new) k) e (task_in new (task_of r s) ((adds (task_of r s)).1 (inr refl)))
      here a i (inr none) = absurd (none_in (a, i) none)

      marked : (a : AttrId) (i : InstanceId) → Contains (slots_of old) (a, i) ⊎ Contains (pairs_of (s ∷ [])) (a, i) → Contains (slots_of new) (a, i)
      marked a i (inl h) = let w = out_map (λ (t : Task). (t.attr, t.inst)) old (a, i) h in subst (λ (k : AttrId × InstanceId). Contains (slots_of new) k) w.1.1 (task_in new w.0 ((adds w.0).1 (inl w.1.0)))
      marked a i (inr h) = here a i (contains_cases (s.attr, s.inst) (a, i) [] h)

      marks : (a : AttrId) (i : InstanceId) → Contains (slots_of new) (a, i) → Contains (slots_of old) (a, i) ⊎ Contains (pairs_of (s ∷ [])) (a, i)
      marks a i h = let w = out_map (λ (t : Task). (t.attr, t.inst)) new (a, i) h in go w.0 w.1.1 ((adds w.0).0 w.1.0)
        where
          go : (t : Task) → SamePair (t.attr, t.inst) (a, i) → Contains old t ⊎ (t ≡ task_of r s) → Contains (slots_of old) (a, i) ⊎ Contains (pairs_of (s ∷ [])) (a, i)
          go t e (inl h) = inl (subst (λ (k : AttrId × InstanceId). Contains (slots_of old) k) e (task_in old t h))
          go t e (inr is) =
              let at : SamePair (s.attr, s.inst) (a, i) = sym (ap (λ (u : Task). (u.attr, u.inst)) is) ∙ e in
              inr (subst (λ (k : AttrId × InstanceId). Contains (pairs_of (s ∷ [])) k) at (contains_head (s.attr, s.inst) []))

pub pairs-append : (xs ys : List Slot) → pairs_of (xs ++ ys) ≡ pairs_of xs ++ pairs_of ys
pairs-append [] ys = refl
pairs-append (x ∷ xs) ys = ap (λ ps. (x.attr, x.inst) ∷ ps) (pairs-append xs ys)

module _ (r : Rulebase) where
  pub marks_start : (tasks : List Task) → Marks r [] tasks tasks
  marks_start tasks = record { ranked = λ ranked. ranked; waits = λ a i. (λ h. inl h, λ k. only a i k) }
    where
      only : (a : AttrId) (i : InstanceId) → Contains (slots_of tasks) (a, i) ⊎ Contains {X = AttrId × InstanceId} [] (a, i) → Contains (slots_of tasks) (a, i)
      only a i (inl h) = h
      only a i (inr none) = absurd (none_in (a, i) none)

  pub marks_both : (xs ys : List Slot) (old mid new : List Task) → Marks r xs old mid → Marks r ys mid new → Marks r (xs ++ ys) old new
  marks_both xs ys old mid new m n = record {
    ranked = λ ranked. n.ranked (m.ranked ranked);
    waits = λ a i. (λ h. marks a i ((n.waits a i).0 h), λ k. marked a i k);
  }
    where
      put : (a : AttrId) (i : InstanceId) → Contains (pairs_of xs) (a, i) ⊎ Contains (pairs_of ys) (a, i) → Contains (pairs_of (xs ++ ys)) (a, i)
      put a i (inl h) = subst (λ ps. Contains ps (a, i)) (sym (pairs-append xs ys)) (Contains-append_left (pairs_of xs) (pairs_of ys) (a, i) h)
      put a i (inr h) = subst (λ ps. Contains ps (a, i)) (sym (pairs-append xs ys)) (Contains-append_right (pairs_of xs) (pairs_of ys) (a, i) h)

      marked : (a : AttrId) (i : InstanceId) → Contains (slots_of old) (a, i) ⊎ Contains (pairs_of (xs ++ ys)) (a, i) → Contains (slots_of new) (a, i)
      marked a i (inl h) = (n.waits a i).1 (inl ((m.waits a i).1 (inl h)))
      marked a i (inr h) = go (Contains-append_cases (pairs_of xs) (pairs_of ys) (a, i) (subst (λ ps. Contains ps (a, i)) (pairs-append xs ys) h))
        where
          go : Contains (pairs_of xs) (a, i) ⊎ Contains (pairs_of ys) (a, i) → Contains (slots_of new) (a, i)
          go (inl k) = (n.waits a i).1 (inl ((m.waits a i).1 (inr k)))
          go (inr k) = (n.waits a i).1 (inr k)

      marks : (a : AttrId) (i : InstanceId) → Contains (slots_of mid) (a, i) ⊎ Contains (pairs_of ys) (a, i) → Contains (slots_of old) (a, i) ⊎ Contains (pairs_of (xs ++ ys)) (a, i)
      marks a i (inr h) = inr (put a i (inr h))
      marks a i (inl h) = go ((m.waits a i).0 h)
        where
          go : Contains (slots_of old) (a, i) ⊎ Contains (pairs_of xs) (a, i) → Contains (slots_of old) (a, i) ⊎ Contains (pairs_of (xs ++ ys)) (a, i)
          go (inl k) = inl k
          go (inr k) = inr (put a i (inl k))

  pub marks_next : (xs : List Slot) (k : ℕ) (y : Slot) (old mid new : List Task) → k < length xs → y ≡ get_or xs k y → Marks r (take k xs) old mid → Marks r (y ∷ []) mid new → Marks r (take (k + 1) xs) old new
  marks_next xs k y old mid new lt is m n =
      subst (λ ys. Marks r ys old new) (sym (take_more xs k y lt ∙ ap (λ z. take k xs ++ z ∷ []) (sym is))) (marks_both (take k xs) (y ∷ []) old mid new m n)

  -- of a set what the whole makes wait, the rest of it makes wait besides what those behind did
  abbrev pub MarksOnward : List Slot → List Slot → List Task → List Task → Type 0
  MarksOnward all rest old now = (after : List Task) → Marks r rest now after → Marks r all old after

  pub onward_next : (all : List Slot) (y : Slot) (rest xs : List Slot) (old mid new : List Task) → xs ≡ y ∷ rest → MarksOnward all xs old mid → Marks r (y ∷ []) mid new → MarksOnward all rest old new
  onward_next all y rest xs old mid new is goes m after n = goes after (subst (λ zs. Marks r zs mid after) (sym is) (marks_both (y ∷ []) rest mid new after m n))

  pub onward_end : (all xs : List Slot) (old new : List Task) → xs ≡ [] → MarksOnward all xs old new → Marks r all old new
  onward_end all xs old new none goes = goes new (subst (λ zs. Marks r zs new new) (sym none) (marks_start new))
