-- The order of tasks, and sets of them.
use Rattle.std.proofs.Common.{◌≡◌, ◌⊎◌, ◌↔◌, inl, inr, ℕ, ◌<◌, ◌≤◌, Bool, true, false, cond, List, [], ◌∷◌, All, Contains, length, refl, sym, ◌∙◌, ap, arith}
use Rattle.std.specs.Ordering.{nat_cmp, ordering_then, is_eq}
use Rattle.std.specs.declared.cmp.Ordering.{Ordering}
use Rattle.std.specs.declared.cmp.Ordering.TheVariants.{Less}
use Rattle.std.specs.Cmp.{IsTotalOrder, nat_cmp_total, tied_itself}
use Rattle.std.specs.BTreeSet as sorted
use Rattle.std.specs.BTreeSet.{BTreeSet}
use Rattle.std.specs.BTreeMap.{is_at}
use Rattle.std.specs.BTreeMap.Range.{IsLtBy}
use Rattle.std.proofs.lemmas.Bool.{cases_lt}
use Rattle.std.proofs.lemmas.Cmp.{on_total, then_total}
use Rattle.std.proofs.lemmas.List.Elements.{All-contains}
use Rattle.std.proofs.lemmas.Map.Lookups.{CmpEqualImpliesEq, exact_pairs, exact_unsigned}
use Rattle.std.proofs.lemmas.Map.Views.{tells_apart, btree_set_contains_iff}
use Rattle.opa_cells.specs.Instances.{instance_cmp}
use Rattle.opa_cells.specs.Keys.{cell_cmp}
use Rattle.opa_cells.specs.declared.instance.InstanceId.{InstanceId}
use Rattle.opa_cells.proofs.Orders.{instance_total, cell_exact}
use Rattle.opa_session.specs.Settlement.Tasks.{ComesFirst}
use Rattle.opa_session.specs.declared.settlement.task.Task.{Task}

-- by rank, then by attribute, then by instance
abbrev pub task_cmp : Task → Task → Ordering
task_cmp t u = ordering_then (nat_cmp t.rank u.rank) (ordering_then (nat_cmp t.attr.0 u.attr.0) (instance_cmp t.inst u.inst))

pub task_total : IsTotalOrder task_cmp
task_total = then_total (on_total (λ (t : Task). t.rank) nat_cmp_total) (then_total (on_total (λ (t : Task). t.attr.0) nat_cmp_total) (on_total (λ (t : Task). t.inst) instance_total))

pub task_exact : CmpEqualImpliesEq task_cmp
task_exact t u h =
    ap (λ (p : ℕ × (ℕ × InstanceId)). let x : Task = record { rank = p.0; attr = record { 0 = p.1.0 }; inst = p.1.1 } in x)
    (exact_pairs nat_cmp cell_cmp exact_unsigned cell_exact (t.rank, (t.attr.0, t.inst)) (u.rank, (u.attr.0, u.inst)) h)

not_above : (m n : ℕ) (o : Ordering) → ordering_then (nat_cmp m n) o ≡ Less → m ≤ n
not_above m n o h = grind (arith, h)

at_same : (m n : ℕ) (o : Ordering) → m ≡ n → ordering_then (nat_cmp m n) o ≡ Less → o ≡ Less
at_same m n o e h = grind (arith, e, h)

-- what stands behind a task is of no lower rank, and of the same rank declared no earlier; and it isn't the task
pub behind : (t : Task) (tasks : List Task) → All (IsLtBy task_cmp t) tasks → (u : Task) → Contains tasks u → ComesFirst t u
behind t tasks all u there = go (cases_lt t.rank u.rank)
  where
    less : ordering_then (nat_cmp t.rank u.rank) (ordering_then (nat_cmp t.attr.0 u.attr.0) (instance_cmp t.inst u.inst)) ≡ Less
    less = All-contains (IsLtBy task_cmp t) tasks u all there

    go : (t.rank < u.rank) ⊎ (u.rank ≤ t.rank) → ComesFirst t u
    go (inl lower) = inl lower
    go (inr above) =
        let le = not_above t.rank u.rank _ less in
        let same : t.rank ≡ u.rank = omega (arith, le, above) in
        inr (same, not_above t.attr.0 u.attr.0 _ (at_same t.rank u.rank _ same less))

pub once : (t : Task) (tasks : List Task) → All (IsLtBy task_cmp t) tasks → Contains tasks t → ⊥
once t tasks all there = cc (All-contains (IsLtBy task_cmp t) tasks t all there, tied_itself task_total t)

pub added : (old new : BTreeSet Task) (t : Task) → ((q : Task) → sorted.contains task_cmp new q ≡ cond (is_at (task_cmp t) q) true (sorted.contains task_cmp old q)) → (u : Task) → Contains new.keys u ↔ (Contains old.keys u ⊎ (u ≡ t))
added old new t adds u = (λ there. out (is_at (task_cmp t) u) refl (sym (adds u) ∙ (btree_set_contains_iff task_total task_exact new u).1 there), λ k. (btree_set_contains_iff task_total task_exact new u).0 (adds u ∙ into k))
  where
    out : (b : Bool) → is_at (task_cmp t) u ≡ b → cond (is_at (task_cmp t) u) true (sorted.contains task_cmp old u) ≡ true → Contains old.keys u ⊎ (u ≡ t)
    out true e h = inr (sym (tells_apart task_exact t u e))
    out false e h = inl ((btree_set_contains_iff task_total task_exact old u).0 (sym (ap (λ b. cond b true (sorted.contains task_cmp old u)) e) ∙ h))

    or_true : (b : Bool) → cond b true true ≡ true
    or_true true = refl
    or_true false = refl

    into : Contains old.keys u ⊎ (u ≡ t) → cond (is_at (task_cmp t) u) true (sorted.contains task_cmp old u) ≡ true
    into (inl there) = ap (cond (is_at (task_cmp t) u) true) ((btree_set_contains_iff task_total task_exact old u).1 there) ∙ or_true (is_at (task_cmp t) u)
    into (inr e) = ap (λ b. cond b true (sorted.contains task_cmp old u)) (ap is_eq (ap (task_cmp t) e ∙ tied_itself task_total t))

pub no_keys : (tasks : List Task) → (0 < length tasks → ⊥) → tasks ≡ []
no_keys [] h = refl
no_keys (t ∷ tasks) h = absurd (h (omega arith))
