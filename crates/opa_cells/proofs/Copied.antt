-- To insert the entries of a map one after another is to copy it.
use Rattle.std.specs.Prelude.{◌≡◌, ℕ, Bool, true, false, cond, ◌&&◌, T, List, [], ◌∷◌, None, Some, refl}
use Rattle.std.specs.Option.{option_or}
use Rattle.std.specs.Ordering.{eq_by_cmp, is_eq, is_lt}
use Rattle.std.specs.declared.cmp.Ordering.{Ordering}
use Rattle.std.specs.declared.cmp.Ordering.TheVariants.{Less, Equal, Greater}
use Rattle.std.specs.FinMap.{FinMap, get, insert, entries, entries_sorted, empty, find, is_sorted, same_map, get-entries, get-empty, get-insert}
use Rattle.std.specs.FinMap.Entries.{below_all}
use Rattle.std.proofs.Common.{ap, sym, ◌∙◌}
use Rattle.std.proofs.lemmas.Map.Views.{tells_apart}
use Rattle.opa_cells.specs.declared.instance.InstanceId.{InstanceId}
use Rattle.opa_cells.specs.Keys.{cell_cmp}
use Rattle.opa_cells.specs.Rows.{insert_all}
use Rattle.opa_cells.proofs.Orders.{cell_exact, cell_total}
use Rattle.opa_cells.proofs.Rowed.{or_none}

not_equal : (o : Ordering) → T (is_lt o) → is_eq o ≡ false
not_equal Less h = refl
not_equal Equal h = absurd h
not_equal Greater h = absurd h

left : (a b : Bool) → T (a && b) → T a
left true b h = tt
left false b h = absurd h

right : (a b : Bool) → T (a && b) → T b
right true b h = h
right false b h = absurd h

module _ {V : Type 0} where
  none_below : (k : ℕ × InstanceId) (es : List ((ℕ × InstanceId) × V)) → T (below_all cell_cmp k es) → find cell_cmp k es ≡ None
  none_below k [] h = refl
  none_below k (e ∷ es) h =
      ap (λ b. cond b (Some e.1) (find cell_cmp k es)) (not_equal (cell_cmp k e.0) (left _ _ h)) ∙ none_below k es (right (is_lt (cell_cmp k e.0)) _ h)

  get-all : (m : FinMap cell_cmp V) (es : List ((ℕ × InstanceId) × V)) → T (is_sorted cell_cmp es) → (q : ℕ × InstanceId) → get (insert_all m es) q ≡ option_or (find cell_cmp q es) (get m q)
  get-all m [] sorted q = refl
  get-all m (e ∷ es) sorted q =
      get-all (insert m e.0 e.1) es (right (below_all cell_cmp e.0 es) _ sorted) q
      ∙ ap (option_or (find cell_cmp q es)) (get-insert cell_total m e.0 e.1 q)
      ∙ elim (eq_by_cmp cell_cmp q e.0) as (λ b. eq_by_cmp cell_cmp q e.0 ≡ b → option_or (find cell_cmp q es) (cond b (Some e.1) (get m q)) ≡ option_or (cond b (Some e.1) (find cell_cmp q es)) (get m q)) [
        | true ↦ λ h. ap (λ o. option_or o (Some e.1)) (ap (λ k. find cell_cmp k es) (tells_apart cell_exact q e.0 h) ∙ none_below e.0 es (left _ _ sorted))
        | false ↦ λ _. refl
      ] refl

  pub copied : (m : FinMap cell_cmp V) → insert_all empty (entries m) ≡ m
  copied m = same_map cell_total cell_exact _ _ (λ q.
      get-all empty (entries m) (entries_sorted m) q
      ∙ ap (option_or (find cell_cmp q (entries m))) (get-empty cell_cmp q)
      ∙ or_none (find cell_cmp q (entries m)) ∙ sym (get-entries m q))
