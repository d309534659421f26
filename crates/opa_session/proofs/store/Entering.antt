-- What entries say of lines, as one entry is set.
use Rattle.std.proofs.Common.{◌≡◌, ℕ, Bool, true, false, cond, Option, None, Some, refl, sym, ◌∙◌, ap}
use Rattle.std.specs.FinMap.{get, insert, get-insert}
use Rattle.std.specs.Option.{option_map, option_or}
use Rattle.std.specs.Ordering.{eq_by_cmp}
use Rattle.std.specs.Cmp.{eq_by_cmp_equiv}
use Rattle.std.proofs.lemmas.Map.Views.{tells_apart}
use Rattle.opa_model.specs.declared.ids.AttrId.{AttrId}
use Rattle.opa_cells.specs.Keys.{cell_cmp}
use Rattle.opa_cells.specs.declared.instance.InstanceId.{InstanceId}
use Rattle.opa_cells.proofs.Orders.{cell_exact, cell_total}
use Rattle.opa_case.specs.Cases.{Answer}
use Rattle.opa_mean.specs.Reached.Settling.{SameLines, Stages, is_slot_same, laid}
use Rattle.opa_session.specs.Store.Entries.{Entries, kept_in, staged_in, with_staged, committed, abandoned, changed, changed_at}
use Rattle.opa_session.specs.Store.Stores.{kept_lines, staged_lines}
use Rattle.opa_session.specs.declared.store.entry.Entry.{Entry}

-- whether two keys are one doesn't depend on their order
pub flip : (x y : ℕ × InstanceId) → eq_by_cmp cell_cmp x y ≡ eq_by_cmp cell_cmp y x
flip x y = go (eq_by_cmp cell_cmp x y) refl (eq_by_cmp cell_cmp y x) refl
  where
    go : (b : Bool) → eq_by_cmp cell_cmp x y ≡ b → (c : Bool) → eq_by_cmp cell_cmp y x ≡ c → eq_by_cmp cell_cmp x y ≡ eq_by_cmp cell_cmp y x
    go true e true e' = e ∙ sym e'
    go false e false e' = e ∙ sym e'
    go true e false e' = absurd (cc (e', ap (λ k. eq_by_cmp cell_cmp y k) (tells_apart cell_exact x y e), (eq_by_cmp_equiv cell_total).refl y))
    go false e true e' = absurd (cc (e, ap (λ k. eq_by_cmp cell_cmp x k) (tells_apart cell_exact y x e'), (eq_by_cmp_equiv cell_total).refl x))

got_set : (m : Entries) (k : ℕ × InstanceId) (v : Entry) (j : ℕ × InstanceId) → get (insert m k v) j ≡ cond (eq_by_cmp cell_cmp k j) (Some v) (get m j)
got_set m k v j = get-insert cell_total m k v j ∙ ap (λ b. cond b (Some v) (get m j)) (flip j k)

got_changed : (f : Entry → Entry) (m : Entries) (k j : ℕ × InstanceId) → get (changed_at f m k) j ≡ cond (eq_by_cmp cell_cmp k j) (option_map f (get m k)) (get m j)
got_changed f m k j = go (get m k) refl
  where
    same : (b : Bool) → eq_by_cmp cell_cmp k j ≡ b → get m k ≡ None → get m j ≡ cond b None (get m j)
    same false e none = refl
    same true e none = ap (get m) (sym (tells_apart cell_exact k j e)) ∙ none

    go : (o : Option Entry) → get m k ≡ o → get (changed f m k o) j ≡ cond (eq_by_cmp cell_cmp k j) (option_map f o) (get m j)
    go None e = same (eq_by_cmp cell_cmp k j) refl e
    go (Some v) e = got_set m k (f v) j

module _ (m : Entries) (a : AttrId) (i : InstanceId) where
  -- what the entry of the slot has, another spelling of the slot has
  here : {X : Type 0} (f : Option Entry → X) (b : AttrId) (j : InstanceId) → is_slot_same a i b j ≡ true → f (get m (a.0, i)) ≡ f (get m (b.0, j))
  here f b j e = ap (λ (k : ℕ × InstanceId). f (get m k)) (tells_apart cell_exact (a.0, i) (b.0, j) e)

  module _ (line : Answer) where
    abbrev staged_map : Entries
    staged_map = insert m (a.0, i) (with_staged (get m (a.0, i)) line)

    pub staged_by : Stages (staged_lines m) (staged_lines staged_map) a i line
    staged_by b j = ap staged_in (got_set m (a.0, i) (with_staged (get m (a.0, i)) line) (b.0, j)) ∙ go (eq_by_cmp cell_cmp (a.0, i) (b.0, j))
      where
        go : (t : Bool) → staged_in (cond t (Some (with_staged (get m (a.0, i)) line)) (get m (b.0, j))) ≡ cond t (Some line) (staged_in (get m (b.0, j)))
        go true = refl
        go false = refl

    pub kept_by : SameLines (kept_lines m) (kept_lines staged_map)
    kept_by b j = ap kept_in (got_set m (a.0, i) (with_staged (get m (a.0, i)) line) (b.0, j)) ∙ go (eq_by_cmp cell_cmp (a.0, i) (b.0, j)) refl
      where
        go : (t : Bool) → is_slot_same a i b j ≡ t → kept_in (cond t (Some (with_staged (get m (a.0, i)) line)) (get m (b.0, j))) ≡ kept_in (get m (b.0, j))
        go true e = here kept_in b j e
        go false e = refl

  pub commit_laid : SameLines (laid (kept_lines m) (staged_lines m)) (laid (kept_lines (changed_at committed m (a.0, i))) (staged_lines (changed_at committed m (a.0, i))))
  commit_laid b j = ap (λ o. option_or (staged_in o) (kept_in o)) (got_changed committed m (a.0, i) (b.0, j)) ∙ go (eq_by_cmp cell_cmp (a.0, i) (b.0, j)) refl
    where
      moved : (o : Option Entry) → option_or (staged_in (option_map committed o)) (kept_in (option_map committed o)) ≡ option_or (staged_in o) (kept_in o)
      moved None = refl
      moved (Some e) = refl

      go : (t : Bool) → is_slot_same a i b j ≡ t → option_or (staged_in (cond t (option_map committed (get m (a.0, i))) (get m (b.0, j)))) (kept_in (cond t (option_map committed (get m (a.0, i))) (get m (b.0, j)))) ≡ option_or (staged_in (get m (b.0, j))) (kept_in (get m (b.0, j)))
      go true e = moved (get m (a.0, i)) ∙ here (λ o. option_or (staged_in o) (kept_in o)) b j e
      go false e = refl

  pub commit_staged : (b : AttrId) (j : InstanceId) → staged_lines (changed_at committed m (a.0, i)) b j ≡ cond (is_slot_same a i b j) None (staged_lines m b j)
  commit_staged b j = ap staged_in (got_changed committed m (a.0, i) (b.0, j)) ∙ go (eq_by_cmp cell_cmp (a.0, i) (b.0, j))
    where
      none : (o : Option Entry) → staged_in (option_map committed o) ≡ None
      none None = refl
      none (Some e) = refl

      go : (t : Bool) → staged_in (cond t (option_map committed (get m (a.0, i))) (get m (b.0, j))) ≡ cond t None (staged_in (get m (b.0, j)))
      go true = none (get m (a.0, i))
      go false = refl

  pub abandon_kept : SameLines (kept_lines m) (kept_lines (changed_at abandoned m (a.0, i)))
  abandon_kept b j = ap kept_in (got_changed abandoned m (a.0, i) (b.0, j)) ∙ go (eq_by_cmp cell_cmp (a.0, i) (b.0, j)) refl
    where
      stays : (o : Option Entry) → kept_in (option_map abandoned o) ≡ kept_in o
      stays None = refl
      stays (Some e) = refl

      go : (t : Bool) → is_slot_same a i b j ≡ t → kept_in (cond t (option_map abandoned (get m (a.0, i))) (get m (b.0, j))) ≡ kept_in (get m (b.0, j))
      go true e = stays (get m (a.0, i)) ∙ here kept_in b j e
      go false e = refl

  pub abandon_staged : (b : AttrId) (j : InstanceId) → staged_lines (changed_at abandoned m (a.0, i)) b j ≡ cond (is_slot_same a i b j) None (staged_lines m b j)
  abandon_staged b j = ap staged_in (got_changed abandoned m (a.0, i) (b.0, j)) ∙ go (eq_by_cmp cell_cmp (a.0, i) (b.0, j))
    where
      none : (o : Option Entry) → staged_in (option_map abandoned o) ≡ None
      none None = refl
      none (Some e) = refl

      go : (t : Bool) → staged_in (cond t (option_map abandoned (get m (a.0, i))) (get m (b.0, j))) ≡ cond t None (staged_in (get m (b.0, j)))
      go true = none (get m (a.0, i))
      go false = refl
