-- The live instances of a case, entity by entity.
use Rattle.std.proofs.Common.{◌≡◌, ◌⊎◌, inl, inr, ℕ, zero, suc, ◌+◌, ◌-◌, ◌<◌, ◌≤◌, List, [], ◌∷◌, ◌++◌, length, get_or, Bool, true, false, Option, None, Some, Result, Ok, Err, refl, sym, ◌∙◌, ap, arith}
use Rattle.std.specs.Prelude.{map, unwrap_or, ◌||◌}
use Rattle.std.specs.List.{list_any}
use Rattle.std.specs.Option.{option_or}
use Rattle.std.specs.Result.{OnOk}
use Rattle.std.specs.FinMap.{get}
use Rattle.std.proofs.lemmas.Bool.{cases_lt}
use Rattle.opa_cells.specs.declared.instance.InstanceId.{InstanceId}
use Rattle.opa_cells.specs.Instances.{is_same, global, named}
use Rattle.opa_cells.proofs.Orders.{same_is}
use Rattle.opa_case.specs.Cases.{CaseView, IsLive, stored, list_of}
use Rattle.opa_case.specs.Fits.{Fits}
use Rattle.opa_case.specs.Instances.{AreInstances, listed_by}
use Rattle.opa_case.specs.Live.{Names, members, live_of, is_live}
use Rattle.opa_case.specs.Shapes.{Shape, IsShape}
use Rattle.opa_case.proofs.Losing.{is_every}
use Rattle.opa_case.proofs.Populated.{members_listed}
use Rattle.opa_case.proofs.Stands.{lookup_found, in_upto}

module _ (s : Shape) (ruled : List Bool) (shape : IsShape s) (c : CaseView) (fits : Fits s ruled c) where
  -- an instance that is live is of a declared entity
  pub within : (i : InstanceId) → IsLive c i → i.entity.0 ≤ s.count - 1
  within i live = go (is_same i global) refl
    where
      go : (b : Bool) → is_same i global ≡ b → i.entity.0 ≤ s.count - 1
      go true e = let zero_is : i.entity.0 ≡ 0 = ap (λ (j : InstanceId). j.entity.0) (same_is i global e) in omega (arith, zero_is)
      go false e =
          let by_lists : is_live (live_of s (stored c.lists)) i ≡ true = sym (ap (λ l. is_live l i) fits.live) ∙ live in
          let found = lookup_found (is_same i) (live_of s (stored c.lists)) (sym (ap (λ b. b || list_any (λ p. is_same i p.0) (live_of s (stored c.lists))) e) ∙ by_lists) in
          (in_upto s (stored c.lists) (s.count - 1) i found.0 found.1).1

  -- containment lists aren't of `every` relations
  agrees : (e : ℕ) (j : InstanceId) → 0 < e → e < s.count → stored c.lists (s.contained e) j ≡ list_of c (s.contained e) j
  agrees e j pos lt = go (get c.lists ((s.contained e).0, j)) (get c.every ((s.contained e).0, j)) refl
    where
      go : (o p : Option Names) → get c.every ((s.contained e).0, j) ≡ p → o ≡ option_or o p
      go (Some names) p k = refl
      go None None k = refl
      go None (Some ns) k =
          let isit : s.every (s.contained e) ≡ true = is_every s (stored c.lists) (s.contained e).0 j ns (sym (ap (λ m. get m ((s.contained e).0, j)) fits.every) ∙ k) in
          absurd (cc (shape.every (s.contained e) isit, shape.contains e pos lt))

  listed_same : (e : ℕ) → 0 < e → e < s.count → (cs : List InstanceId) → listed_by (stored c.lists) (s.contained e) e cs ≡ listed_by (list_of c) (s.contained e) e cs
  listed_same e pos lt [] = refl
  listed_same e pos lt (j ∷ cs) =
      ap (λ o. map (named e) (unwrap_or o []) ++ listed_by (stored c.lists) (s.contained e) e cs) (agrees e j pos lt)
      ∙ ap (λ is. map (named e) (unwrap_or (list_of c (s.contained e) j) []) ++ is) (listed_same e pos lt cs)

  pub stored_members : (e : ℕ) → 0 < e → e < s.count → members e c.live ≡ listed_by (stored c.lists) (s.contained e) e (members (s.parent e) c.live)
  stored_members e pos lt =
      ap (members e) fits.live ∙ members_listed s (stored c.lists) shape e pos lt ∙ sym (ap (λ live. listed_by (stored c.lists) (s.contained e) e (members (s.parent e) live)) fits.live)

  pub contained_members : (e : ℕ) → 0 < e → e < s.count → members e c.live ≡ listed_by (list_of c) (s.contained e) e (members (s.parent e) c.live)
  contained_members e pos lt = stored_members e pos lt ∙ listed_same e pos lt (members (s.parent e) c.live)

  pub parent_before : (e : ℕ) → 0 < e → e < s.count → s.parent e < e
  parent_before e pos lt = shape.earlier e pos lt

  pub contains_by : (e : ℕ) → 0 < e → e < s.count → s.contains (s.contained e) ≡ true
  contains_by e pos lt = shape.contains e pos lt

-- a list behind others
pub got_last : (xs : List (List InstanceId)) (x : List InstanceId) → get_or (xs ++ x ∷ []) (length xs) [] ≡ x
got_last [] x = refl
got_last (y ∷ xs) x = got_last xs x

pub got_before : (xs : List (List InstanceId)) (x : List InstanceId) (k : ℕ) → k < length xs → get_or (xs ++ x ∷ []) k [] ≡ get_or xs k []
got_before [] x k lt = absurd (omega (arith, lt))
got_before (y ∷ xs) x zero lt = refl
got_before (y ∷ xs) x (suc k) lt = got_before xs x k (omega (arith, lt))

pub more_length : (xs : List (List InstanceId)) (x : List InstanceId) → length (xs ++ x ∷ []) ≡ length xs + 1
more_length [] x = refl
more_length (y ∷ xs) x = let rest = more_length xs x in omega (arith, rest)

pub with_next : (c : CaseView) (n : ℕ) (old new : List (List InstanceId)) (list : List InstanceId) → AreInstances n c old → new ≡ old ++ list ∷ [] → list ≡ members n c.live → AreInstances (n + 1) c new
with_next c n old new list are is same = record {
  for_each = ap length is ∙ more_length old list ∙ ap (λ k. k + 1) are.for_each;
  in_order = λ e lt. ap (λ xs. get_or xs e []) is ∙ go e lt (cases_lt e n);
}
  where
    go : (e : ℕ) → e < n + 1 → (e < n) ⊎ (n ≤ e) → get_or (old ++ list ∷ []) e [] ≡ members e c.live
    go e lt (inl before) = let k : e < length old = omega (arith, before, are.for_each) in got_before old list e k ∙ are.in_order e before
    go e lt (inr after) = let at : e ≡ length old = omega (arith, lt, after, are.for_each) in let isn : n ≡ e = omega (arith, lt, after) in ap (λ k. get_or (old ++ list ∷ []) k []) at ∙ got_last old list ∙ same ∙ ap (λ k. members k c.live) isn

-- the global instance alone
pub at_first : (c : CaseView) (lists : List (List InstanceId)) → lists ≡ (global ∷ []) ∷ [] → AreInstances 1 c lists
at_first c lists is = record {
  for_each = ap length is;
  in_order = λ e lt. ap (λ xs. get_or xs e []) is ∙ go e lt;
}
  where
    go : (e : ℕ) → e < 1 → get_or ((global ∷ []) ∷ []) e [] ≡ members e c.live
    go zero lt = refl
    go (suc e) lt = absurd (omega (arith, lt))

pub on_ok : {T E : Type 0} (o : Result T E) (P Q : Type 0) → (P → Q) → OnOk o P → OnOk o Q
on_ok (Ok x) P Q f h = f h
on_ok (Err e) P Q f h = tt
