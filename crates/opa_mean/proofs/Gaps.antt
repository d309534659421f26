-- What is asked for in place of a list of all instances.
use Rattle.std.proofs.Common.{◌≡◌, ℕ, zero, suc, List, [], ◌∷◌, ◌++◌, Bool, true, false, cond, Option, None, Some, refl, sym, ◌∙◌, ap, subst}
use Rattle.std.specs.Prelude.{map, is_none, ◌==◌}
use Rattle.std.specs.Option.{option_map, option_and_then}
use Rattle.opa_model.specs.declared.ids.RelId.{RelId}
use Rattle.opa_cells.specs.declared.instance.InstanceId.{InstanceId}
use Rattle.opa_cells.specs.Instances.{global, named}
use Rattle.opa_case.specs.Shapes.{Shape}
use Rattle.opa_case.specs.Live.{Names, Lists, gathered, walk}
use Rattle.opa_mean.specs.Uses.{Use, Point, Listed}
use Rattle.opa_mean.specs.Needs.{first_unlisted, gap_of, gap_by}

module _ (l l' : InstanceId → Option Names) (kept : (i : InstanceId) (names : Names) → l i ≡ Some names → l' i ≡ Some names) where
  gathered_kept : (is : List InstanceId) (names : Names) → gathered (map l is) ≡ Some names → gathered (map l' is) ≡ Some names
  gathered_kept [] names e = e
  gathered_kept (i ∷ is) names e = go (l i) refl (gathered_kept is)
    where
      go : (o : Option Names) → l i ≡ o → ((names : Names) → gathered (map l is) ≡ Some names → gathered (map l' is) ≡ Some names) → gathered (l' i ∷ map l' is) ≡ Some names
      go None q rec = absurd (cc (e, ap (λ o. gathered (o ∷ map l is)) q))
      go (Some ns) q rec = ap (λ o. gathered (o ∷ map l' is)) (kept i ns q) ∙ rest (gathered (map l is)) refl
        where
          rest : (o : Option Names) → gathered (map l is) ≡ o → option_map (λ more. ns ++ more) (gathered (map l' is)) ≡ Some names
          rest None q' = absurd (cc (sym (ap (λ o. gathered (o ∷ map l is)) q) ∙ e, ap (option_map (λ more. ns ++ more)) q'))
          rest (Some more) q' = ap (option_map (λ more. ns ++ more)) (rec more q') ∙ sym (ap (option_map (λ more. ns ++ more)) q') ∙ sym (ap (λ o. gathered (o ∷ map l is)) q) ∙ e

  -- where the first unknown list is still unknown, the lists aren't all known
  gathered_open : (is : List InstanceId) → gathered (map l is) ≡ None → l' (first_unlisted l is) ≡ None → gathered (map l' is) ≡ None
  gathered_open [] e h = absurd (cc e)
  gathered_open (i ∷ is) e h = go (l i) refl (gathered_open is)
    where
      none : (o : Option Names) → gathered (map l' is) ≡ None → gathered (o ∷ map l' is) ≡ None
      none None q = refl
      none (Some ns) q = ap (option_map (λ more. ns ++ more)) q

      go : (o : Option Names) → l i ≡ o → (gathered (map l is) ≡ None → l' (first_unlisted l is) ≡ None → gathered (map l' is) ≡ None) → gathered (l' i ∷ map l' is) ≡ None
      go None q rec = ap (λ o. gathered (o ∷ map l' is)) (sym (ap (λ o. l' (cond (is_none o) i (first_unlisted l is))) q) ∙ h)
      go (Some ns) q rec = none (l' i) (rec (unknown (gathered (map l is)) refl) (sym (ap (λ o. l' (cond (is_none o) i (first_unlisted l is))) q) ∙ h))
        where
          unknown : (o : Option Names) → gathered (map l is) ≡ o → gathered (map l is) ≡ None
          unknown None q' = q'
          unknown (Some more) q' = absurd (cc (sym (ap (λ o. gathered (o ∷ map l is)) q) ∙ e, ap (option_map (λ more. ns ++ more)) q'))

module _ (s : Shape) (l l' : Lists) (kept : (r : RelId) (i : InstanceId) (names : Names) → l r i ≡ Some names → l' r i ≡ Some names) where
  -- the instances in the lists of these containers
  abbrev inside : Lists → ℕ → Option (List InstanceId) → Option (List InstanceId)
  inside m e o = option_and_then (λ containers. option_map (map (named e)) (gathered (map (m (s.contained e)) containers))) o

  walk_suc : (m : Lists) (n e : ℕ) → walk s m (suc n) e ≡ cond (e == 0) (Some (global ∷ [])) (inside m e (walk s m n (s.parent e)))
  unfolding walk
  walk_suc m n e = refl

  walk_zero : (m : Lists) (e : ℕ) → walk s m zero e ≡ Some (global ∷ [])
  unfolding walk
  walk_zero m e = refl

  inside_kept : (e : ℕ) (containers : List InstanceId) (is : List InstanceId) → inside l e (Some containers) ≡ Some is → inside l' e (Some containers) ≡ Some is
  inside_kept e containers is h = go (gathered (map (l (s.contained e)) containers)) refl
    where
      go : (o : Option Names) → gathered (map (l (s.contained e)) containers) ≡ o → option_map (map (named e)) (gathered (map (l' (s.contained e)) containers)) ≡ Some is
      go None q = absurd (cc (h, ap (option_map (map (named e))) q))
      go (Some names) q = ap (option_map (map (named e))) (gathered_kept (l (s.contained e)) (l' (s.contained e)) (kept (s.contained e)) containers names q) ∙ sym (ap (option_map (map (named e))) q) ∙ h

  -- known instances stay
  pub walk_kept : (n e : ℕ) (is : List InstanceId) → walk s l n e ≡ Some is → walk s l' n e ≡ Some is
  walk_kept zero e is h = walk_zero l' e ∙ sym (walk_zero l e) ∙ h
  walk_kept (suc n) e is h = walk_suc l' n e ∙ go (walk_kept n (s.parent e)) (e == 0) (sym (walk_suc l n e) ∙ h)
    where
      go : ((is : List InstanceId) → walk s l n (s.parent e) ≡ Some is → walk s l' n (s.parent e) ≡ Some is) → (b : Bool) → cond b (Some (global ∷ [])) (inside l e (walk s l n (s.parent e))) ≡ Some is → cond b (Some (global ∷ [])) (inside l' e (walk s l' n (s.parent e))) ≡ Some is
      go rec true k = k
      go rec false k = parents (walk s l n (s.parent e)) refl
        where
          parents : (o : Option (List InstanceId)) → walk s l n (s.parent e) ≡ o → inside l' e (walk s l' n (s.parent e)) ≡ Some is
          parents None q = absurd (cc (k, ap (inside l e) q))
          parents (Some containers) q = ap (inside l' e) (rec containers q) ∙ inside_kept e containers is (sym (ap (inside l e) q) ∙ k)

  abbrev pub Open : Use → Type 0
  Open (Point a i d) = Unit {0}
  Open (Listed r i) = l' r i ≡ None

  gap_suc : (n e : ℕ) → gap_by s l (suc n) e ≡ gap_of (s.contained e) (l (s.contained e)) (walk s l n (s.parent e)) (gap_by s l n (s.parent e))
  unfolding gap_by
  gap_suc n e = refl

  inside_open : (e : ℕ) (containers : List InstanceId) → inside l e (Some containers) ≡ None → l' (s.contained e) (first_unlisted (l (s.contained e)) containers) ≡ None → inside l' e (Some containers) ≡ None
  inside_open e containers h open_ = ap (option_map (map (named e))) (gathered_open (l (s.contained e)) (l' (s.contained e)) (kept (s.contained e)) containers (go (gathered (map (l (s.contained e)) containers)) refl) open_)
    where
      go : (o : Option Names) → gathered (map (l (s.contained e)) containers) ≡ o → gathered (map (l (s.contained e)) containers) ≡ None
      go None q = q
      go (Some names) q = absurd (cc (h, ap (option_map (map (named e))) q))

  -- where what is asked for is still unknown, the instances are
  pub gap_open : (n e : ℕ) → walk s l n e ≡ None → Open (gap_by s l n e) → walk s l' n e ≡ None
  gap_open zero e h open_ = absurd (cc (h, walk_zero l e))
  gap_open (suc n) e h open_ = walk_suc l' n e ∙ go (gap_open n (s.parent e)) (e == 0) (sym (walk_suc l n e) ∙ h)
    where
      go : (walk s l n (s.parent e) ≡ None → Open (gap_by s l n (s.parent e)) → walk s l' n (s.parent e) ≡ None) → (b : Bool) → cond b (Some (global ∷ [])) (inside l e (walk s l n (s.parent e))) ≡ None → cond b (Some (global ∷ [])) (inside l' e (walk s l' n (s.parent e))) ≡ None
      go rec true k = absurd (cc k)
      go rec false k = parents (walk s l n (s.parent e)) refl
        where
          parents : (o : Option (List InstanceId)) → walk s l n (s.parent e) ≡ o → inside l' e (walk s l' n (s.parent e)) ≡ None
          parents None q = ap (inside l' e) (rec q (subst Open (gap_suc n e ∙ ap (λ o. gap_of (s.contained e) (l (s.contained e)) o (gap_by s l n (s.parent e))) q) open_))
          parents (Some containers) q =
              ap (inside l' e) (walk_kept n (s.parent e) containers q)
              ∙ inside_open e containers (sym (ap (inside l e) q) ∙ k) (subst Open (gap_suc n e ∙ ap (λ o. gap_of (s.contained e) (l (s.contained e)) o (gap_by s l n (s.parent e))) q) open_)
