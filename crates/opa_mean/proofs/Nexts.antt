-- Nothing is asked exactly where every goal is known at every day.
use Rattle.std.proofs.Common.{◌≡◌, ◌≢◌, ℕ, zero, suc, ◌+◌, ◌<◌, List, [], ◌∷◌, Bool, true, false, cond, Option, None, Some, refl, sym, ◌∙◌, ap, arith}
use Rattle.std.specs.Prelude.{find}
use Rattle.std.specs.List.{AllByRecursion}
use Rattle.opa_io.proofs.Numbers.{found_passes}
use Rattle.opa_date.specs.declared.TheConstants.{DAYS}
use Rattle.opa_value.specs.declared.value.Value.{Value}
use Rattle.opa_value.specs.declared.value.Value.TheVariants.{Unknown}
use Rattle.opa_value.specs.Truth.{is_unknown}
use Rattle.opa_model.specs.declared.ids.AttrId.{AttrId}
use Rattle.opa_cells.specs.Instances.{global}
use Rattle.opa_case.specs.declared.question.Question.{Question}
use Rattle.opa_window.specs.Days.{days}
use Rattle.opa_mean.specs.Bases.{IsBase}
use Rattle.opa_mean.specs.Mean.{Base, Facts, mean}
use Rattle.opa_mean.specs.Needs.{needs_of}
use Rattle.opa_mean.specs.Next.{questions, first_unknown, asked_at, relevant, first_or, next, IsKnown, AskedUntilKnown}
use Rattle.opa_mean.specs.Uses.{Use}
use Rattle.opa_mean.proofs.Cleaning.{none_of}
use Rattle.opa_mean.proofs.Deciding.{unknown_has_need}
use Rattle.opa_mean.proofs.Unknowns.{unknown_is}

module _ (f : ℕ → Value) where
  known_where_none : (end : ℕ) → first_unknown end f ≡ None → (d : ℕ) → d < end → f d ≢ Unknown
  unfolding first_unknown
  known_where_none end e d lt un = absurd (cc (none_of (λ d. is_unknown (f d)) 0 end e d (omega arith) (omega (arith, lt)), ap is_unknown un))

  unknown_where_some : (end d : ℕ) → first_unknown end f ≡ Some d → f d ≡ Unknown
  unfolding first_unknown
  unknown_where_some end d e = unknown_is (f d) (found_passes (λ d. is_unknown (f d)) (days 0 end) d e)

  in_where_some : (end d : ℕ) → first_unknown end f ≡ Some d → d < end
  unfolding first_unknown
  in_where_some end d e = let lt = found_in 0 end d e in omega (arith, lt)
    where
      found_in : (s n d : ℕ) → find (λ d. is_unknown (f d)) (days s n) ≡ Some d → d < s + n
      found_in s zero d e = absurd (cc e)
      found_in s (suc n) d e = go (is_unknown (f s)) refl (found_in (s + 1) n d)
        where
          go : (b : Bool) → is_unknown (f s) ≡ b → (find (λ d. is_unknown (f d)) (days (s + 1) n) ≡ Some d → d < (s + 1) + n) → d < s + suc n
          go true q rest = let same : s ≡ d = cc (e, ap (λ b. cond b (Some s) (find (λ d. is_unknown (f d)) (days (s + 1) n))) q) in omega (arith, same)
          go false q rest = let more = rest (sym (ap (λ b. cond b (Some s) (find (λ d. is_unknown (f d)) (days (s + 1) n))) q) ∙ e) in omega (arith, more)

asks : (us : List Use) → us ≢ [] → (rest : Option Question) → first_or (questions us) rest ≡ None → ⊥
asks [] some rest e = some refl
asks (u ∷ us) some rest e = cc e

module _ (b : Base) (is : IsBase b) (c : Facts) where
  pub asked_until_known : AskedUntilKnown b c
  asked_until_known goals = (known goals, none goals)
    where
      known : (goals : List AttrId) → next b c goals ≡ None → AllByRecursion (IsKnown b c) goals
      known [] e = tt
      known (goal ∷ goals) e = go (first_unknown DAYS (mean b c goal global)) refl e (known goals)
        where
          go : (o : Option ℕ) → first_unknown DAYS (mean b c goal global) ≡ o → first_or (asked_at b c goal o) (next b c goals) ≡ None → (next b c goals ≡ None → AllByRecursion (IsKnown b c) goals) → AllByRecursion (IsKnown b c) (goal ∷ goals)
          go None q h rest = (known_where_none (mean b c goal global) DAYS q, rest h)
          go (Some d) q h rest = absurd (asks (needs_of b c goal global d) ((unknown_has_need b is c goal global d).0 (unknown_where_some (mean b c goal global) DAYS d q)) (next b c goals) h)

      none : (goals : List AttrId) → AllByRecursion (IsKnown b c) goals → next b c goals ≡ None
      none [] h = refl
      none (goal ∷ goals) h = go (first_unknown DAYS (mean b c goal global)) refl (none goals h.1)
        where
          go : (o : Option ℕ) → first_unknown DAYS (mean b c goal global) ≡ o → next b c goals ≡ None → first_or (relevant b c goal) (next b c goals) ≡ None
          go None q rest = ap (λ o. first_or (asked_at b c goal o) (next b c goals)) q ∙ rest
          go (Some d) q rest = absurd (h.0 d (in_where_some (mean b c goal global) DAYS d q) (unknown_where_some (mean b c goal global) DAYS d q))
