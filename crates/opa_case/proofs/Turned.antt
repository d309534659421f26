-- What a case keeps beside its lists, after a change of one of them.
use Rattle.std.specs.Prelude.{◌≡◌, true, false, cond, Option, None, Some, is_some, refl}
use Rattle.std.specs.FinMap.{FinMap}
use Rattle.std.proofs.Common.{arith, ap, sym, ◌∙◌}
use Rattle.std.proofs.lemmas.Bool.{or_parts}
use mathlib.Core.Bool.{true≢false}
use Rattle.opa_model.specs.declared.lists.Lists.{Lists as Declared}
use Rattle.opa_cells.specs.declared.instance.InstanceId.{InstanceId}
use Rattle.opa_cells.specs.Instances.{is_same, global}
use Rattle.opa_cells.specs.Keys.{cell_cmp}
use Rattle.opa_case.specs.declared.counts.Counts.{Counts}
use Rattle.opa_case.specs.Shapes.{Shape, shape_of}
use Rattle.opa_case.specs.Live.{Names, Population, live_of}
use Rattle.opa_case.specs.Cases.{CaseView, Answer, stored}
use Rattle.opa_case.specs.Homes.{home_of, AreHomes, AreCounts, AreCountsThen}
use Rattle.opa_case.specs.Turns.{Turns, is_among}
use Rattle.opa_case.proofs.Housing.{live_by_homes}

module _ (live next gone come : Population) (i : InstanceId) (turns : Turns live next gone come i) where
  pub homes_then : (old put new : FinMap cell_cmp InstanceId) → AreHomes old live
      → ((x : InstanceId) → home_of put x ≡ cond (is_among come x) (Some i) (home_of old x))
      → ((x : InstanceId) → home_of new x ≡ cond (is_among gone x) None (home_of put x)) → AreHomes new next
  homes_then old put new are set taken x =
      taken x ∙ ap (cond (is_among gone x) None) (set x ∙ ap (cond (is_among come x) (Some i)) (are x)) ∙ sym (turns.homes x)

  -- what comes has no home yet
  pub no_home : (homes : FinMap cell_cmp InstanceId) → AreHomes homes live → (x : InstanceId) → is_among come x ≡ true → home_of homes x ≡ None
  no_home homes are x h = none (home_of homes x) (or_parts (is_same x global) _ (live_by_homes homes live are x ∙ turns.new x h)).1
    where
      none : (o : Option InstanceId) → is_some o ≡ false → o ≡ None
      none None e = refl
      none (Some d) e = absurd (true≢false e)

  pub counts_then : (old new : Counts) → AreCounts old live → AreCountsThen old new come gone → AreCounts new next
  counts_then old new are then = (
    λ e. let a = are.0 e in let b = then.0 e in let t = turns.counts e in omega (arith, a, b, t),
    let a = are.1 in let b = then.1 in let t = turns.total in omega (arith, a, b, t),
  )

-- A case kept by a model, the new lists, and the rest, is the new case; the same instances are live as before where that says so.
module _ (d : Declared) (s : Shape) (same : shape_of d ≡ s) (next : CaseView) (live : next.live ≡ live_of s (stored next.lists))
    (lists : FinMap cell_cmp Names) (told : lists ≡ next.lists) where
  pub live_then : next.live ≡ live_of (shape_of d) (stored lists)
  live_then = live ∙ ap (λ m. live_of s (stored m)) (sym told) ∙ ap (λ t. live_of t (stored lists)) (sym same)

  pub case_then : (every : FinMap cell_cmp Names) (answers : FinMap cell_cmp Answer) → every ≡ next.every → answers ≡ next.answers
      → ◌≡◌ {A = CaseView} (record { lists = lists; every = every; answers = answers; live = live_of (shape_of d) (stored lists) }) next
  case_then every answers e a k = record { lists = told k; every = e k; answers = a k; live = sym live_then k }
