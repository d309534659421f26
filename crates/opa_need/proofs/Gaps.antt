-- What keeps instances from being known, a parent further at each step.
use Rattle.std.proofs.Common.{◌≡◌, ℕ, zero, suc, ◌-◌, ◌<◌, List, None, Some, sym, ◌∙◌, ap, arith}
use Rattle.opa_model.specs.declared.ids.RelId.{RelId}
use Rattle.opa_cells.specs.Instances.{global}
use Rattle.opa_cells.specs.declared.instance.InstanceId.{InstanceId}
use Rattle.opa_case.specs.Live.{Lists, walk}
use Rattle.opa_case.specs.Shapes.{Shape}
use Rattle.opa_mean.specs.Needs.{gap_of, gap_by, first_unlisted}
use Rattle.opa_mean.specs.Uses.{Listed}

module _ (s : Shape) (members : Lists) where
  -- with a step left
  at_parent : (n k e : ℕ) → 0 < n → k ≡ n - 1 → gap_by s members n e ≡ gap_of (s.contained e) (members (s.contained e)) (walk s members k (s.parent e)) (gap_by s members k (s.parent e))
  unfolding gap_by
  at_parent zero k e lt same = absurd (omega (arith, lt))
  at_parent (suc n) k e lt same = ap (λ m. gap_of (s.contained e) (members (s.contained e)) (walk s members m (s.parent e)) (gap_by s members m (s.parent e))) (omega (arith, same))

  pub gap_above : (n k e parent : ℕ) → 0 < n → k ≡ n - 1 → parent ≡ s.parent e → None ≡ walk s members k parent → gap_by s members n e ≡ gap_by s members k parent
  gap_above n k e parent lt same own none =
      at_parent n k e lt same ∙ ap (λ p. gap_of (s.contained e) (members (s.contained e)) (walk s members k p) (gap_by s members k p)) (sym own)
      ∙ ap (λ o. gap_of (s.contained e) (members (s.contained e)) o (gap_by s members k parent)) (sym none)

  pub gap_here : (n k e parent : ℕ) (parents instances : List InstanceId) (rel : RelId) (i : InstanceId) → 0 < n → k ≡ n - 1 → parent ≡ s.parent e → Some parents ≡ walk s members k parent
      → rel ≡ s.contained e → instances ≡ parents → i ≡ first_unlisted (members rel) instances → gap_by s members n e ≡ Listed rel i
  gap_here n k e parent parents instances rel i lt same own some by these first =
      at_parent n k e lt same ∙ ap (λ p. gap_of (s.contained e) (members (s.contained e)) (walk s members k p) (gap_by s members k p)) (sym own)
      ∙ ap (λ o. gap_of (s.contained e) (members (s.contained e)) o (gap_by s members k parent)) (sym some)
      ∙ ap (λ r. Listed r (first_unlisted (members r) parents)) (sym by)
      ∙ ap (λ is. Listed rel (first_unlisted (members rel) is)) (sym these)
      ∙ ap (Listed rel) (sym first)

  pub gap_last : (n e : ℕ) (rel : RelId) (i : InstanceId) → n ≡ 0 → rel ≡ s.contained e → i ≡ global → gap_by s members n e ≡ Listed rel i
  unfolding gap_by
  gap_last n e rel i none by last = ap (λ m. gap_by s members m e) none ∙ ap (λ r. Listed r global) (sym by) ∙ ap (Listed rel) (sym last)
