-- Instances that are live, and lists that are one.
use Rattle.std.proofs.Common.{◌≡◌, ◌↔◌, ℕ, Bool, true, false, IsTrue, List, Some, refl, sym, ap}
use Rattle.std.specs.Prelude.{◌||◌}
use Rattle.std.proofs.lemmas.Bool.{and_parts}
use Rattle.opa_cells.specs.Instances.{is_same, global}
use Rattle.opa_cells.specs.declared.instance.InstanceId.{InstanceId}
use Rattle.opa_case.specs.Cases.{CaseView, IsLive}
use Rattle.opa_case.specs.Live as live
use Rattle.opa_case.proofs.Stands.{any_map}
use Rattle.opa_mean.specs.Changes.{is_live}
use Rattle.opa_mean.specs.Given.{facts_of}
use Rattle.opa_mean.specs.Sameness.{same_names}
use Rattle.opa_mean.proofs.SameBoth.{sameness_is_exact}
use Rattle.opa_session.specs.Telling.Reaching.{has_stayed}

-- an instance is live by the case exactly where it is one of its facts' instances
pub live_one : (c : CaseView) (i : InstanceId) → live.is_live c.live i ≡ is_live (facts_of c) i
live_one c i = ap (λ b. is_same i global || b) (sym (any_map (is_same i) (λ (p : InstanceId × InstanceId). p.0) c.live))

-- what stayed was live
pub stayed_live : (c c' : CaseView) (i : InstanceId) → has_stayed c c' i ≡ true → IsLive c i
stayed_live c c' i h = (and_parts (live.is_live c.live i) _ h).0

-- a test whether two lists are one
pub names_tested : (t : Bool) (x y : List (List ℕ)) → IsTrue t ↔ (x ≡ y) → t ≡ same_names (Some x) (Some y)
names_tested true x y h = sym ((sameness_is_exact.names (Some x) (Some y)).1 (ap Some (h.0 refl)))
names_tested false x y h = go (same_names (Some x) (Some y)) ((sameness_is_exact.names (Some x) (Some y)).0)
  where
    go : (b : Bool) → (b ≡ true → Some x ≡ Some y) → false ≡ b
    go false k = refl
    go true k = h.1 (some_is (k refl))
      where
        some_is : Some x ≡ Some y → x ≡ y
        some_is e = cc e
