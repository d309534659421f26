-- What is kept of quantifiers that were spread.
use Rattle.std.proofs.Common.{◌≡◌, ◌⊎◌, inl, inr, ℕ, zero, suc, ◌<◌, Bool, true, false, ◌&&◌, List, [], ◌∷◌, length, get_or, Contains, refl, sym, ◌∙◌, ap, subst, arith}
use Rattle.std.specs.Prelude.{not, Result, Ok, Err, OnOk}
use Rattle.opa_date.specs.declared.TheConstants.{DAYS}
use Rattle.opa_line.specs.Lines.{StandsFor}
use Rattle.opa_case.specs.Shapes.{Shape}
use Rattle.opa_cells.specs.declared.instance.InstanceId.{InstanceId}
use Rattle.opa_tree.specs.declared.expr.Expr.{Expr}
use Rattle.opa_tree.proofs.Members.{none_in}
use Rattle.opa_mean.specs.Looks.{Look}
use Rattle.opa_mean.specs.Places.{place}
use Rattle.opa_mean.specs.Uses.{Use, uses}
use Rattle.opa_report.specs.Adding.{Adds, IsUsed}
use Rattle.opa_report.specs.DaySets.Sets.{on}
use Rattle.opa_report.specs.Finding.{Has}
use Rattle.opa_report.specs.Keeping.{Follows, HasOnePlace, Agrees, IsFound, AreFound, IsMissing}
use Rattle.opa_report.specs.declared.kept.SpreadTree.{SpreadTree}
use Rattle.opa_report.specs.declared.found.Found.{Found}
use Rattle.opa_report.proofs.day_sets.Setting.{on_is}

pub on_ok_under : {T E A : Type 0} (P : Type 0) (r : Result T E) → (A → OnOk r P) → OnOk r (A → P)
on_ok_under P (Ok x) h = h
on_ok_under P (Err e) h = tt

both_on : (a b : Bool) → (a && b) ≡ true → a ≡ true
both_on true b h = refl
both_on false b h = h

module _ (s : Shape) (l : Look) where
  pub itself : (e f : List InstanceId) → Follows l [] e f e f
  itself e f o h = at h
    where
      at : HasOnePlace l [] e f o → place l.container e o ≡ place l.container f o
      at (inl has) = absurd (none_in o has)
      at (inr is) = is

  -- of one that was spread elsewhere, where it is the same, its days aren't missing
  pub missing_is : (one : SpreadTree) (t : Expr) (e : List InstanceId) (days missing : List (ℕ × Bool)) → one.tree.now ≡ t → Agrees s l [] one.enclosing e t → StandsFor DAYS (λ d. on days d && not (on one.days d)) missing → IsMissing s l (one ∷ []) t e days missing
  missing_is one t e days missing same agrees stands = record {
    within = λ d lt is_on. both_on (on days d) (not (on one.days d)) (sym (on_is _ missing d stands lt) ∙ is_on);
    others = λ found known d lt is_on. at found known d lt is_on (on one.days d) refl;
  }
    where
      at : (found : Found) → AreFound s l found (one ∷ []) → (d : ℕ) → d < DAYS → on days d ≡ true → (b : Bool) → on one.days d ≡ b → (on missing d ≡ true) ⊎ ((u : Use) → Contains (uses s l t e d) u → Has found u)
      at found known d lt is_on true was = inr (λ u has. known 0 one (omega arith) u (record {
        day = d;
        within = lt;
        is_on = was;
        there = subst (λ k. Contains (uses s l k one.enclosing d) u) (sym same) (subst (λ (g : ℕ → List Use). Contains (g d) u) (sym (agrees one.enclosing e (itself one.enclosing e)).used) has);
      }))
      at found known d lt is_on false was = inl (on_is _ missing d stands lt ∙ ap (λ b. on days d && not b) was ∙ ap (λ b. b && true) is_on)

  pub missing_among : (ks : List SpreadTree) (i : ℕ) (one : SpreadTree) (t : Expr) (e : List InstanceId) (days missing : List (ℕ × Bool)) → i < length ks → one ≡ get_or ks i one → IsMissing s l (one ∷ []) t e days missing → IsMissing s l ks t e days missing
  missing_among ks i one t e days missing lt is m = record {
    within = m.within;
    others = λ found known. m.others found (alone found known);
  }
    where
      alone : (found : Found) → AreFound s l found ks → AreFound s l found (one ∷ [])
      alone found known zero k few = subst (λ (x : SpreadTree). IsFound s l found x.tree.now x.enclosing x.days) (sym is) (known i one lt)
      alone found known (suc j) k few = absurd (omega (arith, few))

  -- what was found stays found
  pub found_grow : (D : ℕ → Bool) (U : ℕ → List Use) (f g : Found) (ks : List SpreadTree) → Adds D U f g → AreFound s l f ks → AreFound s l g ks
  found_grow D U f g ks adds known k d lt u used = adds.kept u (known k d lt u used)

  -- a tree that is spread on the days that are missing is spread on all of them
  pub adds_missing : (ks : List SpreadTree) (t : Expr) (e : List InstanceId) (days missing : List (ℕ × Bool)) (f g : Found) → IsMissing s l ks t e days missing → AreFound s l f ks → Adds (on missing) (uses s l t e) f g → Adds (on days) (uses s l t e) f g
  adds_missing ks t e days missing f g m known adds = record {
    kept = adds.kept;
    added = λ u used. at u used (m.others f known used.day used.within used.is_on);
    only = λ u has. back u (adds.only u has);
  }
    where
      at : (u : Use) (used : IsUsed (on days) (uses s l t e) u) → (on missing used.day ≡ true) ⊎ ((v : Use) → Contains (uses s l t e used.day) v → Has f v) → Has g u
      at u used (inl is_on) = adds.added u (record { day = used.day; within = used.within; is_on = is_on; there = used.there })
      at u used (inr before) = adds.kept u (before u used.there)

      back : (u : Use) → Has f u ⊎ IsUsed (on missing) (uses s l t e) u → Has f u ⊎ IsUsed (on days) (uses s l t e) u
      back u (inl was) = inl was
      back u (inr used) = inr (record { day = used.day; within = used.within; is_on = m.within used.day used.within used.is_on; there = used.there })

  pub added_found : (t : Expr) (e : List InstanceId) (days : List (ℕ × Bool)) (f g : Found) → Adds (on days) (uses s l t e) f g → IsFound s l g t e days
  added_found t e days f g adds u used = adds.added u used
