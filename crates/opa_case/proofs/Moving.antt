-- No change of a case moves an instance that stays.
use Rattle.std.proofs.Common.{◌≡◌, ◌⊎◌, inl, inr, ℕ, ◌-◌, ◌<◌, ◌≤◌, Bool, true, false, cond, List, Option, None, Some, Result, Ok, refl, sym, ◌∙◌, ap, arith}
use Rattle.std.specs.List.{list_any}
use Rattle.std.specs.FinMap.{insert, remove}
use Rattle.std.specs.Ordering.{eq_by_cmp}
use Rattle.std.specs.Cmp.{eq_by_cmp_equiv}
use Rattle.std.proofs.lemmas.Bool.{cases_lt}
use Rattle.std.proofs.lemmas.Map.Views.{tells_apart}
use Rattle.opa_model.specs.declared.ids.AttrId.{AttrId}
use Rattle.opa_model.specs.declared.ids.RelId.{RelId}
use Rattle.opa_cells.specs.Instances.{is_text, named}
use Rattle.opa_cells.specs.Keys.{cell_cmp}
use Rattle.opa_cells.specs.declared.instance.InstanceId.{InstanceId}
use Rattle.opa_cells.proofs.Orders.{cell_exact, cell_total}
use Rattle.opa_case.specs.Cases.{CaseView, Answer, IsLive, stored}
use Rattle.opa_case.specs.Fits.{Fits}
use Rattle.opa_case.specs.Laws.{OnlyLoses, Replaces, KeepContainers, StepKeepsContainers}
use Rattle.opa_case.specs.Live.{Names, is_live, live_of, container_of}
use Rattle.opa_case.specs.Shapes.{Shape, IsShape}
use Rattle.opa_case.specs.Steps.{unless, with_answer, answer_fault, is_unknown_answer}
use Rattle.opa_case.specs.declared.change.ChangeCommand.TheVariants.{Answer as SetAnswer, Withdraw, SetList, Forget}
use Rattle.opa_case.specs.declared.change.Refusal.{Refusal}
use Rattle.opa_case.proofs.Kept.{stands}
use Rattle.opa_case.proofs.Losing.{withdraw_loses, forget_loses}
use Rattle.opa_case.proofs.Replacing.{set_replaces}
use Rattle.opa_case.proofs.Stands.{container_found, Has, in_upto}
use Rattle.opa_case.proofs.Stepping.{step_fits}

ok_is : {X E : Type 0} (x y : X) → ◌≡◌ {A = Result X E} (Ok x) (Ok y) → x ≡ y
ok_is x y e = cc e

unless_ok : (o : Option Refusal) (x y : CaseView) → unless o (Ok x) ≡ Ok y → x ≡ y
unless_ok None x y e = ok_is x y e
unless_ok (Some f) x y e = absurd (cc e)

answer_lives : (c : CaseView) (a : AttrId) (i : InstanceId) (line : Answer) → (with_answer c a i line).live ≡ c.live
answer_lives c a i line = go (is_unknown_answer line)
  where
    go : (b : Bool) → (cond b (record c { answers = remove c.answers (a.0, i) }) (record c { answers = insert c.answers (a.0, i) line })).live ≡ c.live
    go true = refl
    go false = refl

module _ (s : Shape) (ruled : List Bool) (shape : IsShape s) (c c' : CaseView) (fits : Fits s ruled c) where
  -- the global instance has no container, and each other live one has
  at_global : (d : CaseView) → Fits s ruled d → (i : InstanceId) → i.entity.0 ≤ 0 → container_of d.live i ≡ None
  at_global d f i low = go (container_of d.live i) refl
    where
      go : (o : Option InstanceId) → container_of d.live i ≡ o → container_of d.live i ≡ None
      go None e = e
      go (Some x) e = let p = (in_upto s (stored d.lists) (s.count - 1) i x (ap (λ l. container_of l i) (sym f.live) ∙ e)).0 in absurd (omega (arith, p, low))

  -- where only something is lost, what is live has the container that it had
  lost_stay : Fits s ruled c' → OnlyLoses c c' → KeepContainers c c'
  lost_stay fits' loses i live live' = go (cases_lt 0 i.entity.0)
    where
      go : (0 < i.entity.0) ⊎ (i.entity.0 ≤ 0) → container_of c'.live i ≡ container_of c.live i
      go (inl pos) =
          let found = container_found s (stored c'.lists) i pos (sym (ap (λ l. is_live l i) fits'.live) ∙ live') in
          let at : container_of c'.live i ≡ Some found.0 = ap (λ l. container_of l i) fits'.live ∙ found.1 in
          at ∙ sym (loses.live i found.0 at)
      go (inr low) = at_global c' fits' i low ∙ sym (at_global c fits i low)

  module _ (fits' : Fits s ruled c') (r : RelId) (at : InstanceId) (names : Names) (replaces : Replaces s c c' r at names) (i : InstanceId) (live : IsLive c i) (live' : IsLive c' i) (pos : 0 < i.entity.0) where
    found : (d : InstanceId) × (container_of (live_of s (stored c.lists)) i ≡ Some d) × Has s (stored c.lists) i d
    found = container_found s (stored c.lists) i pos (sym (ap (λ l. is_live l i) fits.live) ∙ live)

    home : container_of c.live i ≡ Some found.0
    home = ap (λ l. container_of l i) fits.live ∙ found.1

    inside : i.entity.0 < s.count
    inside = let b = (in_upto s (stored c.lists) (s.count - 1) i found.0 found.1).1 in omega (arith, b, pos, shape.some)

    itself : named (s.target (s.contained i.entity.0)) i.name ≡ i
    itself = ap (λ n. named n i.name) (shape.target i.entity.0 pos inside)

    container_lives : IsLive c' found.0
    container_lives = go (is_live c'.live found.0) refl
      where
        go : (b : Bool) → is_live c'.live found.0 ≡ b → is_live c'.live found.0 ≡ true
        go true e = e
        go false e = absurd (cc (live', replaces.takes_contained i found.0 home e))

    -- the list that holds it was set
    set_here : s.contained i.entity.0 ≡ r → found.0 ≡ at → container_of c'.live i ≡ Some found.0
    set_here same there = go (list_any (is_text i.name) names) refl
      where
        is_i : named (s.target r) i.name ≡ i
        is_i = ap (λ q. named (s.target q) i.name) (sym same) ∙ itself

        contains : s.contains r ≡ true
        contains = ap s.contains (sym same) ∙ shape.contains i.entity.0 pos inside

        go : (b : Bool) → list_any (is_text i.name) names ≡ b → container_of c'.live i ≡ Some found.0
        go true e = ap (container_of c'.live) (sym is_i) ∙ replaces.contains i.name contains e ∙ ap Some (sym there)
        go false e =
            let was : container_of c.live (named (s.target r) i.name) ≡ Some at = ap (container_of c.live) is_i ∙ home ∙ ap Some there in
            absurd (cc (live', ap (is_live c'.live) (sym is_i), replaces.goes i.name contains was e))

    set_elsewhere : ((s.contained i.entity.0 ≡ r) × (found.0 ≡ at) → ⊥) → container_of c'.live i ≡ Some found.0
    set_elsewhere apart =
        let contains = shape.contains i.entity.0 pos inside in
        let known = replaces.keeps_lists found.0 (s.contained i.entity.0) container_lives contains apart ∙ found.2.known in
        ap (container_of c'.live) (sym itself) ∙ stands s ruled shape c' fits' (s.contained i.entity.0) found.0 found.2.names i.name contains known found.2.listed

    replaced_stay : container_of c'.live i ≡ container_of c.live i
    replaced_stay = go (eq_by_cmp cell_cmp ((s.contained i.entity.0).0, found.0) (r.0, at)) refl ∙ sym home
      where
        go : (b : Bool) → eq_by_cmp cell_cmp ((s.contained i.entity.0).0, found.0) (r.0, at) ≡ b → container_of c'.live i ≡ Some found.0
        go true e = let k = tells_apart cell_exact ((s.contained i.entity.0).0, found.0) (r.0, at) e in set_here (ap (λ (x : ℕ × InstanceId). let y : RelId = record { 0 = x.0 } in y) k) (ap (λ (x : ℕ × InstanceId). x.1) k)
        go false e = set_elsewhere (λ both. cc (e, ap (λ (q : RelId). eq_by_cmp cell_cmp (q.0, found.0) (r.0, at)) both.0, ap (λ j. eq_by_cmp cell_cmp (r.0, j) (r.0, at)) both.1, (eq_by_cmp_equiv cell_total).refl (r.0, at)))

  set_stay : Fits s ruled c' → (r : RelId) (at : InstanceId) (names : Names) → Replaces s c c' r at names → KeepContainers c c'
  set_stay fits' r at names replaces i live live' = go (cases_lt 0 i.entity.0)
    where
      go : (0 < i.entity.0) ⊎ (i.entity.0 ≤ 0) → container_of c'.live i ≡ container_of c.live i
      go (inl pos) = replaced_stay fits' r at names replaces i live live' pos
      go (inr low) = at_global c' fits' i low ∙ sym (at_global c fits i low)

pub containers_stay : StepKeepsContainers
containers_stay s ruled shape c c' (SetAnswer a i line) declared fits h =
    let same : c'.live ≡ c.live = ap (λ (x : CaseView). x.live) (sym (unless_ok (answer_fault s ruled c a i line) (with_answer c a i line) c' h)) ∙ answer_lives c a i line in
    λ j l l'. ap (λ x. container_of x j) same
containers_stay s ruled shape c c' (Withdraw a i) declared fits h = lost_stay s ruled shape c c' fits (step_fits s ruled shape c c' (Withdraw a i) declared fits h) (withdraw_loses s ruled c c' a i h)
containers_stay s ruled shape c c' (SetList r i names) declared fits h = set_stay s ruled shape c c' fits (step_fits s ruled shape c c' (SetList r i names) declared fits h) r i names (set_replaces s ruled shape c c' r i names declared fits h)
containers_stay s ruled shape c c' (Forget r i) declared fits h = lost_stay s ruled shape c c' fits (step_fits s ruled shape c c' (Forget r i) declared fits h) (forget_loses s ruled shape c c' r i fits h)
