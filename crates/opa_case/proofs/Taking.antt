-- A list that is forgotten takes what it contained.
use Rattle.std.specs.Prelude.{◌≡◌, ◌-◌, ℕ, Bool, true, cond, List, None, Some, Ok}
use Rattle.std.specs.FinMap.{get, remove, get-remove}
use Rattle.std.specs.Cmp.{eq_by_cmp_equiv}
use Rattle.std.proofs.Common.{ap, sym, subst, ◌∙◌}
use Rattle.std.proofs.lemmas.Option.{same_Some}
use Rattle.std.proofs.lemmas.Bool.{false_from_ne_true}
use mathlib.Core.Bool.{true≢false}
use Rattle.opa_io.proofs.Options.{none_by}
use Rattle.opa_model.specs.declared.ids.RelId.{RelId}
use Rattle.opa_cells.specs.declared.instance.InstanceId.{InstanceId}
use Rattle.opa_cells.specs.Instances.{named}
use Rattle.opa_cells.proofs.Orders.{cell_exact, cell_total, get_kept}
use Rattle.opa_case.specs.declared.change.Refusal.TheVariants.{Name}
use Rattle.opa_case.specs.Shapes.{Shape, IsShape}
use Rattle.opa_case.specs.Live.{Lists, Population, is_live, container_of}
use Rattle.opa_case.specs.Cases.{CaseView, stored}
use Rattle.opa_case.specs.Steps.{is_misplaced, without_list}
use Rattle.opa_case.specs.Fits.{Fits}
use Rattle.opa_case.specs.Laws.{Takes, ForgetTakes}
use Rattle.opa_case.proofs.Stands.{in_upto, container_found, Has}
use Rattle.opa_case.proofs.Among.{container_live}
use Rattle.opa_case.proofs.Kept.{guard, ok_is, forgotten_kept}
use Rattle.opa_case.proofs.Losing.{forgotten_home}

module _ (s : Shape) (ruled : List Bool) (shape : IsShape s) (c : CaseView) (r : RelId) (i : InstanceId) (fits : Fits s ruled c) where
  abbrev new : CaseView
  new = without_list s c r i

  abbrev after : Lists
  after = stored (remove c.lists (r.0, i))

  unknown : after r i ≡ None
  unknown = get-remove cell_total c.lists (r.0, i) (r.0, i) ∙ ap (λ b. cond b None (get c.lists (r.0, i))) ((eq_by_cmp_equiv cell_total).refl (r.0, i))

  -- a live instance stands in the container that it had, and that is live
  stood : (j d : InstanceId) → container_of c.live j ≡ Some d → is_live new.live j ≡ true → (is_live new.live d ≡ true) × Has s after j d
  stood j d at alive =
      let pos = (in_upto s (stored c.lists) (s.count - 1) j d (ap (λ (p : Population). container_of p j) (sym fits.live) ∙ at)).0 in
      let found = container_found s after j pos alive in
      let same : found.0 ≡ d = same_Some found.0 d (sym (forgotten_home s ruled shape c fits r i j found.0 found.1) ∙ at) in
      subst (λ (x : InstanceId). (is_live new.live x ≡ true) × Has s after j x) same ((container_live s after j found.0 found.1).0, found.2)

  stays_not : (n : List ℕ) → s.contains r ≡ true → container_of c.live (named (s.target r) n) ≡ Some i → is_live new.live (named (s.target r) n) ≡ true → ⊥
  stays_not n con at alive =
      let has = (stood (named (s.target r) n) i at alive).1 in
      absurd (cc (sym (ap (λ (q : RelId). after q i) (shape.no_other r con) ∙ has.known) ∙ unknown))

  pub taken : Takes s c new r i
  taken = record {
    goes = λ n con at. false_from_ne_true (is_live new.live (named (s.target r) n)) (λ alive. stays_not n con at alive);
    takes_contained = λ j d at gone. false_from_ne_true (is_live new.live j) (λ alive. true≢false (sym (stood j d at alive).0 ∙ gone));
    takes_answers = λ j a gone. get_kept cell_exact c.answers (λ k. is_live new.live k.1) (a.0, j) ∙ ap (λ b. cond b (get c.answers (a.0, j)) None) gone;
    takes_lists = λ j q gone. none_by (get new.lists (q.0, j)) (λ ns at. true≢false (sym ((forgotten_kept s ruled shape c r i fits).listed q j ns at) ∙ gone));
  }

pub forget_takes : ForgetTakes
forget_takes s ruled shape c c' r i fits h =
    let same : without_list s c r i ≡ c' = ok_is (without_list s c r i) c' (guard (is_misplaced s c r i) Name (Ok (without_list s c r i)) c' h).1 in
    subst (λ (x : CaseView). Takes s c x r i) same (taken s ruled shape c r i fits)
