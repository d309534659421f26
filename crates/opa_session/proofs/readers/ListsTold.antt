-- The lists that differ, of those that may be others.
use Rattle.std.proofs.Common.{◌≡◌, ◌⊎◌, inl, inr, Bool, true, false, cond, not, List, [], ◌∷◌, ◌++◌, Contains, sym, ◌∙◌, ap, subst}
use Rattle.std.specs.Prelude.{flat_map}
use Rattle.std.proofs.lemmas.List.{append-nil}
use Rattle.opa_model.specs.declared.ids.RelId.{RelId}
use Rattle.opa_cells.specs.declared.instance.InstanceId.{InstanceId}
use Rattle.opa_case.specs.Cases.{CaseView, IsLive, list_of}
use Rattle.opa_case.specs.Touched.{AreTouched}
use Rattle.opa_case.specs.declared.question.Question.{Question}
use Rattle.opa_case.specs.declared.question.Question.TheVariants as question
use Rattle.opa_mean.specs.Sameness.{same_names}
use Rattle.opa_mean.proofs.SameBoth.{names_itself}
use Rattle.opa_tree.specs.declared.rulebase.Rulebase.{Rulebase}
use Rattle.opa_tree.proofs.Members.{flat_in, flat_out}
use Rattle.opa_mean.specs.Reached.ByLists.{AreListsTold}
use Rattle.opa_mean.specs.Reached.Settling.{is_told, shift}
use Rattle.opa_session.specs.Readers.Renewing.{list_told}
use Rattle.opa_session.proofs.readers.Renewed.{in_if, if_in}

-- one list, where it differs
pub adds_differing : (c c' : CaseView) (q : RelId) (j : InstanceId) (same : Bool) (old new : List Question) (x : InstanceId) → same ≡ same_names (list_of c q j) (list_of c' q j) → same ≡ false → x ≡ j → new ≡ old ++ question.Members q x ∷ [] → new ≡ old ++ list_told c c' (q.0, j)
adds_differing c c' q j same old new x is off at more =
    more ∙ ap (λ (i : InstanceId). old ++ question.Members q i ∷ []) at
    ∙ ap (λ b. old ++ cond (not b) (question.Members q j ∷ []) []) (sym (sym is ∙ off))

pub adds_none : (c c' : CaseView) (q : RelId) (j : InstanceId) (same : Bool) (old : List Question) → same ≡ same_names (list_of c q j) (list_of c' q j) → same ≡ true → old ≡ old ++ list_told c c' (q.0, j)
adds_none c c' q j same old is on = sym (append-nil old) ∙ ap (λ b. old ++ cond (not b) (question.Members q j ∷ []) []) (sym (sym is ∙ on))

module _ (r : Rulebase) (c c' : CaseView) (keys : List (RelId × InstanceId)) (touched : AreTouched c c' keys) where
  abbrev differing : List Question
  differing = flat_map (λ (x : RelId × InstanceId). list_told c c' (x.0.0, x.1)) keys

  out : (q : Question) → Contains differing q → is_told (shift r c c') q ≡ true
  out q h =
      let x = flat_out (λ (x : RelId × InstanceId). list_told c c' (x.0.0, x.1)) keys q h in
      let one = in_if (not (same_names (list_of c x.0.0 x.0.1) (list_of c' x.0.0 x.0.1))) (question.Members x.0.0 x.0.1) q x.1.1 in
      subst (λ (p : Question). is_told (shift r c c') p ≡ true) one.1 one.0

  into : (q : RelId) (j : InstanceId) → IsLive c j → IsLive c' j → is_told (shift r c c') (question.Members q j) ≡ true → Contains differing (question.Members q j)
  into q j live live' differs = go (touched q j live live')
    where
      same : list_of c' q j ≡ list_of c q j → not (same_names (list_of c q j) (list_of c' q j)) ≡ false
      same e = ap (λ o. not (same_names (list_of c q j) o)) e ∙ ap not (names_itself (list_of c q j))

      go : Contains keys (q, j) ⊎ (list_of c' q j ≡ list_of c q j) → Contains differing (question.Members q j)
      go (inl there) =
          flat_in (λ (x : RelId × InstanceId). list_told c c' (x.0.0, x.1)) keys (q, j) (question.Members q j) there
          (if_in (not (same_names (list_of c q j) (list_of c' q j))) (question.Members q j) differs)
      go (inr e) = absurd (cc (differs, same e))

  pub are_lists_told : (told : List Question) → told ≡ differing → AreListsTold (shift r c c') told
  are_lists_told told is = record {
    differ = λ q there. out q (subst (λ qs. Contains qs q) is there);
    all = λ q j live live' differs. subst (λ qs. Contains qs (question.Members q j)) (sym is) (into q j live live' differs);
  }
