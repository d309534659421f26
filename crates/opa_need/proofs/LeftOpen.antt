-- A goal whose needs, or whose questions, are all left open stays unknown.
use Rattle.std.proofs.Common.{◌≡◌, ℕ, Bool, true, false, ◌||◌, List, [], ◌∷◌, Some, refl, sym, ◌∙◌, ap, subst}
use Rattle.std.specs.List.{list_any, AllByRecursion}
use Rattle.opa_io.proofs.Numbers.{found_passes}
use Rattle.opa_date.specs.declared.TheConstants.{DAYS}
use Rattle.opa_value.specs.declared.value.Value.{Value}
use Rattle.opa_value.specs.declared.value.Value.TheVariants.{Unknown}
use Rattle.opa_value.specs.Truth.{is_unknown}
use Rattle.opa_model.specs.declared.ids.AttrId.{AttrId}
use Rattle.opa_cells.specs.Instances.{global, is_same}
use Rattle.opa_cells.proofs.Orders.{same_itself}
use Rattle.opa_case.specs.Cases.{CaseView, IsLive}
use Rattle.opa_case.specs.declared.question.Question.{Question}
use Rattle.opa_tree.specs.declared.rulebase.Rulebase.{Rulebase}
use Rattle.opa_window.specs.Days.{days}
use Rattle.opa_mean.specs.Given.{base_of, facts_of}
use Rattle.opa_mean.specs.Mean.{Facts}
use Rattle.opa_mean.specs.Needs.{IsOpen, needs_of}
use Rattle.opa_mean.specs.Next.{first_unknown, asked_at, question_of, relevant}
use Rattle.opa_mean.specs.Rulebases.{value_at}
use Rattle.opa_mean.specs.Sameness.{same_question}
use Rattle.opa_mean.specs.Uses.{Use, Point, Listed}
use Rattle.opa_mean.proofs.Exact.{question_exact}
use Rattle.opa_mean.proofs.LawsOver.{relevant_holds}
use Rattle.opa_mean.proofs.Unknowns.{unknown_is}
use Rattle.opa_need.specs.Completions.{OnlyNeedsDecide, OnlyTheseDecide, IsLeftOpen}
use Rattle.opa_need.specs.Finding.{IsFound, AreFound, added}
use Rattle.opa_need.proofs.Adding.{all_there, from_none}

first_is : (f : ℕ → Value) (d : ℕ) → Some d ≡ first_unknown DAYS f → f d ≡ Unknown
unfolding first_unknown
first_is f d e = unknown_is (f d) (found_passes (λ d. is_unknown (f d)) (days 0 DAYS) d (sym e))

global_lives : (c : CaseView) → IsLive c global
global_lives c = ap (λ b. b || list_any (λ p. is_same global p.0) c.live) (same_itself global)

pub only_needs_decide : (r : Rulebase) (c : CaseView) (a : AttrId) → OnlyNeedsDecide r c a
only_needs_decide r c a free d first c' more open_ = relevant_holds r c c' more a global d free (global_lives c) (first_is (value_at r c a global) d first) open_

module _ (c : Facts) where
  -- what is among questions that are all left open is open
  one_open : (u : Use) (qs : List Question) → AllByRecursion (IsLeftOpen c) qs → IsFound qs u → IsOpen c u
  one_open u [] all there = absurd (cc there)
  one_open u (q ∷ qs) all there = go (same_question (question_of u) q) refl there (one_open u qs all.1)
    where
      is_it : (u : Use) → IsLeftOpen c (question_of u) → IsOpen c u
      is_it (Point a i d) left = left d
      is_it (Listed r i) left = left

      go : (b : Bool) → same_question (question_of u) q ≡ b → (b || list_any (same_question (question_of u)) qs) ≡ true → (IsFound qs u → IsOpen c u) → IsOpen c u
      go true e h rest = is_it u (subst (IsLeftOpen c) (sym (question_exact (question_of u) q e)) all.0)
      go false e h rest = rest h

  all_open : (us : List Use) (qs : List Question) → AllByRecursion (IsLeftOpen c) qs → AreFound qs us → AllByRecursion (IsOpen c) us
  all_open [] qs all there = tt
  all_open (u ∷ us) qs all there = (one_open u qs all there.0, all_open us qs all there.1)

pub only_these_decide : (r : Rulebase) (c : CaseView) (a : AttrId) (qs : List Question) → qs ≡ relevant (base_of r) (facts_of c) a → OnlyTheseDecide r c a qs
only_these_decide r c a qs same free d first c' more left =
    let us = needs_of (base_of r) (facts_of c) a global d in
    let these : qs ≡ added [] us = same ∙ sym (ap (asked_at (base_of r) (facts_of c) a) first) ∙ sym (from_none us) in
    only_needs_decide r c a free d first c' more (all_open (facts_of c') us qs left (subst (λ found. AreFound found us) (sym these) (all_there [] us)))
